-- What a test without an account is asked, by the native function that is called (own).
use Rattle.std.specs.Prelude.{Option, Some, None}
use Rattle.natives.specs.declared.native.Native.{Native}
use Rattle.natives.specs.declared.native.Native.TheVariants as natives
use Rattle.tester_world.specs.declared.asked.Asked.{Asked}
use Rattle.tester_world.specs.declared.asked.Asked.TheVariants as asks

-- without a native function the last error is set; an account and a market are missing
abbrev pub asked_by : Option Native → Asked
asked_by None = asks.SetLastError
asked_by (Some natives.Print) = asks.Print
asked_by (Some natives.PrintFormat) = asks.PrintFormat
asked_by (Some natives.MathRand) = asks.MathRand
asked_by (Some natives.MathSrand) = asks.MathSrand
asked_by (Some natives.TimeCurrent) = asks.Time
asked_by (Some natives.TimeLocal) = asks.Time
asked_by (Some natives.TimeGMT) = asks.Time
asked_by (Some natives.ExpertRemove) = asks.ExpertRemove
asked_by (Some natives.GetLastError) = asks.GetLastError
asked_by (Some natives.ResetLastError) = asks.ResetLastError
asked_by (Some natives.Symbol) = asks.Symbol
asked_by (Some natives.Period) = asks.Period
asked_by (Some natives.UninitializeReason) = asks.UninitializeReason
asked_by (Some natives.MQLInfoInteger) = asks.MqlInfoInteger
asked_by (Some _) = asks.Missing
