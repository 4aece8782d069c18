-- What holds of all passes (own).
use Rattle.std.specs.Prelude.{◌≡◌, All, List}
use Rattle.mql_mean.specs.declared.host.HostCall.{HostCall}
use Rattle.mql_mean.specs.Answer.{Answer}
use Rattle.mql_meaning.specs.declared.store.SetInput.{SetInput}
use Rattle.mql_meaning.specs.declared.tree.Checked.{Checked}
use Rattle.market_types.specs.declared.quote.Quote.{Quote}
use Rattle.report.specs.Times.{IsReportTime}
use Rattle.tester_pass.specs.declared.result.PassResult.{PassResult}
use Rattle.tester_world.specs.declared.printed.Printed.{Printed}
use Rattle.tester_pass.specs.Pass.{Stage, Passes, of_source}

-- a pass of a source comes to one result
abbrev pub OneOutcome : Type 0
OneOutcome =
    (p : Checked) (set : List SetInput) (quotes : List Quote) (r r' : PassResult)
    → Passes (of_source p) set quotes r → Passes (of_source p) set quotes r' → r ≡ r'

-- what a world answers, and what it is then, is a function of what was asked
abbrev pub IsFunction : {W : Type 0} → (W → HostCall → Answer → W → Type 0) → Type 0
IsFunction {W} may =
    (w : W) (call : HostCall) (a b : Answer) (to to' : W) → may w call a to → may w call b to'
    → (a ≡ b) × (to ≡ to')

-- lines that have times of the years 1970 to 2999, as a report may have them
abbrev pub InTime : PassResult → Type 0
InTime r = All (λ (printed : Printed). IsReportTime printed.time_ms) r.prints

abbrev pub StandsInTime : Stage → Type 0
StandsInTime s =
    IsReportTime s.state.time × All (λ (printed : Printed). IsReportTime printed.time_ms) s.state.prints
