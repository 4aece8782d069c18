-- What a native function comes to, before it is written to its reference arguments.
use Rattle.std.specs.Prelude.{false, List, [], ◌∷◌, ◌++◌, map, Option, Some, None}
use Rattle.natives.specs.declared.native.Native.{Native}
use Rattle.natives.specs.Names.{native_number}
use Rattle.mql_mean.specs.declared.host.HostCall.{HostCall}
use Rattle.mql_mean.specs.declared.value.Value.{Value}
use Rattle.mql_mean.specs.Answer.{Answer, Replied, Refused}
use Rattle.mql_meaning.specs.declared.cell.Cell.{Cell}
use Rattle.mql_meaning.specs.declared.place.Place.{Place}
use Rattle.mql_meaning.specs.Changes as changes
use Rattle.mql_meaning.specs.Changes.{Change, Failed, Stopped, line_of, top}
use Rattle.mql_meaning.specs.Cells.{weight}
use Rattle.mql_meaning.specs.Operands.{Operand}
use Rattle.mql_meaning.specs.Natives.{Argument, NativeDone, computes}
use Rattle.mql_meaning.specs.Runs.{world, End, Act, ◌>>=◌, ◌>>◌, pure, halt, change, choose}
use Rattle.mql_meaning.specs.Calls.{asks, fits, host_call, places_in, tells, values_of}
use Rattle.native_calls.specs.declared.outcome.Fitting.{Fitting}
use Rattle.native_calls.specs.declared.outcome.Outcome.{Outcome}
use Rattle.native_calls.specs.Lent.{cells_in, lends}
use Rattle.native_calls.specs.Written.{put_counted}

-- a reply that the call may give, and one that it may not give, which stops the run
abbrev pub fitted : Option (List Cell) → Value → Act Fitting
fitted None v = halt Stopped
fitted (Some news) v = pure (record { value = v; news = news })

-- the call is made: the next answer, or none, which stops the run; an error ends it at the line in force
abbrev pub judged_by : Option Native → HostCall → List Cell → List Answer → Act Fitting
judged_by f c cs [] n w = End Stopped n (world w.store (w.calls ++ c ∷ []) [])
judged_by f c cs (Replied r ∷ answers) n w =
    fitted (fits f r cs) r.value n (world w.store (w.calls ++ c ∷ []) answers)
judged_by f c cs (Refused kind ∷ answers) n w =
    End (Failed kind (line_of (top w.store))) n (world w.store (w.calls ++ c ∷ []) answers)

unfoldable pub judged : Option Native → HostCall → List Cell → Act Fitting
judged f c cs n w = judged_by f c cs w.answers n w

-- what a reply comes to
abbrev pub of_reply : List Cell → Fitting → Outcome
of_reply cs r = record { value = r.value; news = r.news; counts = map weight cs; out_of_range = false }

-- what is computed
abbrev pub of_done : List Cell → NativeDone → Outcome
of_done cs d =
    record { value = d.value; news = d.outs; counts = map weight cs; out_of_range = d.out_of_range }

-- a native function asks the world
unfoldable pub asked : Native → List Argument → Act Outcome
asked f args = do
  r ← judged (Some f) (host_call (native_number f) (values_of args) (cells_in args)) (cells_in args)
  pure (of_reply (cells_in args) r)

-- a native function computes
abbrev pub computed : Native → List Argument → Change Outcome
computed f args store =
    changes.after (computes f args store) (λ d. changes.give (of_done (cells_in args) d))

-- what a native function comes to with arguments
unfoldable pub comes_to : Native → List Argument → Act Outcome
comes_to f args = choose (asks f) (asked f args) (change (computed f args))

-- what a native function comes to with operands
unfoldable pub outcome : Native → List Operand → Act Outcome
outcome f xs = change (lends xs) >>= λ args. comes_to f args

-- it is written, and the last error is told
unfoldable pub ends_with : List Place → Outcome → Act Value
ends_with ps o = do
  change (put_counted ps o.counts o.news)
  tells o.out_of_range
  pure o.value

-- a native function over lent arguments
unfoldable pub runs_lent : Native → List Operand → Act Value
runs_lent f xs = outcome f xs >>= λ o. ends_with (places_in xs) o
