use Rattle.std.specs.Prelude.{◌≡◌, drop, map}
use Rattle.mql_meaning.specs.Calls.{places_in}
use Rattle.store_frames.specs.Operands.{shown}
use Rattle.native_calls.specs.Written.{put_counted}
use Rattle.native_calls.proofs.writing.put_counted.Given as goal

abbrev pub invariant-loop-operand : goal.invariant-loop-operand
invariant-loop-operand l =
    put_counted (places_in (map shown l.operands)) l.fn.counts l.fn.news l.initial.store
    ≡ put_counted (places_in (map shown (drop l.operand-index l.operands))) l.olds l.rest l.store
