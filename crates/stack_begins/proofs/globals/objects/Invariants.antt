use Rattle.std.specs.Prelude.{◌≡◌, true, drop}
use Rattle.mql_meaning.specs.Frames.{global_place}
use Rattle.mql_meaning.specs.Objects.{for_all, new_object}
use Rattle.stack_begins.proofs.globals.objects.Given as goal

abbrev pub invariant-loop-t : goal.invariant-loop-t
invariant-loop-t l =
    (for_all (new_object l.classes true) global_place 0 l.globals l.fn.store
    ≡ for_all (new_object l.classes true) global_place l.i (drop l.t-index l.globals) l.store)
    × (l.i ≡ l.t-index)
