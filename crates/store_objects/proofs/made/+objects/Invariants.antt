use Rattle.std.specs.Prelude.{◌≡◌, ◌*◌, ◌+◌, true, drop}
use Rattle.mql_meaning.specs.Objects.{field_at, for_all, make}
use Rattle.store_objects.proofs.made.+objects.Given as goal

abbrev pub decreases-make : goal.decreases-make
decreases-make l = 5 * l.deep

abbrev pub decreases-for_variable : goal.decreases-for_variable
decreases-for_variable l = 5 * l.deep + 1

abbrev pub decreases-for_field : goal.decreases-for_field
decreases-for_field l = 5 * l.deep + 2

abbrev pub decreases-for_fields : goal.decreases-for_fields
decreases-for_fields l = 5 * l.deep + 3

abbrev pub decreases-with_fields : goal.decreases-with_fields
decreases-with_fields l = 5 * l.deep + 4

abbrev pub invariant-for_fields-loop-t : goal.invariant-for_fields-loop-t
invariant-for_fields-loop-t l =
    (for_all (make l.deep l.classes true) (field_at l.serial) 0 l.types l.fn.store
    ≡ for_all (make l.deep l.classes true) (field_at l.serial) l.i (drop l.t-index l.types) l.store)
    × (l.i ≡ l.t-index)
