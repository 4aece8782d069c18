-- What the code's map of parents holds. (No definition for readers.)
use Rattle.std.specs.Prelude.{◌≡◌, List, Option}
use Rattle.std.specs.Option.{option_copied}
use Rattle.std.specs.Ordering.{nat_cmp}
use Rattle.std.specs.Cmp.Lexicographic.{slice_cmp}
use Rattle.std.specs.BTreeMap.{BTreeMap, get_by}
use Rattle.std.specs.Borrow.{Bor}
use Rattle.mql_names.specs.Scopes.{Name}
use Rattle.mql_parents.specs.Parents.{Derived, parent_among}

-- the parent that a map has under a name
unfoldable pub parent_at : BTreeMap (Bor Name) (Bor Name) → Name → Option Name
parent_at m q = option_copied (get_by (λ k. slice_cmp nat_cmp q k.now) m)

-- the map holds the parents of structures
pub record Holds (m : BTreeMap (Bor Name) (Bor Name)) (ds : List Derived) : Type 0 where
  pub is : (q : Name) → parent_at m q ≡ parent_among ds q
