-- What the code's maps hold. (No definition for readers.)
use Rattle.std.specs.Prelude.{◌≡◌, Bool, false, List, Option, unwrap_or}
use Rattle.std.specs.Ordering.{nat_cmp}
use Rattle.std.specs.Cmp.Lexicographic.{slice_cmp}
use Rattle.std.specs.BTreeMap.{BTreeMap, get_by}
use Rattle.std.specs.Borrow.{Bor}
use Rattle.mql_names.specs.declared.types.Meaning.{Meaning}
use Rattle.mql_names.specs.declared.scope.Named.{Named}
use Rattle.mql_names.specs.declared.scope.Taken.{Taken}
use Rattle.mql_names.specs.Meanings.{Meant, meant}
use Rattle.mql_names.specs.Scopes.{Name, is_among, all_names, plain_names, forms}

-- a name is in a set
unfoldable pub has : BTreeMap (Bor Name) Bool → Name → Bool
has m q = unwrap_or (get_by (λ k. slice_cmp nat_cmp q k.now) m) false

-- the sets hold what was declared before
pub record Holds (t : Taken) (before : List Named) : Type 0 where
  pub in_all : (q : Name) → has t.all q ≡ is_among q (all_names before)
  pub in_plain : (q : Name) → has t.plain q ≡ is_among q (plain_names before)
  pub in_forms : (q : Name) → has t.forms q ≡ is_among q (forms before)

-- what a name means
unfoldable pub meaning : BTreeMap (Bor Name) Meaning → Name → Option Meaning
meaning m q = get_by (λ k. slice_cmp nat_cmp q k.now) m

-- the map holds what names mean
pub record Means (m : BTreeMap (Bor Name) Meaning) (ms : List Meant) : Type 0 where
  pub is : (q : Name) → meaning m q ≡ meant ms q
