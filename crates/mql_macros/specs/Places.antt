-- Where the code's map of names says that the last macro of a name stands. (No definition for readers.)
use Rattle.std.specs.Prelude.{◌≡◌, ℕ, List, Option}
use Rattle.std.specs.Ordering.{nat_cmp}
use Rattle.std.specs.Cmp.Lexicographic.{slice_cmp}
use Rattle.std.specs.BTreeMap.{BTreeMap, get_by}
use Rattle.std.specs.Global.{Vec}
use Rattle.mql_macros.specs.declared.piece.Macro.{Macro}
use Rattle.mql_macros.specs.Looks.{last_named}

unfoldable pub place_in : BTreeMap (Vec ℕ) ℕ → List ℕ → Option ℕ
place_in places q = get_by (λ k. slice_cmp nat_cmp q k.items) places

-- the map tells the number of the last macro of each name
pub record ArePlaces (places : BTreeMap (Vec ℕ) ℕ) (macros : List Macro) : Type 0 where
  pub tells : (q : List ℕ) → place_in places q ≡ last_named q macros
