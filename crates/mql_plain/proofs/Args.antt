-- The arguments of a type.
use Rattle.std.proofs.Common.{◌≡◌, ℕ, Bool, List, [], ◌∷◌, refl, sym, ap, ◌∙◌}
use Rattle.mql_syntax.specs.declared.kind.Place.{Place}
use Rattle.mql_syntax.specs.declared.value.TypeUse as type_use
use Rattle.mql_syntax.specs.declared.value.TypeUse.{TypeUse, out-TypeUse, roll-TypeUse, roll-out-TypeUse, Row_of-TypeUse, end_of-TypeUse, more_of-TypeUse, items-the_row-TypeUse, items_hidden-the_row-TypeUse-0}
use Rattle.mql_syntax.specs.declared.value.TypeUse.TheOpen.{TypeUse-F}
use Rattle.mql_syntax.specs.declared.value.TypeUse.TheVariants as types
use mathlib.Core.Former.{Count}
use denote.Hole.Carrier.{roll}
use Rattle.mql_plain.specs.Plain.{list_of, args_of}

abbrev args_in : TypeUse-F TypeUse → List TypeUse
args_in (TypeUse-F.Named place x pointer args) = args

abbrev pub type_args : TypeUse → List TypeUse
type_args t = args_in (out-TypeUse t)

of_row : (n : _) (row : Row_of-TypeUse n) → list_of row ≡ items-the_row-TypeUse n row
of_row n end_of-TypeUse = refl
of_row n (more_of-TypeUse t ts) = ap (λ us. t ∷ us) (of_row _ ts)

abbrev type_row : TypeUse → (n : Count) × Row_of-TypeUse n
type_row (type_use.Named' place x pointer _ row) = (_, row)

of_node : (p : Place) (x : List ℕ) (pointer : Bool) (args : List TypeUse) → args_of (types.Named p x pointer args) ≡ args
of_node p x pointer args =
    let row = type_row (types.Named p x pointer args) in
    of_row row.0 row.1 ∙ items_hidden-the_row-TypeUse-0 args

of_rolled : (w : TypeUse-F TypeUse) → args_of (roll-TypeUse w) ≡ args_in w
unfolding roll-TypeUse denote.Hole.Carrier.roll
of_rolled (TypeUse-F.Named p x pointer args) = of_node p x pointer args

pub args_are : (t : TypeUse) → type_args t ≡ args_of t
args_are t = sym (ap args_of (sym (roll-out-TypeUse t)) ∙ of_rolled (out-TypeUse t))
