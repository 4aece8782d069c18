-- Whether a macro of a name is in force, by the last of that name.
use Rattle.std.proofs.Common.{◌≡◌, ℕ, Bool, true, false, cond, bytes_eq, List, [], ◌∷◌, refl, ap, ◌∙◌, Option, Some, None}
use Rattle.std.specs.Prelude.{not, filter}
use Rattle.std.specs.Option.{is_some}
use Rattle.mql_macros.specs.declared.piece.Macro.{Macro}
use Rattle.mql_macros.specs.Looks.{counted, last_named}
use Rattle.mql_preproc.specs.Conditions.{is_defined, without}

counted_some : (b : Bool) (o : Option ℕ) → cond b true (is_some o) ≡ is_some (counted b o)
counted_some true None = refl
counted_some false None = refl
counted_some true (Some n) = refl
counted_some false (Some n) = refl

pub defined_is_found : (name : List ℕ) (ms : List Macro) → is_defined name ms ≡ is_some (last_named name ms)
defined_is_found name [] = refl
defined_is_found name (m ∷ ms) =
    ap (λ (b : Bool). cond (bytes_eq m.name name) true b) (defined_is_found name ms)
    ∙ counted_some (bytes_eq m.name name) (last_named name ms)

-- where no macro has the name, none is taken out
pub none_without : (name : List ℕ) (ms : List Macro) → is_defined name ms ≡ false → without name ms ≡ ms
unfolding without
none_without name [] h = refl
none_without name (m ∷ ms) h =
    (elim (bytes_eq m.name name) as (λ b. cond b true (is_defined name ms) ≡ false → cond (not b) (m ∷ filter (λ (x : Macro). not (bytes_eq x.name name)) ms) (filter (λ (x : Macro). not (bytes_eq x.name name)) ms) ≡ m ∷ ms) [
      | true ↦ λ e. absurd cc
      | false ↦ λ e. ap (λ (xs : List Macro). m ∷ xs) (none_without name ms e)
    ]) h
