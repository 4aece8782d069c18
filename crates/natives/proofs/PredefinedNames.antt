-- Each is found by its spelling.
use Rattle.std.proofs.Common.{◌≡◌, ℕ, List, refl, ap, ◌∙◌, Some, ◌↔◌}
use Rattle.natives.specs.declared.predefined.Predefined.{Predefined}
use Rattle.natives.specs.declared.predefined.Predefined.TheVariants as predefineds
use Rattle.natives.specs.declared.predefined.TheConstants.{PREDEFINEDS}
use Rattle.natives.specs.Structures.{predefined_spelling, predefined_named}
use Rattle.mql_spelling.proofs.Spelled.{found_by}

pub found : (predefined : Predefined) → predefined_named (predefined_spelling predefined) ≡ Some predefined
unfolding predefined_spelling predefined_named
found predefineds.File = refl
found predefineds.Line = refl
found predefineds.Function = refl
found predefineds.Symbol = refl
found predefineds.Period = refl
found predefineds.Point = refl
found predefineds.Digits = refl
found predefineds.Lasterror = refl

-- a text is the name of one exactly where it is its spelling
pub by_spelling : (us : List ℕ) (predefined : Predefined) → (predefined_named us ≡ Some predefined) ↔ (us ≡ predefined_spelling predefined)
unfolding predefined_named
by_spelling us predefined = (found_by predefined_spelling PREDEFINEDS us predefined, λ e. ap predefined_named e ∙ found predefined)
