-- Each is found by its spelling.
use Rattle.std.proofs.Common.{◌≡◌, ℕ, List, refl, ap, ◌∙◌, Some, ◌↔◌}
use Rattle.natives.specs.declared.short_name.ShortName.{ShortName}
use Rattle.natives.specs.declared.short_name.ShortName.TheVariants as shorts
use Rattle.natives.specs.declared.short_name.TheConstants.{SHORTS}
use Rattle.natives.specs.Names.{short_spelling, short_named}
use Rattle.mql_spelling.proofs.Spelled.{found_by}

pub found : (short : ShortName) → short_named (short_spelling short) ≡ Some short
unfolding short_spelling short_named
found shorts.Fabs = refl
found shorts.Fmax = refl
found shorts.Fmin = refl
found shorts.Floor = refl
found shorts.Ceil = refl
found shorts.Round = refl
found shorts.Sqrt = refl
found shorts.Fmod = refl
found shorts.Pow = refl
found shorts.Rand = refl
found shorts.Srand = refl
found shorts.Printf = refl

-- a text is the name of one exactly where it is its spelling
pub by_spelling : (us : List ℕ) (short : ShortName) → (short_named us ≡ Some short) ↔ (us ≡ short_spelling short)
unfolding short_named
by_spelling us short = (found_by short_spelling SHORTS us short, λ e. ap short_named e ∙ found short)
