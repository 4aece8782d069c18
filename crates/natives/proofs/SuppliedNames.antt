-- Each is found by its spelling.
use Rattle.std.proofs.Common.{◌≡◌, ℕ, List, refl, ap, ◌∙◌, Some, ◌↔◌}
use Rattle.natives.specs.declared.supplied.SuppliedType.{SuppliedType}
use Rattle.natives.specs.declared.supplied.SuppliedType.TheVariants as supplieds
use Rattle.natives.specs.declared.supplied.TheConstants.{SUPPLIEDS}
use Rattle.natives.specs.Structures.{supplied_spelling, supplied_named}
use Rattle.mql_spelling.proofs.Spelled.{found_by}

pub found : (supplied : SuppliedType) → supplied_named (supplied_spelling supplied) ≡ Some supplied
unfolding supplied_spelling supplied_named
found supplieds.MqlTradeRequest = refl
found supplieds.MqlTradeResult = refl
found supplieds.MqlTick = refl
found supplieds.MqlRates = refl
found supplieds.MqlDateTime = refl
found supplieds.EnumTimeframes = refl
found supplieds.EnumMaMethod = refl
found supplieds.EnumAppliedPrice = refl
found supplieds.EnumTradeRequestActions = refl
found supplieds.EnumOrderType = refl
found supplieds.EnumOrderTypeFilling = refl
found supplieds.EnumOrderTypeTime = refl
found supplieds.EnumPositionType = refl
found supplieds.EnumDealType = refl
found supplieds.EnumDealEntry = refl

-- a text is the name of one exactly where it is its spelling
pub by_spelling : (us : List ℕ) (supplied : SuppliedType) → (supplied_named us ≡ Some supplied) ↔ (us ≡ supplied_spelling supplied)
unfolding supplied_named
by_spelling us supplied = (found_by supplied_spelling SUPPLIEDS us supplied, λ e. ap supplied_named e ∙ found supplied)
