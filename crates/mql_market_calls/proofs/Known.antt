-- Names, as the code has them, are those of the program.
use Rattle.std.proofs.Common.{◌≡◌, List, flat_map}
use Rattle.std.specs.BTreeMap.{BTreeMap}
use Rattle.std.specs.Borrow.{Bor}
use Rattle.mql_syntax.specs.declared.declaration.Item.{Item}
use Rattle.mql_names.specs.declared.types.Meaning.{Meaning}
use Rattle.mql_names.specs.Scopes.{Name}
use Rattle.mql_names.specs.Maps.{meaning, Means}
use Rattle.mql_names.specs.Meanings.{names_of, item_meanings}

pub names_known : (m : BTreeMap (Bor Name) Meaning) (items : List Item) → Means m (flat_map item_meanings items) → meaning m ≡ names_of items
names_known m items h = λ i q. h.is q i
