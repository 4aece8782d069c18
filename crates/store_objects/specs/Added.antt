-- Objects that are added to the store.
use Rattle.std.specs.Prelude.{ℕ, true, List, [], ◌∷◌, ◌++◌}
use Rattle.mql_meaning.specs.declared.store.Object.{Object}
use Rattle.mql_meaning.specs.declared.tree.Class.{Class}
use Rattle.mql_meaning.specs.declared.types.VarType.{VarType}
use Rattle.mql_meaning.specs.Changes.{Change, ◌>>=◌, ◌>>◌, becomes, give, the_store}
use Rattle.mql_meaning.specs.Objects.{field_at, for_all, make}

-- an object more, and so many cells in use
abbrev pub adds : Object → ℕ → Change ℕ
adds o n = do
  store ← the_store
  becomes (record store { heap = store.heap ++ o ∷ []; last = o.serial; cells = n })
  give o.serial

-- objects for the fields of an object, whose serial is given
abbrev pub with_fields : ℕ → List Class → List VarType → ℕ → Change ℕ
with_fields deep classes types serial =
    for_all (make deep classes true) (field_at serial) 0 types >> give serial
