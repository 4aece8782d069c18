-- Locals that begin anew.
use Rattle.std.specs.Prelude.{ℕ, List}
use Rattle.mql_meaning.specs.declared.tree.Class.{Class}
use Rattle.mql_meaning.specs.declared.types.VarType.{VarType}
use Rattle.mql_meaning.specs.Changes.{Change, ◌>>=◌}
use Rattle.mql_meaning.specs.Frames.{reset_one}
use Rattle.mql_meaning.specs.Places.{local_place}

-- a local of the call in force begins anew
abbrev pub reset_local : List Class → ℕ → VarType → Change (Unit {0})
reset_local classes local t = local_place local >>= λ p. reset_one classes t p
