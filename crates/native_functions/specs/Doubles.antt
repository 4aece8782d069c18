-- Native functions that give a double.
use Rattle.std.specs.Prelude.{ℤ}
use Rattle.mql_meaning.specs.Changes.{Change, ◌>>=◌}
use Rattle.mql_meaning.specs.Natives.{NativeDone, gives_double}

-- the value is the double that a change gives
abbrev pub as_double : Change ℤ → Change NativeDone
as_double f = f >>= gives_double
