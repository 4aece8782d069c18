-- What is lent so far, and what follows.
use Rattle.std.specs.Prelude.{List, ◌++◌}
use Rattle.mql_meaning.specs.Changes.{Out, after, give}
use Rattle.mql_meaning.specs.Natives.{Argument}

-- arguments before those that a change gives
abbrev pub ahead : List Argument → Out (List Argument) → Out (List Argument)
ahead args out = after out (λ more. give (args ++ more))
