-- Lists that show their spare room, for calls that take no memory.
use Rattle.std.specs.Prelude.{ℕ, List}

-- a list, and for how many more items it has room without taking memory
pub record Roomy : Type 0 where
  pub items : List ℕ
  pub spare : ℕ
