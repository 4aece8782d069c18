-- Parts of lists of cells.
use Rattle.std.proofs.Common.{◌≡◌, ℕ, ◌-◌, ◌≤◌, List, [], length, take, drop, arith, take_all, length-drop, drop_of_length-le}
use Rattle.mql_meaning.specs.declared.cell.Cell.{Cell}

pub behind_is : (place : ℕ) (cs : List Cell) → take (length cs - place) (drop place cs) ≡ drop place cs
behind_is place cs = take_all (length cs - place) (drop place cs) (omega (arith, length-drop place cs))

pub behind_end : (place : ℕ) (cs : List Cell) → length cs ≤ place → drop place cs ≡ []
behind_end place cs h = drop_of_length-le cs h
