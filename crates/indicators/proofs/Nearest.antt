-- A rounded quotient is at most a whole number that the quotient is at most.
use Rattle.std.proofs.Common.{ℕ, ◌≤◌, ◌<◌, ◌*◌, arith}
use Rattle.fx8.specs.Rounding.{IsNearest}

pub nearest_most : (n q k m : ℕ) → IsNearest n q k → n ≤ m * q → 0 < q → k ≤ m
nearest_most n q k m near below some = grind (arith, near.low)
