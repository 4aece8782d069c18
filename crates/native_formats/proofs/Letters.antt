-- Units that are no letters.
use Rattle.std.proofs.Common.{◌≡◌, ℕ, ◌==◌, false, codes, refl, arith}
use Rattle.mql_meaning.specs.Formats.{among}

other : (u k : ℕ) → (u ≡ k → ⊥) → (u == k) ≡ false
other u k h = grind (arith, h)

pub no_letter : (u : ℕ) → (u ≡ 100 → ⊥) → (u ≡ 105 → ⊥) → (u ≡ 117 → ⊥) → (u ≡ 120 → ⊥) → (u ≡ 88 → ⊥)
    → (u ≡ 99 → ⊥) → (u ≡ 115 → ⊥) → (u ≡ 102 → ⊥) → (u ≡ 37 → ⊥) → among u (codes "diuxXcsf%") ≡ false
no_letter u d i v x y c s f p =
    rw (
      other u 100 d,
      other u 105 i,
      other u 117 v,
      other u 120 x,
      other u 88 y,
      other u 99 c,
      other u 115 s,
      other u 102 f,
      other u 37 p,
    ) refl
