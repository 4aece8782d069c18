-- The name EURUSD is that of a symbol.
use Rattle.std.proofs.Common.{◌≡◌, ℕ, List, [], ◌∷◌, arith}
use Rattle.std.proofs.lemmas.List.Elements.{All-cons}
use Rattle.market_types.specs.Ranges.{IsSymbolName, IsNameCharacter}

six_letters : IsSymbolName (69 ∷ 85 ∷ 82 ∷ 85 ∷ 83 ∷ 68 ∷ [])
six_letters = record {
  some = omega arith;
  few = omega arith;
  characters =
      All-cons IsNameCharacter 69 (85 ∷ 82 ∷ 85 ∷ 83 ∷ 68 ∷ []) (omega arith, omega arith)
      (All-cons IsNameCharacter 85 (82 ∷ 85 ∷ 83 ∷ 68 ∷ []) (omega arith, omega arith)
      (All-cons IsNameCharacter 82 (85 ∷ 83 ∷ 68 ∷ []) (omega arith, omega arith)
      (All-cons IsNameCharacter 85 (83 ∷ 68 ∷ []) (omega arith, omega arith)
      (All-cons IsNameCharacter 83 (68 ∷ []) (omega arith, omega arith)
      (All-cons IsNameCharacter 68 [] (omega arith, omega arith) (λ k d small. absurd (omega (arith, small))))))));
}

pub eurusd_named : (name : List ℕ) → name ≡ 69 ∷ 85 ∷ 82 ∷ 85 ∷ 83 ∷ 68 ∷ [] → IsSymbolName name
eurusd_named name e = rw e six_letters
