-- Texts whose bytes all pass a test.
use Rattle.std.proofs.Common.{◌≡◌, ℕ, true, List, [], ◌∷◌, arith}
use Rattle.std.specs.Prelude.{All}
use Rattle.std.proofs.lemmas.List.Elements.{All-nil, All-cons}
use Rattle.std.proofs.lemmas.Bool.{and_parts}
use Rattle.std.proofs.lemmas.Bool.Decides.{nat_tests}
use Rattle.market_types.specs.Ranges.{IsNameCharacter}
use Rattle.tester_settings.specs.Ranges.{IsLetter}
use Rattle.settings_file.specs.Keys.{all_of, is_visible, is_latin_letter}

visible_is : (b : ℕ) → is_visible b ≡ true → IsNameCharacter b
visible_is b h = grind (arith, nat_tests)

letter_is : (b : ℕ) → is_latin_letter b ≡ true → IsLetter b
letter_is b h = grind (arith, nat_tests)

pub visible_all : (text : List ℕ) → all_of is_visible text ≡ true → All IsNameCharacter text
visible_all [] h = All-nil IsNameCharacter
visible_all (b ∷ text) h = let p = and_parts _ _ h in All-cons IsNameCharacter b text (visible_is b p.0) (visible_all text p.1)

pub letters_all : (text : List ℕ) → all_of is_latin_letter text ≡ true → All IsLetter text
letters_all [] h = All-nil IsLetter
letters_all (b ∷ text) h = let p = and_parts _ _ h in All-cons IsLetter b text (letter_is b p.0) (letters_all text p.1)
