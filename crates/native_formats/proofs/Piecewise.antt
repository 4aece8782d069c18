-- A format, one piece after another.
use Rattle.std.proofs.Common.{◌≡◌, ℕ, suc, ◌+◌, ◌-◌, ◌<◌, ◌≤◌, ◌==◌, Bool, true, false, List, [], ◌∷◌, ◌++◌, length, Option, Some, None, refl, sym, ap, ◌∙◌, arith, append_assoc, append-nil}
use Rattle.std.specs.Prelude.{Result, Ok, Err}
use Rattle.fx8.specs.declared.fix_fault.FixFault.{FixFault}
use Rattle.mql_mean.specs.declared.value.Value.{Value}
use Rattle.mql_meaning.specs.Changes.{either}
use Rattle.mql_meaning.specs.Formats.{Form, before, form, format, formatted, in_width, joined, written}
use Rattle.native_formats.specs.Pieces.{Part, alone, conversion, first_part, with_argument}

-- a part, and then the others
abbrev with_others : ℕ → Part → Result (List ℕ) FixFault
with_others n p = joined p.text (formatted n p.rest p.values)

nothing_before : (r : Result (List ℕ) FixFault) → r ≡ before [] r
nothing_before (Ok s) = refl
nothing_before (Err e) = refl

abbrev by_argument : ℕ → Form → List Value → Result (List ℕ) FixFault
by_argument n f [] = formatted n f.rest []
by_argument n f (v ∷ vs) = joined (written f v) (formatted n f.rest vs)

argument : (n : ℕ) (f : Form) (vs : List Value) → by_argument n f vs ≡ with_others n (with_argument f vs)
argument n f [] = nothing_before (formatted n f.rest [])
argument n f (v ∷ vs) = refl

abbrev by_letter : ℕ → Form → List Value → Bool → Result (List ℕ) FixFault
by_letter n f vs true = before (in_width f false [] (37 ∷ [])) (formatted n f.rest vs)
by_letter n f vs false = by_argument n f vs

letter : (n : ℕ) (f : Form) (vs : List Value) (b : Bool) →
    by_letter n f vs b
    ≡ with_others n
    (either b (record { text = Ok (in_width f false [] (37 ∷ [])); rest = f.rest; values = vs }) (with_argument f vs))
letter n f vs true = refl
letter n f vs false = argument n f vs

abbrev by_form : ℕ → ℕ → List ℕ → List Value → Option Form → Result (List ℕ) FixFault
by_form n u us vs None = before (u ∷ []) (formatted n us vs)
by_form n u us vs (Some f) = by_letter n f vs (f.letter == 37)

followed : (n u : ℕ) (us : List ℕ) (vs : List Value) (o : Option Form) →
    by_form n u us vs o ≡ with_others n (conversion u us vs o)
followed n u us vs None = refl
followed n u us vs (Some f) = letter n f vs (f.letter == 37)

abbrev by_unit : ℕ → ℕ → List ℕ → List Value → Bool → Result (List ℕ) FixFault
by_unit n u us vs true = by_form n u us vs (form us)
by_unit n u us vs false = before (u ∷ []) (formatted n us vs)

unit : (n u : ℕ) (us : List ℕ) (vs : List Value) (b : Bool) →
    by_unit n u us vs b ≡ with_others n (either b (conversion u us vs (form us)) (alone u us vs))
unit n u us vs true = followed n u us vs (form us)
unit n u us vs false = refl

opened : (n u : ℕ) (us : List ℕ) (vs : List Value) → formatted (suc n) (u ∷ us) vs ≡ by_unit n u us vs (u == 37)
opened n u us vs = refl

-- the text of some units of a format, from its first part
abbrev from_part : ℕ → Option Part → Result (List ℕ) FixFault
from_part n None = Ok []
from_part n (Some p) = with_others n p

parted : (n : ℕ) (s : List ℕ) (vs : List Value) → formatted (suc n) s vs ≡ from_part n (first_part s vs)
parted n [] vs = refl
parted n (u ∷ us) vs = opened n u us vs ∙ unit n u us vs (u == 37)

left_units : (all i : ℕ) → i < all → all - i ≡ suc (all - (i + 1))
left_units all i h = omega (arith, h)

-- what is left, from its first part
from_here : (out s text : List ℕ) (vs : List Value) (i : ℕ) (o : Option Part) (all : Result (List ℕ) FixFault) →
    i < length text → o ≡ first_part s vs → before out (formatted (length text - i) s vs) ≡ all →
    before out (from_part (length text - (i + 1)) o) ≡ all
from_here out s text vs i o all h e is =
    ap (λ (p : Option Part). before out (from_part (length text - (i + 1)) p)) e
    ∙ sym (ap (before out) (ap (λ (n : ℕ). formatted n s vs) (left_units (length text) i h)
    ∙ parted (length text - (i + 1)) s vs)) ∙ is

-- before the first piece
pub begun : (out text : List ℕ) (vs : List Value) → out ≡ [] →
    before out (formatted (length text - 0) text vs) ≡ format text vs
begun out text vs e =
    let all : length text - 0 ≡ length text = omega arith in
    ap (λ (n : ℕ). before out (formatted n text vs)) all
    ∙ ap (λ (s : List ℕ). before s (formatted (length text) text vs)) e
    ∙ sym (nothing_before (formatted (length text) text vs))

-- no piece is left
pub no_piece : (out s text : List ℕ) (vs : List Value) (i : ℕ) (o : Option Part) (all : Result (List ℕ) FixFault) →
    i < length text → o ≡ None → o ≡ first_part s vs → before out (formatted (length text - i) s vs) ≡ all →
    Ok out ≡ all
no_piece out s text vs i o all h n e is =
    ap Ok (sym (append-nil out)) ∙ sym (ap (λ (p : Option Part). before out (from_part (length text - (i + 1)) p)) n)
    ∙ from_here out s text vs i o all h e is

-- a piece that is a fault
pub faulty : (out s text : List ℕ) (vs : List Value) (i : ℕ) (p : Part) (fault : FixFault)
    (all : Result (List ℕ) FixFault) → i < length text → Some p ≡ first_part s vs → Err fault ≡ p.text →
    before out (formatted (length text - i) s vs) ≡ all → Err fault ≡ all
faulty out s text vs i p fault all h e f is =
    ap (λ (r : Result (List ℕ) FixFault). before out (joined r (formatted (length text - (i + 1)) p.rest p.values))) f
    ∙ from_here out s text vs i (Some p) all h e is

behind : (out t : List ℕ) (r : Result (List ℕ) FixFault) → before (out ++ t) r ≡ before out (before t r)
behind out t (Ok s) = ap Ok (append_assoc out t s)
behind out t (Err e) = refl

-- a piece that is written
pub one_piece : (out more s t text : List ℕ) (vs : List Value) (i : ℕ) (p : Part) (all : Result (List ℕ) FixFault) →
    i < length text → Some p ≡ first_part s vs → Ok t ≡ p.text → more ≡ out ++ t →
    before out (formatted (length text - i) s vs) ≡ all →
    before more (formatted (length text - (i + 1)) p.rest p.values) ≡ all
one_piece out more s t text vs i p all h e f m is =
    ap (λ (o : List ℕ). before o (formatted (length text - (i + 1)) p.rest p.values)) m
    ∙ behind out t (formatted (length text - (i + 1)) p.rest p.values)
    ∙ ap (λ (r : Result (List ℕ) FixFault). before out (joined r (formatted (length text - (i + 1)) p.rest p.values))) f
    ∙ from_here out s text vs i (Some p) all h e is

-- as many pieces as there may be
pub all_pieces : (out more s text : List ℕ) (vs : List Value) (i : ℕ) (all : Result (List ℕ) FixFault) →
    length text ≤ i → more ≡ out ++ s → before out (formatted (length text - i) s vs) ≡ all → Ok more ≡ all
all_pieces out more s text vs i all h m is =
    let none : length text - i ≡ 0 = omega (arith, h) in
    ap Ok m ∙ sym (ap (λ (n : ℕ). before out (formatted n s vs)) none) ∙ is
