-- Pieces of the report, one after another.
use Rattle.std.proofs.Common.{◌≡◌, ℕ, List, [], ◌∷◌, ◌++◌, Result, Ok, Err, refl, sym, ap, ◌∙◌, append_assoc, append-nil}
use Rattle.std.specs.Prelude.{OnOk}
use Rattle.tester_world.specs.declared.printed.Printed.{Printed}
use Rattle.tester_world.specs.Journal.{shown_text}
use Rattle.tester_cli.specs.Report.{IsPrintLine, ArePrintLines}
use Rattle.report.specs.Times.{IsTimeText}
use Rattle.report.specs.Pieces.{Appends}

pub two_pieces : {E : Type 0} (r : Result (Unit {0}) E) (old d1 d2 a b : List ℕ) → d1 ≡ old ++ a → OnOk r (d2 ≡ d1 ++ b) → OnOk r (d2 ≡ old ++ (a ++ b))
two_pieces (Ok u) old d1 d2 a b e f = f ∙ ap (λ d. d ++ b) e ∙ append_assoc old a b
two_pieces (Err x) old d1 d2 a b e f = f

pub three_pieces : {E : Type 0} (r : Result (Unit {0}) E) (old d1 d2 d3 a b c : List ℕ) → d1 ≡ old ++ a → d2 ≡ d1 ++ b → OnOk r (d3 ≡ d2 ++ c) → OnOk r (d3 ≡ old ++ ((a ++ b) ++ c))
three_pieces r old d1 d2 d3 a b c e f g = two_pieces r old d2 d3 (a ++ b) c (f ∙ ap (λ d. d ++ b) e ∙ append_assoc old a b) g

pub five_pieces : {E : Type 0} (r : Result (Unit {0}) E) (old d1 d2 d3 d4 d5 a b c d e : List ℕ) → d1 ≡ old ++ a → d2 ≡ d1 ++ b → d3 ≡ d2 ++ c → d4 ≡ d3 ++ d → OnOk r (d5 ≡ d4 ++ e) → OnOk r (d5 ≡ old ++ ((((a ++ b) ++ c) ++ d) ++ e))
five_pieces r old d1 d2 d3 d4 d5 a b c d e p1 p2 p3 p4 p5 =
    let q2 = p2 ∙ ap (λ x. x ++ b) p1 ∙ append_assoc old a b in
    let q3 = p3 ∙ ap (λ x. x ++ c) q2 ∙ append_assoc old (a ++ b) c in
    two_pieces r old d4 d5 (((a ++ b) ++ c) ++ d) e (p4 ∙ ap (λ x. x ++ d) q3 ∙ append_assoc old ((a ++ b) ++ c) d) p5

pub print_line : {E : Type 0} (r : Result (Unit {0}) E) (printed : Printed) (old d1 d2 d3 d4 : List ℕ) → Appends (IsTimeText printed.time_ms) old d1 → d2 ≡ d1 ++ 32 ∷ [] → d3 ≡ d2 ++ shown_text printed.text → OnOk r (d4 ≡ d3 ++ 10 ∷ []) → OnOk r (Appends (IsPrintLine printed) old d4)
print_line (Ok u) printed old d1 d2 d3 d4 time e f g =
    let line : List ℕ = time.piece ++ 32 ∷ shown_text printed.text in
    let e3 : d3 ≡ old ++ line =
    f ∙ ap (λ d. d ++ shown_text printed.text) (e ∙ ap (λ d. d ++ 32 ∷ []) time.grew)
    ∙ append_assoc (old ++ time.piece) (32 ∷ []) (shown_text printed.text) ∙ append_assoc old time.piece (32 ∷ shown_text printed.text) in
    record {
      piece = line ++ 10 ∷ [];
      is = record { time = time.piece; is_time = time.is; is = refl };
      grew = g ∙ ap (λ d. d ++ 10 ∷ []) e3 ∙ append_assoc old line (10 ∷ []);
    }
print_line (Err e) printed old d1 d2 d3 d4 time p q g = g

-- a line more
pub lines_snoc : (ps : List Printed) (p : Printed) (text line : List ℕ) → ArePrintLines ps text → IsPrintLine p line → ArePrintLines (ps ++ p ∷ []) (text ++ line)
lines_snoc [] p text line none is = (line, [], is, refl, ap (λ t. t ++ line) none ∙ sym (append-nil line))
lines_snoc (q ∷ ps) p text line (first, rest, is_first, are_rest, e) is =
    (first, rest ++ line, is_first, lines_snoc ps p rest line are_rest is, ap (λ t. t ++ line) e ∙ append_assoc first rest line)

pub prints_snoc : (ps : List Printed) (p : Printed) (old d1 d2 : List ℕ) → Appends (ArePrintLines ps) old d1 → Appends (IsPrintLine p) d1 d2 → Appends (ArePrintLines (ps ++ p ∷ [])) old d2
prints_snoc ps p old d1 d2 a b = record {
  piece = a.piece ++ b.piece;
  is = lines_snoc ps p a.piece b.piece a.is b.is;
  grew = b.grew ∙ ap (λ d. d ++ b.piece) a.grew ∙ append_assoc old a.piece b.piece;
}

pub no_prints : (old : List ℕ) → Appends (ArePrintLines []) old old
no_prints old = record { piece = []; is = refl; grew = sym (append-nil old) }
