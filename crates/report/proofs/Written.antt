-- Pieces of a line, one after another.
use Rattle.std.proofs.Common.{◌≡◌, ℕ, ℤ, pos, ◌*ℤ◌, List, [], ◌∷◌, ◌++◌, Result, Ok, Err, refl, ap, ◌∙◌, append_assoc}
use Rattle.std.specs.Prelude.{OnOk}
use Rattle.jiff_core.specs.declared.civil.datetime.DateTime.{DateTime}
use Rattle.jiff_core.specs.DateTime.{civil_nanos}
use Rattle.market_types.specs.declared.quote.Quote.{Quote}
use Rattle.report.specs.Times.{date_text, clock_text, IsTimeText}
use Rattle.report.specs.Quotes.{loudness, prices_text, IsQuoteLine}
use Rattle.report.specs.Pieces.{Appends}

three_pieces : (old d1 d2 d3 a b c : List ℕ) → d1 ≡ old ++ a → d2 ≡ d1 ++ b → d3 ≡ d2 ++ c → d3 ≡ old ++ (a ++ (b ++ c))
three_pieces old d1 d2 d3 a b c e f g =
    g ∙ ap (λ d. d ++ c) (f ∙ ap (λ d. d ++ b) e) ∙ append_assoc (old ++ a) b c ∙ append_assoc old a (b ++ c)

pub time_written : {E : Type 0} (r : Result (Unit {0}) E) (time : ℤ) (at : DateTime) (old d1 d2 d3 : List ℕ) → civil_nanos at ≡ time *ℤ pos 1000000
    → d1 ≡ old ++ date_text at.date → d2 ≡ d1 ++ 32 ∷ [] → OnOk r (d3 ≡ d2 ++ clock_text at.time) → OnOk r (Appends (IsTimeText time) old d3)
time_written (Ok u) time at old d1 d2 d3 is e f g = record {
  piece = date_text at.date ++ 32 ∷ clock_text at.time;
  is = record { at = at; is_at = is; written = refl };
  grew = three_pieces old d1 d2 d3 _ (32 ∷ []) _ e f g;
}
time_written (Err e) time at old d1 d2 d3 is p q g = g

four_pieces : (old d1 d2 d3 d4 a b c d : List ℕ) → d1 ≡ old ++ a → d2 ≡ d1 ++ b → d3 ≡ d2 ++ c → d4 ≡ d3 ++ d → d4 ≡ old ++ (a ++ (b ++ (c ++ d)))
four_pieces old d1 d2 d3 d4 a b c d e f g h =
    h ∙ ap (λ x. x ++ d) (three_pieces old d1 d2 d3 a b c e f g) ∙ append_assoc old (a ++ (b ++ c)) d
    ∙ ap (λ x. old ++ x) (append_assoc a (b ++ c) d ∙ ap (λ x. a ++ x) (append_assoc b c d))

pub quote_written : {E : Type 0} (r : Result (Unit {0}) E) (name : List ℕ) (quote : Quote) (old d1 d2 d3 d4 : List ℕ) → Appends (IsTimeText quote.time_ms) old d1
    → d2 ≡ d1 ++ 32 ∷ name → d3 ≡ d2 ++ prices_text quote → OnOk r (d4 ≡ d3 ++ (32 ∷ loudness quote.loud ++ 10 ∷ [])) → OnOk r (Appends (IsQuoteLine name quote) old d4)
quote_written (Ok u) name quote old d1 d2 d3 d4 t e f g = record {
  piece = t.piece ++ (32 ∷ name ++ (prices_text quote ++ (32 ∷ loudness quote.loud ++ 10 ∷ [])));
  is = record { time = t.piece; is_time = t.is; is = refl };
  grew = four_pieces old d1 d2 d3 d4 t.piece (32 ∷ name) (prices_text quote) _ t.grew e f g;
}
quote_written (Err e) name quote old d1 d2 d3 d4 t p q g = g
