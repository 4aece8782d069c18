-- A time and a quote have one text, and so have the quotes of a market.
use Rattle.std.proofs.Common.{◌≡◌, ℕ, ◌/◌, ℤ, List, [], ◌∷◌, ◌++◌, Some, sym, ap, subst, ◌∙◌}
use Rattle.std.specs.Prelude.{unsigned_abs}
use Rattle.jiff_core.specs.declared.civil.date.Date.{Date}
use Rattle.jiff_core.specs.declared.civil.time.Time.{Time}
use Rattle.jiff_core.specs.DateTime.{civil_nanos}
use Rattle.jiff_core.proofs.DateLemmas.{epoch_day_injective}
use Rattle.jiff_core.proofs.DateTimeLemmas.{civil_nanos_injective, time_nanos_injective}
use Rattle.market_types.specs.declared.quote.Quote.{Quote}
use Rattle.market_data.specs.Markets.{Listing}
use Rattle.report.specs.Times.{two_digits, three_digits, four_digits, date_text, clock_text, IsTimeText}
use Rattle.report.specs.Quotes.{loudness, prices_text, IsQuoteLine, IsLineIn, AreQuoteLines}

date_once : (a b : Date) → (a.year ≡ b.year) × (a.month ≡ b.month) × (a.day ≡ b.day) → date_text a ≡ date_text b
unfolding date_text
date_once a b e =
    ap (λ (y : ℤ). four_digits (unsigned_abs y) ++ 46 ∷ two_digits a.month ++ 46 ∷ two_digits a.day) e.0
    ∙ ap (λ (m : ℕ). four_digits (unsigned_abs b.year) ++ 46 ∷ two_digits m ++ 46 ∷ two_digits a.day) e.1
    ∙ ap (λ (d : ℕ). four_digits (unsigned_abs b.year) ++ 46 ∷ two_digits b.month ++ 46 ∷ two_digits d) e.2

clock_once : (a b : Time) → (a.hour ≡ b.hour) × (a.minute ≡ b.minute) × (a.second ≡ b.second) × (a.subsec_nanosecond ≡ b.subsec_nanosecond) → clock_text a ≡ clock_text b
unfolding clock_text
clock_once a b e =
    ap (λ (h : ℕ). two_digits h ++ 58 ∷ two_digits a.minute ++ 58 ∷ two_digits a.second ++ 46 ∷ three_digits (a.subsec_nanosecond / 1000000)) e.0
    ∙ ap (λ (m : ℕ). two_digits b.hour ++ 58 ∷ two_digits m ++ 58 ∷ two_digits a.second ++ 46 ∷ three_digits (a.subsec_nanosecond / 1000000)) e.1
    ∙ ap (λ (s : ℕ). two_digits b.hour ++ 58 ∷ two_digits b.minute ++ 58 ∷ two_digits s ++ 46 ∷ three_digits (a.subsec_nanosecond / 1000000)) e.2
    ∙ ap (λ (n : ℕ). two_digits b.hour ++ 58 ∷ two_digits b.minute ++ 58 ∷ two_digits b.second ++ 46 ∷ three_digits (n / 1000000)) e.3

-- a time has one text
pub time_once : (time : ℤ) (a b : List ℕ) → IsTimeText time a → IsTimeText time b → a ≡ b
time_once time a b p q =
    let nanos : civil_nanos p.at ≡ civil_nanos q.at = p.is_at ∙ sym q.is_at in
    let parts = civil_nanos_injective p.at q.at nanos in
    let date = date_once p.at.date q.at.date (epoch_day_injective p.at.date q.at.date parts.0) in
    let clock = clock_once p.at.time q.at.time (time_nanos_injective p.at.time q.at.time parts.1) in
    p.written ∙ ap (λ (d : List ℕ). d ++ 32 ∷ clock_text p.at.time) date ∙ ap (λ (t : List ℕ). date_text q.at.date ++ 32 ∷ t) clock ∙ sym q.written

line_once : (name : List ℕ) (quote : Quote) (a b : List ℕ) → IsQuoteLine name quote a → IsQuoteLine name quote b → a ≡ b
line_once name quote a b p q =
    p.is ∙ ap (λ (t : List ℕ). t ++ (32 ∷ name ++ (prices_text quote ++ (32 ∷ loudness quote.loud ++ 10 ∷ [])))) (time_once quote.time_ms p.time q.time p.is_time q.is_time) ∙ sym q.is

line_in_once : (market : Listing) (quote : Quote) (a b : List ℕ) → IsLineIn market quote a → IsLineIn market quote b → a ≡ b
line_in_once market quote a b p q =
    let both : Some p.name ≡ Some q.name = sym p.named ∙ q.named in
    let names : p.name ≡ q.name = cc in
    line_once q.name quote a b (subst (λ (n : List ℕ). IsQuoteLine n quote a) names p.is) q.is

-- quotes of a market have one text
pub one_text : (market : Listing) (quotes : List Quote) (a b : List ℕ) → AreQuoteLines market quotes a → AreQuoteLines market quotes b → a ≡ b
one_text market [] a b p q = p ∙ sym q
one_text market (quote ∷ more) a b p q =
    p.4 ∙ ap (λ (l : List ℕ). l ++ p.1) (line_in_once market quote p.0 q.0 p.2 q.2) ∙ ap (λ (r : List ℕ). q.0 ++ r) (one_text market more p.1 q.1 p.3 q.3) ∙ sym q.4
