-- The lines of the quotes of a market, one after another.
use Rattle.std.proofs.Common.{◌≡◌, ℕ, ◌<◌, List, [], ◌∷◌, ◌++◌, length, map, Option, Some, None, Result, Ok, Err, refl, sym, ap, subst, ◌∙◌, append_assoc, append-nil, arith}
use Rattle.std.specs.Prelude.{All, OnOk}
use Rattle.std.proofs.lemmas.List.Elements.{All-from_recursion, All-nil, All-cons, All-append, All-head, All-tail}
use Rattle.market_types.specs.declared.bar.Bar.{Bar}
use Rattle.market_types.specs.declared.tick.Tick.{Tick}
use Rattle.market_types.specs.declared.quote.Quote.{Quote}
use Rattle.market_types.specs.declared.period.Period.{Period}
use Rattle.market_types.specs.declared.mode.Mode.{Mode}
use Rattle.market_types.specs.declared.rows.Rows.{Rows}
use Rattle.market_types.specs.declared.rows.Rows.TheVariants as rows
use Rattle.market_types.specs.declared.symbol_spec.SymbolSpec.{SymbolSpec}
use Rattle.market_data.specs.declared.market.Listed.{Listed}
use Rattle.market_data.specs.Markets.{Listing, quotes, quotes_listed}
use Rattle.market_data.specs.Quotes.{quotes_of_bar, bar_quotes, with_loud, is_heard, number_at, heard, heard_by, tick_quote, quotes_of_rows}
use Rattle.report.specs.Pieces.{Appends}
use Rattle.report.specs.Quotes.{name_in, IsQuoteLine, IsLineIn, AreQuoteLines}

firsts_of_bar : (spread : Option ℕ) (digits : ℕ) (bar : Bar) → All (λ (q : Quote). q.symbol ≡ 0) (quotes_of_bar spread digits bar)
firsts_of_bar spread digits bar = All-from_recursion (λ (q : Quote). q.symbol ≡ 0) (quotes_of_bar spread digits bar) (refl, (refl, (refl, (refl, tt))))

firsts_of_bars : (spread : Option ℕ) (digits : ℕ) (bars : List Bar) → All (λ (q : Quote). q.symbol ≡ 0) (bar_quotes spread digits bars)
unfolding bar_quotes
firsts_of_bars spread digits [] = All-nil (λ (q : Quote). q.symbol ≡ 0)
firsts_of_bars spread digits (bar ∷ bars) =
    All-append (λ (q : Quote). q.symbol ≡ 0) (quotes_of_bar spread digits bar) (bar_quotes spread digits bars) (firsts_of_bar spread digits bar) (firsts_of_bars spread digits bars)

firsts_heard : (period : Option Period) (before : Option ℕ) (given : List Quote) → All (λ (q : Quote). q.symbol ≡ 0) given → All (λ (q : Quote). q.symbol ≡ 0) (heard period before given)
unfolding heard
firsts_heard period before [] h = All-nil (λ (q : Quote). q.symbol ≡ 0)
firsts_heard period before (q ∷ more) h =
    All-cons (λ (q : Quote). q.symbol ≡ 0) (with_loud (is_heard period before q.time_ms) q) (heard period (number_at period q.time_ms) more)
    (All-head (λ (q : Quote). q.symbol ≡ 0) q more h) (firsts_heard period (number_at period q.time_ms) more (All-tail (λ (q : Quote). q.symbol ≡ 0) q more h))

firsts_of_ticks : (ticks : List Tick) → All (λ (q : Quote). q.symbol ≡ 0) (map tick_quote ticks)
firsts_of_ticks [] = All-nil (λ (q : Quote). q.symbol ≡ 0)
firsts_of_ticks (t ∷ more) = All-cons (λ (q : Quote). q.symbol ≡ 0) (tick_quote t) (map tick_quote more) refl (firsts_of_ticks more)

firsts_of_rows : (mode : Mode) (period : Period) (spec : SymbolSpec) (found : Rows) → All (λ (q : Quote). q.symbol ≡ 0) (quotes_of_rows mode period spec found)
firsts_of_rows mode period spec (rows.Bars bars) = firsts_heard (heard_by mode period) None (bar_quotes spec.spread spec.digits bars) (firsts_of_bars spec.spread spec.digits bars)
firsts_of_rows mode period spec (rows.Ticks ticks) = firsts_of_ticks ticks

within : (n : ℕ) → 0 < n → (given : List Quote) → All (λ (q : Quote). q.symbol ≡ 0) given → All (λ (q : Quote). q.symbol < n) given
within n some given h k d lt = let e = h k d lt in omega (arith, e)

within_listed : (mode : Mode) (period : Period) (listed : List Listed) → All (λ (q : Quote). q.symbol < length listed) (quotes_listed mode period listed)
within_listed mode period [] = All-nil (λ (q : Quote). q.symbol < 0)
within_listed mode period (l ∷ more) = within (length (l ∷ more)) (omega arith) (quotes_of_rows mode period l.spec l.rows) (firsts_of_rows mode period l.spec l.rows)

-- each quote of a market is of one of its symbols
pub within_market : (market : Listing) → All (λ (q : Quote). q.symbol < length market.listed) (quotes market)
within_market market = within_listed market.mode market.period market.listed

lines_snoc : (market : Listing) (qs : List Quote) (q : Quote) (text line : List ℕ) → AreQuoteLines market qs text → IsLineIn market q line → AreQuoteLines market (qs ++ q ∷ []) (text ++ line)
lines_snoc market [] q text line none is = (line, [], is, refl, ap (λ t. t ++ line) none ∙ sym (append-nil line))
lines_snoc market (p ∷ qs) q text line (first, rest, is_first, are_rest, e) is =
    (first, rest ++ line, is_first, lines_snoc market qs q rest line are_rest is, ap (λ t. t ++ line) e ∙ append_assoc first rest line)

-- the text has the lines of the quotes that were taken
pub record LinesSoFar (market : Listing) (text : List ℕ) (left : List Quote) : Type 0 where
  pub taken : List Quote
  pub lines : AreQuoteLines market taken text
  pub all : taken ++ left ≡ quotes market

pub lines_at_first : (market : Listing) (left : List Quote) → left ≡ quotes market → LinesSoFar market [] left
lines_at_first market left e = record { taken = []; lines = refl; all = e }

pub line_more : (market : Listing) (text new : List ℕ) (q : Quote) (old left : List Quote) → old ≡ q ∷ left → LinesSoFar market text old → Appends (IsLineIn market q) text new → LinesSoFar market new left
line_more market text new q old left e h a = record {
  taken = h.taken ++ q ∷ [];
  lines = subst (AreQuoteLines market (h.taken ++ q ∷ [])) (sym a.grew) (lines_snoc market h.taken q text a.piece h.lines a.is);
  all = append_assoc h.taken (q ∷ []) left ∙ (ap (λ (x : List Quote). h.taken ++ x) (sym e) ∙ h.all);
}

pub lines_done : (market : Listing) (text : List ℕ) (left : List Quote) → left ≡ [] → LinesSoFar market text left → AreQuoteLines market (quotes market) text
lines_done market text left e h =
    subst (λ (x : List Quote). AreQuoteLines market x text) (sym (append-nil h.taken) ∙ (ap (λ (x : List Quote). h.taken ++ x) (sym e) ∙ h.all)) h.lines

-- the quote that is next is of a symbol of the market, and so are those behind it
pub next_within : (n : ℕ) (q : Quote) (old left : List Quote) → old ≡ q ∷ left → All (λ (x : Quote). x.symbol < n) old → q.symbol < n
next_within n q old left e h = All-head (λ (x : Quote). x.symbol < n) q left (subst (All (λ (x : Quote). x.symbol < n)) e h)

pub rest_within : (n : ℕ) (q : Quote) (old left : List Quote) → old ≡ q ∷ left → All (λ (x : Quote). x.symbol < n) old → All (λ (x : Quote). x.symbol < n) left
rest_within n q old left e h = All-tail (λ (x : Quote). x.symbol < n) q left (subst (All (λ (x : Quote). x.symbol < n)) e h)

-- the line of a quote under the name of its symbol
pub line_in : {E : Type 0} (r : Result (Unit {0}) E) (market : Listing) (quote : Quote) (name old new : List ℕ) → name_in market quote.symbol ≡ Some name → OnOk r (Appends (IsQuoteLine name quote) old new)
    → OnOk r (Appends (IsLineIn market quote) old new)
line_in (Ok u) market quote name old new e a = record { piece = a.piece; is = record { name = name; named = e; is = a.is }; grew = a.grew }
line_in (Err x) market quote name old new e a = a

pub line_alone : (market : Listing) (quote : Quote) (new : List ℕ) → Appends (IsLineIn market quote) [] new → IsLineIn market quote new
line_alone market quote new a = subst (IsLineIn market quote) (sym a.grew) a.is
