-- The quotes that a series stands for, before the first quote and with one more.
use Rattle.std.proofs.Common.{◌≡◌, ℕ, zero, suc, ◌<◌, ◌≢◌, List, [], ◌∷◌, ◌++◌, map, length, get_or, set, refl, sym, ap, ◌∙◌, Bool, true, false, cond, subst, append-nil, arith}
use Rattle.std.specs.Prelude.{◌==◌, slice_get, Result, Ok, Err, OnOk, OnErr}
use Rattle.std.proofs.lemmas.Grind.{common_steps}
use Rattle.std.proofs.lemmas.List.{get_or-set_same, get_or-set_other, length-set, length-map, get_or_default}
use Rattle.std.proofs.lemmas.List.Elements.{filter-append}
use Rattle.market_types.specs.declared.quote.Quote.{Quote}
use Rattle.market_types.specs.declared.symbol_spec.SymbolSpec.{SymbolSpec}
use Rattle.market_types.specs.declared.period.Period.{Period}
use Rattle.market_types.specs.declared.period.Period.TheVariants as period
use Rattle.series.specs.Bars.{bars, newest_traded, of_symbol, bars_at}
use Rattle.series.specs.Pushed.{with_quote}
use Rattle.series.specs.Stored.{History, Histories}
use Rattle.series.specs.Symbols.{without_bars, with_quote_each, FitEach}
use Rattle.series.specs.Filled.{bars_of, kept_bars}
use Rattle.series.specs.Stands.{history, AreHistories, HaveVolumes}
use Rattle.series.specs.Laws.{QuotesDecide}
use Rattle.series.proofs.Grows.{more_history, bars_is, fits}

-- the symbols' histories are those of their quotes
abbrev Stand : List Histories → List Quote → Type 0
Stand symbols quotes = (symbol : ℕ) (none : Histories) → symbol < length symbols
    → AreHistories (get_or symbols symbol none) (of_symbol symbol quotes)

bars_stand : (p : Period) (symbols : List Histories) (symbol : ℕ) (quotes : List Quote)
    → ((none : Histories) → symbol < length symbols → AreHistories (get_or symbols symbol none) quotes)
    → bars_of p (slice_get symbols symbol) ≡ bars_at p (slice_get (map (λ (s : Histories). s.digits) symbols) symbol) quotes
bars_stand p [] symbol quotes stand = refl
bars_stand p (s ∷ symbols) zero quotes stand =
    ap (λ (h : History). h.bars) (stand s (omega arith) p) ∙ sym (bars_is p s.digits quotes)
bars_stand p (s ∷ symbols) (suc n) quotes stand = bars_stand p symbols n quotes (λ none within. stand none (omega arith))

-- the bars that are kept are those of the quotes
pub kept_stand : (p : Period) (symbols : List Histories) (symbol : ℕ) (quotes : List Quote) → Stand symbols quotes
    → kept_bars symbols symbol p ≡ bars_at p (slice_get (map (λ (s : Histories). s.digits) symbols) symbol) (of_symbol symbol quotes)
kept_stand p symbols symbol quotes stand = bars_stand p symbols symbol (of_symbol symbol quotes) (stand symbol)

none_stands : (d : ℕ) → AreHistories (without_bars d) []
unfolding history bars newest_traded
none_stands d period.M1 = refl
none_stands d period.M5 = refl
none_stands d period.M15 = refl
none_stands d period.M30 = refl
none_stands d period.H1 = refl
none_stands d period.H4 = refl
none_stands d period.D1 = refl

-- before the first quote
pub all_stand : (specs : List SymbolSpec) → Stand (map (λ (s : SymbolSpec). without_bars s.digits) specs) []
all_stand [] symbol none within = absurd (omega arith)
all_stand (s ∷ specs) zero none within = none_stands s.digits
all_stand (s ∷ specs) (suc n) none within = all_stand specs n none (omega arith)

one_stands : (p : Period) (d : ℕ) (q : Quote) (h : History) (qs : List Quote) → h ≡ history p d qs
    → with_quote p d q h ≡ history p d (qs ++ q ∷ [])
one_stands p d q h qs is = ap (with_quote p d q) is ∙ sym (more_history p d qs q)

each_stands : (q : Quote) (s : Histories) (qs : List Quote) → AreHistories s qs
    → AreHistories (with_quote_each q s) (qs ++ q ∷ [])
each_stands q s qs are period.M1 = one_stands period.M1 s.digits q s.m1 qs (are period.M1)
each_stands q s qs are period.M5 = one_stands period.M5 s.digits q s.m5 qs (are period.M5)
each_stands q s qs are period.M15 = one_stands period.M15 s.digits q s.m15 qs (are period.M15)
each_stands q s qs are period.M30 = one_stands period.M30 s.digits q s.m30 qs (are period.M30)
each_stands q s qs are period.H1 = one_stands period.H1 s.digits q s.h1 qs (are period.H1)
each_stands q s qs are period.H4 = one_stands period.H4 s.digits q s.h4 qs (are period.H4)
each_stands q s qs are period.D1 = one_stands period.D1 s.digits q s.d1 qs (are period.D1)

same_symbol : (a b : ℕ) → (a == b) ≡ true → a ≡ b
same_symbol a b e = grind (arith, common_steps)

other_symbol : (a b : ℕ) → (a == b) ≡ false → b ≢ a
other_symbol a b e = grind (arith, common_steps)

own_test : (a : ℕ) → (a == a) ≡ true
own_test a = grind (arith, common_steps)

of_more : (symbol : ℕ) (quotes : List Quote) (q : Quote) → of_symbol symbol (quotes ++ q ∷ [])
    ≡ of_symbol symbol quotes ++ cond (q.symbol == symbol) (q ∷ []) []
of_more symbol quotes q = filter-append (λ (r : Quote). r.symbol == symbol) quotes (q ∷ [])

own_quotes : (quotes : List Quote) (q : Quote) → of_symbol q.symbol (quotes ++ q ∷ []) ≡ of_symbol q.symbol quotes ++ q ∷ []
own_quotes quotes q =
    of_more q.symbol quotes q ∙ ap (λ (b : Bool). of_symbol q.symbol quotes ++ cond b (q ∷ []) []) (own_test q.symbol)

at_symbol : (symbols : List Histories) (q : Quote) (quotes : List Quote) (first : Histories) → q.symbol < length symbols
    → Stand symbols quotes → (symbol : ℕ) (none : Histories) → symbol < length symbols → (b : Bool) → (q.symbol == symbol) ≡ b
    → AreHistories (get_or (set symbols q.symbol (with_quote_each q (get_or symbols q.symbol first))) symbol none)
    (of_symbol symbol quotes ++ cond b (q ∷ []) [])
at_symbol symbols q quotes first within stand symbol none here true e =
    let is : q.symbol ≡ symbol = same_symbol q.symbol symbol e in
    let g : Histories = with_quote_each q (get_or symbols q.symbol first) in
    subst (λ (k : ℕ). AreHistories (get_or (set symbols q.symbol g) k none) (of_symbol k quotes ++ q ∷ [])) is
    (subst (λ (s : Histories). AreHistories s (of_symbol q.symbol quotes ++ q ∷ [])) (sym (get_or-set_same symbols q.symbol g none within))
    (each_stands q (get_or symbols q.symbol first) (of_symbol q.symbol quotes) (stand q.symbol first within)))
at_symbol symbols q quotes first within stand symbol none here false e =
    let g : Histories = with_quote_each q (get_or symbols q.symbol first) in
    subst (λ (qs : List Quote). AreHistories (get_or (set symbols q.symbol g) symbol none) qs) (sym (append-nil (of_symbol symbol quotes)))
    (subst (λ (s : Histories). AreHistories s (of_symbol symbol quotes)) (sym (get_or-set_other symbols q.symbol symbol g none (other_symbol q.symbol symbol e)))
    (stand symbol none here))

-- with one more quote
pub pushed_stand : (symbols : List Histories) (q : Quote) (quotes : List Quote) (first : Histories) → q.symbol < length symbols
    → Stand symbols quotes
    → Stand (set symbols q.symbol (with_quote_each q (get_or symbols q.symbol first))) (quotes ++ q ∷ [])
pushed_stand symbols q quotes first within stand symbol none here =
    let e : length (set symbols q.symbol (with_quote_each q (get_or symbols q.symbol first))) ≡ length symbols = length-set symbols q.symbol (with_quote_each q (get_or symbols q.symbol first)) in
    subst (AreHistories (get_or (set symbols q.symbol (with_quote_each q (get_or symbols q.symbol first))) symbol none)) (sym (of_more symbol quotes q))
    (at_symbol symbols q quotes first within stand symbol none (omega (arith, e)) (q.symbol == symbol) refl)

fit_each : (s : Histories) (qs : List Quote) (q : Quote) → AreHistories s qs → HaveVolumes s.digits (qs ++ q ∷ []) → FitEach q s
fit_each s qs q are have = record {
  m1 = fits period.M1 s.digits qs q s.m1 (are period.M1) (have period.M1);
  m5 = fits period.M5 s.digits qs q s.m5 (are period.M5) (have period.M5);
  m15 = fits period.M15 s.digits qs q s.m15 (are period.M15) (have period.M15);
  m30 = fits period.M30 s.digits qs q s.m30 (are period.M30) (have period.M30);
  h1 = fits period.H1 s.digits qs q s.h1 (are period.H1) (have period.H1);
  h4 = fits period.H4 s.digits qs q s.h4 (are period.H4) (have period.H4);
  d1 = fits period.D1 s.digits qs q s.d1 (are period.D1) (have period.D1);
}

-- the volumes fit with one more quote
pub pushed_fits : (symbols : List Histories) (q : Quote) (quotes : List Quote) (none : Histories) → q.symbol < length symbols
    → Stand symbols quotes → HaveVolumes (get_or symbols q.symbol none).digits (of_symbol q.symbol (quotes ++ q ∷ []))
    → FitEach q (get_or symbols q.symbol none)
pushed_fits symbols q quotes none within stand have =
    fit_each (get_or symbols q.symbol none) (of_symbol q.symbol quotes) q (stand q.symbol none within)
    (subst (HaveVolumes (get_or symbols q.symbol none).digits) (own_quotes quotes q) have)

-- all symbols with one more quote
pub all_pushed : (symbols new : List Histories) (q : Quote) → q.symbol < length symbols
    → ((none : Histories) → new ≡ set symbols q.symbol (with_quote_each q (get_or symbols q.symbol none)))
    → (quotes : List Quote) → Stand symbols quotes → Stand new (quotes ++ q ∷ [])
all_pushed symbols new q within is quotes stand symbol none here =
    subst (λ (hs : List Histories). symbol < length hs → AreHistories (get_or hs symbol none) (of_symbol symbol (quotes ++ q ∷ []))) (sym (is none))
    (pushed_stand symbols q quotes none within stand symbol none) here

abbrev digits_of : List Histories → List ℕ
digits_of symbols = map (λ (s : Histories). s.digits) symbols

digits_set : (symbols : List Histories) (q : Quote) (i : ℕ) (none : Histories)
    → digits_of (set symbols i (with_quote_each q (get_or symbols i none))) ≡ digits_of symbols
digits_set [] q i none = refl
digits_set (s ∷ symbols) q zero none = refl
digits_set (s ∷ symbols) q (suc i) none = ap (λ ds. s.digits ∷ ds) (digits_set symbols q i none)

pub same_digits : (symbols new : List Histories) (q : Quote)
    → ((none : Histories) → new ≡ set symbols q.symbol (with_quote_each q (get_or symbols q.symbol none))) → digits_of new ≡ digits_of symbols
same_digits symbols new q is = ap digits_of (is (without_bars 0)) ∙ digits_set symbols q q.symbol (without_bars 0)

pub digits_none : (specs : List SymbolSpec)
    → digits_of (map (λ (s : SymbolSpec). without_bars s.digits) specs) ≡ map (λ (s : SymbolSpec). s.digits) specs
digits_none [] = refl
digits_none (s ∷ specs) = ap (λ ds. s.digits ∷ ds) (digits_none specs)

at_map : {A B : Type 0} (f : A → B) (xs : List A) (i : ℕ) (d : A) → get_or (map f xs) i (f d) ≡ f (get_or xs i d)
at_map f [] i d = refl
at_map f (x ∷ xs) zero d = refl
at_map f (x ∷ xs) (suc i) d = at_map f xs i d

-- what an item shows is what stands at its place
pub shown_at : {A B : Type 0} (f : A → B) (xs : List A) (i : ℕ) (x : A) (d : B) → i < length xs → x ≡ get_or xs i x
    → f x ≡ get_or (map f xs) i d
shown_at f xs i x d within is =
    ap f is ∙ sym (at_map f xs i x)
    ∙ get_or_default (map f xs) i (f x) d (let e : length (map f xs) ≡ length xs = length-map xs f in omega (arith, e))

-- an item that shows the same changes nothing that is shown
pub shown_same : {A B : Type 0} (f : A → B) (xs : List A) (i : ℕ) (x y : A) → y ≡ get_or xs i y → f x ≡ f y
    → map f (set xs i x) ≡ map f xs
shown_same f [] i x y is same = refl
shown_same f (z ∷ xs) zero x y is same = ap (λ b. b ∷ map f xs) (same ∙ ap f is)
shown_same f (z ∷ xs) (suc i) x y is same = ap (λ bs. f z ∷ bs) (shown_same f xs i x y is same)

pub map_set : {A B : Type 0} (f : A → B) (xs : List A) (i : ℕ) (x : A) → map f (set xs i x) ≡ set (map f xs) i (f x)
map_set f [] i x = refl
map_set f (z ∷ xs) zero x = refl
map_set f (z ∷ xs) (suc i) x = ap (λ bs. f z ∷ bs) (map_set f xs i x)

-- what follows from both ways that a call ends
pub on_err : {T E : Type 0} (r : Result T E) (P : Type 0) → P → OnErr r P
on_err (Ok x) P p = tt
on_err (Err e) P p = p

pub ok_gives : {T E : Type 0} (r : Result T E) (P Q : Type 0) → OnOk r P → (P → Q) → OnOk r Q
ok_gives (Ok x) P Q p f = f p
ok_gives (Err e) P Q p f = tt

pub either_way : {T E : Type 0} (r : Result T E) (P Q R : Type 0) → OnOk r P → OnErr r Q → (P → R) → (Q → R) → R
either_way (Ok x) P Q R p q f g = f p
either_way (Err e) P Q R p q f g = g q

-- what is kept is decided by the quotes
pub same_bars : QuotesDecide
same_bars a b quotes stand_a stand_b same symbol period =
    kept_stand period a.symbols symbol quotes stand_a
    ∙ ap (λ (ds : List ℕ). bars_at period (slice_get ds symbol) (of_symbol symbol quotes)) same
    ∙ sym (kept_stand period b.symbols symbol quotes stand_b)
