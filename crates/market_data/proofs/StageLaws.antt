-- What is left of the quotes of bars, stage by stage.
use Rattle.std.proofs.Common.{◌≡◌, ℕ, Bool, Option, suc, ◌-◌, ◌<◌, ◌≤◌, List, [], ◌∷◌, length, get_or, take, drop, refl, sym, ap, subst, ◌∙◌, arith, take_all}
use Rattle.std.specs.Prelude.{All}
use Rattle.market_types.specs.Ordered.{IsBar}
use Rattle.market_types.specs.declared.quote.Quote.{Quote}
use Rattle.market_types.specs.declared.bar.Bar.{Bar}
use Rattle.market_data.specs.declared.bar_quotes.Stage.{Stage}
use Rattle.market_data.specs.declared.bar_quotes.Stage.TheVariants as stage
use Rattle.market_types.specs.declared.period.Period.{Period}
use Rattle.market_data.specs.Quotes.{quote, bar_quotes, heard, is_heard, number_at, with_loud}
use Rattle.market_data.specs.Stages.{price_at, seconds_at, quotes_left}

pub none_left : (spread : Option ℕ) (digits : ℕ) (at : Stage) → quotes_left spread digits [] at ≡ []
unfolding bar_quotes
none_left spread digits stage.Opening = refl
none_left spread digits stage.Early = refl
none_left spread digits stage.Late = refl
none_left spread digits stage.Closing = refl

pub after_opening : (spread : Option ℕ) (digits : ℕ) (bar : Bar) (rest : List Bar)
    → quotes_left spread digits (bar ∷ rest) stage.Opening ≡ quote spread digits bar (seconds_at stage.Opening) (price_at bar stage.Opening) ∷ quotes_left spread digits (bar ∷ rest) stage.Early
unfolding bar_quotes
after_opening spread digits bar rest = refl

pub after_early : (spread : Option ℕ) (digits : ℕ) (bar : Bar) (rest : List Bar)
    → quotes_left spread digits (bar ∷ rest) stage.Early ≡ quote spread digits bar (seconds_at stage.Early) (price_at bar stage.Early) ∷ quotes_left spread digits (bar ∷ rest) stage.Late
unfolding bar_quotes
after_early spread digits bar rest = refl

pub after_late : (spread : Option ℕ) (digits : ℕ) (bar : Bar) (rest : List Bar)
    → quotes_left spread digits (bar ∷ rest) stage.Late ≡ quote spread digits bar (seconds_at stage.Late) (price_at bar stage.Late) ∷ quotes_left spread digits (bar ∷ rest) stage.Closing
unfolding bar_quotes
after_late spread digits bar rest = refl

pub after_closing : (spread : Option ℕ) (digits : ℕ) (bar : Bar) (rest : List Bar)
    → quotes_left spread digits (bar ∷ rest) stage.Closing ≡ quote spread digits bar (seconds_at stage.Closing) (price_at bar stage.Closing) ∷ quotes_left spread digits rest stage.Opening
unfolding bar_quotes
after_closing spread digits bar rest = refl

-- the first of some bars, and the rest of them
pub first_and_rest : (bars : List Bar) (bar : Bar) → 1 ≤ length bars → bar ≡ get_or bars 0 bar → bars ≡ bar ∷ take (length bars - 1) (drop 1 bars)
first_and_rest [] bar some is = absurd (omega arith)
first_and_rest (b ∷ rest) bar some is =
    let all : take (length (b ∷ rest) - 1) rest ≡ rest = take_all _ rest (omega arith) in
    ap (λ (x : Bar). x ∷ rest) (sym is) ∙ ap (λ (more : List Bar). bar ∷ more) (sym all)

-- the quote of a bar at a stage
abbrev quote_at : Option ℕ → ℕ → Bar → Stage → Quote
quote_at spread digits bar at = quote spread digits bar (seconds_at at) (price_at bar at)

-- the next quote, where the law of its stage is known
next_by : (spread : Option ℕ) (digits : ℕ) (bars : List Bar) (bar : Bar) (at here : Stage) (given : Quote) (view left : List Quote)
    → quotes_left spread digits bars at ≡ view → at ≡ here → given ≡ quote_at spread digits bar at
    → quotes_left spread digits bars here ≡ quote_at spread digits bar here ∷ left → view ≡ given ∷ left
next_by spread digits bars bar at here given view left v s e law =
    sym v ∙ ap (quotes_left spread digits bars) s ∙ law ∙ ap (λ (q : Quote). q ∷ left) (sym (e ∙ ap (quote_at spread digits bar) s))

-- no bars give no quotes
pub nothing_heard : (period : Option Period) (before spread : Option ℕ) (digits : ℕ) → heard period before (bar_quotes spread digits []) ≡ []
unfolding heard bar_quotes
nothing_heard period before spread digits = refl

-- the next of the quotes that are heard
heard_next : (period : Option Period) (before after : Option ℕ) (all left : List Quote) (q given : Quote) (loud : Bool) (view : List Quote)
    → heard period before all ≡ view → all ≡ q ∷ left → given ≡ with_loud loud q → loud ≡ is_heard period before q.time_ms
    → after ≡ number_at period q.time_ms → view ≡ given ∷ heard period after left
unfolding heard
heard_next period before after all left q given loud view v a g l n =
    sym v ∙ ap (heard period before) a ∙ ap (λ (x : Quote). x ∷ heard period (number_at period q.time_ms) left) (ap (λ (b : Bool). with_loud b q) (sym l) ∙ sym g)
    ∙ ap (λ (o : Option ℕ). given ∷ heard period o left) (sym n)

module _ (spread : Option ℕ) (digits : ℕ) (bars : List Bar) (bar : Bar) (at : Stage) (period : Option Period) (before after : Option ℕ) (loud : Bool) (q given : Quote) (view : List Quote)
    (v : heard period before (quotes_left spread digits bars at) ≡ view) (some : 1 ≤ length bars) (is : bar ≡ get_or bars 0 bar) (e : q ≡ quote_at spread digits bar at)
    (g : given ≡ with_loud loud q) (l : loud ≡ is_heard period before q.time_ms) (n : after ≡ number_at period q.time_ms) where
  pub next_opening : at ≡ stage.Opening → view ≡ given ∷ heard period after (quotes_left spread digits bars stage.Early)
  next_opening s =
      let split = first_and_rest bars bar some is in
      let more = next_by spread digits bars bar at stage.Opening q (quotes_left spread digits bars at) (quotes_left spread digits bars stage.Early) refl s e
      (ap (λ (bs : List Bar). quotes_left spread digits bs stage.Opening) split ∙ after_opening spread digits bar _ ∙ ap (λ (bs : List Bar). quote_at spread digits bar stage.Opening ∷ quotes_left spread digits bs stage.Early) (sym split)) in
      heard_next period before after (quotes_left spread digits bars at) (quotes_left spread digits bars stage.Early) q given loud view v more g l n

  pub next_early : at ≡ stage.Early → view ≡ given ∷ heard period after (quotes_left spread digits bars stage.Late)
  next_early s =
      let split = first_and_rest bars bar some is in
      let more = next_by spread digits bars bar at stage.Early q (quotes_left spread digits bars at) (quotes_left spread digits bars stage.Late) refl s e
      (ap (λ (bs : List Bar). quotes_left spread digits bs stage.Early) split ∙ after_early spread digits bar _ ∙ ap (λ (bs : List Bar). quote_at spread digits bar stage.Early ∷ quotes_left spread digits bs stage.Late) (sym split)) in
      heard_next period before after (quotes_left spread digits bars at) (quotes_left spread digits bars stage.Late) q given loud view v more g l n

  pub next_late : at ≡ stage.Late → view ≡ given ∷ heard period after (quotes_left spread digits bars stage.Closing)
  next_late s =
      let split = first_and_rest bars bar some is in
      let more = next_by spread digits bars bar at stage.Late q (quotes_left spread digits bars at) (quotes_left spread digits bars stage.Closing) refl s e
      (ap (λ (bs : List Bar). quotes_left spread digits bs stage.Late) split ∙ after_late spread digits bar _ ∙ ap (λ (bs : List Bar). quote_at spread digits bar stage.Late ∷ quotes_left spread digits bs stage.Closing) (sym split)) in
      heard_next period before after (quotes_left spread digits bars at) (quotes_left spread digits bars stage.Closing) q given loud view v more g l n

  pub next_closing : at ≡ stage.Closing → view ≡ given ∷ heard period after (quotes_left spread digits (take (length bars - 1) (drop 1 bars)) stage.Opening)
  next_closing s =
      let split = first_and_rest bars bar some is in
      let rest = quotes_left spread digits (take (length bars - 1) (drop 1 bars)) stage.Opening in
      let more = next_by spread digits bars bar at stage.Closing q (quotes_left spread digits bars at) rest refl s e
      (ap (λ (bs : List Bar). quotes_left spread digits bs stage.Closing) split ∙ after_closing spread digits bar _) in
      heard_next period before after (quotes_left spread digits bars at) rest q given loud view v more g l n

-- no bar is left
pub all_given : (period : Option Period) (before : Option ℕ) (spread : Option ℕ) (digits : ℕ) (bars : List Bar) (at : Stage) (view : List Quote)
    → heard period before (quotes_left spread digits bars at) ≡ view → length bars < 1 → view ≡ []
unfolding heard
all_given period before spread digits [] at view v none = sym v ∙ ap (heard period before) (none_left spread digits at)
all_given period before spread digits (bar ∷ bars) at view v none = absurd (omega arith)

-- the rest of some bars keeps what each of them keeps
pub rest_keeps : (bars : List Bar) → All IsBar bars → All IsBar (take (length bars - 1) (drop 1 bars))
rest_keeps [] all k d small = absurd (omega arith)
rest_keeps (b ∷ bars) all k d small =
    let same : take (length (b ∷ bars) - 1) bars ≡ bars = take_all _ bars (omega arith) in
    let within : k < length bars = omega (arith, ap length same) in
    subst (λ (bs : List Bar). IsBar (get_or bs k d)) (sym same) (all (suc k) d (omega arith))
