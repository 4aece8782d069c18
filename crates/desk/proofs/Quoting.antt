-- A loud quote keeps what a desk keeps of its prices and times.
use Rattle.std.proofs.Common.{◌≡◌, ◌∙◌, ℕ, suc, zero, ◌<◌, ◌≤◌, true, List, [], ◌∷◌, length, slice_get, Option, Some, None, ℤ, pos, ◌≤ℤ◌, refl, ap, sym, subst, arith, rules, is_some}
use Rattle.std.specs.List.{All, fold}
use Rattle.std.specs.Prelude.{IfSome, slice_set}
use Rattle.std.proofs.lemmas.Int.{ints}
use Rattle.std.proofs.lemmas.List.Elements.{All-cons, All-tail}
use Rattle.market_types.specs.declared.quote.Quote.{Quote}
use Rattle.market_types.specs.Ordered.{IsMoment}
use Rattle.account.specs.declared.account_spec.AccountSpec.{AccountSpec}
use Rattle.account.specs.declared.order.Order.{Order}
use Rattle.account.specs.declared.position.Position.{Position}
use Rattle.account.specs.Deals.{deals}
use Rattle.account.specs.Statistics.{greater}
use Rattle.account.specs.StopOut.{PriceList, prices_at}
use Rattle.desk.specs.Effect.{later, last_time, with_quote}
use Rattle.desk.specs.Quotes.{MayQuote}
use Rattle.desk.specs.Sound.{day_of, day_of_quote, day_at, IsKept, IsStanding, IsSound, AreQuoted, ArePrices}
use Rattle.desk.specs.State.{Quoted}
use Rattle.desk.specs.Tickets.{last_order}

-- a symbol that has prices keeps some
priced_on : (prices : PriceList) (s k : ℕ) (pair : ℤ × ℤ) → is_some (prices_at prices k) ≡ true → is_some (prices_at (slice_set prices s (Some pair)) k) ≡ true
priced_on [] s k pair h = h
priced_on (x ∷ xs) zero zero pair h = refl
priced_on (x ∷ xs) zero (suc k) pair h = h
priced_on (x ∷ xs) (suc s) zero pair h = h
priced_on (x ∷ xs) (suc s) (suc k) pair h = priced_on xs s k pair h

-- the last time is no less than any
greater_of : (x y : ℤ) → x ≤ℤ greater x y
unfolding greater
greater_of x y = grind (arith, ints)

greater_too : (x y : ℤ) → y ≤ℤ greater x y
unfolding greater
greater_too x y = grind (arith, ints)

chain : (x y z : ℤ) → x ≤ℤ y → y ≤ℤ z → x ≤ℤ z
chain x y z g h = omega (arith, ints, g, h)

later_of : (t : ℤ) (o : Option ℤ) → t ≤ℤ later t o
later_of t None = omega (arith, ints)
later_of t (Some x) = greater_of t x

from_first : (t : ℤ) (times : List (Option ℤ)) → t ≤ℤ fold later t times
from_first t [] = omega (arith, ints)
from_first t (x ∷ xs) = chain t (later t x) (fold later (later t x) xs) (later_of t x) (from_first (later t x) xs)

each_over : (t : ℤ) (times : List (Option ℤ)) (s : ℕ) (x : ℤ) → slice_get times s ≡ Some (Some x) → x ≤ℤ fold later t times
each_over t [] s x h = absurd (cc)
each_over t (y ∷ ys) zero x h =
    let e : y ≡ Some x = grind rules in
    chain x (later t y) (fold later (later t y) ys) (subst (λ (o : Option ℤ). x ≤ℤ later t o) (sym e) (greater_too t x)) (from_first (later t y) ys)
each_over t (y ∷ ys) (suc s) x h = each_over (later t y) ys s x h

-- days do not fall
days_rise : (x t : ℤ) → pos 0 ≤ℤ x → x ≤ℤ t → day_of x ≤ day_of t
days_rise x t z h = omega (arith, ints, z, h)

moment_at : (times : List (Option ℤ)) (s : ℕ) (x : ℤ) → All (λ time. IfSome time IsMoment) times → slice_get times s ≡ Some (Some x) → IsMoment x
moment_at [] s x a h = absurd (cc)
moment_at (y ∷ ys) zero x a h = let e : y ≡ Some x = grind rules in subst (λ (o : Option ℤ). IfSome o IsMoment) e (a zero y (omega arith))
moment_at (y ∷ ys) (suc s) x a h = moment_at ys s x (All-tail (λ time. IfSome time IsMoment) y ys a) h

day_by : (times : List (Option ℤ)) (s : ℕ) (t : ℤ) (o : Option (Option ℤ)) → All (λ time. IfSome time IsMoment) times → last_time times ≤ℤ t → slice_get times s ≡ o → day_of_quote o ≤ day_of t
day_by times s t None a l h = omega arith
day_by times s t (Some None) a l h = omega arith
day_by times s t (Some (Some x)) a l h =
    let m : IsMoment x = moment_at times s x a h in
    days_rise x t m.from (chain x (last_time times) t (each_over (pos 0) times s x h) l)

pub day_before : (times : List (Option ℤ)) (s : ℕ) (t : ℤ) → All (λ time. IfSome time IsMoment) times → last_time times ≤ℤ t → day_at times s ≤ day_of t
unfolding day_at
day_before times s t a l = day_by times s t (slice_get times s) a l refl

day_on : (times : List (Option ℤ)) (s k : ℕ) (t : ℤ) → day_of_quote (slice_get times s) ≤ day_of t → day_of_quote (slice_get times k) ≤ day_of_quote (slice_get (slice_set times s (Some t)) k)
day_on [] s k t h = omega arith
day_on (x ∷ xs) zero zero t h = h
day_on (x ∷ xs) zero (suc k) t h = omega arith
day_on (x ∷ xs) (suc s) zero t h = omega arith
day_on (x ∷ xs) (suc s) (suc k) t h = day_on xs s k t h

pub days_on : (times : List (Option ℤ)) (s k : ℕ) (t : ℤ) → day_at times s ≤ day_of t → day_at times k ≤ day_at (slice_set times s (Some t)) k
unfolding day_at
days_on times s k t h = day_on times s k t h

-- the day of a quote that stands
quoted_day : (times : List (Option ℤ)) (s : ℕ) (t : ℤ) → s < length times → day_of_quote (slice_get (slice_set times s (Some t)) s) ≡ day_of t
quoted_day [] s t h = absurd (omega (arith, h))
quoted_day (x ∷ xs) zero t h = refl
quoted_day (x ∷ xs) (suc s) t h = quoted_day xs s t (omega (arith, h))

pub day_quoted : (times : List (Option ℤ)) (s : ℕ) (t : ℤ) → s < length times → day_at (slice_set times s (Some t)) s ≡ day_of t
unfolding day_at
day_quoted times s t h = quoted_day times s t h

kept_on : (spec : AccountSpec) (prices : PriceList) (times : List (Option ℤ)) (last n : ℕ) (s : ℕ) (pair : ℤ × ℤ) (t : ℤ) (p : Position) → day_at times s ≤ day_of t → IsKept spec prices times last n p → IsKept spec (slice_set prices s (Some pair)) (slice_set times s (Some t)) last n p
kept_on spec prices times last n s pair t p d k = record {
  symbol = k.symbol;
  priced = priced_on prices s p.symbol pair k.priced;
  held = k.held;
  volume = k.volume;
  swap = omega (arith, k.swap, days_on times s p.symbol t d);
  from = k.from;
  ticket = k.ticket;
}

standing_on : (spec : AccountSpec) (prices : PriceList) (last : ℕ) (s : ℕ) (pair : ℤ × ℤ) (o : Order) → IsStanding spec prices last o → IsStanding spec (slice_set prices s (Some pair)) last o
standing_on spec prices last s pair o k = record {
  symbol = k.symbol;
  priced = priced_on prices s o.symbol pair k.priced;
  some = k.some;
  most = k.most;
  from = k.from;
  ticket = k.ticket;
}

all_set : {X : Type 0} (P : X → Type 0) (xs : List X) (s : ℕ) (x : X) → P x → All P xs → All P (slice_set xs s x)
all_set P [] s x h a = a
all_set P (y ∷ ys) zero x h a = All-cons P x ys h (All-tail P y ys a)
all_set P (y ∷ ys) (suc s) x h a = All-cons P y (slice_set ys s x) (a zero y (omega arith)) (all_set P ys s x h (All-tail P y ys a))

length_set : {X : Type 0} (xs : List X) (s : ℕ) (x : X) → length (slice_set xs s x) ≡ length xs
length_set [] s x = refl
length_set (y ∷ ys) zero x = refl
length_set (y ∷ ys) (suc s) x = ap suc (length_set ys s x)

-- what is kept at the prices and times of before is kept at those of the quote
pub sound_quoted : (q : Quoted) (quote : Quote) → MayQuote q quote → AreQuoted q.spec q.prices q.times → IsSound q.spec q.prices q.times q.events → IsSound q.spec (with_quote quote q).prices (with_quote quote q).times q.events
sound_quoted q quote m a s =
    let d : day_at q.times quote.symbol ≤ day_of quote.time_ms = day_before q.times quote.symbol quote.time_ms a.moments m.later in
    record {
      account = s.account;
      first = s.first;
      few = s.few;
      positions = λ i x h. kept_on q.spec q.prices q.times (last_order q.events) (length (deals q.events)) quote.symbol (quote.bid, quote.ask) quote.time_ms _ d (s.positions i x h);
      orders = λ i x h. standing_on q.spec q.prices (last_order q.events) quote.symbol (quote.bid, quote.ask) _ (s.orders i x h);
      nets = s.nets;
      tidy = s.tidy;
    }

pub are_quoted : (q : Quoted) (quote : Quote) → MayQuote q quote → AreQuoted q.spec q.prices q.times → AreQuoted q.spec (with_quote quote q).prices (with_quote quote q).times
are_quoted q quote m a = record {
  each_price = length_set q.prices quote.symbol (Some (quote.bid, quote.ask)) ∙ a.each_price;
  each_time = length_set q.times quote.symbol (Some quote.time_ms) ∙ a.each_time;
  moments = all_set (λ time. IfSome time IsMoment) q.times quote.symbol (Some quote.time_ms) m.moment a.moments;
  ranges = all_set (λ pair. IfSome pair ArePrices) q.prices quote.symbol (Some (quote.bid, quote.ask)) (m.bid, m.ask) a.ranges;
  symbols = a.symbols;
}

-- both, in the words of the ledger
pub quoted_on : (q : Quoted) (quote : Quote) (prices : PriceList) (times : List (Option ℤ)) → MayQuote q quote → AreQuoted q.spec q.prices q.times → IsSound q.spec q.prices q.times q.events → prices ≡ slice_set q.prices quote.symbol (Some (quote.bid, quote.ask)) → times ≡ slice_set q.times quote.symbol (Some quote.time_ms) → IsSound q.spec prices times q.events × AreQuoted q.spec prices times
quoted_on q quote prices times m a s e f = rw e (rw f (sound_quoted q quote m a s, are_quoted q quote m a))
