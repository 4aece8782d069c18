-- The row of some fields, or the first rule that they break (MetaTrader 5 Help, export of history and of
-- ticks).
use Rattle.std.specs.Prelude.{ℕ, ◌-◌, ◌^◌, Bool, true, ◌&&◌, ◌==◌, nat_le, if◌then◌else◌, List, [], ◌∷◌, length, Option, Some, None, option_map, ℤ, pos, int_le, int_lt, codes, Result, Ok, Err}
use Rattle.std.specs.Option.{unwrap_or}
use Rattle.std.specs.Str.{bytes_eq}
use Rattle.csv.specs.Records.{field_at}
use Rattle.market_types.specs.declared.bar.Bar.{Bar}
use Rattle.market_types.specs.declared.tick.Tick.{Tick}
use Rattle.price_rows.specs.Numbers.{price, last_price, tick_volume}
use Rattle.decimals.specs.Texts.{given, provided, whole}
use Rattle.price_rows.specs.Moments.{minute, moment}
use Rattle.price_rows.specs.declared.bar_row.BarNumbers.{BarNumbers}
use Rattle.price_rows.specs.declared.tick_row.TickNumbers.{TickNumbers}

-- what follows from the value, or the rule that is broken where there is none
abbrev pub needs : {A B : Type 0} → ℕ → Option A → (A → Result B ℕ) → Result B ℕ
needs rule None f = Err rule
needs rule (Some x) f = f x

-- what follows where the test holds, or the rule that is broken
abbrev pub holds : {B : Type 0} → ℕ → Bool → Result B ℕ → Result B ℕ
holds rule test r = if test then r else Err rule

-- the field at a place, empty where there is none
abbrev pub field : List (List ℕ) → ℕ → List ℕ
field fields i = unwrap_or (field_at fields i) []

-- the last row of 4,000,000 after the header, which is row 1
abbrev pub last_row : ℕ
last_row = 4000001

-- the fields of a bar, in the order of the header
pub record BarText : Type 0 where
  pub date : List ℕ
  pub time : List ℕ
  pub opening : List ℕ
  pub high : List ℕ
  pub low : List ℕ
  pub closing : List ℕ
  pub tick_volume : List ℕ
  pub volume : List ℕ
  pub spread : List ℕ

abbrev pub bar_text : List (List ℕ) → BarText
bar_text fields = record {
  date = field fields 0;
  time = field fields 1;
  opening = field fields 2;
  high = field fields 3;
  low = field fields 4;
  closing = field fields 5;
  tick_volume = field fields 6;
  volume = field fields 7;
  spread = field fields 8;
}

-- the names of the header of bars
abbrev pub are_bar_names : BarText → Bool
are_bar_names f =
    bytes_eq f.date (codes "<DATE>") && bytes_eq f.time (codes "<TIME>")
    && bytes_eq f.opening (codes "<OPEN>")
    && bytes_eq f.high (codes "<HIGH>") && bytes_eq f.low (codes "<LOW>")
    && bytes_eq f.closing (codes "<CLOSE>")
    && bytes_eq f.tick_volume (codes "<TICKVOL>") && bytes_eq f.volume (codes "<VOL>")
    && bytes_eq f.spread (codes "<SPREAD>")

abbrev pub is_bar_header : List (List ℕ) → Bool
is_bar_header fields = (length fields == 9) && are_bar_names (bar_text fields)

-- the numbers of a bar: prices in units of 10^-8, volumes of 64 bits, and a spread of at most 1,000,000
-- points
abbrev pub bar_numbers : BarText → Option BarNumbers
bar_numbers f =
    given (price f.opening) (λ o. given (price f.high)
    (λ h. given (price f.low) (λ l. given (price f.closing) (λ c.
    given (whole (2 ^ 64 - 1) f.tick_volume)
    (λ n. given (whole (2 ^ 64 - 1) f.volume) (λ v. given (whole 1000000 f.spread) (λ s.
    Some (record {
      opening = o;
      high = h;
      low = l;
      closing = c;
      tick_volume = n;
      volume = v;
      spread = s;
    }))))))))

-- no high below and no low above another price of the bar
abbrev pub is_range : BarNumbers → Bool
is_range b =
    nat_le b.opening b.high && nat_le b.closing b.high && nat_le b.low b.opening && nat_le b.low b.closing
    && nat_le b.low b.high

-- a time after that of the bar before
abbrev pub is_later : Option Bar → ℤ → Bool
is_later None t = true
is_later (Some before) t = int_lt before.time t

-- the bar of a time and its numbers
abbrev pub bar_of : ℤ → BarNumbers → Bar
bar_of t b = record {
  time = t;
  o = pos b.opening;
  h = pos b.high;
  l = pos b.low;
  c = pos b.closing;
  tick_volume = b.tick_volume;
  spread = b.spread;
  volume = b.volume;
}

-- the bar of row n, or the first rule that it breaks: 2 number of fields, 3 date or time, 4 number, 5 time
-- not rising, 6 a high below or a low above another price, 8 over 4,000,000 rows
unfoldable pub judged_bar : ℕ → Option Bar → List (List ℕ) → Result Bar ℕ
judged_bar n before fields =
    let f = bar_text fields in
    holds 2 (length fields == 9) (needs 3 (minute f.date f.time) (λ t. needs 4 (bar_numbers f) (λ b.
    holds 5 (is_later before t) (holds 6 (is_range b) (holds 8 (nat_le n last_row) (Ok (bar_of t b)))))))

-- the fields of a tick, in the order of the header; the last may be absent
pub record TickText : Type 0 where
  pub date : List ℕ
  pub time : List ℕ
  pub bid : List ℕ
  pub ask : List ℕ
  pub last : List ℕ
  pub volume : List ℕ
  pub flags : List ℕ

abbrev pub tick_text : List (List ℕ) → TickText
tick_text fields = record {
  date = field fields 0;
  time = field fields 1;
  bid = field fields 2;
  ask = field fields 3;
  last = field fields 4;
  volume = field fields 5;
  flags = field fields 6;
}

-- the names of the header of ticks, without the last
abbrev pub are_tick_names : TickText → Bool
are_tick_names f =
    bytes_eq f.date (codes "<DATE>") && bytes_eq f.time (codes "<TIME>") && bytes_eq f.bid (codes "<BID>")
    && bytes_eq f.ask (codes "<ASK>") && bytes_eq f.last (codes "<LAST>")
    && bytes_eq f.volume (codes "<VOLUME>")

-- how many fields the header of ticks has, if it is one: the flags may be absent
abbrev pub tick_width : List (List ℕ) → Option ℕ
tick_width fields =
    if are_tick_names (tick_text fields)
    then (if length fields == 6 then Some 6
    else provided ((length fields == 7) && bytes_eq (field fields 6) (codes "<FLAGS>")) 7)
    else None

-- a number that may be empty, which means that it is unchanged
abbrev pub if_any : (List ℕ → Option ℕ) → List ℕ → Option (Option ℕ)
if_any number [] = Some None
if_any number (b ∷ text) = option_map Some (number (b ∷ text))

-- the flags of a tick; empty ones are 0
abbrev pub flags_of : List ℕ → Option ℕ
flags_of [] = Some 0
flags_of (b ∷ text) = whole (2 ^ 32 - 1) (b ∷ text)

-- the numbers of a tick, in units of 10^-8 but for the flags
abbrev pub tick_numbers : TickText → Option TickNumbers
tick_numbers f =
    given (if_any price f.bid) (λ b. given (if_any price f.ask) (λ a. given (if_any last_price f.last) (λ l.
    given (if_any tick_volume f.volume) (λ v. given (flags_of f.flags) (λ s.
    Some (record { bid = b; ask = a; last = l; volume = v; flags = s }))))))

-- a time that is not before that of the tick before
abbrev pub is_in_time : Option Tick → ℤ → Bool
is_in_time None t = true
is_in_time (Some before) t = int_le before.time_ms t

-- a number of a tick: its own, else that of the tick before, if there is one
abbrev pub now : Option ℕ → Option ℤ → Option ℤ
now (Some units) before = Some (pos units)
now None before = before

-- the tick of a time, its prices and its numbers; its last price and its volume are at first 0
abbrev pub tick_of : Option Tick → ℤ → ℤ → ℤ → TickNumbers → Tick
tick_of before t bid ask m = record {
  time_ms = t;
  bid = bid;
  ask = ask;
  last = unwrap_or (now m.last (option_map (λ (b : Tick). b.last) before)) (pos 0);
  volume = unwrap_or (now m.volume (option_map (λ (b : Tick). b.volume) before)) (pos 0);
  flags = m.flags;
}

-- the tick of row n, or the first rule that it breaks: 2 number of fields, which is that of the header, 3
-- date or time, 4 number, 5 time falling, 7 a first tick without Bid or Ask, 8 over 4,000,000 rows
unfoldable pub judged_tick : ℕ → ℕ → Option Tick → List (List ℕ) → Result Tick ℕ
judged_tick width n before fields =
    let f = tick_text fields in
    holds 2 (length fields == width) (needs 3 (moment f.date f.time) (λ t. needs 4 (tick_numbers f) (λ m.
    holds 5 (is_in_time before t) (needs 7 (now m.bid (option_map (λ (b : Tick). b.bid) before)) (λ bid.
    needs 7 (now m.ask (option_map (λ (b : Tick). b.ask) before)) (λ ask.
    holds 8 (nat_le n last_row) (Ok (tick_of before t bid ask m))))))))
