-- There is room for one more deal, and what the rule of money asks for.
use Rattle.std.proofs.Common.{◌≡◌, ℕ, ◌+◌, ◌^◌, ◌≤◌, List, length, Option, None, ℤ, unsigned_abs, arith, slice_index_or}
use Rattle.std.proofs.lemmas.Int.{ints}
use Rattle.account.specs.declared.account_spec.AccountSpec.{AccountSpec}
use Rattle.account.specs.declared.position.Position.{Position}
use Rattle.account.specs.Deals.{deals, balance}
use Rattle.account.specs.Positions.{position_ticket, open_positions}
use Rattle.account.specs.StopOut.{PriceList}
use Rattle.positions.specs.Money.{IsRoomy, HasRoom}
use Rattle.desk.specs.State.{Quoted, journal_of}
use Rattle.desk.specs.Sound.{IsKept, IsSound, AreQuoted}
use Rattle.desk.specs.Tickets.{last_order}
use Rattle.desk.proofs.Days.{day_small}
use Rattle.account.specs.Journal.{Journal}
use Rattle.account.specs.Keyed.{item}
use Rattle.desk.proofs.Ready.{fresh_item}
use Rattle.desk.proofs.Sums.{balance_le}

roomy : (spec : AccountSpec) (prices : PriceList) (times : List (Option ℤ)) (last n : ℕ) (p : Position) → AreQuoted spec prices times → n ≤ 50000 → IsKept spec prices times last n p → IsRoomy prices p
roomy spec prices times last n p q l k = record {
  priced = k.priced;
  volume = omega (arith, ints, k.volume, l);
  swap = omega (arith, k.swap, day_small times p.symbol q.moments);
}

pub has_room : (q : Quoted) → AreQuoted q.spec q.prices q.times → IsSound q.spec q.prices q.times q.events → HasRoom q.spec q.prices q.events
has_room q a s = record {
  symbols = a.symbols;
  positions = λ i d e. roomy q.spec q.prices q.times (last_order q.events) (length (deals q.events)) (slice_index_or (open_positions q.events) i d) a s.few (s.positions i d e);
  balance = let b : unsigned_abs (balance q.events) ≤ 2 ^ 119 = balance_le q.spec q.events s.account s.first s.few s.nets in omega (arith, b);
}

-- the same in the words of a ledger
pub has_room_at : (q : Quoted) (j : Journal) (prices : PriceList) → j ≡ journal_of q → prices ≡ q.prices → AreQuoted q.spec q.prices q.times → IsSound q.spec q.prices q.times q.events → HasRoom j.spec prices j.events
has_room_at q j prices e f a s = rw e (rw f (has_room q a s))

-- no position has the next order ticket
pub fresh_next : (q : Quoted) (j : Journal) → j ≡ journal_of q → IsSound q.spec q.prices q.times q.events → item position_ticket (last_order q.events + 1) (open_positions j.events) ≡ None
fresh_next q j e s = rw e (fresh_item q.spec q.prices q.times (last_order q.events) (length (deals q.events)) (last_order q.events + 1) (open_positions q.events) (omega arith) s.positions)
