use Rattle.std.proofs.Common.{◌≡◌, ◌++◌, false, map, length}
use Rattle.desk.specs.Nights.{accrual}
use Rattle.desk.specs.Sound.{MayFollow}
use Rattle.desk.proofs.swap.accrue_all.Given as goal

-- what was accrued and what is left are all the swaps
abbrev pub invariant-loop-swap : goal.invariant-loop-swap
invariant-loop-swap g l = record {
  whole : l.books.broken ≡ false;
  follow : MayFollow l.books.quoted.spec l.books.quoted.prices l.books.quoted.times l.books.quoted.events (map accrual l.rest);
  spec : l.books.quoted.spec ≡ l.fn.books.quoted.spec;
  prices : l.books.quoted.prices ≡ l.fn.books.quoted.prices;
  times : l.books.quoted.times ≡ l.fn.books.quoted.times;
  events : l.books.quoted.events ++ map accrual l.rest ≡ l.fn.books.quoted.events ++ map accrual l.fn.list;
}

abbrev pub decreases-loop-swap : goal.decreases-loop-swap
decreases-loop-swap g l = length l.rest
