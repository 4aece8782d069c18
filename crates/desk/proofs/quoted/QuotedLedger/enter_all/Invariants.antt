use Rattle.std.proofs.Common.{◌≡◌, ◌++◌, length}
use Rattle.desk.specs.Sound.{MayFollow}
use Rattle.desk.proofs.quoted.QuotedLedger.enter_all.Given as goal

-- what was added and what is left are all the events
abbrev pub invariant-loop-rest : goal.invariant-loop-rest
invariant-loop-rest l = record {
  follows : MayFollow l.self.spec l.self.prices l.self.times l.self.events l.rest.items;
  spec : l.self.spec ≡ l.fn.self.spec;
  prices : l.self.prices ≡ l.fn.self.prices;
  times : l.self.times ≡ l.fn.self.times;
  events : l.self.events ++ l.rest.items ≡ l.fn.self.events ++ l.fn.events;
}

abbrev pub decreases-loop-rest : goal.decreases-loop-rest
decreases-loop-rest l = length l.rest.items
