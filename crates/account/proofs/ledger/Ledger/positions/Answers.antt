use Rattle.std.proofs.Common.{ℕ, ◌≤◌, ap, subst, arith, length, List}
use Rattle.std.specs.List.{All}
use Rattle.account.specs.Journal.{Journal}
use Rattle.account.specs.Deals.{deals}
use Rattle.account.specs.Keyed.{Rising}
use Rattle.account.specs.Positions.{open_positions, position_ticket}
use Rattle.account.specs.Ranges.{IsHeld}
use Rattle.account.proofs.Kept.{rising_open}
use Rattle.account.proofs.Bounds.{few_open}
use Rattle.account.proofs.ledger.Ledger.positions.Goals as goal

pub returns-clause-rising : goal.returns-clause-rising
returns-clause-rising c = subst (λ (j : Journal). Rising position_ticket (open_positions j.events)) c.self.view_is (rising_open c.self.inside.books.events.items)

pub returns-clause-held : goal.returns-clause-held
returns-clause-held c = subst (λ (j : Journal). All IsHeld (open_positions j.events)) c.self.view_is c.self.invariant.1.each_held

pub returns-clause-few : goal.returns-clause-few
returns-clause-few c =
    subst (λ (j : Journal). length (open_positions j.events) ≤ 50000) c.self.view_is
    (let n : length (open_positions c.self.inside.books.events.items) ≤ length (deals c.self.inside.books.events.items) = few_open c.self.inside.books.events.items in omega (arith, n, c.self.invariant.1.few))
