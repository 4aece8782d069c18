use Rattle.std.proofs.Common.{◌∙◌, ap, ◌+ℤ◌}
use Rattle.account.specs.Journal.{Journal}
use Rattle.account.specs.Deals.{balance, total, trading_deals, profit_of, swap_of, commission_of}
use Rattle.account.proofs.Kept.{balance_kept, balance_sums}
use Rattle.account.proofs.ledger.Ledger.balance.Goals as goal

pub returns-clause-value : goal.returns-clause-value
returns-clause-value c = balance_kept c.self.inside.spec c.self.inside.books c.self.invariant.1 ∙ ap (λ (j : Journal). balance j.events) c.self.view_is

pub returns-clause-deposit_and_sums : goal.returns-clause-deposit_and_sums
returns-clause-deposit_and_sums c =
    balance_sums c.self.inside.spec c.self.inside.books c.self.invariant.1
    ∙ ap (λ (j : Journal). j.spec.deposit +ℤ (total profit_of (trading_deals j.events) +ℤ total swap_of (trading_deals j.events) +ℤ total commission_of (trading_deals j.events))) c.self.view_is
