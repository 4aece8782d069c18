-- The account is the list of its events, and everything is read off that list.
use Rattle.std.specs.Prelude.{[], List, pos}
use Rattle.account.specs.declared.account_spec.AccountSpec.{AccountSpec}
use Rattle.account.specs.declared.deal.Deal.{Deal}
use Rattle.account.specs.declared.deal.DealKind.TheVariants as kind
use Rattle.account.specs.declared.deal.DealEntry.TheVariants as entry
use Rattle.account.specs.declared.deal.DealReason.TheVariants as reason
use Rattle.account.specs.declared.event.Event.{Event}

-- an account with what happened to it
pub record Journal : Type 0 where
  pub spec : AccountSpec
  pub events : List Event

-- the first deal, the deposit
abbrev pub deposit_deal : AccountSpec → Deal
deposit_deal spec = record {
  ticket = 1;
  order = 0;
  position = 0;
  time_ms = pos 0;
  symbol = 0;
  kind = kind.Balance;
  entry = entry.In;
  volume = pos 0;
  price = pos 0;
  profit = spec.deposit;
  swap = pos 0;
  commission = pos 0;
  magic = 0;
  reason = reason.Client;
  comment = [];
}
