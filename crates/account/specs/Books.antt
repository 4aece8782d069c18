-- What a ledger keeps beside its events, and what it answers (own).
use Rattle.std.specs.Prelude.{◌≡◌, ◌≤◌, ◌&&◌, Bool, true, false, nat_le, List, [], ◌∷◌, length, take, is_some, All, FitsSigned, Result, Ok, Err}
use Rattle.std.specs.Int.{w128}
use Rattle.account.specs.declared.account_spec.AccountSpec.{AccountSpec}
use Rattle.account.specs.declared.event.Event.{Event}
use Rattle.account.specs.declared.ledger.Books.{Books}
use Rattle.account.specs.declared.ledger.LedgerFault.{LedgerFault}
use Rattle.account.specs.declared.ledger.LedgerFault.TheVariants as fault
use Rattle.account.specs.Deals.{deal_of, deals, trading_deals}
use Rattle.account.specs.Positions.{open_positions}
use Rattle.account.specs.StopOut.{margin_of}
use Rattle.account.specs.Ranges.{IsHeld}
use Rattle.account.specs.Totals.{totals_of}
use Rattle.account.specs.Journal.{deposit_deal}

-- the lists and totals are those of the events, of which the first is the deposit, and numbers keep their
-- types
pub record IsBooks (spec : AccountSpec) (b : Books) : Type 0 where
  pub listed : b.deals ≡ deals b.events.items
  pub held : b.positions.items ≡ open_positions b.events.items
  pub summed : b.totals ≡ totals_of spec.deposit (trading_deals b.events.items)
  pub first : take 1 (deals b.events.items) ≡ deposit_deal spec ∷ []
  pub few : length (deals b.events.items) ≤ 50000
  pub each_held : All IsHeld (open_positions b.events.items)
  pub margin_fits : FitsSigned w128 (margin_of spec b.events.items)

-- the event is a deal, and 50,000 deals stand
unfoldable pub is_full : List Event → Event → Bool
is_full events e = is_some (deal_of e) && nat_le 50000 (length (deals events))

-- the answer to one more event: `DealsExhausted` exactly where no deal may be added
abbrev pub Answers : {X : Type 0} → List Event → Event → Result X LedgerFault → Type 0
Answers events e (Ok _) = is_full events e ≡ false
Answers events e (Err fault.DealsExhausted) = is_full events e ≡ true
Answers events e (Err fault.OutOfMemory) = is_full events e ≡ false
