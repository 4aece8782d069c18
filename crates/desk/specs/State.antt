-- What contracts see of a desk (own).
use Rattle.std.specs.Prelude.{ℕ, ◌+◌, Bool, nat_le, List, length, Option, ℤ}
use Rattle.account.specs.declared.account_spec.AccountSpec.{AccountSpec}
use Rattle.account.specs.declared.event.Event.{Event}
use Rattle.account.specs.Deals.{deals}
use Rattle.account.specs.Journal.{Journal}
use Rattle.account.specs.StopOut.{PriceList}

-- an account and its journal, the last loud Bid and Ask of each symbol, and when they came
pub record Quoted : Type 0 where
  pub spec : AccountSpec
  pub events : List Event
  pub prices : PriceList
  pub times : List (Option ℤ)

-- the account and its journal
abbrev pub journal_of : Quoted → Journal
journal_of q = record { spec = q.spec; events = q.events }

-- what contracts see of a desk: what it keeps, how many requests were answered, and whether it is closed, as
-- it is after want of memory
pub record DeskState : Type 0 where
  pub quoted : Quoted
  pub requests : ℕ
  pub closed : Bool

-- so many deals, and so many requests, a pass may have
abbrev pub most_deals : ℕ
most_deals = 50000

abbrev pub most_requests : ℕ
most_requests = 100000

-- the deals of further events find room in the journal
unfoldable pub have_room : List Event → List Event → Bool
have_room events more = nat_le (length (deals events) + length (deals more)) most_deals
