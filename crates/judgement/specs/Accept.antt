-- What is told to a request: why it is refused, or what is to be done (MQL5 Reference, OrderSend).
use Rattle.std.specs.Prelude.{◌≡◌, ◌^◌, ℕ, Bool, true, is_some, List, Option, Some, None, ⊤, ℤ, pos, ◌≤ℤ◌}
use Rattle.account.specs.declared.order.Order.{Order}
use Rattle.account.specs.Journal.{Journal}
use Rattle.account.specs.Positions.{open_positions}
use Rattle.account.specs.StopOut.{PriceList, prices_at}
use Rattle.positions.specs.declared.fill.Fill.{Fill}
use Rattle.positions.specs.Fills.{IsFill}
use Rattle.positions.specs.Money.{has_money_for}
use Rattle.judgement.specs.declared.accept.Judged.{Judged}
use Rattle.judgement.specs.declared.accept.Judged.TheVariants as judged
use Rattle.judgement.specs.declared.act.Act.{Act}
use Rattle.judgement.specs.declared.act.Act.TheVariants as act
use Rattle.judgement.specs.declared.act.Next.{Next}
use Rattle.judgement.specs.declared.request.Request.{Request}
use Rattle.judgement.specs.declared.return_code.ReturnCode.{ReturnCode}
use Rattle.judgement.specs.Acts.{act_of}
use Rattle.judgement.specs.Judge.{refusal}

-- there is money for what is to be done: a deal alone asks for some
abbrev pub has_money_to : Journal → PriceList → Act → Bool
has_money_to j prices (act.Deal f) = has_money_for j.spec prices j.events f
has_money_to j prices (act.Place o) = true
has_money_to j prices (act.Change o) = true
has_money_to j prices (act.Remove t) = true
has_money_to j prices (act.SetStops t sl tp) = true
has_money_to j prices (act.CloseBy one other at) = true

-- where nothing is to be done none is asked for
abbrev pub has_money_if : Journal → PriceList → Option Act → Bool
has_money_if j prices None = true
has_money_if j prices (Some a) = has_money_to j prices a

-- what is to be done for the request, over an account's journal, the orders in force, the last loud prices, the
-- time in milliseconds and the tickets that come next
abbrev pub todo : Journal → List Order → PriceList → ℤ → Next → Request → Option Act
todo j orders prices time_ms next r =
    act_of j.spec orders (open_positions j.events) prices time_ms next r

-- the code of the first rule that fails, that of money included
abbrev pub refusal_of : Journal → List Order → PriceList → ℤ → Next → Request → Option ReturnCode
refusal_of j orders prices time_ms next r =
    refusal j.spec orders (open_positions j.events) prices time_ms
    (has_money_if j prices (todo j orders prices time_ms next r)) r

-- the code of the first rule that fails; where none does there is something to be done, and it is told
abbrev pub IsJudged : Journal → List Order → PriceList → ℤ → Next → Request → Judged → Type 0
IsJudged j orders prices time_ms next r (judged.Refused c) =
    refusal_of j orders prices time_ms next r ≡ Some c
IsJudged j orders prices time_ms next r (judged.Accepted a) =
    (refusal_of j orders prices time_ms next r ≡ None) × (todo j orders prices time_ms next r ≡ Some a)

-- a fill for which it can be told whether there is money
pub record IsDealable (j : Journal) (prices : PriceList) (f : Fill) : Type 0 where
  pub fill : IsFill j.spec.hedging j.spec.specs (open_positions j.events) f
  pub volume : f.volume ≤ℤ pos (2 ^ 61)
  pub priced : is_some (prices_at prices f.symbol) ≡ true

abbrev pub IsPayable : Journal → PriceList → Act → Type 0
IsPayable j prices (act.Deal f) = IsDealable j prices f
IsPayable j prices (act.Place o) = ⊤
IsPayable j prices (act.Change o) = ⊤
IsPayable j prices (act.Remove t) = ⊤
IsPayable j prices (act.SetStops t sl tp) = ⊤
IsPayable j prices (act.CloseBy one other at) = ⊤
