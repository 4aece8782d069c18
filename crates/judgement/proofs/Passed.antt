-- What holds of a request whose rules hold.
use Rattle.std.proofs.Common.{◌≡◌, ◌∙◌, ℕ, suc, zero, ◌+◌, ◌^◌, ◌<◌, ◌≤◌, ◌++◌, Bool, true, false, not, cond, eqb, List, [], ◌∷◌, length, take, slice_get, Option, Some, None, ℤ, pos, ◌+ℤ◌, ◌≤ℤ◌, ◌<ℤ◌, int_lt, refl, ap, sym, subst, arith, rules, is_some}
use Rattle.std.specs.Prelude.{IfSome, ⊤, ◌&&◌, int_le}
use Rattle.std.specs.List.{All}
use Rattle.std.proofs.lemmas.Int.{ints}
use Rattle.std.proofs.lemmas.List.Elements.{All-tail}
use Rattle.market_types.specs.Ranges.{IsSpec}
use Rattle.market_types.specs.declared.symbol_spec.SymbolSpec.{SymbolSpec}
use Rattle.account.specs.declared.account_spec.AccountSpec.{AccountSpec}
use Rattle.account.specs.declared.order.Order.{Order}
use Rattle.account.specs.declared.order.OrderKind.{OrderKind}
use Rattle.account.specs.declared.order.OrderTime.{OrderTime}
use Rattle.account.specs.declared.position.Position.{Position}
use Rattle.account.specs.Journal.{Journal}
use Rattle.account.specs.Keyed.{item}
use Rattle.account.specs.Positions.{position_ticket, open_positions}
use Rattle.account.specs.StopOut.{PriceList, prices_at}
use Rattle.positions.specs.Fills.{met, IsFill}
use Rattle.judgement.specs.declared.act.Act.{Act}
use Rattle.judgement.specs.declared.act.Act.TheVariants as act
use Rattle.judgement.specs.declared.act.Next.{Next}
use Rattle.judgement.specs.declared.request.Request.{Request}
use Rattle.judgement.specs.declared.return_code.ReturnCode.{ReturnCode}
use Rattle.judgement.specs.declared.return_code.ReturnCode.TheVariants as code
use Rattle.judgement.specs.declared.words.Action.{Action}
use Rattle.judgement.specs.declared.words.Action.TheVariants as action
use Rattle.judgement.specs.Accept.{has_money_to, has_money_if, todo, refusal_of, IsDealable, IsPayable}
use Rattle.judgement.specs.Acts.{fill_of, placed_order, changed_order, deal_act, pending_act, modify_act, sltp_act, act_by, act_of}
use Rattle.judgement.specs.Judge.{place_of, symbol_of, prices_of, place_of_order, place_of_position, order_of, stops_target, refusal_by, refusal}
use Rattle.judgement.specs.Numbers.{action_of, pending_kind_of, time_of}
use Rattle.judgement.specs.Rules.{is_volume, is_multiple, second_of, may_expire}
use Rattle.judgement.specs.Tables.{first_failing, has_volume, may_expire_so, has_time, deal_rules, pending_rules, modify_rules, sltp_rules}

-- each rule of a list holds
abbrev pub AllHold : List (Bool × ReturnCode) → Type 0
AllHold [] = ⊤
AllHold (rule ∷ rest) = (rule.0 ≡ true) × AllHold rest

all_hold : (list : List (Bool × ReturnCode)) → first_failing list ≡ None → AllHold list
all_hold [] h = tt
all_hold (rule ∷ rest) h = (elim rule.0 as (λ b. cond b (first_failing rest) (Some rule.1) ≡ None → (b ≡ true) × AllHold rest) [ true ↦ λ g. (refl, all_hold rest g) | false ↦ λ g. cc ]) h

-- the last rule decides where the others hold, and does not where one fails
earlier_fails : (front : List (Bool × ReturnCode)) (m : Bool) (c k : ReturnCode) → first_failing (front ++ (true, k) ∷ []) ≡ Some c → first_failing (front ++ (m, k) ∷ []) ≡ Some c
earlier_fails [] m c k h = cc
earlier_fails (rule ∷ rest) m c k h = (elim rule.0 as (λ b. cond b (first_failing (rest ++ (true, k) ∷ [])) (Some rule.1) ≡ Some c → cond b (first_failing (rest ++ (m, k) ∷ [])) (Some rule.1) ≡ Some c) [ true ↦ λ g. earlier_fails rest m c k g | false ↦ λ g. g ]) h

last_fails : (front : List (Bool × ReturnCode)) (k : ReturnCode) → first_failing (front ++ (true, k) ∷ []) ≡ None → first_failing (front ++ (false, k) ∷ []) ≡ Some k
last_fails [] k h = refl
last_fails (rule ∷ rest) k h = (elim rule.0 as (λ b. cond b (first_failing (rest ++ (true, k) ∷ [])) (Some rule.1) ≡ None → cond b (first_failing (rest ++ (false, k) ∷ [])) (Some rule.1) ≡ Some k) [ true ↦ λ g. last_fails rest k g | false ↦ λ g. cc ]) h

-- a rule before that of money refuses whatever the money is
pub refused_before : (x : Option Action) (spec : AccountSpec) (orders : List Order) (ps : List Position) (prices : PriceList) (time_ms : ℤ) (m : Bool) (r : Request) (c : ReturnCode) → refusal_by x spec orders ps prices time_ms true r ≡ Some c → refusal_by x spec orders ps prices time_ms m r ≡ Some c
refused_before None spec orders ps prices time_ms m r c h = h
refused_before (Some action.Deal) spec orders ps prices time_ms m r c h =
    earlier_fails (take 9 (deal_rules spec.hedging (place_of spec.specs r.symbol) (slice_get spec.specs (place_of spec.specs r.symbol)) (prices_at prices (place_of spec.specs r.symbol)) (item position_ticket r.position ps) true r)) m c code.NoMoney h
refused_before (Some action.Pending) spec orders ps prices time_ms m r c h = h
refused_before (Some action.Sltp) spec orders ps prices time_ms m r c h = h
refused_before (Some action.Modify) spec orders ps prices time_ms m r c h = h
refused_before (Some action.Remove) spec orders ps prices time_ms m r c h = h
refused_before (Some action.CloseBy) spec orders ps prices time_ms m r c h = h

deal_some : (order deal : ℕ) (time_ms : ℤ) (place : ℕ) (o : Option (ℤ × ℤ)) (r : Request) → is_some o ≡ true → is_some (deal_act order deal time_ms place o r) ≡ true
deal_some order deal time_ms place None r h = cc
deal_some order deal time_ms place (Some pair) r h = refl

time_known : (now expiration : ℤ) (o : Option OrderTime) → may_expire_so now expiration o ≡ true → is_some o ≡ true
time_known now expiration None h = cc
time_known now expiration (Some t) h = refl

has_time_known : (now : ℤ) (r : Request) → has_time now r ≡ true → is_some (time_of r.type_time) ≡ true
unfolding has_time
has_time_known now r h = time_known now r.expiration (time_of r.type_time) h

pending_some : (ticket : ℕ) (time_ms : ℤ) (place : ℕ) (k : Option OrderKind) (t : Option OrderTime) (r : Request) → is_some k ≡ true → is_some t ≡ true → is_some (pending_act ticket time_ms place k t r) ≡ true
pending_some ticket time_ms place None t r h g = cc
pending_some ticket time_ms place (Some k) None r h g = cc
pending_some ticket time_ms place (Some k) (Some t) r h g = refl

modify_some : (time_ms : ℤ) (t : Option OrderTime) (o : Option Order) (r : Request) → is_some t ≡ true → is_some o ≡ true → is_some (modify_act time_ms t o r) ≡ true
modify_some time_ms None o r h g = cc
modify_some time_ms (Some t) None r h g = cc
modify_some time_ms (Some t) (Some o) r h g = refl

sltp_some : (o : Option Position) (r : Request) → is_some o ≡ true → is_some (sltp_act o r) ≡ true
sltp_some None r h = cc
sltp_some (Some p) r h = refl

-- a request that no rule refuses has something to be done
pub has_act : (x : Option Action) (spec : AccountSpec) (orders : List Order) (ps : List Position) (prices : PriceList) (time_ms : ℤ) (next : Next) (r : Request) → refusal_by x spec orders ps prices time_ms true r ≡ None → is_some (act_by x spec orders ps prices time_ms next r) ≡ true
has_act None spec orders ps prices time_ms next r h = cc
has_act (Some action.Deal) spec orders ps prices time_ms next r h =
    deal_some next.order next.deal time_ms (place_of spec.specs r.symbol) (prices_at prices (place_of spec.specs r.symbol)) r
    (all_hold (deal_rules spec.hedging (place_of spec.specs r.symbol) (slice_get spec.specs (place_of spec.specs r.symbol)) (prices_at prices (place_of spec.specs r.symbol)) (item position_ticket r.position ps) true r) h).1.1.1.1.0
has_act (Some action.Pending) spec orders ps prices time_ms next r h =
    let a : AllHold (pending_rules (slice_get spec.specs (place_of spec.specs r.symbol)) (prices_at prices (place_of spec.specs r.symbol)) (length orders) (second_of time_ms) r) = all_hold (pending_rules (slice_get spec.specs (place_of spec.specs r.symbol)) (prices_at prices (place_of spec.specs r.symbol)) (length orders) (second_of time_ms) r) h in
    pending_some next.order time_ms (place_of spec.specs r.symbol) (pending_kind_of r.kind) (time_of r.type_time) r a.1.0 (has_time_known (second_of time_ms) r a.1.1.1.1.1.1.1.0)
has_act (Some action.Sltp) spec orders ps prices time_ms next r h =
    sltp_some (stops_target spec.hedging ps (place_of spec.specs r.symbol) r) r (all_hold (sltp_rules (stops_target spec.hedging ps (place_of spec.specs r.symbol) r) (symbol_of spec.specs (place_of_position (stops_target spec.hedging ps (place_of spec.specs r.symbol) r))) (prices_of prices (place_of_position (stops_target spec.hedging ps (place_of spec.specs r.symbol) r))) r) h).0
has_act (Some action.Modify) spec orders ps prices time_ms next r h =
    let o : Option Order = order_of orders r in
    let a : AllHold (modify_rules (order_of orders r) (symbol_of spec.specs (place_of_order (order_of orders r))) (prices_of prices (place_of_order (order_of orders r))) (second_of time_ms) r) = all_hold (modify_rules (order_of orders r) (symbol_of spec.specs (place_of_order (order_of orders r))) (prices_of prices (place_of_order (order_of orders r))) (second_of time_ms) r) h in
    modify_some time_ms (time_of r.type_time) (order_of orders r) r (has_time_known (second_of time_ms) r a.1.1.1.1.0) a.0
has_act (Some action.Remove) spec orders ps prices time_ms next r h = refl
has_act (Some action.CloseBy) spec orders ps prices time_ms next r h = refl

-- what is done without a deal asks for no money
pending_free : (j : Journal) (prices : PriceList) (ticket : ℕ) (time_ms : ℤ) (place : ℕ) (k : Option OrderKind) (t : Option OrderTime) (r : Request) → has_money_if j prices (pending_act ticket time_ms place k t r) ≡ true
pending_free j prices ticket time_ms place None t r = refl
pending_free j prices ticket time_ms place (Some k) None r = refl
pending_free j prices ticket time_ms place (Some k) (Some t) r = refl

modify_free : (j : Journal) (prices : PriceList) (time_ms : ℤ) (t : Option OrderTime) (o : Option Order) (r : Request) → has_money_if j prices (modify_act time_ms t o r) ≡ true
modify_free j prices time_ms None o r = refl
modify_free j prices time_ms (Some t) None r = refl
modify_free j prices time_ms (Some t) (Some o) r = refl

sltp_free : (j : Journal) (prices : PriceList) (o : Option Position) (r : Request) → has_money_if j prices (sltp_act o r) ≡ true
sltp_free j prices None r = refl
sltp_free j prices (Some p) r = refl

-- where there is no money for a request that no other rule refuses, that rule refuses it
pub refused_for_money : (x : Option Action) (j : Journal) (spec : AccountSpec) (orders : List Order) (ps : List Position) (prices : PriceList) (time_ms : ℤ) (next : Next) (r : Request) → refusal_by x spec orders ps prices time_ms true r ≡ None → has_money_if j prices (act_by x spec orders ps prices time_ms next r) ≡ false → refusal_by x spec orders ps prices time_ms false r ≡ Some code.NoMoney
refused_for_money None j spec orders ps prices time_ms next r h m = cc
refused_for_money (Some action.Deal) j spec orders ps prices time_ms next r h m =
    last_fails (take 9 (deal_rules spec.hedging (place_of spec.specs r.symbol) (slice_get spec.specs (place_of spec.specs r.symbol)) (prices_at prices (place_of spec.specs r.symbol)) (item position_ticket r.position ps) true r)) code.NoMoney h
refused_for_money (Some action.Pending) j spec orders ps prices time_ms next r h m =
    let f : has_money_if j prices (pending_act next.order time_ms (place_of spec.specs r.symbol) (pending_kind_of r.kind) (time_of r.type_time) r) ≡ true = pending_free j prices next.order time_ms (place_of spec.specs r.symbol) (pending_kind_of r.kind) (time_of r.type_time) r in absurd (differ (sym f ∙ m))
  where
    differ : true ≡ false → ⊥
    differ e = cc
refused_for_money (Some action.Sltp) j spec orders ps prices time_ms next r h m =
    let f : has_money_if j prices (sltp_act (stops_target spec.hedging ps (place_of spec.specs r.symbol) r) r) ≡ true = sltp_free j prices (stops_target spec.hedging ps (place_of spec.specs r.symbol) r) r in absurd (differ (sym f ∙ m))
  where
    differ : true ≡ false → ⊥
    differ e = cc
refused_for_money (Some action.Modify) j spec orders ps prices time_ms next r h m =
    let f : has_money_if j prices (modify_act time_ms (time_of r.type_time) (order_of orders r) r) ≡ true = modify_free j prices time_ms (time_of r.type_time) (order_of orders r) r in absurd (differ (sym f ∙ m))
  where
    differ : true ≡ false → ⊥
    differ e = cc
refused_for_money (Some action.Remove) j spec orders ps prices time_ms next r h m = cc
refused_for_money (Some action.CloseBy) j spec orders ps prices time_ms next r h m = cc

symbol_below : (specs : List SymbolSpec) (i : ℕ) → is_some (slice_get specs i) ≡ true → i < length specs
symbol_below [] i h = cc
symbol_below (s ∷ specs) zero h = omega arith
symbol_below (s ∷ specs) (suc n) h = let k : n < length specs = symbol_below specs n h in omega (arith, k)

symbol_range : (specs : List SymbolSpec) (i : ℕ) → All IsSpec specs → IfSome (slice_get specs i) IsSpec
symbol_range [] i h = tt
symbol_range (s ∷ specs) zero h = h zero s (omega arith)
symbol_range (s ∷ specs) (suc n) h = symbol_range specs n (All-tail IsSpec s specs h)

-- a volume that is one of a symbol's
pub record IsLots (v : ℤ) : Type 0 where
  pub some : pos 0 <ℤ v
  pub most : v ≤ℤ pos (2 ^ 61)

lots : (low v high : ℤ) (b : Bool) → pos 0 <ℤ low → high ≤ℤ pos 100000000000 → (int_le low v && int_le v high && b) ≡ true → IsLots v
lots low v high b l h e =
    let from : int_le low v ≡ true = first (int_le low v) (int_le v high) b e in
    let to : int_le v high ≡ true = second (int_le low v) (int_le v high) b e in
    let f : low ≤ℤ v = grind (arith, ints) in
    let t : v ≤ℤ high = grind (arith, ints) in
    record { some = omega (arith, ints, l, f); most = omega (arith, ints, h, t) }
  where
    first : (a b c : Bool) → (a && b && c) ≡ true → a ≡ true
    first true b c h = refl
    first false b c h = cc

    second : (a b c : Bool) → (a && b && c) ≡ true → b ≡ true
    second true true c h = refl
    second true false c h = cc
    second false b c h = cc

volume_lots : (o : Option SymbolSpec) (v : ℤ) → IfSome o IsSpec → has_volume o v ≡ true → IsLots v
unfolding has_volume is_volume
volume_lots None v h e = cc
volume_lots (Some s) v h e = lots s.volume_min v s.volume_max (is_multiple v s.volume_step) h.volume_min.above h.volume_max.most e

-- a request to deal that no other rule refuses is a fill for which it can be told whether there is money
deal_payable : (j : Journal) (prices : PriceList) (time_ms : ℤ) (next : Next) (r : Request) (m : Bool) (o : Option (ℤ × ℤ)) (a : Act) → All IsSpec j.spec.specs → 0 < next.order → item position_ticket next.order (open_positions j.events) ≡ None
    → AllHold (deal_rules j.spec.hedging (place_of j.spec.specs r.symbol) (slice_get j.spec.specs (place_of j.spec.specs r.symbol)) (prices_at prices (place_of j.spec.specs r.symbol)) (item position_ticket r.position (open_positions j.events)) m r)
    → deal_act next.order next.deal time_ms (place_of j.spec.specs r.symbol) o r ≡ Some a → IsPayable j prices a
deal_payable j prices time_ms next r m None a h n fresh all e = cc
deal_payable j prices time_ms next r m (Some pair) a h n fresh all e =
    let v : IsLots r.volume = volume_lots (slice_get j.spec.specs (place_of j.spec.specs r.symbol)) r.volume (symbol_range j.spec.specs (place_of j.spec.specs r.symbol) h) all.1.1.1.0 in
    let same : act.Deal (fill_of next.order next.deal time_ms (place_of j.spec.specs r.symbol) pair r) ≡ a = grind rules in
    subst (λ (x : Act). IsPayable j prices x) same (record {
      fill = record { symbol = symbol_below j.spec.specs (place_of j.spec.specs r.symbol) all.0; some = v.some; order = λ g. n; fresh = λ g. fresh };
      volume = v.most;
      priced = all.1.1.1.1.0;
    })

pending_payable : (j : Journal) (prices : PriceList) (ticket : ℕ) (time_ms : ℤ) (place : ℕ) (k : Option OrderKind) (t : Option OrderTime) (r : Request) (a : Act) → pending_act ticket time_ms place k t r ≡ Some a → IsPayable j prices a
pending_payable j prices ticket time_ms place None t r a e = cc
pending_payable j prices ticket time_ms place (Some k) None r a e = cc
pending_payable j prices ticket time_ms place (Some k) (Some t) r a e = let same : act.Place (placed_order ticket time_ms place k t r) ≡ a = grind rules in subst (λ (x : Act). IsPayable j prices x) same tt

modify_payable : (j : Journal) (prices : PriceList) (time_ms : ℤ) (t : Option OrderTime) (o : Option Order) (r : Request) (a : Act) → modify_act time_ms t o r ≡ Some a → IsPayable j prices a
modify_payable j prices time_ms None o r a e = cc
modify_payable j prices time_ms (Some t) None r a e = cc
modify_payable j prices time_ms (Some t) (Some o) r a e = let same : act.Change (changed_order time_ms t r o) ≡ a = grind rules in subst (λ (x : Act). IsPayable j prices x) same tt

sltp_payable : (j : Journal) (prices : PriceList) (o : Option Position) (r : Request) (a : Act) → sltp_act o r ≡ Some a → IsPayable j prices a
sltp_payable j prices None r a e = cc
sltp_payable j prices (Some p) r a e = let same : act.SetStops p.ticket r.sl r.tp ≡ a = grind rules in subst (λ (x : Act). IsPayable j prices x) same tt

pub payable : (x : Option Action) (j : Journal) (orders : List Order) (prices : PriceList) (time_ms : ℤ) (next : Next) (r : Request) (a : Act) → All IsSpec j.spec.specs → 0 < next.order → item position_ticket next.order (open_positions j.events) ≡ None → refusal_by x j.spec orders (open_positions j.events) prices time_ms true r ≡ None → act_by x j.spec orders (open_positions j.events) prices time_ms next r ≡ Some a → IsPayable j prices a
payable None j orders prices time_ms next r a s n fresh h e = cc
payable (Some action.Deal) j orders prices time_ms next r a s n fresh h e =
    deal_payable j prices time_ms next r true (prices_at prices (place_of j.spec.specs r.symbol)) a s n fresh
    (all_hold (deal_rules j.spec.hedging (place_of j.spec.specs r.symbol) (slice_get j.spec.specs (place_of j.spec.specs r.symbol)) (prices_at prices (place_of j.spec.specs r.symbol)) (item position_ticket r.position (open_positions j.events)) true r) h) e
payable (Some action.Pending) j orders prices time_ms next r a s n fresh h e = pending_payable j prices next.order time_ms (place_of j.spec.specs r.symbol) (pending_kind_of r.kind) (time_of r.type_time) r a e
payable (Some action.Sltp) j orders prices time_ms next r a s n fresh h e = sltp_payable j prices (stops_target j.spec.hedging (open_positions j.events) (place_of j.spec.specs r.symbol) r) r a e
payable (Some action.Modify) j orders prices time_ms next r a s n fresh h e = modify_payable j prices time_ms (time_of r.type_time) (order_of orders r) r a e
payable (Some action.Remove) j orders prices time_ms next r a s n fresh h e = let same : act.Remove r.order ≡ a = grind rules in subst (λ (x : Act). IsPayable j prices x) same tt
payable (Some action.CloseBy) j orders prices time_ms next r a s n fresh h e = let same : act.CloseBy r.position r.position_by (fill_of next.order next.deal time_ms 0 (pos 0, pos 0) r) ≡ a = grind rules in subst (λ (x : Act). IsPayable j prices x) same tt

-- the same of equal accounts, positions and times
pub refused_at : (j : Journal) (s : AccountSpec) (orders : List Order) (ps : List Position) (prices : PriceList) (time_ms time : ℤ) (next : Next) (r : Request) (c : ReturnCode) → time ≡ time_ms → s ≡ j.spec → ps ≡ open_positions j.events → Some c ≡ refusal s orders ps prices time true r → refusal_of j orders prices time_ms next r ≡ Some c
refused_at j s orders ps prices time_ms time next r c w e g h =
    let k : refusal s orders ps prices time true r ≡ refusal j.spec orders (open_positions j.events) prices time_ms true r = ap (λ (z : ℤ). refusal s orders ps prices z true r) w ∙ ap (λ (x : AccountSpec). refusal x orders ps prices time_ms true r) e ∙ ap (λ (xs : List Position). refusal j.spec orders xs prices time_ms true r) g in
    refused_before (action_of r.action) j.spec orders (open_positions j.events) prices time_ms (has_money_if j prices (todo j orders prices time_ms next r)) r c (sym (h ∙ k))

todo_at : (j : Journal) (s : AccountSpec) (orders : List Order) (ps : List Position) (prices : PriceList) (time_ms time : ℤ) (next : Next) (r : Request) (o : Option Act) → time ≡ time_ms → s ≡ j.spec → ps ≡ open_positions j.events → o ≡ act_of s orders ps prices time next r → todo j orders prices time_ms next r ≡ o
todo_at j s orders ps prices time_ms time next r o w e g h =
    sym (h ∙ ap (λ (z : ℤ). act_of s orders ps prices z next r) w ∙ ap (λ (x : AccountSpec). act_of x orders ps prices time_ms next r) e ∙ ap (λ (xs : List Position). act_of j.spec orders xs prices time_ms next r) g)

pub none_left : (j : Journal) (s : AccountSpec) (orders : List Order) (ps : List Position) (prices : PriceList) (time_ms time : ℤ) (next : Next) (r : Request) → time ≡ time_ms → s ≡ j.spec → ps ≡ open_positions j.events → refusal j.spec orders (open_positions j.events) prices time_ms true r ≡ None → None ≡ act_of s orders ps prices time next r → ⊥
none_left j s orders ps prices time_ms time next r w e g h k =
    differ (sym (ap (λ (o : Option Act). is_some o) (todo_at j s orders ps prices time_ms time next r None w e g k)) ∙ has_act (action_of r.action) j.spec orders (open_positions j.events) prices time_ms next r h)
  where
    differ : false ≡ true → ⊥
    differ f = cc

pub payable_at : (j : Journal) (s : AccountSpec) (orders : List Order) (ps : List Position) (prices : PriceList) (time_ms time : ℤ) (next : Next) (r : Request) (a : Act) → time ≡ time_ms → s ≡ j.spec → ps ≡ open_positions j.events → All IsSpec j.spec.specs → 0 < next.order → item position_ticket next.order (open_positions j.events) ≡ None → refusal j.spec orders (open_positions j.events) prices time_ms true r ≡ None → Some a ≡ act_of s orders ps prices time next r → IsPayable j prices a
payable_at j s orders ps prices time_ms time next r a w e g all n fresh h k =
    payable (action_of r.action) j orders prices time_ms next r a all n fresh h (todo_at j s orders ps prices time_ms time next r (Some a) w e g k)

pub poor_at : (j : Journal) (s : AccountSpec) (orders : List Order) (ps : List Position) (prices : PriceList) (time_ms time : ℤ) (next : Next) (r : Request) (a : Act) (b : Bool) → time ≡ time_ms → s ≡ j.spec → ps ≡ open_positions j.events → refusal j.spec orders (open_positions j.events) prices time_ms true r ≡ None → Some a ≡ act_of s orders ps prices time next r → b ≡ has_money_to j prices a → b ≡ false → refusal_of j orders prices time_ms next r ≡ Some code.NoMoney
poor_at j s orders ps prices time_ms time next r a b w e g h k m f =
    let poor : has_money_if j prices (todo j orders prices time_ms next r) ≡ false = ap (λ (o : Option Act). has_money_if j prices o) (todo_at j s orders ps prices time_ms time next r (Some a) w e g k) ∙ sym m ∙ f in
    ap (λ (x : Bool). refusal j.spec orders (open_positions j.events) prices time_ms x r) poor
    ∙ refused_for_money (action_of r.action) j j.spec orders (open_positions j.events) prices time_ms next r h poor
