-- A fill that may be done is one that the rule takes, and its events may be added.
use Rattle.std.proofs.Common.{◌≡◌, ◌∙◌, ◌<◌, ◌++◌, Bool, false, List, [], length, fold, Option, Result, Ok, Err, refl, ap, sym, subst}
use Rattle.std.specs.Prelude.{is_err, IfSome}
use Rattle.std.proofs.lemmas.List.Sums.{fold-append}
use Rattle.market_types.specs.declared.symbol_spec.SymbolSpec.{SymbolSpec}
use Rattle.account.specs.declared.position.Position.{Position}
use Rattle.account.specs.declared.event.Event.{Event}
use Rattle.account.specs.Deals.{deals}
use Rattle.account.specs.Positions.{position_ticket, positions_after, open_positions}
use Rattle.account.proofs.Found.{all_item}
use Rattle.account.proofs.Kept.{rising_open}
use Rattle.positions.specs.declared.fill.Fill.{Fill}
use Rattle.positions.specs.declared.fill.FillFault.{FillFault}
use Rattle.positions.specs.Fills.{deal_on, met, filled, Leaves, IsFill, MayAdd}
use Rattle.positions.proofs.Filling.{met_item}
use Rattle.desk.specs.State.{Quoted}
use Rattle.desk.specs.Sound.{IsKept, IsSound, AreQuoted, MayFollow}
use Rattle.desk.specs.Books.{with_more, IsRuleOf, fill_events, IsFillable}
use Rattle.desk.specs.Tickets.{last_order}
use Rattle.desk.proofs.Fits.{may_add, fill_follows}

-- what the rule asks for
pub is_fill : (hedging : Bool) (specs : List SymbolSpec) (ps : List Position) (q : Quoted) (f : Fill) → IsRuleOf hedging specs ps q → IsFillable q f → IsFill hedging specs ps f
is_fill hedging specs ps q f r h = rw r.kind (rw r.symbols (rw r.positions (record { symbol = h.may.symbol; some = h.may.some; order = h.order; fresh = h.fresh })))

-- what a fill meets is kept
met_kept : (q : Quoted) (f : Fill) → IsSound q.spec q.prices q.times q.events → IsFillable q f → IfSome (met q.spec.hedging (open_positions q.events) f) (IsKept q.spec q.prices q.times (last_order q.events) (length (deals q.events)))
met_kept q f s h =
    subst (λ (x : Option Position). IfSome x (IsKept q.spec q.prices q.times (last_order q.events) (length (deals q.events)))) (met_item q.spec.hedging q.spec.specs (open_positions q.events) f (rising_open q.events) h.fresh)
    (all_item (IsKept q.spec q.prices q.times (last_order q.events) (length (deals q.events))) position_ticket (deal_on q.spec.specs f (met q.spec.hedging (open_positions q.events) f)).position (open_positions q.events) s.positions)

pub may_add_at : (hedging : Bool) (specs : List SymbolSpec) (ps : List Position) (q : Quoted) (f : Fill) → IsRuleOf hedging specs ps q → IsSound q.spec q.prices q.times q.events → IsFillable q f → MayAdd f (met hedging ps f)
may_add_at hedging specs ps q f r s h =
    rw r.kind (rw r.positions (may_add q.spec q.prices q.times (last_order q.events) (length (deals q.events)) f (met q.spec.hedging (open_positions q.events) f) s.few h.may (met_kept q f s h)))

-- the answer of the fill
answered : (hedging : Bool) (specs : List SymbolSpec) (ps : List Position) (q : Quoted) (f : Fill) → IsRuleOf hedging specs ps q → IsFillable q f → filled hedging specs ps f ≡ Ok (fill_events f q)
answered hedging specs ps q f r h = rw r.kind (rw r.symbols (rw r.positions (rw h.accepted refl)))

pub left_ok : {X : Type 0} (r : Result X FillFault) (es : List Event) (ps ps' : List Position) (out out' : List Event) → is_err r ≡ false → Leaves (Ok es) r ps ps' out out' → (out' ≡ out ++ es) × (ps' ≡ fold positions_after ps es)
left_ok (Ok x) es ps ps' out out' e l = l
left_ok (Err x) es ps ps' out out' e l = cc

-- the events that a fill hands out
pub out_is : {X : Type 0} (hedging : Bool) (specs : List SymbolSpec) (ps ps' : List Position) (q : Quoted) (f : Fill) (r : Result X FillFault) (out out' : List Event) → IsRuleOf hedging specs ps q → IsFillable q f → is_err r ≡ false → out ≡ [] → Leaves (filled hedging specs ps f) r ps ps' out out' → (out' ≡ fill_events f q) × (ps' ≡ fold positions_after ps (fill_events f q))
out_is {X} hedging specs ps ps' q f r out out' rule h e n l =
    let m : Leaves (Ok (fill_events f q)) r ps ps' out out' = subst (λ (a : Result (List Event) FillFault). Leaves a r ps ps' out out') (answered hedging specs ps q f rule h) l in
    let k : (out' ≡ out ++ fill_events f q) × (ps' ≡ fold positions_after ps (fill_events f q)) = left_ok r (fill_events f q) ps ps' out out' e m in
    (k.0 ∙ ap (λ (x : List Event). x ++ fill_events f q) n, k.1)

pub out_follows : (q : Quoted) (f : Fill) (out : List Event) → AreQuoted q.spec q.prices q.times → IsSound q.spec q.prices q.times q.events → length (deals q.events) < 50000 → IsFillable q f → out ≡ fill_events f q → MayFollow q.spec q.prices q.times q.events out
out_follows q f out a s l h e = rw e (fill_follows q.spec q.prices q.times q.events f a s l h.may h.order h.fresh h.alone)

-- the rule goes on with the journal
pub goes_on : (hedging hedging' : Bool) (specs specs' : List SymbolSpec) (ps ps' : List Position) (q q' : Quoted) (f : Fill) → IsRuleOf hedging specs ps q → hedging' ≡ hedging → specs' ≡ specs → ps' ≡ fold positions_after ps (fill_events f q) → q' ≡ with_more (fill_events f q) q → IsRuleOf hedging' specs' ps' q'
goes_on hedging hedging' specs specs' ps ps' q q' f r k s p e =
    rw e (record {
      kind = k ∙ r.kind;
      symbols = s ∙ r.symbols;
      positions = p ∙ ap (λ (xs : List Position). fold positions_after xs (fill_events f q)) r.positions ∙ sym (fold-append positions_after [] q.events (fill_events f q));
    })
