-- Orders and positions stay apart, and under netting each symbol has one position at most.
use Rattle.std.proofs.Common.{◌≡◌, ◌∙◌, ℕ, Bool, true, false, cond, eqb, List, [], ◌∷◌, Option, Some, None, pos, refl, ap, sym, subst, arith, rules, is_some}
use Rattle.std.specs.Option.{option_map}
use Rattle.account.specs.declared.account_spec.AccountSpec.{AccountSpec}
use Rattle.account.specs.declared.event.Event.{Event}
use Rattle.account.specs.declared.event.Event.TheVariants.{Added}
use Rattle.account.specs.Journal.{deposit_deal}
use Rattle.account.specs.declared.order.Order.{Order}
use Rattle.account.specs.declared.position.Position.{Position}
use Rattle.account.specs.Keyed.{item, put, KeyIs}
use Rattle.account.specs.Orders.{orders_in_force, order_ticket, triggered, is_stop_limit, triggered_kind}
use Rattle.account.specs.Positions.{open_positions, position_ticket}
use Rattle.account.proofs.Keys.{item-put, item-put-other, item_key}
use Rattle.account.proofs.Conserved.{quiet-key}
use Rattle.desk.specs.Sound.{AreApart, IsUnique, IsSole, IsTidy}

-- what stands at a ticket after a change at another, or at the same
item_after : {X : Type 0} (key : X → ℕ) (t u : ℕ) (new : Option X) (xs : List X) → KeyIs key u new → item key t (put key u new xs) ≡ cond (eqb u t) new (item key t xs)
item_after {X} key t u new xs k =
    (elim (eqb u t) as (λ b. eqb u t ≡ b → item key t (put key u new xs) ≡ cond b new (item key t xs)) [
      | true ↦ λ e. let same : u ≡ t = grind arith in subst (λ (n : ℕ). item key n (put key u new xs) ≡ new) same (item-put key u new xs k)
      | false ↦ λ e. item-put-other key u t new xs k e
    ]) refl

some_of : {X : Type 0} (o : Option X) (x : X) → o ≡ Some x → is_some o ≡ true
some_of o x e = ap is_some e

none_some : {X : Type 0} (o : Option X) → o ≡ None → is_some o ≡ true → ⊥
none_some None e h = cc
none_some (Some x) e h = cc

-- a change of positions at a ticket that no order has
pub apart_changed : (os : List Order) (ps : List Position) (u : ℕ) (new : Option Position) → KeyIs position_ticket u new → item order_ticket u os ≡ None → AreApart os ps → AreApart os (put position_ticket u new ps)
apart_changed os ps u new k n a = λ t h.
    item_after position_ticket t u new ps k ∙
    (elim (eqb u t) as (λ b. eqb u t ≡ b → cond b new (item position_ticket t ps) ≡ None) [
      | true ↦ λ e. let same : u ≡ t = grind arith in absurd (none_some (item order_ticket t os) (subst (λ (m : ℕ). item order_ticket m os ≡ None) same n) h)
      | false ↦ λ e. a t h
    ]) refl

map_none : {X : Type 0} (f : X → X) (o : Option X) → o ≡ None → option_map f o ≡ None
map_none f None e = refl
map_none f (Some x) e = cc

-- a change of the position of a ticket, where there is one
pub apart_mapped : (os : List Order) (ps : List Position) (u : ℕ) (f : Position → Position) → ((p : Position) → (f p).ticket ≡ p.ticket) → AreApart os ps → AreApart os (put position_ticket u (option_map f (item position_ticket u ps)) ps)
apart_mapped os ps u f keep a = λ t h.
    item_after position_ticket t u (option_map f (item position_ticket u ps)) ps (quiet-key f u (item position_ticket u ps) keep (item_key position_ticket u ps)) ∙
    (elim (eqb u t) as (λ b. eqb u t ≡ b → cond b (option_map f (item position_ticket u ps)) (item position_ticket t ps) ≡ None) [
      | true ↦ λ e. let same : u ≡ t = grind arith in map_none f (item position_ticket u ps) (subst (λ (m : ℕ). item position_ticket m ps ≡ None) (sym same) (a t h))
      | false ↦ λ e. a t h
    ]) refl

-- a new order
pub apart_placed : (os : List Order) (ps : List Position) (o : Order) → item position_ticket o.ticket ps ≡ None → AreApart os ps → AreApart (put order_ticket o.ticket (Some o) os) ps
apart_placed os ps o n a = λ t h.
    (elim (eqb o.ticket t) as (λ b. eqb o.ticket t ≡ b → is_some (cond b (Some o) (item order_ticket t os)) ≡ true → item position_ticket t ps ≡ None) [
      | true ↦ λ e g. let same : o.ticket ≡ t = grind arith in subst (λ (m : ℕ). item position_ticket m ps ≡ None) same n
      | false ↦ λ e g. a t g
    ]) refl (ap is_some (sym (item_after order_ticket t o.ticket (Some o) os refl)) ∙ h)

-- an order less
pub apart_removed : (os : List Order) (ps : List Position) (u : ℕ) → AreApart os ps → AreApart (put order_ticket u None os) ps
apart_removed os ps u a = λ t h.
    (elim (eqb u t) as (λ b. is_some (cond b None (item order_ticket t os)) ≡ true → item position_ticket t ps ≡ None) [
      | true ↦ λ g. cc
      | false ↦ λ g. a t g
    ]) (ap is_some (sym (item_after order_ticket t u None os tt)) ∙ h)

map_some : {X : Type 0} (f : X → X) (o : Option X) → is_some (option_map f o) ≡ is_some o
map_some f None = refl
map_some f (Some x) = refl

order_key : (f : Order → Order) (u : ℕ) (o : Option Order) → ((x : Order) → (f x).ticket ≡ x.ticket) → KeyIs order_ticket u o → KeyIs order_ticket u (option_map f o)
order_key f u None e k = tt
order_key f u (Some x) e k = e x ∙ k

-- an order that changes
pub apart_altered : (os : List Order) (ps : List Position) (u : ℕ) (f : Order → Order) → ((x : Order) → (f x).ticket ≡ x.ticket) → AreApart os ps → AreApart (put order_ticket u (option_map f (item order_ticket u os)) os) ps
apart_altered os ps u f keep a = λ t h.
    (elim (eqb u t) as (λ b. eqb u t ≡ b → is_some (cond b (option_map f (item order_ticket u os)) (item order_ticket t os)) ≡ true → item position_ticket t ps ≡ None) [
      | true ↦ λ e g. let same : u ≡ t = grind arith in a t (subst (λ (m : ℕ). is_some (item order_ticket m os) ≡ true) same (sym (map_some f (item order_ticket u os)) ∙ g))
      | false ↦ λ e g. a t g
    ]) refl (ap is_some (sym (item_after order_ticket t u (option_map f (item order_ticket u os)) os (order_key f u (item order_ticket u os) keep (item_key order_ticket u os)))) ∙ h)

pub triggered_ticket : (o : Order) → (triggered o).ticket ≡ o.ticket
triggered_ticket o = elim (is_stop_limit o.kind) as (λ b. (cond b (record o { kind = triggered_kind o.kind; price = o.stoplimit; stoplimit = pos 0 }) o).ticket ≡ o.ticket) [ true ↦ refl | false ↦ refl ]

pub unique_changed : (ps : List Position) (u : ℕ) (new : Option Position) → KeyIs position_ticket u new → IsSole ps u new → IsUnique ps → IsUnique (put position_ticket u new ps)
unique_changed ps u new k s i = λ t v p q e f h.
    let e' : cond (eqb u t) new (item position_ticket t ps) ≡ Some p = sym (item_after position_ticket t u new ps k) ∙ e in
    let f' : cond (eqb u v) new (item position_ticket v ps) ≡ Some q = sym (item_after position_ticket v u new ps k) ∙ f in
    (elim (eqb u t) as (λ a. eqb u t ≡ a → cond a new (item position_ticket t ps) ≡ Some p → t ≡ v) [
      | true ↦ λ x ex. let ut : u ≡ t = grind arith in
          (elim (eqb u v) as (λ b. eqb u v ≡ b → cond b new (item position_ticket v ps) ≡ Some q → t ≡ v) [
            | true ↦ λ y fy. let uv : u ≡ v = grind arith in sym ut ∙ uv
            | false ↦ λ y fy. absurd (crossed ps u v new p q s i y ex fy h)
          ]) refl f'
      | false ↦ λ x ex.
          (elim (eqb u v) as (λ b. eqb u v ≡ b → cond b new (item position_ticket v ps) ≡ Some q → t ≡ v) [
            | true ↦ λ y fy. absurd (crossed ps u t new q p s i x fy ex (sym h))
            | false ↦ λ y fy. i t v p q ex fy h
          ]) refl f'
    ]) refl e'
  where
    not_same : (n : ℕ) → eqb n n ≡ false → ⊥
    not_same n h = let e : eqb n n ≡ true = grind arith in cc

    by_item : (ps : List Position) (u v : ℕ) (new : Option Position) (p q : Position) (x : Option Position) → IsSole ps u new → IsUnique ps → eqb u v ≡ false → new ≡ Some p → item position_ticket v ps ≡ Some q → p.symbol ≡ q.symbol → item position_ticket u ps ≡ x → ⊥
    by_item ps u v new p q None s i y ex fy h g = s.sole p q v g ex fy (sym h)
    by_item ps u v new p q (Some r) s i y ex fy h g = let same : u ≡ v = i u v r q g fy (sym (s.kept r p g ex) ∙ h) in not_same u (subst (λ (n : ℕ). eqb u n ≡ false) (sym same) y)

    crossed : (ps : List Position) (u v : ℕ) (new : Option Position) (p q : Position) → IsSole ps u new → IsUnique ps → eqb u v ≡ false → new ≡ Some p → item position_ticket v ps ≡ Some q → p.symbol ≡ q.symbol → ⊥
    crossed ps u v new p q s i y ex fy h = by_item ps u v new p q (item position_ticket u ps) s i y ex fy h refl

-- a change that keeps the symbol
pub sole_mapped : (ps : List Position) (u : ℕ) (f : Position → Position) → ((p : Position) → (f p).symbol ≡ p.symbol) → IsSole ps u (option_map f (item position_ticket u ps))
sole_mapped ps u f keep = record {
  kept = λ p q e n. by_map (item position_ticket u ps) p q e n;
  sole = λ q r t e n g h. none_mapped (item position_ticket u ps) q e n;
}
  where
    by_map : (o : Option Position) (p q : Position) → o ≡ Some p → option_map f o ≡ Some q → q.symbol ≡ p.symbol
    by_map None p q e n = cc
    by_map (Some x) p q e n = let a : x ≡ p = grind rules in let c : f x ≡ q = grind rules in ap (λ (y : Position). y.symbol) (sym c) ∙ keep x ∙ ap (λ (y : Position). y.symbol) a

    none_mapped : (o : Option Position) (q : Position) → o ≡ None → option_map f o ≡ Some q → ⊥
    none_mapped None q e n = cc
    none_mapped (Some x) q e n = cc

-- nothing stands yet
pub begun_tidy : (spec : AccountSpec) (es : List Event) (hedging : Bool) → es ≡ Added (deposit_deal spec) ∷ [] → IsTidy hedging (orders_in_force es) (open_positions es)
begun_tidy spec es hedging e = rw e (record { apart = λ t h. cc; unique = λ g t u p q a c s. cc })
