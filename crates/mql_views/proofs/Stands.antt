-- A view against the expression of its form: one step a cut.
use Rattle.std.proofs.Common.{◌≡◌, ℕ, zero, suc, ◌+◌, Bool, true, false, cond, List, [], ◌∷◌, ◌++◌, map, length, take, drop, Option, Some, None, is_some, refl, sym, ap, subst, ◌∙◌, ◌⊎◌, inl, inr, if◌then◌else◌, nat_eq, arith, append_assoc}
use Rattle.std.proofs.lemmas.Bool.{eqb-true}
use Rattle.std.specs.Prelude.{option_map}
use Rattle.mql_forms.specs.Numbers.{form_number}
use Rattle.mql_forms.specs.declared.form.Form.{Form}
use Rattle.mql_grammar.specs.Table.{listed, both}
use Rattle.mql_grammar.specs.Forms.{Head, of_class, of_form}
use Rattle.mql_grammar.specs.Expression.{Expression, part, stub, nothing, never, seq, either, many, among, IsOne, InRow, Times, Matches}
use Rattle.mql_grammar.specs.Expressions.{a, a_token, a_node, one}
use Rattle.mql_grammar.specs.Numbers.{class_number}
use Rattle.mql_grammar.specs.declared.token_class.Class.{Class}
use Rattle.mql_grammar.proofs.Derivatives.{MatchesAll, Edge, Goes, firsts_all, goes_all, nullable_all, all_empty}
use Rattle.mql_views.specs.Parts.{Part}
use Rattle.mql_views.specs.Laws.{heads}
use Rattle.mql_views.specs.Cuts.{on, is, run, until, must, next, last, sign, ended, may, may_be, up_to, all_to}

-- lists that share no number
abbrev pub apart : List ℕ → List ℕ → Bool
apart [] ys = true
apart (x ∷ xs) ys = elim (listed x ys) [ true ↦ false | false ↦ apart xs ys ]

-- a list whose numbers are all in another
abbrev pub within : List ℕ → List ℕ → Bool
within [] ys = true
within (x ∷ xs) ys = both (listed x ys) (λ _. within xs ys)

false_true : {B : Type 0} → false ≡ true → B
false_true e = absurd (let f : false ≡ true → ⊥ = λ e. cc in f e)

away_one : (x n : ℕ) (xs ys : List ℕ) → elim (listed x ys) [ true ↦ false | false ↦ apart xs ys ] ≡ true → nat_eq x n ≡ true → listed n ys ≡ false
away_one x n xs ys h e =
    subst (λ m. listed m ys ≡ false) (eqb-true x n e)
    ((elim (listed x ys) as (λ b. elim b [ true ↦ false | false ↦ apart xs ys ] ≡ true → b ≡ false) [ true ↦ λ h. false_true h | false ↦ λ h. refl ]) h)

apart_rest : (b : Bool) (xs ys : List ℕ) → elim b [ true ↦ false | false ↦ apart xs ys ] ≡ true → apart xs ys ≡ true
apart_rest true xs ys h = false_true h
apart_rest false xs ys h = h

pub away : (n : ℕ) (xs ys : List ℕ) → apart xs ys ≡ true → listed n xs ≡ true → listed n ys ≡ false
away n [] ys h l = false_true l
away n (x ∷ xs) ys h l =
    (elim (nat_eq x n) as (λ b. nat_eq x n ≡ b → elim b [ true ↦ true | false ↦ listed n xs ] ≡ true → listed n ys ≡ false) [
      | true ↦ λ e l. away_one x n xs ys h e
      | false ↦ λ e l. away n xs ys (apart_rest (listed x ys) xs ys h) l
    ]) refl l

pub both_two : (b c : Bool) → both b (λ _. c) ≡ true → (b ≡ true) × (c ≡ true)
both_two true c e = (refl, e)
both_two false c e = false_true e

pub inside : (n : ℕ) (xs ys : List ℕ) → within xs ys ≡ true → listed n xs ≡ true → listed n ys ≡ true
inside n [] ys h l = false_true l
inside n (x ∷ xs) ys h l =
    let two = both_two (listed x ys) (within xs ys) h in
    (elim (nat_eq x n) as (λ b. nat_eq x n ≡ b → elim b [ true ↦ true | false ↦ listed n xs ] ≡ true → listed n ys ≡ true) [
      | true ↦ λ e l. subst (λ m. listed m ys ≡ true) (eqb-true x n e) two.0
      | false ↦ λ e l. inside n xs ys two.1 l
    ]) refl l

-- no part of a match is one of these
abbrev pub avoids : List ℕ → List ℕ → Expression → Bool
avoids cs fs (part ds gs) = both (apart ds cs) (λ _. apart gs fs)
avoids cs fs (stub ds) = true
avoids cs fs nothing = true
avoids cs fs never = true
avoids cs fs (seq d e) = both (avoids cs fs d) (λ _. avoids cs fs e)
avoids cs fs (either d e) = both (avoids cs fs d) (λ _. avoids cs fs e)
avoids cs fs (many e) = avoids cs fs e

abbrev pub AllAway : List ℕ → List ℕ → List Head → Type 0
AllAway cs fs [] = Unit {0}
AllAway cs fs (h ∷ hs) = (among cs fs h ≡ false) × AllAway cs fs hs

pub away_head : (cs fs ds gs : List ℕ) (h : Head) → apart ds cs ≡ true → apart gs fs ≡ true → among ds gs h ≡ true → among cs fs h ≡ false
away_head cs fs ds gs (of_class c) hc hf m = away c ds cs hc m
away_head cs fs ds gs (of_form f) hc hf m = away f gs fs hf m

pub inside_head : (cs fs ds gs : List ℕ) (h : Head) → within ds cs ≡ true → within gs fs ≡ true → among ds gs h ≡ true → among cs fs h ≡ true
inside_head cs fs ds gs (of_class c) hc hf m = inside c ds cs hc m
inside_head cs fs ds gs (of_form f) hc hf m = inside f gs fs hf m

away_join : (cs fs : List ℕ) (us vs : List Head) → AllAway cs fs us → AllAway cs fs vs → AllAway cs fs (us ++ vs)
away_join cs fs [] vs p q = q
away_join cs fs (u ∷ us) vs p q = (p.0, away_join cs fs us vs p.1 q)

away_row : (cs fs : List ℕ) (P Q : List Head → Type 0) → ((us : List Head) → P us → AllAway cs fs us) → ((us : List Head) → Q us → AllAway cs fs us) → (hs : List Head) → InRow P Q hs → AllAway cs fs hs
away_row cs fs P Q p q hs m = subst (AllAway cs fs) (sym m.2) (away_join cs fs m.0 m.1 (p m.0 m.3) (q m.1 m.4))

away_times : (cs fs : List ℕ) (P : List Head → Type 0) → ((us : List Head) → P us → AllAway cs fs us) → (n : ℕ) (hs : List Head) → Times n P hs → AllAway cs fs hs
away_times cs fs P p zero hs m = subst (AllAway cs fs) (sym m) tt
away_times cs fs P p (suc n) hs m = away_row cs fs P (Times n P) p (away_times cs fs P p n) hs m

away_part : (cs fs ds gs : List ℕ) → apart ds cs ≡ true → apart gs fs ≡ true → (hs : List Head) → IsOne ds gs hs → AllAway cs fs hs
away_part cs fs ds gs hc hf [] m = absurd m
away_part cs fs ds gs hc hf (h ∷ []) m = (away_head cs fs ds gs h hc hf m, tt)
away_part cs fs ds gs hc hf (h ∷ k ∷ hs) m = absurd m

pub all_away : (cs fs : List ℕ) (e : Expression) → avoids cs fs e ≡ true → (hs : List Head) → Matches e hs → AllAway cs fs hs
all_away cs fs (part ds gs) h hs m = let two = both_two (apart ds cs) (apart gs fs) h in away_part cs fs ds gs two.0 two.1 hs m
all_away cs fs (stub ds) h hs m = absurd m
all_away cs fs nothing h hs m = subst (AllAway cs fs) (sym m) tt
all_away cs fs never h hs m = absurd m
all_away cs fs (seq d e) h hs m = let two = both_two (avoids cs fs d) (avoids cs fs e) h in away_row cs fs (Matches d) (Matches e) (all_away cs fs d two.0) (all_away cs fs e two.1) hs m
all_away cs fs (either d e) h hs (inl m) = all_away cs fs d (both_two (avoids cs fs d) (avoids cs fs e) h).0 hs m
all_away cs fs (either d e) h hs (inr m) = all_away cs fs e (both_two (avoids cs fs d) (avoids cs fs e) h).1 hs m
all_away cs fs (many e) h hs m = away_times cs fs (Matches e) (all_away cs fs e h) m.0 hs m.1

-- the first part of what is left is none of these
abbrev pub edges_away : List ℕ → List ℕ → List Edge → Bool
edges_away cs fs [] = true
edges_away cs fs (e ∷ es) = both (both (apart e.classes cs) (λ _. apart e.forms fs)) (λ _. edges_away cs fs es)

gone_away : (cs fs : List ℕ) (es : List Edge) (h : Head) (hs : List Head) → edges_away cs fs es ≡ true → Goes MatchesAll es h hs → among cs fs h ≡ false
gone_away cs fs [] h hs d g = absurd g
gone_away cs fs (e ∷ es) h hs d (inl x) =
    let two = both_two (both (apart e.classes cs) (λ _. apart e.forms fs)) (edges_away cs fs es) d in
    let ends = both_two (apart e.classes cs) (apart e.forms fs) two.0 in
    away_head cs fs e.classes e.forms h ends.0 ends.1 x.0
gone_away cs fs (e ∷ es) h hs d (inr g) = gone_away cs fs es h hs (both_two (both (apart e.classes cs) (λ _. apart e.forms fs)) (edges_away cs fs es) d).1 g

pub first_away : (cs fs : List ℕ) (es : List Expression) → edges_away cs fs (firsts_all es) ≡ true → (h : Head) (hs : List Head) → MatchesAll es (h ∷ hs) → among cs fs h ≡ false
first_away cs fs es d h hs m = gone_away cs fs (firsts_all es) h hs d (goes_all es h hs m)

-- a row of expressions is a match of each in turn
pub all_of : (e : Expression) (hs : List Head) → Matches e hs → MatchesAll (e ∷ []) hs
all_of e hs m = (hs, [], append_nil hs, m, refl)
  where
    append_nil : (hs : List Head) → hs ≡ hs ++ []
    append_nil [] = refl
    append_nil (h ∷ hs) = ap (λ us. h ∷ us) (append_nil hs)

-- an expression before others, its own rows as parts of the list
abbrev pub flat : Expression → List Expression → List Expression
flat (seq d e) es = flat d (flat e es)
flat (part cs fs) es = part cs fs ∷ es
flat (stub cs) es = stub cs ∷ es
flat nothing es = es
flat never es = never ∷ es
flat (either d e) es = either d e ∷ es
flat (many e) es = many e ∷ es

-- `seq d e` before others
pub opened : (d e : Expression) (es : List Expression) (hs : List Head) → MatchesAll (seq d e ∷ es) hs → MatchesAll (d ∷ e ∷ es) hs
opened d e es hs m =
    let n = m.3 in
    (n.0, n.1 ++ m.1, m.2 ∙ ap (λ us. us ++ m.1) n.2 ∙ append_assoc n.0 n.1 m.1, n.3, (n.1, m.1, refl, n.4, m.4))

pub flattened : (e : Expression) (es : List Expression) (hs : List Head) → MatchesAll (e ∷ es) hs → MatchesAll (flat e es) hs
flattened (seq d e) es hs m =
    let o = opened d e es hs m in
    flattened d (flat e es) hs (o.0, o.1, o.2, o.3, flattened e es o.1 o.4)
flattened (part cs fs) es hs m = m
flattened (stub cs) es hs m = m
flattened nothing es hs m = subst (MatchesAll es) (sym (m.2 ∙ ap (λ us. us ++ m.1) m.3)) m.4
flattened never es hs m = m
flattened (either d e) es hs m = m
flattened (many e) es hs m = m

-- each match of an expression is one part
abbrev pub single : Expression → Bool
single (part cs fs) = true
single (stub cs) = true
single (either d e) = both (single d) (λ _. single e)
single _ = false

-- a cut and what follows it is there on all parts that these expressions have in a row
pub record Stands {B : Type 0} (k : List Part → Option B) (es : List Expression) : Type 0 where
  pub there : (xs : List Part) → MatchesAll es (heads xs) → is_some (k xs) ≡ true

same_first : (x : Part) (u : Head) (xs : List Part) (us : List Head) → x.head ∷ heads xs ≡ u ∷ us → x.head ≡ u
same_first x u xs us e = cc

same_rest : (x : Part) (u : Head) (xs : List Part) (us : List Head) → x.head ∷ heads xs ≡ u ∷ us → heads xs ≡ us
same_rest x u xs us e = cc

nil_cons : {B : Type 0} (u : Head) (us : List Head) → ◌≡◌ {A = List Head} [] (u ∷ us) → B
nil_cons u us e = absurd (let f : ◌≡◌ {A = List Head} [] (u ∷ us) → ⊥ = λ e. cc in f e)

cons_both : (h u : Head) (hs us : List Head) → h ≡ u → hs ≡ us → h ∷ hs ≡ u ∷ us
cons_both h u hs us e f = λ i. e i ∷ f i

pub cut_map : (xs : List Part) (us vs : List Head) → heads xs ≡ us ++ vs → (ys : List Part) × (zs : List Part) × (xs ≡ ys ++ zs) × (heads ys ≡ us) × (heads zs ≡ vs)
cut_map xs [] vs e = ([], xs, refl, refl, e)
cut_map [] (u ∷ us) vs e = nil_cons u (us ++ vs) e
cut_map (x ∷ xs) (u ∷ us) vs e =
    let r = cut_map xs us vs (same_rest x u xs (us ++ vs) e) in
    (x ∷ r.0, r.1, ap (λ zs. x ∷ zs) r.2, cons_both x.head u (heads r.0) us (same_first x u xs (us ++ vs) e) r.3, r.4)

pub cut_row : (e : Expression) (es : List Expression) (xs : List Part) → MatchesAll (e ∷ es) (heads xs) → (ys : List Part) × (zs : List Part) × (xs ≡ ys ++ zs) × Matches e (heads ys) × MatchesAll es (heads zs)
cut_row e es xs m = let r = cut_map xs m.0 m.1 m.2 in (r.0, r.1, r.2, subst (Matches e) (sym r.3) m.3, subst (MatchesAll es) (sym r.4) m.4)

pub one_part : (cs fs : List ℕ) (ys : List Part) → IsOne cs fs (heads ys) → (y : Part) × (ys ≡ y ∷ []) × (among cs fs y.head ≡ true)
one_part cs fs [] m = absurd m
one_part cs fs (y ∷ []) m = (y, refl, m)
one_part cs fs (y ∷ z ∷ ys) m = absurd m

pub single_part : (e : Expression) → single e ≡ true → (ys : List Part) → Matches e (heads ys) → (y : Part) × (ys ≡ y ∷ [])
single_part (part cs fs) h ys m = let o = one_part cs fs ys m in (o.0, o.1)
single_part (stub cs) h ys m = absurd m
single_part nothing h ys m = false_true h
single_part never h ys m = absurd m
single_part (seq d e) h ys m = false_true h
single_part (either d e) h ys (inl m) = single_part d (both_two (single d) (single e) h).0 ys m
single_part (either d e) h ys (inr m) = single_part e (both_two (single d) (single e) h).1 ys m
single_part (many e) h ys m = false_true h

-- the front part, and the rest
pub cut_one : (cs fs : List ℕ) (es : List Expression) (xs : List Part) → MatchesAll (part cs fs ∷ es) (heads xs) → (y : Part) × (zs : List Part) × (xs ≡ y ∷ zs) × (among cs fs y.head ≡ true) × MatchesAll es (heads zs)
cut_one cs fs es xs m =
    let r = cut_row (part cs fs) es xs m in let o = one_part cs fs r.0 r.3 in
    (o.0, r.1, r.2 ∙ ap (λ ys. ys ++ r.1) o.1, o.2, r.4)

pub cut_single : (e : Expression) (es : List Expression) → single e ≡ true → (xs : List Part) → MatchesAll (e ∷ es) (heads xs) → (y : Part) × (zs : List Part) × (xs ≡ y ∷ zs) × MatchesAll es (heads zs)
cut_single e es h xs m =
    let r = cut_row e es xs m in let o = single_part e h r.0 r.3 in
    (o.0, r.1, r.2 ∙ ap (λ ys. ys ++ r.1) o.1, r.4)

pub flat_stands : {B : Type 0} (k : List Part → Option B) (e : Expression) (es : List Expression) → Stands k (flat e es) → Stands k (e ∷ es)
flat_stands k e es st = record { there = λ xs m. st.there xs (flattened e es (heads xs) m) }

pub sign_stands : {B : Type 0} (cs : List Class) (ds : List ℕ) (k : List Part → Option B) (es : List Expression) → within ds (map class_number cs) ≡ true → Stands k es → Stands (λ xs. on (sign cs xs) k) (part ds [] ∷ es)
unfolding is sign
sign_stands cs ds k es h st = record {
  there = λ xs m.
      let r = cut_one ds [] es xs m in
      ap (λ xs. is_some (on (sign cs xs) k)) r.2
      ∙ ap (λ (b : Bool). is_some (on (if b then Some r.1 else None) k)) (inside_head (map class_number cs) [] ds [] r.0.head h refl r.3)
      ∙ st.there r.1 r.4;
}

pub must_stands : {B : Type 0} (cs : List Class) (fs : List Form) (ds gs : List ℕ) (k : Part × List Part → Option B) (es : List Expression)
    → within ds (map class_number cs) ≡ true → within gs (map form_number fs) ≡ true → ((y : Part) → Stands (λ zs. k (y, zs)) es)
    → Stands (λ xs. on (must cs fs xs) k) (part ds gs ∷ es)
unfolding is must
must_stands cs fs ds gs k es h i st = record {
  there = λ xs m.
      let r = cut_one ds gs es xs m in
      ap (λ xs. is_some (on (must cs fs xs) k)) r.2
      ∙ ap (λ (b : Bool). is_some (on (if b then Some (r.0, r.1) else None) k)) (inside_head (map class_number cs) (map form_number fs) ds gs r.0.head h i r.3)
      ∙ (st r.0).there r.1 r.4;
}

pub next_stands : {B : Type 0} (e : Expression) (k : Part × List Part → Option B) (es : List Expression) → single e ≡ true → ((y : Part) → Stands (λ zs. k (y, zs)) es) → Stands (λ xs. on (next xs) k) (e ∷ es)
next_stands e k es h st = record {
  there = λ xs m.
      let r = cut_single e es h xs m in
      ap (λ xs. is_some (on (next xs) k)) r.2 ∙ (st r.0).there r.1 r.3;
}

pub nothing_left : (xs : List Part) → heads xs ≡ [] → xs ≡ []
nothing_left [] e = refl
nothing_left (x ∷ xs) e = nil_cons x.head (heads xs) (sym e)

pub next_some : (e : Expression) (es : List Expression) → single e ≡ true → Stands (λ xs. option_map (λ t. t.0) (next xs)) (e ∷ es)
next_some e es h = record { there = λ xs m. let r = cut_single e es h xs m in ap (λ xs. is_some (option_map (λ (t : Part × List Part). t.0) (next xs))) r.2 }

pub ended_stands : {B : Type 0} (b : B) → Stands (ended b) []
ended_stands b = record { there = λ xs m. ap (λ xs. is_some (ended b xs)) (nothing_left xs m) }

pub some_stands : {B : Type 0} (f : List Part → B) (es : List Expression) → Stands (λ xs. Some (f xs)) es
some_stands f es = record { there = λ xs m. refl }

pub last_stands : {B : Type 0} (e : Expression) (f : Part → B) → single e ≡ true → Stands (λ xs. option_map f (last xs)) (e ∷ [])
last_stands e f h = record {
  there = λ xs m.
      let r = cut_single e [] h xs m in
      ap (λ xs. is_some (option_map f (last xs))) (r.2 ∙ ap (λ zs. r.0 ∷ zs) (nothing_left r.1 r.3));
}

pub last_on_stands : {B : Type 0} (e : Expression) (k : Part → Option B) → single e ≡ true → ((y : Part) → is_some (k y) ≡ true) → Stands (λ xs. on (last xs) k) (e ∷ [])
last_on_stands e k h all = record {
  there = λ xs m.
      let r = cut_single e [] h xs m in
      ap (λ xs. is_some (on (last xs) k)) (r.2 ∙ ap (λ zs. r.0 ∷ zs) (nothing_left r.1 r.3)) ∙ all r.0;
}

pub map_some : {B C : Type 0} (f : B → C) (o : Option B) → is_some (option_map f o) ≡ is_some o
map_some f None = refl
map_some f (Some b) = refl

pub map_stands : {B C : Type 0} (f : B → C) (k : List Part → Option B) (es : List Expression) → Stands k es → Stands (λ xs. option_map f (k xs)) es
map_stands f k es st = record { there = λ xs m. map_some f (k xs) ∙ st.there xs m }

pub on_on : {A B C : Type 0} (o : Option A) (f : A → Option B) (g : B → Option C) → on (on o f) g ≡ on o (λ a. on (f a) g)
on_on None f g = refl
on_on (Some a) f g = refl

pub on_map : {A B C : Type 0} (f : A → B) (o : Option A) (g : B → Option C) → on (option_map f o) g ≡ on o (λ a. g (f a))
on_map f None g = refl
on_map f (Some a) g = refl

-- the same view in other words
pub same_stands : {B : Type 0} (k l : List Part → Option B) (es : List Expression) → ((xs : List Part) → k xs ≡ l xs) → Stands l es → Stands k es
same_stands k l es e st = record { there = λ xs m. ap is_some (e xs) ∙ st.there xs m }

pub one_suc : (n : ℕ) → 1 + n ≡ suc n
one_suc n = omega arith

-- what stands before a part that is one of these, and is none of them itself
pub until_at : (cs : List Class) (fs : List Form) (ys : List Part) (z : Part) (zs : List Part) → AllAway (map class_number cs) (map form_number fs) (heads ys)
    → among (map class_number cs) (map form_number fs) z.head ≡ true → until cs fs (ys ++ z ∷ zs) ≡ length ys
unfolding is
until_at cs fs [] z zs w h = ap (λ (b : Bool). if b then 0 else 1 + until cs fs zs) h
until_at cs fs (y ∷ ys) z zs w h =
    ap (λ (b : Bool). if b then 0 else 1 + until cs fs (ys ++ z ∷ zs)) w.0 ∙ ap (λ n. 1 + n) (until_at cs fs ys z zs w.1 h) ∙ one_suc (length ys)

pub take_front : (ys zs : List Part) → take (length ys) (ys ++ zs) ≡ ys
take_front [] zs = refl
take_front (y ∷ ys) zs = ap (λ us. y ∷ us) (take_front ys zs)

pub drop_front : (ys zs : List Part) → drop (length ys) (ys ++ zs) ≡ zs
drop_front [] zs = refl
drop_front (y ∷ ys) zs = drop_front ys zs

pub up_to_is : (c : Class) (e : Expression) (es : List Expression) → avoids (class_number c ∷ []) [] e ≡ true → (xs : List Part) → MatchesAll (e ∷ a c ∷ es) (heads xs)
    → (ys : List Part) × (zs : List Part) × (up_to c xs ≡ Some (ys, zs)) × Matches e (heads ys) × MatchesAll es (heads zs)
unfolding up_to is sign
up_to_is c e es h xs m =
    let r = cut_row e (a c ∷ es) xs m in
    let o = cut_one (class_number c ∷ []) [] es r.1 r.4 in
    let n = until_at (c ∷ []) [] r.0 o.0 o.1 (all_away (class_number c ∷ []) [] e h (heads r.0) r.3) o.3 in (
      r.0,
      o.1,
      ap (λ xs. up_to c xs) (r.2 ∙ ap (λ zs. r.0 ++ zs) o.2)
          ∙ ap (λ n. option_map (λ ys. (take n (r.0 ++ o.0 ∷ o.1), ys)) (sign (c ∷ []) (drop n (r.0 ++ o.0 ∷ o.1)))) n
          ∙ ap (λ zs. option_map (λ ys. (take (length r.0) (r.0 ++ o.0 ∷ o.1), ys)) (sign (c ∷ []) zs)) (drop_front r.0 (o.0 ∷ o.1))
          ∙ ap (λ (b : Bool). option_map (λ ys. (take (length r.0) (r.0 ++ o.0 ∷ o.1), ys)) (if b then Some o.1 else None)) o.3
          ∙ ap (λ us. Some (us, o.1)) (take_front r.0 (o.0 ∷ o.1)),
      r.3,
      o.4,
    )

pub up_to_stands : {B : Type 0} (c : Class) (e : Expression) (k : List Part × List Part → Option B) (es : List Expression) → avoids (class_number c ∷ []) [] e ≡ true
    → ((ys : List Part) → Matches e (heads ys) → Stands (λ zs. k (ys, zs)) es) → Stands (λ xs. on (up_to c xs) k) (e ∷ a c ∷ es)
up_to_stands c e k es h st = record {
  there = λ xs m.
      let r = up_to_is c e es h xs m in
      ap (λ o. is_some (on o k)) r.2 ∙ (st r.0 r.3).there r.1 r.4;
}

-- all that stands before a last token
pub all_to_stands : {B : Type 0} (c : Class) (e : Expression) (k : List Part → Option B) → avoids (class_number c ∷ []) [] e ≡ true
    → ((ys : List Part) → Matches e (heads ys) → is_some (k ys) ≡ true) → Stands (λ xs. on (all_to c xs) k) (e ∷ a c ∷ [])
unfolding all_to
all_to_stands c e k h all = same_stands _ (λ xs. on (up_to c xs) (λ p. on (ended p.0 p.1) k)) _ (λ xs. on_on (up_to c xs) (λ p. ended p.0 p.1) k)
    (up_to_stands c e (λ p. on (ended p.0 p.1) k) [] h (λ ys w. record { there = λ zs m. ap (λ zs. is_some (on (ended ys zs) k)) (nothing_left zs m) ∙ all ys w }))

pub all_to_map : {B : Type 0} (c : Class) (e : Expression) (f : List Part → B) → avoids (class_number c ∷ []) [] e ≡ true → Stands (λ xs. option_map f (all_to c xs)) (e ∷ a c ∷ [])
unfolding all_to
all_to_map c e f h = map_stands f (all_to c) _ (up_to_stands c e (λ p. ended p.0 p.1) [] h (λ ys w. ended_stands ys))

pub lone_stands : (c : Class) (e : Expression) → avoids (class_number c ∷ []) [] e ≡ true → Stands (all_to c) (e ∷ a c ∷ [])
unfolding all_to
lone_stands c e h = up_to_stands c e (λ p. ended p.0 p.1) [] h (λ ys w. ended_stands ys)

-- two expressions in a row as one
pub joined_stands : {B : Type 0} (k : List Part → Option B) (d e : Expression) (es : List Expression) → Stands k (seq d e ∷ es) → Stands k (d ∷ e ∷ es)
joined_stands k d e es st = record {
  there = λ xs m.
      let n = m.4 in
      st.there xs (m.0 ++ n.0, n.1, m.2 ∙ ap (λ us. m.0 ++ us) n.2 ∙ sym (append_assoc m.0 n.0 n.1), (m.0, n.0, refl, m.3, n.3), n.4);
}

pub seq_stands : {B : Type 0} (k : List Part → Option B) (d e : Expression) (es : List Expression) → Stands k (d ∷ e ∷ es) → Stands k (seq d e ∷ es)
seq_stands k d e es st = record { there = λ xs m. st.there xs (opened d e es (heads xs) m) }

-- rows in the second place
pub behind_stands : {B : Type 0} (k : List Part → Option B) (d e : Expression) (es : List Expression) → Stands k (d ∷ flat e es) → Stands k (d ∷ e ∷ es)
behind_stands k d e es st = record { there = λ xs m. st.there xs (m.0, m.1, m.2, m.3, flattened e es m.1 m.4) }

-- one or the other
pub either_stands : {B : Type 0} (k : List Part → Option B) (d e : Expression) (es : List Expression) → Stands k (d ∷ es) → Stands k (e ∷ es) → Stands k (either d e ∷ es)
either_stands k d e es left right = record {
  there = λ xs m.
      (elim m.3 as (λ x. is_some (k xs) ≡ true) [
        | inl x ↦ left.there xs (m.0, m.1, m.2, x, m.4)
        | inr x ↦ right.there xs (m.0, m.1, m.2, x, m.4)
      ]);
}

-- a part that may lack, and others behind it
pub maybe_stands : {B : Type 0} (k : List Part → Option B) (e : Expression) (es : List Expression) → Stands k es → Stands k (flat e es) → Stands k (either nothing e ∷ es)
maybe_stands k e es left right = either_stands k nothing e es (flat_stands k nothing es left) (flat_stands k e es right)

-- where a part is there, one word for another
pub cons_stands : {B : Type 0} (k l : List Part → Option B) (es : List Expression) → nullable_all es ≡ false → ((x : Part) (xs : List Part) → k (x ∷ xs) ≡ l (x ∷ xs)) → Stands l es → Stands k es
cons_stands {B = B} k l es n e st = record { there = go }
  where
    go : (xs : List Part) → MatchesAll es (heads xs) → is_some (k xs) ≡ true
    go [] m = false_true (sym n ∙ all_empty es m)
    go (x ∷ xs) m = ap is_some (e x xs) ∙ st.there (x ∷ xs) m

-- where no part is left
pub none_stands : {B : Type 0} (k : List Part → Option B) → is_some (k []) ≡ true → Stands k []
none_stands k e = record { there = λ xs m. ap (λ xs. is_some (k xs)) (nothing_left xs m) ∙ e }

-- the front of what is left is none of these
pub front_away : (cs : List Class) (es : List Expression) → edges_away (map class_number cs) [] (firsts_all es) ≡ true → (x : Part) (xs : List Part) → MatchesAll es (heads (x ∷ xs)) → is cs [] x ≡ false
unfolding is
front_away cs es d x xs m = first_away (map class_number cs) [] es d x.head (heads xs) m

pub may_none : (cs : List Class) (es : List Expression) → edges_away (map class_number cs) [] (firsts_all es) ≡ true → (xs : List Part) → MatchesAll es (heads xs) → may cs xs ≡ (false, xs)
unfolding may
may_none cs es d [] m = refl
may_none cs es d (x ∷ xs) m = ap (λ (b : Bool). if b then (true, xs) else (false, x ∷ xs)) (front_away cs es d x xs m)

-- a token that is not there, where what is left begins otherwise
pub may_not_stands : {B : Type 0} (cs : List Class) (k : Bool × List Part → Option B) (es : List Expression) → edges_away (map class_number cs) [] (firsts_all es) ≡ true
    → Stands (λ zs. k (false, zs)) es → Stands (λ xs. k (may cs xs)) es
may_not_stands cs k es d st = record { there = λ xs m. ap (λ p. is_some (k p)) (may_none cs es d xs m) ∙ st.there xs m }

-- a token that is there
pub may_so_stands : {B : Type 0} (cs : List Class) (ds : List ℕ) (k : Bool × List Part → Option B) (es : List Expression) → within ds (map class_number cs) ≡ true
    → Stands (λ zs. k (true, zs)) es → Stands (λ xs. k (may cs xs)) (part ds [] ∷ es)
unfolding is may
may_so_stands cs ds k es h st = record {
  there = λ xs m.
      let r = cut_one ds [] es xs m in
      ap (λ xs. is_some (k (may cs xs))) r.2
      ∙ ap (λ (b : Bool). is_some (k (if b then (true, r.1) else (false, r.0 ∷ r.1)))) (inside_head (map class_number cs) [] ds [] r.0.head h refl r.3)
      ∙ st.there r.1 r.4;
}

pub may_stands : {B : Type 0} (cs : List Class) (ds : List ℕ) (k : Bool × List Part → Option B) (es : List Expression) → within ds (map class_number cs) ≡ true → edges_away (map class_number cs) [] (firsts_all es) ≡ true
    → ((b : Bool) → Stands (λ zs. k (b, zs)) es) → Stands (λ xs. k (may cs xs)) (either nothing (part ds []) ∷ es)
may_stands cs ds k es h d st = maybe_stands (λ xs. k (may cs xs)) (part ds []) es (may_not_stands cs k es d (st false)) (may_so_stands cs ds k es h (st true))

may_be_none : (cs : List Class) (es : List Expression) → edges_away (map class_number cs) [] (firsts_all es) ≡ true → (xs : List Part) → MatchesAll es (heads xs) → may_be cs xs ≡ (None, xs)
unfolding may_be
may_be_none cs es d [] m = refl
may_be_none cs es d (x ∷ xs) m = ap (λ (b : Bool). if b then (Some x, xs) else (None, x ∷ xs)) (front_away cs es d x xs m)

pub may_be_stands : {B : Type 0} (cs : List Class) (ds : List ℕ) (k : Option Part × List Part → Option B) (es : List Expression) → within ds (map class_number cs) ≡ true → edges_away (map class_number cs) [] (firsts_all es) ≡ true
    → ((o : Option Part) → Stands (λ zs. k (o, zs)) es) → Stands (λ xs. k (may_be cs xs)) (either nothing (part ds []) ∷ es)
unfolding is may_be
may_be_stands cs ds k es h d st = maybe_stands (λ xs. k (may_be cs xs)) (part ds []) es
    (record { there = λ xs m. ap (λ p. is_some (k p)) (may_be_none cs es d xs m) ∙ (st None).there xs m })
    (record {
      there = λ xs m.
          let r = cut_one ds [] es xs m in
          ap (λ xs. is_some (k (may_be cs xs))) r.2
          ∙ ap (λ (b : Bool). is_some (k (if b then (Some r.0, r.1) else (None, r.0 ∷ r.1)))) (inside_head (map class_number cs) [] ds [] r.0.head h refl r.3)
          ∙ (st (Some r.0)).there r.1 r.4;
    })

-- a front of such tokens, and what is left begins with none
run_none : (cs : List Class) (es : List Expression) → edges_away (map class_number cs) [] (firsts_all es) ≡ true → (xs : List Part) → MatchesAll es (heads xs) → run cs xs ≡ 0
run_none cs es d [] m = refl
run_none cs es d (x ∷ xs) m = ap (λ (b : Bool). if b then 1 + run cs xs else 0) (front_away cs es d x xs m)

abbrev pub split_run : List Class → List Part → List Part × List Part
split_run cs xs = (take (run cs xs) xs, drop (run cs xs) xs)

pub run_stands : {B : Type 0} (cs : List Class) (ds : List ℕ) (k : List Part × List Part → Option B) (es : List Expression) → within ds (map class_number cs) ≡ true → edges_away (map class_number cs) [] (firsts_all es) ≡ true
    → ((ys : List Part) → Stands (λ zs. k (ys, zs)) es) → Stands (λ xs. k (split_run cs xs)) (many (part ds []) ∷ es)
unfolding is
run_stands {B = B} cs ds k es h d st = record { there = λ xs m. walk m.3.0 xs (m.0, m.1, m.2, m.3.1, m.4) k st }
  where
    walk : (n : ℕ) (xs : List Part) → InRow (Times n (Matches (part ds []))) (MatchesAll es) (heads xs) → (k : List Part × List Part → Option B) → ((ys : List Part) → Stands (λ zs. k (ys, zs)) es) → is_some (k (split_run cs xs)) ≡ true
    walk zero xs m k st =
        let here : MatchesAll es (heads xs) = subst (MatchesAll es) (sym (m.2 ∙ ap (λ us. us ++ m.1) m.3)) m.4 in
        ap (λ n. is_some (k (take n xs, drop n xs))) (run_none cs es d xs here) ∙ (st []).there xs here
    walk (suc n) xs m k st =
        let r = cut_map xs m.3.0 (m.3.1 ++ m.1) (m.2 ∙ ap (λ us. us ++ m.1) m.3.2 ∙ append_assoc m.3.0 m.3.1 m.1) in
        let o = one_part ds [] r.0 (subst (Matches (part ds [])) (sym r.3) m.3.3) in
        ap (λ xs. is_some (k (split_run cs xs))) (r.2 ∙ ap (λ ys. ys ++ r.1) o.1)
        ∙ ap (λ (b : Bool). is_some (k (let n = (if b then 1 + run cs r.1 else 0) in (take n (o.0 ∷ r.1), drop n (o.0 ∷ r.1))))) (inside_head (map class_number cs) [] ds [] o.0.head h refl o.2)
        ∙ ap (λ n. is_some (k (take n (o.0 ∷ r.1), drop n (o.0 ∷ r.1)))) (one_suc (run cs r.1))
        ∙ walk n r.1 (m.3.1, m.1, r.4, m.3.4, m.4) (λ p. k (o.0 ∷ p.0, p.1)) (λ ys. st (o.0 ∷ ys))

-- the words at the front of these rows run up to those rows
abbrev pub Runs : Type 0 → List Class → List Expression → List Expression → Type 0
Runs B cs fs es = (k : List Part × List Part → Option B) → ((ys : List Part) → Stands (λ zs. k (ys, zs)) fs) → Stands (λ xs. k (split_run cs xs)) es

pub runs_none : {B : Type 0} (cs : List Class) (fs : List Expression) → edges_away (map class_number cs) [] (firsts_all fs) ≡ true → Runs B cs fs fs
runs_none cs fs d k st = record { there = λ xs m. ap (λ n. is_some (k (take n xs, drop n xs))) (run_none cs fs d xs m) ∙ (st []).there xs m }

pub runs_maybe : {B : Type 0} (cs : List Class) (ds : List ℕ) (fs es : List Expression) → within ds (map class_number cs) ≡ true → Runs B cs fs es → Runs B cs fs (either nothing (part ds []) ∷ es)
unfolding is
runs_maybe cs ds fs es h r k st = maybe_stands (λ xs. k (split_run cs xs)) (part ds []) es (r k st) (record {
  there = λ xs m.
      let o = cut_one ds [] es xs m in
      ap (λ xs. is_some (k (split_run cs xs))) o.2
      ∙ ap (λ (b : Bool). is_some (k (let n = (if b then 1 + run cs o.1 else 0) in (take n (o.0 ∷ o.1), drop n (o.0 ∷ o.1))))) (inside_head (map class_number cs) [] ds [] o.0.head h refl o.3)
      ∙ ap (λ n. is_some (k (take n (o.0 ∷ o.1), drop n (o.0 ∷ o.1)))) (one_suc (run cs o.1))
      ∙ (r (λ p. k (o.0 ∷ p.0, p.1)) (λ ys. st (o.0 ∷ ys))).there o.1 o.4;
})

-- the first part of what is left is one of these
abbrev pub edges_within : List ℕ → List ℕ → List Edge → Bool
edges_within cs fs [] = true
edges_within cs fs (e ∷ es) = both (both (within e.classes cs) (λ _. within e.forms fs)) (λ _. edges_within cs fs es)

gone_within : (cs fs : List ℕ) (es : List Edge) (h : Head) (hs : List Head) → edges_within cs fs es ≡ true → Goes MatchesAll es h hs → among cs fs h ≡ true
gone_within cs fs [] h hs d g = absurd g
gone_within cs fs (e ∷ es) h hs d (inl x) =
    let two = both_two (both (within e.classes cs) (λ _. within e.forms fs)) (edges_within cs fs es) d in
    let ends = both_two (within e.classes cs) (within e.forms fs) two.0 in
    inside_head cs fs e.classes e.forms h ends.0 ends.1 x.0
gone_within cs fs (e ∷ es) h hs d (inr g) = gone_within cs fs es h hs (both_two (both (within e.classes cs) (λ _. within e.forms fs)) (edges_within cs fs es) d).1 g

pub front_within : (cs : List Class) (fs : List Form) (es : List Expression) → edges_within (map class_number cs) (map form_number fs) (firsts_all es) ≡ true → (x : Part) (xs : List Part) → MatchesAll es (heads (x ∷ xs)) → is cs fs x ≡ true
unfolding is
front_within cs fs es d x xs m = gone_within (map class_number cs) (map form_number fs) (firsts_all es) x.head (heads xs) d (goes_all es x.head (heads xs) m)
