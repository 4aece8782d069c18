-- What a view gives on the parts of a form, and of which kinds those are: one step a cut.
use Rattle.std.proofs.Common.{◌≡◌, ℕ, zero, suc, ◌+◌, Bool, true, false, ◌&&◌, List, [], ◌∷◌, ◌++◌, map, take, drop, Option, Some, None, is_some, refl, sym, ap, subst, ◌∙◌, inl, inr, if◌then◌else◌, append_assoc}
use Rattle.std.specs.Prelude.{option_map}
use Rattle.mql_forms.specs.Numbers.{form_number}
use Rattle.mql_forms.specs.declared.form.Form.{Form}
use Rattle.mql_grammar.specs.Table.{both}
use Rattle.mql_grammar.specs.Forms.{Head}
use Rattle.mql_grammar.specs.Expression.{Expression, part, stub, nothing, never, seq, either, many, among, IsOne, InRow, Times, Matches}
use Rattle.mql_grammar.specs.Expressions.{a, expression_of}
use Rattle.mql_grammar.specs.Numbers.{class_number}
use Rattle.mql_grammar.specs.declared.token_class.Class.{Class}
use Rattle.mql_grammar.proofs.Derivatives.{MatchesAll, firsts_all, nullable_all, all_empty}
use Rattle.mql_views.specs.Parts.{Part}
use Rattle.mql_syntax_total.specs.Formed.{Every}
use Rattle.mql_views.specs.Laws.{heads}
use Rattle.mql_views.specs.Cuts.{on, is, run, until, must, next, last, sign, ended, may, up_to, all_to}
use Rattle.mql_views.proofs.Stands.{within, inside_head, both_two, avoids, edges_away, single, single_part, flat, flattened, all_of, opened, cut_one, cut_row, up_to_is, may_none, nothing_left, on_on, cut_map, one_part, front_away, one_suc, split_run}

pub false_true : {B : Type 0} → false ≡ true → B
false_true e = absurd (let f : false ≡ true → ⊥ = λ e. cc in f e)

-- of what is there this is so; where nothing is there, that is so
abbrev pub Held : {B : Type 0} → Type 0 → (B → Type 0) → Option B → Type 0
Held N Q None = N
Held N Q (Some b) = Q b

-- something is there, and this is so of it
abbrev pub Has : {B : Type 0} → (B → Type 0) → Option B → Type 0
Has Q o = Held ⊥ Q o

-- if something is there, this is so of it
abbrev pub Where : {B : Type 0} → (B → Type 0) → Option B → Type 0
Where Q o = Held (Unit {0}) Q o

pub every_front : {A : Type 0} (G : A → Type 0) (xs ys : List A) → Every G (xs ++ ys) → Every G xs
every_front G [] ys g = tt
every_front G (x ∷ xs) ys g = (g.0, every_front G xs ys g.1)

pub every_back : {A : Type 0} (G : A → Type 0) (xs ys : List A) → Every G (xs ++ ys) → Every G ys
every_back G [] ys g = g
every_back G (x ∷ xs) ys g = every_back G xs ys g.1

-- a part is a token of one of these classes, or a node of one of these forms
abbrev pub Among : List ℕ → List ℕ → Part → Type 0
Among cs fs x = among cs fs x.head ≡ true

-- each part of a match is one of these
abbrev pub consists : List ℕ → List ℕ → Expression → Bool
consists cs fs (part ds gs) = both (within ds cs) (λ _. within gs fs)
consists cs fs (stub ds) = true
consists cs fs nothing = true
consists cs fs never = true
consists cs fs (seq d e) = both (consists cs fs d) (λ _. consists cs fs e)
consists cs fs (either d e) = both (consists cs fs d) (λ _. consists cs fs e)
consists cs fs (many e) = consists cs fs e

abbrev pub AllAmong : List ℕ → List ℕ → List Head → Type 0
AllAmong cs fs [] = Unit {0}
AllAmong cs fs (h ∷ hs) = (among cs fs h ≡ true) × AllAmong cs fs hs

pub among_join : (cs fs : List ℕ) (us vs : List Head) → AllAmong cs fs us → AllAmong cs fs vs → AllAmong cs fs (us ++ vs)
among_join cs fs [] vs p q = q
among_join cs fs (u ∷ us) vs p q = (p.0, among_join cs fs us vs p.1 q)

among_row : (cs fs : List ℕ) (P Q : List Head → Type 0) → ((us : List Head) → P us → AllAmong cs fs us) → ((us : List Head) → Q us → AllAmong cs fs us) → (hs : List Head) → InRow P Q hs → AllAmong cs fs hs
among_row cs fs P Q p q hs m = subst (AllAmong cs fs) (sym m.2) (among_join cs fs m.0 m.1 (p m.0 m.3) (q m.1 m.4))

among_times : (cs fs : List ℕ) (P : List Head → Type 0) → ((us : List Head) → P us → AllAmong cs fs us) → (n : ℕ) (hs : List Head) → Times n P hs → AllAmong cs fs hs
among_times cs fs P p zero hs m = subst (AllAmong cs fs) (sym m) tt
among_times cs fs P p (suc n) hs m = among_row cs fs P (Times n P) p (among_times cs fs P p n) hs m

among_part : (cs fs ds gs : List ℕ) → within ds cs ≡ true → within gs fs ≡ true → (hs : List Head) → IsOne ds gs hs → AllAmong cs fs hs
among_part cs fs ds gs hc hf [] m = absurd m
among_part cs fs ds gs hc hf (h ∷ []) m = (inside_head cs fs ds gs h hc hf m, tt)
among_part cs fs ds gs hc hf (h ∷ k ∷ hs) m = absurd m

pub all_among : (cs fs : List ℕ) (e : Expression) → consists cs fs e ≡ true → (hs : List Head) → Matches e hs → AllAmong cs fs hs
all_among cs fs (part ds gs) h hs m = let two = both_two (within ds cs) (within gs fs) h in among_part cs fs ds gs two.0 two.1 hs m
all_among cs fs (stub ds) h hs m = absurd m
all_among cs fs nothing h hs m = subst (AllAmong cs fs) (sym m) tt
all_among cs fs never h hs m = absurd m
all_among cs fs (seq d e) h hs m = let two = both_two (consists cs fs d) (consists cs fs e) h in among_row cs fs (Matches d) (Matches e) (all_among cs fs d two.0) (all_among cs fs e two.1) hs m
all_among cs fs (either d e) h hs (inl m) = all_among cs fs d (both_two (consists cs fs d) (consists cs fs e) h).0 hs m
all_among cs fs (either d e) h hs (inr m) = all_among cs fs e (both_two (consists cs fs d) (consists cs fs e) h).1 hs m
all_among cs fs (many e) h hs m = among_times cs fs (Matches e) (all_among cs fs e h) m.0 hs m.1

pub parts_among : (cs fs : List ℕ) (xs : List Part) → AllAmong cs fs (heads xs) → Every (Among cs fs) xs
parts_among cs fs [] m = tt
parts_among cs fs (x ∷ xs) m = (m.0, parts_among cs fs xs m.1)

-- each part of a match is one of these
pub every_among : (cs fs : List ℕ) (e : Expression) → consists cs fs e ≡ true → (xs : List Part) → Matches e (heads xs) → Every (Among cs fs) xs
every_among cs fs e h xs m = parts_among cs fs xs (all_among cs fs e h (heads xs) m)

-- a view gives on all parts that these expressions have in a row, and of which something is so, a thing that is so
pub record Gives {B : Type 0} (N : Type 0) (G : Part → Type 0) (Q : B → Type 0) (k : List Part → Option B) (es : List Expression) : Type 0 where
  pub there : (xs : List Part) → MatchesAll es (heads xs) → Every G xs → Held N Q (k xs)

-- the front part, which is one of these, and the rest
pub front_among : {G : Part → Type 0} (cs fs : List ℕ) (e : Expression) (es : List Expression) → single e ≡ true → consists cs fs e ≡ true → (xs : List Part) → MatchesAll (e ∷ es) (heads xs) → Every G xs
    → (y : Part) × (zs : List Part) × (xs ≡ y ∷ zs) × Among cs fs y × MatchesAll es (heads zs) × G y × Every G zs
front_among {G = G} cs fs e es h c xs m g =
    let r = cut_row e es xs m in
    let o = single_part e h r.0 r.3 in
    let p = r.2 ∙ ap (λ ys. ys ++ r.1) o.1 in
    let h = subst (Every G) p g in
    (o.0, r.1, p, (subst (Every (Among cs fs)) o.1 (every_among cs fs e c r.0 r.3)).0, r.4, h.0, h.1)

pub sign_gives : {B : Type 0} {N : Type 0} {G : Part → Type 0} {Q : B → Type 0} (cs : List Class) (ds : List ℕ) (k : List Part → Option B) (es : List Expression)
    → within ds (map class_number cs) ≡ true → Gives N G Q k es → Gives N G Q (λ xs. on (sign cs xs) k) (part ds [] ∷ es)
unfolding is sign
sign_gives {N = N} {G = G} {Q = Q} cs ds k es h st = record {
  there = λ xs m g.
      let r = cut_one ds [] es xs m in
      subst (Held N Q) (sym (ap (λ xs. on (sign cs xs) k) r.2 ∙ ap (λ (b : Bool). on (if b then Some r.1 else None) k) (inside_head (map class_number cs) [] ds [] r.0.head h refl r.3)))
      (st.there r.1 r.4 (subst (Every G) r.2 g).1);
}

pub must_gives : {B : Type 0} {N : Type 0} {G : Part → Type 0} {Q : B → Type 0} (cs : List Class) (fs : List Form) (ds gs : List ℕ) (k : Part × List Part → Option B) (es : List Expression)
    → within ds (map class_number cs) ≡ true → within gs (map form_number fs) ≡ true → ((y : Part) → Among ds gs y → G y → Gives N G Q (λ zs. k (y, zs)) es)
    → Gives N G Q (λ xs. on (must cs fs xs) k) (part ds gs ∷ es)
unfolding is must
must_gives {N = N} {G = G} {Q = Q} cs fs ds gs k es h i st = record {
  there = λ xs m g.
      let r = cut_one ds gs es xs m in
      let own = subst (Every G) r.2 g in
      subst (Held N Q) (sym (ap (λ xs. on (must cs fs xs) k) r.2 ∙ ap (λ (b : Bool). on (if b then Some (r.0, r.1) else None) k) (inside_head (map class_number cs) (map form_number fs) ds gs r.0.head h i r.3)))
      ((st r.0 r.3 own.0).there r.1 r.4 own.1);
}

pub next_gives : {B : Type 0} {N : Type 0} {G : Part → Type 0} {Q : B → Type 0} (cs fs : List ℕ) (e : Expression) (k : Part × List Part → Option B) (es : List Expression)
    → single e ≡ true → consists cs fs e ≡ true → ((y : Part) → Among cs fs y → G y → Gives N G Q (λ zs. k (y, zs)) es) → Gives N G Q (λ xs. on (next xs) k) (e ∷ es)
next_gives {N = N} {Q = Q} cs fs e k es h c st = record {
  there = λ xs m g.
      let r = front_among cs fs e es h c xs m g in
      subst (Held N Q) (sym (ap (λ xs. on (next xs) k) r.2)) ((st r.0 r.3 r.5).there r.1 r.4 r.6);
}

pub last_gives : {B : Type 0} {N : Type 0} {G : Part → Type 0} {Q : B → Type 0} (cs fs : List ℕ) (e : Expression) (f : Part → B)
    → single e ≡ true → consists cs fs e ≡ true → ((y : Part) → Among cs fs y → G y → Q (f y)) → Gives N G Q (λ xs. option_map f (last xs)) (e ∷ [])
last_gives {N = N} {Q = Q} cs fs e f h c q = record {
  there = λ xs m g.
      let r = front_among cs fs e [] h c xs m g in
      subst (Held N Q) (sym (ap (λ xs. option_map f (last xs)) (r.2 ∙ ap (λ zs. r.0 ∷ zs) (nothing_left r.1 r.4)))) (q r.0 r.3 r.5);
}

pub last_on_gives : {B : Type 0} {N : Type 0} {G : Part → Type 0} {Q : B → Type 0} (cs fs : List ℕ) (e : Expression) (k : Part → Option B)
    → single e ≡ true → consists cs fs e ≡ true → ((y : Part) → Among cs fs y → G y → Held N Q (k y)) → Gives N G Q (λ xs. on (last xs) k) (e ∷ [])
last_on_gives {N = N} {Q = Q} cs fs e k h c q = record {
  there = λ xs m g.
      let r = front_among cs fs e [] h c xs m g in
      subst (Held N Q) (sym (ap (λ xs. on (last xs) k) (r.2 ∙ ap (λ zs. r.0 ∷ zs) (nothing_left r.1 r.4)))) (q r.0 r.3 r.5);
}

pub ended_gives : {B : Type 0} {N : Type 0} {G : Part → Type 0} {Q : B → Type 0} (b : B) → Q b → Gives N G Q (ended b) []
ended_gives {N = N} {Q = Q} b q = record { there = λ xs m g. subst (Held N Q) (sym (ap (λ xs. ended b xs) (nothing_left xs m))) q }

-- where no part is left
pub none_gives : {B : Type 0} {N : Type 0} {G : Part → Type 0} {Q : B → Type 0} (k : List Part → Option B) → Held N Q (k []) → Gives N G Q k []
none_gives {N = N} {Q = Q} k q = record { there = λ xs m g. subst (Held N Q) (sym (ap (λ xs. k xs) (nothing_left xs m))) q }

pub held_map : {B C : Type 0} (N : Type 0) (Q : C → Type 0) (f : B → C) (o : Option B) → Held N (λ b. Q (f b)) o → Held N Q (option_map f o)
held_map N Q f None q = q
held_map N Q f (Some b) q = q

pub held_on : {A B : Type 0} (N : Type 0) (R : A → Type 0) (Q : B → Type 0) (o : Option A) (k : A → Option B) → Held N R o → ((x : A) → R x → Held N Q (k x)) → Held N Q (on o k)
held_on N R Q None k r q = r
held_on N R Q (Some x) k r q = q x r

pub has_map : {B C : Type 0} (Q : C → Type 0) (f : B → C) (o : Option B) → Has (λ b. Q (f b)) o → Has Q (option_map f o)
has_map Q f None q = q
has_map Q f (Some b) q = q

pub has_on : {A B : Type 0} (R : A → Type 0) (Q : B → Type 0) (o : Option A) (k : A → Option B) → Has R o → ((x : A) → R x → Has Q (k x)) → Has Q (on o k)
has_on R Q None k r q = r
has_on R Q (Some x) k r q = q x r

pub has_some : {B : Type 0} (Q : B → Type 0) (o : Option B) → Has Q o → is_some o ≡ true
has_some Q None q = absurd q
has_some Q (Some b) q = refl

-- what is so of what is there, where something is there
pub has_where : {B : Type 0} (Q : B → Type 0) (o : Option B) → is_some o ≡ true → Where Q o → Has Q o
has_where Q None h q = false_true h
has_where Q (Some b) h q = q

pub map_gives : {B C : Type 0} {N : Type 0} {G : Part → Type 0} {Q : C → Type 0} (f : B → C) (k : List Part → Option B) (es : List Expression) → Gives N G (λ b. Q (f b)) k es → Gives N G Q (λ xs. option_map f (k xs)) es
map_gives {N = N} {Q = Q} f k es st = record { there = λ xs m g. held_map N Q f (k xs) (st.there xs m g) }

pub on_gives : {B C : Type 0} {N : Type 0} {G : Part → Type 0} {Q : C → Type 0} (R : B → Type 0) (k : List Part → Option B) (l : B → Option C) (es : List Expression)
    → Gives N G R k es → ((b : B) → R b → Held N Q (l b)) → Gives N G Q (λ xs. on (k xs) l) es
on_gives {N = N} {Q = Q} R k l es st q = record { there = λ xs m g. held_on N R Q (k xs) l (st.there xs m g) q }

pub held_more : {B : Type 0} (N : Type 0) (R Q : B → Type 0) → ((b : B) → R b → Q b) → (o : Option B) → Held N R o → Held N Q o
held_more N R Q f None h = h
held_more N R Q f (Some b) h = f b h

pub more_gives : {B : Type 0} {N : Type 0} {G : Part → Type 0} {Q : B → Type 0} (R : B → Type 0) (k : List Part → Option B) (es : List Expression) → ((b : B) → R b → Q b) → Gives N G R k es → Gives N G Q k es
more_gives {N = N} {Q = Q} R k es f st = record { there = λ xs m g. held_more N R Q f (k xs) (st.there xs m g) }

pub same_gives : {B : Type 0} {N : Type 0} {G : Part → Type 0} {Q : B → Type 0} (k l : List Part → Option B) (es : List Expression) → ((xs : List Part) → k xs ≡ l xs) → Gives N G Q l es → Gives N G Q k es
same_gives {N = N} {Q = Q} k l es e st = record { there = λ xs m g. subst (Held N Q) (sym (e xs)) (st.there xs m g) }

where_map : {B C : Type 0} (Q : C → Type 0) (f : B → C) (o : Option B) → Where (λ b. Q (f b)) o → Where Q (option_map f o)
where_map Q f None q = tt
where_map Q f (Some b) q = q

where_if : {B : Type 0} (Q : B → Type 0) (b : Bool) (x : B) → Q x → Where Q (if b then Some x else None)
where_if Q true x q = q
where_if Q false x q = tt

pub every_take : {A : Type 0} (G : A → Type 0) (n : ℕ) (xs : List A) → Every G xs → Every G (take n xs)
every_take G zero xs g = tt
every_take G (suc n) [] g = tt
every_take G (suc n) (x ∷ xs) g = (g.0, every_take G n xs g.1)

pub every_drop : {A : Type 0} (G : A → Type 0) (n : ℕ) (xs : List A) → Every G xs → Every G (drop n xs)
every_drop G zero xs g = g
every_drop G (suc n) [] g = tt
every_drop G (suc n) (x ∷ xs) g = every_drop G n xs g.1

sign_every : (G : Part → Type 0) (cs : List Class) (xs : List Part) → Every G xs → Where (Every G) (sign cs xs)
unfolding sign
sign_every G cs [] g = tt
sign_every G cs (x ∷ xs) g = where_if (Every G) (is cs [] x) xs g.1

up_to_every : (G : Part → Type 0) (c : Class) (xs : List Part) → Every G xs → Where (λ p. Every G p.0 × Every G p.1) (up_to c xs)
unfolding up_to
up_to_every G c xs g =
    let k = until (c ∷ []) [] xs in
    where_map (λ p. Every G p.0 × Every G p.1) (λ ys. (take k xs, ys)) (sign (c ∷ []) (drop k xs))
    (where_pair (Every G (take k xs)) (Every G) (sign (c ∷ []) (drop k xs)) (every_take G k xs g) (sign_every G (c ∷ []) (drop k xs) (every_drop G k xs g)))
  where
    where_pair : {B : Type 0} (P : Type 0) (Q : B → Type 0) (o : Option B) → P → Where Q o → Where (λ b. P × Q b) o
    where_pair P Q None p q = tt
    where_pair P Q (Some b) p q = (p, q)

pub up_to_gives : {B : Type 0} {N : Type 0} {G : Part → Type 0} {Q : B → Type 0} (c : Class) (e : Expression) (k : List Part × List Part → Option B) (es : List Expression) → avoids (class_number c ∷ []) [] e ≡ true
    → ((ys : List Part) → Matches e (heads ys) → Every G ys → Gives N G Q (λ zs. k (ys, zs)) es) → Gives N G Q (λ xs. on (up_to c xs) k) (e ∷ a c ∷ es)
up_to_gives {N = N} {G = G} {Q = Q} c e k es h st = record {
  there = λ xs m g.
      let r = up_to_is c e es h xs m in
      let w = subst (Where (λ p. Every G p.0 × Every G p.1)) r.2 (up_to_every G c xs g) in
      subst (Held N Q) (sym (ap (λ o. on o k) r.2)) ((st r.0 r.3 w.0).there r.1 r.4 w.1);
}

-- all that stands before a last token
pub all_to_gives : {B : Type 0} {N : Type 0} {G : Part → Type 0} {Q : B → Type 0} (c : Class) (e : Expression) (k : List Part → Option B) → avoids (class_number c ∷ []) [] e ≡ true
    → ((ys : List Part) → Matches e (heads ys) → Every G ys → Held N Q (k ys)) → Gives N G Q (λ xs. on (all_to c xs) k) (e ∷ a c ∷ [])
unfolding all_to
all_to_gives {N = N} {Q = Q} c e k h all = same_gives _ (λ xs. on (up_to c xs) (λ p. on (ended p.0 p.1) k)) _ (λ xs. on_on (up_to c xs) (λ p. ended p.0 p.1) k)
    (up_to_gives c e (λ p. on (ended p.0 p.1) k) [] h (λ ys w g. record { there = λ zs m _. subst (Held N Q) (sym (ap (λ zs. on (ended ys zs) k) (nothing_left zs m))) (all ys w g) }))

pub lone_gives : {N : Type 0} {G : Part → Type 0} {Q : List Part → Type 0} (c : Class) (e : Expression) → avoids (class_number c ∷ []) [] e ≡ true
    → ((ys : List Part) → Matches e (heads ys) → Every G ys → Q ys) → Gives N G Q (all_to c) (e ∷ a c ∷ [])
unfolding all_to
lone_gives c e h q = up_to_gives c e (λ p. ended p.0 p.1) [] h (λ ys w g. ended_gives ys (q ys w g))

-- rows of expressions
pub flat_gives : {B : Type 0} {N : Type 0} {G : Part → Type 0} {Q : B → Type 0} (k : List Part → Option B) (e : Expression) (es : List Expression) → Gives N G Q k (flat e es) → Gives N G Q k (e ∷ es)
flat_gives k e es st = record { there = λ xs m g. st.there xs (flattened e es (heads xs) m) g }

pub seq_gives : {B : Type 0} {N : Type 0} {G : Part → Type 0} {Q : B → Type 0} (k : List Part → Option B) (d e : Expression) (es : List Expression) → Gives N G Q k (d ∷ e ∷ es) → Gives N G Q k (seq d e ∷ es)
seq_gives k d e es st = record { there = λ xs m g. st.there xs (opened d e es (heads xs) m) g }

-- one or the other
pub either_gives : {B : Type 0} {N : Type 0} {G : Part → Type 0} {Q : B → Type 0} (k : List Part → Option B) (d e : Expression) (es : List Expression) → Gives N G Q k (d ∷ es) → Gives N G Q k (e ∷ es) → Gives N G Q k (either d e ∷ es)
either_gives {N = N} {Q = Q} k d e es left right = record {
  there = λ xs m g.
      (elim m.3 as (λ x. Held N Q (k xs)) [
        | inl x ↦ left.there xs (m.0, m.1, m.2, x, m.4) g
        | inr x ↦ right.there xs (m.0, m.1, m.2, x, m.4) g
      ]);
}

-- a part that may lack, and others behind it
pub maybe_gives : {B : Type 0} {N : Type 0} {G : Part → Type 0} {Q : B → Type 0} (k : List Part → Option B) (e : Expression) (es : List Expression) → Gives N G Q k es → Gives N G Q k (flat e es) → Gives N G Q k (either nothing e ∷ es)
maybe_gives k e es left right = either_gives k nothing e es (flat_gives k nothing es left) (flat_gives k e es right)

-- where a part is there, one word for another
pub cons_gives : {B : Type 0} {N : Type 0} {G : Part → Type 0} {Q : B → Type 0} (k l : List Part → Option B) (es : List Expression) → nullable_all es ≡ false → ((x : Part) (xs : List Part) → k (x ∷ xs) ≡ l (x ∷ xs)) → Gives N G Q l es → Gives N G Q k es
cons_gives {B = B} {N = N} {G = G} {Q = Q} k l es n e st = record { there = go }
  where
    go : (xs : List Part) → MatchesAll es (heads xs) → Every G xs → Held N Q (k xs)
    go [] m g = false_true (sym n ∙ all_empty es m)
    go (x ∷ xs) m g = subst (Held N Q) (sym (e x xs)) (st.there (x ∷ xs) m g)

-- a token that is not there, where what is left begins otherwise
pub may_not_gives : {B : Type 0} {N : Type 0} {G : Part → Type 0} {Q : B → Type 0} (cs : List Class) (k : Bool × List Part → Option B) (es : List Expression) → edges_away (map class_number cs) [] (firsts_all es) ≡ true
    → Gives N G Q (λ zs. k (false, zs)) es → Gives N G Q (λ xs. k (may cs xs)) es
may_not_gives {N = N} {Q = Q} cs k es d st = record { there = λ xs m g. subst (Held N Q) (sym (ap (λ p. k p) (may_none cs es d xs m))) (st.there xs m g) }

-- a token that is there
pub may_so_gives : {B : Type 0} {N : Type 0} {G : Part → Type 0} {Q : B → Type 0} (cs : List Class) (ds : List ℕ) (k : Bool × List Part → Option B) (es : List Expression) → within ds (map class_number cs) ≡ true
    → Gives N G Q (λ zs. k (true, zs)) es → Gives N G Q (λ xs. k (may cs xs)) (part ds [] ∷ es)
unfolding is may
may_so_gives {N = N} {G = G} {Q = Q} cs ds k es h st = record {
  there = λ xs m g.
      let r = cut_one ds [] es xs m in
      subst (Held N Q) (sym (ap (λ xs. k (may cs xs)) r.2 ∙ ap (λ (b : Bool). k (if b then (true, r.1) else (false, r.0 ∷ r.1))) (inside_head (map class_number cs) [] ds [] r.0.head h refl r.3)))
      (st.there r.1 r.4 (subst (Every G) r.2 g).1);
}

pub may_gives : {B : Type 0} {N : Type 0} {G : Part → Type 0} {Q : B → Type 0} (cs : List Class) (ds : List ℕ) (k : Bool × List Part → Option B) (es : List Expression) → within ds (map class_number cs) ≡ true → edges_away (map class_number cs) [] (firsts_all es) ≡ true
    → ((b : Bool) → Gives N G Q (λ zs. k (b, zs)) es) → Gives N G Q (λ xs. k (may cs xs)) (either nothing (part ds []) ∷ es)
may_gives cs ds k es h d st = maybe_gives (λ xs. k (may cs xs)) (part ds []) es (may_not_gives cs k es d (st false)) (may_so_gives cs ds k es h (st true))

-- from all in a row to a form
pub given_by : {B : Type 0} {N : Type 0} {G : Part → Type 0} {Q : B → Type 0} (f : Form) (k : List Part → Option B) → Gives N G Q k (flat (expression_of f) [])
    → (parts : List Part) → Matches (expression_of f) (heads parts) → Every G parts → Held N Q (k parts)
given_by f k st parts m g = st.there parts (flattened (expression_of f) [] (heads parts) (all_of (expression_of f) (heads parts) m)) g

-- any number of words, as far as the run of some of them goes
run_none : (cs : List Class) (es : List Expression) → edges_away (map class_number cs) [] (firsts_all es) ≡ true → (xs : List Part) → MatchesAll es (heads xs) → run cs xs ≡ 0
run_none cs es d [] m = refl
run_none cs es d (x ∷ xs) m = ap (λ (b : Bool). if b then 1 + run cs xs else 0) (front_away cs es d x xs m)

pub partial_run : {B : Type 0} {N : Type 0} {G : Part → Type 0} {Q : B → Type 0} (cs : List Class) (ds : List ℕ) (k : List Part × List Part → Option B) (es : List Expression) → edges_away (map class_number cs) [] (firsts_all es) ≡ true
    → ((ys : List Part) → Gives N G Q (λ zs. k (ys, zs)) es)
    → ((ys : List Part) (x : Part) (zs : List Part) → Among ds [] x → is cs [] x ≡ false → MatchesAll (many (part ds []) ∷ es) (heads zs) → Held N Q (k (ys, x ∷ zs)))
    → Gives N G Q (λ xs. k (split_run cs xs)) (many (part ds []) ∷ es)
unfolding is
partial_run {B = B} {N = N} {G = G} {Q = Q} cs ds k es d st stop = record { there = λ xs m g. walk m.3.0 xs (m.0, m.1, m.2, m.3.1, m.4) g k st stop }
  where
    walk : (n : ℕ) (xs : List Part) → InRow (Times n (Matches (part ds []))) (MatchesAll es) (heads xs) → Every G xs → (k : List Part × List Part → Option B) → ((ys : List Part) → Gives N G Q (λ zs. k (ys, zs)) es)
        → ((ys : List Part) (x : Part) (zs : List Part) → Among ds [] x → is cs [] x ≡ false → MatchesAll (many (part ds []) ∷ es) (heads zs) → Held N Q (k (ys, x ∷ zs)))
        → Held N Q (k (split_run cs xs))
    walk zero xs m g k st stop =
        let here : MatchesAll es (heads xs) = subst (MatchesAll es) (sym (m.2 ∙ ap (λ us. us ++ m.1) m.3)) m.4 in
        subst (Held N Q) (sym (ap (λ n. k (take n xs, drop n xs)) (run_none cs es d xs here))) ((st []).there xs here g)
    walk (suc n) xs m g k st stop =
        let r = cut_map xs m.3.0 (m.3.1 ++ m.1) (m.2 ∙ ap (λ us. us ++ m.1) m.3.2 ∙ append_assoc m.3.0 m.3.1 m.1) in
        let o = one_part ds [] r.0 (subst (Matches (part ds [])) (sym r.3) m.3.3) in
        let p = r.2 ∙ ap (λ ys. ys ++ r.1) o.1 in
        let w : InRow (Times n (Matches (part ds []))) (MatchesAll es) (heads r.1) = (m.3.1, m.1, r.4, m.3.4, m.4) in
        subst (λ xs. Held N Q (k (split_run cs xs))) (sym p) (go o.0 r.1 o.2 w (is cs [] o.0) refl (walk n r.1 w (subst (Every G) p g).1 (λ p. k (o.0 ∷ p.0, p.1)) (λ ys. st (o.0 ∷ ys)) (λ ys y us. stop (o.0 ∷ ys) y us)))
      where
        go : (x : Part) (zs : List Part) → Among ds [] x → InRow (Times n (Matches (part ds []))) (MatchesAll es) (heads zs) → (b : Bool) → is cs [] x ≡ b
            → Held N Q (k (x ∷ take (run cs zs) zs, drop (run cs zs) zs)) → Held N Q (k (split_run cs (x ∷ zs)))
        go x zs v w true e on =
            subst (Held N Q) (sym (ap (λ (b : Bool). k (let n = (if b then 1 + run cs zs else 0) in (take n (x ∷ zs), drop n (x ∷ zs)))) e ∙ ap (λ n. k (take n (x ∷ zs), drop n (x ∷ zs))) (one_suc (run cs zs)))) on
        go x zs v w false e on =
            subst (Held N Q) (sym (ap (λ (b : Bool). k (let n = (if b then 1 + run cs zs else 0) in (take n (x ∷ zs), drop n (x ∷ zs)))) e))
            (stop [] x zs v e (w.0, w.1, w.2, (n, w.3), w.4))

-- all of them
pub run_gives : {B : Type 0} {N : Type 0} {G : Part → Type 0} {Q : B → Type 0} (cs : List Class) (ds : List ℕ) (k : List Part × List Part → Option B) (es : List Expression) → within ds (map class_number cs) ≡ true → edges_away (map class_number cs) [] (firsts_all es) ≡ true
    → ((ys : List Part) → Gives N G Q (λ zs. k (ys, zs)) es) → Gives N G Q (λ xs. k (split_run cs xs)) (many (part ds []) ∷ es)
unfolding is
run_gives cs ds k es h d st = partial_run cs ds k es d st (λ ys x zs v e m. false_true (sym e ∙ inside_head (map class_number cs) [] ds [] x.head h refl v))

pub and_false : (b : Bool) → (b && false) ≡ false
and_false true = refl
and_false false = refl

pub every_both : {A : Type 0} (P Q : A → Type 0) (xs : List A) → Every P xs → Every Q xs → Every (λ x. P x × Q x) xs
every_both P Q [] g h = tt
every_both P Q (x ∷ xs) g h = ((g.0, h.0), every_both P Q xs g.1 h.1)
