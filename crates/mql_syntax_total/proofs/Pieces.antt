-- Pieces between commas.
use Rattle.std.proofs.Common.{◌≡◌, ℕ, zero, suc, Bool, true, false, not, ◌&&◌, nat_eq, List, [], ◌∷◌, ◌++◌, map, Option, refl, sym, ap, subst, ◌∙◌, inl, inr, if◌then◌else◌, append_assoc, append-nil}
use Rattle.mql_grammar.specs.Expression.{Expression, nothing, either, seq, many, among, Matches, InRow, Times}
use Rattle.mql_grammar.specs.Expressions.{a}
use Rattle.mql_grammar.specs.Forms.{Head, of_class, of_form}
use Rattle.mql_grammar.specs.Numbers.{class_number}
use Rattle.mql_grammar.specs.Table.{listed}
use Rattle.mql_grammar.specs.declared.token_class.Class.{Class}
use Rattle.mql_grammar.specs.declared.token_class.Class.TheVariants as class
use Rattle.mql_grammar.proofs.Derivatives.{MatchesAll}
use Rattle.mql_views.specs.Cuts.{is}
use Rattle.mql_views.specs.Laws.{heads}
use Rattle.mql_views.specs.Parts.{Part}
use Rattle.mql_views.proofs.Stands.{AllAway, all_away, avoids, away_head, cut_row, cut_map, cut_one, nothing_left, opened, all_of}
use Rattle.mql_syntax.specs.Lists.{each, divides, enclosed, pieces_from, pieces, without}
use Rattle.mql_syntax_total.specs.Formed.{Every}
use Rattle.mql_syntax_total.proofs.Gives.{Has, Among, every_front, every_back, has_on, and_false}

-- parts in which no piece ends: those behind them go on with the piece
abbrev pub Calm : List Part → Type 0
Calm ys = (front zs : List Part) → pieces_from false front (ys ++ zs) ≡ pieces_from false (front ++ ys) zs

pub calm_join : (xs ys : List Part) → Calm xs → Calm ys → Calm (xs ++ ys)
calm_join xs ys p q front zs =
    ap (λ us. pieces_from false front us) (append_assoc xs ys zs)
    ∙ p front (ys ++ zs)
    ∙ q (front ++ xs) zs
    ∙ ap (λ us. pieces_from false us zs) (append_assoc front xs ys)

pub calm_nil : Calm []
calm_nil front zs = ap (λ us. pieces_from false us zs) (sym (append-nil front))

-- a part that neither divides nor encloses
abbrev plain_part : Part → Type 0
plain_part y = (is (class.Comma ∷ []) [] y ≡ false) × (is (class.OpenParen ∷ []) [] y ≡ false) × (is (class.CloseParen ∷ []) [] y ≡ false)

go_on : (inside : Bool) (front : List Part) (y : Part) (us : List Part) (b : Bool) → divides inside y ≡ false → enclosed inside y ≡ b → pieces_from inside front (y ∷ us) ≡ pieces_from b (front ++ y ∷ []) us
unfolding pieces_from
go_on inside front y us b d e =
    ap (λ (c : Bool). if c then front ∷ pieces_from inside [] us else pieces_from (enclosed inside y) (front ++ y ∷ []) us) d
    ∙ ap (λ c. pieces_from c (front ++ y ∷ []) us) e

calm_plain : (ys : List Part) → Every plain_part ys → Calm ys
calm_plain [] p front zs = calm_nil front zs
calm_plain (y ∷ ys) p front zs =
    go_on false front y (ys ++ zs) false (ap (λ (b : Bool). b && not false) p.0.0)
    (ap (λ (b : Bool). if b then true else if is (class.CloseParen ∷ []) [] y then false else false) p.0.1 ∙ ap (λ (b : Bool). if b then false else false) p.0.2)
    ∙ calm_plain ys p.1 (front ++ y ∷ []) zs
    ∙ ap (λ us. pieces_from false us zs) (append_assoc front (y ∷ []) ys)

all_plain : (ys : List Part) → AllAway (class_number class.Comma ∷ []) [] (heads ys) → AllAway (class_number class.OpenParen ∷ []) [] (heads ys) → AllAway (class_number class.CloseParen ∷ []) [] (heads ys) → Every plain_part ys
unfolding is
all_plain [] c o d = tt
all_plain (y ∷ ys) c o d = ((c.0, o.0, d.0), all_plain ys c.1 o.1 d.1)

-- a match without commas and parentheses
pub calm_of : (e : Expression) → avoids (class_number class.Comma ∷ []) [] e ≡ true → avoids (class_number class.OpenParen ∷ []) [] e ≡ true → avoids (class_number class.CloseParen ∷ []) [] e ≡ true
    → (ys : List Part) → Matches e (heads ys) → Calm ys
calm_of e c o d ys m = calm_plain ys (all_plain ys (all_away _ _ e c (heads ys) m) (all_away _ _ e o (heads ys) m) (all_away _ _ e d (heads ys) m))

-- what is enclosed, up to the parenthesis that closes
enclosed_on : (ys : List Part) → AllAway (class_number class.CloseParen ∷ []) [] (heads ys) → (front zs : List Part) → pieces_from true front (ys ++ zs) ≡ pieces_from true (front ++ ys) zs
unfolding is
enclosed_on [] w front zs = ap (λ vs. pieces_from true vs zs) (sym (append-nil front))
enclosed_on (y ∷ ys) w front zs =
    go_on true front y (ys ++ zs) true (and_false (is (class.Comma ∷ []) [] y))
    (ap (λ (b : Bool). if is (class.OpenParen ∷ []) [] y then true else if b then false else true) w.0 ∙ if_same (is (class.OpenParen ∷ []) [] y))
    ∙ enclosed_on ys w.1 (front ++ y ∷ []) zs
    ∙ ap (λ us. pieces_from true us zs) (append_assoc front (y ∷ []) ys)
  where
    if_same : (b : Bool) → (if b then true else true) ≡ true
    if_same true = refl
    if_same false = refl

-- values in parentheses
pub calm_enclosed : (e : Expression) → avoids (class_number class.CloseParen ∷ []) [] e ≡ true → (xs : List Part) → MatchesAll (a class.OpenParen ∷ e ∷ a class.CloseParen ∷ []) (heads xs) → Calm xs
unfolding is class_number
calm_enclosed e h xs m front zs =
    let o = cut_one (34 ∷ []) [] (e ∷ a class.CloseParen ∷ []) xs m in
    let r = cut_row e (a class.CloseParen ∷ []) o.1 o.4 in
    let c = cut_one (36 ∷ []) [] [] r.1 r.4 in
    let p : xs ≡ o.0 ∷ r.0 ++ c.0 ∷ [] = o.2 ∙ ap (λ us. o.0 ∷ us) (r.2 ∙ ap (λ us. r.0 ++ us) (c.2 ∙ ap (λ us. c.0 ∷ us) (nothing_left c.1 c.4))) in
    ap (λ us. pieces_from false front (us ++ zs)) p
    ∙ go_on false front o.0 ((r.0 ++ c.0 ∷ []) ++ zs) true (ap (λ (b : Bool). b && not false) (away_head (42 ∷ []) [] (34 ∷ []) [] o.0.head refl refl o.3))
    (ap (λ (b : Bool). if b then true else if is (class.CloseParen ∷ []) [] o.0 then false else false) o.3)
    ∙ ap (λ us. pieces_from true (front ++ o.0 ∷ []) us) (append_assoc r.0 (c.0 ∷ []) zs)
    ∙ enclosed_on r.0 (all_away (36 ∷ []) [] e h (heads r.0) r.3) (front ++ o.0 ∷ []) (c.0 ∷ zs)
    ∙ go_on true ((front ++ o.0 ∷ []) ++ r.0) c.0 zs false (and_false (is (class.Comma ∷ []) [] c.0))
    (ap (λ (b : Bool). if b then true else if is (class.CloseParen ∷ []) [] c.0 then false else true) (away_head (34 ∷ []) [] (36 ∷ []) [] c.0.head refl refl c.3) ∙ ap (λ (b : Bool). if b then false else true) c.3)
    ∙ ap (λ us. pieces_from false us zs) (append_assoc (front ++ o.0 ∷ []) r.0 (c.0 ∷ []) ∙ append_assoc front (o.0 ∷ []) (r.0 ++ c.0 ∷ []) ∙ ap (λ us. front ++ us) (sym p))

-- the pieces of a list: its first item, and the others behind their commas; behind the last a comma may stand
abbrev last_comma : List Expression
last_comma = either nothing (a class.Comma) ∷ []

pub pieces_to : (G : Part → Type 0) (P : List Part → Type 0) (d e : Expression)
    → ((ys : List Part) → Matches d (heads ys) → Calm ys) → ((ys : List Part) → Matches e (heads ys) → Calm ys)
    → ((ys : List Part) → Matches d (heads ys) → Every G ys → P ys) → ((ys : List Part) → Matches e (heads ys) → Every G ys → P ys)
    → (xs : List Part) → MatchesAll (d ∷ many (seq (a class.Comma) e) ∷ last_comma) (heads xs) → Every G xs → Every P (pieces xs)
unfolding pieces_from is class_number
pieces_to G P d e cd ce pd pe xs m g =
    let r = cut_row d (many (seq (a class.Comma) e) ∷ last_comma) xs m in
    let h = subst (Every G) r.2 g in
    let n = r.4 in
    subst (Every P) (sym (ap pieces r.2 ∙ cd r.0 r.3 [] r.1))
    (rest n.3.0 r.0 (pd r.0 r.3 (every_front G r.0 r.1 h)) r.1 (n.0, n.1, n.2, n.3.1, n.4) (every_back G r.0 r.1 h))
  where
    at_end : (front : List Part) → P front → Every P (pieces_from false front [])
    at_end [] p = tt
    at_end (x ∷ xs) p = (p, tt)

    at_comma : (front : List Part) (c : Part) (us : List Part) → among (42 ∷ []) [] c.head ≡ true → pieces_from false front (c ∷ us) ≡ front ∷ pieces_from false [] us
    at_comma front c us h = ap (λ (b : Bool). if b && not false then front ∷ pieces_from false [] us else pieces_from (enclosed false c) (front ++ c ∷ []) us) h

    ending : (front : List Part) → P front → (zs : List Part) → MatchesAll last_comma (heads zs) → Every P (pieces_from false front zs)
    ending front p zs (us, vs, f, inl x, y) = subst (λ us. Every P (pieces_from false front us)) (sym (nothing_left zs (f ∙ ap (λ us. us ++ vs) x ∙ y))) (at_end front p)
    ending front p zs (us, vs, f, inr x, y) =
        let c = cut_one (42 ∷ []) [] [] zs (us, vs, f, x, y) in
        subst (Every P) (sym (ap (λ us. pieces_from false front us) (c.2 ∙ ap (λ us. c.0 ∷ us) (nothing_left c.1 c.4)) ∙ at_comma front c.0 [] c.3)) (p, tt)

    rest : (n : ℕ) (front : List Part) → P front → (zs : List Part) → InRow (Times n (Matches (seq (a class.Comma) e))) (MatchesAll last_comma) (heads zs) → Every G zs → Every P (pieces_from false front zs)
    rest zero front p zs m g = ending front p zs (subst (MatchesAll last_comma) (sym (m.2 ∙ ap (λ us. us ++ m.1) m.3)) m.4)
    rest (suc n) front p zs m g =
        let r = cut_map zs m.3.0 (m.3.1 ++ m.1) (m.2 ∙ ap (λ us. us ++ m.1) m.3.2 ∙ append_assoc m.3.0 m.3.1 m.1) in
        let c = cut_one (42 ∷ []) [] (e ∷ []) r.0 (opened (a class.Comma) e [] (heads r.0) (all_of (seq (a class.Comma) e) (heads r.0) (subst (Matches (seq (a class.Comma) e)) (sym r.3) m.3.3))) in
        let me : Matches e (heads c.1) = subst (Matches e) (sym (c.4.2 ∙ ap (λ us. c.4.0 ++ us) c.4.4 ∙ append-nil c.4.0)) c.4.3 in
        let q : zs ≡ c.0 ∷ c.1 ++ r.1 = r.2 ∙ ap (λ us. us ++ r.1) c.2 in
        let h = (subst (Every G) q g).1 in
        subst (Every P) (sym (ap (λ us. pieces_from false front us) q ∙ at_comma front c.0 (c.1 ++ r.1) c.3 ∙ ap (λ us. front ∷ us) (ce c.1 me [] r.1)))
        (p, rest n c.1 (pe c.1 me (every_front G c.1 r.1 h)) r.1 (m.3.1, m.1, r.4, m.3.4, m.4) (every_back G c.1 r.1 h))

pub pieces_are : (G : Part → Type 0) (P : List Part → Type 0) (d e : Expression)
    → ((ys : List Part) → Matches d (heads ys) → Calm ys) → ((ys : List Part) → Matches e (heads ys) → Calm ys)
    → ((ys : List Part) → Matches d (heads ys) → Every G ys → P ys) → ((ys : List Part) → Matches e (heads ys) → Every G ys → P ys)
    → (xs : List Part) → MatchesAll (d ∷ many (seq (a class.Comma) e) ∷ []) (heads xs) → Every G xs → Every P (pieces xs)
pieces_are G P d e cd ce pd pe xs m g =
    let n = m.4 in
    pieces_to G P d e cd ce pd pe xs (m.0, m.1, m.2, m.3, (n.0, n.1, n.2, n.3, ([], [], n.4, inl refl, refl))) g

-- what is read of each
pub each_has : {A B : Type 0} (P : A → Type 0) (Q : B → Type 0) (f : A → Option B) → ((x : A) → P x → Has Q (f x)) → (xs : List A) → Every P xs → Has (Every Q) (each f xs)
each_has P Q f h [] p = tt
each_has P Q f h (x ∷ xs) p =
    has_on Q (Every Q) (f x) _ (h x p.0) (λ y q. has_on (Every Q) (Every Q) (each f xs) _ (each_has P Q f h xs p.1) (λ ys qs. (q, qs)))

-- the parts of a list without the tokens of some classes
pub listed_behind : (c : ℕ) (ws cs : List ℕ) → listed c (ws ++ cs) ≡ true → listed c ws ≡ false → listed c cs ≡ true
listed_behind c [] cs h i = h
listed_behind c (w ∷ ws) cs h i = go (nat_eq w c) h i (listed_behind c ws cs)
  where
    go : (b : Bool) → elim b [ true ↦ true | false ↦ listed c (ws ++ cs) ] ≡ true → elim b [ true ↦ true | false ↦ listed c ws ] ≡ false → (listed c (ws ++ cs) ≡ true → listed c ws ≡ false → listed c cs ≡ true) → listed c cs ≡ true
    go true h i k = absurd (let f : true ≡ false → ⊥ = λ e. cc in f i)
    go false h i k = k h i

pub without_among : (G : Part → Type 0) (ws : List Class) (cs fs : List ℕ) (xs : List Part) → Every (Among (map class_number ws ++ cs) fs) xs → Every G xs → Every (λ p. G p × Among cs fs p) (without ws xs)
unfolding is
without_among G ws cs fs [] m g = tt
without_among G ws cs fs (x ∷ xs) m g = go (is ws [] x) refl (without_among G ws cs fs xs m.1 g.1)
  where
    other : (h : Head) → among (map class_number ws ++ cs) fs h ≡ true → among (map class_number ws) [] h ≡ false → among cs fs h ≡ true
    other (of_class c) h i = listed_behind c (map class_number ws) cs h i
    other (of_form f) h i = h

    go : (b : Bool) → is ws [] x ≡ b → Every (λ p. G p × Among cs fs p) (without ws xs) → Every (λ p. G p × Among cs fs p) (if b then without ws xs else x ∷ without ws xs)
    go true e kept = kept
    go false e kept = ((g.0, other x.head m.0 e), kept)

-- the items of a list without its commas
pub items_among : (G : Part → Type 0) (cs fs : List ℕ) (xs : List Part) → Every (Among (class_number class.Comma ∷ cs) fs) xs → Every G xs → Every (λ p. G p × Among cs fs p) (without (class.Comma ∷ []) xs)
items_among G cs fs xs m g = without_among G (class.Comma ∷ []) cs fs xs m g
