-- How one more quote changes the bars.
use Rattle.std.proofs.Common.{◌≡◌, ℕ, ◌+◌, ◌-◌, ◌≤◌, ◌<◌, List, [], ◌∷◌, ◌++◌, map, length, refl, sym, ap, ◌∙◌, Bool, true, false, cond, append_assoc, subst, arith}
use Rattle.std.specs.Prelude.{◌==◌, ℤ, Option, Some, None, slice_get, slice_set, All}
use Rattle.std.specs.List.{fold}
use Rattle.std.specs.Int.{int_max, int_min}
use Rattle.std.proofs.lemmas.Grind.{common_steps}
use Rattle.std.proofs.lemmas.List.{map-append, set_at, length_push, get_or-set_same, length-set}
use Rattle.std.proofs.lemmas.List.Sums.{fold_push}
use Rattle.market_types.specs.declared.quote.Quote.{Quote}
use Rattle.market_types.specs.declared.bar.Bar.{Bar}
use Rattle.market_types.specs.declared.period.Period.{Period}
use Rattle.series.specs.Bars.{bars, newest_traded, Group, group, bar_of, opens, groups, grouped, lots, traded}
use Rattle.series.specs.Pushed.{grown, newest_of, with_quote, with_quote_in, HasVolumes, FitsWith}
use Rattle.series.specs.Stored.{History}
use Rattle.series.specs.Stands.{history}

-- one more quote in the groups: in the last one, if it belongs to its bar, else in one of its own
abbrev with_last : Period → Quote → List Group → List Group
with_last p q [] = group q [] ∷ []
with_last p q (g ∷ []) =
    cond (opens p g.first == opens p q) (group g.first (g.others ++ q ∷ []) ∷ []) (g ∷ group q [] ∷ [])
with_last p q (g ∷ h ∷ more) = g ∷ with_last p q (h ∷ more)

same_number : (a b : ℕ) → (a == b) ≡ true → a ≡ b
same_number a b e = grind (arith, common_steps)

-- where the quote before belongs to the last group's bar, and where not
at_one : (n m k : ℕ) (r q f : Quote) (os : List Quote) (b : Bool) → (n == m) ≡ b
    → cond (m == k) (cond b (group r (f ∷ os ++ q ∷ []) ∷ []) (group r [] ∷ group f (os ++ q ∷ []) ∷ []))
    (cond b (group r (f ∷ os) ∷ group q [] ∷ []) (group r [] ∷ group f os ∷ group q [] ∷ []))
    ≡ cond b (cond (n == k) (group r (f ∷ os ++ q ∷ []) ∷ []) (group r (f ∷ os) ∷ group q [] ∷ []))
    (group r [] ∷ cond (m == k) (group f (os ++ q ∷ []) ∷ []) (group f os ∷ group q [] ∷ []))
at_one n m k r q f os true e = rw (same_number n m e) refl
at_one n m k r q f os false e = of_test (m == k)
  where
    of_test : (b : Bool) → cond b (group r [] ∷ group f (os ++ q ∷ []) ∷ []) (group r [] ∷ group f os ∷ group q [] ∷ [])
        ≡ group r [] ∷ cond b (group f (os ++ q ∷ []) ∷ []) (group f os ∷ group q [] ∷ [])
    of_test true = refl
    of_test false = refl

grouped_cond : (p : Period) (r : Quote) (b : Bool) (x y : List Group)
    → grouped p r (cond b x y) ≡ cond b (grouped p r x) (grouped p r y)
grouped_cond p r true x y = refl
grouped_cond p r false x y = refl

last_cond : (p : Period) (q : Quote) (b : Bool) (x y : List Group)
    → with_last p q (cond b x y) ≡ cond b (with_last p q x) (with_last p q y)
last_cond p q true x y = refl
last_cond p q false x y = refl

grouped_last : (p : Period) (r q : Quote) (gs : List Group)
    → grouped p r (with_last p q gs) ≡ with_last p q (grouped p r gs)
grouped_last p r q [] = refl
grouped_last p r q (g ∷ []) =
    grouped_cond p r (opens p g.first == opens p q) _ _
    ∙ at_one (opens p r) (opens p g.first) (opens p q) r q g.first g.others (opens p r == opens p g.first) refl
    ∙ sym (last_cond p q (opens p r == opens p g.first) _ _)
grouped_last p r q (g ∷ h ∷ more) = sym (last_cond p q (opens p r == opens p g.first) _ _)

groups_more : (p : Period) (qs : List Quote) (q : Quote) → groups p (qs ++ q ∷ []) ≡ with_last p q (groups p qs)
groups_more p [] q = refl
groups_more p (r ∷ qs) q = ap (grouped p r) (groups_more p qs q) ∙ grouped_last p r q (groups p qs)

at_end : (p : Period) (q : Quote) (front : List Group) (g : Group) → with_last p q (front ++ g ∷ [])
    ≡ front ++ cond (opens p g.first == opens p q) (group g.first (g.others ++ q ∷ []) ∷ []) (g ∷ group q [] ∷ [])
at_end p q [] g = refl
at_end p q (x ∷ []) g = refl
at_end p q (x ∷ y ∷ front) g = ap (λ gs. x ∷ gs) (at_end p q (y ∷ front) g)

-- the history of groups
abbrev of_groups : Period → ℕ → List Group → History
of_groups p d gs = record {
  bars = map (bar_of p d) gs;
  traded = fold (λ (before : ℕ) (g : Group). traded g) 0 gs;
}

history_is : (p : Period) (d : ℕ) (qs : List Quote) → history p d qs ≡ of_groups p d (groups p qs)
unfolding history bars newest_traded
history_is p d qs = refl

pub bars_is : (p : Period) (d : ℕ) (qs : List Quote) → bars p d qs ≡ (history p d qs).bars
unfolding history
bars_is p d qs = refl

bar_grows : (p : Period) (d : ℕ) (q f : Quote) (os : List Quote)
    → bar_of p d (group f (os ++ q ∷ [])) ≡ grown d (bar_of p d (group f os)) q (traded (group f os) + lots q)
bar_grows p d q f os =
    rw (
      fold_push (λ (high : ℤ) (r : Quote). int_max high r.bid) f.bid os q,
      fold_push (λ (low : ℤ) (r : Quote). int_min low r.bid) f.bid os q,
      fold_push (λ (before r : Quote). r) f os q,
      fold_push (λ (sum : ℕ) (r : Quote). sum + lots r) (lots f) os q,
      length_push os q,
    ) refl

at_length : {A : Type 0} (xs : List A) (x : A) → slice_get (xs ++ x ∷ []) (length xs) ≡ Some x
at_length [] x = refl
at_length (y ∷ xs) x = at_length xs x

last_place : {A : Type 0} (xs : List A) (x : A) → length (xs ++ x ∷ []) - 1 ≡ length xs
last_place xs x = let e : length (xs ++ x ∷ []) ≡ length xs + 1 = length_push xs x in omega (arith, e)

last_get : {A : Type 0} (xs : List A) (x : A) → slice_get (xs ++ x ∷ []) (length (xs ++ x ∷ []) - 1) ≡ Some x
last_get xs x = ap (slice_get (xs ++ x ∷ [])) (last_place xs x) ∙ at_length xs x

last_set : {A : Type 0} (xs : List A) (x y : A) → slice_set (xs ++ x ∷ []) (length (xs ++ x ∷ []) - 1) y ≡ xs ++ y ∷ []
last_set xs x y = ap (λ i. slice_set (xs ++ x ∷ []) i y) (last_place xs x) ∙ set_at xs x [] y (length xs) refl

-- one more quote behind some groups
behind : (p : Period) (d : ℕ) (q : Quote) (front : List Group) (g : Group) (b : Bool) → (opens p g.first == opens p q) ≡ b
    → of_groups p d (front ++ cond b (group g.first (g.others ++ q ∷ []) ∷ []) (g ∷ group q [] ∷ []))
    ≡ with_quote_in p d q (of_groups p d (front ++ g ∷ [])) (cond b (Some (bar_of p d g)) None)
behind p d q front g true e =
    let was : map (bar_of p d) (front ++ g ∷ []) ≡ map (bar_of p d) front ++ bar_of p d g ∷ [] = map-append (bar_of p d) front (g ∷ []) in
    rw (
      map-append (bar_of p d) front (group g.first (g.others ++ q ∷ []) ∷ []),
      fold_push (λ (before : ℕ) (h : Group). traded h) 0 front (group g.first (g.others ++ q ∷ [])),
      was,
      fold_push (λ (before : ℕ) (h : Group). traded h) 0 front g,
      last_set (map (bar_of p d) front) (bar_of p d g) (grown d (bar_of p d g) q (traded g + lots q)),
      bar_grows p d q g.first g.others,
      fold_push (λ (sum : ℕ) (r : Quote). sum + lots r) (lots g.first) g.others q,
    ) refl
behind p d q front g false e =
    let two : front ++ g ∷ group q [] ∷ [] ≡ (front ++ g ∷ []) ++ group q [] ∷ [] = sym (append_assoc front (g ∷ []) (group q [] ∷ [])) in
    ap (of_groups p d) two
    ∙ rw (
      map-append (bar_of p d) (front ++ g ∷ []) (group q [] ∷ []),
      fold_push (λ (before : ℕ) (h : Group). traded h) 0 (front ++ g ∷ []) (group q []),
    ) refl

-- the newest bar of groups, where the quote belongs to it
newest_is : (p : Period) (d : ℕ) (q : Quote) (front : List Group) (g : Group)
    → newest_of p q (map (bar_of p d) (front ++ g ∷ [])) ≡ cond (opens p g.first == opens p q) (Some (bar_of p d g)) None
newest_is p d q front g =
    rw (map-append (bar_of p d) front (g ∷ []), last_get (map (bar_of p d) front) (bar_of p d g)) refl

-- every list is empty or has a last item
split_last : {A : Type 0} (P : List A → Type 0) → P [] → ((front : List A) (x : A) → P (front ++ x ∷ [])) → (xs : List A) → P xs
split_last {A} P none some [] = none
split_last {A} P none some (x ∷ xs) = go x [] xs
  where
    go : (y : A) (front ys : List A) → P (front ++ y ∷ ys)
    go y front [] = some front y
    go y front (z ∷ ys) = subst P (append_assoc front (y ∷ []) (z ∷ ys)) (go z (front ++ y ∷ []) ys)

groups_history : (p : Period) (d : ℕ) (q : Quote) (gs : List Group)
    → of_groups p d (with_last p q gs) ≡ with_quote p d q (of_groups p d gs)
unfolding with_quote
groups_history p d q gs =
    split_last (λ xs. of_groups p d (with_last p q xs) ≡ with_quote p d q (of_groups p d xs)) refl
    (λ front g.
    ap (of_groups p d) (at_end p q front g) ∙ behind p d q front g (opens p g.first == opens p q) refl
    ∙ ap (with_quote_in p d q (of_groups p d (front ++ g ∷ []))) (sym (newest_is p d q front g)))
    gs

-- one more quote in a history
pub more_history : (p : Period) (d : ℕ) (qs : List Quote) (q : Quote)
    → history p d (qs ++ q ∷ []) ≡ with_quote p d q (history p d qs)
more_history p d qs q =
    history_is p d (qs ++ q ∷ []) ∙ ap (of_groups p d) (groups_more p qs q) ∙ groups_history p d q (groups p qs)
    ∙ ap (with_quote p d q) (sym (history_is p d qs))

some_bar : (p : Period) (q : Quote) (bars : List Bar) (b : Bar) → newest_of p q bars ≡ Some b → 1 ≤ length bars
some_bar p q [] b e = cc
some_bar p q (x ∷ bars) b e = omega arith

fits_in : (p : Period) (d : ℕ) (q : Quote) (h : History) (o : Option Bar) → newest_of p q h.bars ≡ o
    → All HasVolumes (with_quote_in p d q h o).bars → FitsWith d q h.traded o
fits_in p d q h None e all = tt
fits_in p d q h (Some b) e all =
    let some : 1 ≤ length h.bars = some_bar p q h.bars b e in
    let g : Bar = grown d b q (h.traded + lots q) in
    let i : ℕ = length h.bars - 1 in
    let within : i < length h.bars = omega arith in
    subst HasVolumes (get_or-set_same h.bars i g g within)
    (all i g (let e : length (slice_set h.bars i g) ≡ length h.bars = length-set h.bars i g in omega (arith, e)))

-- where the volumes of all bars fit their types, so do those of the newest
pub fits : (p : Period) (d : ℕ) (qs : List Quote) (q : Quote) (h : History) → h ≡ history p d qs
    → All HasVolumes (bars p d (qs ++ q ∷ [])) → FitsWith d q h.traded (newest_of p q h.bars)
unfolding with_quote
fits p d qs q h is all =
    fits_in p d q h (newest_of p q h.bars) refl
    (subst (λ (k : History). All HasVolumes k.bars) (more_history p d qs q ∙ ap (with_quote p d q) (sym is)) (subst (All HasVolumes) (bars_is p d (qs ++ q ∷ [])) all))
