-- Stops and orders put together by their tickets.
use Rattle.std.proofs.Common.{◌≡◌, ◌∙◌, ℕ, suc, ◌+◌, ◌<◌, ◌≤◌, ◌++◌, append_assoc, append-nil, true, false, List, [], ◌∷◌, length, take, drop, refl, ap, sym, arith}
use Rattle.std.specs.Prelude.{nat_lt}
use Rattle.std.specs.List.{prefix_len}
use Rattle.desk.specs.declared.trigger.Trigger.{Trigger}
use Rattle.desk.specs.declared.trigger.Trigger.TheVariants.{Order}
use Rattle.desk.specs.Effect.{ticket_of, earlier, merged}

is_lower : (a b : ℕ) → a < b → nat_lt a b ≡ true
is_lower a b h = grind (arith, h)

is_higher : (a b : ℕ) → b ≤ a → nat_lt a b ≡ false
is_higher a b h = grind (arith, h)

one_more : (s : Trigger) (ss : List Trigger) (n : ℕ) → take (1 + n) (s ∷ ss) ≡ s ∷ take n ss
one_more s ss n = let e : 1 + n ≡ suc n = omega arith in rw e refl

-- the first is of a lower ticket, or none is
earlier_more : (t : ℕ) (s : Trigger) (ss : List Trigger) → ticket_of s < t → earlier t (s ∷ ss) ≡ s ∷ earlier t ss
earlier_more t s ss h = rw (is_lower (ticket_of s) t h) (one_more s ss (prefix_len (λ x. nat_lt (ticket_of x) t) ss))

earlier_none : (t : ℕ) (s : Trigger) (ss : List Trigger) → t ≤ ticket_of s → earlier t (s ∷ ss) ≡ []
earlier_none t s ss h = rw (is_higher (ticket_of s) t h) refl

-- what was pushed and what is left, while stops of lower tickets come
pub record IsBetween (t : ℕ) (out0 out : List Trigger) (stops rest : List Trigger) : Type 0 where
  pub pushed : out ++ earlier t rest ≡ out0 ++ earlier t stops
  pub others : drop (length (earlier t rest)) rest ≡ drop (length (earlier t stops)) stops

pub between_begins : (t : ℕ) (out stops rest : List Trigger) → rest ≡ stops → IsBetween t out out stops rest
between_begins t out stops rest e = rw e (record { pushed = refl; others = refl })

pub between_goes : (t : ℕ) (out0 out out' stops rest others : List Trigger) (s : Trigger) → IsBetween t out0 out stops rest → rest ≡ s ∷ others → ticket_of s < t → out' ≡ out ++ s ∷ [] → IsBetween t out0 out' stops others
between_goes t out0 out out' stops rest others s b e h g =
    let m : earlier t rest ≡ s ∷ earlier t others = ap (λ (xs : List Trigger). earlier t xs) e ∙ earlier_more t s others h in
    record {
      pushed = ap (λ (xs : List Trigger). xs ++ earlier t others) g ∙ append_assoc out (s ∷ []) (earlier t others) ∙ ap (λ (xs : List Trigger). out ++ xs) (sym m) ∙ b.pushed;
      others = sym (ap (λ (xs : List Trigger). drop (length xs) rest) m ∙ ap (λ (xs : List Trigger). drop (length (s ∷ earlier t others)) xs) e) ∙ b.others;
    }

-- none is left of a lower ticket
none_left : (t : ℕ) (out0 out stops rest : List Trigger) → IsBetween t out0 out stops rest → earlier t rest ≡ [] → (out ≡ out0 ++ earlier t stops) × (rest ≡ drop (length (earlier t stops)) stops)
none_left t out0 out stops rest b e = (
  sym (append-nil out) ∙ ap (λ (xs : List Trigger). out ++ xs) (sym e) ∙ b.pushed,
  sym (ap (λ (xs : List Trigger). drop (length xs) rest) e) ∙ b.others,
)

pub between_stops : (t : ℕ) (out0 out stops rest others : List Trigger) (s : Trigger) → IsBetween t out0 out stops rest → rest ≡ s ∷ others → t ≤ ticket_of s → (out ≡ out0 ++ earlier t stops) × (rest ≡ drop (length (earlier t stops)) stops)
between_stops t out0 out stops rest others s b e h = none_left t out0 out stops rest b (ap (λ (xs : List Trigger). earlier t xs) e ∙ earlier_none t s others h)

pub between_ends : (t : ℕ) (out0 out stops rest : List Trigger) → IsBetween t out0 out stops rest → rest ≡ [] → (out ≡ out0 ++ earlier t stops) × (rest ≡ drop (length (earlier t stops)) stops)
between_ends t out0 out stops rest b e = none_left t out0 out stops rest b (ap (λ (xs : List Trigger). earlier t xs) e)

-- the stops before an order, and the order
pub merge_goes : (all all1 all2 late late' whole : List Trigger) (t : ℕ) (rest others : List ℕ) → all ++ merged rest late ≡ whole → rest ≡ t ∷ others → all1 ≡ all ++ earlier t late → late' ≡ drop (length (earlier t late)) late → all2 ≡ all1 ++ Order t ∷ [] → all2 ++ merged others late' ≡ whole
merge_goes all all1 all2 late late' whole t rest others h e p l q =
    let m : List Trigger = merged others (drop (length (earlier t late)) late) in
    ap (λ (xs : List Trigger). all2 ++ merged others xs) l
    ∙ ap (λ (xs : List Trigger). xs ++ m) (q ∙ ap (λ (xs : List Trigger). xs ++ Order t ∷ []) p)
    ∙ append_assoc (all ++ earlier t late) (Order t ∷ []) m
    ∙ append_assoc all (earlier t late) (Order t ∷ m)
    ∙ ap (λ (xs : List ℕ). all ++ merged xs late) (sym e) ∙ h

pub merge_ends : (all all1 late whole : List Trigger) (rest : List ℕ) → all ++ merged rest late ≡ whole → rest ≡ [] → all1 ≡ all ++ late → all1 ≡ whole
merge_ends all all1 late whole rest h e p = p ∙ ap (λ (xs : List ℕ). all ++ merged xs late) (sym e) ∙ h
