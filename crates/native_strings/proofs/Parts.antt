-- How a text is split.
use Rattle.std.proofs.Common.{◌≡◌, ℕ, suc, ◌+◌, ◌<◌, ◌≤◌, ◌==◌, Bool, true, false, List, [], ◌∷◌, ◌++◌, length, get_or, drop, refl, sym, ap, ◌∙◌, arith, append_assoc, append-nil, drop-cons, add-one, drop_of_length-le}
use Rattle.mql_meaning.specs.StringFunctions.{parts}

-- the part that stands begun before the first of the parts that follow
abbrev pub glued : List ℕ → List (List ℕ) → List (List ℕ)
glued part [] = part ∷ []
glued part (s ∷ ss) = (part ++ s) ∷ ss

-- parts are at least one
pub record Some_parts (separator : ℕ) (text : List ℕ) : Type 0 where
  pub first : List ℕ
  pub others : List (List ℕ)
  pub are : parts separator text ≡ first ∷ others

at_unit : (separator u : ℕ) (us s : List ℕ) (ss : List (List ℕ)) → (u == separator) ≡ false → parts separator us ≡ s ∷ ss
    → parts separator (u ∷ us) ≡ (u ∷ s) ∷ ss
at_unit separator u us s ss e h = rw (e, h) refl

at_separator : (separator u : ℕ) (us : List ℕ) → (u == separator) ≡ true → parts separator (u ∷ us) ≡ [] ∷ parts separator us
at_separator separator u us e = rw e refl

some_parts : (separator : ℕ) (text : List ℕ) → Some_parts separator text
some_parts separator [] = record { first = []; others = []; are = refl }
some_parts separator (u ∷ us) = (elim (u == separator) as (λ (b : Bool). (u == separator) ≡ b → Some_parts separator (u ∷ us)) [
  | true ↦ λ e. record { first = []; others = parts separator us; are = at_separator separator u us e }
  | false ↦ λ e. let r = some_parts separator us in
      record { first = u ∷ r.first; others = r.others; are = at_unit separator u us r.first r.others e r.are }
]) refl

pub begun : (separator : ℕ) (text : List ℕ) → glued [] (parts separator text) ≡ parts separator text
begun separator text = let r = some_parts separator text in rw r.are refl

unit_glued : (separator u : ℕ) (part us : List ℕ) → (u == separator) ≡ false
    → glued part (parts separator (u ∷ us)) ≡ glued (part ++ (u ∷ [])) (parts separator us)
unit_glued separator u part us e =
    let r = some_parts separator us in
    ap (glued part) (at_unit separator u us r.first r.others e r.are)
    ∙ sym (ap (glued (part ++ (u ∷ []))) r.are ∙ ap (λ (s : List ℕ). s ∷ r.others) (append_assoc part (u ∷ []) r.first))

separator_glued : (separator u : ℕ) (part us : List ℕ) → (u == separator) ≡ true
    → glued part (parts separator (u ∷ us)) ≡ part ∷ glued [] (parts separator us)
separator_glued separator u part us e =
    ap (glued part) (at_separator separator u us e)
    ∙ ap (λ (s : List ℕ). s ∷ parts separator us) (append-nil part)
    ∙ ap (λ (ss : List (List ℕ)). part ∷ ss) (sym (begun separator us))

front : (n : ℕ) (text : List ℕ) → n < length text → drop n text ≡ get_or text n 0 ∷ drop (n + 1) text
front n text h = rw add-one (drop-cons text n 0 h)

equal : (u separator : ℕ) → u ≡ separator → (u == separator) ≡ true
equal u separator e = grind (arith, e)

unequal : (u separator : ℕ) → (u ≡ separator → ⊥) → (u == separator) ≡ false
unequal u separator e = grind (arith, e)

pub part_done : (separator n : ℕ) (text part : List ℕ) (done all : List (List ℕ)) → n < length text → get_or text n 0 ≡ separator
    → done ++ glued part (parts separator (drop n text)) ≡ all
    → (done ++ (part ∷ [])) ++ glued [] (parts separator (drop (n + 1) text)) ≡ all
part_done separator n text part done all h e i =
    append_assoc done (part ∷ []) (glued [] (parts separator (drop (n + 1) text)))
    ∙ sym (ap (λ (xs : List ℕ). done ++ glued part (parts separator xs)) (front n text h)
    ∙ ap (λ (ss : List (List ℕ)). done ++ ss) (separator_glued separator (get_or text n 0) part (drop (n + 1) text) (equal (get_or text n 0) separator e)))
    ∙ i

pub unit_done : (separator n : ℕ) (text part : List ℕ) (done all : List (List ℕ)) → n < length text → (get_or text n 0 ≡ separator → ⊥)
    → done ++ glued part (parts separator (drop n text)) ≡ all
    → done ++ glued (part ++ (get_or text n 0 ∷ [])) (parts separator (drop (n + 1) text)) ≡ all
unit_done separator n text part done all h e i =
    sym (ap (λ (xs : List ℕ). done ++ glued part (parts separator xs)) (front n text h)
    ∙ ap (λ (ss : List (List ℕ)). done ++ ss) (unit_glued separator (get_or text n 0) part (drop (n + 1) text) (unequal (get_or text n 0) separator e)))
    ∙ i

pub all_done : (separator n : ℕ) (text part : List ℕ) (done all : List (List ℕ)) → length text ≤ n
    → done ++ glued part (parts separator (drop n text)) ≡ all → done ++ (part ∷ []) ≡ all
all_done separator n text part done all h i =
    sym (ap (λ (xs : List ℕ). done ++ glued part (parts separator xs)) (drop_of_length-le text h)
    ∙ ap (λ (s : List ℕ). done ++ (s ∷ [])) (append-nil part)) ∙ i
