-- The locals of a call, one after another.
use Rattle.std.proofs.Common.{◌≡◌, ℕ, ◌+◌, ◌<◌, ◌≤◌, Bool, true, false, List, [], ◌∷◌, ◌++◌, length, get_or, drop, map, Option, Some, None, refl, sym, ap, ◌∙◌, append_assoc, drop_of_length-le}
use Rattle.std.proofs.lemmas.List.{at_drop_more}
use Rattle.mql_meaning.specs.declared.cell.Cell.{Cell}
use Rattle.mql_meaning.specs.declared.store.Slot.{Slot}
use Rattle.mql_meaning.specs.declared.store.Slot.TheVariants.{Own}
use Rattle.mql_meaning.specs.Changes.{then_some}
use Rattle.mql_meaning.specs.Cells.{put}
use Rattle.mql_meaning.specs.Frames.{slots}
use Rattle.mql_meaning.specs.Operands as meaning
use Rattle.mql_meaning.specs.Operands.{Val, At}
use Rattle.store_frames.specs.declared.operand.Operand.{Operand}
use Rattle.store_frames.specs.Operands.{shown}
use Rattle.store_frames.specs.Slots.{ahead, slot}

-- a local before others
abbrev first : Option Slot → Option (List Slot) → Option (List Slot)
first s more = then_some s (λ (one : Slot). then_some more (λ others. Some (one ∷ others)))

own_first : (o : Option Cell) (more : Option (List Slot)) →
    then_some o (λ d. then_some more (λ ss. Some (Own d ∷ ss))) ≡ first (then_some o (λ d. Some (Own d))) more
own_first None more = refl
own_first (Some d) more = refl

opened : (b : Bool) (c : Cell) (cs : List Cell) (ls : List Bool) (x : meaning.Operand) (xs : List meaning.Operand) →
    slots (c ∷ cs) (b ∷ ls) (x ∷ xs) ≡ first (slot b c x) (slots cs ls xs)
opened true c cs ls (At p) xs = refl
opened true c cs ls (Val v) xs = refl
opened false c cs ls (At p) xs = refl
opened false c cs ls (Val v) xs = own_first (put c v) (slots cs ls xs)

without_cell : (b : Bool) (ls : List Bool) (xs : List meaning.Operand) → slots [] (b ∷ ls) xs ≡ None
without_cell b ls xs = refl

without_operand : (b : Bool) (c : Cell) (cs : List Cell) (ls : List Bool) → slots (c ∷ cs) (b ∷ ls) [] ≡ None
without_operand true c cs ls = refl
without_operand false c cs ls = refl

without_parameter : (cs : List Cell) (x : meaning.Operand) (xs : List meaning.Operand) → slots cs [] (x ∷ xs) ≡ None
without_parameter [] x xs = refl
without_parameter (c ∷ cs) x xs = refl

pushed : (made : List Slot) (s : Slot) (more : Option (List Slot)) →
    ahead made (first (Some s) more) ≡ ahead (made ++ s ∷ []) more
pushed made s None = refl
pushed made s (Some ss) = ap Some (sym (append_assoc made (s ∷ []) ss))

at_parameter : (cells : List Cell) (lent : List Bool) (i : ℕ) (xs : List meaning.Operand) → i < length lent →
    slots cells (drop i lent) xs ≡ slots cells (get_or lent i false ∷ drop (i + 1) lent) xs
at_parameter cells lent i xs h = at_drop_more (λ (ls : List Bool). slots cells ls xs) lent i false h

-- a parameter that no local is left for
pub no_cell : (cells : List Cell) (lent : List Bool) (i : ℕ) (xs : List Operand) (made : List Slot)
    (all : Option (List Slot)) → i < length lent → cells ≡ [] →
    all ≡ ahead made (slots cells (drop i lent) (map shown xs)) → None ≡ all
no_cell cells lent i xs made all h e is =
    sym (is ∙ ap (ahead made) (at_parameter cells lent i (map shown xs) h
    ∙ ap (λ (cs : List Cell). slots cs (get_or lent i false ∷ drop (i + 1) lent) (map shown xs)) e
    ∙ without_cell (get_or lent i false) (drop (i + 1) lent) (map shown xs)))

-- what is left at a parameter that has a local
one_cell : (cell : Cell) (cells rest : List Cell) (lent : List Bool) (i : ℕ) (xs ys : List Operand) →
    i < length lent → cells ≡ cell ∷ rest → xs ≡ ys →
    slots cells (drop i lent) (map shown xs)
    ≡ slots (cell ∷ rest) (get_or lent i false ∷ drop (i + 1) lent) (map shown ys)
one_cell cell cells rest lent i xs ys h e f =
    at_parameter cells lent i (map shown xs) h
    ∙ ap (λ (cs : List Cell). slots cs (get_or lent i false ∷ drop (i + 1) lent) (map shown xs)) e
    ∙ ap (λ (os : List Operand). slots (cell ∷ rest) (get_or lent i false ∷ drop (i + 1) lent) (map shown os)) f

-- a parameter that no operand is left for
pub no_operand : (cell : Cell) (cells rest : List Cell) (lent : List Bool) (i : ℕ) (xs : List Operand)
    (made : List Slot) (all : Option (List Slot)) → i < length lent → cells ≡ cell ∷ rest → xs ≡ [] →
    all ≡ ahead made (slots cells (drop i lent) (map shown xs)) → None ≡ all
no_operand cell cells rest lent i xs made all h e f is =
    sym (is ∙ ap (ahead made) (one_cell cell cells rest lent i xs [] h e f
    ∙ without_operand (get_or lent i false) cell rest (drop (i + 1) lent)))

-- what is left at a parameter that has a local and an operand
one_operand : (cell : Cell) (cells rest : List Cell) (lent : List Bool) (i : ℕ) (x : Operand) (xs ys : List Operand)
    (made : List Slot) (s : Option Slot) → i < length lent → cells ≡ cell ∷ rest → xs ≡ x ∷ ys →
    s ≡ slot (get_or lent i false) cell (shown x) →
    slots cells (drop i lent) (map shown xs) ≡ first s (slots rest (drop (i + 1) lent) (map shown ys))
one_operand cell cells rest lent i x xs ys made s h e f g =
    one_cell cell cells rest lent i xs (x ∷ ys) h e f
    ∙ opened (get_or lent i false) cell rest (drop (i + 1) lent) (shown x) (map shown ys)
    ∙ ap (λ (o : Option Slot). first o (slots rest (drop (i + 1) lent) (map shown ys))) (sym g)

-- a parameter that does not take its operand
pub not_taken : (cell : Cell) (cells rest : List Cell) (lent : List Bool) (i : ℕ) (x : Operand) (xs ys : List Operand)
    (made : List Slot) (s : Option Slot) (all : Option (List Slot)) → i < length lent → cells ≡ cell ∷ rest →
    xs ≡ x ∷ ys → s ≡ slot (get_or lent i false) cell (shown x) → s ≡ None →
    all ≡ ahead made (slots cells (drop i lent) (map shown xs)) → None ≡ all
not_taken cell cells rest lent i x xs ys made s all h e f g n is =
    sym (is ∙ ap (ahead made) (one_operand cell cells rest lent i x xs ys made s h e f g
    ∙ ap (λ (o : Option Slot). first o (slots rest (drop (i + 1) lent) (map shown ys))) n))

-- a parameter that takes its operand
pub taken : (cell : Cell) (cells rest : List Cell) (lent : List Bool) (i : ℕ) (x : Operand) (xs ys : List Operand)
    (made more : List Slot) (s : Option Slot) (one : Slot) (all : Option (List Slot)) → i < length lent →
    cells ≡ cell ∷ rest → xs ≡ x ∷ ys → s ≡ slot (get_or lent i false) cell (shown x) → s ≡ Some one →
    more ≡ made ++ one ∷ [] → all ≡ ahead made (slots cells (drop i lent) (map shown xs)) →
    all ≡ ahead more (slots rest (drop (i + 1) lent) (map shown ys))
taken cell cells rest lent i x xs ys made more s one all h e f g n m is =
    is ∙ ap (ahead made) (one_operand cell cells rest lent i x xs ys made s h e f g
    ∙ ap (λ (o : Option Slot). first o (slots rest (drop (i + 1) lent) (map shown ys))) n)
    ∙ pushed made one (slots rest (drop (i + 1) lent) (map shown ys))
    ∙ ap (λ (ss : List Slot). ahead ss (slots rest (drop (i + 1) lent) (map shown ys))) (sym m)

-- an operand that no parameter is left for
pub too_many : (cells : List Cell) (lent : List Bool) (i : ℕ) (x : Operand) (xs ys : List Operand) (made : List Slot)
    (all : Option (List Slot)) → length lent ≤ i → xs ≡ x ∷ ys →
    all ≡ ahead made (slots cells (drop i lent) (map shown xs)) → None ≡ all
too_many cells lent i x xs ys made all h e is =
    sym (is ∙ ap (ahead made) (ap (λ (ls : List Bool). slots cells ls (map shown xs)) (drop_of_length-le lent h)
    ∙ ap (λ (os : List Operand). slots cells [] (map shown os)) e
    ∙ without_parameter cells (shown x) (map shown ys)))
