-- Cutting a list of parts from the front, by what each part is (own).
use Rattle.std.specs.Prelude.{ℕ, ◌+◌, Bool, true, false, not, List, [], ◌∷◌, Option, Some, None, map, take, drop, option_map, if◌then◌else◌}
use Rattle.mql_forms.specs.Numbers.{form_number}
use Rattle.mql_forms.specs.declared.form.Form.{Form}
use Rattle.mql_grammar.specs.Expression.{among}
use Rattle.mql_grammar.specs.Numbers.{class_number}
use Rattle.mql_grammar.specs.declared.token_class.Class.{Class}
use Rattle.mql_grammar.specs.declared.token_class.Class.TheVariants as class
use Rattle.mql_views.specs.Parts.{Part}

-- what is read of what was read, if it was
abbrev pub on : {A B : Type 0} → Option A → (A → Option B) → Option B
on None f = None
on (Some a) f = f a

-- a part is a token of one of these classes, or a node of one of these forms
unfoldable pub is : List Class → List Form → Part → Bool
is cs fs x = among (map class_number cs) (map form_number fs) x.head

-- how many parts at the front are such tokens, and how many stand before the first part that is so
abbrev pub run : List Class → List Part → ℕ
run cs [] = 0
run cs (x ∷ xs) = if is cs [] x then 1 + run cs xs else 0

abbrev pub until : List Class → List Form → List Part → ℕ
until cs fs [] = 0
until cs fs (x ∷ xs) = if is cs fs x then 0 else 1 + until cs fs xs

-- the parts before a place, and those from it on
abbrev pub split : ℕ → List Part → List Part × List Part
split n xs = (take n xs, drop n xs)

-- the front part, which is one of these, and the parts behind it
unfoldable pub must : List Class → List Form → List Part → Option (Part × List Part)
must cs fs [] = None
must cs fs (x ∷ xs) = if is cs fs x then Some (x, xs) else None

-- the front part, whatever it is, and the parts behind it
abbrev pub next : List Part → Option (Part × List Part)
next [] = None
next (x ∷ xs) = Some (x, xs)

-- the one part that there is
abbrev pub last : List Part → Option Part
last [] = None
last (x ∷ []) = Some x
last (x ∷ y ∷ xs) = None

-- the parts behind a token, which is one of these
unfoldable pub sign : List Class → List Part → Option (List Part)
sign cs [] = None
sign cs (x ∷ xs) = if is cs [] x then Some xs else None

-- what is read where no part is left
abbrev pub ended : {A : Type 0} → A → List Part → Option A
ended a [] = Some a
ended a (x ∷ xs) = None

-- whether the front part is one of these tokens, and the parts behind it
unfoldable pub may : List Class → List Part → Bool × List Part
may cs [] = (false, [])
may cs (x ∷ xs) = if is cs [] x then (true, xs) else (false, x ∷ xs)

-- the same with the part itself
unfoldable pub may_be : List Class → List Part → Option Part × List Part
may_be cs [] = (None, [])
may_be cs (x ∷ xs) = if is cs [] x then (Some x, xs) else (None, x ∷ xs)

-- the parts up to a token, and those behind it
unfoldable pub up_to : Class → List Part → Option (List Part × List Part)
up_to c xs =
    let k = until (c ∷ []) [] xs in
    option_map (λ ys. (take k xs, ys)) (sign (c ∷ []) (drop k xs))

-- all parts up to a token, which is the last
unfoldable pub all_to : Class → List Part → Option (List Part)
all_to c xs = on (up_to c xs) (λ p. ended p.0 p.1)

-- how many parts stand before the first comma that is in no parentheses
abbrev pub piece_end : Bool → List Part → ℕ
piece_end inside [] = 0
piece_end inside (x ∷ xs) =
    if is (class.OpenParen ∷ []) [] x then 1 + piece_end true xs
    else if is (class.CloseParen ∷ []) [] x then 1 + piece_end false xs
    else if not inside then (if is (class.Comma ∷ []) [] x then 0 else 1 + piece_end inside xs)
    else 1 + piece_end inside xs
