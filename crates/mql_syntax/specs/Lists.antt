-- Lists of parts, and what is read of each item of a list (own).
use Rattle.std.specs.Prelude.{Bool, true, false, ◌&&◌, not, List, [], ◌∷◌, ◌++◌, Option, Some, None, option_map, if◌then◌else◌}
use Rattle.mql_grammar.specs.declared.token_class.Class.{Class}
use Rattle.mql_grammar.specs.declared.token_class.Class.TheVariants as class
use Rattle.mql_views.specs.Parts.{Part}
use Rattle.mql_views.specs.Cuts.{on, is}

-- what is read of each item, where something is read of all
abbrev pub each : {A B : Type 0} → (A → Option B) → List A → Option (List B)
each f [] = Some []
each f (x ∷ xs) = on (f x) (λ y. on (each f xs) (λ ys. Some (y ∷ ys)))

-- what is read of what is there, if it is there
abbrev pub maybe : {A B : Type 0} → (A → Option B) → Option A → Option (Option B)
maybe f None = Some None
maybe f (Some a) = option_map Some (f a)

-- the parts that are no tokens of these classes
abbrev pub without : List Class → List Part → List Part
without cs [] = []
without cs (x ∷ xs) = if is cs [] x then without cs xs else x ∷ without cs xs

-- a part stands in parentheses, or the parts behind it do
abbrev pub enclosed : Bool → Part → Bool
enclosed inside x =
    if is (class.OpenParen ∷ []) [] x then true
    else if is (class.CloseParen ∷ []) [] x then false
    else inside

-- a comma that is in no parentheses
abbrev pub divides : Bool → Part → Bool
divides inside x = is (class.Comma ∷ []) [] x && not inside

abbrev pub last_piece : List Part → List (List Part)
last_piece [] = []
last_piece (x ∷ xs) = (x ∷ xs) ∷ []

-- the pieces between such commas, where the first list stands before the parts; behind the last comma there may
-- be none
unfoldable pub pieces_from : Bool → List Part → List Part → List (List Part)
pieces_from inside front [] = last_piece front
pieces_from inside front (x ∷ xs) =
    if divides inside x then front ∷ pieces_from inside [] xs
    else pieces_from (enclosed inside x) (front ++ x ∷ []) xs

abbrev pub pieces : List Part → List (List Part)
pieces xs = pieces_from false [] xs
