-- The named parts of values (MQL5 Reference, Operations and Expressions).
use Rattle.std.specs.Prelude.{Bool, List, [], ◌∷◌, Option, Some, None, option_map}
use Rattle.mql_grammar.specs.declared.token_class.Class.{Class}
use Rattle.mql_grammar.specs.declared.token_class.Class.TheVariants as class
use Rattle.mql_views.specs.Parts.{Part}
use Rattle.mql_views.specs.Cuts.{on, must, next, last, sign, ended, may, up_to, all_to}

-- `*` behind a type
abbrev pub stars : List Class
stars = class.Star ∷ class.PointerStar ∷ []

-- an operator before or behind a value: two parts
unfoldable pub pair : List Part → Option (Part × Part)
pair xs = on (next xs) (λ x. option_map (λ y. (x.0, y)) (last x.1))

-- two values, an operator between them: a level, an assignment, a member, a name of a class
pub record Between : Type 0 where
  pub left : Part
  pub operator : Part
  pub right : Part

unfoldable pub between : List Part → Option Between
between xs = on (next xs) (λ x. on (next x.1) (λ o.
    option_map (λ y. record { left = x.0; operator = o.0; right = y }) (last o.1)))

-- test `?` value `:` other value
pub record Conditional : Type 0 where
  pub test : Part
  pub chosen : Part
  pub other : Part

unfoldable pub conditional : List Part → Option Conditional
conditional xs =
    on (next xs) (λ c. on (sign (class.Question ∷ []) c.1) (λ ys.
    on (next ys) (λ t. on (sign (class.Colon ∷ []) t.1) (λ zs.
    option_map (λ e. record { test = c.0; chosen = t.0; other = e }) (last zs)))))

-- an array, and the index of an element
unfoldable pub index : List Part → Option (Part × Part)
index xs =
    on (next xs) (λ a. on (sign (class.OpenBracket ∷ []) a.1) (λ ys.
    on (next ys) (λ i. on (sign (class.CloseBracket ∷ []) i.1) (ended (a.0, i.0)))))

-- a simple type, and the value that is taken into it
unfoldable pub conversion : List Part → Option (Part × Part)
conversion xs =
    on (next xs) (λ t. on (sign (class.ConversionParen ∷ []) t.1) (λ ys.
    on (next ys) (λ v. on (sign (class.CloseParen ∷ []) v.1) (ended (t.0, v.0)))))

-- a value in parentheses, or a cast
pub data Bracket : Type 0 where
  Inner : Part → Bracket
  Cast : Part → Bool → Part → Bracket

unfoldable pub bracket_end : Part → Bool → List Part → Option Bracket
bracket_end t p [] = Some (Inner t)
bracket_end t p (v ∷ []) = Some (Cast t p v)
bracket_end t p (v ∷ w ∷ xs) = None

unfoldable pub bracket : List Part → Option Bracket
bracket xs =
    on (sign (class.OpenParen ∷ []) xs) (λ ys. on (next ys) (λ t.
    let p = may stars t.1 in on (sign (class.CloseParen ∷ []) p.1) (bracket_end t.0 p.0)))

-- what is called, and its arguments with their commas; a template, and its arguments
pub record Call : Type 0 where
  pub callee : Part
  pub arguments : List Part

unfoldable pub call : List Part → Option Call
call xs =
    on (next xs) (λ f. on (sign (class.OpenParen ∷ []) f.1) (λ ys.
    option_map (λ args. record { callee = f.0; arguments = args }) (all_to class.CloseParen ys)))

unfoldable pub generic : List Part → Option Call
generic xs =
    on (next xs) (λ f. on (sign (class.TypeLess ∷ class.FunctionLess ∷ []) f.1) (λ ys.
    option_map (λ args. record { callee = f.0; arguments = args }) (all_to class.Greater ys)))

-- `new`: a type, and the arguments of its constructor
unfoldable pub new_arguments : List Part → Option (List Part)
new_arguments [] = Some []
new_arguments (x ∷ xs) =
    on (sign (class.OpenParen ∷ class.ConversionParen ∷ []) (x ∷ xs)) (all_to class.CloseParen)

unfoldable pub new_object : List Part → Option Call
new_object xs =
    on (sign (class.New ∷ []) xs) (λ ys. on (next ys) (λ t.
    option_map (λ args. record { callee = t.0; arguments = args }) (new_arguments t.1)))

-- `dynamic_cast`: a type, to which a pointer is taken, and the value
unfoldable pub dynamic_value : Part → List Part → Option (Part × Part)
dynamic_value t xs =
    on (sign (class.Greater ∷ []) xs) (λ ys. on (sign (class.OpenParen ∷ []) ys) (λ zs.
    on (next zs) (λ v. on (sign (class.CloseParen ∷ []) v.1) (ended (t, v.0)))))

unfoldable pub dynamic_cast : List Part → Option (Part × Part)
dynamic_cast xs =
    on (sign (class.DynamicCast ∷ []) xs) (λ ys. on (sign (class.Less ∷ []) ys) (λ zs.
    on (next zs) (λ t. on (sign stars t.1) (dynamic_value t.0))))

-- what stands in braces, with its commas: values, or statements
unfoldable pub in_braces : List Part → Option (List Part)
in_braces xs = on (sign (class.OpenBrace ∷ []) xs) (all_to class.CloseBrace)
