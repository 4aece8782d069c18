-- Values (MQL5 Reference, Operations and Expressions).
use Rattle.std.specs.Prelude.{ℕ, zero, suc, Bool, true, false, List, [], ◌∷◌, Option, Some, None, option_map}
use Rattle.mql_forms.specs.declared.form.Form.{Form}
use Rattle.mql_forms.specs.declared.form.Form.TheVariants as form
use Rattle.mql_grammar.specs.declared.token_class.Class.{Class}
use Rattle.mql_grammar.specs.declared.token_class.Class.TheVariants as class
use Rattle.mql_spelling.specs.ReservedWords.{reserved_word}
use Rattle.mql_spelling.specs.declared.reserved.ReservedWord.{ReservedWord}
use Rattle.mql_spelling.specs.declared.reserved.ReservedWord.TheVariants as words
use Rattle.mql_spelling.specs.declared.sign.Sign.{Sign}
use Rattle.mql_spelling.specs.declared.sign.Sign.TheVariants as signs
use Rattle.mql_tree.specs.declared.token.Span.{Span}
use Rattle.mql_tree.specs.declared.token.Token.{Token}
use Rattle.mql_tree.specs.declared.token.Token.TheVariants as tokens
use Rattle.mql_tree.specs.declared.token.Tree.{Tree, out-Tree}
use Rattle.mql_tree.specs.declared.token.Tree.TheOpen.{Tree-F}
use Rattle.mql_views.specs.Parts.{Part}
use Rattle.mql_views.specs.Cuts.{on}
use Rattle.mql_views.specs.Values.{Bracket, Inner, Cast, pair, between, conditional, index, conversion, bracket, call, new_object, dynamic_cast, in_braces}
use Rattle.mql_views.specs.Declarations.{Typed}
use Rattle.mql_syntax.specs.Lists.{each, without}
use Rattle.mql_syntax.specs.Leaves.{token, name, sign, place_of, inner}
use Rattle.mql_syntax.specs.Types.{generic_named, type_use}
use Rattle.mql_syntax.specs.declared.kind.BinaryOperator.{BinaryOperator}
use Rattle.mql_syntax.specs.declared.kind.BinaryOperator.TheVariants as binary
use Rattle.mql_syntax.specs.declared.kind.Place.{Place}
use Rattle.mql_syntax.specs.declared.kind.Step.{Step}
use Rattle.mql_syntax.specs.declared.kind.Step.TheVariants as steps
use Rattle.mql_syntax.specs.declared.kind.UnaryOperator.{UnaryOperator}
use Rattle.mql_syntax.specs.declared.kind.UnaryOperator.TheVariants as unary
use Rattle.mql_syntax.specs.declared.value.Operation.{Operation}
use Rattle.mql_syntax.specs.declared.value.Operation.TheVariants as operation
use Rattle.mql_syntax.specs.declared.value.Value.{Value}
use Rattle.mql_syntax.specs.declared.value.Value.TheVariants as made

-- the operator that a sign is between two values
unfoldable pub binary_of : Sign → Option BinaryOperator
binary_of signs.Star = Some binary.Multiply
binary_of signs.Slash = Some binary.Divide
binary_of signs.Percent = Some binary.Remainder
binary_of signs.Plus = Some binary.Add
binary_of signs.Minus = Some binary.Subtract
binary_of signs.ShiftLeft = Some binary.ShiftLeft
binary_of signs.ShiftRight = Some binary.ShiftRight
binary_of signs.Less = Some binary.Less
binary_of signs.LessOrEqual = Some binary.LessOrEqual
binary_of signs.Greater = Some binary.Greater
binary_of signs.GreaterOrEqual = Some binary.GreaterOrEqual
binary_of signs.Equal = Some binary.Equal
binary_of signs.NotEqual = Some binary.NotEqual
binary_of signs.Ampersand = Some binary.BitAnd
binary_of signs.Caret = Some binary.BitXor
binary_of signs.Bar = Some binary.BitOr
binary_of signs.And = Some binary.And
binary_of signs.Or = Some binary.Or
binary_of other = None

-- the assignment that it is
unfoldable pub assignment_of : Sign → Option Operation
assignment_of signs.Assign = Some operation.Assign
assignment_of signs.PlusAssign = Some (operation.AssignWith binary.Add)
assignment_of signs.MinusAssign = Some (operation.AssignWith binary.Subtract)
assignment_of signs.StarAssign = Some (operation.AssignWith binary.Multiply)
assignment_of signs.SlashAssign = Some (operation.AssignWith binary.Divide)
assignment_of signs.PercentAssign = Some (operation.AssignWith binary.Remainder)
assignment_of signs.ShiftLeftAssign = Some (operation.AssignWith binary.ShiftLeft)
assignment_of signs.ShiftRightAssign = Some (operation.AssignWith binary.ShiftRight)
assignment_of signs.AmpersandAssign = Some (operation.AssignWith binary.BitAnd)
assignment_of signs.CaretAssign = Some (operation.AssignWith binary.BitXor)
assignment_of signs.BarAssign = Some (operation.AssignWith binary.BitOr)
assignment_of other = None

-- the operator that it is before a value, and behind one
unfoldable pub unary_of : Sign → Option UnaryOperator
unary_of signs.Not = Some unary.Not
unary_of signs.Tilde = Some unary.Complement
unary_of signs.Minus = Some unary.Minus
unary_of signs.Plus = Some unary.Plus
unary_of signs.Increment = Some unary.Increment
unary_of signs.Decrement = Some unary.Decrement
unary_of signs.Ampersand = Some unary.Address
unary_of signs.Star = Some unary.Object
unary_of other = None

unfoldable pub step_of : Sign → Option Step
step_of signs.Increment = Some steps.Increment
step_of signs.Decrement = Some steps.Decrement
step_of other = None

-- what a reserved word is as a value, and what another name is
unfoldable pub word_value : List ℕ → Option ReservedWord → Option Operation
word_value n None = Some (operation.Name n)
word_value n (Some words.True) = Some (operation.Bool true)
word_value n (Some words.False) = Some (operation.Bool false)
word_value n (Some words.Null) = Some operation.Null
word_value n (Some words.This) = Some operation.This
word_value n (Some other) = None

-- what a token is as a value
unfoldable pub token_value : Token → Option Operation
token_value (tokens.Name n) = word_value n (reserved_word n)
token_value (tokens.Int value kind) = Some (operation.Int value kind)
token_value (tokens.Double d) = Some (operation.Double d)
token_value (tokens.Str text) = Some (operation.Text text)
token_value other = None

-- a value before its types and values are read: what it does, and what it does it with
pub record Shape : Type 0 where
  pub what : Operation
  pub types : List Typed
  pub parts : List Part

-- one that has no types
abbrev pub plain : Operation → List Part → Shape
plain what parts = record { what = what; types = []; parts = parts }

-- one that has a type, behind which `*` may stand
abbrev pub with_type : Operation → Part → Bool → List Part → Shape
with_type what t pointer parts =
    record { what = what; types = record { type = t; pointer = pointer } ∷ []; parts = parts }

-- the items of a list that stands with its commas
abbrev pub items : List Part → List Part
items xs = without (class.Comma ∷ []) xs

abbrev pub in_bracket : Bracket → Shape
in_bracket (Inner v) = plain operation.Parentheses (v ∷ [])
in_bracket (Cast t pointer v) = with_type operation.Cast t pointer (v ∷ [])

unfoldable pub bracket_shape : List Part → Option Shape
bracket_shape xs = option_map in_bracket (bracket xs)

unfoldable pub index_shape : List Part → Option Shape
index_shape xs = option_map (λ p. plain operation.Index (p.0 ∷ p.1 ∷ [])) (index xs)

unfoldable pub dynamic_cast_shape : List Part → Option Shape
dynamic_cast_shape xs =
    option_map (λ p. with_type operation.DynamicCast p.0 true (p.1 ∷ [])) (dynamic_cast xs)

unfoldable pub conversion_shape : List Part → Option Shape
conversion_shape xs =
    option_map (λ p. with_type operation.Conversion p.0 false (p.1 ∷ [])) (conversion xs)

unfoldable pub braces_shape : List Part → Option Shape
braces_shape xs = option_map (λ ys. plain operation.Braces (items ys)) (in_braces xs)

unfoldable pub conditional_shape : List Part → Option Shape
conditional_shape xs =
    option_map (λ c. plain operation.Conditional (c.test ∷ c.chosen ∷ c.other ∷ [])) (conditional xs)

unfoldable pub call_shape : List Part → Option Shape
call_shape xs = option_map (λ c. plain operation.Call (c.callee ∷ items c.arguments)) (call xs)

unfoldable pub new_shape : List Part → Option Shape
new_shape xs =
    option_map (λ c. with_type operation.New c.callee false (items c.arguments)) (new_object xs)

module _ (tokens : List (Token × Span)) where
  -- by the sign before a value, and behind one
  unfoldable pub unary_shape : List Part → Option Shape
  unary_shape xs =
      on (pair xs) (λ p. on (sign tokens p.0) (λ s.
      option_map (λ o. plain (operation.Unary o) (p.1 ∷ [])) (unary_of s)))

  unfoldable pub postfix_shape : List Part → Option Shape
  postfix_shape xs =
      on (pair xs) (λ p. on (sign tokens p.1) (λ s.
      option_map (λ o. plain (operation.Postfix o) (p.0 ∷ [])) (step_of s)))

  -- by the sign between two values
  unfoldable pub binary_shape : List Part → Option Shape
  binary_shape xs =
      on (between xs) (λ b. on (sign tokens b.operator) (λ s.
      option_map (λ o. plain (operation.Binary o) (b.left ∷ b.right ∷ [])) (binary_of s)))

  unfoldable pub assignment_shape : List Part → Option Shape
  assignment_shape xs =
      on (between xs) (λ b. on (sign tokens b.operator) (λ s.
      option_map (λ o. plain o (b.left ∷ b.right ∷ [])) (assignment_of s)))

  -- a member of a value, and one of a class
  unfoldable pub member_shape : List Part → Option Shape
  member_shape xs =
      on (between xs) (λ b.
      option_map (λ n. plain (operation.Member n) (b.left ∷ [])) (name tokens b.right))

  unfoldable pub scope_shape : List Part → Option Shape
  scope_shape xs =
      on (between xs) (λ b. on (name tokens b.left) (λ c.
      option_map (λ n. plain (operation.Scope c n) []) (name tokens b.right)))

  -- a template with its arguments
  unfoldable pub generic_shape : List Part → Option Shape
  generic_shape xs =
      option_map (λ n. record { what = operation.Generic n.name; types = n.args; parts = [] })
      (generic_named tokens xs)

  -- the parts of a node of a form
  unfoldable pub form_shape : Form → List Part → Option Shape
  form_shape form.Bracket xs = bracket_shape xs
  form_shape form.Unary xs = unary_shape xs
  form_shape form.Postfix xs = postfix_shape xs
  form_shape form.Product xs = binary_shape xs
  form_shape form.Sum xs = binary_shape xs
  form_shape form.Shift xs = binary_shape xs
  form_shape form.Relation xs = binary_shape xs
  form_shape form.Equality xs = binary_shape xs
  form_shape form.BitAnd xs = binary_shape xs
  form_shape form.BitXor xs = binary_shape xs
  form_shape form.BitOr xs = binary_shape xs
  form_shape form.And xs = binary_shape xs
  form_shape form.Or xs = binary_shape xs
  form_shape form.Conditional xs = conditional_shape xs
  form_shape form.Assignment xs = assignment_shape xs
  form_shape form.Index xs = index_shape xs
  form_shape form.MemberAccess xs = member_shape xs
  form_shape form.Scope xs = scope_shape xs
  form_shape form.Call xs = call_shape xs
  form_shape form.GenericFunction xs = generic_shape xs
  form_shape form.GenericType xs = generic_shape xs
  form_shape form.New xs = new_shape xs
  form_shape form.DynamicCast xs = dynamic_cast_shape xs
  form_shape form.Conversion xs = conversion_shape xs
  form_shape form.Braces xs = braces_shape xs
  form_shape other xs = None

  abbrev pub shape_in : Part → List Part → Tree-F Tree → Option Shape
  shape_in p xs (Tree-F.Leaf k) = on (token tokens p) (λ t. option_map (λ o. plain o []) (token_value t))
  shape_in p xs (Tree-F.Node f ts) = form_shape f xs

  -- a token, or a node, of the parts that it has
  unfoldable pub shape : Part → List Part → Option Shape
  shape p xs = shape_in p xs (out-Tree p.tree)

module _ (tokens : List (Token × Span)) (classes : List Class) where
  -- a value that stands at a node; nodes go in one another at most as deep as the number says
  unfoldable pub value : ℕ → Place → Part → Option Value
  value zero inside p = None
  value (suc n) inside p =
      on (shape tokens p (inner classes p)) (λ s.
      on (each (type_use tokens classes n (place_of inside p)) s.types) (λ ts.
      option_map (made.Node (place_of inside p) s.what ts) (each (value n (place_of inside p)) s.parts)))
