-- Statements (MQL5 Reference, Operators).
use Rattle.std.specs.Prelude.{ℕ, zero, suc, Bool, true, false, List, [], ◌∷◌, ◌++◌, Option, Some, None, is_some, option_map, if◌then◌else◌}
use Rattle.mql_forms.specs.declared.form.Form.{Form}
use Rattle.mql_forms.specs.declared.form.Form.TheVariants as form
use Rattle.mql_grammar.specs.declared.token_class.Class.{Class}
use Rattle.mql_grammar.specs.declared.token_class.Class.TheVariants as class
use Rattle.mql_tree.specs.declared.token.Span.{Span}
use Rattle.mql_tree.specs.declared.token.Token.{Token}
use Rattle.mql_tree.specs.declared.token.Tree.{Tree, out-Tree}
use Rattle.mql_tree.specs.declared.token.Tree.TheOpen.{Tree-F}
use Rattle.mql_views.specs.Parts.{Part}
use Rattle.mql_views.specs.Cuts.{on, is}
use Rattle.mql_views.specs.Values.{in_braces}
use Rattle.mql_views.specs.Declarations.{Variables}
use Rattle.mql_views.specs.Statements as views
use Rattle.mql_syntax.specs.Lists.{each}
use Rattle.mql_syntax.specs.Leaves.{place_of, inner}
use Rattle.mql_syntax.specs.Values.{items, value}
use Rattle.mql_syntax.specs.Variables.{variables}
use Rattle.mql_syntax.specs.declared.declaration.Variable.{Variable}
use Rattle.mql_syntax.specs.declared.kind.Place.{Place}
use Rattle.mql_syntax.specs.declared.kind.StatementKind.{StatementKind}
use Rattle.mql_syntax.specs.declared.kind.StatementKind.TheVariants as kind
use Rattle.mql_syntax.specs.declared.statement.Statement.{Statement}
use Rattle.mql_syntax.specs.declared.statement.Statement.TheVariants as made

-- what a statement is made of: a statement, what a `for` begins with, and a label of a `switch`
pub data Piece : Type 0 where
  Whole : Part → Piece
  Begin : views.Simple → Piece
  Case : Part → Piece
  Default : Piece

-- a statement before its parts are read: what it does, its variables, its values and its statements
pub record Shape : Type 0 where
  pub what : StatementKind
  pub locals : Option Variables
  pub values : List Part
  pub parts : List Piece

-- one without variables
abbrev pub plain : StatementKind → List Part → List Piece → Shape
plain what values parts = record { what = what; locals = None; values = values; parts = parts }

-- a declaration, or values
abbrev pub simple_shape : views.Simple → Shape
simple_shape (views.Locals v) = record { what = kind.Declaration; locals = Some v; values = []; parts = [] }
simple_shape (views.Values xs) = plain kind.Evaluation (items xs) []

-- a part that is there
abbrev pub listed : Option Part → List Part
listed None = []
listed (Some p) = p ∷ []

abbrev pub whole : List Part → List Piece
whole [] = []
whole (x ∷ xs) = Whole x ∷ whole xs

abbrev pub label_or_whole : Bool → Part → Piece
label_or_whole behind x = if behind then Case x else Whole x

-- The labels and statements in the braces of a `switch`: the part behind `case` is a label. Each label has
-- its `:` behind it.
abbrev pub labelled : Bool → List Part → List Piece
labelled behind [] = []
labelled behind (x ∷ xs) =
    if is (class.Case ∷ []) [] x then labelled true xs
    else if is (class.Colon ∷ []) [] x then labelled false xs
    else if is (class.Default ∷ []) [] x then Default ∷ labelled false xs
    else label_or_whole behind x ∷ labelled false xs

unfoldable pub block_shape : List Part → Option Shape
block_shape xs = option_map (λ ys. plain kind.Block [] (whole ys)) (in_braces xs)

unfoldable pub simple_of : List Part → Option Shape
simple_of xs = option_map simple_shape (views.simple xs)

unfoldable pub if_shape : List Part → Option Shape
if_shape xs =
    option_map (λ i. plain kind.If (i.test ∷ []) (Whole i.chosen ∷ whole (listed i.other))) (views.if_of xs)

-- a test and a statement
abbrev pub repeated : StatementKind → Part × Part → Shape
repeated what p = plain what (p.0 ∷ []) (Whole p.1 ∷ [])

unfoldable pub while_shape : List Part → Option Shape
while_shape xs = option_map (repeated kind.While) (views.while_of xs)

unfoldable pub do_shape : List Part → Option Shape
do_shape xs = option_map (repeated kind.Do) (views.do_of xs)

unfoldable pub for_shape : List Part → Option Shape
for_shape xs =
    option_map (λ f.
    plain (kind.For (is_some f.test)) (listed f.test ++ items f.step) (Begin f.start ∷ Whole f.body ∷ []))
    (views.for_of xs)

unfoldable pub switch_shape : List Part → Option Shape
switch_shape xs =
    option_map (λ s. plain kind.Switch (s.value ∷ []) (labelled false s.body)) (views.switch_of xs)

unfoldable pub return_shape : List Part → Option Shape
return_shape xs = option_map (λ v. plain kind.Return (listed v) []) (views.return_of xs)

unfoldable pub delete_shape : List Part → Option Shape
delete_shape xs = option_map (λ v. plain kind.Delete (v ∷ []) []) (views.delete_of xs)

-- the parts of a node of a form
unfoldable pub shape : Form → List Part → Option Shape
shape form.Block xs = block_shape xs
shape form.Empty xs = Some (plain kind.Empty [] [])
shape form.Simple xs = simple_of xs
shape form.If xs = if_shape xs
shape form.While xs = while_shape xs
shape form.Do xs = do_shape xs
shape form.For xs = for_shape xs
shape form.Switch xs = switch_shape xs
shape form.Break xs = Some (plain kind.Break [] [])
shape form.Continue xs = Some (plain kind.Continue [] [])
shape form.Return xs = return_shape xs
shape form.Delete xs = delete_shape xs
shape other xs = None

abbrev pub shape_in : List Part → Tree-F Tree → Option Shape
shape_in xs (Tree-F.Leaf k) = None
shape_in xs (Tree-F.Node f ts) = shape f xs

-- a node, of the parts that it has; a token is no statement
abbrev pub shape_of : Part → List Part → Option Shape
shape_of p xs = shape_in xs (out-Tree p.tree)

module _ (tokens : List (Token × Span)) (classes : List Class) (n : ℕ) (place : Place) where
  -- the variables, if there is a declaration
  abbrev pub locals_of : Option Variables → Option (List Variable)
  locals_of None = Some []
  locals_of (Some v) = variables tokens classes n place v

  -- a statement at the place, of the statements that it is made of
  unfoldable pub stated :
      StatementKind → Option Variables → List Part → Option (List Statement) → Option Statement
  stated what locals vs parts =
      on parts (λ ps. on (locals_of locals) (λ ls.
      option_map (λ vs. made.Node place what ls vs ps) (each (value tokens classes n place) vs)))

  -- what a `for` begins with, and a label: they stand where the `for` or the `switch` stands
  abbrev pub stated_alone : Shape → Option Statement
  stated_alone s = stated s.what s.locals s.values (Some [])

  -- what a statement is made of, by what its statements are
  abbrev pub piece : (Part → Option Statement) → Piece → Option Statement
  piece statement (Whole p) = statement p
  piece statement (Begin s) = stated_alone (simple_shape s)
  piece statement (Case v) = stated_alone (plain kind.Case (v ∷ []) [])
  piece statement Default = Some (made.Node place kind.Default [] [] [])

module _ (tokens : List (Token × Span)) (classes : List Class) where
  -- a statement that stands at a node; nodes go in one another at most as deep as the number says
  unfoldable pub statement : ℕ → Place → Part → Option Statement
  statement zero inside p = None
  statement (suc n) inside p =
      on (shape_of p (inner classes p)) (λ s.
      stated tokens classes n (place_of inside p) s.what s.locals s.values
      (each (piece tokens classes n (place_of inside p) (statement n (place_of inside p))) s.parts))

  -- what a statement at a place is made of
  abbrev pub read_piece : ℕ → Place → Piece → Option Statement
  read_piece n place = piece tokens classes n place (statement n place)
