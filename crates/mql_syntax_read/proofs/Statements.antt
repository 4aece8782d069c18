-- How statements are read.
use Rattle.std.proofs.Common.{◌≡◌, ℕ, zero, suc, ◌-◌, ◌≤◌, List, Option, Some, None, refl, sym, ap, ◌∙◌, arith}
use Rattle.mql_grammar.specs.declared.token_class.Class.{Class}
use Rattle.mql_tree.specs.declared.token.Span.{Span}
use Rattle.mql_tree.specs.declared.token.Token.{Token}
use Rattle.mql_views.specs.Parts.{Part}
use Rattle.mql_views.specs.Cuts.{on}
use Rattle.mql_views.specs.Declarations.{Variables}
use Rattle.mql_syntax.specs.Lists.{each}
use Rattle.mql_syntax.specs.Leaves.{place_of, inner}
use Rattle.mql_syntax.specs.declared.kind.Place.{Place}
use Rattle.mql_syntax.specs.declared.kind.StatementKind.{StatementKind}
use Rattle.mql_syntax.specs.declared.statement.Statement.{Statement}
use Rattle.mql_syntax_read.specs.Statements.{Shape, shape_of, stated, statement, read_piece}

module _ (tokens : List (Token × Span)) (classes : List Class) where
  pub too_deep : (n : ℕ) (inside : Place) (p : Part) → (1 ≤ n → ⊥) → statement tokens classes n inside p ≡ None
  unfolding statement
  too_deep zero inside p h = refl
  too_deep (suc n) inside p h = absurd (h (omega arith))

  -- a statement of what is read of its shape
  pub from_shape : ℕ → Place → Option Shape → Option Statement
  from_shape m place o =
      on o (λ s. stated tokens classes m place s.what s.locals s.values
      (each (read_piece tokens classes m place) s.parts))

  one_deeper : (n m : ℕ) (inside : Place) (p : Part) → 1 ≤ n → m ≡ n - 1 → statement tokens classes n inside p ≡ from_shape m (place_of inside p) (shape_of p (inner classes p))
  unfolding statement from_shape
  one_deeper zero m inside p h e = absurd (omega arith)
  one_deeper (suc n) m inside p h e =
      let same : m ≡ n = omega arith in
      ap (λ k. from_shape k (place_of inside p) (shape_of p (inner classes p))) (sym same)

  pub shaped : (n m : ℕ) (inside place : Place) (p : Part) (xs : List Part) → 1 ≤ n → m ≡ n - 1 → place ≡ place_of inside p → xs ≡ inner classes p → statement tokens classes n inside p ≡ from_shape m place (shape_of p xs)
  shaped n m inside place p xs h e pl x =
      one_deeper n m inside p h e
      ∙ ap (λ q. from_shape m q (shape_of p (inner classes p))) (sym pl)
      ∙ ap (λ ys. from_shape m place (shape_of p ys)) (sym x)

  pub without_shape : (m : ℕ) (place : Place) (o : Option Shape) → o ≡ None → from_shape m place o ≡ None
  unfolding from_shape
  without_shape m place o e = ap (from_shape m place) e

  pub with_shape : (m : ℕ) (place : Place) (o : Option Shape) (s : Shape) → o ≡ Some s → from_shape m place o ≡ stated tokens classes m place s.what s.locals s.values (each (read_piece tokens classes m place) s.parts)
  unfolding from_shape
  with_shape m place o s e = ap (from_shape m place) e

  -- without its statements there is none
  pub without_parts : (m : ℕ) (place : Place) (what : StatementKind) (locals : Option Variables) (vs : List Part) → stated tokens classes m place what locals vs None ≡ None
  unfolding stated
  without_parts m place what locals vs = refl
