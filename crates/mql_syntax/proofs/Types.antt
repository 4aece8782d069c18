-- How types are read.
use Rattle.std.proofs.Common.{◌≡◌, ℕ, Bool, zero, suc, ◌-◌, ◌≤◌, List, Option, Some, None, refl, sym, ap, ◌∙◌, arith, option_map}
use Rattle.mql_grammar.specs.declared.token_class.Class.{Class}
use Rattle.mql_tree.specs.declared.token.Span.{Span}
use Rattle.mql_tree.specs.declared.token.Token.{Token}
use Rattle.mql_views.specs.Parts.{Part}
use Rattle.mql_views.specs.Cuts.{on}
use Rattle.mql_views.specs.Declarations.{Typed}
use Rattle.mql_syntax.specs.Lists.{each}
use Rattle.mql_syntax.specs.Leaves.{place_of, inner}
use Rattle.mql_syntax.specs.Types.{Named, named, type_use}
use Rattle.mql_syntax.specs.declared.kind.Place.{Place}
use Rattle.mql_syntax.specs.declared.value.TypeUse.{TypeUse}
use Rattle.mql_syntax.specs.declared.value.TypeUse.TheVariants as made

module _ (tokens : List (Token × Span)) (classes : List Class) where
  pub too_deep : (n : ℕ) (inside : Place) (t : Typed) → (1 ≤ n → ⊥) → type_use tokens classes n inside t ≡ None
  unfolding type_use
  too_deep zero inside t h = refl
  too_deep (suc n) inside t h = absurd (h (omega arith))

  -- a type of what is read of its name
  pub from_name : ℕ → Place → Bool → Option Named → Option TypeUse
  from_name m place pointer o =
      on o (λ u. option_map (made.Named place u.name pointer) (each (type_use tokens classes m place) u.args))

  one_deeper : (n m : ℕ) (inside : Place) (t : Typed) → 1 ≤ n → m ≡ n - 1 → type_use tokens classes n inside t ≡ from_name m (place_of inside t.type) t.pointer (named tokens t.type (inner classes t.type))
  unfolding type_use from_name
  one_deeper zero m inside t h e = absurd (omega arith)
  one_deeper (suc n) m inside t h e =
      let same : m ≡ n = omega arith in
      ap (λ k. from_name k (place_of inside t.type) t.pointer (named tokens t.type (inner classes t.type))) (sym same)

  pub named_as : (n m : ℕ) (inside place : Place) (t : Typed) (xs : List Part) → 1 ≤ n → m ≡ n - 1 → place ≡ place_of inside t.type → xs ≡ inner classes t.type → type_use tokens classes n inside t ≡ from_name m place t.pointer (named tokens t.type xs)
  named_as n m inside place t xs h e pl x =
      one_deeper n m inside t h e
      ∙ ap (λ q. from_name m q t.pointer (named tokens t.type (inner classes t.type))) (sym pl)
      ∙ ap (λ ys. from_name m place t.pointer (named tokens t.type ys)) (sym x)

  pub without_name : (m : ℕ) (place : Place) (b : Bool) (o : Option Named) → o ≡ None → from_name m place b o ≡ None
  unfolding from_name
  without_name m place b o e = ap (from_name m place b) e

  pub with_name : (m : ℕ) (place : Place) (b : Bool) (o : Option Named) (u : Named) → o ≡ Some u → from_name m place b o ≡ option_map (made.Named place u.name b) (each (type_use tokens classes m place) u.args)
  unfolding from_name
  with_name m place b o u e = ap (from_name m place b) e
