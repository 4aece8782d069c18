-- Types are read.
use Rattle.std.proofs.Common.{◌≡◌, ℕ, zero, suc, ◌<◌, Bool, true, List, [], ◌∷◌, Option, Some, None, refl, sym, ap, subst, arith}
use Rattle.std.specs.Prelude.{option_map}
use Rattle.mql_forms.specs.Numbers.{form_number}
use Rattle.mql_forms.specs.declared.form.Form.{Form}
use Rattle.mql_forms.specs.declared.form.Form.TheVariants as form
use Rattle.mql_grammar.specs.Expression.{Expression, part, seq, many, Matches}
use Rattle.mql_grammar.specs.Expressions.{a, expression_of, pointed_alone, list_of, type_arguments, generic_type_parts, generic_function_parts}
use Rattle.mql_grammar.specs.Numbers.{class_number}
use Rattle.mql_grammar.specs.Table.{listed, both}
use Rattle.mql_grammar.specs.declared.token_class.Class.TheVariants as class
use Rattle.mql_grammar.proofs.Derivatives.{MatchesAll}
use Rattle.mql_tree.specs.declared.token.Span.{Span}
use Rattle.mql_tree.specs.declared.token.Token.{Token}
use Rattle.mql_tree.specs.declared.token.Tree.{Tree, out-Tree}
use Rattle.mql_tree.specs.declared.token.Tree.TheOpen.{Tree-F}
use Rattle.mql_parse.specs.Classes.{classes_of}
use Rattle.mql_views.specs.Cuts.{on, is, ended}
use Rattle.mql_views.specs.Laws.{heads}
use Rattle.mql_views.specs.Parts.{Part}
use Rattle.mql_views.specs.Values.{Call, generic, stars}
use Rattle.mql_views.specs.Declarations.{Typed, type_words, type_forms as grammar_forms, type_argument}
use Rattle.mql_views.proofs.Stands.{within, inside_head, all_of, opened}
use Rattle.mql_syntax.specs.Lists.{each, pieces}
use Rattle.mql_syntax.specs.Leaves.{name, place_of, inner}
use Rattle.mql_syntax.specs.Types.{Named, generic_named, named_in, named, type_use}
use Rattle.mql_syntax.specs.declared.kind.Place.{Place}
use Rattle.mql_syntax_total.specs.Formed.{Every, IsFormed}
use Rattle.mql_syntax_total.proofs.Gives.{false_true, Has, Among, Gives, sign_gives, must_gives, next_gives, ended_gives, may_gives, either_gives, flat_gives, seq_gives, map_gives, on_gives, lone_gives, has_on, has_map}
use Rattle.mql_syntax_total.proofs.Pieces.{calm_of, pieces_are, each_has}
use Rattle.mql_syntax_total.proofs.Tokens.{Is}
use Rattle.mql_syntax_total.proofs.Trees.{inner_formed, leaf_token, node_form, name_there, name_of_token}

abbrev pub type_cs : List ℕ
type_cs = 0 ∷ 1 ∷ 2 ∷ 3 ∷ []

abbrev pub type_fs : List ℕ
type_fs = 4 ∷ 21 ∷ []

-- a larger choice
pub among_more : (cs fs ds gs : List ℕ) (p : Part) → within ds cs ≡ true → within gs fs ≡ true → Among ds gs p → Among cs fs p
among_more cs fs ds gs p h i m = inside_head cs fs ds gs p.head h i m

-- something is read of each
pub each_is : {A B : Type 0} (P : A → Type 0) (f : A → Option B) → ((x : A) → P x → Is (f x)) → (xs : List A) → Every P xs → Is (each f xs)
each_is P f h [] p = tt
each_is P f h (x ∷ xs) p =
    has_on (λ y. Unit {0}) (λ y. Unit {0}) (f x) _ (h x p.0) (λ y _. has_on (λ y. Unit {0}) (λ y. Unit {0}) (each f xs) _ (each_is P f h xs p.1) (λ ys _. tt))

both_one : (ds : List ℕ) → within ds (0 ∷ 1 ∷ []) ≡ true → both (within ds (0 ∷ 1 ∷ [])) (λ _. true) ≡ true
both_one ds h = ap (λ (b : Bool). both b (λ _. true)) h

pub is_has : {A : Type 0} (Q : A → Type 0) (o : Option A) → Is o → ((x : A) → Q x) → Has Q o
is_has Q None h q = absurd h
is_has Q (Some x) h q = q x

module _ (tokens : List (Token × Span)) (n : ℕ) where
  -- a part where a type may stand
  abbrev pub TypePart : Part → Type 0
  TypePart p = IsFormed tokens n p × Among type_cs type_fs p

  abbrev pub TypeGood : Typed → Type 0
  TypeGood t = TypePart t.type

  abbrev pub NamedGood : Named → Type 0
  NamedGood u = Every TypeGood u.args

  -- one argument of a template
  pub argument_gives : Gives ⊥ (IsFormed tokens n) TypeGood type_argument (pointed_alone ∷ [])
  unfolding type_argument class_number form_number
  argument_gives = either_gives _ _ _ _
      (flat_gives _ _ _ (must_gives type_words grammar_forms _ _ _ _ refl refl (λ t v g. may_gives stars _ (λ p. ended (record { type = t; pointer = p.0 }) p.1) _ refl refl (λ b. ended_gives _ (g, among_more type_cs type_fs (1 ∷ []) (4 ∷ []) t refl refl v)))))
      (flat_gives _ _ _ (must_gives type_words grammar_forms _ _ _ _ refl refl (λ t v g. may_gives stars _ (λ p. ended (record { type = t; pointer = p.0 }) p.1) _ refl refl (λ b. ended_gives _ (g, among_more type_cs type_fs (2 ∷ 3 ∷ []) [] t refl refl v)))))

  abbrev ArgumentPiece : List Part → Type 0
  ArgumentPiece ys = Matches pointed_alone (heads ys) × Every (IsFormed tokens n) ys

  argument_has : (ys : List Part) → ArgumentPiece ys → Has TypeGood (type_argument ys)
  argument_has ys p = argument_gives.there ys (all_of pointed_alone (heads ys) p.0) p.1

  arguments_has : (xs : List Part) → Matches (list_of pointed_alone) (heads xs) → Every (IsFormed tokens n) xs → Has (Every TypeGood) (each type_argument (pieces xs))
  unfolding class_number form_number
  arguments_has xs m g =
      each_has ArgumentPiece TypeGood type_argument argument_has (pieces xs)
      (pieces_are (IsFormed tokens n) ArgumentPiece pointed_alone pointed_alone (calm_of pointed_alone refl refl refl) (calm_of pointed_alone refl refl refl) (λ ys m g. (m, g)) (λ ys m g. (m, g)) xs
      (flattened_list xs m) g)
    where
      flattened_list : (xs : List Part) → Matches (list_of pointed_alone) (heads xs) → MatchesAll (pointed_alone ∷ many (seq (a class.Comma) pointed_alone) ∷ []) (heads xs)
      flattened_list xs m = opened pointed_alone (many (seq (a class.Comma) pointed_alone)) [] (heads xs) (all_of (list_of pointed_alone) (heads xs) m)

  -- a template with its arguments
  abbrev GenericGood : Call → Type 0
  GenericGood c = (IsFormed tokens n c.callee × Among (0 ∷ 1 ∷ []) [] c.callee) × Matches (list_of pointed_alone) (heads c.arguments) × Every (IsFormed tokens n) c.arguments

  generic_gives : (ds gs : List ℕ) → within ds (0 ∷ 1 ∷ []) ≡ true → within gs (55 ∷ 56 ∷ []) ≡ true → Gives ⊥ (IsFormed tokens n) GenericGood generic (seq (part ds []) (seq (part gs []) type_arguments) ∷ [])
  unfolding generic class_number form_number
  generic_gives ds gs h i = seq_gives _ _ _ _ (next_gives (0 ∷ 1 ∷ []) [] _ _ _ refl (both_one ds h) (λ f v g. seq_gives _ _ _ _ (sign_gives _ gs _ _ i (seq_gives _ _ _ _
      (map_gives _ _ _ (lone_gives class.Greater (list_of pointed_alone) refl (λ ys m e. ((g, v), m, e))))))))

  generic_has : (c : Call) → GenericGood c → Has NamedGood (on (name tokens c.callee) (λ s. option_map (λ args. record { name = s; args = args }) (each type_argument (pieces c.arguments))))
  generic_has c q = has_on (λ s. Unit {0}) NamedGood (name tokens c.callee) _ (name_there tokens n (0 ∷ 1 ∷ []) c.callee q.0.0 q.0.1 refl refl)
      (λ s _. has_map NamedGood _ (each type_argument (pieces c.arguments)) (arguments_has c.arguments q.1 q.2))

  named_gives : (es : List Expression) → Gives ⊥ (IsFormed tokens n) GenericGood generic es → Gives ⊥ (IsFormed tokens n) NamedGood (generic_named tokens) es
  unfolding generic_named
  named_gives es st = on_gives GenericGood generic _ es st generic_has

  pub generic_type_has : (xs : List Part) → Matches generic_type_parts (heads xs) → Every (IsFormed tokens n) xs → Has NamedGood (generic_named tokens xs)
  unfolding class_number form_number
  generic_type_has xs m g = (named_gives _ (generic_gives (1 ∷ []) (55 ∷ []) refl refl)).there xs (all_of generic_type_parts (heads xs) m) g

  pub generic_function_has : (xs : List Part) → Matches generic_function_parts (heads xs) → Every (IsFormed tokens n) xs → Has NamedGood (generic_named tokens xs)
  unfolding class_number form_number
  generic_function_has xs m g = (named_gives _ (generic_gives (0 ∷ []) (56 ∷ []) refl refl)).there xs (all_of generic_function_parts (heads xs) m) g

  node_named : (f : Form) → listed (form_number f) type_fs ≡ true → (xs : List Part) → Matches (expression_of f) (heads xs) → Every (IsFormed tokens n) xs → Has NamedGood (generic_named tokens xs)
  unfolding form_number expression_of
  node_named form.Program h xs m g = false_true h
  node_named form.Item h xs m g = false_true h
  node_named form.Template h xs m g = false_true h
  node_named form.GenericType h xs m g = generic_type_has xs m g
  node_named form.Braces h xs m g = false_true h
  node_named form.Enumeration h xs m g = false_true h
  node_named form.Class h xs m g = false_true h
  node_named form.Member h xs m g = false_true h
  node_named form.Block h xs m g = false_true h
  node_named form.Empty h xs m g = false_true h
  node_named form.Simple h xs m g = false_true h
  node_named form.If h xs m g = false_true h
  node_named form.While h xs m g = false_true h
  node_named form.Do h xs m g = false_true h
  node_named form.For h xs m g = false_true h
  node_named form.Switch h xs m g = false_true h
  node_named form.Break h xs m g = false_true h
  node_named form.Continue h xs m g = false_true h
  node_named form.Return h xs m g = false_true h
  node_named form.Delete h xs m g = false_true h
  node_named form.GenericFunction h xs m g = generic_function_has xs m g
  node_named form.Bracket h xs m g = false_true h
  node_named form.Scope h xs m g = false_true h
  node_named form.Conversion h xs m g = false_true h
  node_named form.New h xs m g = false_true h
  node_named form.DynamicCast h xs m g = false_true h
  node_named form.MemberAccess h xs m g = false_true h
  node_named form.Index h xs m g = false_true h
  node_named form.Call h xs m g = false_true h
  node_named form.Postfix h xs m g = false_true h
  node_named form.Unary h xs m g = false_true h
  node_named form.Product h xs m g = false_true h
  node_named form.Sum h xs m g = false_true h
  node_named form.Shift h xs m g = false_true h
  node_named form.Relation h xs m g = false_true h
  node_named form.Equality h xs m g = false_true h
  node_named form.BitAnd h xs m g = false_true h
  node_named form.BitXor h xs m g = false_true h
  node_named form.BitOr h xs m g = false_true h
  node_named form.And h xs m g = false_true h
  node_named form.Or h xs m g = false_true h
  node_named form.Conditional h xs m g = false_true h
  node_named form.Assignment h xs m g = false_true h

named_has : (tokens : List (Token × Span)) (n : ℕ) (p : Part) → IsFormed tokens (suc n) p → Among type_cs type_fs p → Has (NamedGood tokens n) (named tokens p (inner (classes_of tokens) p))
unfolding named
named_has tokens n p is h = go (out-Tree p.tree) refl
  where
    go : (x : Tree-F Tree) → out-Tree p.tree ≡ x → Has (NamedGood tokens n) (named_in tokens p (inner (classes_of tokens) p) (out-Tree p.tree))
    go (Tree-F.Leaf k) e =
        subst (λ x. Has (NamedGood tokens n) (named_in tokens p (inner (classes_of tokens) p) x)) (sym e)
        (has_map (NamedGood tokens n) _ (name tokens p) (is_has _ (name tokens p) (name_of_token tokens type_cs p (leaf_token tokens (suc n) type_cs type_fs p k is h refl e) refl) (λ s. tt)))
    go (Tree-F.Node f ts) e =
        let i = inner_formed tokens n p f ts is e in
        subst (λ x. Has (NamedGood tokens n) (named_in tokens p (inner (classes_of tokens) p) x)) (sym e)
        (node_named tokens n f (node_form tokens (suc n) type_cs type_fs p f ts is h e) (inner (classes_of tokens) p) i.0 i.1)

pub none_below : {B : Type 0} (a : ℕ) → a < 0 → B
none_below a h = absurd (omega arith)

-- each type is read
pub type_read : (tokens : List (Token × Span)) (n : ℕ) (place : Place) (t : Typed) → TypeGood tokens n t → Is (type_use tokens (classes_of tokens) n place t)
unfolding type_use
type_read tokens zero place t g = none_below _ g.0.deep
type_read tokens (suc n) place t g =
    has_on (NamedGood tokens n) (λ x. Unit {0}) (named tokens t.type (inner (classes_of tokens) t.type)) _ (named_has tokens n t.type g.0 g.1)
    (λ u good. has_map (λ x. Unit {0}) _ (each (type_use tokens (classes_of tokens) n (place_of place t.type)) u.args)
    ((each_is (TypeGood tokens n) (type_use tokens (classes_of tokens) n (place_of place t.type)) (λ u g. type_read tokens n (place_of place t.type) u g) u.args good)))
