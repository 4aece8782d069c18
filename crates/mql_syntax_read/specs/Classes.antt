-- Classes, structures and interfaces (MQL5 Reference, Classes and Interfaces; Structures).
use Rattle.std.specs.Prelude.{ℕ, false, List, [], ◌∷◌, ◌++◌, map, Option, Some, None, is_some, option_map, if◌then◌else◌}
use Rattle.mql_grammar.specs.declared.token_class.Class.{Class}
use Rattle.mql_grammar.specs.declared.token_class.Class.TheVariants as class
use Rattle.mql_spelling.specs.ReservedWords.{reserved_word}
use Rattle.mql_spelling.specs.declared.reserved.ReservedWord.{ReservedWord}
use Rattle.mql_spelling.specs.declared.reserved.ReservedWord.TheVariants as words
use Rattle.mql_tree.specs.declared.token.Span.{Span}
use Rattle.mql_tree.specs.declared.token.Token.{Token}
use Rattle.mql_views.specs.Parts.{Part, nodes}
use Rattle.mql_views.specs.Cuts.{on, is}
use Rattle.mql_views.specs.Declarations as views
use Rattle.mql_views.specs.Items as items
use Rattle.mql_syntax.specs.Lists.{maybe}
use Rattle.mql_syntax.specs.Leaves.{name, place_of, inner}
use Rattle.mql_syntax.specs.Types.{type_use}
use Rattle.mql_syntax.specs.Variables.{variables}
use Rattle.mql_syntax.specs.declared.declaration.Class as syntax
use Rattle.mql_syntax.specs.declared.declaration.Member.{Member}
use Rattle.mql_syntax.specs.declared.declaration.Member.TheVariants as members
use Rattle.mql_syntax.specs.declared.declaration.Parent.{Parent}
use Rattle.mql_syntax.specs.declared.kind.Access.{Access}
use Rattle.mql_syntax.specs.declared.kind.Access.TheVariants as accesses
use Rattle.mql_syntax.specs.declared.kind.ClassKind.{ClassKind}
use Rattle.mql_syntax.specs.declared.kind.ClassKind.TheVariants as kinds
use Rattle.mql_syntax.specs.declared.kind.Place.{Place}
use Rattle.mql_syntax_read.specs.Functions.{type_names, function}

-- what is read of each item, where something is read of all: one list behind another
abbrev pub gathered : {A B : Type 0} → (A → Option (List B)) → List A → Option (List B)
gathered f [] = Some []
gathered f (x ∷ xs) = on (f x) (λ ys. on (gathered f xs) (λ more. Some (ys ++ more)))

-- where a member is accessible by the word before it, and what a class is by its first word
unfoldable pub access_of : ReservedWord → Option Access
access_of words.Public = Some accesses.Public
access_of words.Protected = Some accesses.Protected
access_of words.Private = Some accesses.Private
access_of other = None

unfoldable pub kind_of : ReservedWord → Option ClassKind
kind_of words.Class = Some kinds.Class
kind_of words.Struct = Some kinds.Struct
kind_of words.Interface = Some kinds.Interface
kind_of other = None

-- before the first access word the members of a `class` are private, the others public
abbrev pub first_access : ClassKind → Access
first_access kinds.Class = accesses.Private
first_access kinds.Struct = accesses.Public
first_access kinds.Interface = accesses.Public

module _ (tokens : List (Token × Span)) where
  unfoldable pub access : Part → Option Access
  access p = on (name tokens p) (λ n. on (reserved_word n) access_of)

  unfoldable pub kind : Part → Option ClassKind
  kind p = on (name tokens p) (λ n. on (reserved_word n) kind_of)

  -- The members among the parts in a class's braces, each with where it is accessible: as the last access word
  -- before it says.
  abbrev pub accessed : Access → List Part → Option (List (Access × Part))
  accessed a [] = Some []
  accessed a (x ∷ xs) =
      if is (class.Access ∷ []) [] x then on (access x) (λ b. accessed b xs)
      else if is (class.Colon ∷ []) [] x then accessed a xs
      else on (accessed a xs) (λ ms. Some ((a, x) ∷ ms))

module _ (tokens : List (Token × Span)) (classes : List Class) (n : ℕ) (place : Place) where
  -- the members that a member's declaration is: each of its variables, or a function
  unfoldable pub declared : Access → ℕ → List Part → items.Declaration → Option (List Member)
  declared a nodes params (items.OfVariables v) =
      option_map (map (members.Variable a)) (variables tokens classes n place v)
  declared a nodes params (items.OfFunction f) =
      on (type_names tokens params) (λ ts.
      option_map (λ f. members.Function a f ∷ []) (function tokens classes n place nodes ts f))

  -- the parent, and how its members are taken
  unfoldable pub parent : views.Parent → Option Parent
  parent p =
      on (maybe (access tokens) p.access) (λ a.
      option_map (λ t. record { access = a; of = t })
      (type_use tokens classes n place (record { type = p.type; pointer = false })))

module _ (tokens : List (Token × Span)) (classes : List Class) (n : ℕ) where
  -- a member, which is a node in a class's
  unfoldable pub member : Place → Access × Part → Option (List Member)
  member inside m =
      on (items.member (inner classes m.1)) (λ v.
      declared tokens classes n (place_of inside m.1) m.0 (nodes m.1.tree) v.params v.declares)

  -- the members of a class; one that is only announced has none
  unfoldable pub members_of : Place → ClassKind → Option (List Part) → Option (List Member)
  members_of place k None = Some []
  members_of place k (Some xs) = on (accessed tokens (first_access k) xs) (gathered (member place))

  -- a class at the place, of a number of nodes, with the parameters that are types
  unfoldable pub class_of : Place → ℕ → List (List ℕ) → views.Class' → Option syntax.Class
  class_of place nodes types c =
      on (kind tokens c.kind) (λ k. on (name tokens c.name) (λ m.
      on (maybe (parent tokens classes n place) c.parent) (λ p.
      option_map (λ ms. record {
        place = place;
        nodes = nodes;
        types = types;
        kind = k;
        name = m;
        parent = p;
        defined = is_some c.members;
        members = ms;
      }) (members_of place k c.members))))
