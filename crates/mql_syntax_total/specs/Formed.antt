-- Parts of trees as the parser makes them.
use Rattle.std.specs.Prelude.{◌≡◌, ◌<◌, ℕ, Bool, List, [], ◌∷◌}
use Rattle.mql_forms.specs.declared.form.Form.{Form}
use Rattle.mql_forms.specs.declared.form.Form.TheVariants as form
use Rattle.mql_grammar.specs.Expressions.{primaries, level_14}
use Rattle.mql_grammar.specs.Forms.{Formed, IsWhole, depth}
use Rattle.mql_grammar.specs.declared.token_class.Class.TheVariants as class
use Rattle.mql_parse.specs.Classes.{classes_of}
use Rattle.mql_parse.specs.View.{spine_of, over}
use Rattle.mql_tree.specs.declared.token.Span.{Span}
use Rattle.mql_tree.specs.declared.token.Token.{Token}
use Rattle.mql_views.specs.Cuts.{is}
use Rattle.mql_views.specs.Declarations.{type_words}
use Rattle.mql_views.specs.Parts.{Part, head_in}

-- of all of a list this is so
abbrev pub Every : {A : Type 0} → (A → Type 0) → List A → Type 0
Every G [] = Unit {0}
Every G (x ∷ xs) = G x × Every G xs

-- a part of a tree over tokens, in which nodes go in one another less deep than the number says
pub record IsFormed (tokens : List (Token × Span)) (n : ℕ) (p : Part) : Type 0 where
  -- it is what its node sees of its tree
  pub seen : p.head ≡ head_in (classes_of tokens) p.tree
  -- each node in it has its parts by the grammar (`Formed` of the grammar), and it lacks no later ones itself
  pub formed : Formed (over (classes_of tokens)) (spine_of p.tree)
  pub whole : IsWhole (over (classes_of tokens)) (spine_of p.tree)
  pub deep : depth (spine_of p.tree) < n

-- the forms of values; a list of values in braces is one where a variable begins with it
abbrev pub value_forms : List Form
value_forms = form.Braces ∷ level_14

-- where a value stands: a token that is a value by itself, or a node that is a value
abbrev pub is_value : Part → Bool
is_value p = is primaries value_forms p

-- the forms of types: a template with its arguments
abbrev pub type_forms : List Form
type_forms = form.GenericType ∷ form.GenericFunction ∷ []

-- where a type stands: a name may not be known as a type's
abbrev pub is_type : Part → Bool
is_type p = is (class.Name ∷ type_words) type_forms p

-- where a statement stands
abbrev pub statement_forms : List Form
statement_forms = form.Block ∷ form.Empty ∷ form.Simple ∷ form.If ∷ form.While ∷ form.Do ∷ form.For
    ∷ form.Switch ∷ form.Break ∷ form.Continue ∷ form.Return ∷ form.Delete ∷ []

abbrev pub is_statement : Part → Bool
is_statement p = is [] statement_forms p

-- a part of a program: an item, or `;` alone
abbrev pub item_forms : List Form
item_forms = form.Item ∷ form.Template ∷ form.Enumeration ∷ form.Class ∷ []

abbrev pub is_item : Part → Bool
is_item p = is (class.Semicolon ∷ []) item_forms p
