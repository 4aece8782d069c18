-- What is proved of the views of nodes.
use Rattle.std.specs.Prelude.{◌≡◌, Bool, true, List, map, Option, Some, is_some}
use Rattle.mql_forms.specs.declared.form.Form.{Form}
use Rattle.mql_forms.specs.declared.form.Form.TheVariants as form
use Rattle.mql_grammar.specs.Expression.{Matches}
use Rattle.mql_grammar.specs.Expressions.{expression_of}
use Rattle.mql_grammar.specs.Forms.{Head}
use Rattle.mql_grammar.specs.declared.token_class.Class.{Class}
use Rattle.mql_views.specs.Parts.{Part}
use Rattle.mql_views.specs.Declarations.{Function, function}
use Rattle.mql_views.specs.Items.{declaration, OfFunction}

-- what the parts are to their node
abbrev pub heads : List Part → List Head
heads parts = map (λ p. p.head) parts

-- the named parts are there on all parts that nodes of a form have
abbrev pub IsSeen : {B : Type 0} → Form → (List Part → Option B) → Type 0
IsSeen f view = (parts : List Part) → Matches (expression_of f) (heads parts) → is_some (view parts) ≡ true

-- what is seen as a function is one, whatever else it fits
abbrev pub FunctionsFirst : Type 0
FunctionsFirst = (words : List Class) (parts : List Part) (f : Function) →
    function parts ≡ Some f → declaration words parts ≡ Some (OfFunction f)
