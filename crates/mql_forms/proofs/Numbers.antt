-- Each form is told by its number.
use Rattle.std.proofs.Common.{◌≡◌, ℕ, List, [], ◌∷◌, refl, sym, ap, ◌∙◌, get_or}
use Rattle.mql_forms.specs.declared.form.Form.{Form}
use Rattle.mql_forms.specs.declared.form.Form.TheVariants as form
use Rattle.mql_forms.specs.Numbers.{form_number}

abbrev forms : List Form
forms =
    form.Program ∷ form.Program ∷ form.Item ∷ form.Template ∷ form.GenericType ∷ form.Braces ∷
    form.Enumeration ∷ form.Class ∷ form.Member ∷ form.Block ∷ form.Empty ∷ form.Simple ∷ form.If ∷
    form.While ∷ form.Do ∷ form.For ∷ form.Switch ∷ form.Break ∷ form.Continue ∷ form.Return ∷
    form.Delete ∷ form.GenericFunction ∷ form.Bracket ∷ form.Scope ∷ form.Conversion ∷ form.New ∷
    form.DynamicCast ∷ form.MemberAccess ∷ form.Index ∷ form.Call ∷ form.Postfix ∷ form.Unary ∷
    form.Product ∷ form.Sum ∷ form.Shift ∷ form.Relation ∷ form.Equality ∷ form.BitAnd ∷ form.BitXor ∷
    form.BitOr ∷ form.And ∷ form.Or ∷ form.Conditional ∷ form.Assignment ∷ []

-- the form of a number
abbrev pub form_back : ℕ → Form
form_back n = get_or forms n form.Program

pub back_number : (f : Form) → form_back (form_number f) ≡ f
unfolding form_number
back_number form.Program = refl
back_number form.Item = refl
back_number form.Template = refl
back_number form.GenericType = refl
back_number form.Braces = refl
back_number form.Enumeration = refl
back_number form.Class = refl
back_number form.Member = refl
back_number form.Block = refl
back_number form.Empty = refl
back_number form.Simple = refl
back_number form.If = refl
back_number form.While = refl
back_number form.Do = refl
back_number form.For = refl
back_number form.Switch = refl
back_number form.Break = refl
back_number form.Continue = refl
back_number form.Return = refl
back_number form.Delete = refl
back_number form.GenericFunction = refl
back_number form.Bracket = refl
back_number form.Scope = refl
back_number form.Conversion = refl
back_number form.New = refl
back_number form.DynamicCast = refl
back_number form.MemberAccess = refl
back_number form.Index = refl
back_number form.Call = refl
back_number form.Postfix = refl
back_number form.Unary = refl
back_number form.Product = refl
back_number form.Sum = refl
back_number form.Shift = refl
back_number form.Relation = refl
back_number form.Equality = refl
back_number form.BitAnd = refl
back_number form.BitXor = refl
back_number form.BitOr = refl
back_number form.And = refl
back_number form.Or = refl
back_number form.Conditional = refl
back_number form.Assignment = refl

pub one_number : (f g : Form) → form_number f ≡ form_number g → f ≡ g
one_number f g e = sym (back_number f) ∙ ap form_back e ∙ back_number g
