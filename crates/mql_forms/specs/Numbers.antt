-- The numbers of forms (own).
use Rattle.std.specs.Prelude.{ℕ}
use Rattle.mql_forms.specs.declared.form.Form.{Form}
use Rattle.mql_forms.specs.declared.form.Form.TheVariants as form

-- the number of a form, from 1 on: by the order of the rules, then by precedence
unfoldable pub form_number : Form → ℕ
form_number form.Program = 1
form_number form.Item = 2
form_number form.Template = 3
form_number form.GenericType = 4
form_number form.Braces = 5
form_number form.Enumeration = 6
form_number form.Class = 7
form_number form.Member = 8
form_number form.Block = 9
form_number form.Empty = 10
form_number form.Simple = 11
form_number form.If = 12
form_number form.While = 13
form_number form.Do = 14
form_number form.For = 15
form_number form.Switch = 16
form_number form.Break = 17
form_number form.Continue = 18
form_number form.Return = 19
form_number form.Delete = 20
form_number form.GenericFunction = 21
form_number form.Bracket = 22
form_number form.Scope = 23
form_number form.Conversion = 24
form_number form.New = 25
form_number form.DynamicCast = 26
form_number form.MemberAccess = 27
form_number form.Index = 28
form_number form.Call = 29
form_number form.Postfix = 30
form_number form.Unary = 31
form_number form.Product = 32
form_number form.Sum = 33
form_number form.Shift = 34
form_number form.Relation = 35
form_number form.Equality = 36
form_number form.BitAnd = 37
form_number form.BitXor = 38
form_number form.BitOr = 39
form_number form.And = 40
form_number form.Or = 41
form_number form.Conditional = 42
form_number form.Assignment = 43
