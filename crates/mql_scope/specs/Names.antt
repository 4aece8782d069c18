-- What a name means where a value or a call stands: the innermost variable first, then what the program
-- declares, then what the language supplies (MQL5 Reference, Variables, Visibility Scope; Predefined Variables;
-- Standard Constants, Enumerations and Structures).
use Rattle.std.specs.Prelude.{ℕ, ℤ, pos, Bool, false, ◌||◌, ◌+◌, List, [], ◌∷◌, Option, Some, None, is_some, option_map, bytes_eq, if◌then◌else◌}
use Rattle.fx8.specs.declared.int_kind.IntKind.TheVariants as kind
use Rattle.natives.specs.declared.types.SimpleType.TheVariants as simple
use Rattle.natives.specs.declared.types.ConstantValue.{ConstantValue}
use Rattle.natives.specs.declared.types.ConstantValue.TheVariants as constants
use Rattle.natives.specs.declared.constant.Constant.{Constant}
use Rattle.natives.specs.declared.constant.Constant.TheVariants as named_constant
use Rattle.natives.specs.declared.predefined.Predefined.{Predefined}
use Rattle.natives.specs.declared.predefined.Predefined.TheVariants as predefined
use Rattle.natives.specs.declared.native.Native.{Native}
use Rattle.natives.specs.declared.native.Native.TheVariants as natives
use Rattle.natives.specs.Constants.{constant_named, constant_value}
use Rattle.natives.specs.Structures.{predefined_named, predefined_kind}
use Rattle.natives.specs.Names.{named}
use Rattle.mql_mean.specs.declared.value.Value.TheVariants as value
use Rattle.mql_meaning.specs.declared.tree.Member.{Member}
use Rattle.mql_meaning.specs.declared.operator.Operator.TheVariants as operator
use Rattle.mql_meaning.specs.declared.types.Sort.TheVariants as sort
use Rattle.mql_meaning.specs.declared.tree.Expression.{Expression}
use Rattle.mql_meaning.specs.declared.tree.Expression.TheVariants as expression
use Rattle.mql_syntax.specs.declared.kind.Place.{Place}
use Rattle.mql_names.specs.Types.{named_sort}
use Rattle.mql_names.specs.declared.types.Sort.{Sort}
use Rattle.mql_names.specs.declared.types.Sort.TheVariants as written
use Rattle.mql_types.specs.declared.types.Base.{Base}
use Rattle.mql_types.specs.declared.types.Base.TheVariants as base
use Rattle.mql_types.specs.declared.overloads.Signature.{Signature}
use Rattle.mql_scope.specs.declared.context.Known.{Known}
use Rattle.mql_scope.specs.declared.context.Storage.{Storage}
use Rattle.mql_scope.specs.declared.context.Storage.TheVariants as storage
use Rattle.mql_scope.specs.declared.context.Enumeration.{Enumeration}
use Rattle.mql_typed.specs.declared.info.Info.{Info}
use Rattle.mql_scope.specs.declared.names.Callee.{Callee}
use Rattle.mql_scope.specs.declared.names.Callee.TheVariants.{Functions, Conversion, Supplied, Other, Unknown}
use Rattle.mql_scope.specs.Contexts.{Text, Program, Context, either, variable_named, sort_type}
use Rattle.mql_typed.specs.Typed.{on_one, int, a_value, a_place}

-- the place of a variable
abbrev pub stands_at : Storage → Expression
stands_at (storage.Local n) = expression.Apply (operator.Local n) []
stands_at (storage.Global n) = expression.Apply (operator.Global n) []

abbrev pub of_variable : Known → Info
of_variable k = a_place k.of k.standing [] (stands_at k.stands)

-- a member of an enumeration is a constant of it
abbrev pub member_value : Text → List Member → Option ℤ
member_value x [] = None
member_value x (m ∷ ms) = if bytes_eq m.name x then Some m.value else member_value x ms

abbrev pub of_member : ℕ → ℤ → Info
of_member n v = a_value (base.Enumeration n) [] (int v)

abbrev pub member_named : Text → ℕ → List Enumeration → Option Info
member_named x n [] = None
member_named x n (e ∷ es) =
    either (option_map (of_member n) (member_value x e.members)) (member_named x (n + 1) es)

-- constants of the language
abbrev pub of_constant_value : ConstantValue → Info
of_constant_value (constants.Integer k x) =
    a_value (base.Simple (simple.Integer k)) [] (expression.Constant (value.Num k x))
of_constant_value (constants.Double x) =
    a_value (base.Simple simple.Double) [] (expression.Constant (value.Dbl x))

abbrev pub constant_info : Text → Option Info
constant_info x = option_map (λ (k : Constant). of_constant_value (constant_value k)) (constant_named x)

-- names that are calls: the symbol and the period of the chart, a property of the symbol, the last error
abbrev pub tested_symbol : Expression
tested_symbol = expression.Constant (value.Str [])

abbrev pub constant_expression : Constant → Expression
constant_expression k = (of_constant_value (constant_value k)).typed

abbrev pub symbol_property : Native → Constant → Expression
symbol_property f k = expression.Native f (tested_symbol ∷ constant_expression k ∷ [])

abbrev pub text_constant : Text → Expression
text_constant t = expression.Constant (value.Str t)

abbrev pub predefined_typed : Context → Place → Predefined → Expression
predefined_typed c p predefined.File = text_constant (c.program.file p)
predefined_typed c p predefined.Line = int (pos (c.program.line p))
predefined_typed c p predefined.Function = text_constant c.function
predefined_typed c p predefined.Symbol = expression.Native natives.Symbol []
predefined_typed c p predefined.Period = expression.Native natives.Period []
predefined_typed c p predefined.Point = symbol_property natives.SymbolInfoDouble named_constant.SymbolPoint
predefined_typed c p predefined.Digits =
    on_one (operator.Convert (sort.Number kind.Int))
    (symbol_property natives.SymbolInfoInteger named_constant.SymbolDigits)
predefined_typed c p predefined.Lasterror = expression.Native natives.GetLastError []

abbrev pub of_predefined : Context → Place → Predefined → Info
of_predefined c p d = a_value (base.Simple (predefined_kind d)) [] (predefined_typed c p d)

abbrev pub predefined_info : Context → Place → Text → Option Info
predefined_info c p x = option_map (of_predefined c p) (predefined_named x)

-- the program declares the name
abbrev pub is_declared : Program → Text → Bool
is_declared p x = is_some (p.names x)

-- what the language supplies of a name that the program does not declare
abbrev pub supplied_info : Context → Place → Text → Option Info
supplied_info c p x =
    if is_declared c.program x then None else either (constant_info x) (predefined_info c p x)

-- the value or the variable that a name is
abbrev pub outer_info : Context → Place → Text → Option Info
outer_info c p x = either (member_named x 0 c.program.enumerations) (supplied_info c p x)

abbrev pub name_info : Context → Place → Text → Option Info
name_info c p x =
    either (option_map of_variable (variable_named x c.locals))
    (either (option_map of_variable (variable_named x c.program.globals)) (outer_info c p x))

abbrev pub has_function : Text → List Signature → Bool
has_function x [] = false
has_function x (f ∷ fs) = bytes_eq f.name x || has_function x fs

-- a type that is called: an enumeration or another name of `int` converts
abbrev pub called_type : Option Base → Callee
called_type None = Other
called_type (Some (base.Structure n)) = Other
called_type (Some b) = Conversion b

abbrev pub called_native : Option Native → Callee
called_native None = Unknown
called_native (Some f) = Supplied f

abbrev pub called_sort : Program → Text → Sort → Callee
called_sort p x written.Unknown = if is_declared p x then Other else called_native (named x)
called_sort p x s = called_type (sort_type p x s)

abbrev pub called_outside : Context → Place → Text → Callee
called_outside c p x =
    if is_some (name_info c p x) then Other else called_sort c.program x (named_sort c.program.names x)

abbrev pub callee : Context → Place → Text → Callee
callee c p x =
    if is_some (variable_named x c.locals) then Other
    else if has_function x c.program.functions then Functions
    else called_outside c p x
