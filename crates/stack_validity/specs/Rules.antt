-- What instructions take and give, by the kinds of operands (MQL5 Reference, Language Basics, Operations and
-- Expressions; Typecasting). Lists of kinds have the topmost operand's first; those of an operator have it
-- last.
use Rattle.std.specs.Prelude.{◌≡◌, ◌≤◌, ℕ, zero, suc, ◌+◌, Bool, true, false, List, [], ◌∷◌, length, replicate, Option, Some, None, slice_get}
use Rattle.fx8.specs.declared.int_kind.IntKind.TheVariants as kind
use Rattle.fx8.specs.declared.int_operator.IntOperator.{IntOperator}
use Rattle.fx8.specs.declared.int_operator.IntOperator.TheVariants as op
use Rattle.mql_mean.specs.declared.value.Value.{Value}
use Rattle.natives.specs.declared.native.Native.{Native}
use Rattle.natives.specs.declared.native.Native.TheVariants as natives
use Rattle.natives.specs.declared.signature.Parameter.{Parameter}
use Rattle.natives.specs.declared.signature.ParameterKind.{ParameterKind}
use Rattle.natives.specs.declared.signature.ParameterKind.TheVariants as parameter
use Rattle.natives.specs.declared.signature.Elements.TheVariants as elements
use Rattle.natives.specs.declared.signature.Passing.{Passing}
use Rattle.natives.specs.declared.signature.Passing.TheVariants as passing
use Rattle.natives.specs.declared.signature.ResultType.{ResultType}
use Rattle.natives.specs.declared.signature.ResultType.TheVariants as results
use Rattle.natives.specs.declared.types.SimpleType.{SimpleType}
use Rattle.natives.specs.declared.types.SimpleType.TheVariants as simple
use Rattle.natives.specs.Signatures.{signature}
use Rattle.mql_meaning.specs.declared.operator.Operator.{Operator}
use Rattle.mql_meaning.specs.declared.operator.Operator.TheVariants as operator
use Rattle.mql_meaning.specs.declared.operator.UnaryOperator.{UnaryOperator}
use Rattle.mql_meaning.specs.declared.operator.UnaryOperator.TheVariants as unary
use Rattle.mql_meaning.specs.declared.tree.Class.{Class}
use Rattle.mql_meaning.specs.declared.types.Base.{Base}
use Rattle.mql_meaning.specs.declared.types.Base.TheVariants as base
use Rattle.mql_meaning.specs.declared.types.Sort.{Sort}
use Rattle.mql_meaning.specs.declared.types.Sort.TheVariants as sort
use Rattle.mql_meaning.specs.declared.types.VarType.{VarType}
use Rattle.mql_meaning.specs.Changes.{either}
use Rattle.mql_meaning.specs.Cells.{fields_of}
use Rattle.mql_meaning.specs.Operators.{compares, sort_of}
use Rattle.mql_meaning.specs.Calls.{asks, is_sound}
use Rattle.stack_code.specs.declared.code.Code.{Code}
use Rattle.stack_code.specs.declared.code.FunctionCode.{FunctionCode}
use Rattle.stack_code.specs.declared.code.OperandType.{OperandType}
use Rattle.stack_code.specs.declared.code.Effect.{Effect}
use Rattle.stack_code.specs.declared.code.Effect.TheVariants as effect
use Rattle.stack_code.specs.declared.code.Instruction.{Instruction}
use Rattle.stack_code.specs.declared.code.Instruction.TheVariants as instruction
use Rattle.stack_code.specs.Machine.{operands_of, function_at, label_at, arguments_of}
use Rattle.stack_validity.specs.Types.{type_of, base_sort, type_sort, part_type}

-- the operators that doubles have beside the comparisons, and those that strings have
abbrev pub is_arithmetic : IntOperator → Bool
is_arithmetic op.Add = true
is_arithmetic op.Subtract = true
is_arithmetic op.Multiply = true
is_arithmetic op.Divide = true
is_arithmetic _ = false

abbrev pub is_join : IntOperator → Bool
is_join op.Add = true
is_join _ = false

-- an operator works on operands of a sort, and gives one
abbrev pub works_on : IntOperator → Sort → Bool
works_on o (sort.Number k) = true
works_on o sort.Double = either (compares o) true (is_arithmetic o)
works_on o sort.String = either (compares o) true (is_join o)
works_on o sort.Pointer = compares o

abbrev pub result_sort : IntOperator → Sort → Sort
result_sort o s = either (compares o) (sort.Number kind.Bool) s

-- an operator on one operand of a sort, and the sort that it gives
abbrev pub works_alone : UnaryOperator → Sort → Bool
works_alone unary.Minus (sort.Number k) = true
works_alone unary.Minus sort.Double = true
works_alone unary.Minus sort.String = false
works_alone unary.Minus sort.Pointer = false
works_alone unary.Complement (sort.Number k) = true
works_alone unary.Complement sort.Double = false
works_alone unary.Complement sort.String = false
works_alone unary.Complement sort.Pointer = false
works_alone unary.Not (sort.Number k) = true
works_alone unary.Not sort.Double = false
works_alone unary.Not sort.String = false
works_alone unary.Not sort.Pointer = false

abbrev pub alone_sort : UnaryOperator → Sort → Sort
alone_sort unary.Minus s = s
alone_sort unary.Complement s = s
alone_sort unary.Not s = sort.Number kind.Bool

-- a value of a sort can be taken into another one
abbrev pub converts : Sort → Sort → Bool
converts (sort.Number j) (sort.Number k) = true
converts (sort.Number j) sort.Double = true
converts (sort.Number j) sort.String = true
converts (sort.Number j) sort.Pointer = false
converts sort.Double (sort.Number k) = true
converts sort.Double sort.Double = true
converts sort.Double sort.String = true
converts sort.Double sort.Pointer = false
converts sort.String (sort.Number k) = true
converts sort.String sort.Double = true
converts sort.String sort.String = true
converts sort.String sort.Pointer = false
converts sort.Pointer (sort.Number kind.Bool) = true
converts sort.Pointer sort.Pointer = true
converts sort.Pointer _ = false

-- an operator of a sort takes a value of another one as it is: numbers of all kinds are numbers
abbrev pub suits : Sort → Sort → Bool
suits (sort.Number k) (sort.Number j) = true
suits (sort.Number k) sort.Double = false
suits (sort.Number k) sort.String = false
suits (sort.Number k) sort.Pointer = false
suits sort.Double (sort.Number j) = false
suits sort.Double sort.Double = true
suits sort.Double sort.String = false
suits sort.Double sort.Pointer = false
suits sort.String (sort.Number j) = false
suits sort.String sort.Double = false
suits sort.String sort.String = true
suits sort.String sort.Pointer = false
suits sort.Pointer (sort.Number j) = false
suits sort.Pointer sort.Double = false
suits sort.Pointer sort.String = false
suits sort.Pointer sort.Pointer = true

-- numbers and doubles
abbrev pub is_counted : Sort → Bool
is_counted (sort.Number k) = true
is_counted sort.Double = true
is_counted sort.String = false
is_counted sort.Pointer = false

-- an operand that is a value of a sort, and one that an operator of a sort takes
pub record OfSort (s : Sort) (k : OperandType) : Type 0 where
  pub value : k.place ≡ false
  pub sort : type_sort k.of ≡ Some s

pub record Suits (s : Sort) (k : OperandType) : Type 0 where
  pub sort : Sort
  pub of : OfSort sort k
  pub suits : suits s sort ≡ true

-- an operand that is a value, or a place, of a type
pub record ValueOfType (t : VarType) (k : OperandType) : Type 0 where
  pub value : k.place ≡ false
  pub of : k.of ≡ t

pub record PlaceOfType (t : VarType) (k : OperandType) : Type 0 where
  pub place : k.place ≡ true
  pub of : k.of ≡ t

-- no operand, one, and two
abbrev pub NoKind : Type 0 → List OperandType → Type 0
NoKind P [] = P
NoKind P (x ∷ xs) = ⊥

abbrev pub OneKind : (OperandType → Type 0) → List OperandType → Type 0
OneKind P [] = ⊥
OneKind P (x ∷ []) = P x
OneKind P (x ∷ y ∷ xs) = ⊥

abbrev pub TwoKinds : (OperandType → OperandType → Type 0) → List OperandType → Type 0
TwoKinds P [] = ⊥
TwoKinds P (x ∷ []) = ⊥
TwoKinds P (x ∷ y ∷ []) = P x y
TwoKinds P (x ∷ y ∷ z ∷ xs) = ⊥

-- three, and five
abbrev pub ThreeKinds : (OperandType → OperandType → OperandType → Type 0) → List OperandType → Type 0
ThreeKinds P [] = ⊥
ThreeKinds P (x ∷ xs) = TwoKinds (P x) xs

abbrev pub FiveKinds : (OperandType → OperandType → OperandType → OperandType → OperandType → Type 0)
    → List OperandType → Type 0
FiveKinds P [] = ⊥
FiveKinds P (x ∷ []) = ⊥
FiveKinds P (x ∷ y ∷ xs) = ThreeKinds (P x y) xs

-- so many kinds are taken; there is a rule for them, in the order in which they were pushed, and for those
-- below
abbrev pub Taking : ℕ → List OperandType → List OperandType
    → (List OperandType → List OperandType → Type 0) → Type 0
Taking zero ks xs P = P xs ks
Taking (suc c) [] xs P = ⊥
Taking (suc c) (k ∷ ks) xs P = Taking c ks (k ∷ xs) P

-- a local and a global are places of their types
pub record LocalRule (c : FunctionCode) (l : ℕ) (y : OperandType) : Type 0 where
  pub there : slice_get c.locals l ≡ Some y.of
  pub place : y.place ≡ true

pub record GlobalRule (code : Code) (g : ℕ) (y : OperandType) : Type 0 where
  pub there : slice_get code.globals g ≡ Some y.of
  pub place : y.place ≡ true

-- a structure's place becomes that of a field; an array's place and a number become that of an element
pub record FieldRule (code : Code) (i : ℕ) (x y : OperandType) : Type 0 where
  pub structure : x.place ≡ true
  pub whole : x.of.dimensions ≡ []
  pub field : part_type code.classes x.of i ≡ Some y.of
  pub place : y.place ≡ true

pub record IndexRule (x i y : OperandType) : Type 0 where
  pub array : x.place ≡ true
  pub size : ℕ
  pub sizes : List ℕ
  pub dimensions : x.of.dimensions ≡ size ∷ sizes
  pub number : Suits (sort.Number kind.Int) i
  pub element : PlaceOfType (type_of x.of.base sizes) y

-- a place becomes the value there; it gets a value of its own type, which stays
pub record ReadRule (x y : OperandType) : Type 0 where
  pub place : x.place ≡ true
  pub value : ValueOfType x.of y

pub record KeepRule (v p y : OperandType) : Type 0 where
  pub value : v.place ≡ false
  pub place : PlaceOfType v.of p
  pub kept : ValueOfType v.of y

-- a place gets its value with an operator and another value; its type is converted into the operator's sort,
-- and the result back
pub record UpdateRule (o : IntOperator) (s : Sort) (v p y : OperandType) : Type 0 where
  pub value : Suits s v
  pub place : p.place ≡ true
  pub own : Sort
  pub of : type_sort p.of ≡ Some own
  pub into : converts own s ≡ true
  pub works : works_on o s ≡ true
  pub back : converts (result_sort o s) own ≡ true
  pub updated : ValueOfType p.of y

pub record BumpRule (p y : OperandType) : Type 0 where
  pub place : p.place ≡ true
  pub own : Sort
  pub of : type_sort p.of ≡ Some own
  pub counted : is_counted own ≡ true
  pub bumped : ValueOfType p.of y

-- operators on values
pub record UnaryRule (u : UnaryOperator) (s : Sort) (x y : OperandType) : Type 0 where
  pub value : Suits s x
  pub works : works_alone u s ≡ true
  pub result : OfSort (alone_sort u s) y

pub record BinaryRule (o : IntOperator) (s : Sort) (x z y : OperandType) : Type 0 where
  pub first : Suits s x
  pub second : Suits s z
  pub works : works_on o s ≡ true
  pub result : OfSort (result_sort o s) y

pub record ConvertRule (s : Sort) (x y : OperandType) : Type 0 where
  pub from : Sort
  pub value : OfSort from x
  pub into : converts from s ≡ true
  pub result : OfSort s y

-- an operator takes operands of these kinds and gives one of another kind. Objects, pointers to them and
-- methods have none
abbrev pub Applies : Code → FunctionCode → Operator → List OperandType → OperandType → Type 0
Applies code c (operator.Local l) xs y = NoKind (LocalRule c l y) xs
Applies code c (operator.Global g) xs y = NoKind (GlobalRule code g y) xs
Applies code c operator.This xs y = ⊥
Applies code c (operator.Field i) xs y = OneKind (λ x. FieldRule code i x y) xs
Applies code c operator.Index xs y = TwoKinds (λ x i. IndexRule x i y) xs
Applies code c operator.Object xs y = ⊥
Applies code c operator.Read xs y = OneKind (λ x. ReadRule x y) xs
Applies code c operator.PointerOf xs y = ⊥
Applies code c operator.Keep xs y = TwoKinds (λ v p. KeepRule v p y) xs
Applies code c (operator.Update o s) xs y = TwoKinds (λ v p. UpdateRule o s v p y) xs
Applies code c (operator.Bump b) xs y = OneKind (λ p. BumpRule p y) xs
Applies code c (operator.Unary u s) xs y = OneKind (λ x. UnaryRule u s x y) xs
Applies code c (operator.Binary o s) xs y = TwoKinds (λ x z. BinaryRule o s x z y) xs
Applies code c (operator.Convert s) xs y = OneKind (λ x. ConvertRule s x y) xs
Applies code c (operator.Cast class strict) xs y = ⊥

-- a constant that is there, of a type of its sort and in its range
pub record ConstantRule (code : Code) (k : ℕ) (y : OperandType) : Type 0 where
  pub value : Value
  pub there : slice_get code.constants k ≡ Some value
  pub in_range : is_sound value ≡ true
  pub sort : Sort
  pub is : sort_of value ≡ Some sort
  pub of : OfSort sort y

pub record Pushes (P : OperandType → Type 0) (ks after : List OperandType) : Type 0 where
  pub kind : OperandType
  pub rule : P kind
  pub above : after ≡ kind ∷ ks

-- a value and a place of its type; two places of one type
pub record WriteRule (v p : OperandType) : Type 0 where
  pub value : v.place ≡ false
  pub place : PlaceOfType v.of p

pub record CopyRule (from to : OperandType) : Type 0 where
  pub place : from.place ≡ true
  pub target : PlaceOfType from.of to

-- locals that begin anew are there
pub record ResetRule (c : FunctionCode) (a b : ℕ) : Type 0 where
  pub order : a ≤ b
  pub within : b ≤ length c.locals

-- an effect leads from kinds to kinds
abbrev pub Changes : Code → FunctionCode → Effect → List OperandType → List OperandType → Type 0
Changes code c (effect.Constant k) ks after = Pushes (ConstantRule code k) ks after
Changes code c (effect.Apply o) ks after =
    Taking (operands_of o) ks [] (λ xs rest. Pushes (Applies code c o xs) rest after)
Changes code c effect.Write ks after = Taking 2 ks [] (λ xs rest. TwoKinds WriteRule xs × (after ≡ rest))
Changes code c effect.Copy ks after = Taking 2 ks [] (λ xs rest. TwoKinds CopyRule xs × (after ≡ rest))
Changes code c effect.Drop ks after = Taking 1 ks [] (λ xs rest. after ≡ rest)
Changes code c effect.Twice ks after = Taking 1 ks [] (λ xs rest. OneKind (λ x. after ≡ x ∷ ks) xs)
Changes code c (effect.Line line) ks after = after ≡ ks
Changes code c (effect.Reset a b) ks after = ResetRule c a b × (after ≡ ks)

-- arguments are those of the parameters, places where they are by reference. Parameters are the first locals
abbrev pub Passes : List VarType → List Bool → List OperandType → Type 0
Passes ts [] [] = Unit {0}
Passes ts [] (x ∷ xs) = ⊥
Passes [] (l ∷ ls) xs = ⊥
Passes (t ∷ ts) (l ∷ ls) [] = ⊥
Passes (t ∷ ts) (l ∷ ls) (x ∷ xs) = (x.place ≡ l) × (x.of ≡ t) × Passes ts ls xs

-- the kinds with the value of a function that gives one
abbrev pub with_result : Option VarType → List OperandType → List OperandType
with_result None ks = ks
with_result (Some t) ks = record { of = t; place = false } ∷ ks

-- the kinds behind a call of a native function. Those that ask the world give a value of their result's type
abbrev pub simple_sort : SimpleType → Sort
simple_sort (simple.Integer k) = sort.Number k
simple_sort simple.Double = sort.Double
simple_sort simple.String = sort.String

-- a value of the sort of the first argument
pub record LikeFirst (k y : OperandType) : Type 0 where
  pub sort : Sort
  pub first : OfSort sort k
  pub result : OfSort sort y

abbrev pub GivesLike : List OperandType → List OperandType → List OperandType → Type 0
GivesLike [] rest after = ⊥
GivesLike (k ∷ ks) rest after = Pushes (LikeFirst k) rest after

abbrev pub GivesResult : ResultType → List OperandType → List OperandType → List OperandType → Type 0
GivesResult results.Void xs rest after = after ≡ rest
GivesResult (results.Simple t) xs rest after = Pushes (OfSort (simple_sort t)) rest after
GivesResult results.Common xs rest after = GivesLike xs rest after
GivesResult results.Pointer xs rest after = ⊥

-- the kinds of the operands before each instruction of each function, as far as they are known
abbrev pub Kinds : Type 0
Kinds = ℕ → ℕ → Option (List OperandType)

pub record JumpRule (code : Code) (kinds : Kinds) (k label : ℕ) (ks : List OperandType) : Type 0 where
  pub to : ℕ
  pub there : label_at code k label ≡ Some to
  pub same : kinds k to ≡ Some ks

pub record CallRule (code : Code) (kinds : Kinds) (f k behind : ℕ) (ks : List OperandType) : Type 0 where
  pub callee : FunctionCode
  pub there : function_at code f ≡ Some callee
  pub function : callee.class ≡ None
  pub passes : Taking (arguments_of callee) ks []
      (λ xs rest. Passes callee.locals callee.lent xs
      × (kinds k behind ≡ Some (with_result callee.result rest)))

-- native functions that compute by values, and that change a string or an array (MQL5 Reference, String
-- Functions; Array Functions; Math Functions; Conversion Functions; Checkup)
abbrev pub is_computed : Native → Bool
is_computed natives.StringLen = true
is_computed natives.StringSubstr = true
is_computed natives.StringFind = true
is_computed natives.StringReplace = true
is_computed natives.StringTrimLeft = true
is_computed natives.StringTrimRight = true
is_computed natives.StringToLower = true
is_computed natives.StringToUpper = true
is_computed natives.StringGetCharacter = true
is_computed natives.StringSetCharacter = true
is_computed natives.StringCompare = true
is_computed natives.StringToInteger = true
is_computed natives.StringToDouble = true
is_computed natives.IntegerToString = true
is_computed natives.DoubleToString = true
is_computed natives.TimeToString = true
is_computed natives.CharToString = true
is_computed natives.ShortToString = true
is_computed natives.ArraySize = true
is_computed natives.ArrayRange = true
is_computed natives.ArrayResize = true
is_computed natives.ArrayFree = true
is_computed natives.ArraySetAsSeries = true
is_computed natives.ArrayGetAsSeries = true
is_computed natives.ArrayIsDynamic = true
is_computed natives.MathFloor = true
is_computed natives.MathCeil = true
is_computed natives.MathRound = true
is_computed natives.MathSqrt = true
is_computed natives.MathMod = true
is_computed natives.MathPow = true
is_computed natives.MathIsValidNumber = true
is_computed natives.NormalizeDouble = true
is_computed natives.IsStopped = true
is_computed _ = false

-- the place of an array
pub record ArrayPlace (k : OperandType) : Type 0 where
  pub place : k.place ≡ true
  pub size : ℕ
  pub sizes : List ℕ
  pub dimensions : k.of.dimensions ≡ size ∷ sizes

-- an argument: a value that the parameter's type takes, the place of a variable of the parameter's type, or
-- that of an array
abbrev pub TakesParameter : ParameterKind → Passing → OperandType → Type 0
TakesParameter (parameter.Simple t) passing.Value k = Suits (simple_sort t) k
TakesParameter (parameter.Simple t) passing.Reference k =
    (k.place ≡ true) × (type_sort k.of ≡ Some (simple_sort t))
TakesParameter (parameter.Array elements.Any) p k = ArrayPlace k
TakesParameter _ _ k = ⊥

abbrev pub TakesAll : List Parameter → List OperandType → Type 0
TakesAll [] [] = Unit {0}
TakesAll [] (k ∷ ks) = ⊥
TakesAll (p ∷ ps) [] = ⊥
TakesAll (p ∷ ps) (k ∷ ks) = TakesParameter p.kind p.passing k × TakesAll ps ks

-- values of which there may be any number: numbers, doubles and strings
abbrev pub is_shown : Sort → Bool
is_shown (sort.Number k) = true
is_shown sort.Double = true
is_shown sort.String = true
is_shown sort.Pointer = false

pub record Shown (k : OperandType) : Type 0 where
  pub sort : Sort
  pub of : OfSort sort k
  pub shown : is_shown sort ≡ true

abbrev pub AllShown : List OperandType → Type 0
AllShown [] = Unit {0}
AllShown (k ∷ ks) = Shown k × AllShown ks

-- a number or a double, and two that are both the one or both the other
pub record Counted (k : OperandType) : Type 0 where
  pub sort : Sort
  pub of : OfSort sort k
  pub counted : is_counted sort ≡ true

pub record BothCounted (k j : OperandType) : Type 0 where
  pub first : Counted k
  pub second : Suits first.sort j

abbrev pub is_comparing : Native → Bool
is_comparing natives.MathMax = true
is_comparing natives.MathMin = true
is_comparing _ = false

-- a string, and behind it such values
abbrev pub FormatShown : List OperandType → Type 0
FormatShown [] = ⊥
FormatShown (k ∷ ks) = Suits sort.String k × AllShown ks

-- the place of an array of numbers or of doubles
pub record NumbersPlace (k : OperandType) : Type 0 where
  pub array : ArrayPlace k
  pub sort : Sort
  pub of : base_sort k.of.base ≡ Some sort
  pub counted : is_counted sort ≡ true

-- elements are copied to others of the same type, and numbers and doubles to each other
pub data Copied (target source : Base) : Type 0 where
  Same : (source ≡ target) → Copied target source
  AsNumbers : (s t : Sort) → (base_sort target ≡ Some s) → (base_sort source ≡ Some t)
      → (is_counted s ≡ true) → (is_counted t ≡ true) → Copied target source

-- the place of an array of strings with one dimension
pub record StringsPlace (k : OperandType) : Type 0 where
  pub place : k.place ≡ true
  pub size : ℕ
  pub of : k.of ≡ type_of base.String (size ∷ [])

-- a structure of eight `int` fields, as `MqlDateTime` is
pub record TimeStructure (classes : List Class) (t : VarType) : Type 0 where
  pub class : ℕ
  pub is : t ≡ type_of (base.Structure class) []
  pub fields : fields_of (slice_get classes class) ≡ replicate 8 (type_of (base.Number kind.Int) [])

-- an array of numbers, the place of an element and a number of elements
pub record ExtremeRule (a i n : OperandType) : Type 0 where
  pub array : NumbersPlace a
  pub start : Suits (sort.Number kind.Int) i
  pub count : Suits (sort.Number kind.Int) n

-- an array of numbers, and the number that each element gets
pub record InitializeRule (a v : OperandType) : Type 0 where
  pub array : NumbersPlace a
  pub value : Counted v

-- the array that gets elements and the one that they are from, where they begin in both, and how many there
-- are
pub record CopyArrayRule (a b i j n : OperandType) : Type 0 where
  pub target : ArrayPlace a
  pub source : ArrayPlace b
  pub elements : Copied a.of.base b.of.base
  pub at : Suits (sort.Number kind.Int) i
  pub from : Suits (sort.Number kind.Int) j
  pub count : Suits (sort.Number kind.Int) n

-- a string, a separator, and an array for the parts
pub record SplitRule (s u a : OperandType) : Type 0 where
  pub text : Suits sort.String s
  pub separator : Suits (sort.Number kind.Ushort) u
  pub parts : StringsPlace a

-- a time and the place of its structure; a structure
pub record ToStructureRule (classes : List Class) (t s : OperandType) : Type 0 where
  pub time : Suits (sort.Number kind.Datetime) t
  pub place : s.place ≡ true
  pub structure : TimeStructure classes s.of

pub record FromStructureRule (classes : List Class) (s : OperandType) : Type 0 where
  pub value : s.place ≡ false
  pub structure : TimeStructure classes s.of

-- native functions of arrays of numbers, copies, splits and structures (MQL5 Reference, Array Functions;
-- String Functions, StringSplit; Common Functions, ZeroMemory; Date and Time)
abbrev pub Lends : List Class → Native → List OperandType → Type 0
Lends classes natives.ArrayMaximum xs = ThreeKinds ExtremeRule xs
Lends classes natives.ArrayMinimum xs = ThreeKinds ExtremeRule xs
Lends classes natives.ArraySort xs = OneKind NumbersPlace xs
Lends classes natives.ArrayInitialize xs = TwoKinds InitializeRule xs
Lends classes natives.ArrayCopy xs = FiveKinds CopyArrayRule xs
Lends classes natives.ZeroMemory xs = OneKind (λ k. k.place ≡ true) xs
Lends classes natives.StringSplit xs = ThreeKinds SplitRule xs
Lends classes natives.TimeToStruct xs = TwoKinds (ToStructureRule classes) xs
Lends classes natives.StructToTime xs = OneKind (FromStructureRule classes) xs
Lends classes _ xs = ⊥

-- a native function asks the world, whatever it hands over, or computes by arguments of its own rule or of
-- its signature
pub data Answered (classes : List Class) (f : Native) (xs : List OperandType) : Type 0 where
  ByPlaces : Lends classes f xs → Answered classes f xs
  Comments : (f ≡ natives.Comment) → AllShown xs → Answered classes f xs
  Counts : (f ≡ natives.MathAbs) → OneKind Counted xs → Answered classes f xs
  Compares : (is_comparing f ≡ true) → TwoKinds BothCounted xs → Answered classes f xs
  Formats : (f ≡ natives.StringFormat) → FormatShown xs → Answered classes f xs
  ByWorld : (asks f ≡ true) → Answered classes f xs
  ByValues : (is_computed f ≡ true) → TakesAll (signature f).parameters xs → Answered classes f xs

pub record NativeRule (code : Code) (kinds : Kinds) (f : Native) (k behind : ℕ)
    (xs rest : List OperandType) : Type 0 where
  pub answered : Answered code.classes f xs
  pub after : List OperandType
  pub gives : GivesResult (signature f).result xs rest after
  pub goes_on : kinds k behind ≡ Some after

pub record PlainRule (code : Code) (c : FunctionCode) (kinds : Kinds) (e : Effect) (k behind : ℕ)
    (ks : List OperandType) : Type 0 where
  pub after : List OperandType
  pub changes : Changes code c e ks after
  pub goes_on : kinds k behind ≡ Some after

-- an instruction of a function leads from kinds to those at the places where it goes on
abbrev pub Leads : Code → Kinds → ℕ → FunctionCode → ℕ → Instruction → List OperandType → Type 0
Leads code kinds k c place (instruction.Plain e) ks = PlainRule code c kinds e k (place + 1) ks
Leads code kinds k c place (instruction.Jump label) ks = JumpRule code kinds k label ks
Leads code kinds k c place (instruction.Unless label) ks =
    Taking 1 ks [] (λ xs rest. OneKind (Suits (sort.Number kind.Bool)) xs
    × (kinds k (place + 1) ≡ Some rest) × JumpRule code kinds k label rest)
Leads code kinds k c place instruction.Step ks = kinds k (place + 1) ≡ Some ks
Leads code kinds k c place (instruction.Call f) ks = CallRule code kinds f k (place + 1) ks
Leads code kinds k c place (instruction.Native f n) ks =
    Taking n ks [] (λ xs rest. NativeRule code kinds f k (place + 1) xs rest)
Leads code kinds k c place instruction.Return ks = ks ≡ with_result c.result []
