-- Valid code (own; the rules for types and operators are those of the MQL5 Reference, Language Basics).
use Rattle.std.specs.Prelude.{◌≡◌, ◌<◌, ℕ, suc, true, false, List, [], ◌∷◌, length, reverse, Option, Some, None, slice_get}
use Rattle.fx8.specs.declared.int_kind.IntKind.TheVariants as kind
use Rattle.mql_meaning.specs.declared.tree.Class.{Class}
use Rattle.mql_meaning.specs.declared.tree.Entry.{Entry}
use Rattle.mql_meaning.specs.declared.tree.Entry.TheVariants as entry
use Rattle.mql_meaning.specs.declared.tree.Input.{Input}
use Rattle.mql_meaning.specs.declared.tree.Method.{Method}
use Rattle.mql_meaning.specs.declared.types.Base.{Base}
use Rattle.mql_meaning.specs.declared.types.Base.TheVariants as base
use Rattle.mql_meaning.specs.declared.types.VarType.{VarType}
use Rattle.mql_meaning.specs.Calls.{is_sound}
use Rattle.mql_meaning.specs.Means.{event}
use Rattle.stack_code.specs.declared.code.Code.{Code}
use Rattle.stack_code.specs.declared.code.FunctionCode.{FunctionCode}
use Rattle.stack_code.specs.declared.code.Instruction.{Instruction}
use Rattle.stack_code.specs.declared.code.Instruction.TheVariants as instruction
use Rattle.stack_code.specs.declared.code.Label.{Label}
use Rattle.stack_code.specs.declared.code.OperandType.{OperandType}
use Rattle.stack_code.specs.Machine.{function_at, program_of}
use Rattle.stack_code.specs.Paced.{Paced}
use Rattle.stack_validity.specs.Types.{type_of, base_fields, ValueOf}
use Rattle.stack_validity.specs.Rules.{Kinds, Leads}

-- a type may be used where structures below a number may be: heights rise from a structure's fields to it.
-- Objects have no code yet
abbrev pub Below : (ℕ → ℕ) → ℕ → Base → Type 0
Below height n (base.Number k) = Unit {0}
Below height n base.Double = Unit {0}
Below height n base.String = Unit {0}
Below height n (base.Pointer k) = Unit {0}
Below height n (base.Structure k) = height k < n
Below height n (base.Object k) = ⊥

-- no structure contains itself: structures have heights, and each field's is lower than that of its structure
pub record Nesting (classes : List Class) : Type 0 where
  pub height : ℕ → ℕ
  pub fields : (k i : ℕ) (t : VarType) → slice_get (base_fields classes (base.Structure k)) i ≡ Some t
      → Below height (height k) t.base

-- parents form no cycle: classes have ranks, and a parent's is lower
pub record Parents (classes : List Class) : Type 0 where
  pub rank : ℕ → ℕ
  pub parents : (k j : ℕ) (c : Class) → slice_get classes k ≡ Some c → c.parent ≡ Some j
      → (j < length classes) × (rank j < rank k)

-- the methods of one signature that a class and its parent have take and give the same
pub record SameHead (f g : FunctionCode) : Type 0 where
  pub lent : f.lent ≡ g.lent
  pub parameters : (i : ℕ) → i < length f.lent → slice_get f.locals i ≡ slice_get g.locals i
  pub result : f.result ≡ g.result

abbrev pub MethodsAgree : Code → Type 0
MethodsAgree code =
    (k j : ℕ) (c p : Class) → slice_get code.classes k ≡ Some c
    → c.parent ≡ Some j → slice_get code.classes j ≡ Some p
    → (m i : ℕ) (own other : Method) → slice_get c.methods m ≡ Some own → slice_get p.methods i ≡ Some other
    → own.signature ≡ other.signature
    → (f g : ℕ) (a b : FunctionCode) → own.function ≡ Some f → other.function ≡ Some g
    → function_at code f ≡ Some a → function_at code g ≡ Some b → SameHead a b

-- the function of an event takes what the event hands over: OnDeinit the reason, others nothing
abbrev pub int_type : VarType
int_type = type_of (base.Number kind.Int) []

abbrev pub TakesOf : Entry → FunctionCode → Type 0
TakesOf entry.Deinit f = (f.lent ≡ false ∷ []) × (slice_get f.locals 0 ≡ Some int_type)
TakesOf entry.Start f = f.lent ≡ []
TakesOf entry.Init f = f.lent ≡ []
TakesOf entry.Tick f = f.lent ≡ []
TakesOf entry.Trade f = f.lent ≡ []
TakesOf entry.Tester f = f.lent ≡ []
TakesOf entry.Stop f = f.lent ≡ []

-- what it gives: OnInit nothing or an `int`, OnTester a `double`, others nothing
abbrev pub NothingOr : VarType → Option VarType → Type 0
NothingOr t None = Unit {0}
NothingOr t (Some u) = u ≡ t

abbrev pub GivesOf : Entry → FunctionCode → Type 0
GivesOf entry.Init f = NothingOr int_type f.result
GivesOf entry.Tester f = f.result ≡ Some (type_of base.Double [])
GivesOf entry.Start f = f.result ≡ None
GivesOf entry.Tick f = f.result ≡ None
GivesOf entry.Trade f = f.result ≡ None
GivesOf entry.Deinit f = f.result ≡ None
GivesOf entry.Stop f = f.result ≡ None

pub record EntryFits (code : Code) (e : Entry) (k : ℕ) : Type 0 where
  pub function : FunctionCode
  pub there : function_at code k ≡ Some function
  pub free : function.class ≡ None
  pub takes : TakesOf e function
  pub gives : GivesOf e function

-- an input is a global, and its default is of the global's type and in its range
pub record InputFits (code : Code) (input : Input) : Type 0 where
  pub of : VarType
  pub there : slice_get code.globals input.global ≡ Some of
  pub fits : ValueOf code.classes of input.default
  pub in_range : is_sound input.default ≡ true

-- an instruction that nothing follows by itself
abbrev pub Leaves : Instruction → Type 0
Leaves (instruction.Jump label) = Unit {0}
Leaves instruction.Return = Unit {0}
Leaves (instruction.Plain e) = ⊥
Leaves (instruction.Unless label) = ⊥
Leaves instruction.Step = ⊥
Leaves (instruction.Call f) = ⊥
Leaves (instruction.Native f n) = ⊥

-- a label stands there
pub record Labelled (c : FunctionCode) (place : ℕ) : Type 0 where
  pub number : ℕ
  pub label : Label
  pub there : slice_get c.labels number ≡ Some label
  pub stands : label.place ≡ place

-- the instruction at a place, whose operands are there and which leads on
pub record Fine (code : Code) (kinds : Kinds) (k : ℕ) (c : FunctionCode) (place : ℕ)
    (ks : List OperandType) : Type 0 where
  pub instruction : Instruction
  pub there : slice_get c.instructions place ≡ Some instruction
  pub leads : Leads code kinds k c place instruction ks

-- a function's code, as far as types go
pub record TypedFunction (code : Code) (kinds : Kinds) (height : ℕ → ℕ) (k : ℕ)
    (c : FunctionCode) : Type 0 where
  -- the types of its locals are of the table
  pub locals : (l : ℕ) (t : VarType) → slice_get c.locals l ≡ Some t
      → Below height (length code.classes) t.base
  -- it begins with no operand; where kinds are known an instruction stands, and is fine
  pub begins : kinds k 0 ≡ Some []
  pub fine : (place : ℕ) (ks : List OperandType) → kinds k place ≡ Some ks → Fine code kinds k c place ks

-- code whose instructions find operands of the kinds that they take, wherever a run may come: this is what
-- the law needs. Kinds may be unknown where no run comes
pub record Typed (code : Code) (kinds : Kinds) : Type 0 where
  pub nesting : Nesting code.classes
  pub globals : (g : ℕ) (t : VarType) → slice_get code.globals g ≡ Some t
      → Below nesting.height (length code.classes) t.base
  pub inputs : (i : ℕ) (input : Input) → slice_get code.inputs i ≡ Some input → InputFits code input
  pub entries : (e : Entry) (k : ℕ) → event (program_of code) e ≡ Some k → EntryFits code e k
  pub functions : (k : ℕ) (c : FunctionCode) → function_at code k ≡ Some c
      → TypedFunction code kinds nesting.height k c

-- a function's code, as far as its tables and its form go
pub record ValidFunction (code : Code) (kinds : Kinds) (height : ℕ → ℕ) (k : ℕ)
    (c : FunctionCode) : Type 0 where
  -- there is a local for each parameter, and the type of its value is of the table
  pub parameters : (l : ℕ) → l < length c.lent → (t : VarType) × (slice_get c.locals l ≡ Some t)
  pub result : (t : VarType) → c.result ≡ Some t → Below height (length code.classes) t.base
  -- a label has the kinds that it says; each instruction has kinds
  pub labels : (n : ℕ) (l : Label) → slice_get c.labels n ≡ Some l
      → kinds k l.place ≡ Some (reverse l.operands)
  pub known : (place : ℕ) (i : Instruction) → slice_get c.instructions place ≡ Some i
      → (ks : List OperandType) × (kinds k place ≡ Some ks)
  -- what stands behind a jump or a return has a label, and the last instruction is one of the two
  pub leaves : (place : ℕ) (i : Instruction) → slice_get c.instructions place ≡ Some i → Leaves i
      → suc place < length c.instructions → Labelled c (suc place)
  pub ends : (place : ℕ) (i : Instruction) → slice_get c.instructions place ≡ Some i
      → suc place ≡ length c.instructions → Leaves i

-- valid code, by the kinds of the operands before each instruction
pub record Valid (code : Code) (kinds : Kinds) : Type 0 where
  pub typed : Typed code kinds
  pub parents : Parents code.classes
  pub methods : MethodsAgree code
  pub functions : (k : ℕ) (c : FunctionCode) → function_at code k ≡ Some c
      → ValidFunction code kinds typed.nesting.height k c
  pub paced : Paced code
