-- What the machine does, instruction by instruction (own). Its changes of the store and its calls of the world are
-- those of the source meaning.
use Rattle.std.specs.Prelude.{◌≡◌, is_some, ℕ, ℤ, zero, suc, ◌+◌, ◌-◌, not, Bool, true, false, List, [], ◌∷◌, length, take, drop, Option, Some, None, slice_get}
use Rattle.mql_mean.specs.declared.value.Value.{Value}
use Rattle.natives.specs.declared.native.Native.{Native}
use Rattle.mql_meaning.specs.declared.operator.Operator.{Operator}
use Rattle.mql_meaning.specs.declared.operator.Operator.TheVariants as operator
use Rattle.mql_meaning.specs.declared.types.VarType.{VarType}
use Rattle.mql_meaning.specs.declared.tree.Class.{Class}
use Rattle.mql_meaning.specs.declared.tree.Checked.{Checked}
use Rattle.mql_meaning.specs.declared.tree.Entry.{Entry}
use Rattle.mql_meaning.specs.declared.tree.Function.{Function}
use Rattle.mql_meaning.specs.Changes.{Ended, Returned, Exhausted, Stuck, Change, ◌>>=◌, ◌>>◌, give, the, then_some}
use Rattle.mql_meaning.specs.Runs.{World, Res, Go, End, Act, change}
use Rattle.mql_meaning.specs.Places.{read, write, set_line}
use Rattle.mql_meaning.specs.Operands.{Operand, Val, At, literal, on_one, on_two, a_value, a_place}
use Rattle.mql_meaning.specs.Apply.{apply}
use Rattle.mql_meaning.specs.Frames.{enter, leave, reset}
use Rattle.mql_meaning.specs.Natives.{void_value}
use Rattle.mql_meaning.specs.Calls.{native_void, calls_native}
use Rattle.mql_meaning.specs.Dispatch.{condition}
use Rattle.mql_meaning.specs.Means.{Outcome, first, event, event_arguments}
use Rattle.stack_code.specs.declared.code.Code.{Code}
use Rattle.stack_code.specs.declared.code.FunctionCode.{FunctionCode}
use Rattle.stack_code.specs.declared.code.Label.{Label}
use Rattle.stack_code.specs.declared.code.Instruction.{Instruction}
use Rattle.stack_code.specs.declared.code.Instruction.TheVariants as instruction
use Rattle.stack_code.specs.declared.code.Effect.{Effect}
use Rattle.stack_code.specs.declared.code.Effect.TheVariants as effect

-- where a return leads
pub record Back : Type 0 where
  pub function : ℕ
  pub place : ℕ

-- a running machine, with its operands, the topmost first, and where its calls return to; or how it ended
pub data Next : Type 0 where
  On : (function place : ℕ) (operands : List Operand) (backs : List Back) (n : ℕ) (w : World) → Next
  Halt : (e : Ended) (n : ℕ) (w : World) → Next

-- where a result leads: something goes on, an end is the machine's end
abbrev pub land : {A : Type 0} → Res A → (A → ℕ → World → Next) → Next
land (Go a n w) f = f a n w
land (End e n w) f = Halt e n w

-- something that was taken, and the operands below it
pub record Taken (A : Type 0) : Type 0 where
  pub it : A
  pub rest : List Operand

abbrev pub beside : {A : Type 0} → A → List Operand → Taken A
beside a operands = record { it = a; rest = operands }

-- so many operands, of which the last one was topmost, before those that were taken already
abbrev pub takes : ℕ → List Operand → List Operand → Option (Taken (List Operand))
takes zero ops xs = Some (beside xs ops)
takes (suc c) [] xs = None
takes (suc c) (x ∷ ops) xs = takes c ops (x ∷ xs)

-- so many operands are taken; fewer are what validity excludes
abbrev pub taking : ℕ → List Operand → Change (Taken (List Operand))
taking c ops = the (takes c ops [])

-- how many operands an operator takes
abbrev pub operands_of : Operator → ℕ
operands_of (operator.Local l) = 0
operands_of (operator.Global g) = 0
operands_of operator.This = 0
operands_of (operator.Field i) = 1
operands_of operator.Index = 2
operands_of operator.Object = 1
operands_of operator.Read = 1
operands_of operator.PointerOf = 1
operands_of operator.Keep = 2
operands_of (operator.Update o t) = 2
operands_of (operator.Bump b) = 1
operands_of (operator.Unary u t) = 1
operands_of (operator.Binary o t) = 2
operands_of (operator.Convert t) = 1
operands_of (operator.Cast class strict) = 1

-- a value for a place, and a place for another one
abbrev pub writes : List Operand → Change (Unit {0})
writes = on_two (λ x y. a_value x >>= λ v. a_place y >>= write v)

abbrev pub copies : List Operand → Change (Unit {0})
copies = on_two (λ x y. a_place x >>= λ p. a_place y >>= λ q. read p >>= λ v. write v q)

-- the operands below, when a change was made, and an operand upon them
abbrev pub then_below : {A : Type 0} → Change A → List Operand → Change (List Operand)
then_below f ops = f >>= λ _. give ops

abbrev pub then_upon : Change Operand → List Operand → Change (List Operand)
then_upon f ops = f >>= λ x. give (x ∷ ops)

abbrev pub constant : Value → Change Operand
constant v = literal v >>= λ u. give (Val u)

-- what an effect makes of the operands, in a function with these locals
abbrev pub does_effect : Code → List VarType → Effect → List Operand → Change (List Operand)
does_effect code locals (effect.Constant k) ops =
    the (slice_get code.constants k) >>= λ v. then_upon (constant v) ops
does_effect code locals (effect.Apply o) ops =
    taking (operands_of o) ops >>= λ t. then_upon (apply code.classes o t.it) t.rest
does_effect code locals effect.Write ops = taking 2 ops >>= λ t. then_below (writes t.it) t.rest
does_effect code locals effect.Copy ops = taking 2 ops >>= λ t. then_below (copies t.it) t.rest
does_effect code locals effect.Drop ops = taking 1 ops >>= λ t. give t.rest
does_effect code locals effect.Twice ops = taking 1 ops >>= λ t. then_upon (on_one give t.it) ops
does_effect code locals (effect.Line line) ops = then_below (set_line line) ops
does_effect code locals (effect.Reset a b) ops =
    then_below (reset code.classes a (take (b - a) (drop a locals))) ops

-- the function of a number, its locals, the instruction at a place in it, and the place of a label in it
abbrev pub function_at : Code → ℕ → Option FunctionCode
function_at code k = slice_get code.functions k

abbrev pub locals_of : Option FunctionCode → List VarType
locals_of None = []
locals_of (Some c) = c.locals

abbrev pub fetch : Code → ℕ → ℕ → Option Instruction
fetch code k place = then_some (function_at code k) (λ c. slice_get c.instructions place)

abbrev pub place_of : Label → Option ℕ
place_of l = Some l.place

abbrev pub label_at : Code → ℕ → ℕ → Option ℕ
label_at code k label = then_some (function_at code k) (λ c. then_some (slice_get c.labels label) place_of)

-- from a label on
abbrev pub goes : Option ℕ → ℕ → List Operand → List Back → ℕ → World → Next
goes None k ops backs n w = Halt Stuck n w
goes (Some place) k ops backs n w = On k place ops backs n w

-- one of two states
abbrev pub branch : Bool → Next → Next → Next
branch true a b = a
branch false a b = b

-- a value on top, where there is one
abbrev pub upon : Bool → Value → List Operand → List Operand
upon true v ops = Val v ∷ ops
upon false v ops = ops

-- a step, where one is left
abbrev pub stepped : ℕ → (ℕ → World → Next) → World → Next
stepped zero go w = Halt Exhausted zero w
stepped (suc n) go w = go n w

-- what a call of a function looks at: all but its body
abbrev pub head_of : FunctionCode → Function
head_of c =
    record {
      name = c.name;
      class = c.class;
      makes = c.makes;
      lent = c.lent;
      locals = c.locals;
      result = c.result;
      body = [];
    }

-- how many operands a call takes: its parameters, and before them the place of its object
abbrev pub arguments_of : FunctionCode → ℕ
arguments_of c = if_method (is_some c.class) (length c.lent)
  where
    if_method : Bool → ℕ → ℕ
    if_method true n = suc n
    if_method false n = n

-- a function begins, with a frame of its own
abbrev pub starts :
    List Class → Option FunctionCode → ℕ → List Operand → List Operand → List Back → ℕ → World → Next
starts classes None k xs ops backs n w = Halt Stuck n w
starts classes (Some c) k xs ops backs n w =
    land (change (enter classes (head_of c) xs) n w) (λ _. On k 0 ops backs)

-- a call: the arguments are taken, and the function begins
abbrev pub calls :
    List Class → Option FunctionCode → ℕ → Back → List Operand → List Back → ℕ → World → Next
calls classes None k back ops backs n w = Halt Stuck n w
calls classes (Some c) k back ops backs n w =
    land (change (taking (arguments_of c) ops) n w)
    (λ t. starts classes (Some c) k t.it t.rest (back ∷ backs))

-- back in the caller; where there is none, the machine has ended
abbrev pub goes_back : List Back → Bool → Value → List Operand → ℕ → World → Next
goes_back [] gives v ops n w = Halt (Returned v) n w
goes_back (b ∷ backs) gives v ops n w = On b.function b.place (upon gives v ops) backs n w

-- the value that a function returns: the topmost operand, or none
abbrev pub returned : Bool → List Operand → Change (Taken Value)
returned true ops = taking 1 ops >>= λ t. on_one a_value t.it >>= λ v. give (beside v t.rest)
returned false ops = give (beside void_value ops)

-- a return: the frame and its cells are given back
abbrev pub returns : Option FunctionCode → List Operand → List Back → ℕ → World → Next
returns None ops backs n w = Halt Stuck n w
returns (Some c) ops backs n w =
    land (change (returned (is_some c.result) ops >>= λ t. leave >>= λ _. give t) n w)
    (λ t. goes_back backs (is_some c.result) t.it t.rest)

-- a condition is taken: where it holds the next instruction follows, else a label
abbrev pub tests : Code → ℕ → ℕ → ℕ → List Operand → List Back → ℕ → World → Next
tests code label k place ops backs n w =
    land (change (taking 1 ops >>= λ t. on_one condition t.it >>= λ b. give (beside b t.rest)) n w)
    (λ t n w. branch t.it (On k (place + 1) t.rest backs n w) (goes (label_at code k label) k t.rest backs n w))

-- a native function is called
abbrev pub asks : Native → ℕ → ℕ → ℕ → List Operand → List Back → ℕ → World → Next
asks f c k place ops backs n w =
    land (change (taking c ops) n w)
    (λ t n w. land (calls_native f t.it n w) (λ v. On k (place + 1) (upon (not (native_void f)) v t.rest) backs))

-- one instruction, where it is there
abbrev pub act : Code → Option Instruction → ℕ → ℕ → List Operand → List Back → ℕ → World → Next
act code None k place ops backs n w = Halt Stuck n w
act code (Some (instruction.Plain e)) k place ops backs n w =
    land (change (does_effect code (locals_of (function_at code k)) e ops) n w)
    (λ ops. On k (place + 1) ops backs)
act code (Some (instruction.Jump label)) k place ops backs n w =
    goes (label_at code k label) k ops backs n w
act code (Some (instruction.Unless label)) k place ops backs n w = tests code label k place ops backs n w
act code (Some instruction.Step) k place ops backs n w = stepped n (On k (place + 1) ops backs) w
act code (Some (instruction.Call f)) k place ops backs n w =
    calls code.classes (function_at code f) f (record { function = k; place = place + 1 }) ops backs n w
act code (Some (instruction.Native f c)) k place ops backs n w = asks f c k place ops backs n w
act code (Some instruction.Return) k place ops backs n w = returns (function_at code k) ops backs n w

-- the next state
abbrev pub advance : Code → Next → Next
advance code (On k place ops backs n w) = act code (fetch code k place) k place ops backs n w
advance code (Halt e n w) = Halt e n w

-- so many instructions
abbrev pub advances : Code → ℕ → Next → Next
advances code zero x = x
advances code (suc j) x = advances code j (advance code x)

-- the machine comes from one state to another
pub record Comes (code : Code) (x y : Next) : Type 0 where
  pub instructions : ℕ
  pub is : advances code instructions x ≡ y

-- what an event looks at of a program: all but its functions
abbrev pub program_of : Code → Checked
program_of code =
    record {
      classes = code.classes;
      functions = [];
      globals = code.globals;
      inputs = code.inputs;
      entries = code.entries;
    }

-- the function of an event begins, if there is one
abbrev pub starts_at : Code → Option ℕ → List Operand → ℕ → World → Next
starts_at code None xs n w = Halt Stuck n w
starts_at code (Some k) xs n w = starts code.classes (function_at code k) k xs [] [] n w

-- an event begins
abbrev pub begins : Code → Entry → ℤ → ℕ → World → Next
begins code e arg n w =
    land (change (first (program_of code) e) n w)
    (λ _. starts_at code (event (program_of code) e) (event_arguments e arg))

-- the machine has an outcome
abbrev pub Gives : Code → Entry → ℤ → ℕ → World → Outcome → Type 0
Gives code e arg n w o = Comes code (begins code e arg n w) (Halt o.ended o.left o.world)
