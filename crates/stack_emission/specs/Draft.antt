-- Code in the making.
use Rattle.std.specs.Prelude.{◌≡◌, ℕ, ◌<◌, ◌≤◌, is_some, Bool, true, List, [], ◌∷◌, ◌++◌, Some, None, length, replicate, slice_get, slice_set}
use Rattle.mql_mean.specs.declared.value.Value.{Value}
use Rattle.mql_mean.specs.declared.value.Value.TheVariants as value
use Rattle.mql_meaning.specs.declared.operator.Operator.TheVariants as operator
use Rattle.mql_meaning.specs.declared.tree.Callee.{Callee}
use Rattle.mql_meaning.specs.declared.tree.Expression.{Expression}
use Rattle.mql_meaning.specs.declared.tree.Function.{Function}
use Rattle.mql_meaning.specs.declared.types.Sort.TheVariants as sort
use Rattle.mql_meaning.specs.Expressions.{is_void}
use Rattle.stack_code.specs.declared.code.Effect.{Effect}
use Rattle.stack_code.specs.declared.code.Effect.TheVariants as effect
use Rattle.stack_code.specs.declared.code.Instruction.{Instruction}
use Rattle.stack_code.specs.Machine.{arguments_of}
use Rattle.stack_follows.specs.Spans.{Listing, Span, ◌▷◌, Nothing, WithLabel, One, Plain, Unless, Jump, Label, Push, StuckIf, LetGo}
use Rattle.stack_follows.specs.Expressions.{is_short, if_short, Equals, ExpressionAt, CallAt, JoinAt}
use Rattle.stack_emission.specs.declared.draft.Draft.{Draft}
use Rattle.stack_emission.specs.HasCode.{unwritten, is_number, callee_has_code, expression_has_code}

-- a function of the program takes so many operands, and gives a value or none
pub record IsCalled (functions : List Function) (k operands : ℕ) (gives : Bool) : Type 0 where
  pub function : Function
  pub is : slice_get functions k ≡ Some function
  pub takes : arguments_of (unwritten function) ≡ operands
  pub result : is_some function.result ≡ gives

-- what is known of the code in a draft, in a program of these functions
abbrev pub listing_in : List Function → Draft → Listing
listing_in functions draft =
    record {
      instruction_at = λ place i. slice_get draft.instructions place ≡ Some i;
      label_at = λ label place. slice_get draft.labels label ≡ Some (Some place);
      constant_at = λ number v. slice_get draft.constants number ≡ Some v;
      function_at = IsCalled functions;
    }

-- what stands stays, and so does each label before the one of a number, also if it has no place
pub record Grown (before : ℕ) (old new : Draft) : Type 0 where
  pub instructions : (place : ℕ) (i : Instruction) →
      slice_get old.instructions place ≡ Some i → slice_get new.instructions place ≡ Some i
  pub constants : (number : ℕ) (v : Value) →
      slice_get old.constants number ≡ Some v → slice_get new.constants number ≡ Some v
  pub placed : (label place : ℕ) →
      slice_get old.labels label ≡ Some (Some place) → slice_get new.labels label ≡ Some (Some place)
  pub unplaced : (label : ℕ) → label < before →
      slice_get old.labels label ≡ Some None → slice_get new.labels label ≡ Some None
  pub labels : length old.labels ≤ length new.labels

-- code, in a program of these functions, by what is known of the code around it
abbrev pub Coding : Type 1
Coding = List Function → Listing → Span

-- code was written, whatever the functions of the program, and no label before that of a number got a place
pub record Writes (before : ℕ) (A : Coding) (old new : Draft) : Type 0 where
  pub grown : Grown before old new
  pub is : (functions : List Function) →
      A functions (listing_in functions new) (length old.instructions) (length new.instructions)

-- code was written, and labels of its own alone got places
abbrev pub Emits : Coding → Draft → Draft → Type 0
Emits A old new = Writes (length old.labels) A old new

-- an instruction was added
abbrev pub Adds : Instruction → Draft → Draft → Type 0
Adds i old new = new ≡ record old { instructions = old.instructions ++ i ∷ [] }

-- a constant was added
pub record NewConstant (v : Value) (number : ℕ) (old new : Draft) : Type 0 where
  pub numbered : number ≡ length old.constants
  pub draft : new ≡ record old { constants = old.constants ++ v ∷ [] }

-- a label was added, which has no place yet
pub record NewLabel (label : ℕ) (old new : Draft) : Type 0 where
  pub numbered : label ≡ length old.labels
  pub draft : new ≡ record old { labels = old.labels ++ None ∷ [] }

-- so many labels were added in a row, which have no place yet
pub record NewLabels (count first : ℕ) (old new : Draft) : Type 0 where
  pub numbered : first ≡ length old.labels
  pub draft : new ≡ record old { labels = old.labels ++ replicate count None }

-- the labels from one to before another have no place yet
pub record Wait (from to : ℕ) (draft : Draft) : Type 0 where
  pub each : (label : ℕ) → from ≤ label → label < to → slice_get draft.labels label ≡ Some None

-- a label got its place: the next instruction's
abbrev pub SetLabel : ℕ → Draft → Draft → Type 0
SetLabel label old new =
    new ≡ record old { labels = slice_set old.labels label (Some (length old.instructions)) }

-- code of what has code
abbrev pub WhereBuilt : Bool → Span → Span
WhereBuilt has_code A pc pc' = has_code ≡ true → A pc pc'

-- an instruction
abbrev pub one : Instruction → Coding
one i functions here = One here i

-- one code and then another
infixr 40 ◌then◌
abbrev pub ◌then◌ : Coding → Coding → Coding
(A then B) functions here = A functions here ▷ B functions here

-- nothing
abbrev pub no_instruction : Coding
no_instruction functions here = Nothing

-- code with a label of its own
abbrev pub with_label : (ℕ → Coding) → Coding
with_label A functions here = WithLabel λ label. A label functions here

-- a label
abbrev pub label : ℕ → Coding
label l functions here = Label here l

-- a jump, and one where a condition does not hold
abbrev pub jump : ℕ → Coding
jump l functions here = Jump here l

abbrev pub unless : ℕ → Coding
unless l functions here = Unless here l

-- an instruction that goes on to the next one
abbrev pub plain : Effect → Coding
plain e functions here = Plain here e

-- a constant that is pushed, a part that is stuck, and a value that is let go
abbrev pub push : Value → Coding
push v functions here = Push here v

abbrev pub stuck_if : Bool → Coding
stuck_if b functions here = StuckIf here b

abbrev pub let_go : Bool → Coding
let_go b functions here = LetGo here b

-- an expression, and one where a value or a place must stand
abbrev pub expression : Expression → Coding
expression e functions here = WhereBuilt (expression_has_code functions e) (ExpressionAt here e)

abbrev pub operand : Expression → Coding
operand e = expression e then stuck_if (is_void e)

-- parts, whose operands come to lie one upon another
abbrev pub operands : List Expression → Coding
operands [] = no_instruction
operands (e ∷ es) = operand e then operands es

-- expressions whose values are let go
abbrev pub all_let_go : List Expression → Coding
all_let_go [] = no_instruction
all_let_go (e ∷ es) = (expression e then let_go (is_void e)) then all_let_go es

-- the first of some expressions, the second, and the third
abbrev pub first : List Expression → Coding
first [] = stuck_if true
first (e ∷ es) = operand e

abbrev pub second : List Expression → Coding
second [] = stuck_if true
second (e ∷ es) = first es

abbrev pub third : List Expression → Coding
third [] = stuck_if true
third (e ∷ es) = second es

-- a condition, and then the first or the second of what follows
abbrev pub choice : List Expression → Coding
choice [] = stuck_if true
choice (c ∷ es) =
    with_label λ other. with_label λ out. operand c then unless other then first es then jump out
    then label other then second es then label out

-- a call
abbrev pub call : Callee → Bool → ℕ → Coding
call f gives operands functions here =
    WhereBuilt (callee_has_code functions f gives operands) (CallAt here f gives operands)

-- a comparison with a number
abbrev pub equals : Value → Coding
equals v functions here = WhereBuilt (is_number v) (Equals here v)

-- a text is put before the one on top
abbrev pub join : Bool → List ℕ → Coding
join b before functions here = JoinAt here b before

-- the digits of a number, behind a text
abbrev pub no_name : List ℕ → Coding
no_name before = plain (effect.Apply (operator.Convert sort.String)) then join (is_short before) before

-- the names of a number
abbrev pub names : List ℕ → ℕ → List Value → List (List ℕ) → Coding
names before out (v ∷ vs) (s ∷ ss) =
    with_label λ next. plain effect.Twice then equals v then unless next
    then plain effect.Drop then plain effect.Drop then push (value.Str s) then jump out
    then label next then names before out vs ss
names before out _ _ = no_name before

-- `EnumToString`
abbrev pub named : List (List ℕ) → List Value → List ℕ → List Expression → Coding
named texts labels before parts =
    with_label λ out. push (value.Str (if_short before)) then first parts then names before out labels texts
    then label out
