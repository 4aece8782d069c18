-- The code of functions in the making.
use Rattle.std.specs.Prelude.{◌≡◌, ℕ, ◌≤◌, is_some, Bool, List, [], ◌∷◌, ◌++◌, length, Option, Some, None, slice_get}
use Rattle.mql_mean.specs.declared.value.Value.{Value}
use Rattle.mql_meaning.specs.Changes.{then_some}
use Rattle.mql_meaning.specs.declared.tree.Function.{Function}
use Rattle.mql_meaning.specs.declared.tree.Statement.{Statement}
use Rattle.stack_code.specs.declared.code.FunctionCode.{FunctionCode}
use Rattle.stack_code.specs.declared.code.Instruction.{Instruction}
use Rattle.stack_code.specs.declared.code.Instruction.TheVariants as instruction
use Rattle.stack_code.specs.declared.code.Label.{Label}
use Rattle.stack_code.specs.Machine.{place_of}
use Rattle.stack_follows.specs.Spans.{Listing}
use Rattle.stack_follows.specs.Stands.{Exits as Leads}
use Rattle.stack_emission.specs.declared.functions.Functions.{Functions}
use Rattle.stack_emission.specs.HasCode.{unwritten}
use Rattle.stack_emission.specs.Draft.{Coding, IsCalled, ◌then◌, with_label, one, label, stuck_if}
use Rattle.stack_emission.specs.Statements.{statements}

-- a label that no function has
abbrev pub nowhere : ℕ
nowhere = 4294967295

-- where the statements of a function's body lead
abbrev pub outermost : ℕ → Leads
outermost return = record { to_break = nowhere; to_continue = nowhere; to_return = return }

-- a function: its step, its body, and its return
abbrev pub whole_body : Bool → List Statement → Coding
whole_body gives body =
    with_label λ return. one instruction.Step then statements gives body (outermost return)
    then stuck_if gives then label return then one instruction.Return

-- the labels of finished code; nothing is told of operands yet
abbrev pub placed_at : Option ℕ → Label
placed_at None = record { place = 0; operands = [] }
placed_at (Some place) = record { place = place; operands = [] }

abbrev pub placed : List (Option ℕ) → List Label
placed [] = []
placed (o ∷ os) = placed_at o ∷ placed os

-- the finished code of a function
abbrev pub finished : Function → List (Option ℕ) → List Instruction → FunctionCode
finished f labels instructions = record (unwritten f) { labels = placed labels; instructions = instructions }

-- what is known of finished code by itself, in a program of these functions
abbrev pub listing_of : List Function → List Value → FunctionCode → Listing
listing_of functions constants c =
    record {
      instruction_at = λ place i. slice_get c.instructions place ≡ Some i;
      label_at = λ label place. then_some (slice_get c.labels label) place_of ≡ Some place;
      constant_at = λ number v. slice_get constants number ≡ Some v;
      function_at = IsCalled functions;
    }

-- finished code of a function, which is its body and nothing else
pub record Written (functions : List Function) (constants : List Value) (f : Function) (c : FunctionCode) :
    Type 0 where
  pub labels : List (Option ℕ)
  pub instructions : List Instruction
  pub finished : c ≡ finished f labels instructions
  pub few : length labels ≤ nowhere
  pub is : whole_body (is_some f.result) f.body functions (listing_of functions constants c) 0
      (length instructions)

-- a function was written, and constants may have been added
pub record AddsFunction (f : Function) (old new : Functions) : Type 0 where
  pub constants : (number : ℕ) (v : Value) →
      slice_get old.constants number ≡ Some v → slice_get new.constants number ≡ Some v
  pub code : FunctionCode
  pub functions : new.functions ≡ old.functions ++ code ∷ []
  pub written : (functions : List Function) → Written functions new.constants f code

-- each function is written
abbrev pub EachWritten : List Function → List Value → List Function → List FunctionCode → Type 0
EachWritten functions constants [] [] = Unit {0}
EachWritten functions constants (f ∷ fs) (c ∷ cs) =
    Written functions constants f c × EachWritten functions constants fs cs
EachWritten functions constants _ _ = ⊥

-- the functions of a program are written
abbrev pub AllWritten : List Function → Functions → Type 0
AllWritten fs written =
    (functions : List Function) → EachWritten functions written.constants fs written.functions
