-- The code that stands for statements, functions and programs: a form, and its instructions (own).
use Rattle.std.specs.Prelude.{◌≡◌, ℕ, ◌+◌, ◌==◌, nat_le, not, is_some, Bool, true, false, List, [], ◌∷◌, Option, Some, None, slice_get}
use Rattle.mql_mean.specs.declared.value.Value.{Value}
use Rattle.mql_meaning.specs.declared.tree.Checked.{Checked}
use Rattle.mql_meaning.specs.declared.tree.Cleanup.{Cleanup}
use Rattle.mql_meaning.specs.declared.tree.Function.{Function}
use Rattle.mql_meaning.specs.declared.tree.Statement.{Statement, Evaluate, Reset, Return, Break, Continue, If', Loop', Switch', Block', Row_of-Statement, end_of-Statement, more_of-Statement}
use Rattle.mql_meaning.specs.Expressions.{is_void}
use Rattle.stack_code.specs.declared.code.Code.{Code}
use Rattle.stack_code.specs.declared.code.FunctionCode.{FunctionCode}
use Rattle.stack_code.specs.declared.code.Effect.TheVariants as effect
use Rattle.stack_code.specs.declared.code.Instruction.TheVariants as instruction
use Rattle.stack_code.specs.Machine.{function_at, fetch, label_at, head_of, arguments_of, program_of}
use Rattle.stack_follows.specs.Spans.{Listing, Span, ◌▷◌, Nothing, NoCode, WithLabel, One, Plain, Jump, Unless, Label, StuckIf, LetGo}
use Rattle.stack_follows.specs.Expressions.{Equals, ExpressionAt, OperandAt, LetsGo}

-- the labels to which a statement's exits lead; where it returns a value, that is on top there
pub record Exits : Type 0 where
  pub to_break : ℕ
  pub to_continue : ℕ
  pub to_return : ℕ

-- the exits of a loop's body
abbrev pub inside : ℕ → ℕ → Exits → Exits
inside out next exits = record exits { to_break = out; to_continue = next }

-- a stretch with labels of its own
pub record WithLabels (A : List ℕ → Span) (pc pc' : ℕ) : Type 0 where
  pub labels : List ℕ
  pub is : A labels pc pc'

-- in the code of a function that gives a value or none, over the code of a cleanup
module _ (here : Listing) (CleanupAt : Cleanup → Span) (gives : Bool) where
  -- a line is put in force
  abbrev pub Line : ℕ → Span
  Line line = Plain here (effect.Line line)

  -- what is done where a block is left, and on to a label
  abbrev pub CleanupsAt : ℕ → List Cleanup → Span
  CleanupsAt line [] = Nothing
  CleanupsAt line (c ∷ cs) = Line line ▷ CleanupAt c ▷ CleanupsAt line cs

  abbrev pub ExitAt : ℕ → List Cleanup → ℕ → Span
  ExitAt line cs to = CleanupsAt line cs ▷ Jump here to

  -- a block: where nothing is done at its exits they are those of its body, else the cleanups stand at each
  abbrev pub BlockAt : ℕ → List Cleanup → (Exits → Span) → Exits → Span
  BlockAt line [] body exits = body exits
  BlockAt line (c ∷ cs) body exits =
      WithLabel λ break. WithLabel λ continue. WithLabel λ return. WithLabel λ out.
      body (record { to_break = break; to_continue = continue; to_return = return })
      ▷ ExitAt line (c ∷ cs) out
      ▷ Label here break ▷ ExitAt line (c ∷ cs) exits.to_break
      ▷ Label here continue ▷ ExitAt line (c ∷ cs) exits.to_continue
      ▷ Label here return ▷ ExitAt line (c ∷ cs) exits.to_return
      ▷ Label here out

  -- `do` begins with its body
  abbrev pub FirstAt : Bool → ℕ → Span
  FirstAt true inner = Jump here inner
  FirstAt false inner = Nothing

  -- the tests of a switch, whose number is on top; it is let go before the body
  abbrev pub TestsAt : List Value → List ℕ → List ℕ → ℕ → Span
  TestsAt (k ∷ ks) (place ∷ places) (l ∷ ls) default =
      WithLabel λ next. Plain here effect.Twice ▷ Equals here k ▷ Unless here next
      ▷ Plain here effect.Drop ▷ Jump here l ▷ Label here next ▷ TestsAt ks places ls default
  TestsAt (k ∷ ks) (place ∷ places) [] default = NoCode
  TestsAt _ _ ls default = Plain here effect.Drop ▷ Jump here default

  -- a label, where it stands here
  abbrev pub LabelIf : Bool → ℕ → Span
  LabelIf true l = Label here l
  LabelIf false l = Nothing

  -- the labels before the statement of a number in a switch's body, and those at the body's end
  abbrev pub LabelsAt : ℕ → List ℕ → List ℕ → Span
  LabelsAt i (place ∷ places) (l ∷ ls) = LabelIf (place == i) l ▷ LabelsAt i places ls
  LabelsAt i _ _ = Nothing

  abbrev pub LabelsAtEnd : ℕ → List ℕ → List ℕ → Span
  LabelsAtEnd i (place ∷ places) (l ∷ ls) = LabelIf (nat_le i place) l ▷ LabelsAtEnd i places ls
  LabelsAtEnd i _ _ = Nothing

  abbrev mutual
    pub StatementAt : Statement → Exits → Span
    StatementAt (Evaluate line e) exits = Line line ▷ ExpressionAt here e ▷ LetGo here (is_void e)
    StatementAt (Reset line a b) exits = Line line ▷ Plain here (effect.Reset a b)
    StatementAt (Return line []) exits = Line line ▷ StuckIf here gives ▷ Jump here exits.to_return
    StatementAt (Return line (e ∷ es)) exits =
        Line line ▷ StuckIf here (not gives) ▷ OperandAt here e ▷ Jump here exits.to_return
    StatementAt (Break line) exits = Line line ▷ Jump here exits.to_break
    StatementAt (Continue line) exits = Line line ▷ Jump here exits.to_continue
    StatementAt (If' line e p first q second) exits =
        WithLabel λ other. WithLabel λ out. Line line ▷ OperandAt here e ▷ Unless here other
        ▷ StatementsAt first exits ▷ Jump here out
        ▷ Label here other ▷ StatementsAt second exits ▷ Label here out
    StatementAt (Loop' line first e step q body) exits =
        WithLabel λ top. WithLabel λ inner. WithLabel λ next. WithLabel λ out. Line line ▷ FirstAt first inner
        ▷ Label here top ▷ One here instruction.Step ▷ OperandAt here e ▷ Unless here out
        ▷ Label here inner ▷ StatementsAt body (inside out next exits)
        ▷ Label here next ▷ Line line ▷ LetsGo here step ▷ Jump here top ▷ Label here out
    StatementAt (Switch' line e labels places other p body) exits =
        WithLabel λ out. WithLabel λ default. WithLabels λ ls. Line line ▷ OperandAt here e
        ▷ TestsAt labels places ls default
        ▷ CasesAt 0 (other ∷ places) (default ∷ ls) body (record exits { to_break = out }) ▷ Label here out
    StatementAt (Block' line p body cleanups) exits =
        Line line ▷ BlockAt line cleanups (StatementsAt body) exits

    -- one statement after another
    pub StatementsAt : {m : _} → Row_of-Statement m → Exits → Span
    StatementsAt end_of-Statement exits = Nothing
    StatementsAt (more_of-Statement s rest) exits = StatementAt s exits ▷ StatementsAt rest exits

    -- the body of a switch, from the statement of a number on, with the labels between
    pub CasesAt : {m : _} → ℕ → List ℕ → List ℕ → Row_of-Statement m → Exits → Span
    CasesAt i places ls end_of-Statement exits = LabelsAtEnd i places ls
    CasesAt i places ls (more_of-Statement s rest) exits =
        LabelsAt i places ls ▷ StatementAt s exits ▷ CasesAt (i + 1) places ls rest exits

  abbrev pub BodyAt : List Statement → Exits → Span
  BodyAt [] exits = Nothing
  BodyAt (s ∷ rest) exits = StatementAt s exits ▷ BodyAt rest exits

-- a function that is there, takes so many operands, and gives a value or none
pub record Takes (code : Code) (k operands : ℕ) (gives : Bool) : Type 0 where
  pub function : FunctionCode
  pub is : function_at code k ≡ Some function
  pub takes : arguments_of function ≡ operands
  pub result : is_some function.result ≡ gives

-- what is known of the code of the function of a number
abbrev pub listing : Code → ℕ → Listing
listing code k =
    record {
      instruction_at = λ place i. fetch code k place ≡ Some i;
      label_at = λ label place. label_at code k label ≡ Some place;
      constant_at = λ number v. slice_get code.constants number ≡ Some v;
      function_at = Takes code;
    }

-- no cleanup has code, since objects have none
abbrev pub CleanupAt : Cleanup → Span
CleanupAt c = NoCode

-- a function: its step, its body, and its return
abbrev pub FunctionAt : Listing → Function → ℕ → Span
FunctionAt here f nowhere =
    WithLabel λ return. One here instruction.Step
    ▷ BodyAt here CleanupAt (is_some f.result) f.body
    (record { to_break = nowhere; to_continue = nowhere; to_return = return })
    ▷ StuckIf here (is_some f.result) ▷ Label here return ▷ One here instruction.Return

-- a function without its body
abbrev pub without_body : Function → Function
without_body f = record f { body = [] }

-- the code of a function of a number; a `break` or `continue` out of the body leads nowhere
pub record CodeOf (code : Code) (k : ℕ) (f : Function) (c : FunctionCode) : Type 0 where
  pub head : head_of c ≡ without_body f
  pub nowhere : ℕ
  pub is_nowhere : label_at code k nowhere ≡ None
  pub end : ℕ
  pub is : FunctionAt (listing code k) f nowhere 0 end

-- where a function is there its code is there, and where none is there there is no code
abbrev pub Coded : Code → ℕ → Option Function → Option FunctionCode → Type 0
Coded code k None None = Unit {0}
Coded code k (Some f) (Some c) = CodeOf code k f c
Coded code k _ _ = ⊥

-- code stands for a program: its tables are the program's, and each function has its code
pub record Stands (p : Checked) (code : Code) : Type 0 where
  pub tables : program_of code ≡ record p { functions = [] }
  pub functions : (k : ℕ) → Coded code k (slice_get p.functions k) (function_at code k)
