-- Stretches of code, by the places where they begin and end (own).
use Rattle.std.specs.Prelude.{◌≡◌, ℕ, ◌+◌, pos, Bool, true, false}
use Rattle.fx8.specs.declared.int_kind.IntKind.TheVariants as kind
use Rattle.mql_mean.specs.declared.value.Value.{Value}
use Rattle.mql_mean.specs.declared.value.Value.TheVariants as value
use Rattle.mql_meaning.specs.declared.operator.Operator.TheVariants as operator
use Rattle.stack_code.specs.declared.code.Effect.{Effect}
use Rattle.stack_code.specs.declared.code.Effect.TheVariants as effect
use Rattle.stack_code.specs.declared.code.Instruction.{Instruction}
use Rattle.stack_code.specs.declared.code.Instruction.TheVariants as instruction

-- what is known of the code of a function: which instruction stands at a place, at which place a label stands,
-- which value a constant has, and which function takes so many operands and gives a value or none
pub record Listing : Type 1 where
  pub instruction_at : ℕ → Instruction → Type 0
  pub label_at : ℕ → ℕ → Type 0
  pub constant_at : ℕ → Value → Type 0
  pub function_at : ℕ → ℕ → Bool → Type 0

-- what stands from one place to before another
abbrev pub Span : Type 1
Span = ℕ → ℕ → Type 0

infixr 40 ◌▷◌
-- one stretch and then another
pub record ◌▷◌ (A B : Span) (pc pc' : ℕ) : Type 0 where
  pub mid : ℕ
  pub first : A pc mid
  pub rest : B mid pc'

-- no instruction
abbrev pub Nothing : Span
Nothing pc pc' = pc ≡ pc'

-- what has no code
abbrev pub NoCode : Span
NoCode pc pc' = ⊥

-- a stretch with a label of its own
pub record WithLabel (A : ℕ → Span) (pc pc' : ℕ) : Type 0 where
  pub label : ℕ
  pub is : A label pc pc'

-- in the code of a function
module _ (here : Listing) where
  -- one instruction
  pub record One (i : Instruction) (pc pc' : ℕ) : Type 0 where
    pub at : here.instruction_at pc i
    pub next : pc + 1 ≡ pc'

  abbrev pub Plain : Effect → Span
  Plain e = One (instruction.Plain e)

  abbrev pub Jump : ℕ → Span
  Jump label = One (instruction.Jump label)

  abbrev pub Unless : ℕ → Span
  Unless label = One (instruction.Unless label)

  -- a label
  pub record Label (label pc pc' : ℕ) : Type 0 where
    pub at : here.label_at label pc'
    pub same : pc ≡ pc'

  -- a constant is pushed
  pub record Push (v : Value) (pc pc' : ℕ) : Type 0 where
    pub number : ℕ
    pub is : here.constant_at number v
    pub one : Plain (effect.Constant number) pc pc'

  -- where the source means nothing the machine is stuck: it reads at a value
  abbrev pub StuckIf : Bool → Span
  StuckIf true = Push (value.Num kind.Int (pos 0)) ▷ Plain (effect.Apply operator.Read)
  StuckIf false = Nothing

  -- the operand of an expression is let go, where it gives one
  abbrev pub LetGo : Bool → Span
  LetGo true = Nothing
  LetGo false = Plain effect.Drop
