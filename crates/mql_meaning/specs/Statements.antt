-- What statements do (MQL5 Reference, Language Basics, Operators: Compound, Expression, return, if-else,
-- switch, while, for, do-while, break, continue). A statement puts its line in force first.
use Rattle.std.specs.Prelude.{ℕ, zero, suc, ◌-◌, ◌==◌, Bool, List, [], ◌∷◌, take, drop}
use Rattle.mql_mean.specs.declared.value.Value.{Value}
use Rattle.mql_meaning.specs.declared.types.VarType.{VarType}
use Rattle.mql_meaning.specs.declared.tree.Class.{Class}
use Rattle.mql_meaning.specs.declared.tree.Cleanup.{Cleanup}
use Rattle.mql_meaning.specs.declared.tree.Cleanup.TheVariants as cleanup
use Rattle.mql_meaning.specs.declared.tree.Statement.{Statement, Evaluate, Reset, Return, Break, Continue, If', Loop', Switch', Block', Row_of-Statement, end_of-Statement, more_of-Statement}
use Rattle.mql_meaning.specs.Changes.{Exhausted, Stuck}
use Rattle.mql_meaning.specs.Runs.{Act, ◌>>=◌, ◌>>◌, pure, halt, change, spend, choose}
use Rattle.mql_meaning.specs.Places.{set_line, pointer_of, local_place, this_place, field_place}
use Rattle.mql_meaning.specs.Frames.{reset, global_place}
use Rattle.mql_meaning.specs.Operands.{Operand, Val, At}
use Rattle.mql_meaning.specs.Natives.{void_value}
use Rattle.mql_meaning.specs.Dispatch.{status, equals_operand}
use Rattle.mql_meaning.specs.Expressions.{Call, evaluates, operand_of, test_of, let_go, destroys}

-- how a statement leads on: to the next one, out of the loop or switch, to the loop's next turn, or back to
-- the caller with what `return` gives, the 0 of `int` where it gives nothing
pub data Flow : Type 0 where
  Next : Flow
  Broke : Flow
  Continued : Flow
  Gave : (x : Operand) → Flow

-- after a statement, after a loop's body, and after a switch's body
abbrev pub on_next : Flow → Act Flow → Act Flow
on_next Next part = part
on_next Broke part = pure Broke
on_next Continued part = pure Continued
on_next (Gave x) part = pure (Gave x)

abbrev pub on_turn : Flow → Act Flow → Act Flow
on_turn Next again = again
on_turn Broke again = pure Next
on_turn Continued again = again
on_turn (Gave x) again = pure (Gave x)

abbrev pub after_switch : Flow → Flow
after_switch Next = Next
after_switch Broke = Next
after_switch Continued = Continued
after_switch (Gave x) = Gave x

-- a line is in force
abbrev pub at_line : ℕ → Act Flow → Act Flow
at_line line part = change (set_line line) >>= λ _. part

-- a loop's body, and what leads to its next turn: the loop's line is in force again, and its step is done
abbrev pub round : ℕ → Act (Unit {0}) → Act Flow → Act Flow → Act Flow
round line step body again = do
  f ← body
  on_turn f (change (set_line line) >>= λ _. step >>= λ _. again)

-- a loop of at most so many turns: each spends a step, makes its test, and then its body
abbrev pub turns : ℕ → ℕ → Act Bool → Act (Unit {0}) → Act Flow → Act Flow
turns zero line test step body n w = spend (halt Exhausted) n w
turns (suc t) line test step body n w =
    spend (test >>= λ b. choose b (round line step body (turns t line test step body)) (pure Next)) n w

-- a loop; the first turn of `do` spends no step and has no test
abbrev pub loops : ℕ → ℕ → Bool → Act Bool → Act (Unit {0}) → Act Flow → Act Flow
loops fuel line first test step body =
    choose first (round line step body (turns fuel line test step body)) (turns fuel line test step body)

-- over the classes, and what a call does
module _ (classes : List Class) (call : Call) where
  -- an automatic object ends, if it lives
  abbrev pub ends_object : Value → Act (Unit {0})
  ends_object v = do
    state ← change (status v)
    choose (state == 2) (destroys classes call v) (pure tt)

  -- what is done where a block is left
  abbrev pub cleans : Cleanup → Act (Unit {0})
  cleans (cleanup.Local l) = do
    p ← change (local_place l)
    v ← change (pointer_of p)
    ends_object v
  cleans (cleanup.Global g) = change (pointer_of (global_place g)) >>= ends_object
  cleans (cleanup.Field i) = do
    p ← change this_place
    v ← change (pointer_of (field_place i p))
    ends_object v
  cleans (cleanup.Parent k) = do
    p ← change this_place
    call k (At p ∷ [])
    pure tt

  -- one after another, at the block's line
  abbrev pub closes : ℕ → List Cleanup → Act (Unit {0})
  closes line [] = pure tt
  closes line (c ∷ cs) = change (set_line line) >>= λ _. cleans c >>= λ _. closes line cs

  -- the place in a switch's body where a value leads: that of the first label that equals it, else that of
  -- `default`
  abbrev pub leads : Operand → List Value → List ℕ → ℕ → Act ℕ
  leads x (k ∷ ks) (at ∷ ats) other =
      change (equals_operand x k) >>= λ b. choose b (pure at) (leads x ks ats other)
  leads x _ _ other = pure other

  -- with at most so many turns of each loop, in a function with these locals that gives a value or none
  module _ (fuel : ℕ) (locals : List VarType) (gives : Bool) where
    abbrev mutual
      pub does : Statement → Act Flow
      does (Evaluate line e) = at_line line (evaluates classes call e >>= λ _. pure Next)
      does (Reset line a b) =
          at_line line (change (reset classes a (take (b - a) (drop a locals))) >>= λ _. pure Next)
      does (Return line []) = at_line line (choose gives (halt Stuck) (pure (Gave (Val void_value))))
      does (Return line (e ∷ es)) =
          at_line line (choose gives (operand_of classes call e >>= λ x. pure (Gave x)) (halt Stuck))
      does (Break line) = at_line line (pure Broke)
      does (Continue line) = at_line line (pure Continued)
      does (If' line e p first q second) =
          at_line line (test_of classes call e >>= λ b. choose b (does_row first) (does_row second))
      does (Loop' line first e step q body) =
          at_line line
          (loops fuel line first (test_of classes call e) (let_go classes call step) (does_row body))
      does (Switch' line e labels places other p body) = at_line line (do
        x ← operand_of classes call e
        k ← leads x labels places other
        f ← does_from k body
        pure (after_switch f))
      does (Block' line p body cleanups) = at_line line (do
        f ← does_row body
        closes line cleanups
        pure f)

      pub does_row : {m : _} → Row_of-Statement m → Act Flow
      does_row end_of-Statement = pure Next
      does_row (more_of-Statement s rest) = does s >>= λ f. on_next f (does_row rest)

      -- from a place on
      pub does_from : {m : _} → ℕ → Row_of-Statement m → Act Flow
      does_from k end_of-Statement = pure Next
      does_from zero (more_of-Statement s rest) = does s >>= λ f. on_next f (does_row rest)
      does_from (suc k) (more_of-Statement s rest) = does_from k rest

    -- one statement after another
    abbrev pub does_all : List Statement → Act Flow
    does_all [] = pure Next
    does_all (s ∷ rest) = does s >>= λ f. on_next f (does_all rest)
