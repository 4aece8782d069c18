-- A small program's code is valid: the definitions can be met.
use denote.Hole.Carrier.{out}
use Rattle.std.proofs.Common.{◌≡◌, ℕ, pos, zero, suc, ◌<◌, true, false, List, [], ◌∷◌, length, Some, None, refl, sym, subst, arith}
use Rattle.std.specs.Prelude.{slice_get, reverse}
use Rattle.fx8.specs.declared.int_kind.IntKind.TheVariants as kind
use Rattle.fx8.specs.Integers as Integers
use Rattle.mql_mean.specs.declared.value.Value.{out-Value}
use Rattle.mql_mean.specs.declared.value.Value.TheVariants as value
use Rattle.mql_meaning.specs.declared.operator.Operator.TheVariants as operator
use Rattle.mql_meaning.specs.declared.tree.Entry.{Entry}
use Rattle.mql_meaning.specs.declared.tree.Entry.TheVariants as entry
use Rattle.mql_meaning.specs.declared.types.Sort.TheVariants as sort
use Rattle.mql_meaning.specs.declared.types.VarType.{VarType}
use Rattle.mql_meaning.specs.Changes.{then_some}
use Rattle.mql_meaning.specs.Operators.{sort_of}
use Rattle.mql_meaning.specs.Means.{event}
use Rattle.mql_meaning.specs.Calls.{is_sound}
use Rattle.stack_code.specs.declared.code.Code.{Code}
use Rattle.stack_code.specs.declared.code.FunctionCode.{FunctionCode}
use Rattle.stack_code.specs.declared.code.Label.{Label}
use Rattle.stack_code.specs.declared.code.OperandType.{OperandType}
use Rattle.stack_code.specs.declared.code.Effect.TheVariants as effect
use Rattle.stack_code.specs.declared.code.Instruction.{Instruction}
use Rattle.stack_code.specs.declared.code.Instruction.TheVariants as instruction
use Rattle.stack_code.specs.Machine.{function_at, program_of}
use Rattle.stack_code.specs.Paced.{PacedFunction, PacedAt}
use Rattle.stack_validity.specs.Rules.{Kinds}
use Rattle.stack_validity.specs.Valid.{Below, int_type, EntryFits, Leaves, Labelled, Fine, TypedFunction, Typed, ValidFunction, Valid}
use Rattle.stack_validity.specs.Law.{NeverStuck}
use Rattle.stack_validity.proofs.Values.{some_same, none_some}
use Rattle.stack_validity.proofs.Whole.{never_stuck}

-- Start does nothing
abbrev start : FunctionCode
start = record {
  name = [];
  class = None;
  makes = false;
  lent = [];
  locals = [];
  result = None;
  labels = [];
  instructions = instruction.Step ∷ instruction.Return ∷ [];
}

-- OnTick: for(;;) i=3;
abbrev tick : FunctionCode
tick = record {
  name = [];
  class = None;
  makes = false;
  lent = [];
  locals = int_type ∷ [];
  result = None;
  labels = record { place = 0; operands = [] } ∷ [];
  instructions =
      instruction.Step ∷ instruction.Plain (effect.Constant 0) ∷ instruction.Plain (effect.Apply (operator.Local 0)) ∷ instruction.Plain effect.Write
      ∷ instruction.Jump 0 ∷ [];
}

abbrev code : Code
code = record {
  constants = value.Num kind.Int (pos 3) ∷ [];
  classes = [];
  globals = [];
  inputs = [];
  functions = start ∷ tick ∷ [];
  entries = record { start = Some 0; init = None; tick = Some 1; trade = None; tester = None; deinit = None; stop = None };
}

abbrev int_value : OperandType
int_value = record { of = int_type; place = false }

abbrev int_place : OperandType
int_place = record { of = int_type; place = true }

-- the kinds before each instruction
abbrev table : List (List (List OperandType))
table = ([] ∷ [] ∷ []) ∷ ([] ∷ [] ∷ (int_value ∷ []) ∷ (int_place ∷ int_value ∷ []) ∷ [] ∷ []) ∷ []

abbrev kinds : Kinds
kinds k place = then_some (slice_get table k) (λ ks. slice_get ks place)

three_in_range : is_sound (value.Num kind.Int (pos 3)) ≡ true
unfolding Integers.wrapped
three_in_range = refl

three_sort : sort_of (value.Num kind.Int (pos 3)) ≡ Some (sort.Number kind.Int)
unfolding out-Value denote.Hole.Carrier.out
three_sort = refl

start_fine : (place : ℕ) (ks : List OperandType) → kinds 0 place ≡ Some ks → Fine code kinds 0 start place ks
start_fine zero ks e = subst (Fine code kinds 0 start 0) (some_same e) (record { instruction = instruction.Step; there = refl; leads = refl })
start_fine (suc zero) ks e = subst (Fine code kinds 0 start 1) (some_same e) (record { instruction = instruction.Return; there = refl; leads = refl })
start_fine (suc (suc place)) ks e = absurd (none_some e)

start_known : (place : ℕ) (i : Instruction) → slice_get start.instructions place ≡ Some i → (ks : List OperandType) × (kinds 0 place ≡ Some ks)
start_known zero i e = ([], refl)
start_known (suc zero) i e = ([], refl)
start_known (suc (suc place)) i e = absurd (none_some e)

start_leaves : (place : ℕ) (i : Instruction) → slice_get start.instructions place ≡ Some i → Leaves i → suc place < length start.instructions → Labelled start (suc place)
start_leaves zero i e h lt = absurd (subst Leaves (sym (some_same e)) h)
start_leaves (suc zero) i e h lt = absurd (omega (arith, lt))
start_leaves (suc (suc place)) i e h lt = absurd (none_some e)

start_ends : (place : ℕ) (i : Instruction) → slice_get start.instructions place ≡ Some i → suc place ≡ length start.instructions → Leaves i
start_ends zero i e n = absurd (omega (arith, n))
start_ends (suc zero) i e n = subst Leaves (some_same e) (tt {0})
start_ends (suc (suc place)) i e n = absurd (none_some e)

start_typed : TypedFunction code kinds (λ k. 0) 0 start
start_typed = record { locals = λ l t e. absurd (none_some e); begins = refl; fine = start_fine }

start_valid : ValidFunction code kinds (λ k. 0) 0 start
start_valid = record {
  parameters = λ l lt. absurd (omega (arith, lt));
  result = λ t e. absurd (none_some e);
  labels = λ n l e. absurd (none_some e);
  known = start_known;
  leaves = start_leaves;
  ends = start_ends;
}

tick_fine : (place : ℕ) (ks : List OperandType) → kinds 1 place ≡ Some ks → Fine code kinds 1 tick place ks
tick_fine zero ks e = subst (Fine code kinds 1 tick 0) (some_same e) (record { instruction = instruction.Step; there = refl; leads = refl })
tick_fine (suc zero) ks e = subst (Fine code kinds 1 tick 1) (some_same e) (record {
  instruction = instruction.Plain (effect.Constant 0);
  there = refl;
  leads = record {
    after = int_value ∷ [];
    changes = record {
      kind = int_value;
      rule = record {
        value = value.Num kind.Int (pos 3);
        there = refl;
        in_range = three_in_range;
        sort = sort.Number kind.Int;
        is = three_sort;
        of = record { value = refl; sort = refl };
      };
      above = refl;
    };
    goes_on = refl;
  };
})
tick_fine (suc (suc zero)) ks e = subst (Fine code kinds 1 tick 2) (some_same e) (record {
  instruction = instruction.Plain (effect.Apply (operator.Local 0));
  there = refl;
  leads = record {
    after = int_place ∷ int_value ∷ [];
    changes = record { kind = int_place; rule = record { there = refl; place = refl }; above = refl };
    goes_on = refl;
  };
})
tick_fine (suc (suc (suc zero))) ks e = subst (Fine code kinds 1 tick 3) (some_same e) (record {
  instruction = instruction.Plain effect.Write;
  there = refl;
  leads = record { after = []; changes = (record { value = refl; place = record { place = refl; of = refl } }, refl); goes_on = refl };
})
tick_fine (suc (suc (suc (suc zero)))) ks e = subst (Fine code kinds 1 tick 4) (some_same e) (record {
  instruction = instruction.Jump 0;
  there = refl;
  leads = record { to = 0; there = refl; same = refl };
})
tick_fine (suc (suc (suc (suc (suc place))))) ks e = absurd (none_some e)

tick_known : (place : ℕ) (i : Instruction) → slice_get tick.instructions place ≡ Some i → (ks : List OperandType) × (kinds 1 place ≡ Some ks)
tick_known zero i e = ([], refl)
tick_known (suc zero) i e = ([], refl)
tick_known (suc (suc zero)) i e = (int_value ∷ [], refl)
tick_known (suc (suc (suc zero))) i e = (int_place ∷ int_value ∷ [], refl)
tick_known (suc (suc (suc (suc zero)))) i e = ([], refl)
tick_known (suc (suc (suc (suc (suc place))))) i e = absurd (none_some e)

tick_leaves : (place : ℕ) (i : Instruction) → slice_get tick.instructions place ≡ Some i → Leaves i → suc place < length tick.instructions → Labelled tick (suc place)
tick_leaves zero i e h lt = absurd (subst Leaves (sym (some_same e)) h)
tick_leaves (suc zero) i e h lt = absurd (subst Leaves (sym (some_same e)) h)
tick_leaves (suc (suc zero)) i e h lt = absurd (subst Leaves (sym (some_same e)) h)
tick_leaves (suc (suc (suc zero))) i e h lt = absurd (subst Leaves (sym (some_same e)) h)
tick_leaves (suc (suc (suc (suc place)))) i e h lt = absurd (omega (arith, lt))

tick_ends : (place : ℕ) (i : Instruction) → slice_get tick.instructions place ≡ Some i → suc place ≡ length tick.instructions → Leaves i
tick_ends zero i e n = absurd (omega (arith, n))
tick_ends (suc zero) i e n = absurd (omega (arith, n))
tick_ends (suc (suc zero)) i e n = absurd (omega (arith, n))
tick_ends (suc (suc (suc zero))) i e n = absurd (omega (arith, n))
tick_ends (suc (suc (suc (suc zero)))) i e n = subst Leaves (some_same e) (tt {0})
tick_ends (suc (suc (suc (suc (suc place))))) i e n = absurd (none_some e)

tick_locals : (l : ℕ) (t : VarType) → slice_get tick.locals l ≡ Some t → Below (λ k. 0) 0 t.base
tick_locals zero t e = subst (λ (t : VarType). Below (λ k. 0) 0 t.base) (some_same e) (tt {0})
tick_locals (suc l) t e = absurd (none_some e)

tick_labels : (n : ℕ) (l : Label) → slice_get tick.labels n ≡ Some l → kinds 1 l.place ≡ Some (reverse l.operands)
tick_labels zero l e = subst (λ (l : Label). kinds 1 l.place ≡ Some (reverse l.operands)) (some_same e) refl
tick_labels (suc n) l e = absurd (none_some e)

tick_typed : TypedFunction code kinds (λ k. 0) 1 tick
tick_typed = record { locals = tick_locals; begins = refl; fine = tick_fine }

tick_valid : ValidFunction code kinds (λ k. 0) 1 tick
tick_valid = record {
  parameters = λ l lt. absurd (omega (arith, lt));
  result = λ t e. absurd (none_some e);
  labels = tick_labels;
  known = tick_known;
  leaves = tick_leaves;
  ends = tick_ends;
}

functions_typed : (k : ℕ) (c : FunctionCode) → function_at code k ≡ Some c → TypedFunction code kinds (λ k. 0) k c
functions_typed zero c e = subst (TypedFunction code kinds (λ k. 0) 0) (some_same e) start_typed
functions_typed (suc zero) c e = subst (TypedFunction code kinds (λ k. 0) 1) (some_same e) tick_typed
functions_typed (suc (suc k)) c e = absurd (none_some e)

functions_valid : (k : ℕ) (c : FunctionCode) → function_at code k ≡ Some c → ValidFunction code kinds (λ k. 0) k c
functions_valid zero c e = subst (ValidFunction code kinds (λ k. 0) 0) (some_same e) start_valid
functions_valid (suc zero) c e = subst (ValidFunction code kinds (λ k. 0) 1) (some_same e) tick_valid
functions_valid (suc (suc k)) c e = absurd (none_some e)

start_entry : EntryFits code entry.Start 0
start_entry = record { function = start; there = refl; free = refl; takes = refl; gives = refl }

tick_entry : EntryFits code entry.Tick 1
tick_entry = record { function = tick; there = refl; free = refl; takes = refl; gives = refl }

entries_fit : (e : Entry) (k : ℕ) → event (program_of code) e ≡ Some k → EntryFits code e k
entries_fit entry.Start k is = subst (EntryFits code entry.Start) (some_same is) start_entry
entries_fit entry.Init k is = absurd (none_some is)
entries_fit entry.Tick k is = subst (EntryFits code entry.Tick) (some_same is) tick_entry
entries_fit entry.Trade k is = absurd (none_some is)
entries_fit entry.Tester k is = absurd (none_some is)
entries_fit entry.Deinit k is = absurd (none_some is)
entries_fit entry.Stop k is = absurd (none_some is)

start_jumps : (place : ℕ) → PacedAt start place
start_jumps zero to e le = absurd (none_some e)
start_jumps (suc zero) to e le = absurd (none_some e)
start_jumps (suc (suc place)) to e le = absurd (none_some e)

tick_jumps : (place : ℕ) → PacedAt tick place
tick_jumps zero to e le = absurd (none_some e)
tick_jumps (suc zero) to e le = absurd (none_some e)
tick_jumps (suc (suc zero)) to e le = absurd (none_some e)
tick_jumps (suc (suc (suc zero))) to e le = absurd (none_some e)
tick_jumps (suc (suc (suc (suc zero)))) to e le = subst (λ to. slice_get tick.instructions to ≡ Some instruction.Step) (some_same e) refl
tick_jumps (suc (suc (suc (suc (suc place))))) to e le = absurd (none_some e)

paced : (k : ℕ) (c : FunctionCode) → function_at code k ≡ Some c → PacedFunction c
paced zero c e = subst PacedFunction (some_same e) (record { begins = refl; jumps = start_jumps })
paced (suc zero) c e = subst PacedFunction (some_same e) (record { begins = refl; jumps = tick_jumps })
paced (suc (suc k)) c e = absurd (none_some e)

typed : Typed code kinds
typed = record {
  nesting = record { height = λ k. 0; fields = λ k i t e. absurd (none_some e) };
  globals = λ g t e. absurd (none_some e);
  inputs = λ i input e. absurd (none_some e);
  entries = entries_fit;
  functions = functions_typed;
}

valid : Valid code kinds
unfolding typed
valid = record {
  typed = typed;
  parents = record { rank = λ k. 0; parents = λ k j c e. absurd (none_some e) };
  methods = λ k j c p e. absurd (none_some e);
  functions = functions_valid;
  paced = record { functions = paced };
}

sample_never_stuck : NeverStuck code
sample_never_stuck = never_stuck code kinds typed
