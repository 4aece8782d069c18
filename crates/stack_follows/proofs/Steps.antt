-- What the machine does in a few instructions, and how its runs follow one another.
use denote.Hole.Carrier.{out}
use Rattle.std.proofs.Common.{◌≡◌, ℕ, zero, suc, ◌+◌, ◌≤◌, Bool, true, false, List, [], ◌∷◌, Option, Some, slice_get, refl, sym, ap, ◌∙◌, subst, arith}
use Rattle.fx8.specs.declared.int_kind.IntKind.{IntKind}
use Rattle.mql_mean.specs.declared.value.Value.{Value, out-Value}
use Rattle.mql_mean.specs.declared.value.Value.TheVariants as value
use Rattle.mql_mean.specs.declared.value.Value.TheOpen.{Value-F}
use Rattle.mql_meaning.specs.declared.store.Store.{Store}
use Rattle.mql_meaning.specs.Changes.{Ended, Stuck, Out, Done, Over, Change, after, give, the, must, fail, either}
use Rattle.mql_meaning.specs.Runs.{World, world, Res, Go, End, Act, bind, ◌>>=◌, ◌>>◌, pure, halt, in_run, change, spend, choose}
use Rattle.mql_meaning.specs.Places.{set_line}
use Rattle.mql_meaning.specs.declared.types.VarType.{VarType}
use Rattle.mql_meaning.specs.declared.types.Sort.{Sort}
use Rattle.mql_meaning.specs.declared.types.Sort.TheVariants as sort
use Rattle.mql_mean.specs.declared.error.ErrorKind.TheVariants.{CellsExhausted}
use Rattle.mql_meaning.specs.Operands.{Operand, Val, text, literal_at, literal}
use Rattle.mql_meaning.specs.Operators.{sort_at, sort_of}
use Rattle.mql_meaning.specs.Natives.{void_value}
use Rattle.mql_meaning.specs.Dispatch.{condition}
use Rattle.mql_meaning.specs.Expressions.{must_give}
use Rattle.stack_code.specs.declared.code.Code.{Code}
use Rattle.stack_code.specs.declared.code.Effect.{Effect}
use Rattle.stack_code.specs.declared.code.Effect.TheVariants as effect
use Rattle.stack_code.specs.declared.code.Instruction.{Instruction}
use Rattle.stack_code.specs.declared.code.Instruction.TheVariants as instruction
use Rattle.stack_code.specs.Machine.{Back, Next, On, Halt, land, beside, then_upon, constant, does_effect, function_at, locals_of, label_at, goes, branch, act, advance, advances, Comes}
use Rattle.stack_follows.specs.Spans.{One, Plain, Jump, Unless, Push, StuckIf, LetGo}
use Rattle.stack_follows.specs.Expressions.{is_short, if_short}
use Rattle.stack_follows.specs.Stands.{listing}

-- no more steps are left than so many
abbrev pub Within : {A : Type 0} → ℕ → Res A → Type 0
Within b (Go a n w) = n ≤ b
Within b (End e n w) = Unit {0}

-- what is given has a property, where something is given
abbrev pub Given : {A : Type 0} → (A → Type 0) → Res A → Type 0
Given P (Go a n w) = P a
Given P (End e n w) = Unit {0}

-- the machine comes from a state to where a result leads, with no more steps left than so many
pub record Runs {A : Type 0} (code : Code) (n : ℕ) (x : Next) (r : Res A) (to : A → ℕ → World → Next) : Type 0 where
  pub comes : Comes code x (land r to)
  pub within : Within n r

-- within so many steps, the machine does from a state what a part of the program does, and comes to where that leads
pub record Does {A : Type 0} (code : Code) (d : ℕ) (from : ℕ → World → Next) (part : Act A) (to : A → ℕ → World → Next) : Type 0 where
  pub runs : (n : ℕ) (w : World) → n ≤ d → Runs code n (from n w) (part n w) to

-- whatever a part gives has a property
pub record Yields {A : Type 0} (P : A → Type 0) (part : Act A) : Type 0 where
  pub is : (n : ℕ) (w : World) → Given P (part n w)

-- a part leaves no more steps than it finds
pub record Spares {A : Type 0} (part : Act A) : Type 0 where
  pub is : (n : ℕ) (w : World) → Within n (part n w)

pub glue : (code : Code) (j : ℕ) (x y z : Next) → advances code j x ≡ y → Comes code y z → Comes code x z
glue code zero x y z e c = subst (λ t. Comes code t z) (sym e) c
glue code (suc j) x y z e c = let r = glue code j (advance code x) y z e c in record { instructions = suc r.instructions; is = r.is }

pub then_comes : {code : Code} {x y z : Next} → Comes code x y → Comes code y z → Comes code x z
then_comes {code} {x} {y} {z} c e = glue code c.instructions x y z c.is e

-- no instruction, and one
pub stays : {code : Code} {x y : Next} → x ≡ y → Comes code x y
stays e = record { instructions = 0; is = e }

pub goes_on : {code : Code} {x y : Next} → advance code x ≡ y → Comes code x y
goes_on e = record { instructions = 1; is = e }

pub within_more : {A : Type 0} (j n : ℕ) (r : Res A) → j ≤ n → Within j r → Within n r
within_more j n (Go a i w) le h = omega (arith, le, h)
within_more j n (End e i w) le h = tt

pub within_change : {A : Type 0} (n : ℕ) (w : World) (o : Out A) → Within n (in_run o n w)
within_change n w (Done a store) = omega arith
within_change n w (Over e store) = tt

-- where a change was made, more is done with what it gave
pub land_after : {A B : Type 0} (n : ℕ) (w : World) (o : Out A) (g : A → B) (to : B → ℕ → World → Next) → land (in_run (after o (λ a. give (g a))) n w) to ≡ land (in_run o n w) (λ a. to (g a))
land_after n w (Done a store) g to = refl
land_after n w (Over e store) g to = refl

-- one part and then another, with a fact on what the first gives
then_result : {A B : Type 0} (P : A → Type 0) (code : Code) (n : ℕ) (x : Next) (r : Res A) (mid : A → ℕ → World → Next) (g : A → Act B) (to : B → ℕ → World → Next) → Given P r → Runs code n x r mid → ((a : A) (j : ℕ) (w : World) → P a → j ≤ n → Runs code j (mid a j w) (g a j w) to) → Runs code n x (bind r g) to
then_result P code n x (Go a j w) mid g to h s k =
    let t = k a j w h s.within in
    record { comes = then_comes s.comes t.comes; within = within_more j n (g a j w) s.within t.within }
then_result P code n x (End e j w) mid g to h s k = record { comes = s.comes; within = tt }

pub anything : {A : Type 0} (r : Res A) → Given (λ _. Unit {0}) r
anything (Go a n w) = tt
anything (End e n w) = tt

pub then_does_with : {A B : Type 0} {P : A → Type 0} {code : Code} {d : ℕ} {from : ℕ → World → Next} {p : Act A} {mid : A → ℕ → World → Next} {g : A → Act B} {to : B → ℕ → World → Next} → Yields P p → Does code d from p mid → ((a : A) → P a → Does code d (mid a) (g a) to) → Does code d from (p >>= g) to
unfolding ◌>>=◌
then_does_with {P} {code} {d} {from} {p} {mid} {g} {to} y s k = record {
  runs = λ n w le. then_result P code n (from n w) (p n w) mid g to (y.is n w) (s.runs n w le) (λ a j w h lj. (k a h).runs j w (omega (arith, le, lj)));
}

pub then_does : {A B : Type 0} {code : Code} {d : ℕ} {from : ℕ → World → Next} {p : Act A} {mid : A → ℕ → World → Next} {g : A → Act B} {to : B → ℕ → World → Next} → Does code d from p mid → ((a : A) → Does code d (mid a) (g a) to) → Does code d from (p >>= g) to
then_does {p} s k = then_does_with {P = λ _. Unit {0}} (record { is = λ n w. anything (p n w) }) s (λ a h. k a)

pub next_does : {A B : Type 0} {code : Code} {d : ℕ} {from : ℕ → World → Next} {p : Act A} {mid : A → ℕ → World → Next} {q : Act B} {to : B → ℕ → World → Next} → Does code d from p mid → ((a : A) → Does code d (mid a) q to) → Does code d from (p >> q) to
unfolding ◌>>◌
next_does {code} {d} {from} {p} {mid} {q} {to} s k = record {
  runs = λ n w le. then_result (λ _. Unit {0}) code n (from n w) (p n w) mid (λ _. q) to (anything (p n w)) (s.runs n w le) (λ a j w h lj. (k a).runs j w (omega (arith, le, lj)));
}

-- instructions before a part, and at its end
pub from_does : {A : Type 0} {code : Code} {d : ℕ} {from later : ℕ → World → Next} {p : Act A} {to : A → ℕ → World → Next} → ((n : ℕ) (w : World) → Comes code (from n w) (later n w)) → Does code d later p to → Does code d from p to
from_does c s = record { runs = λ n w le. let t = s.runs n w le in record { comes = then_comes (c n w) t.comes; within = t.within } }

pub pure_does : {A : Type 0} {code : Code} {d : ℕ} {from : ℕ → World → Next} {to : A → ℕ → World → Next} (a : A) → ((n : ℕ) (w : World) → Comes code (from n w) (to a n w)) → Does code d from (pure a) to
unfolding pure
pure_does a c = record { runs = λ n w le. record { comes = c n w; within = omega arith } }

pub halt_does : {A : Type 0} {code : Code} {d : ℕ} {from : ℕ → World → Next} {e : Ended} {to : A → ℕ → World → Next} → ((n : ℕ) (w : World) → Comes code (from n w) (Halt e n w)) → Does code d from (halt e) to
unfolding halt
halt_does c = record { runs = λ n w le. record { comes = c n w; within = tt } }

pub choose_does : {A : Type 0} {code : Code} {d : ℕ} {yes other : ℕ → World → Next} {p q : Act A} {to : A → ℕ → World → Next} (b : Bool) → Does code d yes p to → Does code d other q to → Does code d (λ n w. branch b (yes n w) (other n w)) (choose b p q) to
unfolding choose
choose_does true s t = record { runs = s.runs }
choose_does false s t = record { runs = t.runs }

pub to_does : {A : Type 0} {code : Code} {d : ℕ} {from : ℕ → World → Next} {p : Act A} {mid to : A → ℕ → World → Next} → ((a : A) (n : ℕ) (w : World) → Comes code (mid a n w) (to a n w)) → Does code d from p mid → Does code d from p to
to_does {code} {d} {from} {p} {mid} {to} c s = record { runs = λ n w le. by_result n (from n w) (p n w) (s.runs n w le) }
  where
    by_result : (n : ℕ) (x : Next) (r : Res _) → Runs code n x r mid → Runs code n x r to
    by_result n x (Go a j w) s = record { comes = then_comes s.comes (c a j w); within = s.within }
    by_result n x (End e j w) s = record { comes = s.comes; within = tt }

-- within fewer steps
pub fewer : {A : Type 0} {code : Code} {d : ℕ} {from : ℕ → World → Next} {p : Act A} {to : A → ℕ → World → Next} → Does code (suc d) from p to → Does code d from p to
fewer s = record { runs = λ n w le. s.runs n w (omega (arith, le)) }

-- a change whose machine state lands where the change leads
pub change_does : {A : Type 0} {code : Code} {d : ℕ} {from : ℕ → World → Next} {to : A → ℕ → World → Next} (f : Change A) → ((n : ℕ) (w : World) → Comes code (from n w) (land (in_run (f w.store) n w) to)) → Does code d from (change f) to
unfolding change
change_does f c = record { runs = λ n w le. record { comes = c n w; within = within_change n w (f w.store) } }

same_run : {A : Type 0} (n : ℕ) (store : Store) (w : World) (o : Out A) → in_run o n (world store w.calls w.answers) ≡ in_run o n w
same_run n store w (Done a s) = refl
same_run n store w (Over e s) = refl

-- a change and then another, in one
pub after_does : {A B : Type 0} {code : Code} {d : ℕ} {from : ℕ → World → Next} {mid : A → ℕ → World → Next} {to : B → ℕ → World → Next} (f : Change A) (g : A → Change B) → Does code d from (change f) mid → ((a : A) → Does code d (mid a) (change (g a)) to) → Does code d from (change (λ store. after (f store) g)) to
unfolding change
after_does {code} {d} {from} {mid} {to} f g s k = record {
  runs = λ n w le. by_change n w le (f w.store) (s.runs n w le);
}
  where
    by_change : (n : ℕ) (w : World) → n ≤ d → (o : Out _) → Runs code n (from n w) (in_run o n w) mid → Runs code n (from n w) (in_run (after o g) n w) to
    by_change n w le (Done a store) s =
        let t = subst (λ r. Runs code n (mid a n (world store w.calls w.answers)) r to) (same_run n store w (g a store)) ((k a).runs n (world store w.calls w.answers) (omega (arith, le))) in
        record { comes = then_comes s.comes t.comes; within = t.within }
    by_change n w le (Over e store) s = record { comes = s.comes; within = tt }

pub give_does : {A : Type 0} {code : Code} {d : ℕ} {from : ℕ → World → Next} {to : A → ℕ → World → Next} (a : A) → ((n : ℕ) (w : World) → Comes code (from n w) (to a n w)) → Does code d from (change (give a)) to
give_does a c = change_does (give a) c

-- what a change gives at once is known
pub known_does : {A B : Type 0} {code : Code} {d : ℕ} {from : ℕ → World → Next} {to : B → ℕ → World → Next} (a : A) (g : A → Act B) → Does code d from (g a) to → Does code d from (change (give a) >>= g) to
unfolding change ◌>>=◌
known_does a g s = record { runs = s.runs }

-- a change that is the same at each store
pub same_change : {A : Type 0} {code : Code} {d : ℕ} {from : ℕ → World → Next} {f g : Change A} {to : A → ℕ → World → Next} → ((store : Store) → f store ≡ g store) → Does code d from (change f) to → Does code d from (change g) to
unfolding change
same_change {code} {from} {to} e s = record { runs = λ n w le. subst (λ o. Runs code n (from n w) (in_run o n w) to) (e w.store) (s.runs n w le) }

-- an operand upon others, unless its expression gives none
abbrev pub unless_void : Bool → Operand → List Operand → List Operand
unless_void true x ops = ops
unless_void false x ops = x ∷ ops

-- constants that are given as they stand: numbers
abbrev is_text : Option Sort → Type 0
is_text (Some sort.String) = Unit {0}
is_text _ = ⊥

number_at : (f : Value-F Value) (v : Value) (kind : IntKind) (store : Store) → sort_at f ≡ Some (sort.Number kind) → literal_at f v store ≡ Done v store
number_at (Value-F.Str s) v kind store e = absurd (subst is_text e (tt {0}))
number_at _ v kind store e = refl

pub number_literal : (v : Value) (kind : IntKind) → sort_of v ≡ Some (sort.Number kind) → (store : Store) → literal v store ≡ Done v store
number_literal v kind e store = number_at (out-Value v) v kind store e

zero_literal : (store : Store) → literal void_value store ≡ Done void_value store
unfolding out-Value out
zero_literal store = refl

pub text_literal : (s : List ℕ) (store : Store) → literal (value.Str s) store ≡ text s store
unfolding out-Value out
text_literal s store = refl

text_short : (s : List ℕ) (store : Store) → is_short s ≡ true → text s store ≡ Done (value.Str s) store
text_short s store e = ap (λ b. after (must b CellsExhausted store) (λ _. give (value.Str s))) e

pub text_long : (s : List ℕ) (store : Store) → is_short s ≡ false → text s store ≡ fail CellsExhausted store
text_long s store e = ap (λ b. after (must b CellsExhausted store) (λ _. give (value.Str s))) e

pub short_literal : (s : List ℕ) (store : Store) → is_short s ≡ true → literal (value.Str s) store ≡ Done (value.Str s) store
short_literal s store e = text_literal s store ∙ text_short s store e

pub if_short_literal : (s : List ℕ) (store : Store) → literal (value.Str (if_short s)) store ≡ Done (value.Str (if_short s)) store
if_short_literal s store = by_length (is_short s) refl
  where
    by_length : (b : Bool) → is_short s ≡ b → literal (value.Str (either b s [])) store ≡ Done (value.Str (either b s [])) store
    by_length true e = short_literal s store e
    by_length false e = short_literal [] store refl

pushed : (ops : List Operand) (o : Out Value) → after (after o (λ u. give (Val u))) (λ x. give (x ∷ ops)) ≡ after o (λ u. give (Val u ∷ ops))
pushed ops (Done u s) = refl
pushed ops (Over e s) = refl

constant_is : (code : Code) (locals : List VarType) (number : ℕ) (v : Value) (ops : List Operand) (store : Store) → slice_get code.constants number ≡ Some v → does_effect code locals (effect.Constant number) ops store ≡ after (literal v store) (λ u. give (Val u ∷ ops))
constant_is code locals number v ops store e = ap (λ o. after (the o store) (λ v. then_upon (constant v) ops)) e ∙ pushed ops (literal v store)

module _ {code : Code} {k : ℕ} {backs : List Back} where
  pub one_comes : {i : Instruction} {pc pc' : ℕ} {ops : List Operand} {n : ℕ} {w : World} {y : Next} → One (listing code k) i pc pc' → act code (Some i) k pc ops backs n w ≡ y → Comes code (On k pc ops backs n w) y
  one_comes {pc} {ops} {n} {w} at e = goes_on (ap (λ o. act code o k pc ops backs n w) at.at ∙ e)

  -- an effect that changes the store, and one that does not
  pub effect_does : {A : Type 0} {d : ℕ} {e : Effect} {pc pc' : ℕ} {ops : List Operand} (f : Change A) (g : A → List Operand) → One (listing code k) (instruction.Plain e) pc pc' → ((store : Store) → does_effect code (locals_of (function_at code k)) e ops store ≡ after (f store) (λ a. give (g a))) → Does code d (On k pc ops backs) (change f) (λ a. On k pc' (g a) backs)
  unfolding change
  effect_does {pc} f g at e = change_does f (λ n w. one_comes at
      (ap (λ o. land (in_run o n w) (λ ops. On k (pc + 1) ops backs)) (e w.store)
      ∙ land_after n w (f w.store) g (λ ops. On k (pc + 1) ops backs)
      ∙ ap (λ q. land (in_run (f w.store) n w) (λ a. On k q (g a) backs)) at.next))

  pub effect_comes : {e : Effect} {pc pc' : ℕ} {ops new : List Operand} → One (listing code k) (instruction.Plain e) pc pc' → ((store : Store) → does_effect code (locals_of (function_at code k)) e ops store ≡ Done new store) → (n : ℕ) (w : World) → Comes code (On k pc ops backs n w) (On k pc' new backs n w)
  unfolding change
  effect_comes {pc} {new} at e n w = one_comes at
      (ap (λ o. land (in_run o n w) (λ ops. On k (pc + 1) ops backs)) (e w.store) ∙ ap (λ q. On k q new backs n w) at.next)

  pub jump_comes : {l pc pc' : ℕ} {ops : List Operand} → Jump (listing code k) l pc pc' → (n : ℕ) (w : World) → Comes code (On k pc ops backs n w) (goes (label_at code k l) k ops backs n w)
  jump_comes at n w = one_comes at refl

  pub jump_to : {l pc pc' place : ℕ} {ops : List Operand} → Jump (listing code k) l pc pc' → label_at code k l ≡ Some place → (n : ℕ) (w : World) → Comes code (On k pc ops backs n w) (On k place ops backs n w)
  jump_to {ops} at e n w = one_comes at (ap (λ o. goes o k ops backs n w) e)

  -- another place
  pub moves : {pc pc' : ℕ} {ops : List Operand} → pc ≡ pc' → (n : ℕ) (w : World) → Comes code (On k pc ops backs n w) (On k pc' ops backs n w)
  moves {ops} e n w = stays (ap (λ q. On k q ops backs n w) e)

  pub line_does : {d line pc pc' : ℕ} {ops : List Operand} → Plain (listing code k) (effect.Line line) pc pc' → Does code d (On k pc ops backs) (change (set_line line)) (λ _. On k pc' ops backs)
  line_does {line} {ops} at = effect_does (set_line line) (λ _. ops) at (λ store. refl)

  -- a condition is tested, and leads on or to a label
  pub unless_does : {d l pc pc' place : ℕ} {x : Operand} {ops : List Operand} → Unless (listing code k) l pc pc' → label_at code k l ≡ Some place → Does code d (On k pc (x ∷ ops) backs) (change (condition x)) (λ b n w. branch b (On k pc' ops backs n w) (On k place ops backs n w))
  unfolding change
  unless_does {l} {pc} {place} {x} {ops} at e = change_does (condition x) (λ n w. one_comes at
      (land_after n w (condition x w.store) (λ b. beside b ops) _
      ∙ ap (λ o. land (in_run (condition x w.store) n w) (λ b n w. branch b (On k (pc + 1) ops backs n w) (goes o k ops backs n w))) e
      ∙ ap (λ q. land (in_run (condition x w.store) n w) (λ b n w. branch b (On k q ops backs n w) (On k place ops backs n w))) at.next))

  -- a step, where one is left
  pub spend_does : {A : Type 0} {d pc pc' : ℕ} {ops : List Operand} {p : Act A} {to : A → ℕ → World → Next} → One (listing code k) instruction.Step pc pc' → Does code d (On k pc' ops backs) p to → Does code (suc d) (On k pc ops backs) (spend p) to
  unfolding spend
  spend_does {A} {d} {pc} {pc'} {ops} {p} {to} at s = record { runs = by_steps }
    where
      by_steps : (n : ℕ) (w : World) → n ≤ suc d → Runs code n (On k pc ops backs n w) (spend p n w) to
      by_steps zero w le = record { comes = one_comes at refl; within = tt }
      by_steps (suc n) w le =
          let t = s.runs n w (omega (arith, le)) in
          record { comes = then_comes (one_comes at (ap (λ q. On k q ops backs n w) at.next)) t.comes; within = within_more n (suc n) (p n w) (omega arith) t.within }

  pub spent_does : {A : Type 0} {pc pc' : ℕ} {ops : List Operand} {to : A → ℕ → World → Next} (p : Act A) → One (listing code k) instruction.Step pc pc' → Does code 0 (On k pc ops backs) (spend p) to
  unfolding spend
  spent_does {A} {pc} {ops} {to} p at = record { runs = by_steps }
    where
      by_steps : (n : ℕ) (w : World) → n ≤ 0 → Runs code n (On k pc ops backs n w) (spend p n w) to
      by_steps zero w le = record { comes = one_comes at refl; within = tt }
      by_steps (suc n) w le = absurd (omega (arith, le))

  -- a constant is pushed, and one that is known
  pub push_does : {d : ℕ} {v : Value} {pc pc' : ℕ} {ops : List Operand} → Push (listing code k) v pc pc' → Does code d (On k pc ops backs) (change (literal v)) (λ u. On k pc' (Val u ∷ ops) backs)
  push_does {v} {ops} at = effect_does (literal v) (λ u. Val u ∷ ops) at.one (λ store. constant_is code (locals_of (function_at code k)) at.number v ops store at.is)

  pub push_comes : {v : Value} {pc pc' : ℕ} {ops : List Operand} → Push (listing code k) v pc pc' → ((store : Store) → literal v store ≡ Done v store) → (n : ℕ) (w : World) → Comes code (On k pc ops backs n w) (On k pc' (Val v ∷ ops) backs n w)
  push_comes {v} {ops} at e = effect_comes at.one (λ store. constant_is code (locals_of (function_at code k)) at.number v ops store at.is ∙ ap (λ o. after o (λ u. give (Val u ∷ ops))) (e store))

  -- a constant that is too long ends the run
  pub push_fails : {A : Type 0} {d : ℕ} {v : Value} {pc pc' : ℕ} {ops : List Operand} {to : A → ℕ → World → Next} → Push (listing code k) v pc pc' → ((store : Store) → literal v store ≡ fail CellsExhausted store) → Does code d (On k pc ops backs) (change (λ store. fail CellsExhausted store)) to
  unfolding change
  push_fails {v} {pc} {ops} at e = change_does (λ store. fail CellsExhausted store) (λ n w. one_comes at.one
      (ap (λ o. land (in_run o n w) (λ ops. On k (pc + 1) ops backs)) (constant_is code (locals_of (function_at code k)) at.number v ops w.store at.is ∙ ap (λ o. after o (λ u. give (Val u ∷ ops))) (e w.store))))

  -- where the source means nothing the machine is stuck
  pub stuck_comes : {pc pc' : ℕ} {ops : List Operand} → StuckIf (listing code k) true pc pc' → (n : ℕ) (w : World) → Comes code (On k pc ops backs n w) (Halt Stuck n w)
  unfolding change
  stuck_comes at n w = then_comes (push_comes at.first zero_literal n w) (one_comes at.rest refl)

  pub stuck_does : {A : Type 0} {d pc pc' : ℕ} {ops : List Operand} {to : A → ℕ → World → Next} → StuckIf (listing code k) true pc pc' → Does code d (On k pc ops backs) (halt Stuck) to
  stuck_does at = halt_does (stuck_comes at)

  -- an operand in its place, and one that is let go
  pub must_give_does : {d pc pc' : ℕ} {ops : List Operand} (void : Bool) (x : Operand) → StuckIf (listing code k) void pc pc' → Does code d (On k pc (unless_void void x ops) backs) (must_give void x) (λ x. On k pc' (x ∷ ops) backs)
  must_give_does true x at = stuck_does at
  must_give_does false x at = pure_does _ (moves at)

  pub let_go_comes : {pc pc' : ℕ} {ops : List Operand} (void : Bool) (x : Operand) → LetGo (listing code k) void pc pc' → (n : ℕ) (w : World) → Comes code (On k pc (unless_void void x ops) backs n w) (On k pc' ops backs n w)
  let_go_comes true x at = moves at
  let_go_comes false x at = effect_comes at (λ store. refl)
