-- The code of functions, as it is written.
use Rattle.std.proofs.Common.{◌≡◌, ℕ, zero, suc, ◌+◌, ◌<◌, ◌≤◌, is_some, Bool, List, [], ◌∷◌, ◌++◌, length, take, get_or, Option, Some, None, Result, refl, sym, ap, ◌∙◌, subst, arith}
use Rattle.std.specs.Prelude.{slice_get, OnOk}
use Rattle.std.proofs.lemmas.List.{take_more}
use Rattle.mql_mean.specs.declared.value.Value.{Value}
use Rattle.mql_meaning.specs.Changes.{then_some}
use Rattle.mql_meaning.specs.declared.tree.Function.{Function}
use Rattle.mql_meaning.specs.declared.tree.Statement.{Statement}
use Rattle.stack_code.specs.declared.code.FunctionCode.{FunctionCode}
use Rattle.stack_code.specs.declared.code.Instruction.TheVariants as instruction
use Rattle.stack_code.specs.declared.code.Label.{Label}
use Rattle.stack_code.specs.Machine.{place_of}
use Rattle.stack_emission.specs.declared.draft.Draft.{Draft}
use Rattle.stack_emission.specs.declared.functions.Functions.{Functions}
use Rattle.stack_emission.specs.Draft.{listing_in, Emits, Adds, NewLabel, SetLabel, ◌then◌, one, label, stuck_if}
use Rattle.stack_emission.specs.Statements.{statements}
use Rattle.stack_emission.specs.Functions.{nowhere, outermost, whole_body, placed_at, placed, finished, listing_of, Written, AddsFunction, EachWritten, AllWritten}
use Rattle.stack_emission.proofs.Kept.{Kept, Stays, then_stays, with_stays, one_stays, label_stays, stuck_stays}
use Rattle.stack_emission.proofs.StatementRows.{statements_stay}
use Rattle.stack_emission.proofs.Writes.{form, new_unplaced, still_form, still_added, then_added, then_placed, then_labelled, adds}
use Rattle.stack_emission.proofs.Emits.{on_ok}

-- a whole body
pub body_emits : {E : Type 0} (r : Result (Unit {0}) E) (gives : Bool) (body : List Statement) (l : ℕ) (d d1 d2 d3 d4 d5 d6 : Draft) → NewLabel l d d1 → Adds instruction.Step d1 d2 → Emits (statements gives body (outermost l)) d2 d3 → Emits (stuck_if gives) d3 d4 → SetLabel l d4 d5 → OnOk r (Adds instruction.Return d5 d6) → OnOk r (Emits (whole_body gives body) d d6)
body_emits r gives body l d d1 d2 d3 d4 d5 d6 nl step b g here h =
    let waits = still_form (stuck_if gives) l d3 d4 g (still_form (statements gives body (outermost l)) l d2 d3 b (still_added instruction.Step l d1 d2 step (new_unplaced l d d1 nl))) in
    let n = length d.labels in
    on_ok r
    (λ last.
    then_labelled n l _ d d1 d6 (omega arith) nl λ from le1.
    then_added n instruction.Step _ d1 d2 d6 le1 step λ le2.
    form n (statements gives body (outermost l)) _ d2 d3 d6 (statements_stay gives body (outermost l)) le2 b λ le3.
    form n (stuck_if gives) _ d3 d4 d6 (stuck_stays gives) le3 g λ le4.
    then_placed n l _ d4 d5 d6 le4 waits from here λ le5.
    adds n instruction.Return d5 d6 last)
    h

pub body_stays : (gives : Bool) (body : List Statement) → Stays (whole_body gives body)
body_stays gives body =
    with_stays (λ return. one instruction.Step then statements gives body (outermost return) then stuck_if gives then label return then one instruction.Return)
    (λ return.
    then_stays (one instruction.Step) (statements gives body (outermost return) then stuck_if gives then label return then one instruction.Return) (one_stays _)
    (then_stays (statements gives body (outermost return)) (stuck_if gives then label return then one instruction.Return) (statements_stay gives body (outermost return))
    (then_stays (stuck_if gives) (label return then one instruction.Return) (stuck_stays gives)
    (then_stays (label return) (one instruction.Return) (label_stays return) (one_stays _)))))

-- labels of finished code
placed_more : (os : List (Option ℕ)) (o : Option ℕ) → placed (os ++ o ∷ []) ≡ placed os ++ placed_at o ∷ []
placed_more [] o = refl
placed_more (p ∷ os) o = ap (λ ls. placed_at p ∷ ls) (placed_more os o)

pub placed_step : (os : List (Option ℕ)) (i : ℕ) (d : Option ℕ) (ls ls' : List Label) (l : Label) → i < length os → ls ≡ placed (take i os) → l ≡ placed_at (get_or os i d) → ls' ≡ ls ++ l ∷ [] → ls' ≡ placed (take (i + 1) os)
placed_step os i d ls ls' l lt e p f = f ∙ ap (λ ls. ls ++ l ∷ []) e ∙ ap (λ l. placed (take i os) ++ l ∷ []) p ∙ sym (placed_more (take i os) (get_or os i d)) ∙ ap placed (sym (take_more os i d lt))

pub label_placed : (os : List (Option ℕ)) (l place : ℕ) → slice_get os l ≡ Some (Some place) → then_some (slice_get (placed os) l) place_of ≡ Some place
label_placed [] l place e = absurd (subst (λ (o : Option (Option ℕ)). elim o as (λ _. Type 0) [ None ↦ Unit {0} | Some x ↦ ⊥ ]) e (tt {0}))
label_placed (o ∷ os) zero place e = ap (λ x. elim x as (λ _. Option ℕ) [ None ↦ None | Some y ↦ place_of (placed_at y) ]) e
label_placed (o ∷ os) (suc l) place e = label_placed os l place e

pub placed_length : (os : List (Option ℕ)) → length (placed os) ≡ length os
placed_length [] = refl
placed_length (o ∷ os) = ap suc (placed_length os)

-- a function was added
finished_kept : (fs : List Function) (d : Draft) (f : Function) → Kept (listing_in fs d) (listing_of fs d.constants (finished f d.labels d.instructions))
finished_kept fs d f = record {
  instructions = λ place i h. h;
  labels = λ l place h. label_placed d.labels l place h;
  constants = λ number v h. h;
  functions = λ k operands gives h. h;
}

-- what a function begins with
abbrev pub no_draft : List Value → Draft
no_draft constants = record { constants = constants; instructions = []; labels = [] }

pub function_added : (f : Function) (old : Functions) (gives : Bool) (d : Draft) (c : FunctionCode) (codes : List FunctionCode) → gives ≡ is_some f.result → Emits (whole_body gives f.body) (no_draft old.constants) d → length d.labels ≤ nowhere → c ≡ finished f d.labels d.instructions → codes ≡ old.functions ++ c ∷ [] → AddsFunction f old (record { constants = d.constants; functions = codes })
function_added f old gives d c codes g b few e codes_are = record {
  constants = b.grown.constants;
  code = c;
  functions = codes_are;
  written = λ fs. record {
    labels = d.labels;
    instructions = d.instructions;
    finished = e;
    few = few;
    is = subst (λ g. whole_body g f.body fs (listing_of fs d.constants c) 0 (length d.instructions)) g
        (subst (λ c. whole_body gives f.body fs (listing_of fs d.constants c) 0 (length d.instructions)) (sym e)
        (body_stays gives f.body fs (listing_in fs d) (listing_of fs d.constants (finished f d.labels d.instructions)) (finished_kept fs d f) 0 (length d.instructions) (b.is fs)));
  };
}

-- one more function
written_later : (fs : List Function) (old new : List Value) (f : Function) (c : FunctionCode) → ((k : ℕ) (v : Value) → slice_get old k ≡ Some v → slice_get new k ≡ Some v) → Written fs old f c → Written fs new f c
written_later fs old new f c keep w = record {
  labels = w.labels;
  instructions = w.instructions;
  finished = w.finished;
  few = w.few;
  is = body_stays (is_some f.result) f.body fs (listing_of fs old c) (listing_of fs new c) (record { instructions = λ place i h. h; labels = λ l place h. h; constants = keep; functions = λ k operands gives h. h }) 0 (length w.instructions) w.is;
}

each_later : (fs : List Function) (old new : List Value) (gs : List Function) (cs : List FunctionCode) → ((k : ℕ) (v : Value) → slice_get old k ≡ Some v → slice_get new k ≡ Some v) → EachWritten fs old gs cs → EachWritten fs new gs cs
each_later fs old new [] [] keep h = tt
each_later fs old new (g ∷ gs) (c ∷ cs) keep h = (written_later fs old new g c keep h.0, each_later fs old new gs cs keep h.1)
each_later fs old new [] (c ∷ cs) keep h = absurd h
each_later fs old new (g ∷ gs) [] keep h = absurd h

each_snoc : (fs : List Function) (constants : List Value) (gs : List Function) (cs : List FunctionCode) (f : Function) (c : FunctionCode) → EachWritten fs constants gs cs → Written fs constants f c → EachWritten fs constants (gs ++ f ∷ []) (cs ++ c ∷ [])
each_snoc fs constants [] [] f c h w = (w, tt)
each_snoc fs constants (g ∷ gs) (k ∷ cs) f c h w = (h.0, each_snoc fs constants gs cs f c h.1 w)
each_snoc fs constants [] (k ∷ cs) f c h w = absurd h
each_snoc fs constants (g ∷ gs) [] f c h w = absurd h

pub one_more : (gs : List Function) (f : Function) (old new : Functions) → AllWritten gs old → AddsFunction f old new → AllWritten (gs ++ f ∷ []) new
one_more gs f old new all a fs = subst (EachWritten fs new.constants (gs ++ f ∷ [])) (sym a.functions) (each_snoc fs new.constants gs old.functions f a.code (each_later fs old.constants new.constants gs old.functions a.constants (all fs)) (a.written fs))

take_long : {A : Type 0} (xs : List A) (i : ℕ) → length xs ≤ i → take i xs ≡ xs
take_long [] zero le = refl
take_long [] (suc i) le = refl
take_long (x ∷ xs) zero le = absurd (omega (arith, le))
take_long (x ∷ xs) (suc i) le = ap (λ ys. x ∷ ys) (take_long xs i (omega (arith, le)))

pub all_of : (gs : List Function) (i : ℕ) (w : Functions) → length gs ≤ i → AllWritten (take i gs) w → AllWritten gs w
all_of gs i w le h fs = subst (λ gs. EachWritten fs w.constants gs w.functions) (take_long gs i le) (h fs)
