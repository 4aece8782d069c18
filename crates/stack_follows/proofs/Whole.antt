-- Code that stands for a program gives exactly what it means.
use Rattle.std.proofs.Common.{◌≡◌, ℕ, ℤ, zero, suc, Bool, true, false, List, [], ◌∷◌, Option, Some, None, slice_get, refl, sym, ap, ◌∙◌, subst, arith}
use Rattle.std.specs.Prelude.{is_some, nat_lt, length}
use Rattle.mql_mean.specs.declared.error.ErrorKind.TheVariants.{StackOverflow}
use Rattle.mql_meaning.specs.declared.store.Store.{Store}
use Rattle.mql_mean.specs.declared.value.Value.{Value}
use Rattle.mql_meaning.specs.declared.tree.Checked.{Checked}
use Rattle.mql_meaning.specs.declared.tree.Class.{Class}
use Rattle.mql_meaning.specs.declared.tree.Entry.{Entry}
use Rattle.mql_meaning.specs.declared.tree.Entry.TheVariants as entry
use Rattle.mql_meaning.specs.declared.tree.Function.{Function}
use Rattle.mql_meaning.specs.Changes.{Ended, Returned, Exhausted, after, must}
use Rattle.mql_meaning.specs.Runs.{World, Res, Go, End, Act, bind, ◌>>=◌, halt, change, spend}
use Rattle.mql_meaning.specs.Operands.{Operand, Val, At}
use Rattle.mql_meaning.specs.Frames.{most_frames, enter_by, enter}
use Rattle.mql_meaning.specs.Expressions.{Call}
use Rattle.mql_meaning.specs.Means.{runs_body, call_of, event, event_arguments, first, runs, Outcome, outcome, meaning, means}
use Rattle.stack_code.specs.declared.code.Code.{Code}
use Rattle.stack_code.specs.declared.code.FunctionCode.{FunctionCode}
use Rattle.stack_code.specs.Machine.{Back, Next, On, Halt, land, function_at, locals_of, starts, starts_at, goes_back, program_of, advance, advances, Comes, begins, Gives}
use Rattle.stack_follows.specs.Stands.{CleanupAt, CodeOf, Coded, Stands, without_body}
use Rattle.stack_follows.specs.Follows.{Follows}
use Rattle.stack_follows.proofs.Steps.{Does, stays, then_does, halt_does, change_does, same_change, spend_does, spent_does}
use Rattle.stack_follows.proofs.Expressions.{gives_in, CallDoes}
use Rattle.stack_follows.proofs.Statements.{CleanupsDo, body_does, given_does}

-- no code stands for a cleanup
no_cleanups : (code : Code) (k d : ℕ) (call : Call) (backs : List Back) → CleanupsDo code k CleanupAt d call backs
no_cleanups code k d call backs c pc pc' ops at = absurd at

-- what a call looks at of a function is not its body
same_enter_by : (b : Bool) (classes : List Class) (f : Function) (xs : List Operand) → enter_by b classes (without_body f) xs ≡ enter_by b classes f xs
same_enter_by true classes f [] = refl
same_enter_by true classes f (Val v ∷ xs) = refl
same_enter_by true classes f (At p ∷ xs) = refl
same_enter_by false classes f xs = refl

same_enter : (classes : List Class) (f : Function) (xs : List Operand) (store : Store) → enter classes (without_body f) xs store ≡ enter classes f xs store
same_enter classes f xs store = ap (λ g. after (must (nat_lt (length store.frames) most_frames) StackOverflow store) (λ _. g)) (same_enter_by (is_some f.class) classes f xs)

-- a call begins as its code does
module _ (code : Code) (functions : List Function) (stands : (k : ℕ) → Coded code k (slice_get functions k) (function_at code k)) where
  starts_does : (k d : ℕ) (xs ops : List Operand) (backs : List Back) (fo : Option Function) (co : Option FunctionCode) (body : Function → Act Value) → function_at code k ≡ co → Coded code k fo co
      → ((f : Function) (c : FunctionCode) → function_at code k ≡ Some c → CodeOf code k f c → Does code d (On k 0 ops backs) (spend (body f)) (λ v. goes_back backs (gives_in (function_at code k)) v ops))
      → Does code d (starts code.classes co k xs ops backs) (runs_body code.classes fo body xs) (λ v. goes_back backs (gives_in (function_at code k)) v ops)
  unfolding change
  starts_does k d xs ops backs None None body e at does = halt_does (λ n w. stays refl)
  starts_does k d xs ops backs (Some f) None body e at does = absurd at
  starts_does k d xs ops backs None (Some c) body e at does = absurd at
  starts_does k d xs ops backs (Some f) (Some c) body e at does =
      then_does (same_change (same_enter code.classes f xs) (change_does (enter code.classes (without_body f) xs) (λ n w. stays (ap (λ h. land (change (enter code.classes h xs) n w) (λ _. On k 0 ops backs)) at.head)))) (λ _. does f c e at)

  -- each call's code does what the call does
  calls_do : (d : ℕ) → CallDoes code d (call_of code.classes functions d)
  calls_do zero k xs ops backs =
      starts_does k zero xs ops backs (slice_get functions k) (function_at code k) (λ f. halt Exhausted) refl (stands k) (λ f c e s. spent_does _ s.is.is.first)
  calls_do (suc d) k xs ops backs =
      starts_does k (suc d) xs ops backs (slice_get functions k) (function_at code k) _ refl (stands k) (λ f c e s.
      spend_does s.is.is.first (then_does
      (body_does code k CleanupAt backs (is_some f.result) (call_of code.classes functions d) d (calls_do d) (no_cleanups code k d (call_of code.classes functions d) backs) f.locals
      (ap locals_of e ∙ ap (λ (h : Function). h.locals) s.head) f.body _ s.is.is.rest.first)
      (λ flow. given_does code k CleanupAt backs (is_some f.result) s.nowhere s.is.is.rest.mid ops (is_some f.result) flow refl e (ap (λ (h : Function). is_some h.result) s.head) s.is_nowhere s.is.is.rest.rest.first s.is.is.rest.rest.rest.first s.is.is.rest.rest.rest.rest)))

-- a run has one end
halts : (code : Code) (j : ℕ) (e : Ended) (n : ℕ) (w : World) → advances code j (Halt e n w) ≡ Halt e n w
halts code zero e n w = refl
halts code (suc j) e n w = halts code j e n w

abbrev end_of : Outcome → Next → Outcome
end_of d (On k place ops backs n w) = d
end_of d (Halt e n w) = record { ended = e; left = n; world = w }

one_end : (code : Code) (j i : ℕ) (x : Next) (o p : Outcome) → advances code j x ≡ Halt o.ended o.left o.world → advances code i x ≡ Halt p.ended p.left p.world → o ≡ p
one_end code zero i x o p e f = ap (end_of o) (sym (ap (advances code i) e ∙ halts code i o.ended o.left o.world) ∙ f)
one_end code (suc j) zero x o p e f = ap (end_of o) (sym e ∙ ap (advances code (suc j)) f ∙ halts code (suc j) p.ended p.left p.world)
one_end code (suc j) (suc i) x o p e f = one_end code j i (advance code x) o p e f

-- the beginnings of an event and its function
same_first : (p : Checked) (e : Entry) → first (record p { functions = [] }) e ≡ first p e
same_first p entry.Start = refl
same_first p entry.Init = refl
same_first p entry.Tick = refl
same_first p entry.Trade = refl
same_first p entry.Tester = refl
same_first p entry.Deinit = refl
same_first p entry.Stop = refl

same_event : (p : Checked) (e : Entry) → event (record p { functions = [] }) e ≡ event p e
same_event p entry.Start = refl
same_event p entry.Init = refl
same_event p entry.Tick = refl
same_event p entry.Trade = refl
same_event p entry.Tester = refl
same_event p entry.Deinit = refl
same_event p entry.Stop = refl

of_result : (code : Code) (x : Next) (r : Res Value) → Comes code x (land r (λ v. Halt (Returned v))) → Comes code x (Halt (outcome r).ended (outcome r).left (outcome r).world)
of_result code x (Go v n w) c = c
of_result code x (End e n w) c = c

event_does : (p : Checked) (code : Code) → Stands p code → (n : ℕ) (w : World) (k : Option ℕ) (xs : List Operand) → Comes code (starts_at code k xs n w) (land (runs p k xs n w) (λ v. Halt (Returned v)))
event_does p code s n w None xs = stays refl
event_does p code s n w (Some k) xs =
    subst (λ cs. Comes code (starts code.classes (function_at code k) k xs [] [] n w) (land (call_of cs p.functions n k xs n w) (λ v. Halt (Returned v)))) (ap (λ (q : Checked). q.classes) s.tables)
    ((calls_do code p.functions s.functions n k xs [] []).runs n w (omega arith)).comes

begun : (p : Checked) (code : Code) (e : Entry) (arg : ℤ) (n : ℕ) (w : World) → Stands p code → begins code e arg n w ≡ land (change (first p e) n w) (λ _. starts_at code (event p e) (event_arguments e arg))
begun p code e arg n w s =
    ap (λ f. land (change f n w) (λ _. starts_at code (event (program_of code) e) (event_arguments e arg))) (ap (λ q. first q e) s.tables ∙ same_first p e)
    ∙ ap (λ k. land (change (first p e) n w) (λ _. starts_at code k (event_arguments e arg))) (ap (λ q. event q e) s.tables ∙ same_event p e)

first_comes : (p : Checked) (code : Code) → Stands p code → (k : Option ℕ) (xs : List Operand) (r : Res (Unit {0})) → Comes code (land r (λ _. starts_at code k xs)) (land (bind r (λ _. runs p k xs)) (λ v. Halt (Returned v)))
first_comes p code s k xs (Go a n w) = event_does p code s n w k xs
first_comes p code s k xs (End e n w) = stays refl

means_comes : (p : Checked) (code : Code) → Stands p code → (e : Entry) (arg : ℤ) (n : ℕ) (w : World) → Gives code e arg n w (means p e arg n w)
unfolding ◌>>=◌
means_comes p code s e arg n w =
    of_result code _ (meaning p e arg n w)
    (subst (λ x. Comes code x (land (meaning p e arg n w) (λ v. Halt (Returned v)))) (sym (begun p code e arg n w s)) (first_comes p code s (event p e) (event_arguments e arg) (change (first p e) n w)))

pub follows : (p : Checked) (code : Code) → Stands p code → Follows p code
follows p code s e arg n w o =
    (λ g. one_end code (means_comes p code s e arg n w).instructions g.instructions (begins code e arg n w) (means p e arg n w) o (means_comes p code s e arg n w).is g.is, λ q. subst (Gives code e arg n w) q (means_comes p code s e arg n w))
