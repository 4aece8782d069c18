-- Each part of a program is a talk.
use Rattle.std.proofs.Common.{◌≡◌, ℕ, zero, suc, List, [], ◌∷◌, ◌++◌, refl, ap, ◌∙◌, Bool, true, false, Option, Some, None}
use Rattle.std.specs.Prelude.{is_some, slice_get}
use Rattle.mql_mean.specs.declared.value.Value.{Value}
use Rattle.mql_mean.specs.declared.host.HostCall.{HostCall}
use Rattle.mql_mean.specs.Answer.{Answer, Replied, Refused}
use Rattle.natives.specs.declared.native.Native.{Native}
use Rattle.natives.specs.declared.native.Native.TheVariants as natives
use Rattle.mql_meaning.specs.declared.cell.Cell.{Cell}
use Rattle.mql_meaning.specs.declared.place.Place.{Place}
use Rattle.mql_meaning.specs.declared.store.Store.{Store}
use Rattle.mql_meaning.specs.declared.types.VarType.{VarType}
use Rattle.mql_meaning.specs.declared.tree.Checked.{Checked}
use Rattle.mql_meaning.specs.declared.tree.Class.{Class}
use Rattle.mql_meaning.specs.declared.tree.Cleanup.{Cleanup}
use Rattle.mql_meaning.specs.declared.tree.Cleanup.TheVariants as cleanup
use Rattle.mql_meaning.specs.declared.tree.Function.{Function}
use Rattle.mql_meaning.specs.declared.tree.Expression.{Expression, Constant, Apply', Choose', Call', Native', Make', Delete', After', Named', Row_of-Expression, end_of-Expression, more_of-Expression}
use Rattle.mql_meaning.specs.declared.tree.Statement.{Statement, Evaluate, Reset, Return, Break, Continue, If', Loop', Switch', Block', Row_of-Statement, end_of-Statement, more_of-Statement}
use Rattle.mql_meaning.specs.Changes.{Ended, Failed, Exhausted, Stopped, Stuck, Out, Done, Over as Left, Change, line_of, top}
use Rattle.mql_meaning.specs.Runs.{world, Act, bind, ◌>>=◌, ◌>>◌, pure, halt, in_run, change, spend, choose}
use Rattle.mql_meaning.specs.Operands.{Operand, Val, At}
use Rattle.mql_meaning.specs.Natives.{NativeDone}
use Rattle.mql_meaning.specs.References.{put_at}
use Rattle.mql_meaning.specs.Calls.{fits, replied, ask, tells, asks, calls_native, runs_native, does_native}
use Rattle.mql_meaning.specs.Expressions.{Call, is_void, must_give, destroys, deletes_object, deletes, evaluates, operands, chooses, picks, lets_go, operand_of, test_of, let_go}
use Rattle.mql_meaning.specs.Statements.{Flow, Next, Broke, Continued, Gave, on_next, on_turn, at_line, round, turns, loops, ends_object, cleans, closes, leads, does, does_row, does_from, does_all}
use Rattle.mql_meaning.specs.Means.{given, runs_body, call_of, event, event_arguments, runs, outcome}
use Rattle.mql_meaning.specs.Talk.{Talk, Gives, Over, Asks, hear, MeansTalks}

-- a part of a program is a talk, for every number of steps and store
record IsAct {A : Type 0} (f : Act A) : Type 0 where
  talk : ℕ → Store → Talk A
  is : (n : ℕ) (store : Store) (calls : List HostCall) (answers : List Answer) → f n (world store calls answers) ≡ hear (talk n store) calls answers

-- one talk and then another
after : {A B : Type 0} → Talk A → (A → ℕ → Store → Talk B) → Talk B
after (Gives a n store) k = k a n store
after (Over e n store) k = Over e n store
after (Asks call n store onward) k = Asks call n store (λ answer. after (onward answer) k)

hear_after : {A B : Type 0} (t : Talk A) (g : A → Act B) (tg : (a : A) → IsAct (g a)) (calls : List HostCall) (answers : List Answer) → bind (hear t calls answers) g ≡ hear (after t (λ a. (tg a).talk)) calls answers
unfolding after
hear_after (Gives a n store) g tg calls answers = (tg a).is n store calls answers
hear_after (Over e n store) g tg calls answers = refl
hear_after (Asks call n store onward) g tg calls [] = refl
hear_after (Asks call n store onward) g tg calls (answer ∷ answers) = hear_after (onward answer) g tg (calls ++ call ∷ []) answers

bind_is : {A B : Type 0} {f : Act A} {g : A → Act B} → IsAct f → ((a : A) → IsAct (g a)) → IsAct (f >>= g)
unfolding ◌>>=◌
bind_is {g} tf tg = record {
  talk = λ n store. after (tf.talk n store) (λ a. (tg a).talk);
  is = λ n store calls answers. ap (λ r. bind r g) (tf.is n store calls answers) ∙ hear_after (tf.talk n store) g tg calls answers;
}

then_is : {A B : Type 0} {f : Act A} {g : Act B} → IsAct f → IsAct g → IsAct (f >> g)
unfolding ◌>>◌
then_is {g} tf tg = record {
  talk = λ n store. after (tf.talk n store) (λ a. tg.talk);
  is = λ n store calls answers. ap (λ r. bind r (λ _. g)) (tf.is n store calls answers) ∙ hear_after (tf.talk n store) (λ _. g) (λ _. tg) calls answers;
}

pure_is : {A : Type 0} (a : A) → IsAct (pure a)
unfolding pure
pure_is a = record { talk = λ n store. Gives a n store; is = λ n store calls answers. refl }

halt_is : {A : Type 0} (e : Ended) → IsAct {A = A} (halt e)
unfolding halt
halt_is e = record { talk = λ n store. Over e n store; is = λ n store calls answers. refl }

of_out : {A : Type 0} → Out A → ℕ → Talk A
of_out (Done a store) n = Gives a n store
of_out (Left e store) n = Over e n store

hear_out : {A : Type 0} (o : Out A) (n : ℕ) (store : Store) (calls : List HostCall) (answers : List Answer) → in_run o n (world store calls answers) ≡ hear (of_out o n) calls answers
unfolding of_out
hear_out (Done a store') n store calls answers = refl
hear_out (Left e store') n store calls answers = refl

change_is : {A : Type 0} (f : Change A) → IsAct (change f)
unfolding change
change_is f = record { talk = λ n store. of_out (f store) n; is = λ n store calls answers. hear_out (f store) n store calls answers }

spent : {A : Type 0} → (ℕ → Store → Talk A) → ℕ → Store → Talk A
spent t zero store = Over Exhausted zero store
spent t (suc n) store = t n store

hear_spent : {A : Type 0} (f : Act A) (tf : IsAct f) (n : ℕ) (store : Store) (calls : List HostCall) (answers : List Answer) → spend f n (world store calls answers) ≡ hear (spent tf.talk n store) calls answers
unfolding spend spent
hear_spent f tf zero store calls answers = refl
hear_spent f tf (suc n) store calls answers = tf.is n store calls answers

spend_is : {A : Type 0} {f : Act A} → IsAct f → IsAct (spend f)
spend_is {f} tf = record { talk = spent tf.talk; is = hear_spent f tf }

choose_is : {A : Type 0} (b : Bool) {f g : Act A} → IsAct f → IsAct g → IsAct (choose b f g)
unfolding choose
choose_is true tf tg = record { talk = tf.talk; is = tf.is }
choose_is false tf tg = record { talk = tg.talk; is = tg.is }

-- calls of the world
replied_is : (new : Option (List Cell)) (v : Value) (ps : List Place) (cs : List Cell) → IsAct (replied new v ps cs)
replied_is None v ps cs = halt_is Stopped
replied_is (Some new) v ps cs = bind_is (change_is (put_at ps cs new)) (λ _. pure_is v)

onward_of : Option Native → List Place → List Cell → ℕ → Store → Answer → Talk Value
onward_of f ps cs n store (Replied r) = (replied_is (fits f r cs) r.value ps cs).talk n store
onward_of f ps cs n store (Refused kind) = Over (Failed kind (line_of (top store))) n store

hear_answer : (f : Option Native) (c : HostCall) (ps : List Place) (cs : List Cell) (n : ℕ) (store : Store) (calls : List HostCall) (answers : List Answer) → ask f c ps cs n (world store calls answers) ≡ hear (Asks c n store (onward_of f ps cs n store)) calls answers
unfolding ask onward_of
hear_answer f c ps cs n store calls [] = refl
hear_answer f c ps cs n store calls (Replied r ∷ answers) = (replied_is (fits f r cs) r.value ps cs).is n store (calls ++ c ∷ []) answers
hear_answer f c ps cs n store calls (Refused kind ∷ answers) = refl

ask_is : (f : Option Native) (c : HostCall) (ps : List Place) (cs : List Cell) → IsAct (ask f c ps cs)
ask_is f c ps cs = record { talk = λ n store. Asks c n store (onward_of f ps cs n store); is = hear_answer f c ps cs }

tells_is : (b : Bool) → IsAct (tells b)
tells_is true = then_is (ask_is _ _ _ _) (pure_is tt)
tells_is false = pure_is tt

does_native_is : (ps : List Place) (cs : List Cell) (f : Change NativeDone) → IsAct (does_native ps cs f)
does_native_is ps cs f = bind_is (change_is f) (λ d. then_is (change_is (put_at ps cs d.outs)) (then_is (tells_is d.out_of_range) (pure_is d.value)))

runs_native_is : (f : Native) (xs : List Operand) → IsAct (runs_native f xs)
runs_native_is f xs = bind_is (change_is _) (λ cs. choose_is (asks f) (ask_is _ _ _ _) (does_native_is _ cs _))

calls_native_is : (f : Native) (xs : List Operand) → IsAct (calls_native f xs)
calls_native_is natives.GetPointer xs = change_is _
calls_native_is natives.CheckPointer xs = change_is _
calls_native_is f xs = runs_native_is f xs

must_give_is : (b : Bool) (x : Operand) → IsAct (must_give b x)
must_give_is true x = halt_is Stuck
must_give_is false x = pure_is x

-- where each call is a talk
module _ (classes : List Class) (call : Call) (call_is : (k : ℕ) (xs : List Operand) → IsAct (call k xs)) where
  destroys_is : (v : Value) → IsAct (destroys classes call v)
  destroys_is v = bind_is (change_is _) (λ k. bind_is (change_is _) (λ at. then_is (call_is k _) (change_is _)))

  deletes_object_is : (v : Value) (state : ℕ) → IsAct (deletes_object classes call v state)
  deletes_object_is v state = choose_is _ (bind_is (destroys_is v) (λ _. change_is _)) (change_is _)

  deletes_is : (v : Value) → IsAct (deletes classes call v)
  deletes_is v = bind_is (change_is _) (λ is_null. bind_is (change_is _) (λ state. choose_is is_null (pure_is tt) (deletes_object_is v state)))

  mutual
    evaluates_is : (e : Expression) → IsAct (evaluates classes call e)
    evaluates_is (Constant v) = bind_is (change_is _) (λ u. pure_is (Val u))
    evaluates_is (Apply' o p parts) = bind_is (operands_are parts) (λ xs. change_is _)
    evaluates_is (Choose' p parts) = chooses_is parts
    evaluates_is (Call' k gives p parts) = bind_is (operands_are parts) (λ xs. bind_is (change_is _) (λ f. bind_is (call_is f xs) (λ v. pure_is (Val v))))
    evaluates_is (Native' f p parts) = bind_is (operands_are parts) (λ xs. bind_is (calls_native_is f xs) (λ v. pure_is (Val v)))
    evaluates_is (Make' class k p parts) = bind_is (change_is _) (λ s. bind_is (change_is _) (λ at. bind_is (operands_are parts) (λ xs. then_is (call_is k _) (pure_is _))))
    evaluates_is (Delete' p parts) = bind_is (operands_are parts) (λ xs. bind_is (change_is _) (λ v. then_is (deletes_is v) (pure_is _)))
    evaluates_is (After' p before q last) = bind_is (lets_go_is before) (λ _. picks_is true last)
    evaluates_is (Named' texts labels prefix p parts) = bind_is (picks_is true parts) (λ x. change_is _)

    operands_are : {m : _} (es : Row_of-Expression m) → IsAct (operands classes call es)
    operands_are end_of-Expression = pure_is []
    operands_are (more_of-Expression e es) = bind_is (bind_is (evaluates_is e) (must_give_is (is_void e))) (λ x. bind_is (operands_are es) (λ xs. pure_is (x ∷ xs)))

    chooses_is : {m : _} (es : Row_of-Expression m) → IsAct (chooses classes call es)
    chooses_is end_of-Expression = halt_is Stuck
    chooses_is (more_of-Expression c es) = bind_is (bind_is (evaluates_is c) (must_give_is (is_void c))) (λ x. bind_is (change_is _) (λ b. picks_is b es))

    picks_is : {m : _} (b : Bool) (es : Row_of-Expression m) → IsAct (picks classes call b es)
    picks_is b end_of-Expression = halt_is Stuck
    picks_is true (more_of-Expression e es) = bind_is (evaluates_is e) (must_give_is (is_void e))
    picks_is false (more_of-Expression e es) = picks_is true es

    lets_go_is : {m : _} (es : Row_of-Expression m) → IsAct (lets_go classes call es)
    lets_go_is end_of-Expression = pure_is tt
    lets_go_is (more_of-Expression e es) = bind_is (evaluates_is e) (λ _. lets_go_is es)

  operand_is : (e : Expression) → IsAct (operand_of classes call e)
  operand_is e = bind_is (evaluates_is e) (must_give_is (is_void e))

  test_is : (e : Expression) → IsAct (test_of classes call e)
  test_is e = bind_is (operand_is e) (λ x. change_is _)

  let_go_is : (es : List Expression) → IsAct (let_go classes call es)
  let_go_is [] = pure_is tt
  let_go_is (e ∷ es) = bind_is (evaluates_is e) (λ _. let_go_is es)

  ends_object_is : (v : Value) → IsAct (ends_object classes call v)
  ends_object_is v = bind_is (change_is _) (λ state. choose_is _ (destroys_is v) (pure_is tt))

  cleans_is : (c : Cleanup) → IsAct (cleans classes call c)
  cleans_is (cleanup.Local l) = bind_is (change_is _) (λ p. bind_is (change_is _) ends_object_is)
  cleans_is (cleanup.Global g) = bind_is (change_is _) ends_object_is
  cleans_is (cleanup.Field i) = bind_is (change_is _) (λ p. bind_is (change_is _) ends_object_is)
  cleans_is (cleanup.Parent k) = bind_is (change_is _) (λ p. then_is (call_is k _) (pure_is tt))

  closes_is : (line : ℕ) (cs : List Cleanup) → IsAct (closes classes call line cs)
  closes_is line [] = pure_is tt
  closes_is line (c ∷ cs) = bind_is (change_is _) (λ _. bind_is (cleans_is c) (λ _. closes_is line cs))

  leads_is : (x : Operand) (ks : List Value) (ats : List ℕ) (other : ℕ) → IsAct (leads classes call x ks ats other)
  leads_is x [] ats other = pure_is other
  leads_is x (k ∷ ks) [] other = pure_is other
  leads_is x (k ∷ ks) (at ∷ ats) other = bind_is (change_is _) (λ b. choose_is b (pure_is at) (leads_is x ks ats other))

  line_is : (line : ℕ) {part : Act Flow} → IsAct part → IsAct (at_line line part)
  line_is line is = bind_is (change_is _) (λ _. is)

  next_is : (f : Flow) {part : Act Flow} → IsAct part → IsAct (on_next f part)
  next_is Next is = is
  next_is Broke is = pure_is Broke
  next_is Continued is = pure_is Continued
  next_is (Gave x) is = pure_is (Gave x)

  turn_is : (f : Flow) {again : Act Flow} → IsAct again → IsAct (on_turn f again)
  turn_is Next is = is
  turn_is Broke is = pure_is Next
  turn_is Continued is = is
  turn_is (Gave x) is = pure_is (Gave x)

  round_is : (line : ℕ) {step : Act (Unit {0})} {body again : Act Flow} → IsAct step → IsAct body → IsAct again → IsAct (round line step body again)
  round_is line s b a = bind_is b (λ f. turn_is f (bind_is (change_is _) (λ _. bind_is s (λ _. a))))

  turns_are : (t line : ℕ) {test : Act Bool} {step : Act (Unit {0})} {body : Act Flow} → IsAct test → IsAct step → IsAct body → IsAct (turns t line test step body)
  turns_are zero line c s b = spend_is (halt_is Exhausted)
  turns_are (suc t) line c s b = spend_is (bind_is c (λ go. choose_is go (round_is line s b (turns_are t line c s b)) (pure_is Next)))

  loops_are : (fuel line : ℕ) (first : Bool) {test : Act Bool} {step : Act (Unit {0})} {body : Act Flow} → IsAct test → IsAct step → IsAct body → IsAct (loops fuel line first test step body)
  loops_are fuel line first c s b = choose_is first (round_is line s b (turns_are fuel line c s b)) (turns_are fuel line c s b)

  module _ (fuel : ℕ) (locals : List VarType) (gives : Bool) where
    mutual
      does_is : (s : Statement) → IsAct (does classes call fuel locals gives s)
      does_is (Evaluate line e) = line_is line (bind_is (evaluates_is e) (λ _. pure_is Next))
      does_is (Reset line a b) = line_is line (bind_is (change_is _) (λ _. pure_is Next))
      does_is (Return line []) = line_is line (choose_is gives (halt_is Stuck) (pure_is _))
      does_is (Return line (e ∷ es)) = line_is line (choose_is gives (bind_is (operand_is e) (λ x. pure_is (Gave x))) (halt_is Stuck))
      does_is (Break line) = line_is line (pure_is Broke)
      does_is (Continue line) = line_is line (pure_is Continued)
      does_is (If' line e p first q second) = line_is line (bind_is (test_is e) (λ b. choose_is b (row_is first) (row_is second)))
      does_is (Loop' line first e step q body) = line_is line (loops_are fuel line first (test_is e) (let_go_is step) (row_is body))
      does_is (Switch' line e labels places other p body) = line_is line (bind_is (operand_is e) (λ x. bind_is (leads_is x labels places other) (λ k. bind_is (from_is k body) (λ f. pure_is _))))
      does_is (Block' line p body cleanups) = line_is line (bind_is (row_is body) (λ f. then_is (closes_is line cleanups) (pure_is f)))

      row_is : {m : _} (ss : Row_of-Statement m) → IsAct (does_row classes call fuel locals gives ss)
      row_is end_of-Statement = pure_is Next
      row_is (more_of-Statement s rest) = bind_is (does_is s) (λ f. next_is f (row_is rest))

      from_is : {m : _} (k : ℕ) (ss : Row_of-Statement m) → IsAct (does_from classes call fuel locals gives k ss)
      from_is k end_of-Statement = pure_is Next
      from_is zero (more_of-Statement s rest) = bind_is (does_is s) (λ f. next_is f (row_is rest))
      from_is (suc k) (more_of-Statement s rest) = from_is k rest

    all_is : (ss : List Statement) → IsAct (does_all classes call fuel locals gives ss)
    all_is [] = pure_is Next
    all_is (s ∷ rest) = bind_is (does_is s) (λ f. next_is f (all_is rest))

given_is : (gives : Bool) (f : Flow) → IsAct (given gives f)
given_is true Next = halt_is Stuck
given_is true Broke = halt_is Stuck
given_is true Continued = halt_is Stuck
given_is true (Gave (Val v)) = pure_is v
given_is true (Gave (At p)) = halt_is Stuck
given_is false Next = pure_is _
given_is false Broke = halt_is Stuck
given_is false Continued = halt_is Stuck
given_is false (Gave x) = pure_is _

body_is : (classes : List Class) (f : Option Function) (body : Function → Act Value) → ((f : Function) → IsAct (body f)) → (xs : List Operand) → IsAct (runs_body classes f body xs)
body_is classes None body is xs = halt_is Stuck
body_is classes (Some f) body is xs = bind_is (change_is _) (λ _. spend_is (is f))

call_is : (classes : List Class) (functions : List Function) (d k : ℕ) (xs : List Operand) → IsAct (call_of classes functions d k xs)
call_is classes functions zero k xs = body_is classes (slice_get functions k) _ (λ f. halt_is Exhausted) xs
call_is classes functions (suc d) k xs =
    body_is classes (slice_get functions k) _ (λ f. bind_is (all_is classes (call_of classes functions d) (call_is classes functions d) d f.locals (is_some f.result) f.body) (λ flow. bind_is (given_is (is_some f.result) flow) (λ v. then_is (change_is _) (pure_is v)))) xs

runs_talk : (p : Checked) (k : Option ℕ) (xs : List Operand) → IsAct (runs p k xs)
runs_talk p None xs = record { talk = λ n store. Over Stuck n store; is = λ n store calls answers. refl }
runs_talk p (Some k) xs = record {
  talk = λ n. (call_is p.classes p.functions n k xs).talk n;
  is = λ n store calls answers. (call_is p.classes p.functions n k xs).is n store calls answers;
}

pub means_talks : MeansTalks
means_talks p e arg n store =
    let t = bind_is {f = change _} {g = λ _. runs p (event p e) (event_arguments e arg)} (change_is _) (λ _. runs_talk p (event p e) (event_arguments e arg)) in
    (t.talk n store, λ calls answers. ap outcome (t.is n store calls answers))
