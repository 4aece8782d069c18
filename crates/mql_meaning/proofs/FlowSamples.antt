-- Programs of statements and calls, worked out by hand, and computed.
use Rattle.std.proofs.Common.{◌≡◌, ℕ, pos, true, false, [], ◌∷◌, Some, None, refl}
use Rattle.std.specs.Prelude.{codes, replicate}
use Rattle.fx8.specs.declared.int_kind.IntKind.TheVariants as kind
use Rattle.fx8.specs.declared.int_operator.IntOperator.TheVariants as op
use Rattle.natives.specs.declared.native.Native.TheVariants as natives
use Rattle.mql_mean.specs.Answer.{Refused}
use Rattle.mql_mean.specs.declared.value.Value.TheVariants as value
use Rattle.mql_mean.specs.declared.error.ErrorKind.TheVariants as error
use Rattle.mql_meaning.specs.declared.types.Base.TheVariants as base
use Rattle.mql_meaning.specs.declared.types.Sort.TheVariants as sort
use Rattle.mql_meaning.specs.declared.operator.Operator.TheVariants as o
use Rattle.mql_meaning.specs.declared.operator.Bump.TheVariants as bump
use Rattle.mql_meaning.specs.declared.tree.Checked.{Checked}
use Rattle.mql_meaning.specs.declared.tree.Entry.TheVariants as entry
use Rattle.mql_meaning.specs.declared.tree.Expression.TheVariants as e
use Rattle.mql_meaning.specs.declared.tree.Function.{Function}
use Rattle.mql_meaning.specs.declared.tree.Statement.TheVariants as s
use Rattle.mql_meaning.specs.Changes.{Failed, Exhausted, Stopped}
use Rattle.mql_meaning.specs.Runs.{world}
use Rattle.mql_meaning.specs.Frames.{opening}
use Rattle.mql_meaning.specs.Means.{Outcome}
use Rattle.mql_meaning.specs.declared.cell.Cell.TheVariants as cell
use Rattle.mql_meaning.proofs.Programs.{Told, answer, answers, array_of, binary, binary_d, body, calls, convert, dbl, does, done, element, first_world, giving, glob, int, ints, loc, native, no', no_entries, of_type, on1, on2, outcome_of, print, program, rd, run, say, set, structure, taking, tells, told, txt, value_call, var, void, with_classes, yes'}

-- OnTick prints x and loops for ever: with 10 steps one is Start's, one OnTick's, and 8 are tests
bounded : Checked
bounded = record (program (
    void [] (say 1 (codes "x") ∷ s.Loop 1 false yes' [] [] ∷ []) ∷
    void [] [] ∷ [])) { entries = record no_entries { start = Some 1; tick = Some 0 } }

started : ℕ → Outcome
started n = outcome_of bounded entry.Start (pos 0) n first_world

ticked : ℕ → Told
ticked n = told (outcome_of bounded entry.Tick (pos 0) (started n).left (started n).world)

bounded_10 : ticked 10 ≡ tells Exhausted (codes "x" ∷ [])
unfolding outcome_of started ticked bounded
bounded_10 = refl

bounded_2 : ticked 2 ≡ tells Exhausted (codes "x" ∷ [])
unfolding outcome_of started ticked bounded
bounded_2 = refl

bounded_1 : ticked 1 ≡ tells Exhausted []
unfolding outcome_of started ticked bounded
bounded_1 = refl

-- switch(2) falls through from its label to the break
switched : Checked
switched = body [] (
    s.Switch 1 (int (pos 2)) (value.Num kind.Int (pos 1) ∷ value.Num kind.Int (pos 2) ∷ value.Num kind.Int (pos 3) ∷ []) (0 ∷ 1 ∷ 2 ∷ []) 4 (
    print 2 (int (pos 1) ∷ []) ∷
    print 3 (int (pos 2) ∷ []) ∷
    print 4 (int (pos 3) ∷ []) ∷
    s.Break 4 ∷
    print 5 (int (pos 9) ∷ []) ∷ []) ∷ [])

switched_runs : run switched 9 ≡ tells done (codes "2" ∷ codes "3" ∷ [])
unfolding run switched
switched_runs = refl

-- switch(7) goes to the default in its middle and falls through from there
by_default : Checked
by_default = body [] (
    s.Switch 1 (int (pos 7)) (value.Num kind.Int (pos 1) ∷ value.Num kind.Int (pos 2) ∷ []) (0 ∷ 3 ∷ []) 2 (
    print 2 (int (pos 1) ∷ []) ∷
    s.Break 2 ∷
    say 3 (codes "d") ∷
    print 4 (int (pos 2) ∷ []) ∷ []) ∷ [])

by_default_runs : run by_default 9 ≡ tells done (codes "d" ∷ codes "2" ∷ [])
unfolding run by_default
by_default_runs = refl

-- for(i=0;i<3;i++) for(j=0;j<3;j++) { if(j==1) break; Print(10*i+j); }: break leaves the inner loop
nested : Checked
nested = body (ints ∷ ints ∷ []) (
    s.Loop 1 false (binary op.Less (var 0) (int (pos 3))) (on1 (o.Bump bump.MoreAfter) (loc 0) ∷ []) (
    set 2 (loc 1) (int (pos 0)) ∷
    s.Loop 2 false (binary op.Less (var 1) (int (pos 3))) (on1 (o.Bump bump.MoreAfter) (loc 1) ∷ []) (
    s.If 3 (binary op.Equal (var 1) (int (pos 1))) (s.Break 3 ∷ []) [] ∷
    print 4 (binary op.Add (binary op.Multiply (int (pos 10)) (var 0)) (var 1) ∷ []) ∷ []) ∷ []) ∷ [])

nested_runs : run nested 20 ≡ tells done (codes "0" ∷ codes "10" ∷ codes "20" ∷ [])
unfolding run nested
nested_runs = refl

-- for(i=0;i<3;i++) { if(i==1) continue; Print(i); }: continue goes to the step
continued : Checked
continued = body (ints ∷ []) (
    s.Loop 1 false (binary op.Less (var 0) (int (pos 3))) (on1 (o.Bump bump.MoreAfter) (loc 0) ∷ []) (
    s.If 2 (binary op.Equal (var 0) (int (pos 1))) (s.Continue 2 ∷ []) [] ∷
    print 3 (var 0 ∷ []) ∷ []) ∷ [])

continued_runs : run continued 9 ≡ tells done (codes "0" ∷ codes "2" ∷ [])
unfolding run continued
continued_runs = refl

-- do { x++; } while(x<3); Print(x): three tests and the entry are 4 steps, and 3 do not reach
at_least_once : Checked
at_least_once = body (ints ∷ []) (
    s.Loop 1 true (binary op.Less (var 0) (int (pos 3))) [] (does 1 (on1 (o.Bump bump.MoreAfter) (loc 0)) ∷ []) ∷
    print 2 (var 0 ∷ []) ∷ [])

at_least_once_4 : run at_least_once 4 ≡ tells done (codes "3" ∷ [])
unfolding run at_least_once
at_least_once_4 = refl

at_least_once_3 : run at_least_once 3 ≡ tells Exhausted []
unfolding run at_least_once
at_least_once_3 = refl

-- a function that prints its argument and gives whether it is not 0
shown : Function
shown = giving (of_type (base.Number kind.Bool)) (false ∷ []) (ints ∷ []) (
    print 20 (var 0 ∷ []) ∷
    s.Return 20 (convert (sort.Number kind.Bool) (var 0) ∷ []) ∷ [])

-- f(0) && f(1) and f(2) || f(3) go through their left sides alone; f(4) ? 5 : f(6) through the chosen part
-- alone
early : Checked
early = program (
    void [] (
    print 1 (e.Choose (value_call 1 (int (pos 0) ∷ []) ∷ value_call 1 (int (pos 1) ∷ []) ∷ no' ∷ []) ∷ []) ∷
    print 2 (e.Choose (value_call 1 (int (pos 2) ∷ []) ∷ yes' ∷ value_call 1 (int (pos 3) ∷ []) ∷ []) ∷ []) ∷
    print 3 (e.Choose (value_call 1 (int (pos 4) ∷ []) ∷ int (pos 5) ∷ value_call 1 (int (pos 6) ∷ []) ∷ []) ∷ []) ∷ []) ∷
    shown ∷ [])

early_runs : run early 9 ≡ tells done (codes "0" ∷ codes "false" ∷ codes "2" ∷ codes "true" ∷ codes "4" ∷ codes "5" ∷ [])
unfolding run early shown
early_runs = refl

-- a[i] += f(), where f sets i to 1 and gives 5: the right side goes before the place
order : Checked
order = record (program (
    void (array_of (base.Number kind.Int) (2 ∷ []) ∷ []) (
    does 1 (on2 (o.Update op.Add (sort.Number kind.Int)) (value_call 1 []) (element (loc 0) (rd (glob 0)))) ∷
    print 2 (rd (element (loc 0) (int (pos 0))) ∷ rd (element (loc 0) (int (pos 1))) ∷ []) ∷ []) ∷
    giving ints [] [] (set 5 (glob 0) (int (pos 1)) ∷ s.Return 5 (int (pos 5) ∷ []) ∷ []) ∷ [])) { globals = ints ∷ [] }

order_runs : told (outcome_of order entry.Tick (pos 0) 9 (world (record (opening []) { globals = cell.One (value.Num kind.Int (pos 0)) ∷ [] }) [] (answers 9))) ≡ tells done (codes "05" ∷ [])
unfolding outcome_of order
order_runs = refl

-- operands go from left to right: f(1) - f(2)
left_first : Checked
left_first = program (
    void [] (print 1 (binary op.Subtract (value_call 1 (int (pos 1) ∷ [])) (value_call 1 (int (pos 2) ∷ [])) ∷ []) ∷ []) ∷
    giving ints (false ∷ []) (ints ∷ []) (print 9 (var 0 ∷ []) ∷ s.Return 9 (var 0 ∷ []) ∷ []) ∷ [])

left_first_runs : run left_first 9 ≡ tells done (codes "1" ∷ codes "2" ∷ codes "-1" ∷ [])
unfolding run left_first
left_first_runs = refl

-- int next() { static int n; return(++n); }: a static variable is one of all calls
static_counter : Checked
static_counter = record (program (
    void [] (print 1 (value_call 1 [] ∷ []) ∷ print 2 (value_call 1 [] ∷ []) ∷ []) ∷
    giving ints [] [] (s.Return 5 (on1 (o.Bump bump.MoreFirst) (glob 0) ∷ []) ∷ []) ∷
    void [] [] ∷ [])) { globals = ints ∷ []; entries = record no_entries { start = Some 2; tick = Some 0 } }

static_started : Outcome
static_started = outcome_of static_counter entry.Start (pos 0) 9 first_world

static_runs : told (outcome_of static_counter entry.Tick (pos 0) static_started.left static_started.world) ≡ tells done (codes "1" ∷ codes "2" ∷ [])
unfolding outcome_of static_started static_counter
static_runs = refl

-- void f(int x) and void f(double x), as typing chose them for f(1) and f(1.0); and twice(3), twice(1.5) of a
-- template
overloads : Checked
overloads = program (
    void [] (
    calls 1 1 (int (pos 1) ∷ []) ∷
    calls 1 2 (dbl (pos 100000000) ∷ []) ∷
    print 2 (value_call 3 (int (pos 3) ∷ []) ∷ []) ∷
    print 2 (value_call 4 (dbl (pos 150000000) ∷ []) ∷ []) ∷ []) ∷
    taking (false ∷ []) (ints ∷ []) (say 5 (codes "int") ∷ []) ∷
    taking (false ∷ []) (of_type base.Double ∷ []) (say 6 (codes "double") ∷ []) ∷
    giving ints (false ∷ []) (ints ∷ []) (s.Return 7 (binary op.Add (var 0) (var 0) ∷ []) ∷ []) ∷
    giving (of_type base.Double) (false ∷ []) (of_type base.Double ∷ []) (s.Return 7 (binary_d op.Add (var 0) (var 0) ∷ []) ∷ []) ∷ [])

overloads_run : run overloads 9 ≡ tells done (codes "int" ∷ codes "double" ∷ codes "6" ∷ codes "3.0" ∷ [])
unfolding run overloads
overloads_run = refl

-- a function that calls itself spends a step each time
recursion : Checked
recursion = body [] (say 1 (codes "r") ∷ calls 1 0 [] ∷ [])

recursion_runs : run recursion 3 ≡ tells Exhausted (codes "r" ∷ codes "r" ∷ codes "r" ∷ [])
unfolding run recursion
recursion_runs = refl

-- one call more than there may be at once ends at the caller's line
too_deep : told (outcome_of recursion entry.Tick (pos 0) 9 (world (record (opening []) { frames = replicate 1024 (record { locals = []; this = None; makes = None; line = 7 }) }) [] [])) ≡ tells (Failed error.StackOverflow 7) []
unfolding outcome_of recursion
too_deep = refl

-- a fault in a loop's test after its body has the loop's line; one in a call's body its own; then the
-- caller's is in force
lines : Checked
lines = program (
    void (ints ∷ []) (
    set 2 (loc 0) (int (pos 2)) ∷
    s.Loop 3 false (binary op.Less (int (pos 0)) (binary op.Divide (int (pos 4)) (var 0))) [] (
    calls 4 1 (loc 0 ∷ []) ∷
    print 5 (var 0 ∷ []) ∷ []) ∷ []) ∷
    taking (true ∷ []) (ints ∷ []) (does 9 (on1 (o.Bump bump.LessAfter) (loc 0)) ∷ []) ∷ [])

lines_run : run lines 20 ≡ tells (Failed error.ZeroDivide 3) (codes "1" ∷ codes "0" ∷ [])
unfolding run lines
lines_run = refl

-- OnInit prints i, OnDeinit d and its reason
events : Checked
events = record (program (
    void [] (say 1 (codes "i") ∷ []) ∷
    taking (false ∷ []) (ints ∷ []) (print 2 (txt (codes "d") ∷ var 0 ∷ []) ∷ []) ∷ [])) { entries = record no_entries { init = Some 0; deinit = Some 1 } }

after_init : Outcome
after_init = outcome_of events entry.Init (pos 0) 9 first_world

events_run : told (outcome_of events entry.Deinit (pos 1) after_init.left after_init.world) ≡ tells done (codes "i" ∷ codes "d1" ∷ [])
unfolding outcome_of after_init events
events_run = refl

-- no answer for Print stops the run; a call that gives an error ends it at its line
no_answer : told (outcome_of recursion entry.Tick (pos 0) 9 (world (opening []) [] [])) ≡ tells Stopped (codes "r" ∷ [])
unfolding outcome_of recursion
no_answer = refl

refused : told (outcome_of recursion entry.Tick (pos 0) 9 (world (opening []) [] (answer ∷ Refused error.PrintsExhausted ∷ []))) ≡ tells (Failed error.PrintsExhausted 1) (codes "r" ∷ codes "r" ∷ [])
unfolding outcome_of recursion
refused = refl

-- if(false && OrderSend(q,r)) {}: no request is sent
no_request : Checked
no_request = with_classes (structure (ints ∷ []) ∷ []) (
    void (of_type (base.Structure 0) ∷ []) (
    s.If 1 (e.Choose (no' ∷ native natives.OrderSend (var 0 ∷ loc 0 ∷ []) ∷ no' ∷ [])) [] (say 2 (codes "f") ∷ []) ∷ []) ∷ [])

no_request_runs : run no_request 9 ≡ tells done (codes "f" ∷ [])
unfolding run no_request
no_request_runs = refl
