-- Programs of arrays, structures, references and globals, worked out by hand, and computed.
use Rattle.std.proofs.Common.{◌≡◌, pos, negsuc, true, false, [], ◌∷◌, Some, refl}
use Rattle.std.specs.Prelude.{codes, map}
use Rattle.fx8.specs.declared.int_kind.IntKind.TheVariants as kind
use Rattle.fx8.specs.declared.int_operator.IntOperator.TheVariants as op
use Rattle.natives.specs.declared.native.Native.TheVariants as natives
use Rattle.mql_mean.specs.Answer.{Answer, Replied}
use Rattle.mql_mean.specs.declared.value.Value.TheVariants as value
use Rattle.mql_mean.specs.declared.error.ErrorKind.TheVariants as error
use Rattle.mql_meaning.specs.declared.types.Base.TheVariants as base
use Rattle.mql_meaning.specs.declared.types.Sort.TheVariants as sort
use Rattle.mql_meaning.specs.declared.operator.Operator.TheVariants as o
use Rattle.mql_meaning.specs.declared.operator.Bump.TheVariants as bump
use Rattle.mql_meaning.specs.declared.tree.Checked.{Checked}
use Rattle.mql_meaning.specs.declared.tree.Entry.TheVariants as entry
use Rattle.mql_meaning.specs.declared.tree.Expression.TheVariants as e
use Rattle.mql_meaning.specs.declared.tree.Statement.TheVariants as s
use Rattle.mql_meaning.specs.Changes.{Failed, Stopped}
use Rattle.mql_meaning.specs.Runs.{world}
use Rattle.mql_meaning.specs.Frames.{opening}
use Rattle.mql_meaning.specs.Means.{Outcome}
use Rattle.mql_meaning.proofs.Programs.{int, txt, yes', on1, on2, loc, glob, rd, var, binary, put, element, field, native, value_call, does, set, print, calls, of_type, array_of, ints, void, taking, giving, structure, no_entries, with_classes, program, body, answers, told, tells, done, outcome_of, run, first_world, call_number}

-- void cut(int &x[],int &r){ArrayResize(x,0); r=1;}: the element that was lent is not there any more
reference : Checked
reference = program (
    void (array_of (base.Number kind.Int) (0 ∷ []) ∷ []) (
    does 3 (native natives.ArrayResize (loc 0 ∷ int (pos 3) ∷ int (pos 0) ∷ [])) ∷
    calls 3 1 (loc 0 ∷ element (loc 0) (int (pos 1)) ∷ []) ∷ []) ∷
    taking (true ∷ true ∷ []) (array_of (base.Number kind.Int) (0 ∷ []) ∷ ints ∷ []) (
    does 1 (native natives.ArrayResize (loc 0 ∷ int (pos 0) ∷ int (pos 0) ∷ [])) ∷
    set 2 (loc 1) (int (pos 1)) ∷ []) ∷ [])

reference_runs : run reference 9 ≡ tells (Failed error.ArrayRange 2) []
unfolding run reference
reference_runs = refl

-- an index below 0, and one at the end
ranges : Checked
ranges = body (array_of (base.Number kind.Int) (3 ∷ []) ∷ []) (
    set 1 (element (loc 0) (int (pos 2))) (int (pos 7)) ∷
    print 2 (rd (element (loc 0) (int (pos 2))) ∷ []) ∷
    print 3 (rd (element (loc 0) (int (pos 3))) ∷ []) ∷ [])

ranges_run : run ranges 9 ≡ tells (Failed error.ArrayRange 3) (codes "7" ∷ [])
unfolding run ranges
ranges_run = refl

below : Checked
below = body (array_of (base.Number kind.Int) (3 ∷ []) ∷ []) (print 4 (rd (element (loc 0) (int (negsuc 0))) ∷ []) ∷ [])

below_runs : run below 9 ≡ tells (Failed error.ArrayRange 4) []
unfolding run below
below_runs = refl

-- a structure in a structure is copied by value: a.i.x = 5; a.s = "n"; b = a; b.i.x -= 12
copied : Checked
copied = with_classes (structure (ints ∷ []) ∷ structure (of_type (base.Structure 0) ∷ of_type base.String ∷ []) ∷ []) (
    void (of_type (base.Structure 1) ∷ of_type (base.Structure 1) ∷ []) (
    set 1 (field 0 (field 0 (loc 0))) (int (pos 5)) ∷
    set 2 (field 1 (loc 0)) (txt (codes "n")) ∷
    set 3 (loc 1) (var 0) ∷
    does 4 (on2 (o.Update op.Subtract (sort.Number kind.Int)) (int (pos 12)) (field 0 (field 0 (loc 1)))) ∷
    print 5 (rd (field 0 (field 0 (loc 0))) ∷ []) ∷
    print 6 (rd (field 1 (loc 1)) ∷ rd (field 0 (field 0 (loc 1))) ∷ []) ∷ []) ∷ [])

copied_runs : run copied 9 ≡ tells done (codes "5" ∷ codes "n-7" ∷ [])
unfolding run copied
copied_runs = refl

-- a parameter by value is another variable, one by reference is the caller's
passed : Checked
passed = program (
    void (ints ∷ []) (
    set 1 (loc 0) (int (pos 3)) ∷
    calls 2 1 (var 0 ∷ []) ∷ print 2 (var 0 ∷ []) ∷
    calls 3 2 (loc 0 ∷ []) ∷ print 3 (var 0 ∷ []) ∷ []) ∷
    taking (false ∷ []) (ints ∷ []) (set 8 (loc 0) (int (pos 8)) ∷ []) ∷
    taking (true ∷ []) (ints ∷ []) (set 9 (loc 0) (int (pos 9)) ∷ []) ∷ [])

passed_runs : run passed 9 ≡ tells done (codes "3" ∷ codes "9" ∷ [])
unfolding run passed
passed_runs = refl

-- a series is indexed from its end; the flag changes indexing alone
series : Checked
series = body (array_of (base.Number kind.Int) (0 ∷ []) ∷ []) (
    does 1 (native natives.ArrayResize (loc 0 ∷ int (pos 3) ∷ int (pos 0) ∷ [])) ∷
    set 2 (element (loc 0) (int (pos 0))) (int (pos 7)) ∷
    does 3 (native natives.ArraySetAsSeries (loc 0 ∷ yes' ∷ [])) ∷
    print 4 (rd (element (loc 0) (int (pos 2))) ∷ native natives.ArrayGetAsSeries (loc 0 ∷ []) ∷ []) ∷
    print 5 (rd (element (loc 0) (int (pos 3))) ∷ []) ∷ [])

series_runs : run series 9 ≡ tells (Failed error.ArrayRange 5) (codes "7true" ∷ [])
unfolding run series
series_runs = refl

-- int a[2][3]: 6 elements, 3 in the second dimension, none in a third, which sets the last error
dimensions : Checked
dimensions = body (array_of (base.Number kind.Int) (2 ∷ 3 ∷ []) ∷ []) (
    set 1 (element (element (loc 0) (int (pos 1))) (int (pos 2))) (int (pos 7)) ∷
    print 2 (native natives.ArraySize (loc 0 ∷ []) ∷ []) ∷
    print 3 (native natives.ArrayRange (loc 0 ∷ int (pos 1) ∷ []) ∷ []) ∷
    print 4 (rd (element (element (loc 0) (int (pos 1))) (int (pos 2))) ∷ []) ∷
    print 5 (native natives.ArrayRange (loc 0 ∷ int (pos 2) ∷ []) ∷ []) ∷ [])

dimensions_run : run dimensions 9 ≡ tells done (codes "6" ∷ codes "3" ∷ codes "7" ∷ codes "4003" ∷ codes "0" ∷ [])
unfolding run dimensions
dimensions_run = refl

-- what the world was called with: Print three times, the last error once, and Print
dimensions_calls : map call_number (outcome_of dimensions entry.Tick (pos 0) 9 first_world).world.calls ≡ 49 ∷ 49 ∷ 49 ∷ 112 ∷ 49 ∷ []
unfolding outcome_of dimensions
dimensions_calls = refl

-- 1 cell of the array and 9 of its elements are there, the tenth is one too many
grows : Checked
grows = body (array_of (base.Number kind.Int) (0 ∷ []) ∷ []) (
    does 6 (native natives.ArrayResize (loc 0 ∷ int (pos 9) ∷ int (pos 0) ∷ [])) ∷
    does 7 (native natives.ArrayResize (loc 0 ∷ int (pos 10) ∷ int (pos 0) ∷ [])) ∷ [])

grows_runs : told (outcome_of grows entry.Tick (pos 0) 9 (world (record (opening []) { cells = 999990 }) [] [])) ≡ tells (Failed error.CellsExhausted 7) []
unfolding outcome_of grows
grows_runs = refl

-- a string takes 1 cell and one for each 4 units begun: five units take 3, and give back the 1 of the empty
-- string
strings_take : Checked
strings_take = body (of_type base.String ∷ []) (set 1 (loc 0) (txt (codes "abcde")) ∷ set 2 (loc 0) (txt (codes "abcdefghi")) ∷ [])

strings_take_cells : told (outcome_of strings_take entry.Tick (pos 0) 9 (world (record (opening []) { cells = 999997 }) [] [])) ≡ tells (Failed error.CellsExhausted 2) []
unfolding outcome_of strings_take
strings_take_cells = refl

-- { int x; x++; Print(x); } in a loop: the local begins as zero each time
begins_anew : Checked
begins_anew = body (ints ∷ ints ∷ []) (
    s.Loop 1 false (binary op.Less (var 0) (int (pos 2))) (on1 (o.Bump bump.MoreAfter) (loc 0) ∷ []) (
    s.Block 2 (
    s.Reset 2 1 2 ∷
    does 3 (on1 (o.Bump bump.MoreAfter) (loc 1)) ∷
    print 4 (var 1 ∷ []) ∷ []) [] ∷ []) ∷ [])

begins_anew_runs : run begins_anew 9 ≡ tells done (codes "1" ∷ codes "1" ∷ [])
unfolding run begins_anew
begins_anew_runs = refl

-- input int A = 2; input int B = 3, which was set to 5; int c = A + B
inputs : Checked
inputs = record {
  classes = [];
  functions =
      void [] (print 3 (rd (glob 0) ∷ rd (glob 1) ∷ rd (glob 2) ∷ []) ∷ []) ∷
      void [] (set 2 (glob 2) (binary op.Add (rd (glob 0)) (rd (glob 1))) ∷ []) ∷ [];
  globals = ints ∷ ints ∷ ints ∷ [];
  inputs =
      record { global = 0; name = codes "A"; optimisable = true; default = value.Num kind.Int (pos 2); members = [] } ∷
      record { global = 1; name = codes "B"; optimisable = true; default = value.Num kind.Int (pos 3); members = [] } ∷ [];
  entries = record no_entries { start = Some 1; tick = Some 0 };
}

inputs_started : Outcome
inputs_started = outcome_of inputs entry.Start (pos 0) 9 (world (opening (record { global = 1; value = value.Num kind.Int (pos 5) } ∷ [])) [] (answers 3))

inputs_run : told (outcome_of inputs entry.Tick (pos 0) inputs_started.left inputs_started.world) ≡ tells done (codes "257" ∷ [])
unfolding outcome_of inputs inputs_started
inputs_run = refl

-- the globals' three cells are in use, those of the calls were given back
inputs_cells : inputs_started.world.store.cells ≡ 3
unfolding outcome_of inputs inputs_started
inputs_cells = refl

-- a structure that a call gives: f().x
of_call : Checked
of_call = with_classes (structure (ints ∷ []) ∷ []) (
    void (of_type (base.Structure 0) ∷ []) (
    print 1 (e.After (put (loc 0) (value_call 1 []) ∷ []) (rd (field 0 (loc 0)) ∷ []) ∷ []) ∷ []) ∷
    giving (of_type (base.Structure 0)) [] (of_type (base.Structure 0) ∷ []) (
    set 3 (field 0 (loc 0)) (int (pos 8)) ∷
    s.Return 3 (var 0 ∷ []) ∷ []) ∷ [])

of_call_runs : run of_call 9 ≡ tells done (codes "8" ∷ [])
unfolding run of_call
of_call_runs = refl

-- ArrayCopy grows its target by whole places and takes numbers into its type; ArraySort, ArrayMaximum,
-- ArrayInitialize
arrays : Checked
arrays = body (array_of (base.Number kind.Int) (3 ∷ []) ∷ array_of base.Double (0 ∷ []) ∷ []) (
    set 1 (element (loc 0) (int (pos 0))) (int (pos 5)) ∷
    set 1 (element (loc 0) (int (pos 1))) (int (pos 9)) ∷
    set 1 (element (loc 0) (int (pos 2))) (int (pos 1)) ∷
    print 2 (native natives.ArrayMaximum (loc 0 ∷ int (pos 0) ∷ int (negsuc 0) ∷ []) ∷ native natives.ArrayMinimum (loc 0 ∷ int (pos 0) ∷ int (pos 2) ∷ []) ∷ []) ∷
    print 3 (native natives.ArrayCopy (loc 1 ∷ loc 0 ∷ int (pos 1) ∷ int (pos 1) ∷ int (negsuc 0) ∷ []) ∷ native natives.ArraySize (loc 1 ∷ []) ∷ []) ∷
    print 4 (rd (element (loc 1) (int (pos 0))) ∷ txt (codes " ") ∷ rd (element (loc 1) (int (pos 1))) ∷ txt (codes " ") ∷ rd (element (loc 1) (int (pos 2))) ∷ []) ∷
    does 5 (native natives.ArraySort (loc 0 ∷ [])) ∷
    print 5 (rd (element (loc 0) (int (pos 0))) ∷ rd (element (loc 0) (int (pos 1))) ∷ rd (element (loc 0) (int (pos 2))) ∷ []) ∷
    print 6 (native natives.ArrayInitialize (loc 0 ∷ int (pos 4) ∷ []) ∷ rd (element (loc 0) (int (pos 2))) ∷ []) ∷
    print 7 (native natives.ArrayResize (loc 0 ∷ int (pos 1) ∷ int (pos 0) ∷ []) ∷ []) ∷ [])

arrays_run : run arrays 9 ≡ tells done (codes "10" ∷ codes "23" ∷ codes "0.0 9.0 1.0" ∷ codes "159" ∷ codes "34" ∷ codes "4003" ∷ codes "-1" ∷ [])
unfolding run arrays
arrays_run = refl

-- a structure that the world fills; the world is told the structure as it stands
quote : Checked
quote = with_classes (structure (ints ∷ of_type base.String ∷ []) ∷ []) (
    void (of_type (base.Structure 0) ∷ []) (
    s.If 1 (native natives.SymbolInfoTick (txt (codes "E") ∷ loc 0 ∷ [])) (
    print 2 (rd (field 0 (loc 0)) ∷ rd (field 1 (loc 0)) ∷ []) ∷ []) [] ∷ []) ∷ [])

filling : Answer
filling = Replied (record { value = value.Num kind.Bool (pos 1); outs = value.Rec (value.Num kind.Int (pos 8) ∷ value.Str (codes "q") ∷ []) ∷ [] })

quote_runs : (outcome_of quote entry.Tick (pos 0) 9 (world (opening []) [] (filling ∷ answers 1))).ended ≡ done
unfolding outcome_of quote filling
quote_runs = refl

-- a reply of another type than the function gives stops the run
wrong_reply : (outcome_of quote entry.Tick (pos 0) 9 (world (opening []) [] (answers 2))).ended ≡ Stopped
unfolding outcome_of quote
wrong_reply = refl

-- arrays of one dimension and of two: sizes, what is dynamic, ZeroMemory, ArrayFree, a copy that grows by whole places
more_arrays : Checked
more_arrays = body (
    array_of (base.Number kind.Int) (0 ∷ []) ∷
    array_of (base.Number kind.Int) (2 ∷ []) ∷
    array_of (base.Number kind.Int) (0 ∷ 3 ∷ []) ∷
    array_of (base.Number kind.Int) (4 ∷ []) ∷ []) (
    print 1 (
    native natives.ArrayResize (loc 0 ∷ int (pos 2) ∷ int (pos 0) ∷ []) ∷
    native natives.ArrayIsDynamic (loc 0 ∷ []) ∷
    native natives.ArrayIsDynamic (loc 1 ∷ []) ∷ []) ∷
    set 2 (element (loc 1) (int (pos 1))) (int (pos 4)) ∷
    does 2 (native natives.ZeroMemory (loc 1 ∷ [])) ∷
    print 2 (rd (element (loc 1) (int (pos 1))) ∷ []) ∷
    does 3 (native natives.ArrayFree (loc 0 ∷ [])) ∷
    print 3 (native natives.ArraySize (loc 0 ∷ []) ∷ []) ∷
    does 4 (native natives.ArrayFree (loc 1 ∷ [])) ∷
    set 5 (element (loc 3) (int (pos 3))) (int (pos 9)) ∷
    print 5 (
    native natives.ArrayCopy (loc 2 ∷ loc 3 ∷ int (pos 0) ∷ int (pos 0) ∷ int (negsuc 0) ∷ []) ∷
    native natives.ArraySize (loc 2 ∷ []) ∷
    rd (element (element (loc 2) (int (pos 1))) (int (pos 0))) ∷ []) ∷
    print 6 (native natives.ArrayResize (loc 2 ∷ int (pos 3) ∷ int (pos 0) ∷ []) ∷ []) ∷ [])

more_arrays_run : run more_arrays 9 ≡ tells done (codes "2truefalse" ∷ codes "0" ∷ codes "0" ∷ codes "4003" ∷ codes "469" ∷ codes "9" ∷ [])
unfolding run more_arrays
more_arrays_run = refl
