-- Programs of classes, worked out by hand, and computed.
use Rattle.std.proofs.Common.{◌≡◌, ℕ, suc, pos, true, false, List, [], ◌∷◌, ◌++◌, Some, None, refl}
use Rattle.std.specs.Prelude.{codes}
use Rattle.fx8.specs.declared.int_kind.IntKind.TheVariants as kind
use Rattle.fx8.specs.declared.int_operator.IntOperator.TheVariants as op
use Rattle.natives.specs.declared.native.Native.TheVariants as natives
use Rattle.mql_mean.specs.declared.value.Value.TheVariants as value
use Rattle.mql_mean.specs.declared.error.ErrorKind.TheVariants as error
use Rattle.mql_meaning.specs.declared.types.Base.TheVariants as base
use Rattle.mql_meaning.specs.declared.types.Sort.TheVariants as sort
use Rattle.mql_meaning.specs.declared.operator.Operator.TheVariants as o
use Rattle.mql_meaning.specs.declared.operator.Bump.TheVariants as bump
use Rattle.mql_meaning.specs.declared.store.Object.{Object}
use Rattle.mql_meaning.specs.declared.tree.Checked.{Checked}
use Rattle.mql_meaning.specs.declared.tree.Class.{Class}
use Rattle.mql_meaning.specs.declared.tree.Cleanup.TheVariants as cleanup
use Rattle.mql_meaning.specs.declared.tree.Entry.TheVariants as entry
use Rattle.mql_meaning.specs.declared.tree.Expression.TheVariants as e
use Rattle.mql_meaning.specs.declared.tree.Function.{Function}
use Rattle.mql_meaning.specs.declared.tree.Statement.TheVariants as s
use Rattle.mql_meaning.specs.Changes.{Failed, either}
use Rattle.mql_meaning.specs.Means.{Outcome}
use Rattle.mql_meaning.proofs.Programs.{int, on1, loc, glob, rd, var, binary, convert, this, object, pointer, field, native, value_call, does, set, print, say, calls, virtual, of_type, ints, an_object, a_pointer, void, giving, method, making, class, structure, has, pure_method, no_entries, with_classes, told, tells, done, outcome_of, first_world, run}

-- class 0, A, with a virtual f; class 1, B, its child with an f of its own. Functions 1 to 6: A's f, ~A, B's
-- f, ~B, and the constructors of A and B, none of which were written
two_classes : List Class
two_classes = class None [] (has 0 1 ∷ []) 2 ∷ class (Some 0) [] (has 0 3 ∷ []) 4 ∷ []

two_bodies : List Function
two_bodies =
    method 0 (say 2 (codes "A") ∷ []) ∷
    making 0 (say 3 (codes "~A") ∷ []) ∷
    method 1 (say 4 (codes "B") ∷ []) ∷
    making 1 (s.Block 5 (say 5 (codes "~B") ∷ []) (cleanup.Parent 2 ∷ []) ∷ []) ∷
    making 0 [] ∷
    making 1 (calls 6 5 (this ∷ []) ∷ []) ∷ []

-- A *q=new A; A *p=new B; p.f(); delete p; delete p; at line 9
classes : Checked
classes = with_classes two_classes (
    void (a_pointer 0 ∷ a_pointer 0 ∷ []) (
    set 9 (loc 0) (e.Make 0 5 []) ∷
    set 9 (loc 1) (e.Make 1 6 []) ∷
    virtual 9 0 0 (object (var 1)) ∷
    does 9 (e.Delete (var 1 ∷ [])) ∷
    does 9 (e.Delete (var 1 ∷ [])) ∷ []) ∷ two_bodies)

classes_run : run classes 20 ≡ tells (Failed error.InvalidPointer 9) (codes "B" ∷ codes "~B" ∷ codes "~A" ∷ [])
unfolding run classes two_classes two_bodies
classes_run = refl

-- how many dynamic objects live: one was not deleted
live : List Object → ℕ
live [] = 0
live (x ∷ xs) = either x.automatic (live xs) (suc (live xs))

classes_leave : live (outcome_of classes entry.Tick (pos 0) 20 first_world).world.store.heap ≡ 1
unfolding outcome_of classes two_classes two_bodies live
classes_leave = refl

-- delete NULL does nothing; what CheckPointer tells of an object of new, of an automatic one, and of one that
-- has gone
pointers : Checked
pointers = with_classes two_classes (
    void (a_pointer 0 ∷ an_object 0 ∷ []) (
    does 1 (e.Delete (var 0 ∷ [])) ∷
    s.Block 2 (
    s.Reset 2 1 2 ∷
    calls 2 5 (object (pointer (loc 1)) ∷ []) ∷
    set 3 (loc 0) (e.Make 0 5 []) ∷
    print 4 (native natives.CheckPointer (var 0 ∷ []) ∷ native natives.CheckPointer (native natives.GetPointer (loc 1 ∷ []) ∷ []) ∷ []) ∷
    does 5 (e.Delete (var 0 ∷ [])) ∷
    print 6 (native natives.CheckPointer (var 0 ∷ []) ∷ []) ∷
    does 7 (e.Delete (pointer (loc 1) ∷ [])) ∷ []) (cleanup.Local 1 ∷ []) ∷ []) ∷ two_bodies)

pointers_run : run pointers 20 ≡ tells (Failed error.InvalidPointer 7) (codes "12" ∷ codes "~A" ∷ codes "0" ∷ [])
unfolding run pointers two_classes two_bodies
pointers_run = refl

-- a pointer of the parent's type to a child: dynamic_cast to a class that it is not gives NULL, a strict cast
-- is BadCast
casts : Checked
casts = with_classes two_classes (
    void (a_pointer 0 ∷ []) (
    set 1 (loc 0) (e.Make 1 6 []) ∷
    print 2 (convert (sort.Number kind.Bool) (on1 (o.Cast 1 false) (var 0)) ∷ []) ∷
    set 3 (loc 0) (e.Make 0 5 []) ∷
    print 4 (convert (sort.Number kind.Bool) (on1 (o.Cast 1 false) (var 0)) ∷ []) ∷
    does 5 (on1 (o.Cast 1 true) (var 0)) ∷ []) ∷ two_bodies)

casts_run : run casts 20 ≡ tells (Failed error.BadCast 5) (codes "true" ∷ codes "false" ∷ [])
unfolding run casts two_classes two_bodies
casts_run = refl

-- a virtual call in the constructor of A goes by A also while a B is made; afterwards by B
under_construction : Checked
under_construction = with_classes two_classes (
    void (a_pointer 0 ∷ []) (
    set 1 (loc 0) (e.Make 1 6 []) ∷
    virtual 2 0 0 (object (var 0)) ∷ []) ∷
    method 0 (say 2 (codes "A") ∷ []) ∷
    making 0 [] ∷
    method 1 (say 4 (codes "B") ∷ []) ∷
    making 1 [] ∷
    making 0 (virtual 5 0 0 this ∷ []) ∷
    making 1 (calls 6 5 (this ∷ []) ∷ []) ∷ [])

under_construction_runs : run under_construction 20 ≡ tells done (codes "A" ∷ codes "B" ∷ [])
unfolding run under_construction two_classes
under_construction_runs = refl

-- a method that is pure in the class under construction
pure_call : Checked
pure_call = with_classes (class None [] (pure_method 0 ∷ []) 2 ∷ class (Some 0) [] (has 0 3 ∷ []) 4 ∷ []) (
    void (a_pointer 0 ∷ []) (set 1 (loc 0) (e.Make 1 6 []) ∷ []) ∷
    method 0 [] ∷
    making 0 [] ∷
    method 1 (say 4 (codes "B") ∷ []) ∷
    making 1 [] ∷
    making 0 (virtual 5 0 0 this ∷ []) ∷
    making 1 (calls 6 5 (this ∷ []) ∷ []) ∷ [])

pure_call_runs : run pure_call 20 ≡ tells (Failed error.PureCall 5) []
unfolding run pure_call
pure_call_runs = refl

-- classes M and N; Base with a field of M, Derived from Base with one of N. Constructors: the parent's first,
-- then the fields, then the body; destructors the reverse
built : Checked
built = with_classes (
    class None [] [] 2 ∷
    class None [] [] 4 ∷
    class None (an_object 0 ∷ []) [] 6 ∷
    class (Some 2) (an_object 0 ∷ an_object 1 ∷ []) [] 8 ∷ []) (
    void (a_pointer 2 ∷ []) (
    set 1 (loc 0) (e.Make 3 7 []) ∷
    does 2 (e.Delete (var 0 ∷ [])) ∷ []) ∷
    making 0 (say 10 (codes "m") ∷ []) ∷
    making 0 (say 11 (codes "~m") ∷ []) ∷
    making 1 (say 12 (codes "n") ∷ []) ∷
    making 1 (say 13 (codes "~n") ∷ []) ∷
    making 2 (calls 14 1 (object (pointer (field 0 this)) ∷ []) ∷ say 14 (codes "base") ∷ []) ∷
    making 2 (s.Block 15 (say 15 (codes "~base") ∷ []) (cleanup.Field 0 ∷ []) ∷ []) ∷
    making 3 (calls 16 5 (this ∷ []) ∷ calls 16 3 (object (pointer (field 1 this)) ∷ []) ∷ say 16 (codes "derived") ∷ []) ∷
    making 3 (s.Block 17 (say 17 (codes "~derived") ∷ []) (cleanup.Field 1 ∷ cleanup.Parent 6 ∷ []) ∷ []) ∷ [])

built_runs : run built 30 ≡ tells done (codes "m" ∷ codes "base" ∷ codes "n" ∷ codes "derived" ∷ codes "~derived" ∷ codes "~n" ∷ codes "~base" ∷ codes "~m" ∷ [])
unfolding run built
built_runs = refl

-- and then no object lives, and no cell is in use
built_leaves : live (outcome_of built entry.Tick (pos 0) 30 first_world).world.store.heap ≡ 0
unfolding outcome_of built live
built_leaves = refl

built_cells : (outcome_of built entry.Tick (pos 0) 30 first_world).world.store.cells ≡ 0
unfolding outcome_of built
built_cells = refl

-- two classes whose constructors and destructors print
printing : List Class
printing = class None [] [] 2 ∷ class None [] [] 4 ∷ []

printing_bodies : List Function
printing_bodies =
    making 0 (say 20 (codes "a") ∷ []) ∷
    making 0 (say 21 (codes "~a") ∷ []) ∷
    making 1 (say 22 (codes "b") ∷ []) ∷
    making 1 (say 23 (codes "~b") ∷ []) ∷ []

-- int f() { for(int i=0; i<5; i++) { A a; if(i==1) { B b; return(i); } } return(99); }: destructors run at
-- each exit, the last object first, and the value was made before them
exits : Checked
exits = with_classes printing (
    void [] (print 2 (value_call 5 [] ∷ []) ∷ []) ∷ printing_bodies ++
    giving ints [] (ints ∷ an_object 0 ∷ an_object 1 ∷ []) (
    s.Loop 6 false (binary op.Less (var 0) (int (pos 5))) (on1 (o.Bump bump.MoreAfter) (loc 0) ∷ []) (
    s.Block 7 (
    s.Reset 7 1 2 ∷
    calls 7 1 (object (pointer (loc 1)) ∷ []) ∷
    s.If 8 (binary op.Equal (var 0) (int (pos 1))) (
    s.Block 8 (
    s.Reset 8 2 3 ∷
    calls 8 3 (object (pointer (loc 2)) ∷ []) ∷
    s.Return 9 (var 0 ∷ []) ∷ []) (cleanup.Local 2 ∷ []) ∷ []) [] ∷ []) (cleanup.Local 1 ∷ []) ∷ []) ∷
    s.Return 10 (int (pos 99) ∷ []) ∷ []) ∷ [])

exits_run : run exits 60 ≡ tells done (codes "a" ∷ codes "~a" ∷ codes "a" ∷ codes "b" ∷ codes "~b" ∷ codes "~a" ∷ codes "1" ∷ [])
unfolding run exits printing printing_bodies
exits_run = refl

-- the same with continue at first and break then
breaks : Checked
breaks = with_classes printing (
    void (ints ∷ an_object 0 ∷ []) (
    s.Loop 6 false (binary op.Less (var 0) (int (pos 5))) (on1 (o.Bump bump.MoreAfter) (loc 0) ∷ []) (
    s.Block 7 (
    s.Reset 7 1 2 ∷
    calls 7 1 (object (pointer (loc 1)) ∷ []) ∷
    s.If 8 (binary op.Equal (var 0) (int (pos 0))) (s.Continue 8 ∷ []) (s.Break 8 ∷ []) ∷ []) (cleanup.Local 1 ∷ []) ∷ []) ∷
    print 9 (var 0 ∷ []) ∷ []) ∷ printing_bodies)

breaks_run : run breaks 60 ≡ tells done (codes "a" ∷ codes "~a" ∷ codes "a" ∷ codes "~a" ∷ codes "1" ∷ [])
unfolding run breaks printing printing_bodies
breaks_run = refl

-- a switch jumps past the declaration of an object: no destructor runs
jumped : Checked
jumped = with_classes printing (
    void (an_object 0 ∷ []) (
    s.Block 1 (
    s.Switch 1 (int (pos 2)) (value.Num kind.Int (pos 1) ∷ value.Num kind.Int (pos 2) ∷ []) (0 ∷ 2 ∷ []) 4 (
    s.Reset 2 0 1 ∷
    calls 2 1 (object (pointer (loc 0)) ∷ []) ∷
    print 3 (int (pos 2) ∷ []) ∷
    s.Break 4 ∷ []) ∷ []) (cleanup.Local 0 ∷ []) ∷ []) ∷ printing_bodies)

jumped_runs : run jumped 20 ≡ tells done (codes "2" ∷ [])
unfolding run jumped printing printing_bodies
jumped_runs = refl

-- A a; as a global: Start makes it and runs its constructor, Stop its destructor
globals : Checked
globals = record {
  classes = printing;
  functions =
      void [] (calls 1 1 (object (pointer (glob 1)) ∷ []) ∷ set 2 (glob 0) (int (pos 4)) ∷ []) ∷ printing_bodies ++
      void [] (s.Block 3 (print 3 (rd (glob 0) ∷ []) ∷ []) (cleanup.Global 1 ∷ []) ∷ []) ∷ [];
  globals = ints ∷ an_object 0 ∷ [];
  inputs = [];
  entries = record no_entries { start = Some 0; stop = Some 5 };
}

globals_started : Outcome
globals_started = outcome_of globals entry.Start (pos 0) 9 first_world

globals_run : told (outcome_of globals entry.Stop (pos 0) globals_started.left globals_started.world) ≡ tells done (codes "a" ∷ codes "4" ∷ codes "~a" ∷ [])
unfolding outcome_of globals globals_started printing printing_bodies
globals_run = refl

-- a method of a structure works on the structure itself
on_structure : Checked
on_structure = with_classes (structure (ints ∷ []) ∷ []) (
    void (of_type (base.Structure 0) ∷ []) (
    calls 1 1 (loc 0 ∷ []) ∷
    print 2 (rd (field 0 (loc 0)) ∷ []) ∷ []) ∷
    method 0 (set 5 (field 0 this) (int (pos 6)) ∷ []) ∷ [])

on_structure_runs : run on_structure 9 ≡ tells done (codes "6" ∷ [])
unfolding run on_structure
on_structure_runs = refl

-- a method of an interface, through a pointer to the interface; and through a pointer to an object that has gone
interfaces : Checked
interfaces = with_classes (class None [] (pure_method 0 ∷ []) 2 ∷ class (Some 0) [] (has 0 3 ∷ []) 4 ∷ []) (
    void (a_pointer 0 ∷ []) (
    set 1 (loc 0) (e.Make 1 6 []) ∷
    virtual 2 0 0 (object (var 0)) ∷
    does 3 (e.Delete (var 0 ∷ [])) ∷
    virtual 4 0 0 (object (var 0)) ∷ []) ∷
    method 0 [] ∷
    making 0 [] ∷
    method 1 (say 5 (codes "f") ∷ []) ∷
    making 1 (s.Block 6 [] (cleanup.Parent 2 ∷ []) ∷ []) ∷
    making 0 [] ∷
    making 1 (calls 7 5 (this ∷ []) ∷ []) ∷ [])

interfaces_run : run interfaces 20 ≡ tells (Failed error.InvalidPointer 4) (codes "f" ∷ [])
unfolding run interfaces
interfaces_run = refl

-- a cast of a pointer to an object that has gone: dynamic_cast gives NULL, a strict one is InvalidPointer
gone : Checked
gone = with_classes two_classes (
    void (a_pointer 0 ∷ []) (
    set 1 (loc 0) (e.Make 1 6 []) ∷
    does 2 (e.Delete (var 0 ∷ [])) ∷
    print 3 (convert (sort.Number kind.Bool) (on1 (o.Cast 1 false) (var 0)) ∷ []) ∷
    does 4 (on1 (o.Cast 1 true) (var 0)) ∷ []) ∷ two_bodies)

gone_runs : run gone 20 ≡ tells (Failed error.InvalidPointer 4) (codes "~B" ∷ codes "~A" ∷ codes "false" ∷ [])
unfolding run gone two_classes two_bodies
gone_runs = refl
