-- Expressions, typed by hand.
use Rattle.std.proofs.Common.{◌≡◌, true, false, List, [], ◌∷◌, Some, refl}
use Rattle.std.specs.Prelude.{codes}
use Rattle.fx8.specs.declared.int_kind.IntKind.TheVariants as kind
use Rattle.fx8.specs.declared.int_operator.IntOperator.TheVariants as op
use Rattle.natives.specs.declared.types.SimpleType.TheVariants as simple
use Rattle.mql_meaning.specs.declared.types.Sort.TheVariants as sort
use Rattle.mql_meaning.specs.declared.operator.Operator.TheVariants as o
use Rattle.mql_meaning.specs.declared.tree.Expression.TheVariants as e
use Rattle.mql_meaning.specs.declared.tree.Callee.TheVariants as callee
use Rattle.mql_syntax.specs.declared.kind.BinaryOperator.TheVariants as binary
use Rattle.mql_syntax.specs.declared.value.Operation.TheVariants as operation
use Rattle.mql_syntax.specs.declared.value.Value.{Value}
use Rattle.mql_types.specs.declared.types.Base.TheVariants as base
use Rattle.mql_typed.specs.Typed.{a_value, nothing}
use Rattle.mql_check.proofs.Words.{name, number, node, of, single, line, parameter, function, read, finds, breaks}

-- i / i is of int
divides : finds [] (node 1 (operation.Binary binary.Divide) (name 1 (codes "i") ∷ name 1 (codes "i") ∷ []))
    ≡ record { info = Some (a_value (of kind.Int) [] (e.Apply (o.Binary op.Divide (sort.Number kind.Int)) (read 0 ∷ read 0 ∷ []))); broken = []; used = [] }
unfolding finds
divides = refl

-- u < i compares as uint
compares : finds [] (node 1 (operation.Binary binary.Less) (name 1 (codes "u") ∷ name 1 (codes "i") ∷ []))
    ≡ record {
      info = Some (a_value (of kind.Bool) [] (e.Apply (o.Binary op.Less (sort.Number kind.Uint))
          (read 1 ∷ e.Apply (o.Convert (sort.Number kind.Uint)) (read 0 ∷ []) ∷ [])));
      broken = [];
      used = [];
    }
unfolding finds
compares = refl

-- d % i: 15
remainder : (finds [] (node 1 (operation.Binary binary.Remainder) (name 1 (codes "d") ∷ name 1 (codes "i") ∷ []))).broken ≡ breaks 15 1
unfolding finds
remainder = refl

-- c = 1: 10; 1 = i: 12; a = i: 26; i = a: 26
constant : (finds [] (node 1 operation.Assign (name 1 (codes "c") ∷ number 1 1 ∷ []))).broken ≡ breaks 10 1
unfolding finds
constant = refl

no_place : (finds [] (node 1 operation.Assign (number 1 1 ∷ name 1 (codes "i") ∷ []))).broken ≡ breaks 12 1
unfolding finds
no_place = refl

whole_array : (finds [] (node 1 operation.Assign (name 1 (codes "i") ∷ name 1 (codes "a") ∷ []))).broken ≡ breaks 26 1
unfolding finds
whole_array = refl

-- d = i: the value is taken into double, before its place
assigns : finds [] (node 1 operation.Assign (name 1 (codes "d") ∷ name 1 (codes "i") ∷ []))
    ≡ record {
      info = Some (a_value (base.Simple simple.Double) [] (e.Apply o.Keep
          (e.Apply (o.Convert sort.Double) (read 0 ∷ []) ∷ e.Apply (o.Local 3) [] ∷ [])));
      broken = [];
      used = [];
    }
unfolding finds
assigns = refl

-- a[d]: 25; i[i]: 24; s && i: 17
index : (finds [] (node 1 operation.Index (name 1 (codes "a") ∷ name 1 (codes "d") ∷ []))).broken ≡ breaks 25 1
unfolding finds
index = refl

no_array : (finds [] (node 1 operation.Index (name 1 (codes "i") ∷ name 1 (codes "i") ∷ []))).broken ≡ breaks 24 1
unfolding finds
no_array = refl

condition : (finds [] (node 1 (operation.Binary binary.And) (name 1 (codes "s") ∷ name 1 (codes "i") ∷ []))).broken ≡ breaks 17 1
unfolding finds
condition = refl

-- f(c) and f(a), where f is void f(int &x): 10 a constant is lent, 9 its type differs; f(1): 8; f(i, i): 5
calls : List Value → List Value
calls vs = name 1 (codes "f") ∷ vs

lends_constant : (finds (function 0 (codes "f") (parameter (single (of kind.Int)) true ∷ []) ∷ [])
    (node 1 operation.Call (calls (name 1 (codes "c") ∷ [])))).broken ≡ breaks 10 1
unfolding finds calls
lends_constant = refl

lends_array : (finds (function 0 (codes "f") (parameter (single (of kind.Int)) true ∷ []) ∷ [])
    (node 1 operation.Call (calls (name 1 (codes "a") ∷ [])))).broken ≡ breaks 9 1
unfolding finds calls
lends_array = refl

lends_literal : (finds (function 0 (codes "f") (parameter (single (of kind.Int)) true ∷ []) ∷ [])
    (node 1 operation.Call (calls (number 1 1 ∷ [])))).broken ≡ breaks 8 1
unfolding finds calls
lends_literal = refl

too_many : (finds (function 0 (codes "f") (parameter (single (of kind.Int)) true ∷ []) ∷ [])
    (node 1 operation.Call (calls (name 1 (codes "i") ∷ name 1 (codes "i") ∷ [])))).broken ≡ breaks 5 1
unfolding finds calls
too_many = refl

-- f(a), where f is void f(int x[]): 26 an array is handed over by value
array_by_value : (finds (function 0 (codes "f") (parameter (line (of kind.Int)) false ∷ []) ∷ [])
    (node 1 operation.Call (calls (name 1 (codes "a") ∷ [])))).broken ≡ breaks 26 1
unfolding finds calls
array_by_value = refl

-- f(i) of void f(double x) and void f(int x): the cheaper is called; of f(double) and f(long): 6
cheaper : (finds (function 0 (codes "f") (parameter (single (base.Simple simple.Double)) false ∷ [])
    ∷ function 1 (codes "f") (parameter (single (of kind.Int)) false ∷ []) ∷ [])
    (node 1 operation.Call (calls (name 1 (codes "i") ∷ [])))).info
    ≡ Some (nothing [] (e.Call (callee.Direct 1) false (read 0 ∷ [])))
unfolding finds calls
cheaper = refl

equal : (finds (function 0 (codes "f") (parameter (single (base.Simple simple.Double)) false ∷ [])
    ∷ function 1 (codes "f") (parameter (single (of kind.Long)) false ∷ []) ∷ [])
    (node 1 operation.Call (calls (name 1 (codes "i") ∷ [])))).broken ≡ breaks 6 1
unfolding finds calls
equal = refl

-- (s - i) % d: the node of `-`, below which nothing is broken, is told, and not that of `%`
innermost : (finds [] (node 1 (operation.Binary binary.Remainder)
    (node 2 operation.Parentheses (node 3 (operation.Binary binary.Subtract) (name 3 (codes "s") ∷ name 3 (codes "i") ∷ []) ∷ [])
    ∷ name 1 (codes "d") ∷ []))).broken ≡ breaks 14 3
unfolding finds
innermost = refl

-- f() + 1, where f gives nothing: 23
void_used : (finds (function 0 (codes "f") [] ∷ [])
    (node 1 (operation.Binary binary.Add) (node 2 operation.Call (name 2 (codes "f") ∷ []) ∷ number 1 1 ∷ []))).broken ≡ breaks 23 1
unfolding finds
void_used = refl
