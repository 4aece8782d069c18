-- Native functions that compute by values, or change a string, are never stuck.
use denote.Hole.Carrier.{out, roll}
use Rattle.fx8.specs.Doubles.{double}
use Rattle.mql_mean.specs.declared.value.Value.TheOpen.{Value-F}
use Rattle.std.proofs.Common.{◌≡◌, ℕ, ℤ, pos, negsuc, Bool, true, false, List, [], ◌∷◌, ◌++◌, length, drop, Option, Some, None, Result, refl, sym, ap, ◌∙◌, subst, zero, suc, not, take, Ok, Err}
use Rattle.std.specs.Prelude.{◌-◌, unsigned_abs, slice_get, replicate, int_lt, nat_le, ◌==◌, ◌/◌, ◌%◌, ◌&&◌}
use Rattle.fx8.specs.declared.int_kind.IntKind.{IntKind}
use Rattle.fx8.specs.declared.int_kind.IntKind.TheVariants as kind
use Rattle.fx8.specs.declared.fix_fault.FixFault.{FixFault}
use Rattle.mql_mean.specs.declared.value.Value.{Value, out-Value, roll-Value, roll-out-Value}
use Rattle.mql_mean.specs.declared.value.Value.TheVariants as value
use Rattle.mql_mean.specs.declared.host.HostCall.{HostCall}
use Rattle.mql_mean.specs.Answer.{Answer, Replied, Refused}
use Rattle.natives.specs.declared.native.Native.{Native}
use Rattle.natives.specs.declared.native.Native.TheVariants as natives
use Rattle.natives.specs.declared.signature.Parameter.{Parameter}
use Rattle.natives.specs.declared.signature.ParameterKind.{ParameterKind}
use Rattle.natives.specs.declared.signature.ParameterKind.TheVariants as parameter
use Rattle.natives.specs.declared.signature.Elements.TheVariants as elements
use Rattle.natives.specs.declared.signature.Passing.{Passing}
use Rattle.natives.specs.declared.signature.Passing.TheVariants as passing
use Rattle.natives.specs.declared.signature.ResultType.{ResultType}
use Rattle.natives.specs.declared.signature.ResultType.TheVariants as results
use Rattle.natives.specs.declared.types.SimpleType.{SimpleType}
use Rattle.natives.specs.declared.types.SimpleType.TheVariants as simple
use Rattle.natives.specs.Signatures.{signature}
use Rattle.mql_meaning.specs.declared.cell.Cell.{Cell, out-Cell}
use Rattle.mql_meaning.specs.declared.cell.Cell.TheVariants as cell
use Rattle.mql_meaning.specs.declared.cell.Cell.TheOpen.{Cell-F}
use Rattle.mql_meaning.specs.declared.place.Place.{Place}
use Rattle.mql_meaning.specs.declared.store.Store.{Store}
use Rattle.mql_meaning.specs.declared.types.Base.{Base}
use Rattle.mql_meaning.specs.declared.types.Base.TheVariants as base
use Rattle.mql_meaning.specs.declared.types.Sort.{Sort}
use Rattle.mql_meaning.specs.declared.types.Sort.TheVariants as sort
use Rattle.mql_meaning.specs.declared.types.VarType.{VarType}
use Rattle.mql_meaning.specs.Changes.{Stopped, Change, after, then_some, either, fail, the, for_each, Out, Done, Over}
use Rattle.mql_meaning.specs.Runs.{World, world, Act}
use Rattle.mql_meaning.specs.Operands.{Operand, Val, At}
use Rattle.mql_meaning.specs.Operators.{sort_of, string_of, units_of, no_fault}
use Rattle.mql_meaning.specs.Places.{number_of, value_at}
use Rattle.mql_meaning.specs.References.{cells_at, put_at}
use Rattle.mql_meaning.specs.Calls.{asks, ask, answered, replied, fits, host_call, values_of, places_in, arguments, tells, does_native, runs_native, calls_native}
use Rattle.mql_meaning.specs.Natives.{Argument, Given, Lent, NativeDone, a_number, a_double, a_string, lent_string, gives, refuses, in_range, gives_text, gives_double, becomes_text, with_1, with_2, with_3, whole, minus_one, truth_value, empty, computes, finds, unit_at, an_array, resizes, void_value, a_value, formats, of_number, of_numbers}
use Rattle.natives.specs.Names.{native_number}
use Rattle.mql_meaning.specs.StringFunctions.{place_in, count_in, find_from}
use Rattle.mql_meaning.specs.Dates.{has_date}
use Rattle.stack_code.specs.declared.code.Code.{Code}
use Rattle.stack_code.specs.declared.code.FunctionCode.{FunctionCode}
use Rattle.stack_code.specs.declared.code.OperandType.{OperandType}
use Rattle.stack_validity.specs.Types.{base_sort, plain_sort, type_sort, OfSort, TopOf, StructureTop, CellOf, part_by, Layer}
use Rattle.stack_validity.specs.Fits.{OperandOf, StoreFits, Safe, Leaves}
use Rattle.stack_validity.specs.Rules.{suits, simple_sort, is_computed, TakesParameter, TakesAll, ArrayPlace, AllShown, FormatShown, is_counted, is_comparing, Counted, BothCounted, OneKind, TwoKinds}
use Rattle.stack_validity.proofs.Values.{none_some, one_of, some_same, array_kept, sort_is}
use Rattle.stack_validity.proofs.Keeps.{array_from}
use Rattle.mql_meaning.specs.ArrayFunctions.{ArrayParts, array_at, array_of, rebuilt, added, resized, range}
use Rattle.mql_meaning.specs.MathFunctions.{one, square_root, multiplied, inverse_if, power, size_of, greater, lesser}
use Rattle.mql_mean.specs.declared.error.ErrorKind.TheVariants.{MathDomain}
use Rattle.fx8.specs.Integers.{is_zero}
use Rattle.fx8.specs.declared.fix_fault.FixFault.TheVariants as fault
use Rattle.mql_meaning.specs.Formats.{format}
use Rattle.stack_validity.proofs.Cells.{layer_of, out_array}
use Rattle.stack_validity.proofs.Stores.{give_safe, then_safe, the_safe, cell_safe, replace_safe, fail_safe}
use Rattle.stack_validity.proofs.Computing.{value_sort, has_part, text_safe, no_fault_safe}
use Rattle.stack_validity.proofs.Operating.{ArgumentsOf}
use Rattle.stack_validity.proofs.Talking.{Comes, Does, then_does, next_does, change_does, pure_does, halt_does, choose_not, OfResult, result_sort}

-- a value of the sort of a result
abbrev LikeSort : List OperandType → Value → Type 0
LikeSort [] v = ⊥
LikeSort (k ∷ ks) v = (s : Sort) → type_sort k.of ≡ Some s → sort_of v ≡ Some s

abbrev pub SortOf : ResultType → List OperandType → Value → Type 0
SortOf results.Void ks v = Unit {0}
SortOf (results.Simple t) ks v = sort_of v ≡ Some (simple_sort t)
SortOf results.Common ks v = LikeSort ks v
SortOf results.Pointer ks v = ⊥

pub of_sort : (r : ResultType) (ks : List OperandType) (v : Value) → OfResult r v → SortOf r ks v
of_sort results.Void ks v e = tt
of_sort (results.Simple t) ks v e = result_sort t v e
of_sort results.Common ks v e = absurd cc
of_sort results.Pointer ks v e = absurd cc

-- an argument of a parameter
abbrev IsArgument : Code → ParameterKind → Passing → OperandType → Argument → Type 0
IsArgument code (parameter.Simple t) passing.Value k (Given v) = (a : Sort) × (suits (simple_sort t) a ≡ true) × (sort_of v ≡ Some a)
IsArgument code (parameter.Simple t) passing.Value k (Lent c) = ⊥
IsArgument code (parameter.Simple t) passing.Reference k (Given v) = ⊥
IsArgument code (parameter.Simple t) passing.Reference k (Lent c) = (v : Value) × (out-Cell c ≡ Cell-F.One v) × (sort_of v ≡ Some (simple_sort t))
IsArgument code (parameter.Array elements.Any) p k (Given v) = ⊥
IsArgument code (parameter.Array elements.Any) p k (Lent c) = ArrayPlace k × CellOf code.classes k.of c
IsArgument code _ _ k x = ⊥

abbrev AreArguments : Code → List Parameter → List OperandType → List Argument → Type 0
AreArguments code [] [] [] = Unit {0}
AreArguments code [] [] (x ∷ xs) = ⊥
AreArguments code [] (k ∷ ks) xs = ⊥
AreArguments code (p ∷ ps) [] xs = ⊥
AreArguments code (p ∷ ps) (k ∷ ks) [] = ⊥
AreArguments code (p ∷ ps) (k ∷ ks) (x ∷ xs) = IsArgument code p.kind p.passing k x × AreArguments code ps ks xs

-- what a reference argument becomes: the first one becomes a value of its sort, or all stay
abbrev OutOf : Code → ParameterKind → Passing → OperandType → Cell → Type 0
OutOf code (parameter.Simple t) passing.Reference k c = (v : Value) × (c ≡ cell.One v) × (sort_of v ≡ Some (simple_sort t))
OutOf code (parameter.Array elements.Any) p k c = CellOf code.classes k.of c
OutOf code _ _ k c = ⊥

abbrev OutsOf : Code → List Parameter → List OperandType → List Cell → Type 0
OutsOf code ps ks [] = Unit {0}
OutsOf code [] ks (c ∷ cs) = ⊥
OutsOf code (p ∷ ps) [] (c ∷ cs) = ⊥
OutsOf code (p ∷ ps) (k ∷ ks) (c ∷ []) = OutOf code p.kind p.passing k c
OutsOf code (p ∷ ps) (k ∷ ks) (c ∷ d ∷ cs) = ⊥

pub record DoneOf (code : Code) (r : ResultType) (ps : List Parameter) (ks : List OperandType) (d : NativeDone) : Type 0 where
  pub value : SortOf r ks d.value
  pub outs : OutsOf code ps ks d.outs

-- what native functions compute, in any store
module _ (code : Code) (AtEnd J : Store → Type 0) (to_end : (store : Store) → J store → AtEnd store) where
  abbrev C : {A : Type 0} → (A → Type 0) → Change A → Type 0
  C P f = Safe AtEnd J J P f

  abbrev Any : {A : Type 0} → A → Type 0
  Any a = Unit {0}

  pub number_safe : (k : IntKind) (o : OperandType) (x : Argument) → IsArgument code (parameter.Simple (simple.Integer k)) passing.Value o x → C Any (a_number x)
  number_safe k o (Given v) h = then_safe code AtEnd (give_safe code AtEnd {P = λ w. v ≡ w} v refl) (λ w e. let p = has_part (sort.Number k) h.0 v h.1 h.2 in the_safe code AtEnd (number_of w) p.0 (ap number_of (sym e) ∙ p.1) (tt {0}))
  number_safe k o (Lent c) h = absurd h

  double_safe : (o : OperandType) (x : Argument) → IsArgument code (parameter.Simple simple.Double) passing.Value o x → C Any (a_double x)
  double_safe o (Given v) h = then_safe code AtEnd (give_safe code AtEnd {P = λ w. v ≡ w} v refl) (λ w e. let p = has_part sort.Double h.0 v h.1 h.2 in the_safe code AtEnd (units_of w) p.0 (ap units_of (sym e) ∙ p.1) (tt {0}))
  double_safe o (Lent c) h = absurd h

  pub string_safe : (o : OperandType) (x : Argument) → IsArgument code (parameter.Simple simple.String) passing.Value o x → C Any (a_string x)
  string_safe o (Given v) h = then_safe code AtEnd (give_safe code AtEnd {P = λ w. v ≡ w} v refl) (λ w e. let p = has_part sort.String h.0 v h.1 h.2 in the_safe code AtEnd (string_of w) p.0 (ap string_of (sym e) ∙ p.1) (tt {0}))
  string_safe o (Lent c) h = absurd h

  lent_safe : (o : OperandType) (x : Argument) → IsArgument code (parameter.Simple simple.String) passing.Reference o x → C Any (lent_string x)
  lent_safe o (Given v) h = absurd h
  lent_safe o (Lent c) h = then_safe code AtEnd (give_safe code AtEnd {P = λ d. c ≡ d} c refl) (λ d e.
      let p = has_part sort.String sort.String h.0 refl h.2 in
      the_safe code AtEnd (then_some (value_at (out-Cell d)) string_of) p.0 (ap (λ d. then_some (value_at (out-Cell d)) string_of) (sym e) ∙ ap (λ x. then_some (value_at x) string_of) h.1 ∙ p.1) (tt {0}))

  module _ (r : ResultType) (ps : List Parameter) (ks : List OperandType) where
    gives_safe : (v : Value) → SortOf r ks v → C (DoneOf code r ps ks) (gives v)
    gives_safe v h = give_safe code AtEnd _ (record { value = h; outs = tt })

    refuses_safe : (v : Value) → SortOf r ks v → C (DoneOf code r ps ks) (refuses v)
    refuses_safe v h = give_safe code AtEnd _ (record { value = h; outs = tt })

    range_safe : {A : Type 0} (v : Value) (o : Option A) (f : A → Change NativeDone) → SortOf r ks v → ((a : A) → C (DoneOf code r ps ks) (f a)) → C (DoneOf code r ps ks) (in_range v o f)
    range_safe v None f h k = refuses_safe v h
    range_safe v (Some a) f h k = k a

  gives_text_safe : (ps : List Parameter) (ks : List OperandType) (s : List ℕ) → C (DoneOf code (results.Simple simple.String) ps ks) (gives_text s)
  gives_text_safe ps ks s = then_safe code AtEnd (text_safe code AtEnd J to_end s) (λ v h. gives_safe (results.Simple simple.String) ps ks v h)

  double_sort : (x : ℤ) → sort_of (value.Dbl x) ≡ Some sort.Double
  unfolding out-Value denote.Hole.Carrier.out
  double_sort x = refl

  pub number_sort : (k : IntKind) (x : ℤ) → sort_of (value.Num k x) ≡ Some (sort.Number k)
  unfolding out-Value denote.Hole.Carrier.out
  number_sort k x = refl

  empty_sort : sort_of empty ≡ Some sort.String
  unfolding out-Value denote.Hole.Carrier.out
  empty_sort = refl

  gives_double_safe : (ps : List Parameter) (ks : List OperandType) (x : ℤ) → C (DoneOf code (results.Simple simple.Double) ps ks) (gives_double x)
  gives_double_safe ps ks x = gives_safe (results.Simple simple.Double) ps ks (value.Dbl x) (double_sort x)

  abbrev faulted : Result ℤ FixFault → Change NativeDone
  faulted o = λ store. after (no_fault o store) gives_double

  fault_double_safe : (ps : List Parameter) (ks : List OperandType) (o : Result ℤ FixFault) → C (DoneOf code (results.Simple simple.Double) ps ks) (faulted o)
  fault_double_safe ps ks o = then_safe code AtEnd (no_fault_safe code AtEnd J to_end o) (λ z u. gives_double_safe ps ks z)

  -- a string that is the first argument becomes another one
  becomes_safe : (r : ResultType) (p : Parameter) (ps : List Parameter) (o : OperandType) (ks : List OperandType) (s : List ℕ) (v : Value) → p.kind ≡ parameter.Simple simple.String → p.passing ≡ passing.Reference → SortOf r (o ∷ ks) v → C (DoneOf code r (p ∷ ps) (o ∷ ks)) (becomes_text s v)
  becomes_safe r p ps o ks s v k q h = then_safe code AtEnd (text_safe code AtEnd J to_end s) (λ t e.
      give_safe code AtEnd _ (record { value = h; outs = subst (λ q. OutOf code p.kind q o (cell.One t)) (sym q) (subst (λ k. OutOf code k passing.Reference o (cell.One t)) (sym k) (t, refl, e)) }))

  -- one argument, two and three
  module _ (Q : List OperandType → NativeDone → Type 0) where
    one_argument : {A : Type 0} {P : OperandType → A → Type 0} (p : Parameter) (a : Argument → Change A) (f : A → Change NativeDone) (ks : List OperandType) (xs : List Argument) → AreArguments code (p ∷ []) ks xs
        → ((k : OperandType) (x : Argument) → IsArgument code p.kind p.passing k x → C (P k) (a x)) → ((k : OperandType) (u : A) → P k u → C (Q (k ∷ [])) (f u)) → C (Q ks) (with_1 a f xs)
    one_argument p a f [] xs h k g = absurd h
    one_argument p a f (o ∷ []) [] h k g = absurd h
    one_argument p a f (o ∷ []) (x ∷ []) h k g = then_safe code AtEnd (k o x h.0) (λ u e. g o u e)
    one_argument p a f (o ∷ []) (x ∷ y ∷ xs) h k g = absurd h.1
    one_argument p a f (o ∷ q ∷ ks) [] h k g = absurd h
    one_argument p a f (o ∷ q ∷ ks) (x ∷ xs) h k g = absurd h.1

    two_arguments : {A B : Type 0} {P : OperandType → A → Type 0} (p q : Parameter) (a : Argument → Change A) (b : Argument → Change B) (f : A → B → Change NativeDone) (ks : List OperandType) (xs : List Argument) → AreArguments code (p ∷ q ∷ []) ks xs
        → ((k : OperandType) (x : Argument) → IsArgument code p.kind p.passing k x → C (P k) (a x)) → ((k : OperandType) (x : Argument) → IsArgument code q.kind q.passing k x → C Any (b x))
        → ((k j : OperandType) (u : A) (v : B) → P k u → C (Q (k ∷ j ∷ [])) (f u v)) → C (Q ks) (with_2 a b f xs)
    two_arguments p q a b f [] xs h k l g = absurd h
    two_arguments p q a b f (o ∷ ks) [] h k l g = absurd h
    two_arguments p q a b f (o ∷ []) (x ∷ xs) h k l g = absurd h.1
    two_arguments p q a b f (o ∷ w ∷ ks) (x ∷ []) h k l g = absurd h.1
    two_arguments p q a b f (o ∷ w ∷ []) (x ∷ y ∷ []) h k l g = then_safe code AtEnd (k o x h.0) (λ u e. then_safe code AtEnd (l w y h.1.0) (λ v _. g o w u v e))
    two_arguments p q a b f (o ∷ w ∷ []) (x ∷ y ∷ z ∷ xs) h k l g = absurd h.1.1
    two_arguments p q a b f (o ∷ w ∷ z ∷ ks) (x ∷ y ∷ xs) h k l g = absurd h.1.1

    three_arguments : {A B D : Type 0} {P : OperandType → A → Type 0} (p q r : Parameter) (a : Argument → Change A) (b : Argument → Change B) (d : Argument → Change D) (f : A → B → D → Change NativeDone) (ks : List OperandType) (xs : List Argument) → AreArguments code (p ∷ q ∷ r ∷ []) ks xs
        → ((k : OperandType) (x : Argument) → IsArgument code p.kind p.passing k x → C (P k) (a x)) → ((k : OperandType) (x : Argument) → IsArgument code q.kind q.passing k x → C Any (b x)) → ((k : OperandType) (x : Argument) → IsArgument code r.kind r.passing k x → C Any (d x))
        → ((k j i : OperandType) (u : A) (v : B) (w : D) → P k u → C (Q (k ∷ j ∷ i ∷ [])) (f u v w)) → C (Q ks) (with_3 a b d f xs)
    three_arguments p q r a b d f [] xs h k l m g = absurd h
    three_arguments p q r a b d f (o ∷ ks) [] h k l m g = absurd h
    three_arguments p q r a b d f (o ∷ []) (x ∷ xs) h k l m g = absurd h.1
    three_arguments p q r a b d f (o ∷ n ∷ ks) (x ∷ []) h k l m g = absurd h.1
    three_arguments p q r a b d f (o ∷ n ∷ []) (x ∷ y ∷ xs) h k l m g = absurd h.1.1
    three_arguments p q r a b d f (o ∷ n ∷ t ∷ ks) (x ∷ y ∷ []) h k l m g = absurd h.1.1
    three_arguments p q r a b d f (o ∷ n ∷ t ∷ []) (x ∷ y ∷ z ∷ []) h k l m g = then_safe code AtEnd (k o x h.0) (λ u e. then_safe code AtEnd (l n y h.1.0) (λ v _. then_safe code AtEnd (m t z h.1.1.0) (λ w _. g o n t u v w e)))
    three_arguments p q r a b d f (o ∷ n ∷ t ∷ []) (x ∷ y ∷ z ∷ w ∷ xs) h k l m g = absurd h.1.1.1
    three_arguments p q r a b d f (o ∷ n ∷ t ∷ j ∷ ks) (x ∷ y ∷ z ∷ xs) h k l m g = absurd h.1.1.1

  abbrev DoneBy : Native → List OperandType → NativeDone → Type 0
  DoneBy f ks = DoneOf code (signature f).result (signature f).parameters ks

  abbrev D : Native → List OperandType → List Argument → Type 0
  D f ks xs = C (DoneOf code (signature f).result (signature f).parameters ks) (computes f xs)

  abbrev val : SimpleType → Parameter
  val t = record { kind = parameter.Simple t; passing = passing.Value; default = None }

  abbrev opt : SimpleType → ℤ → Parameter
  opt t n = record { kind = parameter.Simple t; passing = passing.Value; default = Some n }

  abbrev ref : SimpleType → Parameter
  ref t = record { kind = parameter.Simple t; passing = passing.Reference; default = None }

  abbrev arr : Passing → Parameter
  arr p = record { kind = parameter.Array elements.Any; passing = p; default = None }

  abbrev inte : IntKind → SimpleType
  inte k = simple.Integer k

  string_len : (ks : List OperandType) (xs : List Argument) → AreArguments code (signature natives.StringLen).parameters ks xs → D natives.StringLen ks xs
  unfolding signature
  string_len ks xs h = one_argument (DoneBy natives.StringLen) (val simple.String) a_string _ ks xs h string_safe (λ o s e. gives_safe _ _ _ _ (number_sort kind.Int _))

  string_substr : (ks : List OperandType) (xs : List Argument) → AreArguments code (signature natives.StringSubstr).parameters ks xs → D natives.StringSubstr ks xs
  unfolding signature
  string_substr ks xs h = three_arguments (DoneBy natives.StringSubstr) (val simple.String) (val (inte kind.Int)) (opt (inte kind.Int) (negsuc 0)) a_string a_number a_number _ ks xs h string_safe (number_safe kind.Int) (number_safe kind.Int)
      (λ o q r s start len e. range_safe _ _ _ empty (place_in start (length s)) _ empty_sort (λ i. range_safe _ _ _ empty (count_in len (length s - i)) _ empty_sort (λ n. gives_text_safe _ _ _)))

  math_floor : (ks : List OperandType) (xs : List Argument) → AreArguments code (signature natives.MathFloor).parameters ks xs → D natives.MathFloor ks xs
  unfolding signature
  math_floor ks xs h = one_argument (DoneBy natives.MathFloor) (val simple.Double) a_double _ ks xs h double_safe (λ o x e. fault_double_safe _ _ _)

  string_replace : (ks : List OperandType) (xs : List Argument) → AreArguments code (signature natives.StringReplace).parameters ks xs → D natives.StringReplace ks xs
  unfolding signature
  string_replace ks xs h = three_arguments (DoneBy natives.StringReplace) (ref simple.String) (val simple.String) (val simple.String) lent_string a_string a_string _ ks xs h lent_safe string_safe string_safe
      (λ o q r s part by e. becomes_safe _ (ref simple.String) _ _ _ _ _ refl refl (number_sort kind.Int _))

  string_find : (ks : List OperandType) (xs : List Argument) → AreArguments code (signature natives.StringFind).parameters ks xs → D natives.StringFind ks xs
  unfolding signature
  string_find ks xs h = three_arguments (DoneBy natives.StringFind) (val simple.String) (val simple.String) (opt (inte kind.Int) (pos 0)) a_string a_string a_number _ ks xs h string_safe string_safe (number_safe kind.Int)
      (λ o q r s part start e. range_safe _ _ _ minus_one (place_in start (length s)) _ (number_sort kind.Int _) (λ i. found_or (o ∷ q ∷ r ∷ []) i s part))
    where
      found_or : (ks : List OperandType) (i : ℕ) (s part : List ℕ) → C (DoneOf code (results.Simple (inte kind.Int)) (val simple.String ∷ val simple.String ∷ opt (inte kind.Int) (pos 0) ∷ []) ks) (finds s part i)
      found_or ks i s part = gives_safe _ _ _ _ (by_found (find_from i part (drop i s)))
        where
          by_found : (o : Option ℕ) → sort_of (elim o as (λ _. Value) [ Some k ↦ whole k | None ↦ minus_one ]) ≡ Some (sort.Number kind.Int)
          by_found (Some k) = number_sort kind.Int _
          by_found None = number_sort kind.Int _

  string_trim_left : (ks : List OperandType) (xs : List Argument) → AreArguments code (signature natives.StringTrimLeft).parameters ks xs → D natives.StringTrimLeft ks xs
  unfolding signature
  string_trim_left ks xs h = one_argument (DoneBy natives.StringTrimLeft) (ref simple.String) lent_string _ ks xs h lent_safe (λ o s e. becomes_safe _ (ref simple.String) _ _ _ _ _ refl refl (number_sort kind.Int _))

  string_trim_right : (ks : List OperandType) (xs : List Argument) → AreArguments code (signature natives.StringTrimRight).parameters ks xs → D natives.StringTrimRight ks xs
  unfolding signature
  string_trim_right ks xs h = one_argument (DoneBy natives.StringTrimRight) (ref simple.String) lent_string _ ks xs h lent_safe (λ o s e. becomes_safe _ (ref simple.String) _ _ _ _ _ refl refl (number_sort kind.Int _))

  string_to_lower : (ks : List OperandType) (xs : List Argument) → AreArguments code (signature natives.StringToLower).parameters ks xs → D natives.StringToLower ks xs
  unfolding signature
  string_to_lower ks xs h = one_argument (DoneBy natives.StringToLower) (ref simple.String) lent_string _ ks xs h lent_safe (λ o s e. becomes_safe _ (ref simple.String) _ _ _ _ _ refl refl (number_sort kind.Bool _))

  string_to_upper : (ks : List OperandType) (xs : List Argument) → AreArguments code (signature natives.StringToUpper).parameters ks xs → D natives.StringToUpper ks xs
  unfolding signature
  string_to_upper ks xs h = one_argument (DoneBy natives.StringToUpper) (ref simple.String) lent_string _ ks xs h lent_safe (λ o s e. becomes_safe _ (ref simple.String) _ _ _ _ _ refl refl (number_sort kind.Bool _))

  string_get_character : (ks : List OperandType) (xs : List Argument) → AreArguments code (signature natives.StringGetCharacter).parameters ks xs → D natives.StringGetCharacter ks xs
  unfolding signature
  string_get_character ks xs h = two_arguments (DoneBy natives.StringGetCharacter) (val simple.String) (val (inte kind.Int)) a_string a_number _ ks xs h string_safe (number_safe kind.Int)
      (λ o q s i e. range_safe _ _ _ (value.Num kind.Ushort (pos 0)) (unit_at s i) _ (number_sort kind.Ushort _) (λ u. gives_safe _ _ _ _ (number_sort kind.Ushort _)))

  string_set_character : (ks : List OperandType) (xs : List Argument) → AreArguments code (signature natives.StringSetCharacter).parameters ks xs → D natives.StringSetCharacter ks xs
  unfolding signature
  string_set_character ks xs h = three_arguments (DoneBy natives.StringSetCharacter) (ref simple.String) (val (inte kind.Int)) (val (inte kind.Ushort)) lent_string a_number a_number _ ks xs h lent_safe (number_safe kind.Int) (number_safe kind.Ushort)
      (λ o q r s i c e. range_safe _ _ _ (truth_value false) (place_in i (length s)) _ (number_sort kind.Bool _) (λ k. becomes_safe _ (ref simple.String) _ _ _ _ _ refl refl (number_sort kind.Bool _)))

  string_compare : (ks : List OperandType) (xs : List Argument) → AreArguments code (signature natives.StringCompare).parameters ks xs → D natives.StringCompare ks xs
  unfolding signature
  string_compare ks xs h = three_arguments (DoneBy natives.StringCompare) (val simple.String) (val simple.String) (opt (inte kind.Bool) (pos 1)) a_string a_string a_number _ ks xs h string_safe string_safe (number_safe kind.Bool)
      (λ o q r a b c e. gives_safe _ _ _ _ (number_sort kind.Int _))

  string_to_integer : (ks : List OperandType) (xs : List Argument) → AreArguments code (signature natives.StringToInteger).parameters ks xs → D natives.StringToInteger ks xs
  unfolding signature
  string_to_integer ks xs h = one_argument (DoneBy natives.StringToInteger) (val simple.String) a_string _ ks xs h string_safe (λ o s e. gives_safe _ _ _ _ (number_sort kind.Long _))

  string_to_double : (ks : List OperandType) (xs : List Argument) → AreArguments code (signature natives.StringToDouble).parameters ks xs → D natives.StringToDouble ks xs
  unfolding signature
  string_to_double ks xs h = one_argument (DoneBy natives.StringToDouble) (val simple.String) a_string _ ks xs h string_safe (λ o s e. gives_double_safe _ _ _)

  integer_to_string : (ks : List OperandType) (xs : List Argument) → AreArguments code (signature natives.IntegerToString).parameters ks xs → D natives.IntegerToString ks xs
  unfolding signature
  integer_to_string ks xs h = three_arguments (DoneBy natives.IntegerToString) (val (inte kind.Long)) (opt (inte kind.Int) (pos 0)) (opt (inte kind.Ushort) (pos 32)) a_number a_number a_number _ ks xs h (number_safe kind.Long) (number_safe kind.Int) (number_safe kind.Ushort)
      (λ o q r n width fill e. gives_text_safe _ _ _)

  double_to_string : (ks : List OperandType) (xs : List Argument) → AreArguments code (signature natives.DoubleToString).parameters ks xs → D natives.DoubleToString ks xs
  unfolding signature
  double_to_string ks xs h = two_arguments (DoneBy natives.DoubleToString) (val simple.Double) (opt (inte kind.Int) (pos 8)) a_double a_number _ ks xs h double_safe (number_safe kind.Int) (λ o q x digits e. gives_text_safe _ _ _)

  time_to_string : (ks : List OperandType) (xs : List Argument) → AreArguments code (signature natives.TimeToString).parameters ks xs → D natives.TimeToString ks xs
  unfolding signature
  time_to_string ks xs h = two_arguments (DoneBy natives.TimeToString) (val (inte kind.Datetime)) (opt (inte kind.Int) (pos 3)) a_number a_number _ ks xs h (number_safe kind.Datetime) (number_safe kind.Int)
      (λ o q t flags e. by_date (has_date t) (gives_text_safe _ _ _) (refuses_safe _ _ _ empty empty_sort))
    where
      by_date : {Q : NativeDone → Type 0} (b : Bool) {f g : Change NativeDone} → C Q f → C Q g → C Q (either b f g)
      by_date true s t = s
      by_date false s t = t

  char_to_string : (ks : List OperandType) (xs : List Argument) → AreArguments code (signature natives.CharToString).parameters ks xs → D natives.CharToString ks xs
  unfolding signature
  char_to_string ks xs h = one_argument (DoneBy natives.CharToString) (val (inte kind.Uchar)) a_number _ ks xs h (number_safe kind.Uchar) (λ o c e. gives_text_safe _ _ (unsigned_abs c ∷ []))

  short_to_string : (ks : List OperandType) (xs : List Argument) → AreArguments code (signature natives.ShortToString).parameters ks xs → D natives.ShortToString ks xs
  unfolding signature
  short_to_string ks xs h = one_argument (DoneBy natives.ShortToString) (val (inte kind.Ushort)) a_number _ ks xs h (number_safe kind.Ushort) (λ o c e. gives_text_safe _ _ (unsigned_abs c ∷ []))

  math_ceil : (ks : List OperandType) (xs : List Argument) → AreArguments code (signature natives.MathCeil).parameters ks xs → D natives.MathCeil ks xs
  unfolding signature
  math_ceil ks xs h = one_argument (DoneBy natives.MathCeil) (val simple.Double) a_double _ ks xs h double_safe (λ o x e. fault_double_safe _ _ _)

  math_round : (ks : List OperandType) (xs : List Argument) → AreArguments code (signature natives.MathRound).parameters ks xs → D natives.MathRound ks xs
  unfolding signature
  math_round ks xs h = one_argument (DoneBy natives.MathRound) (val simple.Double) a_double _ ks xs h double_safe (λ o x e. fault_double_safe _ _ _)

  math_mod : (ks : List OperandType) (xs : List Argument) → AreArguments code (signature natives.MathMod).parameters ks xs → D natives.MathMod ks xs
  unfolding signature
  math_mod ks xs h = two_arguments (DoneBy natives.MathMod) (val simple.Double) (val simple.Double) a_double a_double _ ks xs h double_safe double_safe (λ o q x y e. fault_double_safe _ _ _)

  math_is_valid_number : (ks : List OperandType) (xs : List Argument) → AreArguments code (signature natives.MathIsValidNumber).parameters ks xs → D natives.MathIsValidNumber ks xs
  unfolding signature
  math_is_valid_number ks xs h = one_argument (DoneBy natives.MathIsValidNumber) (val simple.Double) a_double _ ks xs h double_safe (λ o x e. gives_safe _ _ _ _ (number_sort kind.Bool _))

  normalize_double : (ks : List OperandType) (xs : List Argument) → AreArguments code (signature natives.NormalizeDouble).parameters ks xs → D natives.NormalizeDouble ks xs
  unfolding signature
  normalize_double ks xs h = two_arguments (DoneBy natives.NormalizeDouble) (val simple.Double) (val (inte kind.Int)) a_double a_number _ ks xs h double_safe (number_safe kind.Int) (λ o q x digits e. fault_double_safe _ _ _)

  is_stopped : (ks : List OperandType) (xs : List Argument) → AreArguments code (signature natives.IsStopped).parameters ks xs → D natives.IsStopped ks xs
  unfolding signature
  is_stopped ks xs h = gives_safe _ _ ks _ (number_sort kind.Bool _)

  square_root_safe : (x : ℤ) → C Any (square_root x)
  square_root_safe (pos n) = give_safe code AtEnd _ (tt {0})
  square_root_safe (negsuc n) = fail_safe code AtEnd J to_end MathDomain

  power_safe : (x y : ℤ) → C Any (power x y)
  power_safe x y = by_size (unsigned_abs y % one == 0 && nat_le (unsigned_abs y / one) 256)
    where
      by_size : (b : Bool) → C Any (either b (λ store. after (no_fault (multiplied (unsigned_abs y / one) x (pos one)) store) (λ z. no_fault (inverse_if (int_lt y (pos 0)) z))) (fail MathDomain))
      by_size true = then_safe code AtEnd (no_fault_safe code AtEnd J to_end (multiplied (unsigned_abs y / one) x (pos one))) (λ z u. no_fault_safe code AtEnd J to_end (inverse_if (int_lt y (pos 0)) z))
      by_size false = fail_safe code AtEnd J to_end MathDomain

  math_sqrt : (ks : List OperandType) (xs : List Argument) → AreArguments code (signature natives.MathSqrt).parameters ks xs → D natives.MathSqrt ks xs
  unfolding signature
  math_sqrt ks xs h = one_argument (DoneBy natives.MathSqrt) (val simple.Double) a_double _ ks xs h double_safe (λ o x e. then_safe code AtEnd (square_root_safe x) (λ z u. gives_double_safe _ _ z))

  math_pow : (ks : List OperandType) (xs : List Argument) → AreArguments code (signature natives.MathPow).parameters ks xs → D natives.MathPow ks xs
  unfolding signature
  math_pow ks xs h = two_arguments (DoneBy natives.MathPow) (val simple.Double) (val simple.Double) a_double a_double _ ks xs h double_safe double_safe (λ o q x y e. then_safe code AtEnd (power_safe x y) (λ z u. gives_double_safe _ _ z))

  -- an array of a type
  pub record ArrayOf (k : OperandType) (a : ArrayParts) : Type 0 where
    pub is : ArrayPlace k
    pub fits : CellOf code.classes k.of (rebuilt a)

  pub array_safe : (pp : Passing) (k : OperandType) (x : Argument) → IsArgument code (parameter.Array elements.Any) pp k x → C (ArrayOf k) (an_array x)
  array_safe pp k (Given v) h = absurd h
  array_safe pp k (Lent c) h = then_safe code AtEnd (give_safe code AtEnd {P = λ d. c ≡ d} c refl) (λ d e. subst (λ d. C (ArrayOf k) (the (array_of d))) e (parts (out-Cell c) refl))
    where
      no_one : (v : Value) → out-Cell c ≡ Cell-F.One v → ⊥
      no_one v e = subst (λ ns. TopOf code.classes k.of.base ns (Cell-F.One v)) h.0.dimensions (subst (TopOf code.classes k.of.base k.of.dimensions) e (layer_of code.classes k.of c h.1).top)

      no_structure : (cs : List Cell) → out-Cell c ≡ Cell-F.Structure cs → ⊥
      no_structure cs e = subst (λ ns. TopOf code.classes k.of.base ns (Cell-F.Structure cs)) h.0.dimensions (subst (TopOf code.classes k.of.base k.of.dimensions) e (layer_of code.classes k.of c h.1).top)

      parts : (x : Cell-F Cell) → out-Cell c ≡ x → C (ArrayOf k) (the (array_of c))
      parts (Cell-F.One v) e = absurd (no_one v e)
      parts (Cell-F.Structure cs) e = absurd (no_structure cs e)
      parts (Cell-F.Array dynamic series unit cs) e = the_safe code AtEnd (array_of c) (record { dynamic = dynamic; series = series; unit = unit; cells = cs }) (ap array_at e)
          (record { is = h.0; fits = subst (CellOf code.classes k.of) (array_from c dynamic series unit cs e) h.1 })

  -- an array with other elements of its type, which have the new size that it may have
  array_again : (k : OperandType) (a : ArrayParts) (series : Bool) (new : List Cell) → ArrayOf k a → (a.dynamic ≡ false → length new ≡ length a.cells)
      → ((P : Cell → Type 0) → ((i : ℕ) (c : Cell) → slice_get a.cells i ≡ Some c → P c) → ((i : ℕ) (c : Cell) → slice_get a.unit i ≡ Some c → P c) → (i : ℕ) (c : Cell) → slice_get new i ≡ Some c → P c)
      → CellOf code.classes k.of (cell.Array a.dynamic series a.unit new)
  array_again k a series new h size all =
      let l = subst (Layer code.classes (CellOf code.classes) k.of) (out_array a.dynamic a.series a.unit a.cells) (layer_of code.classes k.of (rebuilt a) h.fits) in
      array_kept code.classes k.of.base k.of.dimensions a.dynamic a.series series a.unit a.cells new l size
      (λ u i d e is. all (CellOf code.classes u) (λ j c there. l.items j u c (same u e j) there) (λ j c there. l.begins u c e (unit_first (begin_of l.top) j c there)) i d is)
    where
      same : (u : VarType) → part_by code.classes k.of.base k.of.dimensions 0 ≡ Some u → (j : ℕ) → part_by code.classes k.of.base k.of.dimensions j ≡ Some u
      same u e j = subst (λ ns. part_by code.classes k.of.base ns 0 ≡ Some u → part_by code.classes k.of.base ns j ≡ Some u) (sym h.is.dimensions) (λ e. e) e

      begin_of : TopOf code.classes k.of.base k.of.dimensions (Cell-F.Array a.dynamic a.series a.unit a.cells) → (b : Cell) × (a.unit ≡ b ∷ [])
      begin_of t = let u = subst (λ ns. TopOf code.classes k.of.base ns (Cell-F.Array a.dynamic a.series a.unit a.cells)) h.is.dimensions t in (u.begin, u.begins)

      first_only : (b c : Cell) (j : ℕ) → slice_get (b ∷ []) j ≡ Some c → slice_get (b ∷ []) 0 ≡ Some c
      first_only b c zero e = e
      first_only b c (suc j) e = absurd (none_some e)

      unit_first : (b : Cell) × (a.unit ≡ b ∷ []) → (j : ℕ) (c : Cell) → slice_get a.unit j ≡ Some c → slice_get a.unit 0 ≡ Some c
      unit_first b j c e = ap (λ us. slice_get us 0) b.1 ∙ first_only b.0 c j (ap (λ us. slice_get us j) (sym b.1) ∙ e)

  all_taken : (P : Cell → Type 0) (n : ℕ) (xs : List Cell) → ((i : ℕ) (c : Cell) → slice_get xs i ≡ Some c → P c) → (i : ℕ) (c : Cell) → slice_get (take n xs) i ≡ Some c → P c
  all_taken P zero xs h i c e = absurd (none_some e)
  all_taken P (suc n) [] h i c e = absurd (none_some e)
  all_taken P (suc n) (x ∷ xs) h zero c e = h zero c e
  all_taken P (suc n) (x ∷ xs) h (suc i) c e = all_taken P n xs (λ i. h (suc i)) i c e

  all_joined : (P : Cell → Type 0) (xs ys : List Cell) → ((i : ℕ) (c : Cell) → slice_get xs i ≡ Some c → P c) → ((i : ℕ) (c : Cell) → slice_get ys i ≡ Some c → P c) → (i : ℕ) (c : Cell) → slice_get (xs ++ ys) i ≡ Some c → P c
  all_joined P [] ys h g i c e = g i c e
  all_joined P (x ∷ xs) ys h g zero c e = h zero c e
  all_joined P (x ∷ xs) ys h g (suc i) c e = all_joined P xs ys (λ i. h (suc i)) g i c e

  all_copies : (P : Cell → Type 0) (n : ℕ) (u : Cell) → P u → (i : ℕ) (c : Cell) → slice_get (replicate n u) i ≡ Some c → P c
  all_copies P zero u h i c e = absurd (none_some e)
  all_copies P (suc n) u h zero c e = subst P (some_same e) h
  all_copies P (suc n) u h (suc i) c e = all_copies P n u h i c e

  all_added : (P : Cell → Type 0) (us : List Cell) (n : ℕ) → ((i : ℕ) (c : Cell) → slice_get us i ≡ Some c → P c) → (i : ℕ) (c : Cell) → slice_get (added us n) i ≡ Some c → P c
  all_added P [] n h i c e = absurd (none_some e)
  all_added P (u ∷ us) n h i c e = all_copies P n u (h 0 u refl) i c e

  dynamic_not : (a : ArrayParts) → a.dynamic ≡ true → {B : Type 0} → a.dynamic ≡ false → B
  dynamic_not a e g = let x : true ≡ false = sym e ∙ g in absurd cc

  pub resized_fits : (k : OperandType) (a : ArrayParts) (n : ℕ) → ArrayOf k a → a.dynamic ≡ true → CellOf code.classes k.of (rebuilt (resized n a))
  resized_fits k a n h e =
      array_again k a a.series (take n a.cells ++ added a.unit (n - length a.cells)) h (dynamic_not a e)
      (λ P items units i c there. all_joined P (take n a.cells) (added a.unit (n - length a.cells)) (all_taken P n a.cells items) (all_added P a.unit (n - length a.cells) units) i c there)

  either_safe : {Q : NativeDone → Type 0} (b : Bool) {f g : Change NativeDone} → (b ≡ true → C Q f) → C Q g → C Q (either b f g)
  either_safe true s t = s refl
  either_safe false s t = t

  array_size : (ks : List OperandType) (xs : List Argument) → AreArguments code (signature natives.ArraySize).parameters ks xs → D natives.ArraySize ks xs
  unfolding signature
  array_size ks xs h = one_argument (DoneBy natives.ArraySize) (arr passing.Value) an_array _ ks xs h (array_safe passing.Value) (λ o a e. gives_safe _ _ _ _ (number_sort kind.Int _))

  array_range : (ks : List OperandType) (xs : List Argument) → AreArguments code (signature natives.ArrayRange).parameters ks xs → D natives.ArrayRange ks xs
  unfolding signature
  array_range ks xs h = two_arguments (DoneBy natives.ArrayRange) (arr passing.Value) (val (inte kind.Int)) an_array a_number _ ks xs h (array_safe passing.Value) (number_safe kind.Int)
      (λ o q a d e. range_safe _ _ _ (whole 0) (then_some (place_in d 3) (λ k. range k a.unit a.cells)) _ (number_sort kind.Int _) (λ n. gives_safe _ _ _ _ (number_sort kind.Int _)))

  resizes_safe : (k j i : OperandType) (a : ArrayParts) (n : ℤ) → ArrayOf k a → C (DoneOf code (results.Simple (inte kind.Int)) (arr passing.Reference ∷ val (inte kind.Int) ∷ opt (inte kind.Int) (pos 0) ∷ []) (k ∷ j ∷ i ∷ [])) (resizes a n)
  resizes_safe k j i a (negsuc n) h = refuses_safe _ _ _ minus_one (number_sort kind.Int _)
  resizes_safe k j i a (pos n) h = either_safe a.dynamic (λ e. give_safe code AtEnd _ (record { value = number_sort kind.Int _; outs = resized_fits k a n h e })) (refuses_safe _ _ _ minus_one (number_sort kind.Int _))

  array_resize : (ks : List OperandType) (xs : List Argument) → AreArguments code (signature natives.ArrayResize).parameters ks xs → D natives.ArrayResize ks xs
  unfolding signature
  array_resize ks xs h = three_arguments (DoneBy natives.ArrayResize) (arr passing.Reference) (val (inte kind.Int)) (opt (inte kind.Int) (pos 0)) an_array a_number a_number _ ks xs h (array_safe passing.Reference) (number_safe kind.Int) (number_safe kind.Int)
      (λ o q r a n reserve e. resizes_safe o q r a n e)

  array_free : (ks : List OperandType) (xs : List Argument) → AreArguments code (signature natives.ArrayFree).parameters ks xs → D natives.ArrayFree ks xs
  unfolding signature
  array_free ks xs h = one_argument (DoneBy natives.ArrayFree) (arr passing.Reference) an_array _ ks xs h (array_safe passing.Reference)
      (λ o a e. either_safe a.dynamic (λ d. give_safe code AtEnd _ (record { value = tt; outs = resized_fits o a 0 e d })) (refuses_safe _ _ _ void_value (tt {0})))

  array_set_as_series : (ks : List OperandType) (xs : List Argument) → AreArguments code (signature natives.ArraySetAsSeries).parameters ks xs → D natives.ArraySetAsSeries ks xs
  unfolding signature
  array_set_as_series ks xs h = two_arguments (DoneBy natives.ArraySetAsSeries) (arr passing.Reference) (val (inte kind.Bool)) an_array a_number _ ks xs h (array_safe passing.Reference) (number_safe kind.Bool)
      (λ o q a flag e. give_safe code AtEnd _ (record { value = number_sort kind.Bool _; outs = array_again o a (not (is_zero flag)) a.cells e (λ z. refl) (λ P items units i c there. items i c there) }))

  array_get_as_series : (ks : List OperandType) (xs : List Argument) → AreArguments code (signature natives.ArrayGetAsSeries).parameters ks xs → D natives.ArrayGetAsSeries ks xs
  unfolding signature
  array_get_as_series ks xs h = one_argument (DoneBy natives.ArrayGetAsSeries) (arr passing.Value) an_array _ ks xs h (array_safe passing.Value) (λ o a e. gives_safe _ _ _ _ (number_sort kind.Bool _))

  array_is_dynamic : (ks : List OperandType) (xs : List Argument) → AreArguments code (signature natives.ArrayIsDynamic).parameters ks xs → D natives.ArrayIsDynamic ks xs
  unfolding signature
  array_is_dynamic ks xs h = one_argument (DoneBy natives.ArrayIsDynamic) (arr passing.Value) an_array _ ks xs h (array_safe passing.Value) (λ o a e. gives_safe _ _ _ _ (number_sort kind.Bool _))

  -- each of them
  pub computed_safe : (f : Native) → is_computed f ≡ true → (ks : List OperandType) (xs : List Argument) → AreArguments code (signature f).parameters ks xs → D f ks xs
  computed_safe natives.StringLen e ks xs h = string_len ks xs h
  computed_safe natives.StringSubstr e ks xs h = string_substr ks xs h
  computed_safe natives.StringFind e ks xs h = string_find ks xs h
  computed_safe natives.StringReplace e ks xs h = string_replace ks xs h
  computed_safe natives.StringTrimLeft e ks xs h = string_trim_left ks xs h
  computed_safe natives.StringTrimRight e ks xs h = string_trim_right ks xs h
  computed_safe natives.StringToLower e ks xs h = string_to_lower ks xs h
  computed_safe natives.StringToUpper e ks xs h = string_to_upper ks xs h
  computed_safe natives.StringGetCharacter e ks xs h = string_get_character ks xs h
  computed_safe natives.StringSetCharacter e ks xs h = string_set_character ks xs h
  computed_safe natives.StringCompare e ks xs h = string_compare ks xs h
  computed_safe natives.StringToInteger e ks xs h = string_to_integer ks xs h
  computed_safe natives.StringToDouble e ks xs h = string_to_double ks xs h
  computed_safe natives.IntegerToString e ks xs h = integer_to_string ks xs h
  computed_safe natives.DoubleToString e ks xs h = double_to_string ks xs h
  computed_safe natives.TimeToString e ks xs h = time_to_string ks xs h
  computed_safe natives.CharToString e ks xs h = char_to_string ks xs h
  computed_safe natives.ShortToString e ks xs h = short_to_string ks xs h
  computed_safe natives.MathFloor e ks xs h = math_floor ks xs h
  computed_safe natives.MathCeil e ks xs h = math_ceil ks xs h
  computed_safe natives.MathRound e ks xs h = math_round ks xs h
  computed_safe natives.MathMod e ks xs h = math_mod ks xs h
  computed_safe natives.MathIsValidNumber e ks xs h = math_is_valid_number ks xs h
  computed_safe natives.NormalizeDouble e ks xs h = normalize_double ks xs h
  computed_safe natives.IsStopped e ks xs h = is_stopped ks xs h
  computed_safe natives.ArraySize e ks xs h = array_size ks xs h
  computed_safe natives.ArrayRange e ks xs h = array_range ks xs h
  computed_safe natives.ArrayResize e ks xs h = array_resize ks xs h
  computed_safe natives.ArrayFree e ks xs h = array_free ks xs h
  computed_safe natives.ArraySetAsSeries e ks xs h = array_set_as_series ks xs h
  computed_safe natives.ArrayGetAsSeries e ks xs h = array_get_as_series ks xs h
  computed_safe natives.ArrayIsDynamic e ks xs h = array_is_dynamic ks xs h
  computed_safe natives.MathSqrt e ks xs h = math_sqrt ks xs h
  computed_safe natives.MathPow e ks xs h = math_pow ks xs h
  computed_safe _ e ks xs h = absurd cc

-- they ask no world
computed_asks : (f : Native) → is_computed f ≡ true → asks f ≡ false
unfolding signature
computed_asks natives.StringLen e = refl
computed_asks natives.StringSubstr e = refl
computed_asks natives.StringFind e = refl
computed_asks natives.StringReplace e = refl
computed_asks natives.StringTrimLeft e = refl
computed_asks natives.StringTrimRight e = refl
computed_asks natives.StringToLower e = refl
computed_asks natives.StringToUpper e = refl
computed_asks natives.StringGetCharacter e = refl
computed_asks natives.StringSetCharacter e = refl
computed_asks natives.StringCompare e = refl
computed_asks natives.StringToInteger e = refl
computed_asks natives.StringToDouble e = refl
computed_asks natives.IntegerToString e = refl
computed_asks natives.DoubleToString e = refl
computed_asks natives.TimeToString e = refl
computed_asks natives.CharToString e = refl
computed_asks natives.ShortToString e = refl
computed_asks natives.MathFloor e = refl
computed_asks natives.MathCeil e = refl
computed_asks natives.MathRound e = refl
computed_asks natives.MathMod e = refl
computed_asks natives.MathIsValidNumber e = refl
computed_asks natives.NormalizeDouble e = refl
computed_asks natives.IsStopped e = refl
computed_asks natives.ArraySize e = refl
computed_asks natives.ArrayRange e = refl
computed_asks natives.ArrayResize e = refl
computed_asks natives.ArrayFree e = refl
computed_asks natives.ArraySetAsSeries e = refl
computed_asks natives.ArrayGetAsSeries e = refl
computed_asks natives.ArrayIsDynamic e = refl
computed_asks natives.MathSqrt e = refl
computed_asks natives.MathPow e = refl
computed_asks _ e = absurd cc

pub true_false : {A : Type 0} → true ≡ false → A
true_false e = absurd cc

-- a cell of a type that has a sort holds a value of it
pub cell_value : (code : Code) (t : VarType) (s : Sort) (c : Cell) → CellOf code.classes t c → type_sort t ≡ Some s → (v : Value) × (out-Cell c ≡ Cell-F.One v) × (sort_of v ≡ Some s)
cell_value code t s c h e = by_top t.base t.dimensions (out-Cell c) refl (layer_of code.classes t c h).top e
  where
    no_structure : (b : Base) (n : ℕ) → StructureTop code.classes b n → base_sort b ≡ Some s → ⊥
    no_structure (base.Number k) n h e = h
    no_structure base.Double n h e = h
    no_structure base.String n h e = h
    no_structure (base.Pointer k) n h e = h
    no_structure (base.Structure k) n h e = none_some e
    no_structure (base.Object k) n h e = h

    by_top : (b : Base) (ns : List ℕ) (x : Cell-F Cell) → out-Cell c ≡ x → TopOf code.classes b ns x → plain_sort ns (base_sort b) ≡ Some s → (v : Value) × (out-Cell c ≡ Cell-F.One v) × (sort_of v ≡ Some s)
    by_top b [] (Cell-F.One v) is h e = (v, is, subst (λ o. OfSort o v) e h)
    by_top b [] (Cell-F.Array dynamic series unit cs) is h e = absurd h
    by_top b [] (Cell-F.Structure cs) is h e = absurd (no_structure b (length cs) h e)
    by_top b (n ∷ ns) x is h e = absurd (none_some e)

pub sort_cell : (code : Code) (t : VarType) (s : Sort) (v : Value) → type_sort t ≡ Some s → sort_of v ≡ Some s → CellOf code.classes t (cell.One v)
sort_cell code t s v e h = one_of code.classes t v (by_dimensions t.base t.dimensions e)
  where
    by_dimensions : (b : Base) (ns : List ℕ) → plain_sort ns (base_sort b) ≡ Some s → TopOf code.classes b ns (Cell-F.One v)
    by_dimensions b [] e = subst (λ o. OfSort o v) (sym e) h
    by_dimensions b (n ∷ ns) e = absurd (none_some e)

module _ (code : Code) (AtEnd : Store → Type 0) (calls : List FunctionCode) (to_end : (store : Store) → StoreFits code calls store → AtEnd store) where
  abbrev S : {A : Type 0} → (A → Type 0) → Change A → Type 0
  S P f = Safe AtEnd (StoreFits code calls) (StoreFits code calls) P f

  abbrev A' : {A : Type 0} → (A → Type 0) → Act A → Type 0
  A' P f = Does AtEnd (StoreFits code calls) P f

  -- the cells of the places among operands
  abbrev pub CellsOf : List OperandType → List Operand → List Cell → Type 0
  CellsOf [] [] [] = Unit {0}
  CellsOf [] [] (c ∷ cs) = ⊥
  CellsOf [] (x ∷ xs) cs = ⊥
  CellsOf (k ∷ ks) [] cs = ⊥
  CellsOf (k ∷ ks) (Val v ∷ xs) cs = CellsOf ks xs cs
  CellsOf (k ∷ ks) (At p ∷ xs) [] = ⊥
  CellsOf (k ∷ ks) (At p ∷ xs) (c ∷ cs) = CellOf code.classes k.of c × CellsOf ks xs cs

  pub cells_of : (ks : List OperandType) (xs : List Operand) → ArgumentsOf code AtEnd calls to_end ks xs → S (CellsOf ks xs) (cells_at (places_in xs))
  cells_of [] [] h = give_safe code AtEnd [] (tt {0})
  cells_of [] (x ∷ xs) h = absurd (let e : (x ∷ xs) ≡ [] = h in cc)
  cells_of (k ∷ ks) [] h = absurd h
  cells_of (k ∷ ks) (Val v ∷ xs) h = cells_of ks xs h.1
  cells_of (k ∷ ks) (At p ∷ xs) h =
      then_safe code AtEnd (cell_safe code AtEnd calls to_end k.of p h.0.1) (λ c f.
      then_safe code AtEnd (cells_of ks xs h.1) (λ cs g. give_safe code AtEnd (c ∷ cs) (f, g)))

  -- operands are arguments of their parameters
  value_argument : (pk : ParameterKind) (pp : Passing) (k : OperandType) (v : Value) → TakesParameter pk pp k → OperandOf code calls k (Val v) → IsArgument code pk pp k (Given v)
  value_argument (parameter.Simple t) passing.Value k v r h = (r.sort, r.suits, value_sort code.classes k.of r.sort v h.1 r.of.sort)
  value_argument (parameter.Simple t) passing.Reference k v r h = true_false (sym r.0 ∙ h.0)
  value_argument (parameter.Array elements.Any) pp k v r h = true_false (sym r.place ∙ h.0)
  value_argument _ pp k v r h = absurd r

  place_argument : (pk : ParameterKind) (pp : Passing) (k : OperandType) (p : Place) (c : Cell) → TakesParameter pk pp k → OperandOf code calls k (At p) → CellOf code.classes k.of c → IsArgument code pk pp k (Lent c)
  place_argument (parameter.Simple t) passing.Value k p c r h g = true_false (sym h.0 ∙ r.of.value)
  place_argument (parameter.Simple t) passing.Reference k p c r h g = cell_value code k.of (simple_sort t) c g r.1
  place_argument (parameter.Array elements.Any) pp k p c r h g = (r, g)
  place_argument _ pp k p c r h g = absurd r

  are_arguments : (ps : List Parameter) (ks : List OperandType) (xs : List Operand) (cs : List Cell) → TakesAll ps ks → ArgumentsOf code AtEnd calls to_end ks xs → CellsOf ks xs cs → AreArguments code ps ks (arguments xs cs)
  are_arguments [] [] [] cs r h g = tt
  are_arguments [] [] (x ∷ xs) cs r h g = absurd g
  are_arguments [] (k ∷ ks) xs cs r h g = absurd r
  are_arguments (p ∷ ps) [] xs cs r h g = absurd r
  are_arguments (p ∷ ps) (k ∷ ks) [] cs r h g = absurd h
  are_arguments (p ∷ ps) (k ∷ ks) (Val v ∷ xs) cs r h g = (value_argument p.kind p.passing k v r.0 h.0, are_arguments ps ks xs cs r.1 h.1 g)
  are_arguments (p ∷ ps) (k ∷ ks) (At q ∷ xs) [] r h g = absurd g
  are_arguments (p ∷ ps) (k ∷ ks) (At q ∷ xs) (c ∷ cs) r h g = (place_argument p.kind p.passing k q c r.0 h.0 g.0, are_arguments ps ks xs cs r.1 h.1 g.1)

  -- what they become is put back
  pub put_nothing : (ps : List Place) (cs : List Cell) → S (λ _. Unit {0}) (put_at ps cs [])
  put_nothing [] cs = give_safe code AtEnd (tt {0}) (tt {0})
  put_nothing (p ∷ ps) [] = give_safe code AtEnd (tt {0}) (tt {0})
  put_nothing (p ∷ ps) (c ∷ cs) = give_safe code AtEnd (tt {0}) (tt {0})

  out_fits : (pk : ParameterKind) (pp : Passing) (k : OperandType) (c : Cell) → TakesParameter pk pp k → OutOf code pk pp k c → (k.place ≡ true) × CellOf code.classes k.of c
  out_fits (parameter.Simple t) passing.Value k c r o = absurd o
  out_fits (parameter.Simple t) passing.Reference k c r o = (r.0, subst (CellOf code.classes k.of) (sym o.1) (sort_cell code k.of (simple_sort t) o.0 r.1 o.2))
  out_fits (parameter.Array elements.Any) pp k c r o = (r.place, o)
  out_fits _ pp k c r o = absurd r

  put_outs : (ps : List Parameter) (ks : List OperandType) (xs : List Operand) (cs outs : List Cell) → TakesAll ps ks → ArgumentsOf code AtEnd calls to_end ks xs → CellsOf ks xs cs → OutsOf code ps ks outs → S (λ _. Unit {0}) (put_at (places_in xs) cs outs)
  put_outs ps ks xs cs [] r h g o = put_nothing (places_in xs) cs
  put_outs [] ks xs cs (d ∷ ds) r h g o = absurd o
  put_outs (p ∷ ps) [] xs cs (d ∷ ds) r h g o = absurd r
  put_outs (p ∷ ps) (k ∷ ks) xs cs (d ∷ e ∷ ds) r h g o = absurd o
  put_outs (p ∷ ps) (k ∷ ks) [] cs (d ∷ []) r h g o = absurd h
  put_outs (p ∷ ps) (k ∷ ks) (Val v ∷ xs) cs (d ∷ []) r h g o = true_false (sym (out_fits p.kind p.passing k d r.0 o).0 ∙ h.0.0)
  put_outs (p ∷ ps) (k ∷ ks) (At q ∷ xs) [] (d ∷ []) r h g o = absurd g
  put_outs (p ∷ ps) (k ∷ ks) (At q ∷ xs) (c ∷ cs) (d ∷ []) r h g o =
      then_safe code AtEnd (replace_safe code AtEnd calls to_end k.of q c d h.0.1 (out_fits p.kind p.passing k d r.0 o).1) (λ _ u. put_nothing (places_in xs) cs)

  -- the world is told the last error
  told_reply : (o : Option (List Cell)) (v : Value) → A' (λ _. Unit {0}) (replied o v [] [])
  told_reply None v = halt_does Stopped (tt {0}) to_end
  told_reply (Some new) v = then_does (change_does {P = λ _. Unit {0}} (give_safe code AtEnd (tt {0}) (tt {0}))) (λ _ u. pure_does v (tt {0}))

  told_answer : (c : HostCall) (answers : List Answer) (n : ℕ) (w : World) → StoreFits code calls w.store → Comes AtEnd (StoreFits code calls) (λ _. Unit {0}) (answered None c [] [] answers n w)
  told_answer c [] n w g = (tt, to_end w.store g)
  told_answer c (Replied r ∷ answers) n w g = (told_reply (fits None r []) r.value).from n (world w.store (w.calls ++ c ∷ []) answers) g
  told_answer c (Refused kind ∷ answers) n w g = (tt, to_end w.store g)

  ask_tells : (c : HostCall) → A' (λ _. Unit {0}) (ask None c [] [])
  unfolding ask
  ask_tells c = record { from = λ n w g. told_answer c w.answers n w g }

  pub tells_does : (b : Bool) → A' (λ _. Unit {0}) (tells b)
  tells_does true = next_does (ask_tells _) (pure_does (tt {0}) (tt {0}))
  tells_does false = pure_does (tt {0}) (tt {0})

  value_does : (f : Native) (ks : List OperandType) (xs : List Operand) (cs : List Cell) → is_computed f ≡ true → TakesAll (signature f).parameters ks → ArgumentsOf code AtEnd calls to_end ks xs → CellsOf ks xs cs
      → A' (SortOf (signature f).result ks) (does_native (places_in xs) cs (computes f (arguments xs cs)))
  value_does f ks xs cs e r h g =
      then_does (change_does (computed_safe code AtEnd (StoreFits code calls) to_end f e ks (arguments xs cs) (are_arguments (signature f).parameters ks xs cs r h g))) (λ d o.
      next_does (change_does (put_outs (signature f).parameters ks xs cs d.outs r h g o.outs))
      (next_does (tells_does d.out_of_range) (pure_does d.value o.value)))

  runs_values : (f : Native) (ks : List OperandType) (xs : List Operand) → is_computed f ≡ true → TakesAll (signature f).parameters ks → ArgumentsOf code AtEnd calls to_end ks xs → A' (SortOf (signature f).result ks) (runs_native f xs)
  runs_values f ks xs e r h =
      then_does (change_does (cells_of ks xs h)) (λ cs g.
      choose_not (asks f) (ask (Some f) (host_call (native_number f) (values_of (arguments xs cs)) cs) (places_in xs) cs) (does_native (places_in xs) cs (computes f (arguments xs cs))) (computed_asks f e) (value_does f ks xs cs e r h g))

  pub values_do : (f : Native) (ks : List OperandType) (xs : List Operand) → is_computed f ≡ true → TakesAll (signature f).parameters ks → ArgumentsOf code AtEnd calls to_end ks xs → A' (SortOf (signature f).result ks) (calls_native f xs)
  values_do natives.GetPointer ks xs e r h = absurd cc
  values_do natives.CheckPointer ks xs e r h = absurd cc
  values_do f ks xs e r h = runs_values f ks xs e r h

  -- Comment does nothing; StringFormat gives a text, or meets a fault of arithmetic
  comment_asks : asks natives.Comment ≡ false
  unfolding signature
  comment_asks = refl

  format_asks : asks natives.StringFormat ≡ false
  unfolding signature
  format_asks = refl

  comment_sort : (ks : List OperandType) (v : Value) → SortOf (signature natives.Comment).result ks v
  unfolding signature
  comment_sort ks v = tt

  format_sort : (ks : List OperandType) (v : Value) → sort_of v ≡ Some sort.String → SortOf (signature natives.StringFormat).result ks v
  unfolding signature
  format_sort ks v e = e

  -- what is done, where no reference argument becomes another
  record Alone (P : Value → Type 0) (d : NativeDone) : Type 0 where
    value : P d.value
    outs : d.outs ≡ []

  alone_does : {P : Value → Type 0} (f : Native) (ks : List OperandType) (xs : List Operand) → asks f ≡ false → ArgumentsOf code AtEnd calls to_end ks xs
      → ((cs : List Cell) → CellsOf ks xs cs → S (Alone P) (computes f (arguments xs cs))) → A' P (runs_native f xs)
  alone_does {P} f ks xs e h k =
      then_does (change_does (cells_of ks xs h)) (λ cs g.
      choose_not (asks f) (ask (Some f) (host_call (native_number f) (values_of (arguments xs cs)) cs) (places_in xs) cs) (does_native (places_in xs) cs (computes f (arguments xs cs))) e
      (then_does (change_does (k cs g)) (λ d o.
      next_does (change_does (subst (λ outs. S (λ _. Unit {0}) (put_at (places_in xs) cs outs)) (sym o.outs) (put_nothing (places_in xs) cs)))
      (next_does (tells_does d.out_of_range) (pure_does d.value o.value)))))

  pub comment_does : (ks : List OperandType) (xs : List Operand) → ArgumentsOf code AtEnd calls to_end ks xs → A' (SortOf (signature natives.Comment).result ks) (calls_native natives.Comment xs)
  comment_does ks xs h = alone_does natives.Comment ks xs comment_asks h (λ cs g. give_safe code AtEnd _ (record { value = comment_sort ks void_value; outs = refl }))

  -- values alone
  abbrev AllGiven : List Argument → Type 0
  AllGiven [] = Unit {0}
  AllGiven (Given v ∷ xs) = AllGiven xs
  AllGiven (Lent c ∷ xs) = ⊥

  all_given : (ks : List OperandType) (xs : List Operand) (cs : List Cell) → AllShown ks → ArgumentsOf code AtEnd calls to_end ks xs → CellsOf ks xs cs → AllGiven (arguments xs cs)
  all_given [] [] cs r h g = tt
  all_given [] (x ∷ xs) cs r h g = absurd g
  all_given (k ∷ ks) [] cs r h g = absurd h
  all_given (k ∷ ks) (Val v ∷ xs) cs r h g = all_given ks xs cs r.1 h.1 g
  all_given (k ∷ ks) (At p ∷ xs) cs r h g = true_false (sym h.0.0 ∙ r.0.of.value)

  given_values : (xs : List Argument) → AllGiven xs → S (λ _. Unit {0}) (for_each a_value xs)
  given_values [] h = give_safe code AtEnd [] (tt {0})
  given_values (Given v ∷ xs) h =
      then_safe code AtEnd (give_safe code AtEnd {P = λ _. Unit {0}} v (tt {0})) (λ v u.
      then_safe code AtEnd (given_values xs h) (λ vs u. give_safe code AtEnd (v ∷ vs) (tt {0})))
  given_values (Lent c ∷ xs) h = absurd h

  abbrev Text : List OperandType → NativeDone → Type 0
  Text ks d = Alone (SortOf (signature natives.StringFormat).result ks) d

  texts_safe : (ks : List OperandType) (s : List ℕ) → S (Text ks) (gives_text s)
  texts_safe ks s = then_safe code AtEnd (text_safe code AtEnd (StoreFits code calls) to_end s) (λ v h. give_safe code AtEnd _ (record { value = format_sort ks v h; outs = refl }))

  fault_fails : (ks : List OperandType) (e : FixFault) → S (Text ks) (λ store. after (no_fault (Err e) store) gives_double)
  fault_fails ks fault.ZeroDivide = record { from = λ store g. (tt, to_end store g) }
  fault_fails ks fault.Overflow = record { from = λ store g. (tt, to_end store g) }

  formats_safe : (ks : List OperandType) (s : List ℕ) (vs : List Value) → S (Text ks) (formats s vs)
  formats_safe ks s vs = by_result (format s vs)
    where
      by_result : (r : Result (List ℕ) FixFault) → S (Text ks) (elim r as (λ _. Change NativeDone) [ Ok t ↦ gives_text t | Err e ↦ (λ store. after (no_fault (Err e) store) gives_double) ])
      by_result (Ok t) = texts_safe ks t
      by_result (Err e) = fault_fails ks e

  pub format_does : (ks : List OperandType) (xs : List Operand) → FormatShown ks → ArgumentsOf code AtEnd calls to_end ks xs → A' (SortOf (signature natives.StringFormat).result ks) (calls_native natives.StringFormat xs)
  format_does [] xs r h = absurd r
  format_does (k ∷ ks) [] r h = absurd h
  format_does (k ∷ ks) (At p ∷ xs) r h = true_false (sym h.0.0 ∙ r.0.of.value)
  format_does (k ∷ ks) (Val v ∷ xs) r h = alone_does natives.StringFormat (k ∷ ks) (Val v ∷ xs) format_asks h (λ cs g.
      then_safe code AtEnd (string_safe code AtEnd (StoreFits code calls) to_end k (Given v) (r.0.sort, r.0.suits, value_sort code.classes k.of r.0.sort v h.0.1 r.0.of.sort)) (λ s u.
      then_safe code AtEnd (given_values (arguments xs cs) (all_given ks xs cs r.1 h.1 g)) (λ vs u. formats_safe (k ∷ ks) s vs)))

  -- MathAbs, MathMax and MathMin
  abs_asks : asks natives.MathAbs ≡ false
  unfolding signature
  abs_asks = refl

  max_asks : asks natives.MathMax ≡ false
  unfolding signature
  max_asks = refl

  min_asks : asks natives.MathMin ≡ false
  unfolding signature
  min_asks = refl

  abs_sort : (ks : List OperandType) (v : Value) → LikeSort ks v → SortOf (signature natives.MathAbs).result ks v
  unfolding signature
  abs_sort ks v e = e

  max_sort : (ks : List OperandType) (v : Value) → LikeSort ks v → SortOf (signature natives.MathMax).result ks v
  unfolding signature
  max_sort ks v e = e

  min_sort : (ks : List OperandType) (v : Value) → LikeSort ks v → SortOf (signature natives.MathMin).result ks v
  unfolding signature
  min_sort ks v e = e

  number_from : (v : Value) (k : IntKind) (n : ℤ) → out-Value v ≡ Value-F.Num k n → v ≡ value.Num k n
  unfolding roll-Value denote.Hole.Carrier.roll
  number_from v k n e = sym (roll-out-Value v) ∙ ap roll-Value e

  double_from : (v : Value) (n : ℤ) → out-Value v ≡ Value-F.Dbl n → v ≡ value.Dbl n
  unfolding roll-Value denote.Hole.Carrier.roll
  double_from v n e = sym (roll-out-Value v) ∙ ap roll-Value e

  abbrev Sorted : Sort → NativeDone → Type 0
  Sorted s d = Alone (λ v. sort_of v ≡ Some s) d

  sized_number : (f : ℤ → ℤ) (k : IntKind) (n : ℤ) → S (Sorted (sort.Number k)) (of_number f (value.Num k n))
  unfolding out-Value denote.Hole.Carrier.out
  sized_number f k n = give_safe code AtEnd _ (record { value = refl; outs = refl })

  sized_double : (f : ℤ → ℤ) (n : ℤ) → S (Sorted sort.Double) (of_number f (value.Dbl n))
  unfolding out-Value denote.Hole.Carrier.out
  sized_double f n = then_safe code AtEnd (no_fault_safe code AtEnd (StoreFits code calls) to_end (double (f n))) (λ z u. give_safe code AtEnd _ (record { value = refl; outs = refl }))

  sized : (f : ℤ → ℤ) (s : Sort) (v : Value) → is_counted s ≡ true → sort_of v ≡ Some s → S (Sorted s) (of_number f v)
  sized f (sort.Number k) v c e = let x = sort_is (out-Value v) (sort.Number k) e in subst (λ v. S (Sorted (sort.Number k)) (of_number f v)) (sym (number_from v k x.0 x.1)) (sized_number f k x.0)
  sized f sort.Double v c e = let x = sort_is (out-Value v) sort.Double e in subst (λ v. S (Sorted sort.Double) (of_number f v)) (sym (double_from v x.0 x.1)) (sized_double f x.0)
  sized f sort.String v c e = absurd cc
  sized f sort.Pointer v c e = absurd cc

  two_numbers : (f : ℤ → ℤ → ℤ) (k j : IntKind) (n m : ℤ) → S (Sorted (sort.Number k)) (of_numbers f (value.Num k n) (value.Num j m))
  unfolding out-Value denote.Hole.Carrier.out
  two_numbers f k j n m = give_safe code AtEnd _ (record { value = refl; outs = refl })

  two_doubles : (f : ℤ → ℤ → ℤ) (n m : ℤ) → S (Sorted sort.Double) (of_numbers f (value.Dbl n) (value.Dbl m))
  unfolding out-Value denote.Hole.Carrier.out
  two_doubles f n m = give_safe code AtEnd _ (record { value = refl; outs = refl })

  two_sized : (f : ℤ → ℤ → ℤ) (s t : Sort) (v w : Value) → is_counted s ≡ true → suits s t ≡ true → sort_of v ≡ Some s → sort_of w ≡ Some t → S (Sorted s) (of_numbers f v w)
  two_sized f (sort.Number k) (sort.Number j) v w c d e g =
      let x = sort_is (out-Value v) (sort.Number k) e in let y = sort_is (out-Value w) (sort.Number j) g in
      subst (λ v. S (Sorted (sort.Number k)) (of_numbers f v w)) (sym (number_from v k x.0 x.1)) (subst (λ w. S (Sorted (sort.Number k)) (of_numbers f (value.Num k x.0) w)) (sym (number_from w j y.0 y.1)) (two_numbers f k j x.0 y.0))
  two_sized f (sort.Number k) sort.Double v w c d e g = absurd cc
  two_sized f (sort.Number k) sort.String v w c d e g = absurd cc
  two_sized f (sort.Number k) sort.Pointer v w c d e g = absurd cc
  two_sized f sort.Double sort.Double v w c d e g =
      let x = sort_is (out-Value v) sort.Double e in let y = sort_is (out-Value w) sort.Double g in
      subst (λ v. S (Sorted sort.Double) (of_numbers f v w)) (sym (double_from v x.0 x.1)) (subst (λ w. S (Sorted sort.Double) (of_numbers f (value.Dbl x.0) w)) (sym (double_from w y.0 y.1)) (two_doubles f x.0 y.0))
  two_sized f sort.Double (sort.Number j) v w c d e g = absurd cc
  two_sized f sort.Double sort.String v w c d e g = absurd cc
  two_sized f sort.Double sort.Pointer v w c d e g = absurd cc
  two_sized f sort.String t v w c d e g = absurd cc
  two_sized f sort.Pointer t v w c d e g = absurd cc

  -- of the first argument's sort
  like : (k : OperandType) (ks : List OperandType) (s : Sort) (v : Value) → type_sort k.of ≡ Some s → sort_of v ≡ Some s → LikeSort (k ∷ ks) v
  like k ks s v e h t g = subst (λ s. sort_of v ≡ Some s) (some_same (sym e ∙ g)) h

  sorted_alone : {P : Value → Type 0} (s : Sort) {f : Change NativeDone} → ((v : Value) → sort_of v ≡ Some s → P v) → S (Sorted s) f → S (Alone P) f
  sorted_alone {P} s {f} k h = record { from = λ store g. by_out (f store) (h.from store g) }
    where
      by_out : (o : Out NativeDone) → Leaves AtEnd (StoreFits code calls) (Sorted s) o → Leaves AtEnd (StoreFits code calls) (Alone P) o
      by_out (Done d store) h = (record { value = k d.value h.0.value; outs = h.0.outs }, h.1)
      by_out (Over e store) h = h

  pub counts_does : (ks : List OperandType) (xs : List Operand) → OneKind Counted ks → ArgumentsOf code AtEnd calls to_end ks xs → A' (SortOf (signature natives.MathAbs).result ks) (calls_native natives.MathAbs xs)
  counts_does [] xs r h = absurd r
  counts_does (k ∷ j ∷ ks) xs r h = absurd r
  counts_does (k ∷ []) [] r h = absurd h
  counts_does (k ∷ []) (At p ∷ xs) r h = true_false (sym h.0.0 ∙ r.of.value)
  counts_does (k ∷ []) (Val v ∷ x ∷ xs) r h = absurd (let e : (x ∷ xs) ≡ [] = h.1 in cc)
  counts_does (k ∷ []) (Val v ∷ []) r h = alone_does natives.MathAbs (k ∷ []) (Val v ∷ []) abs_asks h (λ cs g.
      then_safe code AtEnd (give_safe code AtEnd {P = λ w. v ≡ w} v refl) (λ w e.
      sorted_alone r.sort (λ u i. abs_sort (k ∷ []) u (like k [] r.sort u r.of.sort i)) (sized size_of r.sort w r.counted (subst (λ w. sort_of w ≡ Some r.sort) e (value_sort code.classes k.of r.sort v h.0.1 r.of.sort)))))

  two_does : (f : Native) (go : ℤ → ℤ → ℤ) (ks : List OperandType) (xs : List Operand) → TwoKinds BothCounted ks → ArgumentsOf code AtEnd calls to_end ks xs → asks f ≡ false
      → ((ks : List OperandType) (v : Value) → LikeSort ks v → SortOf (signature f).result ks v)
      → ((v w : Value) → computes f (Given v ∷ Given w ∷ []) ≡ of_numbers go v w) → A' (SortOf (signature f).result ks) (runs_native f xs)
  two_does f go [] xs r h a b c = absurd r
  two_does f go (k ∷ []) xs r h a b c = absurd r
  two_does f go (k ∷ j ∷ i ∷ ks) xs r h a b c = absurd r
  two_does f go (k ∷ j ∷ []) [] r h a b c = absurd h
  two_does f go (k ∷ j ∷ []) (At p ∷ xs) r h a b c = true_false (sym h.0.0 ∙ r.first.of.value)
  two_does f go (k ∷ j ∷ []) (Val v ∷ []) r h a b c = absurd h.1
  two_does f go (k ∷ j ∷ []) (Val v ∷ At p ∷ xs) r h a b c = true_false (sym h.1.0.0 ∙ r.second.of.value)
  two_does f go (k ∷ j ∷ []) (Val v ∷ Val w ∷ x ∷ xs) r h a b c = absurd (let e : (x ∷ xs) ≡ [] = h.1.1 in cc)
  two_does f go (k ∷ j ∷ []) (Val v ∷ Val w ∷ []) r h a b c = alone_does f (k ∷ j ∷ []) (Val v ∷ Val w ∷ []) a h (λ cs g.
      subst (S (Alone (SortOf (signature f).result (k ∷ j ∷ [])))) (sym (c v w))
      (sorted_alone r.first.sort (λ u i. b (k ∷ j ∷ []) u (like k (j ∷ []) r.first.sort u r.first.of.sort i))
      (two_sized go r.first.sort r.second.sort v w r.first.counted r.second.suits (value_sort code.classes k.of r.first.sort v h.0.1 r.first.of.sort) (value_sort code.classes j.of r.second.sort w h.1.0.1 r.second.of.sort))))

  pub compares_do : (f : Native) (ks : List OperandType) (xs : List Operand) → is_comparing f ≡ true → TwoKinds BothCounted ks → ArgumentsOf code AtEnd calls to_end ks xs → A' (SortOf (signature f).result ks) (calls_native f xs)
  compares_do natives.MathMax ks xs e r h = two_does natives.MathMax greater ks xs r h max_asks max_sort (λ v w. refl)
  compares_do natives.MathMin ks xs e r h = two_does natives.MathMin lesser ks xs r h min_asks min_sort (λ v w. refl)
  compares_do _ ks xs e r h = absurd cc
