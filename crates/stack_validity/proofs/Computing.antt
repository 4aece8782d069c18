-- Operators on values of their sorts are never stuck, and give a value of the sort that they should.
use denote.Hole.Carrier.{out, roll}
use Rattle.std.proofs.Common.{◌≡◌, ℕ, ℤ, pos, negsuc, Bool, true, List, [], ◌∷◌, Option, Some, None, Result, Ok, Err, refl, sym, ap, ◌∙◌, subst}
use Rattle.std.specs.Prelude.{◌++◌}
use Rattle.fx8.specs.declared.int_kind.IntKind.{IntKind}
use Rattle.fx8.specs.declared.int_kind.IntKind.TheVariants as kind
use Rattle.fx8.specs.declared.int_operator.IntOperator.{IntOperator}
use Rattle.fx8.specs.declared.int_operator.IntOperator.TheVariants as op
use Rattle.fx8.specs.declared.fix_fault.FixFault.{FixFault}
use Rattle.fx8.specs.declared.fix_fault.FixFault.TheVariants as fault
use Rattle.mql_mean.specs.declared.value.Value.{Value, out-Value}
use Rattle.mql_mean.specs.declared.value.Value.TheVariants as value
use Rattle.mql_mean.specs.declared.value.Value.TheOpen.{Value-F}
use Rattle.mql_mean.specs.declared.error.ErrorKind.TheVariants.{ZeroDivide, FixedOverflow, CellsExhausted}
use Rattle.mql_meaning.specs.declared.cell.Cell.TheVariants as cell
use Rattle.mql_meaning.specs.declared.cell.Cell.TheOpen.{Cell-F}
use Rattle.mql_meaning.specs.declared.operator.UnaryOperator.{UnaryOperator}
use Rattle.mql_meaning.specs.declared.operator.UnaryOperator.TheVariants as unary
use Rattle.mql_meaning.specs.declared.store.Store.{Store}
use Rattle.mql_meaning.specs.declared.types.Base.{Base}
use Rattle.mql_meaning.specs.declared.types.Sort.{Sort}
use Rattle.mql_meaning.specs.declared.types.Sort.TheVariants as sort
use Rattle.mql_meaning.specs.declared.types.VarType.{VarType}
use Rattle.mql_meaning.specs.declared.tree.Class.{Class}
use Rattle.mql_meaning.specs.Changes.{Change, ◌>>=◌, give, the, either}
use Rattle.mql_meaning.specs.Cells.{alike}
use Rattle.mql_meaning.specs.Places.{number_at, number_of, serial_at, serial_of}
use Rattle.mql_meaning.specs.Operands.{text}
use Rattle.mql_meaning.specs.Operators.{units_at, units_of, string_at, string_of, sort_at, sort_of, no_fault, order, compares, kind_of_result, on_numbers, compared, compare, on_doubles, on_strings, both, binary, unary_of, from_number, from_double, from_string, from_pointer, convert_at, convert, holds}
use Rattle.stack_code.specs.declared.code.Code.{Code}
use Rattle.stack_validity.specs.Types.{base_sort, plain_sort, type_sort, OfSort, TopOf, ValueOf}
use Rattle.stack_validity.specs.Fits.{Safe}
use Rattle.stack_validity.specs.Rules.{works_on, result_sort, works_alone, alone_sort, converts, suits}
use Rattle.stack_validity.proofs.Values.{none_some, alike_sort, sort_is, one_of}
use Rattle.stack_validity.proofs.Stores.{by_test, give_safe, then_safe, next_safe, the_safe, fail_safe, must_safe}

-- a value of a sort, for each sort
sample : Sort → Value
sample (sort.Number k) = value.Num k (pos 0)
sample sort.Double = value.Dbl (pos 0)
sample sort.String = value.Str []
sample sort.Pointer = value.Ptr 0

sample_sort : (s : Sort) → sort_of (sample s) ≡ Some s
unfolding sample out-Value denote.Hole.Carrier.out
sample_sort (sort.Number k) = refl
sample_sort sort.Double = refl
sample_sort sort.String = refl
sample_sort sort.Pointer = refl

-- a value of a type that has a sort is of that sort
pub value_sort : (classes : List Class) (t : VarType) (s : Sort) (v : Value) → ValueOf classes t v → type_sort t ≡ Some s → sort_of v ≡ Some s
value_sort classes t s v h e =
    let k = h.taken (cell.One (sample s)) (one_of classes t (sample s) (top t.base t.dimensions e)) in
    by_test (alike (out-Value (sample s)) (out-Value v))
    (λ a. alike_sort (out-Value (sample s)) (out-Value v) s a (sample_sort s))
    (λ a. absurd (none_some (sym (ap (λ b. either b (Some (cell.One v)) None) a) ∙ k.is)))
  where
    top : (b : Base) (ns : List ℕ) → plain_sort ns (base_sort b) ≡ Some s → TopOf classes b ns (Cell-F.One (sample s))
    top b [] e = subst (λ o. OfSort o (sample s)) (sym e) (sample_sort s)
    top b (n ∷ ns) e = absurd (none_some e)

-- the number, the units, the text and the serial of a value of a sort
number_is : (k : IntKind) (v : Value) → sort_of v ≡ Some (sort.Number k) → (z : ℤ) × (number_of v ≡ Some z)
number_is k v e = let s = sort_is (out-Value v) (sort.Number k) e in (s.0, ap number_at s.1)

units_is : (v : Value) → sort_of v ≡ Some sort.Double → (z : ℤ) × (units_of v ≡ Some z)
units_is v e = let s = sort_is (out-Value v) sort.Double e in (s.0, ap units_at s.1)

string_is : (v : Value) → sort_of v ≡ Some sort.String → (s : List ℕ) × (string_of v ≡ Some s)
string_is v e = let s = sort_is (out-Value v) sort.String e in (s.0, ap string_at s.1)

serial_is : (v : Value) → sort_of v ≡ Some sort.Pointer → (n : ℕ) × (serial_of v ≡ Some n)
serial_is v e = let s = sort_is (out-Value v) sort.Pointer e in (s.0, ap serial_at s.1)

-- what an operator of a sort reads of a value
abbrev HasPart : Sort → Value → Type 0
HasPart (sort.Number k) v = (z : ℤ) × (number_of v ≡ Some z)
HasPart sort.Double v = (z : ℤ) × (units_of v ≡ Some z)
HasPart sort.String v = (s : List ℕ) × (string_of v ≡ Some s)
HasPart sort.Pointer v = (n : ℕ) × (serial_of v ≡ Some n)

pub has_part : (s a : Sort) (v : Value) → suits s a ≡ true → sort_of v ≡ Some a → HasPart s v
has_part (sort.Number k) (sort.Number j) v e h = number_is j v h
has_part (sort.Number k) sort.Double v e h = absurd cc
has_part (sort.Number k) sort.String v e h = absurd cc
has_part (sort.Number k) sort.Pointer v e h = absurd cc
has_part sort.Double (sort.Number j) v e h = absurd cc
has_part sort.Double sort.Double v e h = units_is v h
has_part sort.Double sort.String v e h = absurd cc
has_part sort.Double sort.Pointer v e h = absurd cc
has_part sort.String (sort.Number j) v e h = absurd cc
has_part sort.String sort.Double v e h = absurd cc
has_part sort.String sort.String v e h = string_is v h
has_part sort.String sort.Pointer v e h = absurd cc
has_part sort.Pointer (sort.Number j) v e h = absurd cc
has_part sort.Pointer sort.Double v e h = absurd cc
has_part sort.Pointer sort.String v e h = absurd cc
has_part sort.Pointer sort.Pointer v e h = serial_is v h

module _ (code : Code) (AtEnd J : Store → Type 0) (to_end : (store : Store) → J store → AtEnd store) where
  abbrev Gives : Sort → Change Value → Type 0
  Gives s f = Safe AtEnd J J (λ v. sort_of v ≡ Some s) f

  pub no_fault_safe : (r : Result ℤ FixFault) → Safe AtEnd J J (λ _. Unit {0}) (no_fault r)
  no_fault_safe (Ok x) = give_safe code AtEnd x (tt {0})
  no_fault_safe (Err fault.ZeroDivide) = fail_safe code AtEnd J to_end ZeroDivide
  no_fault_safe (Err fault.Overflow) = fail_safe code AtEnd J to_end FixedOverflow

  gives_number : (k : IntKind) (z : ℤ) → Gives (sort.Number k) (give (value.Num k z))
  unfolding out-Value denote.Hole.Carrier.out
  gives_number k z = give_safe code AtEnd (value.Num k z) refl

  gives_double : (z : ℤ) → Gives sort.Double (give (value.Dbl z))
  unfolding out-Value denote.Hole.Carrier.out
  gives_double z = give_safe code AtEnd (value.Dbl z) refl

  gives_pointer : (p : ℕ) → Gives sort.Pointer (give (value.Ptr p))
  unfolding out-Value denote.Hole.Carrier.out
  gives_pointer p = give_safe code AtEnd (value.Ptr p) refl

  pub text_safe : (s : List ℕ) → Gives sort.String (text s)
  unfolding out-Value denote.Hole.Carrier.out
  text_safe s = next_safe code AtEnd (must_safe code AtEnd J to_end _ CellsExhausted) (give_safe code AtEnd (value.Str s) refl)

  as_double : (r : Result ℤ FixFault) → Gives sort.Double (no_fault r >>= λ z. give (value.Dbl z))
  as_double r = then_safe code AtEnd (no_fault_safe r) (λ z u. gives_double z)

  compared_there : (o : IntOperator) (x y : ℤ) → compares o ≡ true → (b : Bool) × (compared o x y ≡ Some b)
  compared_there op.Add x y e = absurd cc
  compared_there op.Subtract x y e = absurd cc
  compared_there op.Multiply x y e = absurd cc
  compared_there op.Divide x y e = absurd cc
  compared_there op.Remainder x y e = absurd cc
  compared_there op.ShiftLeft x y e = absurd cc
  compared_there op.ShiftRight x y e = absurd cc
  compared_there op.BitAnd x y e = absurd cc
  compared_there op.BitOr x y e = absurd cc
  compared_there op.BitXor x y e = absurd cc
  compared_there op.Less x y e = (_, refl)
  compared_there op.LessOrEqual x y e = (_, refl)
  compared_there op.Greater x y e = (_, refl)
  compared_there op.GreaterOrEqual x y e = (_, refl)
  compared_there op.Equal x y e = (_, refl)
  compared_there op.NotEqual x y e = (_, refl)

  compare_safe : (o : IntOperator) (x y : ℤ) → compares o ≡ true → Gives (sort.Number kind.Bool) (compare o x y)
  compare_safe o x y e =
      let b = compared_there o x y e in
      then_safe code AtEnd (the_safe code AtEnd {P = λ _. Unit {0}} (compared o x y) b.0 b.1 (tt {0})) (λ b u. gives_number kind.Bool _)

  numbers_safe : (o : IntOperator) (k : IntKind) (x y : ℤ) → Gives (result_sort o (sort.Number k)) (on_numbers o k x y)
  numbers_safe o k x y = then_safe code AtEnd (no_fault_safe _) (λ z u. subst (λ s. Gives s (give (value.Num (kind_of_result o k) z))) (same o) (gives_number (kind_of_result o k) z))
    where
      same : (o : IntOperator) → sort.Number (kind_of_result o k) ≡ result_sort o (sort.Number k)
      same op.Add = refl
      same op.Subtract = refl
      same op.Multiply = refl
      same op.Divide = refl
      same op.Remainder = refl
      same op.ShiftLeft = refl
      same op.ShiftRight = refl
      same op.BitAnd = refl
      same op.BitOr = refl
      same op.BitXor = refl
      same op.Less = refl
      same op.LessOrEqual = refl
      same op.Greater = refl
      same op.GreaterOrEqual = refl
      same op.Equal = refl
      same op.NotEqual = refl

  doubles_safe : (o : IntOperator) (x y : ℤ) → works_on o sort.Double ≡ true → Gives (result_sort o sort.Double) (on_doubles o x y)
  doubles_safe op.Add x y e = as_double _
  doubles_safe op.Subtract x y e = as_double _
  doubles_safe op.Multiply x y e = as_double _
  doubles_safe op.Divide x y e = as_double _
  doubles_safe op.Remainder x y e = absurd cc
  doubles_safe op.ShiftLeft x y e = absurd cc
  doubles_safe op.ShiftRight x y e = absurd cc
  doubles_safe op.BitAnd x y e = absurd cc
  doubles_safe op.BitOr x y e = absurd cc
  doubles_safe op.BitXor x y e = absurd cc
  doubles_safe op.Less x y e = compare_safe op.Less x y refl
  doubles_safe op.LessOrEqual x y e = compare_safe op.LessOrEqual x y refl
  doubles_safe op.Greater x y e = compare_safe op.Greater x y refl
  doubles_safe op.GreaterOrEqual x y e = compare_safe op.GreaterOrEqual x y refl
  doubles_safe op.Equal x y e = compare_safe op.Equal x y refl
  doubles_safe op.NotEqual x y e = compare_safe op.NotEqual x y refl

  strings_safe : (o : IntOperator) (s t : List ℕ) → works_on o sort.String ≡ true → Gives (result_sort o sort.String) (on_strings o s t)
  strings_safe op.Add s t e = text_safe (s ++ t)
  strings_safe op.Subtract s t e = absurd cc
  strings_safe op.Multiply s t e = absurd cc
  strings_safe op.Divide s t e = absurd cc
  strings_safe op.Remainder s t e = absurd cc
  strings_safe op.ShiftLeft s t e = absurd cc
  strings_safe op.ShiftRight s t e = absurd cc
  strings_safe op.BitAnd s t e = absurd cc
  strings_safe op.BitOr s t e = absurd cc
  strings_safe op.BitXor s t e = absurd cc
  strings_safe op.Less s t e = compare_safe op.Less (order s t) (pos 0) refl
  strings_safe op.LessOrEqual s t e = compare_safe op.LessOrEqual (order s t) (pos 0) refl
  strings_safe op.Greater s t e = compare_safe op.Greater (order s t) (pos 0) refl
  strings_safe op.GreaterOrEqual s t e = compare_safe op.GreaterOrEqual (order s t) (pos 0) refl
  strings_safe op.Equal s t e = compare_safe op.Equal (order s t) (pos 0) refl
  strings_safe op.NotEqual s t e = compare_safe op.NotEqual (order s t) (pos 0) refl

  pointers_safe : (o : IntOperator) (x y : ℤ) → compares o ≡ true → Gives (result_sort o sort.Pointer) (compare o x y)
  pointers_safe o x y e = subst (λ b. Gives (either b (sort.Number kind.Bool) sort.Pointer) (compare o x y)) (sym e) (compare_safe o x y e)

  both_safe : {A : Type 0} {s : Sort} (part : Value → Option A) (f : A → A → Change Value) (x y : Value) (a b : A) → part x ≡ Some a → part y ≡ Some b → ((a b : A) → Gives s (f a b)) → Gives s (both part f x y)
  both_safe part f x y a b e g h =
      then_safe code AtEnd (the_safe code AtEnd {P = λ _. Unit {0}} (part x) a e (tt {0})) (λ a u.
      then_safe code AtEnd (the_safe code AtEnd {P = λ _. Unit {0}} (part y) b g (tt {0})) (λ b u. h a b))

  pub binary_safe : (o : IntOperator) (s a b : Sort) (x y : Value) → works_on o s ≡ true → suits s a ≡ true → suits s b ≡ true → sort_of x ≡ Some a → sort_of y ≡ Some b → Gives (result_sort o s) (binary o s x y)
  binary_safe o (sort.Number k) a b x y w sa sb ha hb =
      let p = has_part (sort.Number k) a x sa ha in let q = has_part (sort.Number k) b y sb hb in
      both_safe number_of (on_numbers o k) x y p.0 q.0 p.1 q.1 (numbers_safe o k)
  binary_safe o sort.Double a b x y w sa sb ha hb =
      let p = has_part sort.Double a x sa ha in let q = has_part sort.Double b y sb hb in
      both_safe units_of (on_doubles o) x y p.0 q.0 p.1 q.1 (λ x y. doubles_safe o x y w)
  binary_safe o sort.String a b x y w sa sb ha hb =
      let p = has_part sort.String a x sa ha in let q = has_part sort.String b y sb hb in
      both_safe string_of (on_strings o) x y p.0 q.0 p.1 q.1 (λ x y. strings_safe o x y w)
  binary_safe o sort.Pointer a b x y w sa sb ha hb =
      let p = has_part sort.Pointer a x sa ha in let q = has_part sort.Pointer b y sb hb in
      both_safe serial_of (λ p q. compare o (pos p) (pos q)) x y p.0 q.0 p.1 q.1 (λ x y. pointers_safe o (pos x) (pos y) w)

  with_part_safe : {A : Type 0} {s : Sort} (o : Option A) (a : A) (f : A → Change Value) → o ≡ Some a → ((a : A) → Gives s (f a)) → Gives s (the o >>= f)
  with_part_safe o a f e h = then_safe code AtEnd (the_safe code AtEnd {P = λ _. Unit {0}} o a e (tt {0})) (λ a u. h a)

  pub unary_safe : (u : UnaryOperator) (s a : Sort) (x : Value) → works_alone u s ≡ true → suits s a ≡ true → sort_of x ≡ Some a → Gives (alone_sort u s) (unary_of u s x)
  unary_safe unary.Minus (sort.Number k) a x w sa ha = let p = has_part (sort.Number k) a x sa ha in with_part_safe (number_of x) p.0 _ p.1 (numbers_safe op.Subtract k (pos 0))
  unary_safe unary.Minus sort.Double a x w sa ha = let p = has_part sort.Double a x sa ha in with_part_safe (units_of x) p.0 _ p.1 (λ z. doubles_safe op.Subtract (pos 0) z refl)
  unary_safe unary.Minus sort.String a x w sa ha = absurd cc
  unary_safe unary.Minus sort.Pointer a x w sa ha = absurd cc
  unary_safe unary.Complement (sort.Number k) a x w sa ha = let p = has_part (sort.Number k) a x sa ha in with_part_safe (number_of x) p.0 _ p.1 (numbers_safe op.Subtract k (negsuc 0))
  unary_safe unary.Complement sort.Double a x w sa ha = absurd cc
  unary_safe unary.Complement sort.String a x w sa ha = absurd cc
  unary_safe unary.Complement sort.Pointer a x w sa ha = absurd cc
  unary_safe unary.Not (sort.Number k) a x w sa ha = let p = has_part (sort.Number k) a x sa ha in with_part_safe (number_of x) p.0 _ p.1 (λ z. gives_number kind.Bool _)
  unary_safe unary.Not sort.Double a x w sa ha = absurd cc
  unary_safe unary.Not sort.String a x w sa ha = absurd cc
  unary_safe unary.Not sort.Pointer a x w sa ha = absurd cc

  from_number_safe : (t : Sort) (j : IntKind) (x : ℤ) → converts (sort.Number j) t ≡ true → Gives t (from_number t j x)
  from_number_safe (sort.Number k) j x e = gives_number k _
  from_number_safe sort.Double j x e = as_double _
  from_number_safe sort.String j x e = text_safe _
  from_number_safe sort.Pointer j x e = absurd cc

  from_double_safe : (t : Sort) (x : ℤ) → converts sort.Double t ≡ true → Gives t (from_double t x)
  from_double_safe (sort.Number k) x e = gives_number k _
  from_double_safe sort.Double x e = gives_double x
  from_double_safe sort.String x e = text_safe _
  from_double_safe sort.Pointer x e = absurd cc

  from_string_safe : (t : Sort) (s : List ℕ) → converts sort.String t ≡ true → Gives t (from_string t s)
  from_string_safe (sort.Number k) s e = gives_number k _
  from_string_safe sort.Double s e = gives_double _
  from_string_safe sort.String s e = text_safe s
  from_string_safe sort.Pointer s e = absurd cc

  from_pointer_safe : (t : Sort) (p : ℕ) → converts sort.Pointer t ≡ true → Gives t (from_pointer t p)
  from_pointer_safe (sort.Number kind.Bool) p e = gives_number kind.Bool _
  from_pointer_safe (sort.Number kind.Char) p e = absurd cc
  from_pointer_safe (sort.Number kind.Uchar) p e = absurd cc
  from_pointer_safe (sort.Number kind.Short) p e = absurd cc
  from_pointer_safe (sort.Number kind.Ushort) p e = absurd cc
  from_pointer_safe (sort.Number kind.Int) p e = absurd cc
  from_pointer_safe (sort.Number kind.Uint) p e = absurd cc
  from_pointer_safe (sort.Number kind.Long) p e = absurd cc
  from_pointer_safe (sort.Number kind.Ulong) p e = absurd cc
  from_pointer_safe (sort.Number kind.Datetime) p e = absurd cc
  from_pointer_safe (sort.Number kind.Color) p e = absurd cc
  from_pointer_safe sort.Double p e = absurd cc
  from_pointer_safe sort.String p e = absurd cc
  from_pointer_safe sort.Pointer p e = gives_pointer p

  convert_at_safe : (t s : Sort) (x : Value-F Value) → converts s t ≡ true → sort_at x ≡ Some s → Gives t (convert_at t x)
  convert_at_safe t (sort.Number j) x e h = let s = sort_is x (sort.Number j) h in subst (λ x. Gives t (convert_at t x)) (sym s.1) (from_number_safe t j s.0 e)
  convert_at_safe t sort.Double x e h = let s = sort_is x sort.Double h in subst (λ x. Gives t (convert_at t x)) (sym s.1) (from_double_safe t s.0 e)
  convert_at_safe t sort.String x e h = let s = sort_is x sort.String h in subst (λ x. Gives t (convert_at t x)) (sym s.1) (from_string_safe t s.0 e)
  convert_at_safe t sort.Pointer x e h = let s = sort_is x sort.Pointer h in subst (λ x. Gives t (convert_at t x)) (sym s.1) (from_pointer_safe t s.0 e)

  pub convert_safe : (t s : Sort) (v : Value) → converts s t ≡ true → sort_of v ≡ Some s → Gives t (convert t v)
  convert_safe t s v e h = convert_at_safe t s (out-Value v) e h

  pub holds_safe : (a : Sort) (v : Value) → suits (sort.Number kind.Bool) a ≡ true → sort_of v ≡ Some a → Safe AtEnd J J (λ _. Unit {0}) (holds v)
  holds_safe a v e h =
      let p = has_part (sort.Number kind.Bool) a v e h in
      then_safe code AtEnd (the_safe code AtEnd {P = λ _. Unit {0}} (number_of v) p.0 p.1 (tt {0})) (λ z u. give_safe code AtEnd _ (tt {0}))
