-- Native functions that take arrays of numbers, change arrays and structures, or read them, are never stuck; and
-- so each call of a native function.
use denote.Hole.Carrier.{out}
use Rattle.std.proofs.Common.{◌≡◌, ℕ, ℤ, pos, zero, suc, Bool, true, false, List, [], ◌∷◌, ◌++◌, length, take, drop, map, Option, Some, None, refl, sym, ap, ◌∙◌, subst}
use Rattle.std.specs.Prelude.{◌-◌, ◌+◌, ◌/◌, nat_lt, slice_get, replicate, unsigned_abs}
use Rattle.fx8.specs.declared.int_kind.IntKind.{IntKind}
use Rattle.fx8.specs.declared.int_kind.IntKind.TheVariants as kind
use Rattle.mql_mean.specs.declared.value.Value.{Value, out-Value}
use Rattle.mql_mean.specs.declared.value.Value.TheVariants as value
use Rattle.natives.specs.declared.native.Native.{Native}
use Rattle.natives.specs.declared.native.Native.TheVariants as natives
use Rattle.natives.specs.declared.signature.ResultType.{ResultType}
use Rattle.natives.specs.declared.signature.Passing.TheVariants as passing
use Rattle.natives.specs.Names.{native_number}
use Rattle.natives.specs.Signatures.{signature}
use Rattle.mql_meaning.specs.declared.cell.Cell.{Cell, out-Cell}
use Rattle.mql_meaning.specs.declared.cell.Cell.TheVariants as cell
use Rattle.mql_meaning.specs.declared.store.Store.{Store}
use Rattle.mql_meaning.specs.declared.types.Base.{Base}
use Rattle.mql_meaning.specs.declared.types.Base.TheVariants as base
use Rattle.mql_meaning.specs.declared.types.Sort.{Sort}
use Rattle.mql_meaning.specs.declared.types.Sort.TheVariants as sort
use Rattle.mql_meaning.specs.declared.types.VarType.{VarType}
use Rattle.mql_meaning.specs.Changes.{Change, then_some, either, for_each}
use Rattle.mql_meaning.specs.Cells.{put, told, fields_in}
use Rattle.mql_meaning.specs.Runs.{Res, Go, End, Act}
use Rattle.mql_meaning.specs.Operands.{Operand, Val, At}
use Rattle.mql_meaning.specs.Operators.{sort_of}
use Rattle.mql_meaning.specs.Places.{value_at}
use Rattle.mql_meaning.specs.References.{put_at}
use Rattle.mql_meaning.specs.Calls.{asks, ask, host_call, values_of, places_in, arguments, does_native, runs_native, calls_native}
use Rattle.mql_meaning.specs.Natives.{Argument, Given, Lent, NativeDone, a_value, a_cell, a_number, a_string, an_array, gives, gives_with, refuses, in_range, with_3, whole, minus_one, truth_value, void_value, computes, extreme, copies, copies_of, fitting, time_fields, from_structure, naturals, named_moment}
use Rattle.mql_meaning.specs.StringFunctions.{place_in, count_in, part_of, split}
use Rattle.mql_meaning.specs.Dates.{has_date}
use Rattle.mql_meaning.specs.ArrayFunctions.{ArrayParts, rebuilt, per_place, resized, grown, leaves, size_at, numbers, best, put_number, put_or_number, copied, copy_at, sorted, zeroed, refilled}
use Rattle.store_cells.specs.Puts.{put_each}
use Rattle.store_cells.proofs.Rows.{told_structure, put_structure}
use Rattle.stack_code.specs.declared.code.Code.{Code}
use Rattle.stack_code.specs.declared.code.FunctionCode.{FunctionCode}
use Rattle.stack_code.specs.declared.code.OperandType.{OperandType}
use Rattle.stack_validity.specs.Types.{type_of, type_sort, OfSort, Layer, CellOf, ValueOf, part_by}
use Rattle.stack_validity.specs.Fits.{StoreFits, Safe}
use Rattle.stack_validity.specs.Rules.{Suits, converts, is_counted, OneKind, TwoKinds, ThreeKinds, FiveKinds, ArrayPlace, Counted, NumbersPlace, Copied, Same, AsNumbers, ExtremeRule, InitializeRule, CopyArrayRule, StringsPlace, TimeStructure, SplitRule, ToStructureRule, FromStructureRule, Lends, Answered, ByPlaces, ByWorld, ByValues, Comments, Formats, Counts, Compares}
use Rattle.stack_validity.proofs.Values.{some_same, none_some, found, sort_is, mapped, length_mapped, array_kept}
use Rattle.stack_validity.proofs.Cells.{out_array, out_structure, layer_of, cell_of}
use Rattle.stack_validity.proofs.Keeps.{put_keeps, sort_value, told_value}
use Rattle.stack_validity.proofs.Elements.{AllOf, all_joined, all_taken, all_dropped, sorted_all, elements_of, refilled_fits, zeroed_fits}
use Rattle.stack_validity.proofs.Stores.{by_test, give_safe, then_safe, the_safe, replace_safe}
use Rattle.stack_validity.proofs.Computing.{value_sort, convert_safe}
use Rattle.stack_validity.proofs.Operating.{ArgumentsOf}
use Rattle.stack_validity.proofs.Talking.{Comes, Does, then_does, next_does, change_does, pure_does, choose_not, OfResult, asks_does}
use Rattle.stack_validity.proofs.Natives.{SortOf, of_sort, true_false, number_sort, number_safe, string_safe, sort_cell, array_safe, ArrayOf, resized_fits, CellsOf, cells_of, cell_value, put_nothing, tells_does, values_do, comment_does, format_does, counts_does, compares_do}

-- one of two by a test
abbrev PlaceOr : Bool → Type 0 → Type 0 → Type 0
PlaceOr true A B = A
PlaceOr false A B = B

-- numbers and doubles are taken into each other
counted_converts : (s t : Sort) → is_counted s ≡ true → is_counted t ≡ true → converts s t ≡ true
counted_converts (sort.Number j) (sort.Number k) e h = refl
counted_converts (sort.Number j) sort.Double e h = refl
counted_converts (sort.Number j) sort.String e h = absurd cc
counted_converts (sort.Number j) sort.Pointer e h = absurd cc
counted_converts sort.Double (sort.Number k) e h = refl
counted_converts sort.Double sort.Double e h = refl
counted_converts sort.Double sort.String e h = absurd cc
counted_converts sort.Double sort.Pointer e h = absurd cc
counted_converts sort.String t e h = absurd cc
counted_converts sort.Pointer t e h = absurd cc

size_there : (s : Sort) (v : Value) → is_counted s ≡ true → sort_of v ≡ Some s → (z : ℤ) × (size_at (out-Value v) ≡ Some z)
size_there (sort.Number k) v c e = let x = sort_is (out-Value v) (sort.Number k) e in (x.0, ap size_at x.1)
size_there sort.Double v c e = let x = sort_is (out-Value v) sort.Double e in (x.0, ap size_at x.1)
size_there sort.String v c e = absurd cc
size_there sort.Pointer v c e = absurd cc

module _ (code : Code) (AtEnd : Store → Type 0) (calls : List FunctionCode) (to_end : (store : Store) → StoreFits code calls store → AtEnd store) where
  abbrev S : {A : Type 0} → (A → Type 0) → Change A → Type 0
  S P f = Safe AtEnd (StoreFits code calls) (StoreFits code calls) P f

  abbrev A' : {A : Type 0} → (A → Type 0) → Act A → Type 0
  A' P f = Does AtEnd (StoreFits code calls) P f

  abbrev Any : {A : Type 0} → A → Type 0
  Any a = Unit {0}

  -- arguments of kinds
  abbrev ArgumentFor : OperandType → Argument → Type 0
  ArgumentFor k (Given v) = (k.place ≡ false) × ValueOf code.classes k.of v
  ArgumentFor k (Lent c) = (k.place ≡ true) × CellOf code.classes k.of c

  abbrev ArgumentsFor : List OperandType → List Argument → Type 0
  ArgumentsFor [] [] = Unit {0}
  ArgumentsFor [] (x ∷ xs) = ⊥
  ArgumentsFor (k ∷ ks) [] = ⊥
  ArgumentsFor (k ∷ ks) (x ∷ xs) = ArgumentFor k x × ArgumentsFor ks xs

  arguments_for : (ks : List OperandType) (xs : List Operand) (cs : List Cell) → ArgumentsOf code AtEnd calls to_end ks xs → CellsOf code AtEnd calls to_end ks xs cs → ArgumentsFor ks (arguments xs cs)
  arguments_for [] [] cs h g = tt
  arguments_for [] (x ∷ xs) cs h g = absurd g
  arguments_for (k ∷ ks) [] cs h g = absurd h
  arguments_for (k ∷ ks) (Val v ∷ xs) cs h g = (h.0, arguments_for ks xs cs h.1 g)
  arguments_for (k ∷ ks) (At p ∷ xs) [] h g = absurd g
  arguments_for (k ∷ ks) (At p ∷ xs) (c ∷ cs) h g = ((h.0.0, g.0), arguments_for ks xs cs h.1 g.1)

  -- what the first place becomes, or all places stay
  abbrev OutFor : List OperandType → Cell → Type 0
  OutFor [] c = ⊥
  OutFor (k ∷ ks) c = PlaceOr k.place (CellOf code.classes k.of c) (OutFor ks c)

  abbrev OutsFor : List OperandType → List Cell → Type 0
  OutsFor ks [] = Unit {0}
  OutsFor ks (c ∷ []) = OutFor ks c
  OutsFor ks (c ∷ d ∷ cs) = ⊥

  first_out : (k : OperandType) (ks : List OperandType) (c : Cell) → k.place ≡ true → CellOf code.classes k.of c → OutFor (k ∷ ks) c
  first_out k ks c e h = subst (λ b. PlaceOr b (CellOf code.classes k.of c) (OutFor ks c)) (sym e) h

  later_out : (k : OperandType) (ks : List OperandType) (c : Cell) → k.place ≡ false → OutFor ks c → OutFor (k ∷ ks) c
  later_out k ks c e h = subst (λ b. PlaceOr b (CellOf code.classes k.of c) (OutFor ks c)) (sym e) h

  put_out : (ks : List OperandType) (xs : List Operand) (cs : List Cell) (d : Cell) → ArgumentsOf code AtEnd calls to_end ks xs → CellsOf code AtEnd calls to_end ks xs cs → OutFor ks d → S Any (put_at (places_in xs) cs (d ∷ []))
  put_out [] xs cs d h g o = absurd o
  put_out (k ∷ ks) [] cs d h g o = absurd h
  put_out (k ∷ ks) (Val v ∷ xs) cs d h g o = put_out ks xs cs d h.1 g (subst (λ b. PlaceOr b (CellOf code.classes k.of d) (OutFor ks d)) h.0.0 o)
  put_out (k ∷ ks) (At q ∷ xs) [] d h g o = absurd g
  put_out (k ∷ ks) (At q ∷ xs) (c ∷ cs) d h g o =
      then_safe code AtEnd (replace_safe code AtEnd calls to_end k.of q c d h.0.1 (subst (λ b. PlaceOr b (CellOf code.classes k.of d) (OutFor ks d)) h.0.0 o))
      (λ _ u. put_nothing code AtEnd calls to_end (places_in xs) cs)

  put_outs : (ks : List OperandType) (xs : List Operand) (cs outs : List Cell) → ArgumentsOf code AtEnd calls to_end ks xs → CellsOf code AtEnd calls to_end ks xs cs → OutsFor ks outs → S Any (put_at (places_in xs) cs outs)
  put_outs ks xs cs [] h g o = put_nothing code AtEnd calls to_end (places_in xs) cs
  put_outs ks xs cs (d ∷ []) h g o = put_out ks xs cs d h g o
  put_outs ks xs cs (d ∷ e ∷ ds) h g o = absurd o

  record DoneFor (f : Native) (ks : List OperandType) (d : NativeDone) : Type 0 where
    value : SortOf (signature f).result ks d.value
    outs : OutsFor ks d.outs

  lends_does : (f : Native) (ks : List OperandType) (xs : List Operand) → asks f ≡ false → ArgumentsOf code AtEnd calls to_end ks xs
      → ((ys : List Argument) → ArgumentsFor ks ys → S (DoneFor f ks) (computes f ys)) → A' (SortOf (signature f).result ks) (runs_native f xs)
  lends_does f ks xs e h k =
      then_does (change_does (cells_of code AtEnd calls to_end ks xs h)) (λ cs g.
      choose_not (asks f) (ask (Some f) (host_call (native_number f) (values_of (arguments xs cs)) cs) (places_in xs) cs) (does_native (places_in xs) cs (computes f (arguments xs cs))) e
      (then_does (change_does (k (arguments xs cs) (arguments_for ks xs cs h g))) (λ d o.
      next_does (change_does (put_outs ks xs cs d.outs h g o.outs))
      (next_does (tells_does code AtEnd calls to_end d.out_of_range) (pure_does d.value o.value)))))

  -- arguments by their number
  one_for : (Q : List OperandType → NativeDone → Type 0) {P : OperandType → Type 0} (f : List Argument → Change NativeDone) (ks : List OperandType) (xs : List Argument) → OneKind P ks → ArgumentsFor ks xs
      → ((k : OperandType) (x : Argument) → P k → ArgumentFor k x → S (Q (k ∷ [])) (f (x ∷ []))) → S (Q ks) (f xs)
  one_for Q f [] xs r h g = absurd r
  one_for Q f (k ∷ []) [] r h g = absurd h
  one_for Q f (k ∷ []) (x ∷ []) r h g = g k x r h.0
  one_for Q f (k ∷ []) (x ∷ y ∷ xs) r h g = absurd h.1
  one_for Q f (k ∷ j ∷ ks) xs r h g = absurd r

  two_for : (Q : List OperandType → NativeDone → Type 0) {P : OperandType → OperandType → Type 0} (f : List Argument → Change NativeDone) (ks : List OperandType) (xs : List Argument) → TwoKinds P ks → ArgumentsFor ks xs
      → ((k j : OperandType) (x y : Argument) → P k j → ArgumentFor k x → ArgumentFor j y → S (Q (k ∷ j ∷ [])) (f (x ∷ y ∷ []))) → S (Q ks) (f xs)
  two_for Q f [] xs r h g = absurd r
  two_for Q f (k ∷ []) xs r h g = absurd r
  two_for Q f (k ∷ j ∷ []) [] r h g = absurd h
  two_for Q f (k ∷ j ∷ []) (x ∷ []) r h g = absurd h.1
  two_for Q f (k ∷ j ∷ []) (x ∷ y ∷ []) r h g = g k j x y r h.0 h.1.0
  two_for Q f (k ∷ j ∷ []) (x ∷ y ∷ z ∷ xs) r h g = absurd h.1.1
  two_for Q f (k ∷ j ∷ i ∷ ks) xs r h g = absurd r

  three_for : (Q : List OperandType → NativeDone → Type 0) {P : OperandType → OperandType → OperandType → Type 0} (f : List Argument → Change NativeDone) (ks : List OperandType) (xs : List Argument) → ThreeKinds P ks → ArgumentsFor ks xs
      → ((k j i : OperandType) (x y z : Argument) → P k j i → ArgumentFor k x → ArgumentFor j y → ArgumentFor i z → S (Q (k ∷ j ∷ i ∷ [])) (f (x ∷ y ∷ z ∷ []))) → S (Q ks) (f xs)
  three_for Q f [] xs r h g = absurd r
  three_for Q f (k ∷ ks) [] r h g = absurd h
  three_for Q f (k ∷ ks) (x ∷ xs) r h g = two_for (λ js. Q (k ∷ js)) (λ ys. f (x ∷ ys)) ks xs r h.1 (λ j i y z p hy hz. g k j i x y z p h.0 hy hz)

  five_for : (Q : List OperandType → NativeDone → Type 0) {P : OperandType → OperandType → OperandType → OperandType → OperandType → Type 0} (f : List Argument → Change NativeDone) (ks : List OperandType) (xs : List Argument) → FiveKinds P ks → ArgumentsFor ks xs
      → ((k j i m n : OperandType) (x y z u w : Argument) → P k j i m n → ArgumentFor k x → ArgumentFor j y → ArgumentFor i z → ArgumentFor m u → ArgumentFor n w → S (Q (k ∷ j ∷ i ∷ m ∷ n ∷ [])) (f (x ∷ y ∷ z ∷ u ∷ w ∷ []))) → S (Q ks) (f xs)
  five_for Q f [] xs r h g = absurd r
  five_for Q f (k ∷ []) xs r h g = absurd r
  five_for Q f (k ∷ j ∷ ks) [] r h g = absurd h
  five_for Q f (k ∷ j ∷ ks) (x ∷ []) r h g = absurd h.1
  five_for Q f (k ∷ j ∷ ks) (x ∷ y ∷ xs) r h g = three_for (λ js. Q (k ∷ j ∷ js)) (λ ys. f (x ∷ y ∷ ys)) ks xs r h.1.1 (λ i m n z u w p hz hu hw. g k j i m n x y z u w p h.0 h.1.0 hz hu hw)

  -- one argument
  cell_for : (k : OperandType) (x : Argument) → k.place ≡ true → ArgumentFor k x → S (CellOf code.classes k.of) (a_cell x)
  cell_for k (Given v) e h = true_false (sym e ∙ h.0)
  cell_for k (Lent c) e h = give_safe code AtEnd c h.1

  number_for : (i : IntKind) (k : OperandType) (x : Argument) → Suits (sort.Number i) k → ArgumentFor k x → S Any (a_number x)
  number_for i k (Given v) r h = number_safe code AtEnd (StoreFits code calls) to_end i k (Given v) (r.sort, r.suits, value_sort code.classes k.of r.sort v h.1 r.of.sort)
  number_for i k (Lent c) r h = true_false (sym h.0 ∙ r.of.value)

  counted_for : (k : OperandType) (x : Argument) (r : Counted k) → ArgumentFor k x → S (λ v. sort_of v ≡ Some r.sort) (a_value x)
  counted_for k (Given v) r h = give_safe code AtEnd v (value_sort code.classes k.of r.sort v h.1 r.of.sort)
  counted_for k (Lent c) r h = true_false (sym h.0 ∙ r.of.value)

  range_for : {A : Type 0} {Q : NativeDone → Type 0} (v : Value) (o : Option A) (f : A → Change NativeDone) → S Q (refuses v) → ((a : A) → S Q (f a)) → S Q (in_range v o f)
  range_for v None f h k = h
  range_for v (Some a) f h k = k a

  gives_for : (f : Native) (ks : List OperandType) (v : Value) → SortOf (signature f).result ks v → S (DoneFor f ks) (gives v)
  gives_for f ks v h = give_safe code AtEnd _ (record { value = h; outs = tt })

  refuses_for : (f : Native) (ks : List OperandType) (v : Value) → SortOf (signature f).result ks v → S (DoneFor f ks) (refuses v)
  refuses_for f ks v h = give_safe code AtEnd _ (record { value = h; outs = tt })

  becomes_for : (f : Native) (ks : List OperandType) (d : Cell) (v : Value) → SortOf (signature f).result ks v → OutFor ks d → S (DoneFor f ks) (gives_with (d ∷ []) v)
  becomes_for f ks d v h o = give_safe code AtEnd _ (record { value = h; outs = o })

  -- the numbers of elements
  numbers_there : (t : VarType) (s : Sort) → type_sort t ≡ Some s → is_counted s ≡ true → (cs : List Cell) → AllOf code.classes t cs → (xs : List ℤ) × (numbers cs ≡ Some xs)
  numbers_there t s e c [] h = ([], refl)
  numbers_there t s e c (d ∷ ds) h =
      let v = cell_value code t s d h.0 e in
      let z = size_there s v.0 c v.2 in
      let zs = numbers_there t s e c ds h.1 in (
        z.0 ∷ zs.0,
        ap (λ x. then_some (then_some (value_at x) (λ v. size_at (out-Value v))) (λ x. then_some (numbers ds) (λ xs. Some (x ∷ xs)))) v.1
            ∙ ap (λ o. then_some o (λ x. then_some (numbers ds) (λ xs. Some (x ∷ xs)))) z.1
            ∙ ap (λ o. then_some o (λ xs. Some (z.0 ∷ xs))) zs.1,
      )

  extreme_safe : (f : Native) (better : ℤ → ℤ → Bool) (k : OperandType) (ks : List OperandType) (c : Cell) (start count : ℤ) → NumbersPlace k → CellOf code.classes k.of c
      → ((v : Value) → sort_of v ≡ Some (sort.Number kind.Int) → SortOf (signature f).result (k ∷ ks) v) → S (DoneFor f (k ∷ ks)) (extreme better c start count)
  extreme_safe f better k ks c start count r h a =
      let xs = numbers_there (type_of k.of.base []) r.sort r.of r.counted (leaves c) (elements_of code.classes k.of c h) in
      let none = refuses_for f (k ∷ ks) minus_one (a minus_one (number_sort code AtEnd (StoreFits code calls) to_end kind.Int _)) in
      then_safe code AtEnd (the_safe code AtEnd {P = Any} (numbers (leaves c)) xs.0 xs.1 (tt {0})) (λ xs u.
      range_for minus_one (place_in start (length xs)) _ none (λ i.
      range_for minus_one (count_in count (length xs - i)) _ none (λ n.
      range_for minus_one (best better i (part_of xs i n)) _ none (λ m. gives_for f (k ∷ ks) (whole m) (a (whole m) (number_sort code AtEnd (StoreFits code calls) to_end kind.Int _))))))

  extremes_safe : (f : Native) (better : ℤ → ℤ → Bool) (ks : List OperandType) (xs : List Argument) → ThreeKinds ExtremeRule ks → ArgumentsFor ks xs
      → ((ks : List OperandType) (v : Value) → sort_of v ≡ Some (sort.Number kind.Int) → SortOf (signature f).result ks v) → S (DoneFor f ks) (with_3 a_cell a_number a_number (extreme better) xs)
  extremes_safe f better ks xs r h a = three_for (DoneFor f) (with_3 a_cell a_number a_number (extreme better)) ks xs r h (λ k j i x y z r hx hy hz.
      then_safe code AtEnd (cell_for k x r.array.array.place hx) (λ c hc.
      then_safe code AtEnd (number_for kind.Int j y r.start hy) (λ start u.
      then_safe code AtEnd (number_for kind.Int i z r.count hz) (λ count u. extreme_safe f better k (j ∷ i ∷ []) c start count r.array hc (a (k ∷ j ∷ i ∷ []))))))

  maximum_asks : asks natives.ArrayMaximum ≡ false
  unfolding signature
  maximum_asks = refl

  minimum_asks : asks natives.ArrayMinimum ≡ false
  unfolding signature
  minimum_asks = refl

  sort_asks : asks natives.ArraySort ≡ false
  unfolding signature
  sort_asks = refl

  initialize_asks : asks natives.ArrayInitialize ≡ false
  unfolding signature
  initialize_asks = refl

  copy_asks : asks natives.ArrayCopy ≡ false
  unfolding signature
  copy_asks = refl

  zero_asks : asks natives.ZeroMemory ≡ false
  unfolding signature
  zero_asks = refl

  maximum_sort : (ks : List OperandType) (v : Value) → sort_of v ≡ Some (sort.Number kind.Int) → SortOf (signature natives.ArrayMaximum).result ks v
  unfolding signature
  maximum_sort ks v e = e

  minimum_sort : (ks : List OperandType) (v : Value) → sort_of v ≡ Some (sort.Number kind.Int) → SortOf (signature natives.ArrayMinimum).result ks v
  unfolding signature
  minimum_sort ks v e = e

  sort_sort : (ks : List OperandType) (v : Value) → sort_of v ≡ Some (sort.Number kind.Bool) → SortOf (signature natives.ArraySort).result ks v
  unfolding signature
  sort_sort ks v e = e

  initialize_sort : (ks : List OperandType) (v : Value) → sort_of v ≡ Some (sort.Number kind.Int) → SortOf (signature natives.ArrayInitialize).result ks v
  unfolding signature
  initialize_sort ks v e = e

  copy_sort : (ks : List OperandType) (v : Value) → sort_of v ≡ Some (sort.Number kind.Int) → SortOf (signature natives.ArrayCopy).result ks v
  unfolding signature
  copy_sort ks v e = e

  zero_sort : (ks : List OperandType) (v : Value) → SortOf (signature natives.ZeroMemory).result ks v
  unfolding signature
  zero_sort ks v = tt

  int_of : (x : ℤ) → sort_of (value.Num kind.Int x) ≡ Some (sort.Number kind.Int)
  int_of x = number_sort code AtEnd (StoreFits code calls) to_end kind.Int x

  bool_of : (x : ℤ) → sort_of (value.Num kind.Bool x) ≡ Some (sort.Number kind.Bool)
  bool_of x = number_sort code AtEnd (StoreFits code calls) to_end kind.Bool x

  array_sort_safe : (ks : List OperandType) (xs : List Argument) → OneKind NumbersPlace ks → ArgumentsFor ks xs → S (DoneFor natives.ArraySort ks) (computes natives.ArraySort xs)
  array_sort_safe ks xs r h = one_for (DoneFor natives.ArraySort) (computes natives.ArraySort) ks xs r h (λ k x r hx.
      then_safe code AtEnd (cell_for k x r.array.place hx) (λ c hc.
      becomes_for natives.ArraySort (k ∷ []) (refilled c (sorted (leaves c))) (truth_value true) (sort_sort (k ∷ []) (truth_value true) (bool_of _))
      (first_out k [] _ r.array.place (refilled_fits code.classes k.of c (sorted (leaves c)) hc (sorted_all code.classes (type_of k.of.base []) (leaves c) (elements_of code.classes k.of c hc))))))

  zero_memory_safe : (ks : List OperandType) (xs : List Argument) → OneKind (λ k. k.place ≡ true) ks → ArgumentsFor ks xs → S (DoneFor natives.ZeroMemory ks) (computes natives.ZeroMemory xs)
  zero_memory_safe ks xs r h = one_for (DoneFor natives.ZeroMemory) (computes natives.ZeroMemory) ks xs r h (λ k x r hx.
      then_safe code AtEnd (cell_for k x r hx) (λ c hc.
      becomes_for natives.ZeroMemory (k ∷ []) (zeroed c) void_value (zero_sort (k ∷ []) void_value) (first_out k [] (zeroed c) r (zeroed_fits code.classes k.of c hc))))

  -- an element gets a number
  put_number_safe : (t : VarType) (s a : Sort) (c : Cell) (v : Value) → type_sort t ≡ Some s → converts a s ≡ true → sort_of v ≡ Some a → CellOf code.classes t c → S (CellOf code.classes t) (put_number c v)
  put_number_safe t s a c v e into hv h =
      let own = cell_value code t s c h e in
      then_safe code AtEnd (the_safe code AtEnd {P = λ w. sort_of w ≡ Some s} (value_at (out-Cell c)) own.0 (ap value_at own.1) own.2) (λ w hw.
      then_safe code AtEnd (the_safe code AtEnd {P = λ o. s ≡ o} (sort_of w) s hw refl) (λ o q.
      then_safe code AtEnd (convert_safe code AtEnd (StoreFits code calls) to_end o a v (subst (λ o. converts a o ≡ true) q into) hv) (λ x hx.
      let k = (sort_value code.classes t x (subst (λ o. OfSort o x) (sym e) (subst (λ o. sort_of x ≡ Some o) (sym q) hx))).taken c h in
      the_safe code AtEnd (put c x) k.new k.is k.fits)))

  filled_all : (t : VarType) (s a : Sort) (v : Value) → type_sort t ≡ Some s → converts a s ≡ true → sort_of v ≡ Some a → (cs : List Cell) → AllOf code.classes t cs → S (AllOf code.classes t) (for_each (λ c. put_number c v) cs)
  filled_all t s a v e into hv [] h = give_safe code AtEnd [] (tt {0})
  filled_all t s a v e into hv (c ∷ cs) h =
      then_safe code AtEnd (put_number_safe t s a c v e into hv h.0) (λ d hd.
      then_safe code AtEnd (filled_all t s a v e into hv cs h.1) (λ ds hds. give_safe code AtEnd (d ∷ ds) (hd, hds)))

  array_initialize_safe : (ks : List OperandType) (xs : List Argument) → TwoKinds InitializeRule ks → ArgumentsFor ks xs → S (DoneFor natives.ArrayInitialize ks) (computes natives.ArrayInitialize xs)
  array_initialize_safe ks xs r h = two_for (DoneFor natives.ArrayInitialize) (computes natives.ArrayInitialize) ks xs r h (λ k j x y r hx hy.
      then_safe code AtEnd (cell_for k x r.array.array.place hx) (λ c hc.
      then_safe code AtEnd (counted_for j y r.value hy) (λ v hv.
      then_safe code AtEnd (then_safe code AtEnd (filled_all (type_of k.of.base []) r.array.sort r.value.sort v r.array.of (counted_converts r.value.sort r.array.sort r.value.counted r.array.counted) hv (leaves c) (elements_of code.classes k.of c hc)) (λ cs hcs.
      give_safe code AtEnd {P = CellOf code.classes k.of} (refilled c cs) (refilled_fits code.classes k.of c cs hc hcs))) (λ d hd.
      becomes_for natives.ArrayInitialize (k ∷ j ∷ []) d (whole (length (leaves c))) (initialize_sort (k ∷ j ∷ []) _ (int_of _)) (first_out k (j ∷ []) d r.array.array.place hd)))))

  -- elements get those of another array
  put_or_safe : (t u : VarType) (s a : Sort) (c f : Cell) (o : Option Cell) → type_sort t ≡ Some s → type_sort u ≡ Some a → converts a s ≡ true → CellOf code.classes t c → CellOf code.classes u f → put c (told f) ≡ o → S (CellOf code.classes t) (put_or_number c f o)
  put_or_safe t u s a c f None e g into h k is = put_number_safe t s a c (told f) e into (value_sort code.classes u a (told f) (told_value code.classes u f k) g) h
  put_or_safe t u s a c f (Some d) e g into h k is = give_safe code AtEnd d (put_keeps code.classes t c (told f) d h is)

  put_same_safe : (t : VarType) (c f : Cell) → CellOf code.classes t c → CellOf code.classes t f → S (CellOf code.classes t) (put_or_number c f (put c (told f)))
  put_same_safe t c f h k =
      let n = (told_value code.classes t f k).taken c h in
      subst (λ o. S (CellOf code.classes t) (put_or_number c f o)) (sym n.is) (give_safe code AtEnd n.new n.fits)

  put_copied_safe : (a b : Base) (c f : Cell) → Copied a b → CellOf code.classes (type_of a []) c → CellOf code.classes (type_of b []) f → S (CellOf code.classes (type_of a [])) (put_or_number c f (put c (told f)))
  put_copied_safe a b c f (Same e) h k = put_same_safe (type_of a []) c f h (subst (λ b. CellOf code.classes (type_of b []) f) e k)
  put_copied_safe a b c f (AsNumbers s t e g cs ct) h k = put_or_safe (type_of a []) (type_of b []) s t c f (put c (told f)) e g (counted_converts t s ct cs) h k refl

  copied_all : (a b : Base) (cs from : List Cell) → Copied a b → AllOf code.classes (type_of a []) cs → AllOf code.classes (type_of b []) from → S (AllOf code.classes (type_of a [])) (copied cs from)
  copied_all a b [] from r h k = give_safe code AtEnd [] (tt {0})
  copied_all a b (c ∷ cs) [] r h k = give_safe code AtEnd (c ∷ cs) h
  copied_all a b (c ∷ cs) (f ∷ from) r h k =
      then_safe code AtEnd (put_copied_safe a b c f r h.0 k.0) (λ d hd.
      then_safe code AtEnd (copied_all a b cs from r h.1 k.1) (λ ds hds. give_safe code AtEnd (d ∷ ds) (hd, hds)))

  copy_at_safe : (t : VarType) (b : Base) (c : Cell) (before : ℕ) (from : List Cell) → Copied t.base b → CellOf code.classes t c → AllOf code.classes (type_of b []) from → S (CellOf code.classes t) (copy_at c before from)
  copy_at_safe t b c before from r h k =
      let e = elements_of code.classes t c h in
      then_safe code AtEnd (copied_all t.base b (drop before (leaves c)) from r (all_dropped code.classes (type_of t.base []) before (leaves c) e) k) (λ cs hcs.
      give_safe code AtEnd (refilled c (take before (leaves c) ++ cs)) (refilled_fits code.classes t c (take before (leaves c) ++ cs) h
      (all_joined code.classes (type_of t.base []) (take before (leaves c)) cs (all_taken code.classes (type_of t.base []) before (leaves c) e) hcs)))

  abbrev Arrayed : OperandType → ArrayParts → Type 0
  Arrayed k a = ArrayOf code AtEnd (StoreFits code calls) to_end k a

  either_fits : (t : VarType) (b : Bool) (x y : ArrayParts) → CellOf code.classes t (rebuilt x) → CellOf code.classes t (rebuilt y) → CellOf code.classes t (rebuilt (either b x y))
  either_fits t true x y h g = h
  either_fits t false x y h g = g

  grown_fits : (k : OperandType) (a : ArrayParts) (before n : ℕ) → Arrayed k a → a.dynamic ≡ true → CellOf code.classes k.of (rebuilt (grown a before n))
  grown_fits k a before zero h e = h.fits
  grown_fits k a before (suc n) h e =
      let places = (before + suc n + per_place a.unit - 1) / per_place a.unit in
      either_fits k.of (nat_lt (length a.cells) places) (resized places a) a (resized_fits code AtEnd (StoreFits code calls) to_end k a places h e) h.fits

  target_fits : (k : OperandType) (a : ArrayParts) (before n : ℕ) → Arrayed k a → CellOf code.classes k.of (rebuilt (either a.dynamic (grown a before n) a))
  target_fits k a before n h = by_test a.dynamic
      (λ e. subst (λ b. CellOf code.classes k.of (rebuilt (either b (grown a before n) a))) (sym e) (grown_fits k a before n h e))
      (λ e. subst (λ b. CellOf code.classes k.of (rebuilt (either b (grown a before n) a))) (sym e) h.fits)

  part_all : (t : VarType) (cs : List Cell) (i n : ℕ) → AllOf code.classes t cs → AllOf code.classes t (part_of cs i n)
  part_all t cs i n h = all_taken code.classes t n (drop i cs) (all_dropped code.classes t i cs h)

  copies_safe : (k j : OperandType) (ks : List OperandType) (target source : Cell) (at from count : ℤ) → ArrayPlace k → Copied k.of.base j.of.base → CellOf code.classes k.of target → CellOf code.classes j.of source
      → S (DoneFor natives.ArrayCopy (k ∷ j ∷ ks)) (copies target source at from count)
  copies_safe k j ks target source at from count p r ht hs =
      let none = refuses_for natives.ArrayCopy (k ∷ j ∷ ks) (whole 0) (copy_sort (k ∷ j ∷ ks) _ (int_of _)) in
      then_safe code AtEnd {P = Arrayed k} (array_safe code AtEnd (StoreFits code calls) to_end passing.Value k (Lent target) (p, ht)) (λ a ha.
      range_for (whole 0) (place_in from (length (leaves source))) _ none (λ f.
      range_for (whole 0) (count_in count (length (leaves source) - f)) _ none (λ n.
      range_for (whole 0) _ _ none (λ t.
      range_for (whole 0) (fitting a t n) _ none (λ m.
      then_safe code AtEnd (copy_at_safe k.of j.of.base (rebuilt (either a.dynamic (grown a t m) a)) t (part_of (leaves source) f m) r (target_fits k a t m ha) (part_all (type_of j.of.base []) (leaves source) f m (elements_of code.classes j.of source hs))) (λ d hd.
      becomes_for natives.ArrayCopy (k ∷ j ∷ ks) d (whole m) (copy_sort (k ∷ j ∷ ks) _ (int_of _)) (first_out k (j ∷ ks) d p.place hd)))))))

  array_copy_safe : (ks : List OperandType) (xs : List Argument) → FiveKinds CopyArrayRule ks → ArgumentsFor ks xs → S (DoneFor natives.ArrayCopy ks) (computes natives.ArrayCopy xs)
  array_copy_safe ks xs r h = five_for (DoneFor natives.ArrayCopy) copies_of ks xs r h (λ k j i m n x y z u w r hx hy hz hu hw.
      then_safe code AtEnd (cell_for k x r.target.place hx) (λ target ht.
      then_safe code AtEnd (cell_for j y r.source.place hy) (λ source hs.
      then_safe code AtEnd (number_for kind.Int i z r.at hz) (λ at o.
      then_safe code AtEnd (number_for kind.Int m u r.from hu) (λ from o.
      then_safe code AtEnd (number_for kind.Int n w r.count hw) (λ count o. copies_safe k j (i ∷ m ∷ n ∷ []) target source at from count r.target r.elements ht hs))))))

  -- a string is split into the elements of an array of strings
  split_asks : asks natives.StringSplit ≡ false
  unfolding signature
  split_asks = refl

  split_sort : (ks : List OperandType) (v : Value) → sort_of v ≡ Some (sort.Number kind.Int) → SortOf (signature natives.StringSplit).result ks v
  unfolding signature
  split_sort ks v e = e

  str_sort : (s : List ℕ) → sort_of (value.Str s) ≡ Some sort.String
  unfolding out-Value denote.Hole.Carrier.out
  str_sort s = refl

  either_for : {Q : NativeDone → Type 0} (b : Bool) {f g : Change NativeDone} → (b ≡ true → S Q f) → S Q g → S Q (either b f g)
  either_for true h k = h refl
  either_for false h k = k

  string_for : (k : OperandType) (x : Argument) → Suits sort.String k → ArgumentFor k x → S Any (a_string x)
  string_for k (Given v) r h = string_safe code AtEnd (StoreFits code calls) to_end k (Given v) (r.sort, r.suits, value_sort code.classes k.of r.sort v h.1 r.of.sort)
  string_for k (Lent c) r h = true_false (sym h.0 ∙ r.of.value)

  array_place : (k : OperandType) → StringsPlace k → ArrayPlace k
  array_place k r = record { place = r.place; size = r.size; sizes = []; dimensions = ap (λ (t : VarType). t.dimensions) r.of }

  array_for : (k : OperandType) (x : Argument) → ArrayPlace k → ArgumentFor k x → S (Arrayed k) (an_array x)
  array_for k (Given v) r h = true_false (sym r.place ∙ h.0)
  array_for k (Lent c) r h = array_safe code AtEnd (StoreFits code calls) to_end passing.Value k (Lent c) (r, h.1)

  strings_fit : (k : OperandType) (a : ArrayParts) (ss : List (List ℕ)) → StringsPlace k → Arrayed k a → a.dynamic ≡ true → CellOf code.classes k.of (cell.Array a.dynamic a.series a.unit (map (λ t. cell.One (value.Str t)) ss))
  strings_fit k a ss r h e =
      let l = subst (Layer code.classes (CellOf code.classes) k.of) (out_array a.dynamic a.series a.unit a.cells) (layer_of code.classes k.of (rebuilt a) h.fits) in
      array_kept code.classes k.of.base k.of.dimensions a.dynamic a.series a.series a.unit a.cells (map (λ t. cell.One (value.Str t)) ss) l
      (λ z. true_false (sym e ∙ z))
      (λ u i d is there. let m = mapped (λ t. cell.One (value.Str t)) ss i d there in
      subst (λ u. CellOf code.classes u d) (some_same (subst (λ (t : VarType). part_by code.classes t.base t.dimensions 0 ≡ Some u) r.of is))
      (subst (CellOf code.classes (type_of base.String [])) m.is (sort_cell code (type_of base.String []) sort.String (value.Str m.from) refl (str_sort m.from))))

  string_split_safe : (ks : List OperandType) (xs : List Argument) → ThreeKinds SplitRule ks → ArgumentsFor ks xs → S (DoneFor natives.StringSplit ks) (computes natives.StringSplit xs)
  string_split_safe ks xs r h = three_for (DoneFor natives.StringSplit) (computes natives.StringSplit) ks xs r h (λ k j i x y z r hx hy hz.
      then_safe code AtEnd (string_for k x r.text hx) (λ s o.
      then_safe code AtEnd (number_for kind.Ushort j y r.separator hy) (λ separator o.
      then_safe code AtEnd (array_for i z (array_place i r.parts) hz) (λ a ha.
      either_for a.dynamic
      (λ e. becomes_for natives.StringSplit (k ∷ j ∷ i ∷ []) _ (whole (length (split (unsigned_abs separator) s))) (split_sort (k ∷ j ∷ i ∷ []) _ (int_of _))
      (later_out k (j ∷ i ∷ []) _ r.text.of.value (later_out j (i ∷ []) _ r.separator.of.value (first_out i [] _ r.parts.place (strings_fit i a (split (unsigned_abs separator) s) r.parts ha e)))))
      (refuses_for natives.StringSplit (k ∷ j ∷ i ∷ []) (whole 0) (split_sort (k ∷ j ∷ i ∷ []) _ (int_of _)))))))

  -- the structure of a time
  to_structure_asks : asks natives.TimeToStruct ≡ false
  unfolding signature
  to_structure_asks = refl

  from_structure_asks : asks natives.StructToTime ≡ false
  unfolding signature
  from_structure_asks = refl

  to_structure_sort : (ks : List OperandType) (v : Value) → sort_of v ≡ Some (sort.Number kind.Bool) → SortOf (signature natives.TimeToStruct).result ks v
  unfolding signature
  to_structure_sort ks v e = e

  from_structure_sort : (ks : List OperandType) (v : Value) → sort_of v ≡ Some (sort.Number kind.Datetime) → SortOf (signature natives.StructToTime).result ks v
  unfolding signature
  from_structure_sort ks v e = e

  abbrev number_cell : ℕ → Cell
  number_cell n = cell.One (whole n)

  copied_item : (n i : ℕ) (t u : VarType) → slice_get (replicate n t) i ≡ Some u → t ≡ u
  copied_item zero i t u e = absurd (none_some e)
  copied_item (suc n) zero t u e = some_same e
  copied_item (suc n) (suc i) t u e = copied_item n i t u e

  abbrev int_of_type : VarType
  int_of_type = type_of (base.Number kind.Int) []

  time_cell : (t : VarType) (ns : List ℕ) → TimeStructure code.classes t → length ns ≡ 8 → CellOf code.classes t (cell.Structure (map number_cell ns))
  time_cell t ns r e =
      let cells = map number_cell ns in
      subst (λ t. CellOf code.classes t (cell.Structure cells)) (sym r.is)
      (cell_of code.classes (type_of (base.Structure r.class) []) (cell.Structure cells)
      (subst (Layer code.classes (CellOf code.classes) (type_of (base.Structure r.class) [])) (sym (out_structure cells)) (record {
        top = length_mapped number_cell ns ∙ e ∙ sym (ap length r.fields);
        items = λ i u c is there. let m = mapped number_cell ns i c there in
            subst (λ u. CellOf code.classes u c) (copied_item 8 i int_of_type u (ap (λ ts. slice_get ts i) (sym r.fields) ∙ is))
            (subst (CellOf code.classes int_of_type) m.is (sort_cell code int_of_type (sort.Number kind.Int) (whole m.from) refl (int_of _)));
        begins = λ u c is there. absurd (none_some there);
      })))

  told_numbers : (ns : List ℕ) → map told (map number_cell ns) ≡ map whole ns
  told_numbers [] = refl
  told_numbers (n ∷ ns) = ap (λ vs. whole n ∷ vs) (told_numbers ns)

  time_value : (t : VarType) (ns : List ℕ) → TimeStructure code.classes t → length ns ≡ 8 → ValueOf code.classes t (value.Rec (map whole ns))
  time_value t ns r e =
      subst (ValueOf code.classes t) (told_structure (map number_cell ns) ∙ ap value.Rec (told_numbers ns))
      (told_value code.classes t (cell.Structure (map number_cell ns)) (time_cell t ns r e))

  time_to_struct_safe : (ks : List OperandType) (xs : List Argument) → TwoKinds (ToStructureRule code.classes) ks → ArgumentsFor ks xs → S (DoneFor natives.TimeToStruct ks) (computes natives.TimeToStruct xs)
  time_to_struct_safe ks xs r h = two_for (DoneFor natives.TimeToStruct) (computes natives.TimeToStruct) ks xs r h (λ k j x y r hx hy.
      then_safe code AtEnd (number_for kind.Datetime k x r.time hx) (λ t o.
      then_safe code AtEnd (cell_for j y r.place hy) (λ c hc.
      either_for (has_date t)
      (λ e. let n = (time_value j.of (time_fields (unsigned_abs t)) r.structure refl).taken c hc in
      then_safe code AtEnd (the_safe code AtEnd {P = CellOf code.classes j.of} (put c (value.Rec (map whole (time_fields (unsigned_abs t))))) n.new n.is n.fits) (λ d hd.
      becomes_for natives.TimeToStruct (k ∷ j ∷ []) d (truth_value true) (to_structure_sort (k ∷ j ∷ []) _ (bool_of _)) (later_out k (j ∷ []) d r.time.of.value (first_out j [] d r.place hd))))
      (refuses_for natives.TimeToStruct (k ∷ j ∷ []) (truth_value false) (to_structure_sort (k ∷ j ∷ []) _ (bool_of _))))))

  fields_there : (t : VarType) (v : Value) → TimeStructure code.classes t → ValueOf code.classes t v → (vs : List Value) × (fields_in (out-Value v) ≡ Some vs)
  fields_there t v r h =
      let ns = replicate 8 0 in
      let n = h.taken (cell.Structure (map number_cell ns)) (time_cell t ns r refl) in
      let f = found (fields_in (out-Value v)) (λ vs. then_some (put_each (map number_cell ns) vs) (λ new. Some (cell.Structure new))) n.new (sym (put_structure (map number_cell ns) v) ∙ n.is) in
      (f.it, f.is)

  datetime_of : (x : ℤ) → sort_of (value.Num kind.Datetime x) ≡ Some (sort.Number kind.Datetime)
  datetime_of x = number_sort code AtEnd (StoreFits code calls) to_end kind.Datetime x

  from_structure_safe : (k : OperandType) (v : Value) → FromStructureRule code.classes k → ValueOf code.classes k.of v → S (DoneFor natives.StructToTime (k ∷ [])) (from_structure v)
  from_structure_safe k v r h =
      let f = fields_there k.of v r.structure h in
      then_safe code AtEnd (the_safe code AtEnd {P = Any} (fields_in (out-Value v)) f.0 f.1 (tt {0})) (λ fields o.
      range_for (value.Num kind.Datetime (pos 0)) (then_some (naturals (take 6 fields)) named_moment) _
      (refuses_for natives.StructToTime (k ∷ []) _ (from_structure_sort (k ∷ []) _ (datetime_of _)))
      (λ t. gives_for natives.StructToTime (k ∷ []) _ (from_structure_sort (k ∷ []) _ (datetime_of _))))

  value_for : (k : OperandType) (x : Argument) → k.place ≡ false → ArgumentFor k x → S (ValueOf code.classes k.of) (a_value x)
  value_for k (Given v) e h = give_safe code AtEnd v h.1
  value_for k (Lent c) e h = true_false (sym h.0 ∙ e)

  struct_to_time_safe : (ks : List OperandType) (xs : List Argument) → OneKind (FromStructureRule code.classes) ks → ArgumentsFor ks xs → S (DoneFor natives.StructToTime ks) (computes natives.StructToTime xs)
  struct_to_time_safe ks xs r h = one_for (DoneFor natives.StructToTime) (computes natives.StructToTime) ks xs r h (λ k x r hx.
      then_safe code AtEnd (value_for k x r.value hx) (λ v hv. from_structure_safe k v r hv))

  -- each of them
  places_do : (f : Native) (ks : List OperandType) (xs : List Operand) → Lends code.classes f ks → ArgumentsOf code AtEnd calls to_end ks xs → A' (SortOf (signature f).result ks) (calls_native f xs)
  places_do natives.ArrayMaximum ks xs r h = lends_does natives.ArrayMaximum ks xs maximum_asks h (λ ys g. extremes_safe natives.ArrayMaximum _ ks ys r g maximum_sort)
  places_do natives.ArrayMinimum ks xs r h = lends_does natives.ArrayMinimum ks xs minimum_asks h (λ ys g. extremes_safe natives.ArrayMinimum _ ks ys r g minimum_sort)
  places_do natives.ArraySort ks xs r h = lends_does natives.ArraySort ks xs sort_asks h (λ ys g. array_sort_safe ks ys r g)
  places_do natives.ZeroMemory ks xs r h = lends_does natives.ZeroMemory ks xs zero_asks h (λ ys g. zero_memory_safe ks ys r g)
  places_do natives.ArrayInitialize ks xs r h = lends_does natives.ArrayInitialize ks xs initialize_asks h (λ ys g. array_initialize_safe ks ys r g)
  places_do natives.ArrayCopy ks xs r h = lends_does natives.ArrayCopy ks xs copy_asks h (λ ys g. array_copy_safe ks ys r g)
  places_do natives.StringSplit ks xs r h = lends_does natives.StringSplit ks xs split_asks h (λ ys g. string_split_safe ks ys r g)
  places_do natives.TimeToStruct ks xs r h = lends_does natives.TimeToStruct ks xs to_structure_asks h (λ ys g. time_to_struct_safe ks ys r g)
  places_do natives.StructToTime ks xs r h = lends_does natives.StructToTime ks xs from_structure_asks h (λ ys g. struct_to_time_safe ks ys r g)
  places_do _ ks xs r h = absurd r

  sorted_comes : (r : ResultType) (ks : List OperandType) (o : Res Value) → Comes AtEnd (StoreFits code calls) (OfResult r) o → Comes AtEnd (StoreFits code calls) (SortOf r ks) o
  sorted_comes r ks (Go v n w) h = (of_sort r ks v h.0, h.1)
  sorted_comes r ks (End e n w) h = h

  -- a call of a native function
  pub native_does : (f : Native) (ks : List OperandType) (xs : List Operand) → Answered code.classes f ks → ArgumentsOf code AtEnd calls to_end ks xs → A' (SortOf (signature f).result ks) (calls_native f xs)
  native_does f ks xs (ByWorld e) h = record { from = λ n w g. sorted_comes (signature f).result ks (calls_native f xs n w) ((asks_does code AtEnd calls to_end f ks xs e h).from n w g) }
  native_does f ks xs (ByValues e r) h = values_do code AtEnd calls to_end f ks xs e r h
  native_does f ks xs (Comments e r) h = subst (λ f. A' (SortOf (signature f).result ks) (calls_native f xs)) (sym e) (comment_does code AtEnd calls to_end ks xs h)
  native_does f ks xs (Formats e r) h = subst (λ f. A' (SortOf (signature f).result ks) (calls_native f xs)) (sym e) (format_does code AtEnd calls to_end ks xs r h)
  native_does f ks xs (Counts e r) h = subst (λ f. A' (SortOf (signature f).result ks) (calls_native f xs)) (sym e) (counts_does code AtEnd calls to_end ks xs r h)
  native_does f ks xs (Compares e r) h = compares_do code AtEnd calls to_end f ks xs e r h
  native_does f ks xs (ByPlaces r) h = places_do f ks xs r h
