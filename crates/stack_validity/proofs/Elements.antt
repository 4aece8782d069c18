-- The elements of arrays in all their dimensions: of which type they are, and arrays with other elements.
use denote.Hole.Carrier.{out, roll}
use Rattle.std.proofs.Common.{◌≡◌, ℕ, zero, suc, Bool, true, false, List, [], ◌∷◌, ◌++◌, length, take, drop, map, Option, Some, None, refl, sym, subst, arith}
use Rattle.std.specs.Prelude.{slice_get}
use Rattle.mql_mean.specs.declared.value.Value.{Value, out-Value}
use Rattle.mql_mean.specs.declared.value.Value.TheOpen.{Value-F}
use Rattle.mql_meaning.specs.declared.cell.Cell.{Cell}
use Rattle.mql_meaning.specs.declared.cell.Cell.TheVariants as cell
use Rattle.mql_meaning.specs.declared.cell.Cell.TheOpen.{Cell-F}
use Rattle.mql_meaning.specs.declared.types.Base.{Base}
use Rattle.mql_meaning.specs.declared.types.Sort.{Sort}
use Rattle.mql_meaning.specs.declared.types.VarType.{VarType}
use Rattle.mql_meaning.specs.declared.tree.Class.{Class}
use Rattle.mql_meaning.specs.Changes.{either}
use Rattle.mql_meaning.specs.Operators.{sort_at, sort_of}
use Rattle.mql_meaning.specs.ArrayFunctions.{leaves, first_or, refilled, inserted, sorted, zero_value, zeroed}
use Rattle.native_arrays.specs.Lists.{leaves_of, refilled_each}
use Rattle.native_arrays.proofs.Rows.{leaves_array, leaves_structure, leaves_one_same, refilled_array, refilled_structure, refilled_one, zeroed_array, zeroed_structure}
use Rattle.stack_validity.specs.Types.{type_of, base_sort, OfSort, Layer, CellOf}
use Rattle.stack_validity.proofs.Values.{some_same, none_some, one_of, mapped, length_mapped, array_kept, structure_kept}
use Rattle.stack_validity.proofs.Cells.{out_one, out_array, out_structure, by_cells, layer_of}

module _ (classes : List Class) where
  -- all are of a type
  abbrev pub AllOf : VarType → List Cell → Type 0
  AllOf t [] = Unit {0}
  AllOf t (c ∷ cs) = CellOf classes t c × AllOf t cs

  pub all_joined : (t : VarType) (cs ds : List Cell) → AllOf t cs → AllOf t ds → AllOf t (cs ++ ds)
  all_joined t [] ds h g = g
  all_joined t (c ∷ cs) ds h g = (h.0, all_joined t cs ds h.1 g)

  pub all_taken : (t : VarType) (n : ℕ) (cs : List Cell) → AllOf t cs → AllOf t (take n cs)
  all_taken t zero cs h = tt
  all_taken t (suc n) [] h = tt
  all_taken t (suc n) (c ∷ cs) h = (h.0, all_taken t n cs h.1)

  pub all_dropped : (t : VarType) (n : ℕ) (cs : List Cell) → AllOf t cs → AllOf t (drop n cs)
  all_dropped t zero cs h = h
  all_dropped t (suc n) [] h = tt
  all_dropped t (suc n) (c ∷ cs) h = all_dropped t n cs h.1

  either_all : (t : VarType) (b : Bool) (cs ds : List Cell) → AllOf t cs → AllOf t ds → AllOf t (either b cs ds)
  either_all t true cs ds h g = h
  either_all t false cs ds h g = g

  inserted_all : (t : VarType) (c : Cell) (cs : List Cell) → CellOf classes t c → AllOf t cs → AllOf t (inserted c cs)
  inserted_all t c [] h g = (h, tt)
  inserted_all t c (d ∷ ds) h g = either_all t _ (c ∷ d ∷ ds) (d ∷ inserted c ds) (h, g) (g.0, inserted_all t c ds h g.1)

  pub sorted_all : (t : VarType) (cs : List Cell) → AllOf t cs → AllOf t (sorted cs)
  sorted_all t [] h = tt
  sorted_all t (c ∷ cs) h = inserted_all t c (sorted cs) h.0 (sorted_all t cs h.1)

  array_layer : (b : Base) (ns : List ℕ) (dynamic series : Bool) (unit cs : List Cell) → CellOf classes (type_of b ns) (cell.Array dynamic series unit cs) → Layer classes (CellOf classes) (type_of b ns) (Cell-F.Array dynamic series unit cs)
  array_layer b ns dynamic series unit cs h = subst (Layer classes (CellOf classes) (type_of b ns)) (out_array dynamic series unit cs) (layer_of classes (type_of b ns) (cell.Array dynamic series unit cs) h)

  one_layer : (b : Base) (ns : List ℕ) (v : Value) → CellOf classes (type_of b ns) (cell.One v) → Layer classes (CellOf classes) (type_of b ns) (Cell-F.One v)
  one_layer b ns v h = subst (Layer classes (CellOf classes) (type_of b ns)) (out_one v) (layer_of classes (type_of b ns) (cell.One v) h)

  structure_layer : (b : Base) (ns : List ℕ) (cs : List Cell) → CellOf classes (type_of b ns) (cell.Structure cs) → Layer classes (CellOf classes) (type_of b ns) (Cell-F.Structure cs)
  structure_layer b ns cs h = subst (Layer classes (CellOf classes) (type_of b ns)) (out_structure cs) (layer_of classes (type_of b ns) (cell.Structure cs) h)

  -- the elements of a cell of a type
  abbrev HasElements : Cell → Type 0
  HasElements c = (b : Base) (ns : List ℕ) → CellOf classes (type_of b ns) c → AllOf (type_of b []) (leaves c)

  one_elements : (v : Value) → HasElements (cell.One v)
  one_elements v b [] h = subst (AllOf (type_of b [])) (sym (leaves_one_same (cell.One v) v refl)) (h, tt)
  one_elements v b (n ∷ ns) h = absurd (one_layer b (n ∷ ns) v h).top

  each_elements : (t : VarType) (cs : List Cell) → ((i : ℕ) (c : Cell) → slice_get cs i ≡ Some c → AllOf t (leaves c)) → AllOf t (leaves_of cs)
  each_elements t [] h = tt
  each_elements t (c ∷ cs) h = all_joined t (leaves c) (leaves_of cs) (h 0 c refl) (each_elements t cs (λ i. h (suc i)))

  array_elements : (dynamic series : Bool) (unit cs : List Cell) → ((i : ℕ) (c : Cell) → slice_get unit i ≡ Some c → HasElements c) → ((i : ℕ) (c : Cell) → slice_get cs i ≡ Some c → HasElements c) → HasElements (cell.Array dynamic series unit cs)
  array_elements dynamic series unit cs hu hi b [] h = absurd (array_layer b [] dynamic series unit cs h).top
  array_elements dynamic series unit cs hu hi b (n ∷ ns) h =
      let l = array_layer b (n ∷ ns) dynamic series unit cs h in
      subst (AllOf (type_of b [])) (sym (leaves_array dynamic series unit cs))
      (each_elements (type_of b []) cs (λ i c e. hi i c e b ns (l.items i (type_of b ns) c refl e)))

  structure_elements : (cs : List Cell) → ((i : ℕ) (c : Cell) → slice_get cs i ≡ Some c → HasElements c) → HasElements (cell.Structure cs)
  structure_elements cs hi b [] h = subst (AllOf (type_of b [])) (sym (leaves_structure cs)) (h, tt)
  structure_elements cs hi b (n ∷ ns) h = absurd (structure_layer b (n ∷ ns) cs h).top

  pub elements_of : (t : VarType) (c : Cell) → CellOf classes t c → AllOf (type_of t.base []) (leaves c)
  elements_of t c h = by_cells HasElements one_elements array_elements structure_elements c t.base t.dimensions h

  -- with other elements
  first_of : (t : VarType) (c : Cell) (ls : List Cell) → CellOf classes t c → AllOf t ls → CellOf classes t (first_or c ls)
  first_of t c [] h g = h
  first_of t c (l ∷ ls) h g = g.0

  abbrev Refills : Cell → Type 0
  Refills c = (b : Base) (ns : List ℕ) → CellOf classes (type_of b ns) c → (ls : List Cell) → AllOf (type_of b []) ls → CellOf classes (type_of b ns) (refilled c ls)

  one_refills : (v : Value) → Refills (cell.One v)
  one_refills v b [] h ls g = subst (CellOf classes (type_of b [])) (sym (refilled_one (cell.One v) v ls (out_one v))) (first_of (type_of b []) (cell.One v) ls h g)
  one_refills v b (n ∷ ns) h ls g = absurd (one_layer b (n ∷ ns) v h).top

  refilled_length : (cs ls : List Cell) → length (refilled_each cs ls) ≡ length cs
  refilled_length [] ls = refl
  refilled_length (c ∷ cs) ls = let r = refilled_length cs (drop (length (leaves c)) ls) in omega (arith, r)

  refilled_items : (t u : VarType) (cs : List Cell) → ((i : ℕ) (c : Cell) → slice_get cs i ≡ Some c → (ls : List Cell) → AllOf t ls → CellOf classes u (refilled c ls))
      → (ls : List Cell) → AllOf t ls → (i : ℕ) (d : Cell) → slice_get (refilled_each cs ls) i ≡ Some d → CellOf classes u d
  refilled_items t u [] h ls g i d e = absurd (none_some e)
  refilled_items t u (c ∷ cs) h ls g zero d e = subst (CellOf classes u) (some_same e) (h 0 c refl (take (length (leaves c)) ls) (all_taken t (length (leaves c)) ls g))
  refilled_items t u (c ∷ cs) h ls g (suc i) d e = refilled_items t u cs (λ i. h (suc i)) (drop (length (leaves c)) ls) (all_dropped t (length (leaves c)) ls g) i d e

  array_refills : (dynamic series : Bool) (unit cs : List Cell) → ((i : ℕ) (c : Cell) → slice_get unit i ≡ Some c → Refills c) → ((i : ℕ) (c : Cell) → slice_get cs i ≡ Some c → Refills c) → Refills (cell.Array dynamic series unit cs)
  array_refills dynamic series unit cs hu hi b [] h ls g = absurd (array_layer b [] dynamic series unit cs h).top
  array_refills dynamic series unit cs hu hi b (n ∷ ns) h ls g =
      let l = array_layer b (n ∷ ns) dynamic series unit cs h in
      subst (CellOf classes (type_of b (n ∷ ns))) (sym (refilled_array dynamic series unit cs ls))
      (array_kept classes b (n ∷ ns) dynamic series series unit cs (refilled_each cs ls) l (λ z. refilled_length cs ls)
      (λ u i d is there. subst (λ u. CellOf classes u d) (some_same is)
      (refilled_items (type_of b []) (type_of b ns) cs (λ j c e. hi j c e b ns (l.items j (type_of b ns) c refl e)) ls g i d there)))

  structure_refills : (cs : List Cell) → ((i : ℕ) (c : Cell) → slice_get cs i ≡ Some c → Refills c) → Refills (cell.Structure cs)
  structure_refills cs hi b [] h ls g = subst (CellOf classes (type_of b [])) (sym (refilled_structure cs ls)) (first_of (type_of b []) (cell.Structure cs) ls h g)
  structure_refills cs hi b (n ∷ ns) h ls g = absurd (structure_layer b (n ∷ ns) cs h).top

  pub refilled_fits : (t : VarType) (c : Cell) (ls : List Cell) → CellOf classes t c → AllOf (type_of t.base []) ls → CellOf classes t (refilled c ls)
  refilled_fits t c ls h g = by_cells Refills one_refills array_refills structure_refills c t.base t.dimensions h ls g

  -- as zero
  zero_sort : (x : Value-F Value) (s : Sort) → sort_at x ≡ Some s → sort_of (zero_value x) ≡ Some s
  unfolding out-Value denote.Hole.Carrier.out
  zero_sort (Value-F.Num k x) s e = e
  zero_sort (Value-F.Dbl x) s e = e
  zero_sort (Value-F.Str x) s e = e
  zero_sort (Value-F.Ptr x) s e = e
  zero_sort (Value-F.Arr x) s e = absurd cc
  zero_sort (Value-F.Rec x) s e = absurd cc

  abbrev Zeroes : Cell → Type 0
  Zeroes c = (b : Base) (ns : List ℕ) → CellOf classes (type_of b ns) c → CellOf classes (type_of b ns) (zeroed c)

  one_zeroes : (v : Value) → Zeroes (cell.One v)
  one_zeroes v b [] h = one_of classes (type_of b []) (zero_value (out-Value v)) (by_sort (base_sort b) (one_layer b [] v h).top)
    where
      by_sort : (o : Option Sort) → OfSort o v → OfSort o (zero_value (out-Value v))
      by_sort None h = h
      by_sort (Some s) h = zero_sort (out-Value v) s h
  one_zeroes v b (n ∷ ns) h = absurd (one_layer b (n ∷ ns) v h).top

  array_zeroes : (dynamic series : Bool) (unit cs : List Cell) → ((i : ℕ) (c : Cell) → slice_get unit i ≡ Some c → Zeroes c) → ((i : ℕ) (c : Cell) → slice_get cs i ≡ Some c → Zeroes c) → Zeroes (cell.Array dynamic series unit cs)
  array_zeroes dynamic series unit cs hu hi b [] h = absurd (array_layer b [] dynamic series unit cs h).top
  array_zeroes dynamic series unit cs hu hi b (n ∷ ns) h =
      let l = array_layer b (n ∷ ns) dynamic series unit cs h in
      subst (CellOf classes (type_of b (n ∷ ns))) (sym (zeroed_array dynamic series unit cs))
      (array_kept classes b (n ∷ ns) dynamic series series unit cs (map zeroed cs) l (λ z. length_mapped zeroed cs)
      (λ u i d is there. let m = mapped zeroed cs i d there in
      subst (CellOf classes u) m.is (hi i m.from m.there u.base u.dimensions (l.items i u m.from is m.there))))

  structure_zeroes : (cs : List Cell) → ((i : ℕ) (c : Cell) → slice_get cs i ≡ Some c → Zeroes c) → Zeroes (cell.Structure cs)
  structure_zeroes cs hi b ns h =
      let l = structure_layer b ns cs h in
      subst (CellOf classes (type_of b ns)) (sym (zeroed_structure cs))
      (structure_kept classes b ns cs (map zeroed cs) l (length_mapped zeroed cs)
      (λ u i d is there. let m = mapped zeroed cs i d there in
      subst (CellOf classes u) m.is (hi i m.from m.there u.base u.dimensions (l.items i u m.from is m.there))))

  pub zeroed_fits : (t : VarType) (c : Cell) → CellOf classes t c → CellOf classes t (zeroed c)
  zeroed_fits t c h = by_cells Zeroes one_zeroes array_zeroes structure_zeroes c t.base t.dimensions h
