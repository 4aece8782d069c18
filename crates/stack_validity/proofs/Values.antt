-- Values of types: cells take them and stay of their types.
use Rattle.std.proofs.Common.{◌≡◌, ℕ, zero, suc, ◌<◌, Bool, true, false, List, [], ◌∷◌, length, map, Option, Some, None, refl, sym, ap, ◌∙◌, subst, arith}
use Rattle.std.specs.Prelude.{◌==◌, slice_get}
use Rattle.std.proofs.lemmas.Bool.{eqb-true, eq-eqb}
use Rattle.fx8.specs.declared.int_kind.IntKind.{IntKind}
use Rattle.fx8.specs.declared.int_kind.IntKind.TheVariants as kind
use Rattle.mql_mean.specs.declared.value.Value.{Value, out-Value}
use Rattle.mql_mean.specs.declared.value.Value.TheOpen.{Value-F}
use Rattle.mql_meaning.specs.declared.cell.Cell.{Cell}
use Rattle.mql_meaning.specs.declared.cell.Cell.TheVariants as cell
use Rattle.mql_meaning.specs.declared.cell.Cell.TheVariants.{rolls-One, rolls-Array, rolls-Structure}
use Rattle.mql_meaning.specs.declared.cell.Cell.TheOpen.{Cell-F}
use Rattle.mql_meaning.specs.declared.types.Base.{Base}
use Rattle.mql_meaning.specs.declared.types.Sort.{Sort}
use Rattle.mql_meaning.specs.declared.types.Sort.TheVariants as sort
use Rattle.mql_meaning.specs.declared.types.VarType.{VarType}
use Rattle.mql_meaning.specs.declared.tree.Class.{Class}
use Rattle.mql_meaning.specs.Changes.{then_some}
use Rattle.mql_meaning.specs.Cells.{tag, alike, put, each}
use Rattle.mql_meaning.specs.Operators.{sort_at}
use Rattle.store_cells.specs.Puts.{put_each}
use Rattle.stack_validity.specs.Types.{type_of, base_sort, OfSort, part_by, StructureTop, TopOf, Layer, CellOf}
use Rattle.stack_validity.proofs.Cells.{out_one, out_array, out_structure, cell_of}

pub some_same : {A : Type 0} {a b : A} → Some a ≡ Some b → a ≡ b
some_same {a} {b} e = cc

pub none_some : {A : Type 0} {a : A} → None ≡ Some a → ⊥
none_some e = cc

-- a look-up that went on
pub record Found {A B : Type 0} (o : Option A) (f : A → Option B) (b : B) : Type 0 where
  pub it : A
  pub is : o ≡ Some it
  pub on : f it ≡ Some b

pub found : {A B : Type 0} (o : Option A) (f : A → Option B) (b : B) → then_some o f ≡ Some b → Found o f b
found None f b e = absurd (none_some e)
found (Some a) f b e = record { it = a; is = refl; on = e }

-- an integer kind is known by its number
untag : ℕ → IntKind
untag n = elim (slice_get (kind.Bool ∷ kind.Bool ∷ kind.Char ∷ kind.Uchar ∷ kind.Short ∷ kind.Ushort ∷ kind.Int ∷ kind.Uint ∷ kind.Long ∷ kind.Ulong ∷ kind.Datetime ∷ kind.Color ∷ []) n) as (λ _. IntKind) [ None ↦ kind.Bool | Some k ↦ k ]

untag_tag : (k : IntKind) → untag (tag k) ≡ k
unfolding untag
untag_tag kind.Bool = refl
untag_tag kind.Char = refl
untag_tag kind.Uchar = refl
untag_tag kind.Short = refl
untag_tag kind.Ushort = refl
untag_tag kind.Int = refl
untag_tag kind.Uint = refl
untag_tag kind.Long = refl
untag_tag kind.Ulong = refl
untag_tag kind.Datetime = refl
untag_tag kind.Color = refl

same_tag : (j k : IntKind) → (tag j == tag k) ≡ true → j ≡ k
same_tag j k e = let n : tag j ≡ tag k = eqb-true (tag j) (tag k) e in sym (untag_tag j) ∙ ap untag n ∙ untag_tag k

tag_same : (k : IntKind) → (tag k == tag k) ≡ true
tag_same k = eq-eqb (tag k) (tag k) refl

-- values that are alike are of one sort, and the other way round
pub alike_sort : (x y : Value-F Value) (s : Sort) → alike x y ≡ true → sort_at x ≡ Some s → sort_at y ≡ Some s
alike_sort (Value-F.Num k x) (Value-F.Num j y) s e h = ap (λ k. Some (sort.Number k)) (sym (same_tag k j e)) ∙ h
alike_sort (Value-F.Num k x) (Value-F.Dbl y) s e h = absurd cc
alike_sort (Value-F.Num k x) (Value-F.Str y) s e h = absurd cc
alike_sort (Value-F.Num k x) (Value-F.Ptr y) s e h = absurd cc
alike_sort (Value-F.Num k x) (Value-F.Arr y) s e h = absurd cc
alike_sort (Value-F.Num k x) (Value-F.Rec y) s e h = absurd cc
alike_sort (Value-F.Dbl x) (Value-F.Num k y) s e h = absurd cc
alike_sort (Value-F.Dbl x) (Value-F.Dbl y) s e h = h
alike_sort (Value-F.Dbl x) (Value-F.Str y) s e h = absurd cc
alike_sort (Value-F.Dbl x) (Value-F.Ptr y) s e h = absurd cc
alike_sort (Value-F.Dbl x) (Value-F.Arr y) s e h = absurd cc
alike_sort (Value-F.Dbl x) (Value-F.Rec y) s e h = absurd cc
alike_sort (Value-F.Str x) (Value-F.Num k y) s e h = absurd cc
alike_sort (Value-F.Str x) (Value-F.Dbl y) s e h = absurd cc
alike_sort (Value-F.Str x) (Value-F.Str y) s e h = h
alike_sort (Value-F.Str x) (Value-F.Ptr y) s e h = absurd cc
alike_sort (Value-F.Str x) (Value-F.Arr y) s e h = absurd cc
alike_sort (Value-F.Str x) (Value-F.Rec y) s e h = absurd cc
alike_sort (Value-F.Ptr x) (Value-F.Num k y) s e h = absurd cc
alike_sort (Value-F.Ptr x) (Value-F.Dbl y) s e h = absurd cc
alike_sort (Value-F.Ptr x) (Value-F.Str y) s e h = absurd cc
alike_sort (Value-F.Ptr x) (Value-F.Ptr y) s e h = h
alike_sort (Value-F.Ptr x) (Value-F.Arr y) s e h = absurd cc
alike_sort (Value-F.Ptr x) (Value-F.Rec y) s e h = absurd cc
alike_sort (Value-F.Arr x) y s e h = absurd cc
alike_sort (Value-F.Rec x) y s e h = absurd cc

-- what a value of a sort is
abbrev pub IsSort : Sort → Value-F Value → Type 0
IsSort (sort.Number k) x = (n : _) × (x ≡ Value-F.Num k n)
IsSort sort.Double x = (n : _) × (x ≡ Value-F.Dbl n)
IsSort sort.String x = (s : _) × (x ≡ Value-F.Str s)
IsSort sort.Pointer x = (p : _) × (x ≡ Value-F.Ptr p)

pub sort_is : (x : Value-F Value) (s : Sort) → sort_at x ≡ Some s → IsSort s x
sort_is (Value-F.Num k x) s e = subst (λ s. IsSort s (Value-F.Num k x)) (some_same e) (x, refl)
sort_is (Value-F.Dbl x) s e = subst (λ s. IsSort s (Value-F.Dbl x)) (some_same e) (x, refl)
sort_is (Value-F.Str x) s e = subst (λ s. IsSort s (Value-F.Str x)) (some_same e) (x, refl)
sort_is (Value-F.Ptr x) s e = subst (λ s. IsSort s (Value-F.Ptr x)) (some_same e) (x, refl)
sort_is (Value-F.Arr x) s e = absurd cc
sort_is (Value-F.Rec x) s e = absurd cc

alike_is : (s : Sort) (x y : Value-F Value) → IsSort s x → IsSort s y → alike x y ≡ true
alike_is (sort.Number k) x y h g = ap (λ x. alike x y) h.1 ∙ ap (alike (Value-F.Num k h.0)) g.1 ∙ tag_same k
alike_is sort.Double x y h g = ap (λ x. alike x y) h.1 ∙ ap (alike (Value-F.Dbl h.0)) g.1
alike_is sort.String x y h g = ap (λ x. alike x y) h.1 ∙ ap (alike (Value-F.Str h.0)) g.1
alike_is sort.Pointer x y h g = ap (λ x. alike x y) h.1 ∙ ap (alike (Value-F.Ptr h.0)) g.1

pub same_alike : (x y : Value-F Value) (s : Sort) → sort_at x ≡ Some s → sort_at y ≡ Some s → alike x y ≡ true
same_alike x y s h g = alike_is s x y (sort_is x s h) (sort_is y s g)

module _ (classes : List Class) where
  -- a cell without parts
  pub one_of : (t : VarType) (v : Value) → TopOf classes t.base t.dimensions (Cell-F.One v) → CellOf classes t (cell.One v)
  one_of t v h = cell_of classes t (cell.One v) (subst (Layer classes (CellOf classes) t) (sym (out_one v)) (record {
    top = h;
    items = λ i u c e is. absurd (none_some is);
    begins = λ u c e is. absurd (none_some is);
  }))

  pub one_top : (b : Base) (ns : List ℕ) (v w : Value) → alike (out-Value v) (out-Value w) ≡ true → TopOf classes b ns (Cell-F.One v) → TopOf classes b ns (Cell-F.One w)
  one_top b [] v w e h = of_sort (base_sort b) h
    where
      of_sort : (o : Option Sort) → OfSort o v → OfSort o w
      of_sort None h = h
      of_sort (Some s) h = alike_sort (out-Value v) (out-Value w) s e h
  one_top b (n ∷ ns) v w e h = h

-- an item within a list, and one of a list that was gone through
pub there_is : {A : Type 0} (xs : List A) (i : ℕ) → i < length xs → (x : A) × (slice_get xs i ≡ Some x)
there_is [] i lt = absurd (omega (arith, lt))
there_is (x ∷ xs) zero lt = (x, refl)
there_is (x ∷ xs) (suc i) lt = there_is xs i (omega (arith, lt))

pub record Mapped {A B : Type 0} (f : A → B) (xs : List A) (i : ℕ) (y : B) : Type 0 where
  pub from : A
  pub there : slice_get xs i ≡ Some from
  pub is : f from ≡ y

pub mapped : {A B : Type 0} (f : A → B) (xs : List A) (i : ℕ) (y : B) → slice_get (map f xs) i ≡ Some y → Mapped f xs i y
mapped f [] i y e = absurd (none_some e)
mapped f (x ∷ xs) zero y e = record { from = x; there = refl; is = some_same e }
mapped f (x ∷ xs) (suc i) y e = let r = mapped f xs i y e in record { from = r.from; there = r.there; is = r.is }

pub length_mapped : {A B : Type 0} (f : A → B) (xs : List A) → length (map f xs) ≡ length xs
length_mapped f [] = refl
length_mapped f (x ∷ xs) = let r = length_mapped f xs in omega (arith, r)

-- cells that got values, each from one
pub record Got (cs : List Cell) (i : ℕ) (d : Cell) : Type 0 where
  pub from : Cell
  pub there : slice_get cs i ≡ Some from
  pub value : Value
  pub is : put from value ≡ Some d

got_more : (cs ds : List Cell) (c d : Cell) (v : Value) → put c v ≡ Some d → ((i : ℕ) (e : Cell) → slice_get ds i ≡ Some e → Got cs i e) → (i : ℕ) (e : Cell) → slice_get (d ∷ ds) i ≡ Some e → Got (c ∷ cs) i e
got_more cs ds c d v is h zero e there = record { from = c; there = refl; value = v; is = is ∙ there }
got_more cs ds c d v is h (suc i) e there = let r = h i e there in record { from = r.from; there = r.there; value = r.value; is = r.is }

pub got_each : (cs : List Cell) (vs : List Value) (ds : List Cell) → put_each cs vs ≡ Some ds → (i : ℕ) (d : Cell) → slice_get ds i ≡ Some d → Got cs i d
got_each [] [] ds e i d is = absurd (none_some (ap (λ (ds : List Cell). slice_get ds i) (some_same e) ∙ is))
got_each [] (v ∷ vs) ds e i d is = absurd (none_some e)
got_each (c ∷ cs) [] ds e i d is = absurd (none_some e)
got_each (c ∷ cs) (v ∷ vs) ds e i d is =
    let f = found (put c v) (λ d. then_some (put_each cs vs) (λ ds. Some (d ∷ ds))) ds e in
    let g = found (put_each cs vs) (λ ds. Some (f.it ∷ ds)) ds f.on in
    got_more cs g.it c f.it v f.is (got_each cs vs g.it g.is) i d (ap (λ (ds : List Cell). slice_get ds i) (some_same g.on) ∙ is)

pub got_length : (cs : List Cell) (vs : List Value) (ds : List Cell) → put_each cs vs ≡ Some ds → length ds ≡ length cs
got_length [] [] ds e = ap length (sym (some_same e))
got_length [] (v ∷ vs) ds e = absurd (none_some e)
got_length (c ∷ cs) [] ds e = absurd (none_some e)
got_length (c ∷ cs) (v ∷ vs) ds e =
    let f = found (put c v) (λ d. then_some (put_each cs vs) (λ ds. Some (d ∷ ds))) ds e in
    let g = found (put_each cs vs) (λ ds. Some (f.it ∷ ds)) ds f.on in
    let l = got_length cs vs g.it g.is in
    ap length (sym (some_same g.on)) ∙ (omega (arith, l))

-- what each of a list was made from
pub record Made {A B : Type 0} (f : A → Option B) (y : B) : Type 0 where
  pub from : A
  pub is : f from ≡ Some y

made_more : (f : Value → Option Cell) (d : Cell) (ds : List Cell) (v : Value) → f v ≡ Some d → ((i : ℕ) (e : Cell) → slice_get ds i ≡ Some e → Made f e) → (i : ℕ) (e : Cell) → slice_get (d ∷ ds) i ≡ Some e → Made f e
made_more f d ds v is h zero e there = record { from = v; is = is ∙ there }
made_more f d ds v is h (suc i) e there = h i e there

pub made_each : (f : Value → Option Cell) (vs : List Value) (ds : List Cell) → each f vs ≡ Some ds → (i : ℕ) (d : Cell) → slice_get ds i ≡ Some d → Made f d
made_each f [] ds e i d is = absurd (none_some (ap (λ (ds : List Cell). slice_get ds i) (some_same e) ∙ is))
made_each f (v ∷ vs) ds e i d is =
    let g = found (f v) (λ c. then_some (each f vs) (λ cs. Some (c ∷ cs))) ds e in
    let h = found (each f vs) (λ cs. Some (g.it ∷ cs)) ds g.on in
    made_more f g.it h.it v g.is (made_each f vs h.it h.is) i d (ap (λ (ds : List Cell). slice_get ds i) (some_same h.on) ∙ is)

-- where each can be made, all can
pub each_there : (f : Value → Option Cell) (vs : List Value) → ((i : ℕ) (v : Value) → slice_get vs i ≡ Some v → (d : Cell) × (f v ≡ Some d)) → (ds : List Cell) × (each f vs ≡ Some ds)
each_there f [] h = ([], refl)
each_there f (v ∷ vs) h =
    let d = h 0 v refl in
    let ds = each_there f vs (λ i. h (suc i)) in
    (d.0 ∷ ds.0, ap (λ o. then_some o (λ c. then_some (each f vs) (λ cs. Some (c ∷ cs)))) d.1 ∙ ap (λ o. then_some o (λ cs. Some (d.0 ∷ cs))) ds.1)

pub put_there : (cs : List Cell) (vs : List Value) → length cs ≡ length vs → ((i : ℕ) (c : Cell) (v : Value) → slice_get cs i ≡ Some c → slice_get vs i ≡ Some v → (d : Cell) × (put c v ≡ Some d)) → (ds : List Cell) × (put_each cs vs ≡ Some ds)
put_there [] [] e h = ([], refl)
put_there [] (v ∷ vs) e h = absurd (omega (arith, e))
put_there (c ∷ cs) [] e h = absurd (omega (arith, e))
put_there (c ∷ cs) (v ∷ vs) e h =
    let d = h 0 c v refl refl in
    let ds = put_there cs vs (omega (arith, e)) (λ i. h (suc i)) in
    (d.0 ∷ ds.0, ap (λ o. then_some o (λ d. then_some (put_each cs vs) (λ ds. Some (d ∷ ds)))) d.1 ∙ ap (λ o. then_some o (λ ds. Some (d.0 ∷ ds))) ds.1)

module _ (classes : List Class) where
  -- an array and a structure with other items
  pub array_kept : (b : Base) (dims : List ℕ) (dynamic series after : Bool) (unit cs new : List Cell) → Layer classes (CellOf classes) (type_of b dims) (Cell-F.Array dynamic series unit cs)
      → (dynamic ≡ false → length new ≡ length cs)
      → ((u : VarType) (i : ℕ) (d : Cell) → part_by classes b dims 0 ≡ Some u → slice_get new i ≡ Some d → CellOf classes u d)
      → CellOf classes (type_of b dims) (cell.Array dynamic after unit new)
  array_kept b [] dynamic series after unit cs new l e h = absurd l.top
  array_kept b (n ∷ ns) dynamic series after unit cs new l e h =
      cell_of classes (type_of b (n ∷ ns)) (cell.Array dynamic after unit new)
      (subst (Layer classes (CellOf classes) (type_of b (n ∷ ns))) (sym (out_array dynamic after unit new)) (record {
        top = record { changes = l.top.changes; begin = l.top.begin; begins = l.top.begins; size = λ z. e (l.top.changes ∙ z) ∙ l.top.size z };
        items = λ i u d is there. h u i d is there;
        begins = λ u d is there. l.begins u d is there;
      }))

  pub structure_kept : (b : Base) (dims : List ℕ) (cs new : List Cell) → Layer classes (CellOf classes) (type_of b dims) (Cell-F.Structure cs)
      → length new ≡ length cs
      → ((u : VarType) (i : ℕ) (d : Cell) → part_by classes b dims i ≡ Some u → slice_get new i ≡ Some d → CellOf classes u d)
      → CellOf classes (type_of b dims) (cell.Structure new)
  structure_kept b [] cs new l e h =
      cell_of classes (type_of b []) (cell.Structure new)
      (subst (Layer classes (CellOf classes) (type_of b [])) (sym (out_structure new)) (record {
        top = subst (StructureTop classes b) (sym e) l.top;
        items = λ i u d is there. h u i d is there;
        begins = λ u d is there. absurd (none_some there);
      }))
  structure_kept b (n ∷ ns) cs new l e h = absurd l.top
