-- Cells stay of their types, whatever they get; and what a cell of a type holds is a value of the type.
use denote.Hole.Carrier.{out, roll}
use Rattle.std.proofs.Common.{◌≡◌, ℕ, Bool, true, false, List, [], ◌∷◌, length, map, Option, Some, None, refl, sym, ap, ◌∙◌, subst, arith}
use Rattle.std.specs.Prelude.{◌==◌, slice_get}
use Rattle.std.proofs.lemmas.Option.{slice_get_within}
use Rattle.mql_mean.specs.declared.value.Value.{Value, out-Value}
use Rattle.mql_mean.specs.declared.value.Value.TheVariants as value
use Rattle.mql_mean.specs.declared.value.Value.TheVariants.{rolls-Arr, rolls-Rec}
use Rattle.mql_mean.specs.declared.value.Value.TheViews.{out-roll-Value}
use Rattle.mql_mean.specs.declared.value.Value.TheOpen.{Value-F}
use Rattle.mql_meaning.specs.declared.cell.Cell.{Cell, out-Cell, roll-Cell, roll-out-Cell}
use Rattle.mql_meaning.specs.declared.cell.Cell.TheVariants as cell
use Rattle.mql_meaning.specs.declared.cell.Cell.TheVariants.{rolls-Array, rolls-Structure}
use Rattle.mql_meaning.specs.declared.cell.Cell.TheOpen.{Cell-F}
use Rattle.mql_meaning.specs.declared.types.Base.{Base}
use Rattle.mql_meaning.specs.declared.types.Base.TheVariants as base
use Rattle.mql_meaning.specs.declared.types.Sort.{Sort}
use Rattle.mql_meaning.specs.declared.types.VarType.{VarType}
use Rattle.mql_meaning.specs.declared.tree.Class.{Class}
use Rattle.mql_meaning.specs.Changes.{then_some, either}
use Rattle.mql_meaning.specs.Cells.{alike, told, put, each, elements_in, fields_in}
use Rattle.store_cells.specs.Puts.{put_each, put_unit}
use Rattle.store_cells.proofs.Rows.{told_array, told_structure, put_dynamic, put_fixed, put_structure}
use Rattle.stack_validity.specs.Types.{type_of, base_sort, base_fields, plain_sort, type_sort, OfSort, part_by, StructureTop, TopOf, Layer, CellOf, Takes, ValueOf}
use Rattle.stack_validity.proofs.Cells.{out_one, out_array, out_structure, by_cells, layer_of}
use Rattle.stack_validity.proofs.Values.{some_same, none_some, found, same_alike, one_of, one_top, there_is, mapped, length_mapped, got_each, got_length, made_each, each_there, put_there, array_kept, structure_kept}

-- a cell by what it is made of
one_from : (c : Cell) (v : Value) → out-Cell c ≡ Cell-F.One v → c ≡ cell.One v
unfolding roll-Cell denote.Hole.Carrier.roll
one_from c v e = sym (roll-out-Cell c) ∙ ap roll-Cell e

pub array_from : (c : Cell) (dynamic series : Bool) (unit cs : List Cell) → out-Cell c ≡ Cell-F.Array dynamic series unit cs → c ≡ cell.Array dynamic series unit cs
array_from c dynamic series unit cs e = sym (roll-out-Cell c) ∙ ap roll-Cell e ∙ rolls-Array dynamic series unit cs

structure_from : (c : Cell) (cs : List Cell) → out-Cell c ≡ Cell-F.Structure cs → c ≡ cell.Structure cs
structure_from c cs e = sym (roll-out-Cell c) ∙ ap roll-Cell e ∙ rolls-Structure cs

out_arr : (vs : List Value) → out-Value (value.Arr vs) ≡ Value-F.Arr vs
out_arr vs = ap out-Value (sym (rolls-Arr vs)) ∙ out-roll-Value (Value-F.Arr vs)

out_rec : (vs : List Value) → out-Value (value.Rec vs) ≡ Value-F.Rec vs
out_rec vs = ap out-Value (sym (rolls-Rec vs)) ∙ out-roll-Value (Value-F.Rec vs)

false_true : {A : Type 0} → false ≡ true → A
false_true e = absurd cc

module _ (classes : List Class) where
  abbrev Keeps : Cell → Type 0
  Keeps c = (b : Base) (ns : List ℕ) (v : Value) (d : Cell) → CellOf classes (type_of b ns) c → put c v ≡ Some d → CellOf classes (type_of b ns) d

  one_keeps : (u : Value) → Keeps (cell.One u)
  one_keeps u b ns v d h e = by_test (alike (out-Value u) (out-Value v)) refl e
    where
      by_test : (t : Bool) → alike (out-Value u) (out-Value v) ≡ t → either t (Some (cell.One v)) None ≡ Some d → CellOf classes (type_of b ns) d
      by_test true a e =
          subst (CellOf classes (type_of b ns)) (some_same e) (one_of classes (type_of b ns) v
          (one_top classes b ns u v a (subst (TopOf classes b ns) (out_one u) (layer_of classes (type_of b ns) (cell.One u) h).top)))
      by_test false a e = absurd (none_some e)

  unit_keeps : (b : Base) (ns : List ℕ) (dynamic series : Bool) (unit cs : List Cell) → Layer classes (CellOf classes) (type_of b ns) (Cell-F.Array dynamic series unit cs)
      → ((i : ℕ) (c : Cell) → slice_get unit i ≡ Some c → Keeps c)
      → (u : VarType) (v : Value) (d : Cell) → part_by classes b ns 0 ≡ Some u → put_unit unit v ≡ Some d → CellOf classes u d
  unit_keeps b [] dynamic series unit cs l hu u v d is e = absurd l.top
  unit_keeps b (n ∷ ns) dynamic series unit cs l hu u v d is e =
      let there : slice_get unit 0 ≡ Some l.top.begin = ap (λ us. slice_get us 0) l.top.begins in
      hu 0 l.top.begin there u.base u.dimensions v d (l.begins u l.top.begin is there) (ap (λ us. put_unit us v) (sym l.top.begins) ∙ e)

  array_keeps : (dynamic series : Bool) (unit cs : List Cell) → ((i : ℕ) (c : Cell) → slice_get unit i ≡ Some c → Keeps c) → ((i : ℕ) (c : Cell) → slice_get cs i ≡ Some c → Keeps c) → Keeps (cell.Array dynamic series unit cs)
  array_keeps true series unit cs hu hi b ns v d h e =
      let l = subst (Layer classes (CellOf classes) (type_of b ns)) (out_array true series unit cs) (layer_of classes (type_of b ns) (cell.Array true series unit cs) h) in
      let f = found (elements_in (out-Value v)) (λ vs. then_some (each (put_unit unit) vs) (λ new. Some (cell.Array true series unit new))) d (sym (put_dynamic series unit cs v) ∙ e) in
      let g = found (each (put_unit unit) f.it) (λ new. Some (cell.Array true series unit new)) d f.on in
      subst (CellOf classes (type_of b ns)) (some_same g.on)
      (array_kept classes b ns true series series unit cs g.it l (λ z. false_true (sym z))
      (λ u i x is there. let m = made_each (put_unit unit) f.it g.it g.is i x there in unit_keeps b ns true series unit cs l hu u m.from x is m.is))
  array_keeps false series unit cs hu hi b ns v d h e =
      let l = subst (Layer classes (CellOf classes) (type_of b ns)) (out_array false series unit cs) (layer_of classes (type_of b ns) (cell.Array false series unit cs) h) in
      let f = found (elements_in (out-Value v)) (λ vs. then_some (put_each cs vs) (λ new. Some (cell.Array false series unit new))) d (sym (put_fixed series unit cs v) ∙ e) in
      let g = found (put_each cs f.it) (λ new. Some (cell.Array false series unit new)) d f.on in
      subst (CellOf classes (type_of b ns)) (some_same g.on)
      (array_kept classes b ns false series series unit cs g.it l (λ z. got_length cs f.it g.it g.is)
      (λ u i x is there. let m = got_each cs f.it g.it g.is i x there in
      hi i m.from m.there u.base u.dimensions m.value x (item_typed b ns l u i m.from is m.there) m.is))
    where
      item_typed : (b : Base) (ns : List ℕ) → Layer classes (CellOf classes) (type_of b ns) (Cell-F.Array false series unit cs) → (u : VarType) (i : ℕ) (c : Cell) → part_by classes b ns 0 ≡ Some u → slice_get cs i ≡ Some c → CellOf classes u c
      item_typed b [] l u i c is there = absurd l.top
      item_typed b (n ∷ ns) l u i c is there = l.items i u c is there

  structure_keeps : (cs : List Cell) → ((i : ℕ) (c : Cell) → slice_get cs i ≡ Some c → Keeps c) → Keeps (cell.Structure cs)
  structure_keeps cs hi b ns v d h e =
      let l = subst (Layer classes (CellOf classes) (type_of b ns)) (out_structure cs) (layer_of classes (type_of b ns) (cell.Structure cs) h) in
      let f = found (fields_in (out-Value v)) (λ vs. then_some (put_each cs vs) (λ new. Some (cell.Structure new))) d (sym (put_structure cs v) ∙ e) in
      let g = found (put_each cs f.it) (λ new. Some (cell.Structure new)) d f.on in
      subst (CellOf classes (type_of b ns)) (some_same g.on)
      (structure_kept classes b ns cs g.it l (got_length cs f.it g.it g.is)
      (λ u i x is there. let m = got_each cs f.it g.it g.is i x there in
      hi i m.from m.there u.base u.dimensions m.value x (l.items i u m.from is m.there) m.is))

  -- whatever value a cell gets, it stays of its type
  pub put_keeps : (t : VarType) (c : Cell) (v : Value) (d : Cell) → CellOf classes t c → put c v ≡ Some d → CellOf classes t d
  put_keeps t c v d h e = by_cells Keeps one_keeps array_keeps structure_keeps c t.base t.dimensions v d h e

  takes : (t : VarType) (c : Cell) (v : Value) → CellOf classes t c → (d : Cell) × (put c v ≡ Some d) → Takes classes t c v
  takes t c v h d = record { new = d.0; is = d.1; fits = put_keeps t c v d.0 h d.1 }

  -- a value of a sort is of each type of that sort
  sort_put : (b : Base) (ns : List ℕ) (v : Value) → OfSort (plain_sort ns (base_sort b)) v → (c : Cell) (x : Cell-F Cell) → out-Cell c ≡ x → TopOf classes b ns x → (d : Cell) × (put c v ≡ Some d)
  sort_put b [] v s c (Cell-F.One u) e h = (cell.One v, ap (λ c. put c v) (one_from c u e) ∙ ap (λ t. either t (Some (cell.One v)) None) (both (base_sort b) h s))
    where
      both : (o : Option Sort) → OfSort o u → OfSort o v → alike (out-Value u) (out-Value v) ≡ true
      both None h g = absurd h
      both (Some s) h g = same_alike (out-Value u) (out-Value v) s h g
  sort_put b [] v s c (Cell-F.Array dynamic series unit cs) e h = absurd h
  sort_put b [] v s c (Cell-F.Structure cs) e h = absurd (no_structure b s h)
    where
      no_structure : (b : Base) → OfSort (base_sort b) v → StructureTop classes b (length cs) → ⊥
      no_structure (base.Number k) s h = h
      no_structure base.Double s h = h
      no_structure base.String s h = h
      no_structure (base.Pointer k) s h = h
      no_structure (base.Structure k) s h = s
      no_structure (base.Object k) s h = h
  sort_put b (n ∷ ns) v s c x e h = absurd s

  pub sort_value : (t : VarType) (v : Value) → OfSort (type_sort t) v → ValueOf classes t v
  sort_value t v s = record { taken = λ c h. takes t c v h (sort_put t.base t.dimensions v s c (out-Cell c) refl (layer_of classes t c h).top) }

  -- what a cell holds is a value of its type
  abbrev Tells : Cell → Type 0
  Tells c = (b : Base) (ns : List ℕ) → CellOf classes (type_of b ns) c → ValueOf classes (type_of b ns) (told c)

  one_tells : (v : Value) → Tells (cell.One v)
  one_tells v b ns h = sort_value (type_of b ns) v (plain ns (subst (TopOf classes b ns) (out_one v) (layer_of classes (type_of b ns) (cell.One v) h).top))
    where
      plain : (ns : List ℕ) → TopOf classes b ns (Cell-F.One v) → OfSort (plain_sort ns (base_sort b)) v
      plain [] h = h
      plain (n ∷ ns) h = h

  -- the values of items
  items_tell : (u : VarType) (cs : List Cell) → ((i : ℕ) (c : Cell) → slice_get cs i ≡ Some c → ValueOf classes u (told c)) → (i : ℕ) (v : Value) → slice_get (map told cs) i ≡ Some v → ValueOf classes u v
  items_tell u cs h i v e = let m = mapped told cs i v e in subst (ValueOf classes u) m.is (h i m.from m.there)

  -- a cell of an array's type takes the values of another one's items
  array_takes : (b : Base) (n : ℕ) (ns : List ℕ) (vs : List Value) → ((n == 0) ≡ false → length vs ≡ n) → ((i : ℕ) (v : Value) → slice_get vs i ≡ Some v → ValueOf classes (type_of b ns) v)
      → (c : Cell) (x : Cell-F Cell) → out-Cell c ≡ x → Layer classes (CellOf classes) (type_of b (n ∷ ns)) x → (d : Cell) × (put c (value.Arr vs) ≡ Some d)
  array_takes b n ns vs size h c (Cell-F.One v) e l = absurd l.top
  array_takes b n ns vs size h c (Cell-F.Structure cs) e l = absurd l.top
  array_takes b n ns vs size h c (Cell-F.Array true series unit cs) e l =
      let us = each_there (put_unit unit) vs (λ i v there. let k = (h i v there).taken l.top.begin (l.begins (type_of b ns) l.top.begin refl (ap (λ us. slice_get us 0) l.top.begins)) in
      (k.new, ap (λ us. put_unit us v) l.top.begins ∙ k.is)) in (
        cell.Array true series unit us.0,
        ap (λ c. put c (value.Arr vs)) (array_from c true series unit cs e) ∙ put_dynamic series unit cs (value.Arr vs)
            ∙ ap (λ x. then_some (elements_in x) (λ vs. then_some (each (put_unit unit) vs) (λ new. Some (cell.Array true series unit new)))) (out_arr vs)
            ∙ ap (λ o. then_some o (λ new. Some (cell.Array true series unit new))) us.1,
      )
  array_takes b n ns vs size h c (Cell-F.Array false series unit cs) e l =
      let us = put_there cs vs (l.top.size (sym l.top.changes) ∙ sym (size (sym l.top.changes)))
      (λ i d v there is. let k = (h i v is).taken d (l.items i (type_of b ns) d refl there) in (k.new, k.is)) in (
        cell.Array false series unit us.0,
        ap (λ c. put c (value.Arr vs)) (array_from c false series unit cs e) ∙ put_fixed series unit cs (value.Arr vs)
            ∙ ap (λ x. then_some (elements_in x) (λ vs. then_some (put_each cs vs) (λ new. Some (cell.Array false series unit new)))) (out_arr vs)
            ∙ ap (λ o. then_some o (λ new. Some (cell.Array false series unit new))) us.1,
      )

  array_tells : (dynamic series : Bool) (unit cs : List Cell) → ((i : ℕ) (c : Cell) → slice_get unit i ≡ Some c → Tells c) → ((i : ℕ) (c : Cell) → slice_get cs i ≡ Some c → Tells c) → Tells (cell.Array dynamic series unit cs)
  array_tells dynamic series unit cs hu hi b ns h = by_dimensions ns h (subst (Layer classes (CellOf classes) (type_of b ns)) (out_array dynamic series unit cs) (layer_of classes (type_of b ns) (cell.Array dynamic series unit cs) h))
    where
      by_dimensions : (ns : List ℕ) → CellOf classes (type_of b ns) (cell.Array dynamic series unit cs) → Layer classes (CellOf classes) (type_of b ns) (Cell-F.Array dynamic series unit cs) → ValueOf classes (type_of b ns) (told (cell.Array dynamic series unit cs))
      by_dimensions [] h l = absurd l.top
      by_dimensions (n ∷ ns) h l =
          subst (ValueOf classes (type_of b (n ∷ ns))) (sym (told_array dynamic series unit cs)) (record {
            taken = λ c g. takes (type_of b (n ∷ ns)) c (value.Arr (map told cs)) g
                (array_takes b n ns (map told cs) (λ z. length_mapped told cs ∙ l.top.size z)
                (items_tell (type_of b ns) cs (λ i d there. hi i d there b ns (l.items i (type_of b ns) d refl there)))
                c (out-Cell c) refl (layer_of classes (type_of b (n ∷ ns)) c g));
          })

  -- a cell of a structure's type takes the values of another one's fields
  structure_takes : (b : Base) (vs : List Value) → length vs ≡ length (base_fields classes b) → ((i : ℕ) (u : VarType) (v : Value) → slice_get (base_fields classes b) i ≡ Some u → slice_get vs i ≡ Some v → ValueOf classes u v)
      → (m : ℕ) → StructureTop classes b m → (c : Cell) (x : Cell-F Cell) → out-Cell c ≡ x → Layer classes (CellOf classes) (type_of b []) x → (d : Cell) × (put c (value.Rec vs) ≡ Some d)
  structure_takes b vs size h m k c (Cell-F.One v) e l = absurd (no_value b k l.top)
    where
      no_value : (b : Base) → StructureTop classes b m → OfSort (base_sort b) v → ⊥
      no_value (base.Number k) h s = h
      no_value base.Double h s = h
      no_value base.String h s = h
      no_value (base.Pointer k) h s = h
      no_value (base.Structure k) h s = s
      no_value (base.Object k) h s = h
  structure_takes b vs size h m k c (Cell-F.Array dynamic series unit cs) e l = absurd l.top
  structure_takes b vs size h m k c (Cell-F.Structure cs) e l =
      let us = put_there cs vs (fields_length b (length cs) l.top ∙ sym size)
      (λ i d v there is. let lt = slice_get_within vs i v is in
      let f = there_is (base_fields classes b) i (omega (arith, lt, size)) in
      let t = (h i f.0 v f.1 is).taken d (l.items i f.0 d f.1 there) in (t.new, t.is)) in (
        cell.Structure us.0,
        ap (λ c. put c (value.Rec vs)) (structure_from c cs e) ∙ put_structure cs (value.Rec vs)
            ∙ ap (λ x. then_some (fields_in x) (λ vs. then_some (put_each cs vs) (λ new. Some (cell.Structure new)))) (out_rec vs)
            ∙ ap (λ o. then_some o (λ new. Some (cell.Structure new))) us.1,
      )
    where
      fields_length : (b : Base) (n : ℕ) → StructureTop classes b n → n ≡ length (base_fields classes b)
      fields_length (base.Number k) n h = absurd h
      fields_length base.Double n h = absurd h
      fields_length base.String n h = absurd h
      fields_length (base.Pointer k) n h = absurd h
      fields_length (base.Structure k) n h = h
      fields_length (base.Object k) n h = absurd h

  structure_tells : (cs : List Cell) → ((i : ℕ) (c : Cell) → slice_get cs i ≡ Some c → Tells c) → Tells (cell.Structure cs)
  structure_tells cs hi b ns h = by_dimensions ns h (subst (Layer classes (CellOf classes) (type_of b ns)) (out_structure cs) (layer_of classes (type_of b ns) (cell.Structure cs) h))
    where
      fields_length : (b : Base) (n : ℕ) → StructureTop classes b n → n ≡ length (base_fields classes b)
      fields_length (base.Number k) n h = absurd h
      fields_length base.Double n h = absurd h
      fields_length base.String n h = absurd h
      fields_length (base.Pointer k) n h = absurd h
      fields_length (base.Structure k) n h = h
      fields_length (base.Object k) n h = absurd h

      by_dimensions : (ns : List ℕ) → CellOf classes (type_of b ns) (cell.Structure cs) → Layer classes (CellOf classes) (type_of b ns) (Cell-F.Structure cs) → ValueOf classes (type_of b ns) (told (cell.Structure cs))
      by_dimensions [] h l =
          subst (ValueOf classes (type_of b [])) (sym (told_structure cs)) (record {
            taken = λ c g. takes (type_of b []) c (value.Rec (map told cs)) g
                (structure_takes b (map told cs) (length_mapped told cs ∙ fields_length b (length cs) l.top)
                (λ i u v f is. let m = mapped told cs i v is in
                subst (ValueOf classes u) m.is (hi i m.from m.there u.base u.dimensions (l.items i u m.from f m.there)))
                (length cs) l.top c (out-Cell c) refl (layer_of classes (type_of b []) c g));
          })
      by_dimensions (n ∷ ns) h l = absurd l.top

  pub told_value : (t : VarType) (c : Cell) → CellOf classes t c → ValueOf classes t (told c)
  told_value t c h = by_cells Tells one_tells array_tells structure_tells c t.base t.dimensions h
