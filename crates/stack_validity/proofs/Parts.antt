-- Parts of cells: what stands at a path is of the type there, and so is a cell with another part.
use Rattle.std.proofs.Common.{◌≡◌, ℕ, ◌<◌, List, [], ◌∷◌, ◌++◌, length, Option, Some, None, refl, sym, ap, ◌∙◌, subst, arith}
use Rattle.std.specs.Prelude.{slice_get}
use Rattle.mql_mean.specs.declared.value.Value.{Value}
use Rattle.mql_meaning.specs.declared.cell.Cell.{Cell, out-Cell}
use Rattle.mql_meaning.specs.declared.cell.Cell.TheOpen.{Cell-F}
use Rattle.mql_meaning.specs.declared.store.Store.{Store}
use Rattle.mql_meaning.specs.declared.types.Base.{Base}
use Rattle.mql_meaning.specs.declared.types.Base.TheVariants as base
use Rattle.mql_meaning.specs.declared.types.VarType.{VarType}
use Rattle.mql_meaning.specs.declared.tree.Class.{Class}
use Rattle.mql_meaning.specs.Changes.{Out, Done, Over, Change, after, then_some, the, fail}
use Rattle.mql_meaning.specs.Cells.{fields_of}
use Rattle.mql_mean.specs.declared.error.ErrorKind.TheVariants.{ArrayRange}
use Rattle.mql_meaning.specs.Places.{into, part, or_fail, changed, with_item, with_part}
use Rattle.stack_validity.specs.Types.{type_of, base_sort, base_fields, OfSort, part_by, part_type, type_at, StructureTop, Layer, CellOf}
use Rattle.stack_validity.specs.Fits.{Faults}
use Rattle.stack_validity.proofs.Cells.{layer_of}
use Rattle.stack_validity.proofs.Values.{some_same, none_some, found, one_of, there_is, array_kept, structure_kept}
use Rattle.stack_validity.proofs.Lists.{changed_all, changed_length}
use Rattle.std.proofs.lemmas.Option.{slice_get_within}

-- the type at a longer path
pub type_on : (classes : List Class) (t u : VarType) (path more : List ℕ) → type_at classes t path ≡ Some u → type_at classes t (path ++ more) ≡ type_at classes u more
type_on classes t u [] more e = ap (λ w. type_at classes w more) (some_same e)
type_on classes t u (i ∷ path) more e =
    let f = found (part_type classes t i) (λ w. type_at classes w path) u e in
    ap (λ o. then_some o (λ w. type_at classes w (path ++ more))) f.is ∙ type_on classes f.it u path more f.on

-- something is given and the store stays, or the run ends with an error and the store stays
abbrev pub Looks : {A : Type 0} → (A → Type 0) → Store → Out A → Type 0
Looks P store (Done a new) = P a × (new ≡ store)
Looks P store (Over e new) = Faults e × (new ≡ store)

pub looks_on : {A B : Type 0} (P : A → Type 0) (Q : B → Type 0) (store : Store) (o : Out A) (g : A → Change B) → Looks P store o → ((a : A) → P a → Looks Q store (g a store)) → Looks Q store (after o g)
looks_on P Q store (Done a new) g h k = subst (λ s. Looks Q store (g a s)) (sym h.1) (k a h.0)
looks_on P Q store (Over e new) g h k = h

module _ (classes : List Class) where
  no_fields : (b : Base) (v : Value) (i : ℕ) (u : VarType) → OfSort (base_sort b) v → slice_get (base_fields classes b) i ≡ Some u → ⊥
  no_fields (base.Number k) v i u s e = none_some e
  no_fields base.Double v i u s e = none_some e
  no_fields base.String v i u s e = none_some e
  no_fields (base.Pointer k) v i u s e = none_some e
  no_fields (base.Structure k) v i u s e = s
  no_fields (base.Object k) v i u s e = none_some e

  field_within : (b : Base) (n i : ℕ) (u : VarType) → StructureTop classes b n → slice_get (base_fields classes b) i ≡ Some u → i < n
  field_within (base.Number k) n i u h e = absurd h
  field_within base.Double n i u h e = absurd h
  field_within base.String n i u h e = absurd h
  field_within (base.Pointer k) n i u h e = absurd h
  field_within (base.Structure k) n i u h e = let w = slice_get_within (fields_of (slice_get classes k)) i u e in omega (arith, w, h)
  field_within (base.Object k) n i u h e = absurd h

  -- one position
  pub into_looks : (b : Base) (ns : List ℕ) (x : Cell-F Cell) (i : ℕ) (u : VarType) (store : Store) → Layer classes (CellOf classes) (type_of b ns) x → part_by classes b ns i ≡ Some u → Looks (CellOf classes u) store (into x i store)
  into_looks b [] (Cell-F.One v) i u store l e = absurd (no_fields b v i u l.top e)
  into_looks b (n ∷ ns) (Cell-F.One v) i u store l e = absurd l.top
  into_looks b [] (Cell-F.Array dynamic series unit cs) i u store l e = absurd l.top
  into_looks b (n ∷ ns) (Cell-F.Array dynamic series unit cs) i u store l e = by_item (slice_get cs i) refl
    where
      by_item : (o : Option Cell) → slice_get cs i ≡ o → Looks (CellOf classes u) store (or_fail o (fail ArrayRange) store)
      by_item None is = (tt, refl)
      by_item (Some c) is = (l.items i u c e is, refl)
  into_looks b [] (Cell-F.Structure cs) i u store l e =
      let c = there_is cs i (field_within b (length cs) i u l.top e) in
      subst (λ o. Looks (CellOf classes u) store (the o store)) (sym c.1) (l.items i u c.0 e c.1, refl)
  into_looks b (n ∷ ns) (Cell-F.Structure cs) i u store l e = absurd l.top

  -- the part at a path
  pub part_looks : (path : List ℕ) (t u : VarType) (c : Cell) (store : Store) → CellOf classes t c → type_at classes t path ≡ Some u → Looks (CellOf classes u) store (part path c store)
  part_looks [] t u c store h e = (subst (λ w. CellOf classes w c) (some_same e) h, refl)
  part_looks (i ∷ path) t u c store h e =
      let f = found (part_type classes t i) (λ w. type_at classes w path) u e in
      looks_on (CellOf classes f.it) (CellOf classes u) store (into (out-Cell c) i store) (part path)
      (into_looks t.base t.dimensions (out-Cell c) i f.it store (layer_of classes t c h) f.is)
      (λ d k. part_looks path f.it u d store k f.on)

  -- one position changed
  item_changed : (b : Base) (ns : List ℕ) (x : Cell-F Cell) (i : ℕ) (w : VarType) (go : Cell → Cell) → Layer classes (CellOf classes) (type_of b ns) x → part_by classes b ns i ≡ Some w → ((c : Cell) → CellOf classes w c → CellOf classes w (go c)) → CellOf classes (type_of b ns) (with_item x i go)
  item_changed b ns (Cell-F.One v) i w go l e k = one_of classes (type_of b ns) v l.top
  item_changed b [] (Cell-F.Array dynamic series unit cs) i w go l e k = absurd l.top
  item_changed b (n ∷ ns) (Cell-F.Array dynamic series unit cs) i w go l e k =
      array_kept classes b (n ∷ ns) dynamic series series unit cs (changed cs i go) l (λ z. changed_length cs i go)
      (λ u j d is there. changed_all (λ j d. CellOf classes u d) cs i go (λ j d there. l.items j u d is there)
      (λ c h. let same : w ≡ u = some_same (sym e ∙ is) in subst (λ u. CellOf classes u (go c)) same (k c (subst (λ u. CellOf classes u c) (sym same) h)))
      j d there)
  item_changed b ns (Cell-F.Structure cs) i w go l e k =
      structure_kept classes b ns cs (changed cs i go) l (changed_length cs i go)
      (λ u j d is there. changed_all (λ j d. (u : VarType) → part_by classes b ns j ≡ Some u → CellOf classes u d) cs i go (λ j d there u is. l.items j u d is there)
      (λ c h u is. let same : w ≡ u = some_same (sym e ∙ is) in subst (λ u. CellOf classes u (go c)) same (k c (h w e)))
      j d there u is)

  -- a cell with another part at a path
  pub with_part_fits : (path : List ℕ) (t u : VarType) (c new : Cell) → CellOf classes t c → type_at classes t path ≡ Some u → CellOf classes u new → CellOf classes t (with_part path new c)
  with_part_fits [] t u c new h e k = subst (λ w. CellOf classes w new) (sym (some_same e)) k
  with_part_fits (i ∷ path) t u c new h e k =
      let f = found (part_type classes t i) (λ w. type_at classes w path) u e in
      item_changed t.base t.dimensions (out-Cell c) i f.it (with_part path new) (layer_of classes t c h) f.is
      (λ d g. with_part_fits path f.it u d new g f.on k)
