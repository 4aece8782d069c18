-- Cells by the lists that they hold.
use Rattle.std.proofs.Common.{◌≡◌, ℕ, zero, suc, ◌+◌, ◌-◌, ◌≤◌, Bool, true, false, List, [], ◌∷◌, map, Option, Some, None, refl, sym, ap, ◌∙◌, arith}
use Rattle.std.specs.Prelude.{replicate, slice_get}
use mathlib.Core.Former.{Count}
use Rattle.mql_mean.specs.declared.value.Value.{Value, out-Value}
use Rattle.mql_mean.specs.declared.value.Value.TheVariants as value
use Rattle.mql_meaning.specs.declared.cell.Cell as row
use Rattle.mql_meaning.specs.declared.cell.Cell.{Cell, out-Cell, roll-Cell, roll-out-Cell, Row_of-Cell, end_of-Cell, more_of-Cell, items-the_row-Cell, items_hidden-the_row-Cell-0}
use Rattle.mql_meaning.specs.declared.cell.Cell.TheVariants as cell
use Rattle.mql_meaning.specs.declared.cell.Cell.TheOpen.{Cell-F}
use denote.Hole.Carrier.{roll}
use Rattle.mql_meaning.specs.declared.types.Base.TheVariants as base
use Rattle.mql_meaning.specs.declared.types.VarType.{VarType}
use Rattle.mql_meaning.specs.declared.tree.Class.{Class}
use Rattle.mql_meaning.specs.Changes.{then_some}
use Rattle.mql_meaning.specs.Cells.{items, told, told_all, put, put_first, put_all, each, elements_in, fields_in, weight, weight_of, weights, total, array, zero_base, fields_of}
use Rattle.store_cells.specs.Puts.{put_each, put_unit}

-- rows as lists
told_row : (n : _) (cs : Row_of-Cell n) → told_all cs ≡ map told (items-the_row-Cell n cs)
told_row n end_of-Cell = refl
told_row n (more_of-Cell c cs) = ap (λ vs. told c ∷ vs) (told_row _ cs)

weights_row : (n : _) (cs : Row_of-Cell n) → weights cs ≡ total (items-the_row-Cell n cs)
weights_row n end_of-Cell = refl
weights_row n (more_of-Cell c cs) = ap (λ k. weight c + k) (weights_row _ cs)

items_row : (n : _) (cs : Row_of-Cell n) → items cs ≡ items-the_row-Cell n cs
items_row n end_of-Cell = refl
items_row n (more_of-Cell c cs) = ap (λ ds. c ∷ ds) (items_row _ cs)

put_row : (n : _) (cs : Row_of-Cell n) (vs : List Value) → put_all cs vs ≡ put_each (items-the_row-Cell n cs) vs
put_row n end_of-Cell [] = refl
put_row n end_of-Cell (v ∷ vs) = refl
put_row n (more_of-Cell c cs) [] = refl
put_row n (more_of-Cell c cs) (v ∷ vs) =
    ap (λ o. then_some (put c v) (λ d. then_some o (λ ds. Some (d ∷ ds)))) (put_row _ cs vs)

first_row : (n : _) (cs : Row_of-Cell n) (v : Value) → put_first cs v ≡ put_unit (items-the_row-Cell n cs) v
first_row n end_of-Cell v = refl
first_row n (more_of-Cell c cs) v = refl

each_row : (n : _) (cs : Row_of-Cell n) (vs : List Value) → each (put_first cs) vs ≡ each (put_unit (items-the_row-Cell n cs)) vs
each_row n cs [] = refl
each_row n cs (v ∷ vs) =
    ap (λ o. then_some o (λ c. then_some (each (put_first cs) vs) (λ ds. Some (c ∷ ds)))) (first_row n cs v)
    ∙ ap (λ o. then_some (put_unit (items-the_row-Cell n cs) v) (λ c. then_some o (λ ds. Some (c ∷ ds)))) (each_row n cs vs)

-- what an array and a structure are made of
abbrev unit_row : Cell → (n : Count) × Row_of-Cell n
unit_row (row.Array' dynamic series _ unit _ cs) = (_, unit)
unit_row _ = (_, end_of-Cell)

abbrev item_row : Cell → (n : Count) × Row_of-Cell n
item_row (row.Array' dynamic series _ unit _ cs) = (_, cs)
item_row (row.Structure' _ cs) = (_, cs)
item_row _ = (_, end_of-Cell)

-- the value that an array and a structure hold
pub told_array : (dynamic series : Bool) (unit cs : List Cell) → told (cell.Array dynamic series unit cs) ≡ value.Arr (map told cs)
told_array dynamic series unit cs =
    let r = item_row (cell.Array dynamic series unit cs) in
    ap value.Arr (told_row r.0 r.1 ∙ ap (map told) (items_hidden-the_row-Cell-0 cs))

pub told_structure : (cs : List Cell) → told (cell.Structure cs) ≡ value.Rec (map told cs)
told_structure cs =
    let r = item_row (cell.Structure cs) in
    ap value.Rec (told_row r.0 r.1 ∙ ap (map told) (items_hidden-the_row-Cell-0 cs))

-- the value and the cells of a cell, by what it is
abbrev pub told_in : Cell-F Cell → Value
told_in (Cell-F.One v) = v
told_in (Cell-F.Array dynamic series unit cs) = value.Arr (map told cs)
told_in (Cell-F.Structure cs) = value.Rec (map told cs)

abbrev pub weight_in : Cell-F Cell → ℕ
weight_in (Cell-F.One v) = weight_of (out-Value v)
weight_in (Cell-F.Array dynamic series unit cs) = 1 + total cs
weight_in (Cell-F.Structure cs) = total cs

-- the cells that they take
pub weight_array : (dynamic series : Bool) (unit cs : List Cell) → weight (cell.Array dynamic series unit cs) ≡ 1 + total cs
weight_array dynamic series unit cs =
    let r = item_row (cell.Array dynamic series unit cs) in
    ap (λ n. 1 + n) (weights_row r.0 r.1 ∙ ap total (items_hidden-the_row-Cell-0 cs))

pub weight_structure : (cs : List Cell) → weight (cell.Structure cs) ≡ total cs
weight_structure cs =
    let r = item_row (cell.Structure cs) in weights_row r.0 r.1 ∙ ap total (items_hidden-the_row-Cell-0 cs)

told_rolled : (w : Cell-F Cell) → told (roll-Cell w) ≡ told_in w
unfolding roll-Cell denote.Hole.Carrier.roll
told_rolled (Cell-F.One v) = refl
told_rolled (Cell-F.Array dynamic series unit cs) = told_array dynamic series unit cs
told_rolled (Cell-F.Structure cs) = told_structure cs

weight_rolled : (w : Cell-F Cell) → weight (roll-Cell w) ≡ weight_in w
unfolding roll-Cell denote.Hole.Carrier.roll
weight_rolled (Cell-F.One v) = refl
weight_rolled (Cell-F.Array dynamic series unit cs) = weight_array dynamic series unit cs
weight_rolled (Cell-F.Structure cs) = weight_structure cs

told_opened : (c : Cell) → told c ≡ told_in (out-Cell c)
told_opened c = ap told (sym (roll-out-Cell c)) ∙ told_rolled (out-Cell c)

weight_opened : (c : Cell) → weight c ≡ weight_in (out-Cell c)
weight_opened c = ap weight (sym (roll-out-Cell c)) ∙ weight_rolled (out-Cell c)

-- an array
pub told_at : (c : Cell) (dynamic series : Bool) (unit cs : List Cell) →
    out-Cell c ≡ Cell-F.Array dynamic series unit cs → told c ≡ value.Arr (map told cs)
told_at c dynamic series unit cs e = told_opened c ∙ ap told_in e

pub told_same : (c : Cell) (dynamic series : Bool) (unit cs : List Cell) →
    c ≡ cell.Array dynamic series unit cs → told c ≡ value.Arr (map told cs)
told_same c dynamic series unit cs e = ap told e ∙ told_array dynamic series unit cs

pub weight_at : (c : Cell) (dynamic series : Bool) (unit cs : List Cell) →
    out-Cell c ≡ Cell-F.Array dynamic series unit cs → weight c ≡ 1 + total cs
weight_at c dynamic series unit cs e = weight_opened c ∙ ap weight_in e

pub weight_same : (c : Cell) (dynamic series : Bool) (unit cs : List Cell) →
    c ≡ cell.Array dynamic series unit cs → weight c ≡ 1 + total cs
weight_same c dynamic series unit cs e = ap weight e ∙ weight_array dynamic series unit cs

-- values that they get
abbrev array_with : Bool → Bool → List Cell → Option (List Cell) → Option Cell
array_with dynamic series unit o = then_some o (λ new. Some (cell.Array dynamic series unit new))

pub put_dynamic : (series : Bool) (unit cs : List Cell) (v : Value) → put (cell.Array true series unit cs) v
    ≡ then_some (elements_in (out-Value v)) (λ vs. array_with true series unit (each (put_unit unit) vs))
put_dynamic series unit cs v =
    let r = unit_row (cell.Array true series unit cs) in
    ap (λ us. then_some (elements_in (out-Value v)) (λ vs. array_with true series us (each (put_first r.1) vs)))
    (items_row r.0 r.1 ∙ items_hidden-the_row-Cell-0 unit)
    ∙ elements (elements_in (out-Value v))
  where
    elements : (o : Option (List Value)) →
        then_some o (λ vs. array_with true series unit (each (put_first (unit_row (cell.Array true series unit cs)).1) vs))
        ≡ then_some o (λ vs. array_with true series unit (each (put_unit unit) vs))
    elements None = refl
    elements (Some vs) =
        let r = unit_row (cell.Array true series unit cs) in
        ap (array_with true series unit) (each_row r.0 r.1 vs ∙ ap (λ us. each (put_unit us) vs) (items_hidden-the_row-Cell-0 unit))

pub put_fixed : (series : Bool) (unit cs : List Cell) (v : Value) → put (cell.Array false series unit cs) v
    ≡ then_some (elements_in (out-Value v)) (λ vs. array_with false series unit (put_each cs vs))
put_fixed series unit cs v =
    let r = unit_row (cell.Array false series unit cs) in
    let q = item_row (cell.Array false series unit cs) in
    ap (λ us. then_some (elements_in (out-Value v)) (λ vs. array_with false series us (put_all q.1 vs)))
    (items_row r.0 r.1 ∙ items_hidden-the_row-Cell-0 unit)
    ∙ elements (elements_in (out-Value v))
  where
    elements : (o : Option (List Value)) →
        then_some o (λ vs. array_with false series unit (put_all (item_row (cell.Array false series unit cs)).1 vs))
        ≡ then_some o (λ vs. array_with false series unit (put_each cs vs))
    elements None = refl
    elements (Some vs) =
        let q = item_row (cell.Array false series unit cs) in
        ap (array_with false series unit) (put_row q.0 q.1 vs ∙ ap (λ ds. put_each ds vs) (items_hidden-the_row-Cell-0 cs))

-- what an array whose size changes gets asks for none of its elements
pub put_any : (series : Bool) (unit cs : List Cell) (v : Value) →
    put (cell.Array true series unit cs) v ≡ put (cell.Array true series unit []) v
put_any series unit cs v = put_dynamic series unit cs v ∙ sym (put_dynamic series unit [] v)

pub put_structure : (cs : List Cell) (v : Value) → put (cell.Structure cs) v
    ≡ then_some (fields_in (out-Value v)) (λ vs. then_some (put_each cs vs) (λ new. Some (cell.Structure new)))
put_structure cs v = fields (fields_in (out-Value v))
  where
    fields : (o : Option (List Value)) →
        then_some o (λ vs. then_some (put_all (item_row (cell.Structure cs)).1 vs) (λ new. Some (cell.Structure new)))
        ≡ then_some o (λ vs. then_some (put_each cs vs) (λ new. Some (cell.Structure new)))
    fields None = refl
    fields (Some vs) =
        let q = item_row (cell.Structure cs) in
        ap (λ o. then_some o (λ new. Some (cell.Structure new)))
        (put_row q.0 q.1 vs ∙ ap (λ ds. put_each ds vs) (items_hidden-the_row-Cell-0 cs))

-- how arrays begin
pub sized_some : (n : ℕ) (e : Cell) → 1 ≤ n → cell.Array false false (e ∷ []) (replicate n e) ≡ array e (n ∷ [])
sized_some zero e l = absurd (omega (arith, l))
sized_some (suc n) e l = refl

pub array_of : (n : ℕ) (ns : List ℕ) (c : Cell) → array c (n ∷ ns) ≡ array (array c ns) (n ∷ [])
array_of zero ns c = refl
array_of (suc n) ns c = refl

-- how structures begin
pub zero_deepest : (classes : List Class) (k : ℕ) → zero_base 0 classes (base.Structure k) ≡ cell.Structure []
zero_deepest classes k = refl

pub zero_structure : (deep : ℕ) (classes : List Class) (k : ℕ) → 1 ≤ deep → zero_base deep classes (base.Structure k)
    ≡ cell.Structure (map (λ (t : VarType). array (zero_base (deep - 1) classes t.base) t.dimensions)
    (fields_of (slice_get classes k)))
zero_structure zero classes k e = absurd (omega (arith, e))
zero_structure (suc deep) classes k e = let d : suc deep - 1 ≡ deep = omega arith in rw d refl
