-- Cells of types: layer by layer, and what becomes of them.
use denote.Hole.Carrier.{out, roll}
use Rattle.std.proofs.Common.{◌≡◌, ℕ, zero, suc, Bool, List, [], Some, refl, sym, ap, ◌∙◌, subst}
use Rattle.std.specs.Prelude.{slice_get}
use Rattle.mql_mean.specs.declared.value.Value.{Value}
use Rattle.mql_meaning.specs.declared.cell.Cell as row
use Rattle.mql_meaning.specs.declared.cell.Cell.{Cell, out-Cell, roll-Cell, roll-out-Cell, Row_of-Cell, end_of-Cell, more_of-Cell, items-the_row-Cell, items_hidden-the_row-Cell-0}
use Rattle.mql_meaning.specs.declared.cell.Cell.TheVariants as cell
use Rattle.mql_meaning.specs.declared.cell.Cell.TheVariants.{rolls-Array, rolls-Structure}
use Rattle.mql_meaning.specs.declared.cell.Cell.TheViews.{out-roll-Cell}
use Rattle.mql_meaning.specs.declared.cell.Cell.TheOpen.{Cell-F}
use Rattle.mql_meaning.specs.declared.types.VarType.{VarType}
use Rattle.mql_meaning.specs.declared.tree.Class.{Class}
use Rattle.stack_validity.specs.Types.{Layer, OfDepth, CellOf}

-- a cell as what it is made of
pub out_array : (dynamic series : Bool) (unit cs : List Cell) → out-Cell (cell.Array dynamic series unit cs) ≡ Cell-F.Array dynamic series unit cs
out_array dynamic series unit cs = ap out-Cell (sym (rolls-Array dynamic series unit cs)) ∙ out-roll-Cell (Cell-F.Array dynamic series unit cs)

pub out_structure : (cs : List Cell) → out-Cell (cell.Structure cs) ≡ Cell-F.Structure cs
out_structure cs = ap out-Cell (sym (rolls-Structure cs)) ∙ out-roll-Cell (Cell-F.Structure cs)

pub out_one : (v : Value) → out-Cell (cell.One v) ≡ Cell-F.One v
unfolding out-Cell denote.Hole.Carrier.out
out_one v = refl

-- the items of a cell, and the elements with which its new ones begin, as lists
abbrev pub items_in : Cell-F Cell → List Cell
items_in (Cell-F.One v) = []
items_in (Cell-F.Array dynamic series unit cs) = cs
items_in (Cell-F.Structure cs) = cs

abbrev pub units_in : Cell-F Cell → List Cell
units_in (Cell-F.One v) = []
units_in (Cell-F.Array dynamic series unit cs) = unit
units_in (Cell-F.Structure cs) = []

abbrev items_of : Cell → List Cell
items_of (row.One v) = []
items_of (row.Array' dynamic series p unit q cs) = items-the_row-Cell _ cs
items_of (row.Structure' q cs) = items-the_row-Cell _ cs

abbrev units_of : Cell → List Cell
units_of (row.One v) = []
units_of (row.Array' dynamic series p unit q cs) = items-the_row-Cell _ unit
units_of (row.Structure' q cs) = []

items_rolled : (x : Cell-F Cell) → items_of (roll-Cell x) ≡ items_in x
unfolding roll-Cell denote.Hole.Carrier.roll
items_rolled (Cell-F.One v) = refl
items_rolled (Cell-F.Array dynamic series unit cs) = items_hidden-the_row-Cell-0 cs
items_rolled (Cell-F.Structure cs) = items_hidden-the_row-Cell-0 cs

units_rolled : (x : Cell-F Cell) → units_of (roll-Cell x) ≡ units_in x
unfolding roll-Cell denote.Hole.Carrier.roll
units_rolled (Cell-F.One v) = refl
units_rolled (Cell-F.Array dynamic series unit cs) = items_hidden-the_row-Cell-0 unit
units_rolled (Cell-F.Structure cs) = refl

items_are : (c : Cell) → items_of c ≡ items_in (out-Cell c)
items_are c = ap items_of (sym (roll-out-Cell c)) ∙ items_rolled (out-Cell c)

units_are : (c : Cell) → units_of c ≡ units_in (out-Cell c)
units_are c = ap units_of (sym (roll-out-Cell c)) ∙ units_rolled (out-Cell c)

-- induction on cells, by the lists that they hold
module _ (P : Cell → Type 0)
    (one : (v : Value) → P (cell.One v))
    (array : (dynamic series : Bool) (unit cs : List Cell)
    → ((i : ℕ) (c : Cell) → slice_get unit i ≡ Some c → P c)
    → ((i : ℕ) (c : Cell) → slice_get cs i ≡ Some c → P c) → P (cell.Array dynamic series unit cs))
    (structure : (cs : List Cell)
    → ((i : ℕ) (c : Cell) → slice_get cs i ≡ Some c → P c) → P (cell.Structure cs)) where
  of_parts : (x : Cell-F Cell) → ((i : ℕ) (c : Cell) → slice_get (units_in x) i ≡ Some c → P c) → ((i : ℕ) (c : Cell) → slice_get (items_in x) i ≡ Some c → P c) → P (roll-Cell x)
  unfolding roll-Cell denote.Hole.Carrier.roll
  of_parts (Cell-F.One v) hu hi = one v
  of_parts (Cell-F.Array dynamic series unit cs) hu hi = array dynamic series unit cs hu hi
  of_parts (Cell-F.Structure cs) hu hi = structure cs hi

  of_cell : (c : Cell) → ((i : ℕ) (d : Cell) → slice_get (units_of c) i ≡ Some d → P d) → ((i : ℕ) (d : Cell) → slice_get (items_of c) i ≡ Some d → P d) → P c
  of_cell c hu hi =
      subst P (roll-out-Cell c) (of_parts (out-Cell c)
      (λ i d e. hu i d (ap (λ us. slice_get us i) (units_are c) ∙ e)) (λ i d e. hi i d (ap (λ cs. slice_get cs i) (items_are c) ∙ e)))

  nothing : (i : ℕ) (d : Cell) → slice_get [] i ≡ Some d → P d
  nothing i d e = absurd cc

  mutual
    pub by_cells : (c : Cell) → P c
    by_cells (row.One v) = of_cell (row.One v) nothing nothing
    by_cells (row.Array' dynamic series p unit q cs) = of_cell (row.Array' dynamic series p unit q cs) (by_row _ unit) (by_row _ cs)
    by_cells (row.Structure' q cs) = of_cell (row.Structure' q cs) nothing (by_row _ cs)

    by_row : (m : _) (cs : Row_of-Cell m) (i : ℕ) (c : Cell) → slice_get (items-the_row-Cell m cs) i ≡ Some c → P c
    by_row m end_of-Cell i c e = absurd cc
    by_row m (more_of-Cell d cs) zero c e = subst P (let s : d ≡ c = cc in s) (by_cells d)
    by_row m (more_of-Cell d cs) (suc i) c e = by_row _ cs i c e

module _ (classes : List Class) where
  -- a cell of a type, by its layers
  pub layer_of : (t : VarType) (c : Cell) → CellOf classes t c → Layer classes (CellOf classes) t (out-Cell c)
  layer_of t c h = record {
    top = (h.down_to 1).top;
    items = λ i u d e is. record { down_to = λ depth. (h.down_to (suc depth)).items i u d e is };
    begins = λ u d e is. record { down_to = λ depth. (h.down_to (suc depth)).begins u d e is };
  }

  pub cell_of : (t : VarType) (c : Cell) → Layer classes (CellOf classes) t (out-Cell c) → CellOf classes t c
  cell_of t c l = record { down_to = down }
    where
      down : (depth : ℕ) → OfDepth classes depth t c
      down zero = tt
      down (suc depth) = record {
        top = l.top;
        items = λ i u d e is. (l.items i u d e is).down_to depth;
        begins = λ u d e is. (l.begins u d e is).down_to depth;
      }
