-- Cells by the lists that they hold.
use Rattle.std.proofs.Common.{◌≡◌, ℕ, Bool, true, false, List, [], ◌∷◌, ◌++◌, length, take, drop, map, refl, sym, ap, ◌∙◌}
use mathlib.Core.Former.{Count}
use Rattle.mql_mean.specs.declared.value.Value.{Value, out-Value}
use Rattle.mql_meaning.specs.declared.cell.Cell as row
use Rattle.mql_meaning.specs.declared.cell.Cell.{Cell, out-Cell, roll-Cell, roll-out-Cell, Row_of-Cell, end_of-Cell, more_of-Cell, items-the_row-Cell, items_hidden-the_row-Cell-0}
use Rattle.mql_meaning.specs.declared.cell.Cell.TheVariants as cell
use Rattle.mql_meaning.specs.declared.cell.Cell.TheOpen.{Cell-F}
use denote.Hole.Carrier.{roll}
use Rattle.mql_meaning.specs.Cells.{items}
use Rattle.mql_meaning.specs.ArrayFunctions.{leaves, all_leaves, first_or, refilled, refilled_all, zero_value, zeroed, zeroed_all}
use Rattle.native_arrays.specs.Lists.{leaves_of, refilled_each}

-- rows as lists
items_row : (n : _) (cs : Row_of-Cell n) → items cs ≡ items-the_row-Cell n cs
items_row n end_of-Cell = refl
items_row n (more_of-Cell c cs) = ap (λ ds. c ∷ ds) (items_row _ cs)

leaves_row : (n : _) (cs : Row_of-Cell n) → all_leaves cs ≡ leaves_of (items-the_row-Cell n cs)
leaves_row n end_of-Cell = refl
leaves_row n (more_of-Cell c cs) = ap (λ ls. leaves c ++ ls) (leaves_row _ cs)

refilled_row : (n : _) (cs : Row_of-Cell n) (ls : List Cell) →
    refilled_all cs ls ≡ refilled_each (items-the_row-Cell n cs) ls
refilled_row n end_of-Cell ls = refl
refilled_row n (more_of-Cell c cs) ls =
    ap (λ ds. refilled c (take (length (leaves c)) ls) ∷ ds) (refilled_row _ cs (drop (length (leaves c)) ls))

zeroed_row : (n : _) (cs : Row_of-Cell n) → zeroed_all cs ≡ map zeroed (items-the_row-Cell n cs)
zeroed_row n end_of-Cell = refl
zeroed_row n (more_of-Cell c cs) = ap (λ ds. zeroed c ∷ ds) (zeroed_row _ cs)

-- what an array and a structure are made of
abbrev unit_row : Cell → (n : Count) × Row_of-Cell n
unit_row (row.Array' dynamic series _ unit _ cs) = (_, unit)
unit_row _ = (_, end_of-Cell)

abbrev item_row : Cell → (n : Count) × Row_of-Cell n
item_row (row.Array' dynamic series _ unit _ cs) = (_, cs)
item_row (row.Structure' _ cs) = (_, cs)
item_row _ = (_, end_of-Cell)

-- the elements of an array
pub leaves_array : (dynamic series : Bool) (unit cs : List Cell) →
    leaves (cell.Array dynamic series unit cs) ≡ leaves_of cs
leaves_array dynamic series unit cs =
    let r = item_row (cell.Array dynamic series unit cs) in
    leaves_row r.0 r.1 ∙ ap leaves_of (items_hidden-the_row-Cell-0 cs)

pub leaves_structure : (cs : List Cell) → leaves (cell.Structure cs) ≡ cell.Structure cs ∷ []
leaves_structure cs =
    let r = item_row (cell.Structure cs) in
    ap (λ ds. cell.Structure ds ∷ []) (items_row r.0 r.1 ∙ items_hidden-the_row-Cell-0 cs)

abbrev pub leaves_in : Cell-F Cell → List Cell
leaves_in (Cell-F.One v) = cell.One v ∷ []
leaves_in (Cell-F.Array dynamic series unit cs) = leaves_of cs
leaves_in (Cell-F.Structure cs) = cell.Structure cs ∷ []

leaves_rolled : (w : Cell-F Cell) → leaves (roll-Cell w) ≡ leaves_in w
unfolding roll-Cell denote.Hole.Carrier.roll
leaves_rolled (Cell-F.One v) = refl
leaves_rolled (Cell-F.Array dynamic series unit cs) = leaves_array dynamic series unit cs
leaves_rolled (Cell-F.Structure cs) = leaves_structure cs

leaves_opened : (c : Cell) → leaves c ≡ leaves_in (out-Cell c)
leaves_opened c = ap leaves (sym (roll-out-Cell c)) ∙ leaves_rolled (out-Cell c)

pub leaves_at : (c : Cell) (dynamic series : Bool) (unit cs : List Cell) →
    out-Cell c ≡ Cell-F.Array dynamic series unit cs → leaves c ≡ leaves_of cs
leaves_at c dynamic series unit cs e = leaves_opened c ∙ ap leaves_in e

pub leaves_same : (c : Cell) (dynamic series : Bool) (unit cs : List Cell) →
    c ≡ cell.Array dynamic series unit cs → leaves c ≡ leaves_of cs
leaves_same c dynamic series unit cs e = ap leaves e ∙ leaves_array dynamic series unit cs

-- with other elements
pub refilled_array : (dynamic series : Bool) (unit cs ls : List Cell) →
    refilled (cell.Array dynamic series unit cs) ls ≡ cell.Array dynamic series unit (refilled_each cs ls)
refilled_array dynamic series unit cs ls =
    let r = unit_row (cell.Array dynamic series unit cs) in
    let q = item_row (cell.Array dynamic series unit cs) in
    ap (λ us. cell.Array dynamic series us (refilled_all q.1 ls)) (items_row r.0 r.1 ∙ items_hidden-the_row-Cell-0 unit)
    ∙ ap (cell.Array dynamic series unit)
    (refilled_row q.0 q.1 ls ∙ ap (λ ds. refilled_each ds ls) (items_hidden-the_row-Cell-0 cs))

pub refilled_structure : (cs ls : List Cell) → refilled (cell.Structure cs) ls ≡ first_or (cell.Structure cs) ls
refilled_structure cs ls =
    let r = item_row (cell.Structure cs) in
    ap (λ ds. first_or (cell.Structure ds) ls) (items_row r.0 r.1 ∙ items_hidden-the_row-Cell-0 cs)

abbrev pub refilled_in : Cell-F Cell → List Cell → Cell
refilled_in (Cell-F.One v) ls = first_or (cell.One v) ls
refilled_in (Cell-F.Array dynamic series unit cs) ls = cell.Array dynamic series unit (refilled_each cs ls)
refilled_in (Cell-F.Structure cs) ls = first_or (cell.Structure cs) ls

refilled_rolled : (w : Cell-F Cell) (ls : List Cell) → refilled (roll-Cell w) ls ≡ refilled_in w ls
unfolding roll-Cell denote.Hole.Carrier.roll
refilled_rolled (Cell-F.One v) ls = refl
refilled_rolled (Cell-F.Array dynamic series unit cs) ls = refilled_array dynamic series unit cs ls
refilled_rolled (Cell-F.Structure cs) ls = refilled_structure cs ls

refilled_opened : (c : Cell) (ls : List Cell) → refilled c ls ≡ refilled_in (out-Cell c) ls
refilled_opened c ls = ap (λ d. refilled d ls) (sym (roll-out-Cell c)) ∙ refilled_rolled (out-Cell c) ls

pub refilled_at : (c : Cell) (dynamic series : Bool) (unit cs ls : List Cell) →
    out-Cell c ≡ Cell-F.Array dynamic series unit cs →
    refilled c ls ≡ cell.Array dynamic series unit (refilled_each cs ls)
refilled_at c dynamic series unit cs ls e = refilled_opened c ls ∙ ap (λ w. refilled_in w ls) e

pub refilled_same : (c : Cell) (dynamic series : Bool) (unit cs ls : List Cell) →
    c ≡ cell.Array dynamic series unit cs →
    refilled c ls ≡ cell.Array dynamic series unit (refilled_each cs ls)
refilled_same c dynamic series unit cs ls e =
    ap (λ d. refilled d ls) e ∙ refilled_array dynamic series unit cs ls

-- as it began
pub zeroed_array : (dynamic series : Bool) (unit cs : List Cell) →
    zeroed (cell.Array dynamic series unit cs) ≡ cell.Array dynamic series unit (map zeroed cs)
zeroed_array dynamic series unit cs =
    let r = unit_row (cell.Array dynamic series unit cs) in
    let q = item_row (cell.Array dynamic series unit cs) in
    ap (λ us. cell.Array dynamic series us (zeroed_all q.1)) (items_row r.0 r.1 ∙ items_hidden-the_row-Cell-0 unit)
    ∙ ap (cell.Array dynamic series unit)
    (zeroed_row q.0 q.1 ∙ ap (map zeroed) (items_hidden-the_row-Cell-0 cs))

pub zeroed_structure : (cs : List Cell) → zeroed (cell.Structure cs) ≡ cell.Structure (map zeroed cs)
zeroed_structure cs =
    let r = item_row (cell.Structure cs) in
    ap cell.Structure (zeroed_row r.0 r.1 ∙ ap (map zeroed) (items_hidden-the_row-Cell-0 cs))

abbrev pub zeroed_in : Cell-F Cell → Cell
zeroed_in (Cell-F.One v) = cell.One (zero_value (out-Value v))
zeroed_in (Cell-F.Array dynamic series unit cs) = cell.Array dynamic series unit (map zeroed cs)
zeroed_in (Cell-F.Structure cs) = cell.Structure (map zeroed cs)

zeroed_rolled : (w : Cell-F Cell) → zeroed (roll-Cell w) ≡ zeroed_in w
unfolding roll-Cell denote.Hole.Carrier.roll
zeroed_rolled (Cell-F.One v) = refl
zeroed_rolled (Cell-F.Array dynamic series unit cs) = zeroed_array dynamic series unit cs
zeroed_rolled (Cell-F.Structure cs) = zeroed_structure cs

zeroed_opened : (c : Cell) → zeroed c ≡ zeroed_in (out-Cell c)
zeroed_opened c = ap zeroed (sym (roll-out-Cell c)) ∙ zeroed_rolled (out-Cell c)

pub zeroed_at : (c : Cell) (dynamic series : Bool) (unit cs : List Cell) →
    out-Cell c ≡ Cell-F.Array dynamic series unit cs → zeroed c ≡ cell.Array dynamic series unit (map zeroed cs)
zeroed_at c dynamic series unit cs e = zeroed_opened c ∙ ap zeroed_in e

pub zeroed_same : (c : Cell) (dynamic series : Bool) (unit cs : List Cell) →
    c ≡ cell.Array dynamic series unit cs → zeroed c ≡ cell.Array dynamic series unit (map zeroed cs)
zeroed_same c dynamic series unit cs e = ap zeroed e ∙ zeroed_array dynamic series unit cs

-- what is no array is one element
one_rolled : (v : Value) → cell.One v ≡ roll-Cell (Cell-F.One v)
unfolding roll-Cell denote.Hole.Carrier.roll
one_rolled v = refl

structure_rolled : (cs : List Cell) → cell.Structure cs ≡ roll-Cell (Cell-F.Structure cs)
unfolding roll-Cell denote.Hole.Carrier.roll
structure_rolled cs = refl

one_is : (c : Cell) (v : Value) → out-Cell c ≡ Cell-F.One v → cell.One v ≡ c
one_is c v e = one_rolled v ∙ ap roll-Cell (sym e) ∙ roll-out-Cell c

structure_is : (c : Cell) (cs : List Cell) → out-Cell c ≡ Cell-F.Structure cs → cell.Structure cs ≡ c
structure_is c cs e = structure_rolled cs ∙ ap roll-Cell (sym e) ∙ roll-out-Cell c

pub leaves_one : (c : Cell) (v : Value) → out-Cell c ≡ Cell-F.One v → leaves c ≡ c ∷ []
leaves_one c v e = leaves_opened c ∙ ap leaves_in e ∙ ap (λ d. d ∷ []) (one_is c v e)

pub leaves_one_same : (c : Cell) (v : Value) → c ≡ cell.One v → leaves c ≡ c ∷ []
leaves_one_same c v e = ap leaves e ∙ ap (λ d. d ∷ []) (sym e)

pub leaves_fields : (c : Cell) (cs : List Cell) → out-Cell c ≡ Cell-F.Structure cs → leaves c ≡ c ∷ []
leaves_fields c cs e = leaves_opened c ∙ ap leaves_in e ∙ ap (λ d. d ∷ []) (structure_is c cs e)

pub leaves_fields_same : (c : Cell) (cs : List Cell) → c ≡ cell.Structure cs → leaves c ≡ c ∷ []
leaves_fields_same c cs e = ap leaves e ∙ leaves_structure cs ∙ ap (λ d. d ∷ []) (sym e)

pub refilled_one : (c : Cell) (v : Value) (ls : List Cell) → out-Cell c ≡ Cell-F.One v →
    refilled c ls ≡ first_or c ls
refilled_one c v ls e =
    refilled_opened c ls ∙ ap (λ w. refilled_in w ls) e ∙ ap (λ d. first_or d ls) (one_is c v e)

pub refilled_one_same : (c : Cell) (v : Value) (ls : List Cell) → c ≡ cell.One v → refilled c ls ≡ first_or c ls
refilled_one_same c v ls e = ap (λ d. refilled d ls) e ∙ ap (λ d. first_or d ls) (sym e)

pub refilled_fields : (c : Cell) (cs ls : List Cell) → out-Cell c ≡ Cell-F.Structure cs →
    refilled c ls ≡ first_or c ls
refilled_fields c cs ls e =
    refilled_opened c ls ∙ ap (λ w. refilled_in w ls) e ∙ ap (λ d. first_or d ls) (structure_is c cs e)

pub refilled_fields_same : (c : Cell) (cs ls : List Cell) → c ≡ cell.Structure cs →
    refilled c ls ≡ first_or c ls
refilled_fields_same c cs ls e =
    ap (λ d. refilled d ls) e ∙ refilled_structure cs ls ∙ ap (λ d. first_or d ls) (sym e)
