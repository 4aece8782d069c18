-- Functions of arrays (MQL5 Reference, Array Functions). They go by storage: a series flag changes indexing
-- alone.
use Rattle.std.specs.Prelude.{ℕ, zero, suc, ◌+◌, ◌-◌, ◌*◌, ◌/◌, nat_lt, int_le, Bool, true, false, List, [], ◌∷◌, ◌++◌, length, take, drop, replicate, ℤ, pos, Option, Some, None}
use Rattle.mql_mean.specs.declared.value.Value.{Value, out-Value}
use Rattle.mql_mean.specs.declared.value.Value.TheVariants as value
use Rattle.mql_mean.specs.declared.value.Value.TheOpen.{Value-F}
use Rattle.mql_meaning.specs.declared.cell.Cell.{Cell, One, Array', Structure', out-Cell, Row_of-Cell, end_of-Cell, more_of-Cell}
use Rattle.mql_meaning.specs.declared.cell.Cell.TheVariants as cell
use Rattle.mql_meaning.specs.declared.cell.Cell.TheOpen.{Cell-F}
use Rattle.mql_meaning.specs.Changes.{Change, ◌>>=◌, give, the, for_each, either, then_some}
use Rattle.mql_meaning.specs.Cells.{told, put, items}
use Rattle.mql_meaning.specs.Places.{value_at}
use Rattle.mql_meaning.specs.Operators.{convert, sort_of}

-- the elements of an array in all its dimensions
abbrev mutual
  pub leaves : Cell → List Cell
  leaves (One v) = cell.One v ∷ []
  leaves (Array' dynamic series p unit q cs) = all_leaves cs
  leaves (Structure' q cs) = cell.Structure (items cs) ∷ []

  pub all_leaves : {m : _} → Row_of-Cell m → List Cell
  all_leaves end_of-Cell = []
  all_leaves (more_of-Cell c cs) = leaves c ++ all_leaves cs

-- the first of a list, or one in its place
abbrev pub first_or : Cell → List Cell → Cell
first_or c [] = c
first_or c (l ∷ ls) = l

-- the array with other elements, as many as it has
abbrev mutual
  pub refilled : Cell → List Cell → Cell
  refilled (One v) ls = first_or (cell.One v) ls
  refilled (Array' dynamic series p unit q cs) ls =
      cell.Array dynamic series (items unit) (refilled_all cs ls)
  refilled (Structure' q cs) ls = first_or (cell.Structure (items cs)) ls

  pub refilled_all : {m : _} → Row_of-Cell m → List Cell → List Cell
  refilled_all end_of-Cell ls = []
  refilled_all (more_of-Cell c cs) ls =
      refilled c (take (length (leaves c)) ls) ∷ refilled_all cs (drop (length (leaves c)) ls)

-- what an array is: whether its size changes, its series flag, one element as it begins, and its elements
pub record ArrayParts : Type 0 where
  pub dynamic : Bool
  pub series : Bool
  pub unit : List Cell
  pub cells : List Cell

abbrev pub array_at : Cell-F Cell → Option ArrayParts
array_at (Cell-F.Array dynamic series unit cs) =
    Some (record { dynamic = dynamic; series = series; unit = unit; cells = cs })
array_at _ = None

abbrev pub array_of : Cell → Option ArrayParts
array_of c = array_at (out-Cell c)

abbrev pub rebuilt : ArrayParts → Cell
rebuilt a = cell.Array a.dynamic a.series a.unit a.cells

-- how many elements a place of the first dimension has
abbrev pub per_place : List Cell → ℕ
per_place [] = 1
per_place (u ∷ us) = length (leaves u)

-- how many elements an array has
abbrev pub size : ArrayParts → ℕ
size a = length a.cells * per_place a.unit

-- an array with so many places of the first dimension: new ones begin as zero
abbrev pub added : List Cell → ℕ → List Cell
added [] n = []
added (u ∷ us) n = replicate n u

abbrev pub resized : ℕ → ArrayParts → ArrayParts
resized n a = record a { cells = take n a.cells ++ added a.unit (n - length a.cells) }

-- how many elements a dimension has, the first being 0
abbrev pub range : ℕ → List Cell → List Cell → Option ℕ
range zero unit cs = Some (length cs)
range (suc d) [] cs = None
range (suc d) (u ∷ us) cs = then_some (array_of u) (λ a. range d a.unit a.cells)

-- a cell that gets a value of its type, or a number that is taken into its type
abbrev pub put_number : Cell → Value → Change Cell
put_number c v = do
  own ← the (value_at (out-Cell c))
  t ← the (sort_of own)
  x ← convert t v
  the (put c x)

abbrev pub put_or_number : Cell → Cell → Option Cell → Change Cell
put_or_number c from None = put_number c (told from)
put_or_number c from (Some new) = give new

-- elements that get the values of others, as many as there are of both
abbrev pub copied : List Cell → List Cell → Change (List Cell)
copied [] from = give []
copied (c ∷ cs) [] = give (c ∷ cs)
copied (c ∷ cs) (f ∷ from) =
    put_or_number c f (put c (told f)) >>= λ d. copied cs from >>= λ ds. give (d ∷ ds)

-- the places that a dynamic target has when so many elements are put behind so many; nothing copied adds none
abbrev pub grown : ArrayParts → ℕ → ℕ → ArrayParts
grown a before zero = a
grown a before (suc n) =
    let places = (before + suc n + per_place a.unit - 1) / per_place a.unit in
    either (nat_lt (length a.cells) places) (resized places a) a

-- the elements from a place on become those of the source
abbrev pub copy_at : Cell → ℕ → List Cell → Change Cell
copy_at target before from = do
  cs ← copied (drop before (leaves target)) from
  give (refilled target (take before (leaves target) ++ cs))

-- each element gets a value
abbrev pub filled : Cell → Value → Change Cell
filled target v = do
  cs ← for_each (λ c. put_number c v) (leaves target)
  give (refilled target cs)

-- the number of an element
abbrev pub size_at : Value-F Value → Option ℤ
size_at (Value-F.Num k x) = Some x
size_at (Value-F.Dbl x) = Some x
size_at _ = None

abbrev pub leaf_number : Cell → Option ℤ
leaf_number c = then_some (value_at (out-Cell c)) (λ v. size_at (out-Value v))

-- an element among rising ones
abbrev pub inserted : Cell → List Cell → List Cell
inserted c [] = c ∷ []
inserted c (d ∷ ds) = either (not_above (leaf_number c) (leaf_number d)) (c ∷ d ∷ ds) (d ∷ inserted c ds)
  where
    not_above : Option ℤ → Option ℤ → Bool
    not_above (Some x) (Some y) = int_le x y
    not_above _ _ = true

-- elements in rising order
abbrev pub sorted : List Cell → List Cell
sorted [] = []
sorted (c ∷ cs) = inserted c (sorted cs)

-- the first place of the number that no other one betters, from this place on, the best so far being at
-- another one
abbrev pub best_from : (ℤ → ℤ → Bool) → ℕ → ℕ → ℤ → List ℤ → ℕ
best_from better i at x [] = at
best_from better i at x (y ∷ ys) =
    elim (better y x) [ true ↦ best_from better (i + 1) i y ys | false ↦ best_from better (i + 1) at x ys ]

abbrev pub best : (ℤ → ℤ → Bool) → ℕ → List ℤ → Option ℕ
best better start [] = None
best better start (x ∷ xs) = Some (best_from better (start + 1) start x xs)

-- elements as numbers
abbrev pub numbers : List Cell → Option (List ℤ)
numbers [] = Some []
numbers (c ∷ cs) = then_some (leaf_number c) (λ x. then_some (numbers cs) (λ xs. Some (x ∷ xs)))

-- a variable as it began: numbers are 0, strings empty, pointers `NULL`; an array keeps its size (MQL5
-- Reference, ZeroMemory)
abbrev pub zero_value : Value-F Value → Value
zero_value (Value-F.Num k x) = value.Num k (pos 0)
zero_value (Value-F.Dbl x) = value.Dbl (pos 0)
zero_value (Value-F.Str s) = value.Str []
zero_value (Value-F.Ptr p) = value.Ptr 0
zero_value (Value-F.Arr vs) = value.Arr vs
zero_value (Value-F.Rec vs) = value.Rec vs

abbrev mutual
  pub zeroed : Cell → Cell
  zeroed (One v) = cell.One (zero_value (out-Value v))
  zeroed (Array' dynamic series p unit q cs) = cell.Array dynamic series (items unit) (zeroed_all cs)
  zeroed (Structure' q cs) = cell.Structure (zeroed_all cs)

  pub zeroed_all : {m : _} → Row_of-Cell m → List Cell
  zeroed_all end_of-Cell = []
  zeroed_all (more_of-Cell c cs) = zeroed c ∷ zeroed_all cs
