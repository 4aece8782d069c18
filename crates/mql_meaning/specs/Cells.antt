-- What variables hold (MQL5 Reference, Language Basics, Variables; Data Types, Structures; Arrays).
use Rattle.std.specs.Prelude.{ℕ, pos, zero, suc, ◌+◌, ◌/◌, ◌==◌, Bool, true, false, List, [], ◌∷◌, Option, Some, None, length, replicate, map, slice_get}
use Rattle.fx8.specs.declared.int_kind.IntKind.{IntKind}
use Rattle.fx8.specs.declared.int_kind.IntKind.TheVariants as kind
use Rattle.mql_mean.specs.declared.value.Value.{Value, out-Value}
use Rattle.mql_mean.specs.declared.value.Value.TheVariants as value
use Rattle.mql_mean.specs.declared.value.Value.TheOpen.{Value-F}
use Rattle.mql_meaning.specs.declared.cell.Cell.{Cell, One, Array', Structure', Row_of-Cell, end_of-Cell, more_of-Cell}
use Rattle.mql_meaning.specs.declared.cell.Cell.TheVariants as cell
use Rattle.mql_meaning.specs.declared.types.Base.{Base}
use Rattle.mql_meaning.specs.declared.types.Base.TheVariants as base
use Rattle.mql_meaning.specs.declared.types.VarType.{VarType}
use Rattle.mql_meaning.specs.declared.tree.Class.{Class}
use Rattle.mql_meaning.specs.Changes.{then_some, either}

-- the number of an integer kind, in the order of the Reference
abbrev pub tag : IntKind → ℕ
tag kind.Bool = 1
tag kind.Char = 2
tag kind.Uchar = 3
tag kind.Short = 4
tag kind.Ushort = 5
tag kind.Int = 6
tag kind.Uint = 7
tag kind.Long = 8
tag kind.Ulong = 9
tag kind.Datetime = 10
tag kind.Color = 11

-- two values without parts are of one type
abbrev pub alike : Value-F Value → Value-F Value → Bool
alike (Value-F.Num k x) (Value-F.Num j y) = tag k == tag j
alike (Value-F.Dbl x) (Value-F.Dbl y) = true
alike (Value-F.Str s) (Value-F.Str t) = true
alike (Value-F.Ptr p) (Value-F.Ptr q) = true
alike _ _ = false

-- the elements of an array's value, and the fields of a structure's
abbrev pub elements_in : Value-F Value → Option (List Value)
elements_in (Value-F.Arr vs) = Some vs
elements_in _ = None

abbrev pub fields_in : Value-F Value → Option (List Value)
fields_in (Value-F.Rec vs) = Some vs
fields_in _ = None

-- the cells of a row
abbrev pub items : {m : _} → Row_of-Cell m → List Cell
items end_of-Cell = []
items (more_of-Cell c cs) = c ∷ items cs

-- the value that a cell holds
abbrev mutual
  pub told : Cell → Value
  told (One v) = v
  told (Array' dynamic series p unit q cs) = value.Arr (told_all cs)
  told (Structure' q cs) = value.Rec (told_all cs)

  pub told_all : {m : _} → Row_of-Cell m → List Value
  told_all end_of-Cell = []
  told_all (more_of-Cell c cs) = told c ∷ told_all cs

-- a cell for each value, where there is one for each
abbrev pub each : (Value → Option Cell) → List Value → Option (List Cell)
each f [] = Some []
each f (v ∷ vs) = then_some (f v) (λ c. then_some (each f vs) (λ cs. Some (c ∷ cs)))

-- a cell that gets a value of its type; its type and its flags stay. An array whose size changes gets as many
-- elements as the value has, another one asks for its own number
abbrev mutual
  pub put : Cell → Value → Option Cell
  put (One u) v = either (alike (out-Value u) (out-Value v)) (Some (cell.One v)) None
  put (Array' true series p unit q cs) v =
      then_some (elements_in (out-Value v)) (λ vs. then_some (each (put_first unit) vs)
      (λ new. Some (cell.Array true series (items unit) new)))
  put (Array' false series p unit q cs) v =
      then_some (elements_in (out-Value v)) (λ vs. then_some (put_all cs vs)
      (λ new. Some (cell.Array false series (items unit) new)))
  put (Structure' q cs) v =
      then_some (fields_in (out-Value v)) (λ vs. then_some (put_all cs vs) (λ new. Some (cell.Structure new)))

  pub put_first : {m : _} → Row_of-Cell m → Value → Option Cell
  put_first end_of-Cell v = None
  put_first (more_of-Cell c cs) v = put c v

  pub put_all : {m : _} → Row_of-Cell m → List Value → Option (List Cell)
  put_all end_of-Cell [] = Some []
  put_all end_of-Cell (v ∷ vs) = None
  put_all (more_of-Cell c cs) [] = None
  put_all (more_of-Cell c cs) (v ∷ vs) =
      then_some (put c v) (λ d. then_some (put_all cs vs) (λ ds. Some (d ∷ ds)))

-- how many cells a value without parts takes: a string 1 and one for each 4 units begun (own)
abbrev pub weight_of : Value-F Value → ℕ
weight_of (Value-F.Str s) = 1 + (length s + 3) / 4
weight_of _ = 1

-- how many cells a variable takes: an array 1 and its elements, a structure its fields (own)
abbrev mutual
  pub weight : Cell → ℕ
  weight (One v) = weight_of (out-Value v)
  weight (Array' dynamic series p unit q cs) = 1 + weights cs
  weight (Structure' q cs) = weights cs

  pub weights : {m : _} → Row_of-Cell m → ℕ
  weights end_of-Cell = 0
  weights (more_of-Cell c cs) = weight c + weights cs

-- how many cells variables take
abbrev pub total : List Cell → ℕ
total [] = 0
total (c ∷ cs) = weight c + total cs

-- an array of these dimensions from the first, 0 for one whose size changes
abbrev pub array : Cell → List ℕ → Cell
array c [] = c
array c (zero ∷ ns) = cell.Array true false (array c ns ∷ []) []
array c (suc n ∷ ns) = cell.Array false false (array c ns ∷ []) (replicate (suc n) (array c ns))

-- the types of a class's fields
abbrev pub fields_of : Option Class → List VarType
fields_of None = []
fields_of (Some c) = c.fields

-- how a variable that is no array begins: as zero, `NULL`, the empty string. Structures nest at most so deep
abbrev pub zero_base : ℕ → List Class → Base → Cell
zero_base deep classes (base.Number k) = cell.One (value.Num k (pos 0))
zero_base deep classes base.Double = cell.One (value.Dbl (pos 0))
zero_base deep classes base.String = cell.One (value.Str [])
zero_base deep classes (base.Pointer k) = cell.One (value.Ptr 0)
zero_base deep classes (base.Object k) = cell.One (value.Ptr 0)
zero_base zero classes (base.Structure k) = cell.Structure []
zero_base (suc deep) classes (base.Structure k) =
    cell.Structure (map (λ (t : VarType). array (zero_base deep classes t.base) t.dimensions)
    (fields_of (slice_get classes k)))

-- how a variable of a type begins. No structure contains itself, so none nests deeper than there are classes
abbrev pub zero_of : List Class → VarType → Cell
zero_of classes t = array (zero_base (length classes) classes t.base) t.dimensions
