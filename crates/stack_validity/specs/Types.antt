-- Which values and cells are of which types (MQL5 Reference, Data Types; the judgement is own).
use Rattle.std.specs.Prelude.{◌≡◌, ℕ, zero, suc, ◌==◌, Bool, false, List, [], ◌∷◌, length, Option, Some, None, slice_get}
use Rattle.mql_mean.specs.declared.value.Value.{Value}
use Rattle.mql_meaning.specs.declared.cell.Cell.{Cell, out-Cell}
use Rattle.mql_meaning.specs.declared.cell.Cell.TheOpen.{Cell-F}
use Rattle.mql_meaning.specs.declared.types.Base.{Base}
use Rattle.mql_meaning.specs.declared.types.Base.TheVariants as base
use Rattle.mql_meaning.specs.declared.types.Sort.{Sort}
use Rattle.mql_meaning.specs.declared.types.Sort.TheVariants as sort
use Rattle.mql_meaning.specs.declared.types.VarType.{VarType}
use Rattle.mql_meaning.specs.declared.tree.Class.{Class}
use Rattle.mql_meaning.specs.Changes.{then_some}
use Rattle.mql_meaning.specs.Cells.{put, fields_of}
use Rattle.mql_meaning.specs.Operators.{sort_of}

-- a type of these parts
abbrev pub type_of : Base → List ℕ → VarType
type_of b ns = record { base = b; dimensions = ns }

-- the sort of what stands in a variable without parts
abbrev pub base_sort : Base → Option Sort
base_sort (base.Number k) = Some (sort.Number k)
base_sort base.Double = Some sort.Double
base_sort base.String = Some sort.String
base_sort (base.Pointer k) = Some sort.Pointer
base_sort (base.Structure k) = None
base_sort (base.Object k) = None

-- the sort of a type that is no array, no structure and no object
abbrev pub plain_sort : List ℕ → Option Sort → Option Sort
plain_sort [] s = s
plain_sort (n ∷ ns) s = None

abbrev pub type_sort : VarType → Option Sort
type_sort t = plain_sort t.dimensions (base_sort t.base)

-- a value of a sort, where there is one
abbrev pub OfSort : Option Sort → Value → Type 0
OfSort None v = ⊥
OfSort (Some s) v = sort_of v ≡ Some s

-- the item of an array or of a structure
abbrev pub item_at : Cell-F Cell → ℕ → Option Cell
item_at (Cell-F.One v) i = None
item_at (Cell-F.Array dynamic series unit cs) i = slice_get cs i
item_at (Cell-F.Structure cs) i = slice_get cs i

-- the element with which an array's new elements begin
abbrev pub unit_of : Cell-F Cell → Option Cell
unit_of (Cell-F.One v) = None
unit_of (Cell-F.Array dynamic series unit cs) = slice_get unit 0
unit_of (Cell-F.Structure cs) = None

-- an array whose first dimension is n: its size changes where n is 0, else it has so many elements; it knows
-- how an element begins
pub record ArrayTop (n : ℕ) (dynamic : Bool) (unit cs : List Cell) : Type 0 where
  pub changes : dynamic ≡ (n == 0)
  pub begin : Cell
  pub begins : unit ≡ begin ∷ []
  pub size : (n == 0) ≡ false → length cs ≡ n

-- over the table of classes
module _ (classes : List Class) where
  -- the types of the fields of what is no array
  abbrev pub base_fields : Base → List VarType
  base_fields (base.Number k) = []
  base_fields base.Double = []
  base_fields base.String = []
  base_fields (base.Pointer k) = []
  base_fields (base.Structure k) = fields_of (slice_get classes k)
  base_fields (base.Object k) = []

  -- the type of an element, or of a field
  abbrev pub part_by : Base → List ℕ → ℕ → Option VarType
  part_by b [] i = slice_get (base_fields b) i
  part_by b (n ∷ ns) i = Some (type_of b ns)

  abbrev pub part_type : VarType → ℕ → Option VarType
  part_type t i = part_by t.base t.dimensions i

  -- the type of the part at a path
  abbrev pub type_at : VarType → List ℕ → Option VarType
  type_at t [] = Some t
  type_at t (i ∷ path) = then_some (part_type t i) (λ u. type_at u path)

  -- a structure has a cell for each field
  abbrev pub StructureTop : Base → ℕ → Type 0
  StructureTop (base.Number k) n = ⊥
  StructureTop base.Double n = ⊥
  StructureTop base.String n = ⊥
  StructureTop (base.Pointer k) n = ⊥
  StructureTop (base.Structure k) n = n ≡ length (fields_of (slice_get classes k))
  StructureTop (base.Object k) n = ⊥

  -- a cell is of a type as far as its flags, its number of items and its own value go
  abbrev pub TopOf : Base → List ℕ → Cell-F Cell → Type 0
  TopOf b [] (Cell-F.One v) = OfSort (base_sort b) v
  TopOf b [] (Cell-F.Array dynamic series unit cs) = ⊥
  TopOf b [] (Cell-F.Structure cs) = StructureTop b (length cs)
  TopOf b (n ∷ ns) (Cell-F.One v) = ⊥
  TopOf b (n ∷ ns) (Cell-F.Array dynamic series unit cs) = ArrayTop n dynamic unit cs
  TopOf b (n ∷ ns) (Cell-F.Structure cs) = ⊥

  -- and so are its items, and the element with which a new one begins
  pub record Layer (Of : VarType → Cell → Type 0) (t : VarType) (x : Cell-F Cell) : Type 0 where
    pub top : TopOf t.base t.dimensions x
    pub items : (i : ℕ) (u : VarType) (c : Cell) → part_type t i ≡ Some u → item_at x i ≡ Some c → Of u c
    pub begins : (u : VarType) (c : Cell) → part_type t 0 ≡ Some u → unit_of x ≡ Some c → Of u c

  -- a cell is of a type down to a depth
  abbrev pub OfDepth : ℕ → VarType → Cell → Type 0
  OfDepth zero t c = Unit {0}
  OfDepth (suc depth) t c = Layer (OfDepth depth) t (out-Cell c)

  -- a cell is of a type: down to each depth
  pub record CellOf (t : VarType) (c : Cell) : Type 0 where
    pub down_to : (depth : ℕ) → OfDepth depth t c

  -- a cell takes a value, and stays of its type
  pub record Takes (t : VarType) (c : Cell) (v : Value) : Type 0 where
    pub new : Cell
    pub is : put c v ≡ Some new
    pub fits : CellOf t new

  -- a value is of a type where each cell of the type takes it
  pub record ValueOf (t : VarType) (v : Value) : Type 0 where
    pub taken : (c : Cell) → CellOf t c → Takes t c v
