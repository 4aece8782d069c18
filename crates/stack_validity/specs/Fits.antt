-- Which operands and stores fit the code: what stands in its globals, its calls' locals and at its places is
-- of the types that its tables say (own).
use Rattle.std.specs.Prelude.{◌≡◌, ℕ, zero, suc, ◌==◌, Bool, true, false, List, [], ◌∷◌, ◌++◌, length, Option, Some, None, slice_get}
use Rattle.mql_meaning.specs.declared.cell.Cell.{Cell}
use Rattle.mql_meaning.specs.declared.place.Place.{Place}
use Rattle.mql_meaning.specs.declared.place.Root.{Root}
use Rattle.mql_meaning.specs.declared.place.Root.TheVariants as root
use Rattle.mql_meaning.specs.declared.store.Store.{Store}
use Rattle.mql_meaning.specs.declared.store.Frame.{Frame}
use Rattle.mql_meaning.specs.declared.store.SetInput.{SetInput}
use Rattle.mql_meaning.specs.declared.store.Slot.{Slot}
use Rattle.mql_meaning.specs.declared.store.Slot.TheVariants.{Own, Lent}
use Rattle.mql_meaning.specs.declared.types.VarType.{VarType}
use Rattle.mql_meaning.specs.Changes.{Ended, Returned, Failed, Exhausted, Stopped, Stuck, Out, Done, Over, Change, then_some, either}
use Rattle.mql_meaning.specs.Operands.{Operand, Val, At}
use Rattle.stack_code.specs.declared.code.Code.{Code}
use Rattle.stack_code.specs.declared.code.FunctionCode.{FunctionCode}
use Rattle.stack_code.specs.declared.code.OperandType.{OperandType}
use Rattle.stack_validity.specs.Types.{type_at, CellOf, ValueOf}

-- whether a parameter is by reference
abbrev pub is_lent : List Bool → ℕ → Bool
is_lent [] l = false
is_lent (b ∷ bs) zero = b
is_lent (b ∷ bs) (suc l) = is_lent bs l

-- the function of a call in force by its number, from the outermost as 0; the innermost one stands first
abbrev pub call_at : List FunctionCode → ℕ → Option FunctionCode
call_at [] f = None
call_at (c ∷ callers) f = either (f == length callers) (Some c) (call_at callers f)

-- the type of what a local holds itself; a parameter by reference holds nothing
abbrev pub own_type : Bool → Option VarType → Option VarType
own_type true t = None
own_type false t = t

abbrev pub local_type : ℕ → FunctionCode → Option VarType
local_type l c = own_type (is_lent c.lent l) (slice_get c.locals l)

-- over the types of globals, and the functions of the calls in force
abbrev pub root_type : List VarType → List FunctionCode → Root → Option VarType
root_type globals calls (root.Global g) = slice_get globals g
root_type globals calls (root.Local f l) = then_some (call_at calls f) (local_type l)
root_type globals calls (root.Object serial) = None

module _ (code : Code) where
  -- a place leads from a root to a part of a type. Whether something stands there depends on the store; of
  -- which type it is does not
  pub record PlaceOf (calls : List FunctionCode) (t : VarType) (p : Place) : Type 0 where
    pub root : VarType
    pub there : root_type code.globals calls p.root ≡ Some root
    pub leads : type_at code.classes root p.path ≡ Some t

  -- an operand is of a kind
  abbrev pub OperandOf : List FunctionCode → OperandType → Operand → Type 0
  OperandOf calls k (Val v) = (k.place ≡ false) × ValueOf code.classes k.of v
  OperandOf calls k (At p) = (k.place ≡ true) × PlaceOf calls k.of p

  -- operands are of kinds, and what lies below them is as a rest asks
  abbrev pub OperandsOf : List FunctionCode → (List Operand → Type 0)
      → List OperandType → List Operand → Type 0
  OperandsOf calls Rest [] ops = Rest ops
  OperandsOf calls Rest (k ∷ ks) [] = ⊥
  OperandsOf calls Rest (k ∷ ks) (x ∷ ops) = OperandOf calls k x × OperandsOf calls Rest ks ops

  -- a local is its own cell of its type, or a place of its type that was lent
  abbrev pub SlotOf : List FunctionCode → Bool → VarType → Slot → Type 0
  SlotOf callers false t (Own c) = CellOf code.classes t c
  SlotOf callers false t (Lent p) = ⊥
  SlotOf callers true t (Own c) = ⊥
  SlotOf callers true t (Lent p) = PlaceOf callers t p

  pub record LocalFits (callers : List FunctionCode) (c : FunctionCode) (slots : List Slot)
      (l : ℕ) (t : VarType) : Type 0 where
    pub slot : Slot
    pub there : slice_get slots l ≡ Some slot
    pub fits : SlotOf callers (is_lent c.lent l) t slot

  -- the innermost call's locals are of their types, and the calls around it are as a rest asks
  pub record CallFits (Rest : List Frame → Type 0) (callers : List FunctionCode) (c : FunctionCode)
      (frames : List Frame) : Type 0 where
    pub outer : List Frame
    pub frame : Frame
    pub are : frames ≡ outer ++ frame ∷ []
    pub locals : (l : ℕ) (t : VarType) → slice_get c.locals l ≡ Some t → LocalFits callers c frame.locals l t
    pub rest : Rest outer

  abbrev pub FramesFit : List FunctionCode → List Frame → Type 0
  FramesFit [] frames = frames ≡ []
  FramesFit (c ∷ callers) frames = CallFits (FramesFit callers) callers c frames

  pub record GlobalFits (globals : List Cell) (g : ℕ) (t : VarType) : Type 0 where
    pub cell : Cell
    pub there : slice_get globals g ≡ Some cell
    pub fits : CellOf code.classes t cell

  -- the inputs that were set have values of their globals' types
  abbrev pub InputsFit : List SetInput → Type 0
  InputsFit set =
      (i : ℕ) (s : SetInput) (t : VarType) → slice_get set i ≡ Some s
      → slice_get code.globals s.global ≡ Some t → ValueOf code.classes t s.value

  -- a store fits the code while calls of these functions are in force, the innermost first
  pub record StoreFits (calls : List FunctionCode) (store : Store) : Type 0 where
    pub globals : (g : ℕ) (t : VarType) → slice_get code.globals g ≡ Some t → GlobalFits store.globals g t
    pub frames : FramesFit calls store.frames
    pub inputs : InputsFit store.inputs

  -- a store fits the code, whatever calls are in force
  pub record Fits (store : Store) : Type 0 where
    pub calls : List FunctionCode
    pub fits : StoreFits calls store

-- an end that valid code may have
abbrev pub Sound : Ended → Type 0
Sound (Returned v) = Unit {0}
Sound (Failed kind line) = Unit {0}
Sound Exhausted = Unit {0}
Sound Stopped = Unit {0}
Sound Stuck = ⊥

-- an end that a change of a store that fits may have: an error
abbrev pub Faults : Ended → Type 0
Faults (Returned v) = ⊥
Faults (Failed kind line) = Unit {0}
Faults Exhausted = ⊥
Faults Stopped = ⊥
Faults Stuck = ⊥

-- what a change comes to: something with a property and a store with one, or an error that leaves a store
-- with another one
abbrev pub Leaves : {A : Type 0} → (Store → Type 0) → (Store → Type 0) → (A → Type 0) → Out A → Type 0
Leaves AtEnd After P (Done a store) = P a × After store
Leaves AtEnd After P (Over e store) = Faults e × AtEnd store

-- a change is never stuck: from each store of the one kind it comes to what it should
pub record Safe {A : Type 0} (AtEnd Before After : Store → Type 0) (P : A → Type 0)
    (change : Change A) : Type 0 where
  pub from : (store : Store) → Before store → Leaves AtEnd After P (change store)
