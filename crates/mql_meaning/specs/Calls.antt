-- Calls of native functions, and of the world among them (MQL5 Reference, Common Functions; Checkup,
-- GetLastError).
use Rattle.std.specs.Prelude.{ℕ, ◌+◌, pos, ◌&&◌, ◌-ℤ◌, nat_le, Bool, true, false, List, [], ◌∷◌, ◌++◌, length, Option, Some, None}
use Rattle.fx8.specs.Integers.{wrapped, is_zero}
use Rattle.fx8.specs.Doubles.{fits_double}
use Rattle.mql_mean.specs.Values.{is_void}
use Rattle.mql_mean.specs.Answer.{Answer, Replied, Refused}
use Rattle.mql_mean.specs.declared.host.HostCall.{HostCall}
use Rattle.mql_mean.specs.declared.host.Reply.{Reply}
use Rattle.mql_mean.specs.declared.value.Value.{Value, Num, Dbl, Str, Ptr, Arr', Rec', Row_of-Value, end_of-Value, more_of-Value, out-Value}
use Rattle.mql_mean.specs.declared.value.Value.TheVariants as value
use Rattle.natives.specs.declared.native.Native.{Native}
use Rattle.natives.specs.declared.native.Native.TheVariants as natives
use Rattle.natives.specs.declared.signature.Evaluation.{Evaluation}
use Rattle.natives.specs.declared.signature.Evaluation.TheVariants as evaluation
use Rattle.natives.specs.declared.signature.ResultType.{ResultType}
use Rattle.natives.specs.declared.signature.ResultType.TheVariants as results
use Rattle.natives.specs.declared.signature.LastError.TheVariants.{InvalidParameter}
use Rattle.natives.specs.declared.types.SimpleType.{SimpleType}
use Rattle.natives.specs.declared.types.SimpleType.TheVariants as simple
use Rattle.natives.specs.Names.{native_number}
use Rattle.natives.specs.Signatures.{signature, error_number}
use Rattle.mql_meaning.specs.declared.cell.Cell.{Cell, out-Cell}
use Rattle.mql_meaning.specs.declared.cell.Cell.TheOpen.{Cell-F}
use Rattle.mql_meaning.specs.declared.place.Place.{Place}
use Rattle.mql_meaning.specs.Changes.{Change, Failed, Stopped, line_of, top, either, then_some}
use Rattle.mql_meaning.specs.Runs.{world, End, Act, ◌>>=◌, ◌>>◌, pure, halt, change, choose}
use Rattle.mql_meaning.specs.Cells.{alike, told, put}
use Rattle.mql_meaning.specs.Operands.{Operand, Val, At, most_units}
use Rattle.mql_meaning.specs.References.{cells_at, put_at, points, tells_status}
use Rattle.mql_meaning.specs.Natives.{Argument, Given, Lent, NativeDone, whole, computes}

-- the number that the world is called with to set the last error: one past the last native function (own)
abbrev pub last_error : ℕ
last_error = native_number natives.HistoryDealGetString + 1

-- the native functions that ask the world
abbrev pub is_world : Evaluation → Bool
is_world evaluation.World = true
is_world _ = false

abbrev pub asks : Native → Bool
asks f = is_world (signature f).answered

-- the native functions that give no value
abbrev pub is_nothing : ResultType → Bool
is_nothing results.Void = true
is_nothing _ = false

abbrev pub native_void : Native → Bool
native_void f = is_nothing (signature f).result

-- a value in its type's range: of its kind, a double, a string that is not too long; and so are all its parts
abbrev mutual
  pub is_sound : Value → Bool
  is_sound (Num k x) = is_zero (wrapped k x -ℤ x)
  is_sound (Dbl x) = fits_double x
  is_sound (Str s) = nat_le (length s) most_units
  is_sound (Ptr p) = true
  is_sound (Arr' p vs) = are_sound vs
  is_sound (Rec' p vs) = are_sound vs

  pub are_sound : {m : _} → Row_of-Value m → Bool
  are_sound end_of-Value = true
  are_sound (more_of-Value v vs) = is_sound v && are_sound vs

abbrev pub all_sound : List Value → Bool
all_sound [] = true
all_sound (v ∷ vs) = is_sound v && all_sound vs

-- a value like the one of a type; a void function gives the 0 of `int`
abbrev pub sample : SimpleType → Value
sample (simple.Integer k) = value.Num k (pos 0)
sample simple.Double = value.Dbl (pos 0)
sample simple.String = value.Str []

abbrev pub is_of : ResultType → Value → Bool
is_of (results.Simple t) v = alike (out-Value (sample t)) (out-Value v)
is_of results.Void v = is_void v
is_of _ v = false

-- the result that a call gives: of a native function, or of the call that sets the last error
abbrev pub result_of : Option Native → ResultType
result_of None = results.Void
result_of (Some f) = (signature f).result

-- cells that get values, a value for each, of the cell's type and in range
abbrev pub put_each : List Cell → List Value → Option (List Cell)
put_each [] [] = Some []
put_each [] (v ∷ vs) = None
put_each (c ∷ cs) [] = None
put_each (c ∷ cs) (v ∷ vs) = then_some (put c v) (λ d. then_some (put_each cs vs) (λ ds. Some (d ∷ ds)))

-- the cells that a reply that the call may give makes of its reference arguments
abbrev pub fits : Option Native → Reply → List Cell → Option (List Cell)
fits f r cs =
    either (is_of (result_of f) r.value && is_sound r.value && all_sound r.outs) (put_each cs r.outs) None

-- what a reply does: it is written to the reference arguments; one that the call may not give stops the run
abbrev pub replied : Option (List Cell) → Value → List Place → List Cell → Act Value
replied None v ps cs = halt Stopped
replied (Some new) v ps cs = change (put_at ps cs new) >>= λ _. pure v

-- the call is made: the next answer, or none, which stops the run; an error ends it at the line in force
abbrev pub answered : Option Native → HostCall → List Place → List Cell → List Answer → Act Value
answered f c ps cs [] n w = End Stopped n (world w.store (w.calls ++ c ∷ []) [])
answered f c ps cs (Replied r ∷ answers) n w =
    replied (fits f r cs) r.value ps cs n (world w.store (w.calls ++ c ∷ []) answers)
answered f c ps cs (Refused kind ∷ answers) n w =
    End (Failed kind (line_of (top w.store))) n (world w.store (w.calls ++ c ∷ []) answers)

unfoldable pub ask : Option Native → HostCall → List Place → List Cell → Act Value
ask f c ps cs n w = answered f c ps cs w.answers n w

-- the places among operands
abbrev pub places_in : List Operand → List Place
places_in [] = []
places_in (Val v ∷ xs) = places_in xs
places_in (At p ∷ xs) = p ∷ places_in xs

-- operands as arguments, the cells of places in order
abbrev pub arguments : List Operand → List Cell → List Argument
arguments [] cs = []
arguments (Val v ∷ xs) cs = Given v ∷ arguments xs cs
arguments (At p ∷ xs) [] = []
arguments (At p ∷ xs) (c ∷ cs) = Lent c ∷ arguments xs cs

-- what the world is told of arguments
abbrev pub values_of : List Argument → List Value
values_of [] = []
values_of (Given v ∷ xs) = v ∷ values_of xs
values_of (Lent c ∷ xs) = told c ∷ values_of xs

-- a target array among arguments is one whose size changes
abbrev pub is_dynamic : Cell-F Cell → Bool
is_dynamic (Cell-F.Array dynamic series unit cs) = dynamic
is_dynamic _ = false

abbrev pub has_dynamic : List Cell → Bool
has_dynamic [] = false
has_dynamic (c ∷ cs) = either (is_dynamic (out-Cell c)) true (has_dynamic cs)

-- a call of the world
abbrev pub host_call : ℕ → List Value → List Cell → HostCall
host_call id vs cs = record { id = id; args = vs; dynamic = has_dynamic cs }

-- a native function that met an argument out of range tells the world the last error
abbrev pub tells : Bool → Act (Unit {0})
tells false = pure tt
tells true = do
  ask None (host_call last_error (whole (error_number InvalidParameter) ∷ []) []) [] []
  pure tt

-- what a native function that asks no world does at places with these cells
abbrev pub does_native : List Place → List Cell → Change NativeDone → Act Value
does_native ps cs f = do
  d ← change f
  change (put_at ps cs d.outs)
  tells d.out_of_range
  pure d.value

-- a native function asks the world, or computes
abbrev pub runs_native : Native → List Operand → Act Value
runs_native f xs = do
  cs ← change (cells_at (places_in xs))
  choose (asks f)
      (ask (Some f) (host_call (native_number f) (values_of (arguments xs cs)) cs) (places_in xs) cs)
      (does_native (places_in xs) cs (computes f (arguments xs cs)))

-- what a call of a native function does
abbrev pub calls_native : Native → List Operand → Act Value
calls_native natives.GetPointer xs = change (points xs)
calls_native natives.CheckPointer xs = change (tells_status xs)
calls_native f xs = runs_native f xs
