-- Arguments of calls of the program's functions, and the function that is chosen (MQL5 Reference, Function
-- Overloading; Passing Parameters).
use Rattle.std.specs.Prelude.{ℕ, Bool, true, false, not, ◌&&◌, ◌||◌, ◌==◌, List, [], ◌∷◌, Option, Some, None, if◌then◌else◌}
use Rattle.mql_types.specs.declared.overloads.Argument.{Argument}
use Rattle.mql_types.specs.declared.overloads.Parameter.{Parameter}
use Rattle.mql_types.specs.declared.overloads.Signature.{Signature}
use Rattle.mql_types.specs.declared.overloads.Choice.{Choice}
use Rattle.mql_types.specs.declared.overloads.Choice.TheVariants as choice
use Rattle.mql_types.specs.Types.{same_type, is_array}
use Rattle.mql_arguments.specs.declared.rules.ArgumentRule.{ArgumentRule}
use Rattle.mql_arguments.specs.declared.rules.ArgumentRule.TheVariants as argument

abbrev pub function_at : ℕ → List Signature → Option Signature
function_at n [] = None
function_at n (f ∷ fs) = if f.number == n then Some f else function_at n fs

-- the function that is chosen
abbrev pub chosen_in : List Signature → Choice → Option Signature
chosen_in fs (choice.Function n) = function_at n fs
chosen_in fs _ = None

abbrev pub is_nothing : Choice → Bool
is_nothing choice.Nothing = true
is_nothing _ = false

abbrev pub is_equal : Choice → Bool
is_equal choice.Equal = true
is_equal _ = false

-- some argument passes a test with its parameter
abbrev pub some_pair : (Argument → Parameter → Bool) → List Argument → List Parameter → Bool
some_pair test (a ∷ rest) (p ∷ ps) = test a p || some_pair test rest ps
some_pair test _ _ = false

-- 8 a reference argument is no place; 9 its type differs; 10 a constant is lent for change; 26 an array is
-- handed over by value
abbrev pub not_placed : Argument → Parameter → Bool
not_placed a p = p.reference && not a.place

abbrev pub differs : Argument → Parameter → Bool
differs a p = p.reference && (a.place && not (same_type a.of p.of))

abbrev pub lends_constant : Argument → Parameter → Bool
lends_constant a p = p.reference && (a.place && (a.fixed && not p.constant))

abbrev pub whole_array : Argument → Parameter → Bool
whole_array a p = not p.reference && is_array a.of.dimensions

-- what a rule says of an argument with its parameter
abbrev pub breaks : ArgumentRule → Argument → Parameter → Bool
breaks argument.NotPlaced = not_placed
breaks argument.Differs = differs
breaks argument.LendsConstant = lends_constant
breaks argument.WholeArray = whole_array
