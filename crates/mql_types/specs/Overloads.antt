-- Which of the functions of a name is called (MQL5 Reference, Language Basics, Functions, Function
-- Overloading; Passing Parameters): one that has no dearer argument than any other and a cheaper one.
use Rattle.std.specs.Prelude.{ℕ, Bool, true, false, not, ◌&&◌, ◌||◌, ◌==◌, nat_lt, List, [], ◌∷◌, Option, Some, None, is_some, bytes_eq, if◌then◌else◌}
use Rattle.mql_types.specs.declared.types.Base.{Base}
use Rattle.mql_types.specs.declared.types.DataType.{DataType}
use Rattle.mql_types.specs.declared.overloads.Argument.{Argument}
use Rattle.mql_types.specs.declared.overloads.Parameter.{Parameter}
use Rattle.mql_types.specs.declared.overloads.Signature.{Signature}
use Rattle.mql_types.specs.declared.overloads.Judging.{Judging}
use Rattle.mql_types.specs.declared.overloads.Judging.TheVariants as judging
use Rattle.mql_types.specs.declared.overloads.Choice.{Choice}
use Rattle.mql_types.specs.declared.overloads.Choice.TheVariants as choice
use Rattle.mql_types.specs.Types.{is_array, same_type}
use Rattle.mql_types.specs.Conversions.{fits, cost}

abbrev pub Name : Type 0
Name = List ℕ

-- an argument may be lent to a reference: a place of its type, and no constant unless the reference is one
abbrev pub may_be_lent : Argument → Parameter → Bool
may_be_lent a p = a.place && (same_type a.of p.of && (not a.fixed || p.constant))

-- what it costs to hand a value over, if it may be: no array is handed over so
abbrev pub single_cost : Base → Base → Option ℕ
single_cost a b = if fits a b then Some (cost a b) else None

abbrev pub array_cost : Judging → DataType → DataType → Option ℕ
array_cost judging.Strictly t u = None
array_cost judging.Loosely t u = if same_type t u then Some 0 else None

abbrev pub value_cost : Judging → DataType → DataType → Option ℕ
value_cost way t u =
    if is_array t.dimensions || is_array u.dimensions then array_cost way t u else single_cost t.base u.base

-- what it costs to lend an argument; loosely, each may be lent
abbrev pub reference_cost : Judging → Argument → Parameter → Option ℕ
reference_cost judging.Strictly a p = if may_be_lent a p then Some 0 else None
reference_cost judging.Loosely a p = Some (if same_type a.of p.of then 0 else 3)

-- what an argument costs, if the parameter takes it
abbrev pub argument_cost : Judging → Argument → Parameter → Option ℕ
argument_cost way a p = if p.reference then reference_cost way a p else value_cost way a.of p.of

-- parameters that are left over have defaults
abbrev pub all_optional : List Parameter → Bool
all_optional [] = true
all_optional (p ∷ ps) = p.optional && all_optional ps

-- each argument is taken by its parameter
abbrev pub takes : Judging → List Argument → List Parameter → Bool
takes way [] ps = all_optional ps
takes way (a ∷ rest) [] = false
takes way (a ∷ rest) (p ∷ ps) = is_some (argument_cost way a p) && takes way rest ps

abbrev pub is_less : Option ℕ → Option ℕ → Bool
is_less (Some m) (Some n) = nat_lt m n
is_less _ _ = false

-- an argument is cheaper with the first parameter than with the second
abbrev pub is_cheaper : Judging → Argument → Parameter → Parameter → Bool
is_cheaper way a p q = is_less (argument_cost way a p) (argument_cost way a q)

-- no argument is cheaper with the second parameters; some argument is cheaper with the first
abbrev pub none_dearer : Judging → List Argument → List Parameter → List Parameter → Bool
none_dearer way (a ∷ rest) (p ∷ ps) (q ∷ qs) = not (is_cheaper way a q p) && none_dearer way rest ps qs
none_dearer way _ _ _ = true

abbrev pub some_cheaper : Judging → List Argument → List Parameter → List Parameter → Bool
some_cheaper way (a ∷ rest) (p ∷ ps) (q ∷ qs) = is_cheaper way a p q || some_cheaper way rest ps qs
some_cheaper way _ _ _ = false

abbrev pub beats : Judging → List Argument → Signature → Signature → Bool
beats way given f g =
    none_dearer way given f.parameters g.parameters && some_cheaper way given f.parameters g.parameters

-- a function of the name that takes the arguments
abbrev pub is_candidate : Judging → Name → List Argument → Signature → Bool
is_candidate way x given f = bytes_eq f.name x && takes way given f.parameters

abbrev pub some_candidate : Judging → Name → List Argument → List Signature → Bool
some_candidate way x given [] = false
some_candidate way x given (f ∷ fs) = is_candidate way x given f || some_candidate way x given fs

-- a function beats all other candidates
abbrev pub loses_to : Judging → Name → List Argument → Signature → Signature → Bool
loses_to way x given f g = f.number == g.number || (not (is_candidate way x given g) || beats way given f g)

abbrev pub wins : Judging → Name → List Argument → Signature → List Signature → Bool
wins way x given f [] = true
wins way x given f (g ∷ gs) = loses_to way x given f g && wins way x given f gs

abbrev pub winner : Judging → Name → List Argument → List Signature → List Signature → Option ℕ
winner way x given all [] = None
winner way x given all (f ∷ fs) =
    if is_candidate way x given f && wins way x given f all then Some f.number else winner way x given all fs

abbrev pub chosen : Choice → Option ℕ → Choice
chosen other None = other
chosen other (Some n) = choice.Function n

-- The functions that take the arguments are judged; where none does, those are whose parameters by value take
-- them, so that it can be told what is wrong with a reference argument or an array.
unfoldable pub choose : Name → List Argument → List Signature → Choice
choose x given fs =
    if some_candidate judging.Strictly x given fs
    then chosen choice.Equal (winner judging.Strictly x given fs fs)
    else chosen choice.Nothing (winner judging.Loosely x given fs fs)
