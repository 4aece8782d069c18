-- A node of an expression with what its parts tell, and how a rule asks about them. A part that breaks a rule
-- tells nothing, and what is asked about it fails.
use Rattle.std.specs.Prelude.{ℕ, zero, suc, ◌+◌, Bool, true, false, not, ◌&&◌, ◌||◌, List, [], ◌∷◌, ◌++◌, Option, Some, None, is_none, is_some, if◌then◌else◌}
use Rattle.mql_meaning.specs.declared.types.VarType.{VarType}
use Rattle.mql_syntax.specs.declared.value.Operation.{Operation}
use Rattle.mql_syntax.specs.declared.value.Value.{Value}
use Rattle.mql_syntax.specs.declared.value.TypeUse.{TypeUse}
use Rattle.mql_syntax.specs.declared.kind.Place.{Place}
use Rattle.mql_types.specs.declared.types.Base.{Base}
use Rattle.mql_types.specs.declared.types.DataType.{DataType}
use Rattle.mql_types.specs.declared.overloads.Argument.{Argument}
use Rattle.mql_types.specs.Types.{is_array}
use Rattle.mql_typed.specs.declared.info.Info.{Info}
use Rattle.mql_scope.specs.Contexts.{Text, Context}
use Rattle.mql_typed.specs.Typed.{is_lasting, is_fixed, is_input}

-- a node: where it stands, what it does, its types, the name that it calls, and what its parts tell; a name
-- that is called is no part
pub record Node : Type 0 where
  pub place : Place
  pub what : Operation
  pub types : List TypeUse
  pub called : Option Text
  pub parts : List (Option Info)

-- a rule of expressions
abbrev pub Rule : Type 0
Rule = Context → Node → Bool

-- what is there passes a test
abbrev pub passes : {A : Type 0} → (A → Bool) → Option A → Bool
passes test None = false
passes test (Some a) = test a

-- no part, and the first, second and third part
abbrev pub nth : ℕ → List (Option Info) → Option Info
nth n [] = None
nth zero (i ∷ is) = i
nth (suc n) (i ∷ is) = nth n is

abbrev pub ask : ℕ → (Info → Bool) → Node → Bool
ask k test n = passes test (nth k n.parts)

-- some part passes a test
abbrev pub some_part : (Info → Bool) → List (Option Info) → Bool
some_part test [] = false
some_part test (i ∷ is) = passes test i || some_part test is

-- an expression that gives nothing; an array
abbrev pub is_void : Info → Bool
is_void i = is_none i.of

abbrev pub is_whole_array : Info → Bool
is_whole_array i = passes (λ (t : DataType). is_array t.dimensions) i.of

abbrev pub no_place : Info → Bool
no_place i = not (is_lasting i.standing)

-- a constant, and an input
abbrev pub is_constant : Info → Bool
is_constant i = is_fixed i.standing && not (is_input i.standing)

abbrev pub is_of_input : Info → Bool
is_of_input i = is_input i.standing

-- the parts, where each tells something
abbrev pub prepended : {A : Type 0} → Option A → Option (List A) → Option (List A)
prepended (Some a) (Some rest) = Some (a ∷ rest)
prepended _ _ = None

abbrev pub told : List (Option Info) → Option (List Info)
told [] = Some []
told (i ∷ is) = prepended i (told is)

-- the arguments that parts are, where each gives something
abbrev pub argument_in : Info → Option DataType → Option Argument
argument_in i None = None
argument_in i (Some t) = Some (record { of = t; place = is_lasting i.standing; fixed = is_fixed i.standing })

abbrev pub argument : Info → Option Argument
argument i = argument_in i i.of

abbrev pub arguments : List Info → Option (List Argument)
arguments [] = Some []
arguments (i ∷ is) = prepended (argument i) (arguments is)

abbrev pub arguments_in : Option (List Info) → Option (List Argument)
arguments_in None = None
arguments_in (Some is) = arguments is

abbrev pub arguments_of : Node → Option (List Argument)
arguments_of n = arguments_in (told n.parts)

-- the locals that parts take
abbrev pub all_kept : List Info → List VarType
all_kept [] = []
all_kept (i ∷ is) = i.kept ++ all_kept is
