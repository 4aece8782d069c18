-- What variables begin with: values, and lists of values in braces (MQL5 Reference, Language Basics, Variables,
-- Initialization of Variables; Arrays; Structures). A list that is shorter than its array or structure leaves the
-- rest zero, and a dynamic array gets the list's size.
use Rattle.std.specs.Prelude.{ℕ, ◌+◌, pos, Bool, true, false, ◌&&◌, ◌||◌, nat_lt, ◌==◌, List, [], ◌∷◌, ◌++◌, flat_map, Option, Some, None, is_some, option_map, slice_get, if◌then◌else◌}
use Rattle.natives.specs.declared.native.Native.TheVariants as natives
use Rattle.mql_meaning.specs.declared.operator.Operator.TheVariants as operator
use Rattle.mql_meaning.specs.declared.tree.Expression.{Expression}
use Rattle.mql_meaning.specs.declared.tree.Expression.TheVariants as expression
use Rattle.mql_syntax.specs.declared.kind.Place.{Place}
use Rattle.mql_syntax.specs.declared.value.Operation.{Operation}
use Rattle.mql_syntax.specs.declared.value.Operation.TheVariants as operation
use Rattle.mql_syntax.specs.declared.value.Value.{Value, Node', Row_of-Value, end_of-Value, more_of-Value}
use Rattle.mql_syntax.specs.declared.declaration.Start.{Start}
use Rattle.mql_syntax.specs.declared.declaration.Start.TheVariants as start
use Rattle.mql_names.specs.declared.fault.Broken.{Broken}
use Rattle.mql_types.specs.declared.types.Base.{Base}
use Rattle.mql_types.specs.declared.types.Base.TheVariants as base
use Rattle.mql_types.specs.declared.types.DataType.{DataType}
use Rattle.mql_types.specs.declared.dimensions.Dimensions.{Dimensions}
use Rattle.mql_types.specs.declared.dimensions.Dimensions.TheVariants as dims
use Rattle.mql_types.specs.Types.{is_array}
use Rattle.mql_types.specs.Operators.{is_structure}
use Rattle.mql_scope.specs.declared.context.Field.{Field}
use Rattle.mql_scope.specs.declared.context.Known.{Known}
use Rattle.mql_typed.specs.declared.info.Info.{Info}
use Rattle.mql_scope.specs.Contexts.{Program, Context, behind}
use Rattle.mql_typed.specs.Operations.{element_type}
use Rattle.mql_typed.specs.Typed.{on_one, on_two, int, value_base, converted}
use Rattle.mql_calls.specs.Nodes.{passes, is_void, is_whole_array}
use Rattle.mql_expressions.specs.Rules.{no_fit, fields_at}
use Rattle.mql_starts.specs.declared.initialisers.Begun.{Begun}
use Rattle.mql_starts.specs.declared.initialisers.Part.{Part}
use Rattle.mql_starts.specs.declared.initialisers.PartStep.{PartStep}
use Rattle.mql_starts.specs.declared.initialisers.PartStep.TheVariants as part
use Rattle.mql_expressions.specs.declared.findings.Found.{Found}
use Rattle.mql_expressions.specs.Values.{found, innermost, broken_at, broken_in, used_in, kept_by}

abbrev pub nothing_begun : Begun
nothing_begun = record { steps = []; kept = []; broken = []; used = [] }

abbrev pub then_begun : Begun → Begun → Begun
then_begun a b =
    record {
      steps = a.steps ++ b.steps;
      kept = a.kept ++ b.kept;
      broken = a.broken ++ b.broken;
      used = a.used ++ b.used;
    }

-- what begins nothing breaks a rule, and its values are judged by themselves
abbrev pub refused_with : Place → ℕ → List Broken → List ℕ → Begun
refused_with p r inner used =
    record nothing_begun { broken = innermost p (inner ++ broken_at p (Some r)); used = used }

abbrev pub refused : Place → ℕ → List Found → Begun
refused p r fs = refused_with p r (broken_in fs) (used_in fs)

-- a place in a place
abbrev pub stepped : Expression → PartStep → Expression
stepped e (part.Element k) = on_two operator.Index e (int (pos k))
stepped e (part.Field k) = on_one (operator.Field k) e

abbrev pub stepped_all : Expression → List PartStep → Expression
stepped_all e [] = e
stepped_all e (s ∷ ss) = stepped_all (stepped e s) ss

-- a first dimension of size 0 has room for each place
abbrev pub first_size : Dimensions → ℕ
first_size dims.None = 0
first_size (dims.One a) = a
first_size (dims.Two a b) = a
first_size (dims.Three a b c) = a
first_size (dims.Four a b c d) = a

abbrev pub has_room : ℕ → ℕ → Bool
has_room size k = size == 0 || nat_lt k size

abbrev pub element_part : DataType → ℕ → Part
element_part t k = record { step = part.Element k; of = element_type t }

abbrev pub element_at : DataType → ℕ → Option Part
element_at t k = if has_room (first_size t.dimensions) k then Some (element_part t k) else None

abbrev pub field_part : ℕ → Field → Part
field_part k f = record { step = part.Field k; of = f.of }

abbrev pub field_at : Program → Base → ℕ → Option Part
field_at p (base.Structure n) k = option_map (field_part k) (slice_get (fields_at (slice_get p.structures n)) k)
field_at p _ k = None

-- the part of a number of an array or a structure, as values in braces begin it; a simple type has no parts
abbrev pub part_at : Program → DataType → ℕ → Option Part
part_at p t k = if is_array t.dimensions then element_at t k else field_at p t.base k

abbrev pub has_parts : DataType → Bool
has_parts t = is_array t.dimensions || is_structure t.base

-- a dynamic array gets its size first
abbrev pub is_open : DataType → Bool
is_open t = is_array t.dimensions && first_size t.dimensions == 0

abbrev pub resized : Expression → ℕ → Expression
resized e n = expression.Native natives.ArrayResize (e ∷ int (pos n) ∷ int (pos 0) ∷ [])

abbrev pub sized : Expression → DataType → ℕ → List Expression
sized e t n = if is_open t then resized e n ∷ [] else []

-- 13 no conversion, 23 nothing as a value, 26 a whole array, 35 one value for an array
abbrev pub value_rule : Base → Info → Option ℕ
value_rule b i =
    if passes (no_fit b) (value_base i) then Some 13
    else if is_void i then Some 23
    else if is_whole_array i then Some 26
    else None

abbrev pub start_rule : DataType → Option Info → Option ℕ
start_rule t None = None
start_rule t (Some i) = if is_array t.dimensions then Some 35 else value_rule t.base i

-- a place gets the value of an expression
abbrev pub puts : Expression → DataType → Option Info → List Expression
puts e t None = []
puts e t (Some i) = on_two operator.Keep (converted t.base i) e ∷ []

abbrev pub one_begun : Place → Expression → DataType → Found → Begun
one_begun p e t f =
    record {
      steps = puts e t f.info;
      kept = kept_by f.info;
      broken = innermost p (f.broken ++ broken_at p (start_rule t f.info));
      used = f.used;
    }

-- behind what a variable began with
abbrev pub behind_begun : Begun → Context → Context
behind_begun b c = behind b.kept [] 0 c

abbrev pub is_braces : Operation → Bool
is_braces operation.Braces = true
is_braces _ = false

abbrev pub row_length : {m : _} → Row_of-Value m → ℕ
row_length end_of-Value = 0
row_length (more_of-Value v vs) = row_length vs + 1

-- the values that stand in braces, each by itself
abbrev mutual
  pub loose : Context → Value → List Found
  loose c (Node' q what types m row) =
      if is_braces what then loose_row c row else found c (Node' q what types m row) ∷ []

  pub loose_row : Context → {m : _} → Row_of-Value m → List Found
  loose_row c end_of-Value = []
  loose_row c (more_of-Value v vs) = loose c v ++ loose_row c vs

abbrev pub in_braces : Place → List Expression → Begun → Begun
in_braces q before b = record b { steps = before ++ b.steps; broken = innermost q b.broken }

-- a part begins, and others behind it
abbrev pub begun_then : Begun → (Context → Begun) → Context → Begun
begun_then b rest c = then_begun b (rest (behind_begun b c))

abbrev pub at_part : (Part → Begun) → Begun → Option Part → Begun
at_part begun other None = other
at_part begun other (Some x) = begun x

abbrev mutual
  -- a place of a type begins with a value that stands at a node
  pub begins : Context → Place → Expression → DataType → Value → Begun
  begins c p e t (Node' q what types m row) =
      if is_braces what
      then
      if has_parts t then in_braces q (sized e t (row_length row)) (begins_row c q e t 0 row)
      else refused p 35 (loose_row c row)
      else one_begun p e t (found c (Node' q what types m row))

  -- the parts from a number on
  pub begins_row : Context → Place → Expression → DataType → ℕ → {m : _} → Row_of-Value m → Begun
  begins_row c q e t k end_of-Value = nothing_begun
  begins_row c q e t k (more_of-Value v vs) =
      at_part
      (λ x. begun_then (begins c q (stepped e x.step) x.of v) (λ d. begins_row d q e t (k + 1) vs) c)
      (refused q 35 (loose c v ++ loose_row c vs))
      (part_at c.program t k)

-- the same of a list of values
abbrev pub begins_list : Context → Place → Expression → DataType → ℕ → List Value → Begun
begins_list c q e t k [] = nothing_begun
begins_list c q e t k (v ∷ vs) =
    at_part
    (λ x. begun_then (begins c q (stepped e x.step) x.of v) (λ d. begins_list d q e t (k + 1) vs) c)
    (refused q 35 (flat_map (loose c) (v ∷ vs)))
    (part_at c.program t k)

-- a variable begins; 33 there are no constructors yet
abbrev pub started : Context → Place → Expression → DataType → Start → Begun
started c p e t start.Zero = nothing_begun
started c p e t (start.Value v) = begins c p e t v
started c p e t (start.Arguments vs) = refused p 33 (flat_map (loose c) vs)

-- all values are constants where these locals are in force
abbrev mutual
  pub are_constant : Program → List Known → Value → Bool
  are_constant p ks (Node' q what types m row) =
      if is_braces what then all_constant p ks row else is_some (p.constant ks (Node' q what types m row))

  pub all_constant : Program → List Known → {m : _} → Row_of-Value m → Bool
  all_constant p ks end_of-Value = true
  all_constant p ks (more_of-Value v vs) = are_constant p ks v && all_constant p ks vs

abbrev pub all_are_constant : Program → List Known → List Value → Bool
all_are_constant p ks [] = true
all_are_constant p ks (v ∷ vs) = are_constant p ks v && all_are_constant p ks vs

abbrev pub start_constant : Program → List Known → Start → Bool
start_constant p ks (start.Value v) = are_constant p ks v
start_constant p ks _ = true
