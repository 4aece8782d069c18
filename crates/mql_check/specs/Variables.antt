-- Variables outside functions: the expressions in them, and what of the broken rules in them may be told
-- (own).
use Rattle.std.specs.Prelude.{ℕ, false, ◌==◌, List, [], ◌∷◌, ◌++◌, flat_map, None, if◌then◌else◌}
use Rattle.mql_syntax.specs.declared.value.Value.{Value}
use Rattle.mql_syntax.specs.declared.kind.Place.{Place}
use Rattle.mql_syntax.specs.declared.declaration.Variable.{Variable}
use Rattle.mql_syntax.specs.declared.declaration.Dimension.{Dimension}
use Rattle.mql_syntax.specs.declared.declaration.Dimension.TheVariants.{Open, Size}
use Rattle.mql_names.specs.declared.fault.Broken.{Broken}
use Rattle.mql_scope.specs.Contexts.{Program, Context}
use Rattle.mql_expressions.specs.declared.findings.Found.{Found}
use Rattle.mql_expressions.specs.Values.{found, innermost}
use Rattle.mql_starts.specs.Declarations.{dimensions_used}
use Rattle.mql_check.specs.declared.owned.Owned.{Owned}
use Rattle.mql_check.specs.declared.owned.Gathering.{Gathering}

-- where an expression outside functions stands, with the number of the next local
abbrev pub outside : Program → ℕ → Context
outside p next =
    record {
      program = p;
      function = [];
      result = None;
      breaks = false;
      continues = false;
      locals = [];
      next = next;
      statics = 0;
    }

-- what is found in an expression that no function evaluates
abbrev pub found_outside : Program → Value → Found
found_outside p v = found (outside p 0) v

-- the sizes of a variable: what is broken in them, and the functions that they call
abbrev pub dimension_broken : Program → Dimension → List Broken
dimension_broken p Open = []
dimension_broken p (Size v) = (found_outside p v).broken

abbrev pub dimensions_broken : Program → Variable → List Broken
dimensions_broken p v = flat_map (dimension_broken p) v.dimensions

abbrev pub sizes_used : Program → Variable → List ℕ
sizes_used p v = dimensions_used (outside p 0) v

-- what is broken in a variable, at its declaration's node and below it
abbrev pub owned : Place → List Broken → List Owned
owned q bs = record { place = q; broken = bs } ∷ []

-- variables of one declaration stand one after another and share its node: what is broken at it is told
-- only where nothing below it is, in any of them
abbrev pub joined : Owned → List Owned → List Owned
joined o [] = o ∷ []
joined o (x ∷ xs) =
    if x.place.at == o.place.at then record x { broken = o.broken ++ x.broken } ∷ xs else o ∷ x ∷ xs

abbrev pub declarations : List Owned → List Owned
declarations [] = []
declarations (o ∷ os) = joined o (declarations os)

abbrev pub inner : Owned → List Broken
inner o = innermost o.place o.broken

abbrev pub together : List Owned → List Broken
together os = flat_map inner (declarations os)

-- the same from the front: what may be told of the declarations before one, and of it what has been gathered
abbrev pub gathered : Gathering → Owned → Gathering
gathered g x =
    if x.place.at == g.pending.place.at
    then record g { pending = record x { broken = g.pending.broken ++ x.broken } }
    else record { told = g.told ++ inner g.pending; pending = x }

abbrev pub with_more : Gathering → List Owned → List Broken
with_more g ds = g.told ++ flat_map inner (joined g.pending ds)
