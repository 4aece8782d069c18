-- Expressions, each with what it tells and with the broken rules that may be told of it: those of nodes that
-- break a rule where none below them breaks one (own).
use Rattle.std.specs.Prelude.{ℕ, ◌+◌, Bool, true, false, not, ◌&&◌, ◌||◌, ◌==◌, List, [], ◌∷◌, ◌++◌, Option, Some, None, is_none, if◌then◌else◌}
use Rattle.mql_meaning.specs.declared.types.VarType.{VarType}
use Rattle.mql_syntax.specs.declared.kind.Place.{Place}
use Rattle.mql_syntax.specs.declared.value.TypeUse.{TypeUse}
use Rattle.mql_syntax.specs.declared.value.Operation.{Operation}
use Rattle.mql_syntax.specs.declared.value.Operation.TheVariants as operation
use Rattle.mql_syntax.specs.declared.value.Value.{Value, Node', Row_of-Value, end_of-Value, more_of-Value}
use Rattle.mql_names.specs.declared.fault.Broken.{Broken}
use Rattle.mql_typed.specs.declared.info.Info.{Info}
use Rattle.mql_scope.specs.Contexts.{Text, Context, behind}
use Rattle.mql_calls.specs.Nodes.{Node}
pub use Rattle.mql_expressions.specs.declared.findings.Found.{Found}
pub use Rattle.mql_expressions.specs.declared.findings.Founds.{Founds}
use Rattle.mql_expressions.specs.Rules.{lowest}
use Rattle.mql_expressions.specs.Made.{tells, uses}

-- rules broken below a node, and those broken at it
abbrev pub below : ℕ → List Broken → List Broken
below at [] = []
below at (b ∷ bs) = if b.node == at then below at bs else b ∷ below at bs

-- of what is broken at a node and in its parts: what is below it, if there is any
abbrev pub below_or_all : List Broken → List Broken → List Broken
below_or_all [] all = all
below_or_all (b ∷ bs) all = b ∷ bs

abbrev pub innermost : Place → List Broken → List Broken
innermost p all = below_or_all (below p.at all) all

-- a rule that is broken at a place, if there is one
abbrev pub broken_at : Place → Option ℕ → List Broken
broken_at p None = []
broken_at p (Some r) = record { rule = r; node = p.at; first = p.first } ∷ []

-- what expressions tell, and what is broken in them
abbrev pub infos_in : List Found → List (Option Info)
infos_in [] = []
infos_in (f ∷ fs) = f.info ∷ infos_in fs

abbrev pub broken_in : List Found → List Broken
broken_in [] = []
broken_in (f ∷ fs) = f.broken ++ broken_in fs

abbrev pub used_in : List Found → List ℕ
used_in [] = []
used_in (f ∷ fs) = f.used ++ used_in fs

-- the name that an expression is
abbrev pub name_at : Operation → Option Text
name_at (operation.Name x) = Some x
name_at _ = None

abbrev pub name_of : Value → Option Text
name_of (Node' place what types m row) = name_at what

-- the name that a call calls
abbrev pub name_of_first : List Value → Option Text
name_of_first [] = None
name_of_first (v ∷ vs) = name_of v

abbrev pub called_in : Operation → List Value → Option Text
called_in operation.Call parts = name_of_first parts
called_in _ parts = None

abbrev pub first_name : {m : _} → Row_of-Value m → Option Text
first_name end_of-Value = None
first_name (more_of-Value v vs) = name_of v

abbrev pub called : Operation → {m : _} → Row_of-Value m → Option Text
called operation.Call row = first_name row
called _ row = None

abbrev pub is_named : Option Text → Bool
is_named None = false
is_named (Some x) = true

-- the locals that an expression takes
abbrev pub kept_by : Option Info → List VarType
kept_by None = []
kept_by (Some i) = i.kept

-- the context behind an expression
abbrev pub behind_info : Option Info → Context → Context
behind_info i c = behind (kept_by i) [] 0 c

-- a node with what its parts tell
abbrev pub node : Place → Operation → List TypeUse → Option Text → List (Option Info) → Node
node place what types name parts =
    record { place = place; what = what; types = types; called = name; parts = parts }

-- what is found at a node, from what is broken and which functions are used in its parts
abbrev pub found_at : Context → Node → List Broken → List ℕ → Found
found_at c n inner used =
    record {
      info = tells c n;
      broken = innermost n.place (inner ++ broken_at n.place (lowest c n));
      used = used ++ uses c n;
    }

abbrev mutual
  pub found : Context → Value → Found
  found c (Node' place what types m row) =
      let fs = founds c (is_named (called what row)) row in
      found_at c (node place what types (called what row) (infos_in fs)) (broken_in fs) (used_in fs)

  -- those behind the name that is called; behind an expression its locals are taken
  pub founds : Context → Bool → {m : _} → Row_of-Value m → List Found
  founds c name end_of-Value = []
  founds c true (more_of-Value v vs) = founds c false vs
  founds c false (more_of-Value v vs) =
      let f = found c v in
      f ∷ founds (behind_info f.info c) false vs

-- expressions one after another
abbrev pub found_all : Context → List Value → List Found
found_all c [] = []
found_all c (v ∷ vs) =
    let f = found c v in
    f ∷ found_all (behind_info f.info c) vs

abbrev pub founds_of : List Found → Founds
founds_of fs = record { infos = infos_in fs; broken = broken_in fs; used = used_in fs }

-- what is found in expressions, and in one behind them
abbrev pub with_found : Founds → Found → Founds
with_found fs f =
    record { infos = fs.infos ++ f.info ∷ []; broken = fs.broken ++ f.broken; used = fs.used ++ f.used }

-- the parts of a node that tell something: all, but not a name that is called
abbrev pub told_parts : Bool → List Value → List Value
told_parts true (v ∷ vs) = vs
told_parts _ vs = vs

-- the context behind expressions
abbrev pub all_behind : Context → List Value → Context
all_behind c [] = c
all_behind c (v ∷ vs) = all_behind (behind_info (found c v).info c) vs
