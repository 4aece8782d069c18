-- What declarations of local and of static variables tell (MQL5 Reference, Language Basics, Variables).
use Rattle.std.specs.Prelude.{ℕ, ◌+◌, ℤ, List, [], ◌∷◌, ◌++◌, flat_map, Option, Some, None, if◌then◌else◌}
use Rattle.mql_syntax.specs.declared.declaration.Variable.{Variable}
use Rattle.mql_syntax.specs.declared.declaration.Dimension.{Dimension}
use Rattle.mql_syntax.specs.declared.declaration.Dimension.TheVariants.{Open, Size}
use Rattle.mql_names.specs.declared.fault.Broken.{Broken}
use Rattle.mql_types.specs.declared.types.DataType.{DataType}
use Rattle.mql_scope.specs.declared.context.Known.{Known}
use Rattle.mql_scope.specs.declared.context.Storage.TheVariants as storage
use Rattle.mql_scope.specs.Contexts.{Program, Context, behind}
use Rattle.mql_typed.specs.Typed.{var_type}
use Rattle.mql_scope.specs.Names.{stands_at}
use Rattle.mql_expressions.specs.Values.{found, innermost, broken_at}
use Rattle.mql_statements.specs.declared.told.Told.{Told}
use Rattle.mql_starts.specs.declared.initialisers.Begun.{Begun}
use Rattle.mql_starts.specs.Starts.{started, start_constant}
use Rattle.mql_statements.specs.Told.{nothing_told, then_told, behind_told, evaluated}
use Rattle.mql_statements.specs.Variables.{variable_type, known}
use Rattle.mql_statements.specs.Rules.{rule}

-- the functions that the sizes of a variable call: a size that calls one is no constant
abbrev pub dimension_used : Context → Dimension → List ℕ
dimension_used c Open = []
dimension_used c (Size v) = (found c v).used

abbrev pub dimensions_used : Context → Variable → List ℕ
dimensions_used c v = flat_map (dimension_used c) v.dimensions

-- a local takes the next number, and then what it begins with is done
abbrev pub local_told : ℕ → Variable → DataType → ℕ → Begun → Told
local_told line v t n b =
    record nothing_told {
      typed = evaluated line b.steps;
      kept = var_type t ∷ b.kept;
      declared = known v t (storage.Local n) ∷ [];
      broken = b.broken;
      used = b.used;
    }

abbrev pub local : Context → Variable → DataType → Told
local c v t =
    local_told (c.program.line v.place) v t c.next
    (started (behind (var_type t ∷ []) [] 0 c) v.place (stands_at (storage.Local c.next)) t v.start)

-- a static variable begins before the program's first event, with constants: 36
abbrev pub static_told : ℕ → Variable → DataType → ℕ → Begun → List Broken → Told
static_told line v t n b rule =
    record nothing_told {
      declared = known v t (storage.Global n) ∷ [];
      statics = record { of = var_type t; line = line; steps = b.steps } ∷ [];
      broken = innermost v.place (b.broken ++ rule);
      used = b.used;
    }

abbrev pub not_constant : Program → List Known → Variable → Option ℕ
not_constant p ks v = if start_constant p ks v.start then None else Some 36

abbrev pub static : Context → Variable → DataType → Told
static c v t =
    static_told (c.program.line v.place) v t c.statics
    (started c v.place (stands_at (storage.Global c.statics)) t v.start)
    (broken_at v.place (not_constant c.program c.locals v))

-- a variable of `void` is none: 23
abbrev pub declares_as : Context → Variable → Option DataType → Told
declares_as c v None = record nothing_told { broken = broken_at v.place (Some 23) }
declares_as c v (Some t) = if v.words.is_static then static c v t else local c v t

abbrev pub using : List ℕ → Told → Told
using more t = record t { used = more ++ t.used }

abbrev pub declares : Context → Variable → Told
declares c v = using (dimensions_used c v) (declares_as c v (variable_type c.program c.locals v))

abbrev pub declares_all : Context → List Variable → Told
declares_all c [] = nothing_told
declares_all c (v ∷ vs) = let t = declares c v in then_told t (declares_all (behind_told t c) vs)
