-- What statements tell: their typed statements, the locals that they take, the variables that they declare and the
-- broken rules that may be told.
use Rattle.std.specs.Prelude.{ℕ, ◌+◌, ℤ, Bool, true, false, List, [], ◌∷◌, ◌++◌, length, map}
use Rattle.mql_meaning.specs.declared.tree.Expression.{Expression}
use Rattle.mql_meaning.specs.declared.tree.Statement as typed
use Rattle.mql_meaning.specs.declared.tree.Statement.TheVariants as made
use Rattle.mql_syntax.specs.declared.statement.Statement.{Statement}
use Rattle.mql_scope.specs.declared.context.Known.{Known}
use Rattle.mql_scope.specs.Contexts.{Context, behind}
use Rattle.mql_statements.specs.declared.told.Label.{Label}
use Rattle.mql_statements.specs.declared.told.Told.{Told}

abbrev pub nothing_told : Told
nothing_told =
    record { typed = []; kept = []; declared = []; statics = []; labels = []; broken = []; used = [] }

-- one after another
abbrev pub moved : ℕ → Label → Label
moved n l = record l { before = n + l.before }

abbrev pub then_told : Told → Told → Told
then_told a b =
    record {
      typed = a.typed ++ b.typed;
      kept = a.kept ++ b.kept;
      declared = a.declared ++ b.declared;
      statics = a.statics ++ b.statics;
      labels = a.labels ++ map (moved (length a.typed)) b.labels;
      broken = a.broken ++ b.broken;
      used = a.used ++ b.used;
    }

-- behind a statement in its scope; behind one whose scope has ended
abbrev pub behind_told : Told → Context → Context
behind_told t c = behind t.kept t.declared (length t.statics) c

abbrev pub behind_scope : Told → Context → Context
behind_scope t c = behind t.kept [] (length t.statics) c

-- expressions evaluated one after another at a line
abbrev pub evaluated : ℕ → List Expression → List typed.Statement
evaluated line es = map (made.Evaluate line) es

-- whether variables are declared
abbrev pub has_declared : List Known → Bool
has_declared [] = false
has_declared (k ∷ ks) = true

abbrev pub joined : List Told → Told
joined [] = nothing_told
joined (t ∷ ts) = then_told t (joined ts)

-- a place where these variables are in force
abbrev pub in_force : Context → List Known → Context
in_force c ks = record c { locals = ks }
