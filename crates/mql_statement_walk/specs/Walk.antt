-- Typing of statements with all that stands in them: what is in force at each, and what it tells.
use Rattle.std.specs.Prelude.{ℕ, ◌+◌, ℤ, Bool, true, false, List, [], ◌∷◌, ◌++◌, if◌then◌else◌}
use Rattle.mql_meaning.specs.declared.types.VarType.{VarType}
use Rattle.mql_syntax.specs.declared.kind.Place.{Place}
use Rattle.mql_syntax.specs.declared.kind.StatementKind.{StatementKind}
use Rattle.mql_syntax.specs.declared.kind.StatementKind.TheVariants as kind
use Rattle.mql_syntax.specs.declared.value.Value.{Value}
use Rattle.mql_syntax.specs.declared.statement.Statement.{Statement, Node', Row_of-Statement, end_of-Statement, more_of-Statement}
use Rattle.mql_scope.specs.declared.context.Known.{Known}
use Rattle.mql_scope.specs.Contexts.{Context, behind}
use Rattle.mql_expressions.specs.declared.findings.Found.{Found}
use Rattle.mql_expressions.specs.Values.{found_all, infos_in, broken_in, used_in, kept_by}
use Rattle.mql_statements.specs.declared.told.Told.{Told}
use Rattle.mql_statements.specs.Told.{nothing_told, then_told, behind_told, behind_scope}
use Rattle.mql_starts.specs.Declarations.{declares_all}
use Rattle.mql_typed_statements.specs.Statements.{shares, own_scope, place_of, told_by}

-- where a loop's body or a `switch`'s stands
abbrev pub in_loop : Context → Context
in_loop c = record c { breaks = true; continues = true }

abbrev pub in_switch : Context → Context
in_switch c = record c { breaks = true }

abbrev pub inner_context : StatementKind → Context → Context
inner_context kind.While c = in_loop c
inner_context kind.Do c = in_loop c
inner_context (kind.For tested) c = in_loop c
inner_context kind.Switch c = in_switch c
inner_context _ c = c

-- the locals that expressions take
abbrev pub all_kept : List Found → List VarType
all_kept [] = []
all_kept (f ∷ fs) = kept_by f.info ++ all_kept fs

-- what a statement has: its declared variables, what its values tell, and what its parts are
pub record Parts : Type 0 where
  pub variables : Told
  pub values : List Found
  pub parts : List Told
  pub kept : List VarType

abbrev pub kept_in : List Told → List VarType
kept_in [] = []
kept_in (t ∷ ts) = t.kept ++ kept_in ts

abbrev pub told_of : Context → Place → StatementKind → List Value → Parts → Told
told_of c place what vs x =
    told_by c place what vs x.variables (infos_in x.values) (broken_in x.values) (used_in x.values) x.parts x.kept

abbrev pub is_for : StatementKind → Bool
is_for (kind.For tested) = true
is_for _ = false

-- behind variables and values
abbrev pub behind_values : List Found → Context → Context
behind_values fs c = behind (all_kept fs) [] 0 c

abbrev pub with_parts : Told → List Found → List Told → Parts
with_parts own fs ts =
    record { variables = own; values = fs; parts = ts; kept = own.kept ++ (all_kept fs ++ kept_in ts) }

-- what a `for` begins with comes before its values
abbrev pub for_with : Told → List Found → List Told → Parts
for_with begin fs ts =
    record {
      variables = nothing_told;
      values = fs;
      parts = begin ∷ ts;
      kept = begin.kept ++ (all_kept fs ++ kept_in ts);
    }

abbrev mutual
  pub told : Context → Statement → Told
  told c (Node' place what locals values m row) =
      let own = declares_all c locals in
      let fs = found_all (behind_told own c) values in
      let after = behind_values fs (behind_told own c) in
      told_of c place what values
      (if is_for what then for_parts c values row
      else with_parts own fs (told_row (inner_context what after) (shares what) row))

  pub for_parts : Context → List Value → {m : _} → Row_of-Statement m → Parts
  for_parts c vs end_of-Statement = with_parts nothing_told [] []
  for_parts c vs (more_of-Statement s ss) =
      let begin = told c s in
      let fs = found_all (behind_told begin c) vs in
      for_with begin fs (told_row (in_loop (behind_values fs (behind_told begin c))) false ss)

  -- statements that share a scope, and statements that are each one
  pub told_row : Context → Bool → {m : _} → Row_of-Statement m → List Told
  told_row c shared end_of-Statement = []
  told_row c true (more_of-Statement s ss) = let t = told c s in t ∷ told_row (behind_told t c) true ss
  told_row c false (more_of-Statement s ss) =
      let t = own_scope (c.program.line (place_of s)) c.next (told c s) in
      t ∷ told_row (behind_scope t c) false ss

-- statements one after another in a scope
abbrev pub told_all : Context → List Statement → Told
told_all c [] = nothing_told
told_all c (s ∷ ss) = let t = told c s in then_told t (told_all (behind_told t c) ss)
