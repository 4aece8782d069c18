-- What the walk over statements holds at a place: what a statement has before its parts, and what lists of parts
-- are told.
use Rattle.std.specs.Prelude.{ℕ, ◌+◌, Bool, true, false, List, [], ◌∷◌, ◌++◌, length}
use Rattle.mql_syntax.specs.declared.kind.StatementKind.{StatementKind}
use Rattle.mql_syntax.specs.declared.value.Value.{Value}
use Rattle.mql_syntax.specs.declared.declaration.Variable.{Variable}
use Rattle.mql_syntax.specs.declared.statement.Statement.{Statement}
use Rattle.mql_scope.specs.declared.context.Known.{Known}
use Rattle.mql_scope.specs.Contexts.{Context}
use Rattle.mql_expressions.specs.declared.findings.Found.{Found}
use Rattle.mql_expressions.specs.Values.{found_all, founds_of}
use Rattle.mql_statements.specs.declared.told.Told.{Told}
use Rattle.mql_statement_walk.specs.declared.walk.Head.{Head}
use Rattle.mql_statements.specs.Told.{nothing_told, behind_told}
use Rattle.mql_statement_walk.specs.Walk.{all_kept, behind_values, in_loop, inner_context, Parts, with_parts, for_with, told}
use Rattle.mql_starts.specs.Declarations.{declares_all}
use Rattle.mql_typed_statements.specs.Statements.{shares, place_of, own_scope}

-- a part, and parts one after another
abbrev pub told_part : Context → Bool → Statement → Told
told_part c true s = told c s
told_part c false s = own_scope (c.program.line (place_of s)) c.next (told c s)

abbrev pub told_list : Context → Bool → List Statement → List Told
told_list c shared [] = []
told_list c shared (s ∷ ss) = let t = told_part c shared s in t ∷ told_list (behind_told t c) shared ss

abbrev pub behind_all : Context → List Told → Context
behind_all c [] = c
behind_all c (t ∷ ts) = behind_all (behind_told t c) ts

abbrev pub declared_in : List Told → List Known
declared_in [] = []
declared_in (t ∷ ts) = t.declared ++ declared_in ts

-- what a statement has whose parts are a list
abbrev pub parts_of : Context → StatementKind → List Variable → List Value → List Statement → Parts
parts_of c what locals vs ss =
    let own = declares_all c locals in
    let fs = found_all (behind_told own c) vs in
    with_parts own fs (told_list (inner_context what (behind_values fs (behind_told own c))) (shares what) ss)

abbrev pub for_parts_of : Context → List Value → List Statement → Parts
for_parts_of c vs [] = with_parts nothing_told [] []
for_parts_of c vs (s ∷ ss) =
    let begin = told c s in
    let fs = found_all (behind_told begin c) vs in
    for_with begin fs (told_list (in_loop (behind_values fs (behind_told begin c))) false ss)

-- what comes before the parts of a statement: its variables, or what a `for` begins with, and its values
abbrev pub head_of : Told → List Found → Head
head_of t fs = record { variables = t; values = founds_of fs; kept = t.kept ++ all_kept fs }

-- behind numbers of locals and of static variables, with the same variables in force
abbrev pub after : ℕ → ℕ → Context → Context
after taken more c = record c { next = c.next + taken; statics = c.statics + more }
