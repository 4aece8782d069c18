-- A whole program: what it is typed, and the rule that is told (own). So far for programs without classes,
-- interfaces, templates and methods.
use Rattle.std.specs.Prelude.{ℕ, ◌+◌, Bool, false, ◌||◌, ◌==◌, List, [], ◌∷◌, ◌++◌, length, flat_map, Option, Some, None, is_some, Result, Ok, Err}
use Rattle.mql_meaning.specs.declared.tree.Checked.{Checked}
use Rattle.mql_syntax.specs.declared.declaration.Function.{Function}
use Rattle.mql_syntax.specs.declared.declaration.Item.{Item}
use Rattle.mql_syntax.specs.declared.declaration.Syntax.{Syntax}
use Rattle.mql_names.specs.declared.fault.Broken.{Broken}
use Rattle.mql_names.specs.Faults.{told, break_if}
use Rattle.mql_names.specs.Events.{event_of}
use Rattle.mql_scope.specs.Contexts.{Program}
use Rattle.mql_program.specs.Programs.{Given, variables_in, defined_functions, bodiless_functions, program_of}
use Rattle.mql_check.specs.declared.walk.Walked.{Walked}
use Rattle.mql_check.specs.Variables.{together}
use Rattle.mql_check.specs.Globals.{globals_begin}
use Rattle.mql_check.specs.Functions.{bodies}
use Rattle.mql_check.specs.Items.{item_broken, item_used}
use Rattle.mql_check.specs.Made.{checked}

-- what the global variables begin with, and the functions that have a body; static variables are numbered
-- behind the global ones
abbrev pub walked : Program → List Item → Walked
walked p items =
    record {
      globals = globals_begin p 0 0 (flat_map variables_in items);
      functions = bodies p (length (flat_map variables_in items)) (defined_functions items);
    }

-- all broken rules that may be told: those of nodes that break one while none below them does
abbrev pub all_broken : Program → List Item → Walked → List Broken
all_broken p items w =
    flat_map (item_broken p) items ++ (together w.globals.broken ++ w.functions.broken)

-- the broken rule that is told, if there is any: of these that of the first node in the order of tokens,
-- and the lowest that it breaks
abbrev pub told_of : Program → List Item → Walked → Option Broken
told_of p items w = told (all_broken p items w)

abbrev pub judged : Option Broken → Checked → Result Checked Broken
judged None x = Ok x
judged (Some e) x = Err e

abbrev pub judged_of : Given → Program → List Item → Walked → Result Checked Broken
judged_of g p items w =
    judged (told_of p items w) (checked g p (flat_map variables_in items) w.globals w.functions)

-- the typed program of these items, or the broken rule that is told
abbrev pub check_items : Given → Program → List Item → Result Checked Broken
check_items g p items = judged_of g p items (walked p items)

unfoldable pub check : Given → Syntax → Result Checked Broken
check g s = check_items g (program_of g s.items) s.items

abbrev pub told_broken : Given → List Item → Option Broken
told_broken g items = told_of (program_of g items) items (walked (program_of g items) items)

-- the functions that are used: those that calls choose, wherever they stand
abbrev pub used_of : Program → List Item → Walked → List ℕ
used_of p items w = flat_map (item_used p) items ++ (w.globals.used ++ w.functions.used)

abbrev pub all_used : Program → List Item → List ℕ
all_used p items = used_of p items (walked p items)

-- 9 of declarations: a function that is used, by a call or by the tester, has no body
abbrev pub is_number_in : ℕ → List ℕ → Bool
is_number_in n [] = false
is_number_in n (m ∷ ms) = n == m || is_number_in n ms

abbrev pub is_used : List ℕ → ℕ → Function → Bool
is_used used n f = is_number_in n used || is_some (event_of f)

abbrev pub unmet_from : List ℕ → ℕ → List Function → List Broken
unmet_from used n [] = []
unmet_from used n (f ∷ fs) = break_if (is_used used n f) 9 f.place ++ unmet_from used (n + 1) fs

-- functions without a body are numbered behind those that have one
abbrev pub unmet_in : Program → List Item → List Broken
unmet_in p items =
    unmet_from (all_used p items) (length (defined_functions items)) (bodiless_functions p.names items)

-- what breaks the rule on bodies, by the calls that a program makes
unfoldable pub breaks_bodies : Given → Syntax → List Broken
breaks_bodies g s = unmet_in (program_of g s.items) s.items
