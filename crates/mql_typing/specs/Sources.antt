-- Typing of a source (MQL5 Reference, Language Basics).
use Rattle.std.specs.Prelude.{ℕ, List, [], Result}
use Rattle.mql_meaning.specs.declared.tree.Checked.{Checked}
use Rattle.mql_syntax.specs.declared.declaration.Item.{Item}
use Rattle.mql_names.specs.declared.fault.Broken.{Broken}
use Rattle.mql_values.specs.Sources.{Tokens, given_of}
use Rattle.mql_program.specs.Programs.{Given, program_of}
use Rattle.mql_check.specs.Programs.{check_items, unmet_in}

-- the typed program of items that were made of these tokens in these files, or the broken rule that is told
abbrev pub typed_by : Given → List Item → Result Checked Broken
typed_by g items = check_items g (program_of g items) items

abbrev pub typed : List Item → Tokens → List (List ℕ) → Result Checked Broken
typed items tokens files = typed_by (given_of items tokens files) items

-- functions that are used, as calls choose among those of a name, and have no body. Lines and files of nodes are no
-- matter of it
abbrev pub breaks_used : List Item → List Broken
breaks_used items = unmet_in (program_of (given_of items [] []) items) items
