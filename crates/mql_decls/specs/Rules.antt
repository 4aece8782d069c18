-- Which fault of its declarations a program has: first that it is not of the form of plain programs, then the
-- broken rule of the first node in the order of tokens, and at it the lowest rule.
use Rattle.std.specs.Prelude.{List, ◌++◌, flat_map, Option, Some, None}
use Rattle.mql_syntax.specs.declared.declaration.Syntax.{Syntax}
use Rattle.mql_names.specs.declared.fault.Broken.{Broken}
use Rattle.mql_names.specs.Faults.{told}
use Rattle.mql_names.specs.Types.{Names}
use Rattle.mql_names.specs.Meanings.{names_of}
use Rattle.mql_names.specs.Things.{things_of}
use Rattle.mql_names.specs.Rules.{breaks}
use Rattle.mql_plain.specs.Plain.{first_off}
use Rattle.mql_sizes.specs.Sizes.{breaks_in}
use Rattle.mql_typing.specs.Sources.{breaks_used}
use Rattle.mql_nesting.specs.Nesting.{breaks_nesting}
use Rattle.mql_parents.specs.Parents.{breaks_parents}
use Rattle.mql_decls.specs.declared.fault.Refusal.{Refusal}
use Rattle.mql_decls.specs.declared.fault.Refusal.TheVariants as refusal

-- all that breaks a rule, where names mean this: rules 1, 2, 12, 15 and 16, rules 13 and 14, rule 9, rule 10,
-- and rules 3, 4 and 5
abbrev pub all_breaks : Names → Syntax → List Broken
all_breaks names s =
    (flat_map (breaks names) (things_of names s) ++ (breaks_in names s ++ breaks_used s.items))
    ++ (breaks_nesting s ++ breaks_parents names s)

unfoldable pub first_broken : Syntax → Option Broken
first_broken s = told (all_breaks (names_of s.items) s)

-- the refusal of a program, if it is refused
abbrev pub refusal_of : Option Broken → Option Broken → Option Refusal
refusal_of (Some off) b = Some (refusal.NotPlain off)
refusal_of None (Some b) = Some (refusal.Rule b)
refusal_of None None = None

unfoldable pub refused : Syntax → Option Refusal
refused s = refusal_of (first_off s) (first_broken s)
