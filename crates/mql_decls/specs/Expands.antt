-- What `expand` answers.
use Rattle.std.specs.Prelude.{◌≡◌, ⊤, ℕ, List, [], flat_map, Option, Some, None, Result, Ok, Err}
use Rattle.mql_syntax.specs.declared.declaration.Syntax.{Syntax}
use Rattle.mql_names.specs.Scopes.{Name}
use Rattle.mql_names.specs.Maps.{meaning}
use Rattle.mql_names.specs.Meanings.{names_of}
use Rattle.mql_sizes.specs.Maps.{value_at}
use Rattle.mql_sizes.specs.Members.{Values, enumerations_of, all_members, value_among}
use Rattle.mql_decls.specs.declared.fault.Refusal.{Refusal}
use Rattle.mql_decls.specs.declared.fault.DeclFault.{DeclFault}
use Rattle.mql_decls.specs.declared.fault.DeclFault.TheVariants as fault
use Rattle.mql_decls.specs.declared.expanding.Decls.{Decls}
use Rattle.mql_decls.specs.Rules.{refused}
use Rattle.mql_decls.specs.Declarations.{numbered, item_functions, item_globals, item_statics, item_structures}

-- the values of members in a program
abbrev pub values_of : Syntax → Values
values_of s = value_among (all_members (enumerations_of (names_of s.items) [] s.items))

-- exactly these declarations
pub record Declares (d : Decls) (s : Syntax) : Type 0 where
  pub names : (x : Name) → meaning d.names x ≡ names_of s.items x
  pub values : (x : Name) → value_at d.values x ≡ values_of s x
  pub enumerations : d.enumerations ≡ enumerations_of (names_of s.items) [] s.items
  pub structures : d.structures ≡ flat_map (item_structures (names_of s.items) (values_of s)) s.items
  pub functions : d.functions ≡ numbered (item_functions (names_of s.items) (values_of s)) 0 s.items
  pub globals : d.globals ≡ numbered (item_globals (names_of s.items) (values_of s)) 0 s.items
  pub statics : d.statics ≡ numbered (item_statics (names_of s.items) (values_of s)) 0 s.items

abbrev pub Answered : Result Decls Refusal → Syntax → Type 0
Answered (Ok d) s = (refused s ≡ None) × Declares d s
Answered (Err r) s = refused s ≡ Some r

-- the declarations where the program is not refused, else the refusal; or there was no memory
abbrev pub Expands : Result Decls DeclFault → Syntax → Type 0
Expands (Ok d) s = (refused s ≡ None) × Declares d s
Expands (Err (fault.Refused r)) s = refused s ≡ Some r
Expands (Err fault.OutOfMemory) s = ⊤
