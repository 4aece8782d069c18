-- The tables of a program as the code holds them. (No definition for readers: what they show.)
use Rattle.mql_names.specs.Maps.{meaning}
use Rattle.mql_scope.specs.Contexts.{Program}
use Rattle.mql_program.specs.declared.types.Types.{Types}
use Rattle.mql_program.specs.declared.tables.Tables.{Tables}
use Rattle.mql_program.specs.Lists.{all_lent}
use Rattle.mql_program.specs.Programs.{Given, program_of_types, with_known}

-- the program whose types are known, where it is said what its source gives
abbrev pub types_in : {S : Type 0} → (S → Given) → Types S → Program
types_in given t = program_of_types (given t.source.now) (meaning t.names.now) t.structures t.enumerations

-- the program
abbrev pub program_in : {S : Type 0} → (S → Given) → Tables S → Program
program_in given t =
    with_known (given t.types.source.now) (types_in given t.types) t.globals t.signatures
    (all_lent t.announced) (all_lent t.functions)
