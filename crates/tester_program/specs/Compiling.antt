-- From the texts of a source to the code of its program. Own, with MQL5 Reference, Language Basics.
use Rattle.std.specs.Prelude.{◌≡◌, ◌⊎◌, ℕ, List, Ok, Err}
use Rattle.mql_preproc.specs.declared.source.Source.{Source}
use Rattle.mql_preproc.specs.declared.fault.PreFault.TheVariants as preprocessing
use Rattle.mql_preproc.specs.Reading.{Preprocesses}
use Rattle.stack_code.specs.declared.code.Code.{Code}
use Rattle.tester_answer.specs.declared.status.Status.{Status}
use Rattle.tester_answer.specs.declared.status.Status.TheVariants as status
use Rattle.tester_sources.specs.Reading.{Tokens, FilesRefused}
use Rattle.tester_program.specs.declared.compiling.CompileFault.{CompileFault}
use Rattle.tester_program.specs.declared.compiling.CompileFault.TheVariants as fault
use Rattle.tester_program.specs.Programs.{IsProgramOf, ProgramRefused}

-- the code of files that begin with the entry
pub record Compiles (entry : List ℕ) (sources : List Source) (code : Code) : Type 0 where
  pub tokens : Tokens
  pub preprocesses : Preprocesses entry sources (Ok tokens)
  pub is_program : IsProgramOf sources tokens code

-- why files do not compile: a file is needed, or the first stage that finds a fault tells it
abbrev pub CompileRefused : List ℕ → List Source → CompileFault → Type 0
CompileRefused entry sources (fault.Need name) = Preprocesses entry sources (Err (preprocessing.Need name))
CompileRefused entry sources (fault.Source given) =
    FilesRefused entry sources (status.Source given)
    ⊎ ((tokens : Tokens) × Preprocesses entry sources (Ok tokens)
    × ProgramRefused entry sources tokens (status.Source given))
CompileRefused entry sources fault.OutOfMemory = Unit {0}

-- the fault of a status that refuses a source
abbrev pub FaultOf : Status → CompileFault → Type 0
FaultOf s (fault.Need name) = ⊥
FaultOf s (fault.Source given) = s ≡ status.Source given
FaultOf s fault.OutOfMemory = Unit {0}
