-- What the lowering promises.
use Rattle.std.specs.Prelude.{◌≡◌, true, false, Result, Ok, Err}
use Rattle.mql_meaning.specs.declared.tree.Checked.{Checked}
use Rattle.stack_code.specs.declared.code.Code.{Code}
use Rattle.stack_code.specs.Paced.{Paced}
use Rattle.stack_follows.specs.Stands.{Stands}
use Rattle.stack_emission.specs.declared.program.LowerFault.{LowerFault}
use Rattle.stack_emission.specs.declared.program.LowerFault.TheVariants as fault
use Rattle.stack_emission.specs.HasCode.{has_code}

-- code that stands for a program and spends steps, where the program has code
abbrev pub BuiltWhereItHasCode : Checked → Code → Type 0
BuiltWhereItHasCode p code = has_code p ≡ true → Stands p code × Paced code

-- a program that has code gets code that stands for it and spends steps, and one that has none is refused as
-- not built; memory may be wanting for both
abbrev pub Lowers : Checked → Result Code LowerFault → Type 0
Lowers p (Ok code) = (has_code p ≡ true) × Stands p code × Paced code
Lowers p (Err fault.NotBuilt) = has_code p ≡ false
Lowers p (Err fault.OutOfMemory) = Unit {0}
