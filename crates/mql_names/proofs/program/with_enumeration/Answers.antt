use Rattle.mql_names.proofs.MeantMore.{enumeration_held}
use Rattle.mql_names.proofs.program.with_enumeration.Goals as goal

pub returns : goal.returns
returns c =
    enumeration_held c.args.names c.in_ok-names.names c.args.e.now c.with_enumerators.result
    (rw c.as_slice.ensures at c.in_ok-names.ensures) (rw c.as_slice-2.ensures at c.with_enumerators.ensures)
