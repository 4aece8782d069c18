use Rattle.stack_emission.proofs.Whole.{built}
use Rattle.stack_emission.proofs.program.code_of.Goals as goal

pub returns : goal.returns
returns c =
    rw (c.in_ok-classes.ensures, c.as_slice-2.ensures, c.in_ok-globals.ensures, c.as_slice-3.ensures, c.in_ok-inputs.ensures, c.as_slice-4.ensures)
    (built c.args.program.now c.in_ok-written.written (rw c.as_slice.ensures at c.in_ok-written.ensures))
