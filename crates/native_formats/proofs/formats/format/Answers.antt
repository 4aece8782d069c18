use Rattle.std.proofs.Common.{◌∙◌, sym}
use Rattle.native_formats.specs.Pieces.{part_of}
use Rattle.native_formats.proofs.Piecewise.{faulty, one_piece}
use Rattle.native_formats.proofs.formats.format.Goals as goal

pub returns-in-Err : goal.returns-in-Err
returns-in-Err c =
    faulty c.loop-i.out c.loop-i.rest.now c.args.text.now c.loop-i.left.now c.loop-i.i (part_of c.in-Some.step)
    c.in-Err.fault _ c.loop-i-test.true c.in-Some.ensures (sym c.in-Err.is ∙ c.in_ok-written.ensures)
    c.loop-i.invariant

pub loop-i-preserved : goal.loop-i-preserved
loop-i-preserved c =
    one_piece c.loop-i.out c.append.new.self c.loop-i.rest.now c.in-Ok.written c.args.text.now c.loop-i.left.now
    c.loop-i.i (part_of c.in-Some.step) _ c.loop-i-test.true c.in-Some.ensures
    (sym c.in-Ok.is ∙ c.in_ok-written.ensures) c.in_ok-append-in-Ok.ensures.ok c.loop-i.invariant
