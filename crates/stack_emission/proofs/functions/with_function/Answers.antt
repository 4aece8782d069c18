use Rattle.stack_emission.proofs.FunctionEmits.{function_added}
use Rattle.stack_emission.proofs.functions.with_function.Goals as goal

pub returns : goal.returns
returns c =
    function_added c.args.f.now c.args.written _ c.whole_body.new.draft c.in_ok-code.code _ c.is_some.ensures
    (rw (c.new.ensures, c.new-2.ensures, c.as_slice.ensures) at c.in_ok-whole_body.ensures)
    (rw c.as_slice-2.ensures at c.in_ok-few.ensures)
    (rw c.as_slice-3.ensures at c.in_ok-code.ensures)
    c.in_ok-push.ensures.ok
