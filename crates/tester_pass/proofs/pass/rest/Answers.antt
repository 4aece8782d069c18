use Rattle.std.proofs.Common.{sym, ◌∙◌, subst}
use Rattle.std.proofs.lemmas.Result.{IfOk-weaker}
use Rattle.tester_pass.specs.Laws.{InTime}
use Rattle.tester_pass.specs.Pass.{of_code}
use Rattle.tester_pass.specs.Runs.{stage}
use Rattle.tester_pass.proofs.Loops.{removed_now, goes_on}
use Rattle.tester_pass.proofs.Times.{works_timed}
use Rattle.tester_pass.proofs.pass.rest.Goals as goal

pub returns-in-Some-2-clause-times : goal.returns-in-Some-2-clause-times
returns-in-Some-2-clause-times c = λ h.
    subst InTime (sym c.ends_here.ensures)
    (works_timed (of_code c.args.code.now) c.in-Some.quote c.in-Some.ensures.ranges (stage c.loop-quote.run)
    c.in_ok-end.field-0 (stage c.works.new.run) c.in_ok-end.ensures (c.loop-quote.invariant.times h)).1

pub returns-then-removal_asked-clause-passes : goal.returns-then-removal_asked-clause-passes
returns-then-removal_asked-clause-passes c =
    IfOk-weaker c.completes.result _ _
    (λ r last. c.loop-quote.invariant.passes r
    (removed_now (of_code c.args.code.now) c.loop-quote.left c.next.new.self c.in-Some.quote
    (stage c.loop-quote.run) (stage c.works.new.run) c.in_ok-end.field-0 r c.in-Some.ensures.next
    c.in_ok-end.ensures c.in_default-2.is (sym c.removal_asked.ensures ∙ c.if-removal_asked.true) last))
    c.completes.ensures.passes

pub returns-then-removal_asked-clause-times : goal.returns-then-removal_asked-clause-times
returns-then-removal_asked-clause-times c =
    IfOk-weaker c.completes.result _ _
    (λ r timed h. timed
    (works_timed (of_code c.args.code.now) c.in-Some.quote c.in-Some.ensures.ranges (stage c.loop-quote.run)
    c.in_ok-end.field-0 (stage c.works.new.run) c.in_ok-end.ensures (c.loop-quote.invariant.times h)))
    c.completes.ensures.times

pub loop-quote-preserved : goal.loop-quote-preserved
loop-quote-preserved c = record {
  passes = λ r rest.
      c.loop-quote.invariant.passes r
      (goes_on (of_code c.args.code.now) c.loop-quote.left c.next.new.self c.in-Some.quote
      (stage c.loop-quote.run) (stage c.works.new.run) c.in_ok-end.field-0 r c.in-Some.ensures.next
      c.in_ok-end.ensures c.in_default-2.is (sym c.removal_asked.ensures ∙ c.if-removal_asked.false) rest);
  times = λ h.
      works_timed (of_code c.args.code.now) c.in-Some.quote c.in-Some.ensures.ranges (stage c.loop-quote.run)
      c.in_ok-end.field-0 (stage c.works.new.run) c.in_ok-end.ensures (c.loop-quote.invariant.times h);
}
