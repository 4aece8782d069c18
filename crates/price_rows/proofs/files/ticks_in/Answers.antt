use Rattle.std.proofs.Common.{◌∙◌, ap}
use Rattle.csv.specs.Records.{fields_of}
use Rattle.price_rows.specs.Rows.{judged_tick}
use Rattle.price_rows.proofs.RowLaws.{step_good, step_fault, step_end, last_of, ticks_push, count_push}
use Rattle.price_rows.proofs.files.ticks_in.Goals as goal

pub loop-record-preserved : goal.loop-record-preserved
loop-record-preserved c =
    let next = rw c.if-branch.true at c.in_ok-next.ensures.next in
    let before = c.last.ensures.value ∙ ap last_of c.as_slice.ensures in
    let pushed = c.in_ok-push-in-Ok.ensures.ok in
    record {
      left = step_good (judged_tick c.args.width) _ c.loop-record.row c.loop-record.ticks c.push.new.self c.loop-record.records c.next.new.self (fields_of c.next.new.row) _ _
          c.loop-record.invariant.left next before c.in-Ok.ensures.value pushed;
      count = count_push c.loop-record.ticks c.push.new.self _ c.loop-record.row c.loop-record.invariant.count pushed;
      are = ticks_push c.loop-record.ticks c.push.new.self _ _ c.loop-record.row c.loop-record.invariant.are c.loop-record.invariant.count c.in-Ok.ensures.few
          before c.in-Ok.ensures.ranges c.in-Ok.ensures.in_time pushed;
    }

pub returns-in-Err-clause-exact : goal.returns-in-Err-clause-exact
returns-in-Err-clause-exact c =
    let next = rw c.if-branch.true at c.in_ok-next.ensures.next in
    step_fault (judged_tick c.args.width) _ c.loop-record.row c.loop-record.ticks c.loop-record.records c.next.new.self (fields_of c.next.new.row) _ _ c.loop-record.invariant.left next
    (c.last.ensures.value ∙ ap last_of c.as_slice.ensures) c.in-Err.ensures.value

pub returns-clause-exact : goal.returns-clause-exact
returns-clause-exact c =
    let next = rw c.if-branch.false at c.in_ok-next.ensures.next in
    step_end (judged_tick c.args.width) _ c.loop-record.row c.loop-record.ticks c.loop-record.records c.loop-record.invariant.left next
