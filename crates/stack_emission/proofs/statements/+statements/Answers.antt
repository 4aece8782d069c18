use Rattle.std.proofs.Common.{rules, sym, refl, ap, ◌∙◌, ◌++◌, [], ◌∷◌, length, take, true, arith}
use Rattle.std.proofs.lemmas.List.{take_more, take_all, length-take-le}
use Rattle.stack_emission.specs.Draft.{stuck_if}
use Rattle.stack_emission.specs.Statements.{leads, statements}
use Rattle.stack_emission.proofs.Emits.{on_ok, other_waits, out_waits as choice_out_waits}
use Rattle.stack_emission.proofs.StatementEmits.{more_statements, tested, branches_emits, if_emits, loop_emits, top_waits, inner_waits, next_waits, out_waits, loop_written}
use Rattle.stack_emission.proofs.StatementRows.{statements_stay}
use Rattle.stack_emission.proofs.SwitchEmits.{case_waits, case_written, others_wait, all_written, body_waits, switch_out_waits, switch_written, switch_emits}
use Rattle.stack_emission.proofs.statements.+statements.Goals as goal

pub statements-loop-s-preserved : goal.statements-loop-s-preserved
statements-loop-s-preserved t c =
    let e = take_more c.args.body.now c.loop-s.s-index c.s-item.result c.loop-s-test.true ∙ ap (λ x. take c.loop-s.s-index c.args.body.now ++ x ∷ []) (sym c.s-item.is) in
    rw e (more_statements _ _ _ c.s-item.result _ c.loop-s.draft _ c.loop-s.invariant c.in_ok-statement.ensures)

pub statement-set_label-requires : goal.statement-set_label-requires
statement-set_label-requires t c = (other_waits _ _ (stuck_if true) c.in_ok-other-in-If.other c.in_ok-out-in-If.out _ _ _ _ _ _ _ c.in_ok-other-in-If.ensures c.in_ok-out-in-If.ensures (tested c.in-If.line c.in-If.e _ _ _ c.in_ok-line_at-in-If.ensures c.in_ok-operand-in-If.ensures) c.in_ok-put-in-If.ensures c.in_ok-statements-in-If.ensures c.in_ok-put-in-If-2.ensures).is

pub statement-set_label-requires-in-If : goal.statement-set_label-requires-in-If
statement-set_label-requires-in-If t c = (choice_out_waits _ _ _ c.in_ok-other-in-If.other c.in_ok-out-in-If.out _ _ _ _ _ _ _ c.in_ok-other-in-If.ensures c.in_ok-out-in-If.ensures (tested c.in-If.line c.in-If.e _ _ _ c.in_ok-line_at-in-If.ensures c.in_ok-operand-in-If.ensures) c.in_ok-put-in-If.ensures c.in_ok-statements-in-If.ensures c.in_ok-put-in-If-2.ensures _ _ c.in_ok-set_label-in-If.ensures c.in_ok-statements-in-If-2.ensures).is

pub statement-returns-in_ok-statements-in-If-2 : goal.statement-returns-in_ok-statements-in-If-2
statement-returns-in_ok-statements-in-If-2 t c =
    rw c.in-If.is (if_emits _ c.args.gives c.in-If.line c.args.exits _ _ c.in-If.e c.in-If.held c.in-If.failed
    (branches_emits _ c.in-If.line c.in-If.e c.args.gives c.in-If.held c.in-If.failed _ c.in_ok-other-in-If.other c.in_ok-out-in-If.out _ _ _ _ _ _ _ _ _ _ _ c.in_ok-other-in-If.ensures c.in_ok-out-in-If.ensures c.in_ok-line_at-in-If.ensures c.in_ok-operand-in-If.ensures c.in_ok-put-in-If.ensures (rw c.as_slice-in-If.ensures at c.in_ok-statements-in-If.ensures) c.in_ok-put-in-If-2.ensures c.in_ok-set_label-in-If.ensures (rw c.as_slice-in-If-2.ensures at c.in_ok-statements-in-If-2.ensures) c.set_label-in-If.ensures))

pub looped-set_label-requires : goal.looped-set_label-requires
looped-set_label-requires t c = (top_waits c.args.line c.args.first c.args.e.now c.args.step.now (λ exits. stuck_if true) (leads c.args.exits) c.in_ok-top.top c.in_ok-inner.inner c.in_ok-next.next c.in_ok-out.out _ _ _ _ _ _ _ c.in_ok-top.ensures c.in_ok-inner.ensures c.in_ok-next.ensures c.in_ok-out.ensures c.in_ok-line_at.ensures c.in_ok-begun.ensures).is

pub looped-set_label-requires-2 : goal.looped-set_label-requires-2
looped-set_label-requires-2 t c = (inner_waits c.args.line c.args.first c.args.e.now c.args.step.now (λ exits. stuck_if true) (leads c.args.exits) c.in_ok-top.top c.in_ok-inner.inner c.in_ok-next.next c.in_ok-out.out _ _ _ _ _ _ _ c.in_ok-top.ensures c.in_ok-inner.ensures c.in_ok-next.ensures c.in_ok-out.ensures c.in_ok-line_at.ensures c.in_ok-begun.ensures _ _ _ _ c.in_ok-set_label.ensures c.in_ok-put.ensures c.in_ok-operand.ensures c.in_ok-put-2.ensures).is

pub looped-set_label-requires-3 : goal.looped-set_label-requires-3
looped-set_label-requires-3 t c = (next_waits c.args.line c.args.first c.args.e.now c.args.step.now (statements c.args.gives c.args.body.now) (leads c.args.exits) c.in_ok-top.top c.in_ok-inner.inner c.in_ok-next.next c.in_ok-out.out _ _ _ _ _ _ _ c.in_ok-top.ensures c.in_ok-inner.ensures c.in_ok-next.ensures c.in_ok-out.ensures c.in_ok-line_at.ensures c.in_ok-begun.ensures _ _ _ _ c.in_ok-set_label.ensures c.in_ok-put.ensures c.in_ok-operand.ensures c.in_ok-put-2.ensures _ _ c.in_ok-set_label-2.ensures (rw c.inside.ensures at c.in_ok-statements.ensures)).is

pub looped-set_label-requires-4 : goal.looped-set_label-requires-4
looped-set_label-requires-4 t c = (out_waits c.args.line c.args.first c.args.e.now c.args.step.now (statements c.args.gives c.args.body.now) (leads c.args.exits) c.in_ok-top.top c.in_ok-inner.inner c.in_ok-next.next c.in_ok-out.out _ _ _ _ _ _ _ c.in_ok-top.ensures c.in_ok-inner.ensures c.in_ok-next.ensures c.in_ok-out.ensures c.in_ok-line_at.ensures c.in_ok-begun.ensures _ _ _ _ c.in_ok-set_label.ensures c.in_ok-put.ensures c.in_ok-operand.ensures c.in_ok-put-2.ensures _ _ c.in_ok-set_label-2.ensures (rw c.inside.ensures at c.in_ok-statements.ensures) _ _ _ _ c.in_ok-set_label-3.ensures c.in_ok-line_at-2.ensures c.in_ok-all_let_go.ensures c.in_ok-put-3.ensures).is

pub looped-returns : goal.looped-returns
looped-returns t c =
    on_ok _ (loop_written c.args.line c.args.first c.args.e.now c.args.step.now (statements c.args.gives c.args.body.now) (leads c.args.exits) c.in_ok-top.top c.in_ok-inner.inner c.in_ok-next.next c.in_ok-out.out _ _ _ _ _ _ _ c.in_ok-top.ensures c.in_ok-inner.ensures c.in_ok-next.ensures c.in_ok-out.ensures c.in_ok-line_at.ensures c.in_ok-begun.ensures _ _ _ _ c.in_ok-set_label.ensures c.in_ok-put.ensures c.in_ok-operand.ensures c.in_ok-put-2.ensures _ _ c.in_ok-set_label-2.ensures (rw c.inside.ensures at c.in_ok-statements.ensures) _ _ _ _ c.in_ok-set_label-3.ensures c.in_ok-line_at-2.ensures c.in_ok-all_let_go.ensures c.in_ok-put-3.ensures _ (statements_stay c.args.gives c.args.body.now _)) c.set_label-4.ensures

pub statement-returns-in-Loop : goal.statement-returns-in-Loop
statement-returns-in-Loop t c = rw c.in-Loop.is (loop_emits _ c.args.gives c.in-Loop.line c.args.exits _ _ c.in-Loop.first c.in-Loop.e c.in-Loop.step c.in-Loop.body (rw (c.as_slice-in-Loop.ensures, c.as_slice-in-Loop-2.ensures) at c.looped.ensures))

pub cases-set_label-requires : goal.cases-set_label-requires
cases-set_label-requires t c =
    let body = c.args.body.now in
    let i = c.loop-i.i in
    let inv = c.loop-i.invariant in
    (case_waits c.args.gives (leads c.args.exits) c.args.first (length body) c.in_ok-label.label i (take i body) _ c.loop-i.draft (length-take-le i body inv.within) c.in_ok-label.ensures inv.written inv.waits inv.within).is

pub cases-loop-i-preserved : goal.cases-loop-i-preserved
cases-loop-i-preserved t c =
    let body = c.args.body.now in
    let i = c.loop-i.i in
    let inv = c.loop-i.invariant in
    let s = c.index-body-i.result in
    let lt = c.loop-i-test.true in
    let long = length-take-le i body inv.within in
    let e = take_more body i s lt ∙ ap (λ x. take i body ++ x ∷ []) (sym c.index-body-i.is) in
    record {
      written = rw e (case_written c.args.gives (leads c.args.exits) c.args.first (length body) c.in_ok-label.label i (take i body) _ c.loop-i.draft long c.in_ok-label.ensures inv.written inv.waits lt s _ _ c.in_ok-set_label.ensures c.in_ok-statement.ensures);
      waits = others_wait c.args.gives (leads c.args.exits) c.args.first (length body) c.in_ok-label.label i (take i body) _ c.loop-i.draft long c.in_ok-label.ensures inv.written inv.waits s _ _ c.in_ok-set_label.ensures c.in_ok-statement.ensures;
      within = omega (arith, lt);
    }

pub cases-set_label-requires-2 : goal.cases-set_label-requires-2
cases-set_label-requires-2 t c =
    let body = c.args.body.now in
    let i = c.loop-i.i in
    let inv = c.loop-i.invariant in
    let past = c.loop-i-test.false in
    let within = inv.within in
    let long = length-take-le i body within in
    let at = c.in_ok-last.ensures in
    (case_waits c.args.gives (leads c.args.exits) c.args.first (length body) c.in_ok-last.last i (take i body) _ c.loop-i.draft long (omega (arith, past, within, at)) inv.written inv.waits within).is

pub cases-returns : goal.cases-returns
cases-returns t c =
    let body = c.args.body.now in
    let i = c.loop-i.i in
    let inv = c.loop-i.invariant in
    let past = c.loop-i-test.false in
    let within = inv.within in
    let long = length-take-le i body within in
    let at = c.in_ok-last.ensures in
    on_ok _ (all_written c.args.gives (leads c.args.exits) c.args.first (length body) c.in_ok-last.last i (take i body) _ c.loop-i.draft long (omega (arith, past, within, at)) inv.written inv.waits body _ (take_all i body past) refl (omega (arith, past, within))) c.set_label-2.ensures

pub switched-cases-requires : goal.switched-cases-requires
switched-cases-requires t c = (search rules, body_waits c.args.line c.args.e.now c.args.labels.now c.args.places.now c.args.other c.args.gives c.args.body.now (leads c.args.exits) c.in_ok-out.out c.in_ok-first.first _ _ _ _ _ _ c.in_ok-out.ensures c.in_ok-first.ensures c.in_ok-line_at.ensures c.in_ok-operand.ensures (rw c.in_ok-default.ensures at c.in_ok-tests.ensures))

pub switched-set_label-requires : goal.switched-set_label-requires
switched-set_label-requires t c = (switch_out_waits c.args.line c.args.e.now c.args.labels.now c.args.places.now c.args.other c.args.gives c.args.body.now (leads c.args.exits) c.in_ok-out.out c.in_ok-first.first _ _ _ _ _ _ c.in_ok-out.ensures c.in_ok-first.ensures c.in_ok-line_at.ensures c.in_ok-operand.ensures (rw c.in_ok-default.ensures at c.in_ok-tests.ensures) _ (rw c.breaking.ensures at c.in_ok-cases.ensures)).is

pub switched-returns : goal.switched-returns
switched-returns t c = on_ok _ (switch_written c.args.line c.args.e.now c.args.labels.now c.args.places.now c.args.other c.args.gives c.args.body.now (leads c.args.exits) c.in_ok-out.out c.in_ok-first.first _ _ _ _ _ _ c.in_ok-out.ensures c.in_ok-first.ensures c.in_ok-line_at.ensures c.in_ok-operand.ensures (rw c.in_ok-default.ensures at c.in_ok-tests.ensures) _ (rw c.breaking.ensures at c.in_ok-cases.ensures) _) c.set_label.ensures

pub statement-returns-in-Switch : goal.statement-returns-in-Switch
statement-returns-in-Switch t c = rw c.in-Switch.is (switch_emits _ c.args.gives c.in-Switch.line c.args.exits _ _ c.in-Switch.e c.in-Switch.labels c.in-Switch.places c.in-Switch.other c.in-Switch.body (rw (c.as_slice-in-Switch.ensures, c.as_slice-in-Switch-2.ensures, c.as_slice-in-Switch-3.ensures) at c.switched.ensures))
