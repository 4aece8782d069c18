use Rattle.std.proofs.Common.{sym, ap, ◌∙◌, ◌++◌, [], ◌∷◌, take, true, arith}
use Rattle.std.proofs.lemmas.List.{take_more}
use Rattle.stack_emission.proofs.Rows.{is_empty, begins}
use Rattle.stack_emission.specs.Draft.{stuck_if}
use Rattle.stack_emission.proofs.Emits.{no_first, first_emits, no_second, second_emits, no_third, third_emits, no_choice, choice_emits, other_waits, out_waits, more_parts, more_goes, out_still, all_named}
use Rattle.stack_emission.proofs.expressions.+expressions.Goals as goal

pub first-returns-in-empty : goal.first-returns-in-empty
first-returns-in-empty t c = no_first _ c.args.parts.now _ _ (is_empty c.args.parts.now (omega arith)) c.stuck_if.ensures

pub first-returns-in-len1-up : goal.first-returns-in-len1-up
first-returns-in-len1-up t c = first_emits _ c.args.parts.now _ c.e-item.result _ _ (begins c.args.parts.now c.e-item.result _ (omega arith) c.e-item.is) c.operand.ensures

pub second-returns-in_default : goal.second-returns-in_default
second-returns-in_default t c = no_second _ c.args.parts.now _ _ (omega arith) c.stuck_if.ensures

pub second-returns-in-len2-up : goal.second-returns-in-len2-up
second-returns-in-len2-up t c = second_emits _ c.args.parts.now c.e-item.result _ _ _ (omega arith) c.e-item.is c.operand.ensures

pub third-returns-in_default : goal.third-returns-in_default
third-returns-in_default t c = no_third _ c.args.parts.now _ _ (omega arith) c.stuck_if.ensures

pub third-returns-in-len3-up : goal.third-returns-in-len3-up
third-returns-in-len3-up t c = third_emits _ c.args.parts.now c.e-item.result _ _ _ (omega arith) c.e-item.is c.operand.ensures

pub operands-loop-e-preserved : goal.operands-loop-e-preserved
operands-loop-e-preserved t c =
    let e = take_more c.args.parts.now c.loop-e.e-index c.e-item.result c.loop-e-test.true ∙ ap (λ x. take c.loop-e.e-index c.args.parts.now ++ x ∷ []) (sym c.e-item.is) in
    rw e (more_parts _ c.e-item.result _ c.loop-e.draft _ c.loop-e.invariant c.in_ok-operand.ensures)

pub all_let_go-loop-e-preserved : goal.all_let_go-loop-e-preserved
all_let_go-loop-e-preserved t c =
    let e = take_more c.args.parts.now c.loop-e.e-index c.e-item.result c.loop-e-test.true ∙ ap (λ x. take c.loop-e.e-index c.args.parts.now ++ x ∷ []) (sym c.e-item.is) in
    rw e (more_goes _ c.e-item.result _ c.loop-e.draft _ _ c.loop-e.invariant c.in_ok-expression.ensures (rw c.is_void.ensures at c.in_ok-let_go.ensures))

pub choice-returns-in-empty : goal.choice-returns-in-empty
choice-returns-in-empty t c = no_choice _ c.args.parts.now _ _ (is_empty c.args.parts.now (omega arith)) c.stuck_if.ensures

pub choice-set_label-requires : goal.choice-set_label-requires
choice-set_label-requires t c =
    (other_waits _ _ (stuck_if true) c.in_ok-other-in-len1-up.other c.in_ok-out-in-len1-up.out _ _ _ _ _ _ _ c.in_ok-other-in-len1-up.ensures c.in_ok-out-in-len1-up.ensures c.in_ok-operand-in-len1-up.ensures c.in_ok-put-in-len1-up.ensures c.in_ok-second-in-len1-up.ensures c.in_ok-put-in-len1-up-2.ensures).is

pub choice-set_label-requires-in-len1-up : goal.choice-set_label-requires-in-len1-up
choice-set_label-requires-in-len1-up t c =
    (out_waits _ _ _ c.in_ok-other-in-len1-up.other c.in_ok-out-in-len1-up.out _ _ _ _ _ _ _ c.in_ok-other-in-len1-up.ensures c.in_ok-out-in-len1-up.ensures c.in_ok-operand-in-len1-up.ensures c.in_ok-put-in-len1-up.ensures c.in_ok-second-in-len1-up.ensures c.in_ok-put-in-len1-up-2.ensures _ _ c.in_ok-set_label-in-len1-up.ensures c.in_ok-third-in-len1-up.ensures).is

pub choice-returns-in_ok-third-in-len1-up : goal.choice-returns-in_ok-third-in-len1-up
choice-returns-in_ok-third-in-len1-up t c =
    choice_emits _ c.args.parts.now c.condition-item.result _ c.in_ok-other-in-len1-up.other c.in_ok-out-in-len1-up.out _ _ _ _ _ _ _ _ _ _ (begins c.args.parts.now c.condition-item.result _ (omega arith) c.condition-item.is) c.in_ok-other-in-len1-up.ensures c.in_ok-out-in-len1-up.ensures c.in_ok-operand-in-len1-up.ensures c.in_ok-put-in-len1-up.ensures c.in_ok-second-in-len1-up.ensures c.in_ok-put-in-len1-up-2.ensures c.in_ok-set_label-in-len1-up.ensures c.in_ok-third-in-len1-up.ensures c.set_label-in-len1-up.ensures

pub named-set_label-requires : goal.named-set_label-requires
named-set_label-requires t c = (out_still _ _ _ _ _ c.in_ok-out.out _ _ _ _ _ c.in_ok-out.ensures c.in_ok-push.ensures c.in_ok-first.ensures c.in_ok-names.ensures).is

pub named-returns : goal.named-returns
named-returns t c = all_named _ _ _ _ c.in_ok-text.text _ c.in_ok-out.out _ _ _ _ _ _ c.in_ok-text.ensures c.in_ok-out.ensures c.in_ok-push.ensures c.in_ok-first.ensures c.in_ok-names.ensures c.set_label.ensures
