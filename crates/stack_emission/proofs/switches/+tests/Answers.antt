use Rattle.std.proofs.Common.{refl, arith}
use Rattle.stack_emission.specs.Statements.{label_of}
use Rattle.stack_emission.proofs.Rows.{goes_on}
use Rattle.stack_emission.proofs.SwitchEmits.{test_emits}
use Rattle.stack_emission.proofs.switches.+tests.Goals as goal

pub returns-in_ok-set_label-in-len1-up-places : goal.returns-in_ok-set_label-in-len1-up-places
returns-in_ok-set_label-in-len1-up-places t c =
    test_emits _ (label_of c.args.first c.args.end) c.args.default c.args.labels.now c.args.places.now c.number-item.result _ _ _ c.in_ok-to-in-len1-up-places.to c.in_ok-next-in-len1-up-places.next _ _ _ _ _ _ _ _ _ (goes_on c.args.labels.now c.number-item.result _ (omega arith) c.number-item.is) (goes_on c.args.places.now _ _ (omega arith) refl) c.in_ok-to-in-len1-up-places.ensures c.in_ok-next-in-len1-up-places.ensures c.in_ok-put-in-len1-up-places.ensures c.in_ok-equals-in-len1-up-places.ensures c.in_ok-put-in-len1-up-places-2.ensures c.in_ok-put-in-len1-up-places-3.ensures c.in_ok-put-in-len1-up-places-4.ensures c.in_ok-set_label-in-len1-up-places.ensures c.tests.ensures
