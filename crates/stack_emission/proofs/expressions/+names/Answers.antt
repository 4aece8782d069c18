use Rattle.std.proofs.Common.{◌∙◌, arith}
use Rattle.stack_emission.proofs.Rows.{goes_on}
use Rattle.stack_emission.proofs.Emits.{name_emits}
use Rattle.stack_emission.proofs.expressions.+names.Goals as goal

pub returns-in_ok-set_label-in-len1-up-texts : goal.returns-in_ok-set_label-in-len1-up-texts
returns-in_ok-set_label-in-len1-up-texts t c =
    name_emits _ c.args.before.now _ c.args.labels.now c.args.texts.now c.label-item.result _ c.text-item.result c.in_ok-from_slice-in-len1-up-texts.field-0 _ c.in_ok-next-in-len1-up-texts.next _ _ _ _ _ _ _ _ _ _ _ (goes_on c.args.labels.now c.label-item.result _ (omega arith) c.label-item.is) (goes_on c.args.texts.now c.text-item.result _ (omega arith) c.text-item.is) (c.in_ok-from_slice-in-len1-up-texts.ensures ∙ c.as_slice.ensures) c.in_ok-next-in-len1-up-texts.ensures c.in_ok-put-in-len1-up-texts.ensures c.in_ok-equals-in-len1-up-texts.ensures c.in_ok-put-in-len1-up-texts-2.ensures c.in_ok-put-in-len1-up-texts-3.ensures c.in_ok-put-in-len1-up-texts-4.ensures c.in_ok-push-in-len1-up-texts.ensures c.in_ok-put-in-len1-up-texts-5.ensures c.in_ok-set_label-in-len1-up-texts.ensures c.names.ensures
