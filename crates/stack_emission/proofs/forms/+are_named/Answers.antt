use Rattle.std.proofs.Common.{arith}
use Rattle.stack_emission.proofs.Rows.{is_empty, goes_on}
use Rattle.stack_emission.proofs.Tests.{rest_of}
use Rattle.stack_emission.proofs.Tests.{names_test, no_names}
use Rattle.stack_emission.proofs.forms.+are_named.Goals as goal

pub returns-in-empty-texts : goal.returns-in-empty-texts
returns-in-empty-texts t c = no_names _ _ (is_empty c.args.texts.now (omega arith))

pub returns-in-len1-up-texts : goal.returns-in-len1-up-texts
returns-in-len1-up-texts t c = names_test _ c.args.labels.now _ c.args.texts.now _ c.label-item.result _ _ _ (goes_on c.args.labels.now c.label-item.result _ (omega arith) c.label-item.is) (rest_of c.args.texts.now (omega arith)) c.is_number.ensures c.are_named.ensures c.both.ensures
