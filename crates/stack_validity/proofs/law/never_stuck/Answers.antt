use Rattle.stack_validity.proofs.Whole as whole
use Rattle.stack_validity.proofs.law.never_stuck.Goals as goal

pub returns-clause-typed : goal.returns-clause-typed
returns-clause-typed c = whole.never_stuck

pub returns-clause-valid : goal.returns-clause-valid
returns-clause-valid c = λ code kinds valid. whole.never_stuck code kinds valid.typed
