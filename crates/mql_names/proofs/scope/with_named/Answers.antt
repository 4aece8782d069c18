use Rattle.mql_names.proofs.Scopes.{plain_held, form_held}
use Rattle.mql_names.proofs.scope.with_named.Goals as goal

pub returns-in_ok-plain-in-None : goal.returns-in_ok-plain-in-None
returns-in_ok-plain-in-None c = λ before h. plain_held c.args.taken c.args.named.now c.in_ok-all.all c.in_ok-plain-in-None.plain before c.in-None.is (rw c.as_slice.ensures at c.in_ok-all.ensures) (rw c.as_slice-in-None.ensures at c.in_ok-plain-in-None.ensures) h

pub returns-in_ok-forms-in-Some : goal.returns-in_ok-forms-in-Some
returns-in_ok-forms-in-Some c = λ before h. form_held c.args.taken c.args.named.now c.in-Some.form c.in_ok-all.all c.in_ok-forms-in-Some.forms before c.in-Some.is (rw c.as_slice.ensures at c.in_ok-all.ensures) (rw c.as_slice-in-Some.ensures at c.in_ok-forms-in-Some.ensures) h
