use Rattle.std.proofs.Common.{◌≡◌, ◌∷◌, [], arith, subst, Ok, Err}
use Rattle.std.specs.Prelude.{string_bytes}
use Rattle.std.proofs.lemmas.Grind.{common_steps}
use Rattle.toml.specs.View.{view, members_view}
use Rattle.toml.proofs.Views.{Entry}
use Rattle.settings_file.specs.Entries.{assignments, assignment}
use Rattle.settings_file.specs.Faults.{IsAnswer}
use Rattle.settings_file.proofs.Entered.{after, assignment_good, assignment_bad, assignments_end, fault_from}
use Rattle.settings_file.proofs.entries.assignments.Goals as goal

pub returns-in-Err : goal.returns-in-Err
returns-in-Err c =
    let e : Entry = (c.in-Some.input.now, c.in-Some.value.now) in
    let iter : c.loop-input.input-iterator ≡ e ∷ c.next.new.self = grind (arith, common_steps) in
    let inv = subst (λ x. after c.loop-input.entries (assignments (members_view x)) ≡ assignments (members_view c.args.table.now.entries)) iter c.loop-input.invariant.2 in
    fault_from _ (assignment (string_bytes e.0) (view e.1)) c.in-Err.fault (λ b s. assignment_bad c.loop-input.entries _ (string_bytes e.0) (view e.1) (members_view c.next.new.self) b inv s)
    (subst (λ x. IsAnswer (assignment x (view e.1)) (Err c.in-Err.fault)) c.as_str.ensures.value c.in-Err.ensures)

pub loop-input-preserved : goal.loop-input-preserved
loop-input-preserved c =
    let e : Entry = (c.in-Some.input.now, c.in-Some.value.now) in
    let iter : c.loop-input.input-iterator ≡ e ∷ c.next.new.self = grind (arith, common_steps) in
    let inv = subst (λ x. after c.loop-input.entries (assignments (members_view x)) ≡ assignments (members_view c.args.table.now.entries)) iter c.loop-input.invariant.2 in (
      tt,
      tt,
      assignment_good c.loop-input.entries c.push.new.self _ (string_bytes e.0) (view e.1) (members_view c.next.new.self) c.in-Ok.entry inv
          (subst (λ x. assignment x (view e.1) ≡ Ok c.in-Ok.entry) c.as_str.ensures.value c.in-Ok.ensures) c.in_ok-push-in-Ok.ensures.ok,
    )

pub returns : goal.returns
returns c =
    let none : c.loop-input.input-iterator ≡ [] = grind (arith, common_steps) in
    assignments_end c.loop-input.entries _ (rw none at c.loop-input.invariant.2)
