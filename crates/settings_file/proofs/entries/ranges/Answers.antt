use Rattle.std.proofs.Common.{◌≡◌, ◌∷◌, [], arith, subst, Ok, Err}
use Rattle.std.specs.Prelude.{string_bytes}
use Rattle.std.proofs.lemmas.Grind.{common_steps}
use Rattle.toml.specs.View.{view, members_view}
use Rattle.toml.proofs.Views.{Entry}
use Rattle.settings_file.specs.Entries.{ranges, range}
use Rattle.settings_file.specs.Faults.{IsAnswer}
use Rattle.settings_file.proofs.Entered.{after, range_good, range_bad, ranges_end, fault_from}
use Rattle.settings_file.proofs.entries.ranges.Goals as goal

pub returns-in-Err : goal.returns-in-Err
returns-in-Err c =
    let e : Entry = (c.in-Some.input.now, c.in-Some.value.now) in
    let iter : c.loop-input.input-iterator ≡ e ∷ c.next.new.self = grind (arith, common_steps) in
    let inv = subst (λ x. after c.loop-input.entries (ranges (members_view x)) ≡ ranges (members_view c.args.table.now.entries)) iter c.loop-input.invariant.2 in
    fault_from _ (range (string_bytes e.0) (view e.1)) c.in-Err.fault (λ b s. range_bad c.loop-input.entries _ (string_bytes e.0) (view e.1) (members_view c.next.new.self) b inv s)
    (subst (λ x. IsAnswer (range x (view e.1)) (Err c.in-Err.fault)) c.as_str.ensures.value c.in-Err.ensures)

pub loop-input-preserved : goal.loop-input-preserved
loop-input-preserved c =
    let e : Entry = (c.in-Some.input.now, c.in-Some.value.now) in
    let iter : c.loop-input.input-iterator ≡ e ∷ c.next.new.self = grind (arith, common_steps) in
    let inv = subst (λ x. after c.loop-input.entries (ranges (members_view x)) ≡ ranges (members_view c.args.table.now.entries)) iter c.loop-input.invariant.2 in (
      tt,
      tt,
      range_good c.loop-input.entries c.push.new.self _ (string_bytes e.0) (view e.1) (members_view c.next.new.self) c.in-Ok.entry inv
          (subst (λ x. range x (view e.1) ≡ Ok c.in-Ok.entry) c.as_str.ensures.value c.in-Ok.ensures) c.in_ok-push-in-Ok.ensures.ok,
    )

pub returns : goal.returns
returns c =
    let none : c.loop-input.input-iterator ≡ [] = grind (arith, common_steps) in
    ranges_end c.loop-input.entries _ (rw none at c.loop-input.invariant.2)
