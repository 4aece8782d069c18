use Rattle.std.proofs.Common.{◌≡◌}
use Rattle.toml.specs.View.{members_view}
use Rattle.settings_file.specs.Entries.{assignments}
use Rattle.settings_file.proofs.Entered.{after}
use Rattle.settings_file.proofs.entries.assignments.Given as goal

abbrev pub invariant-loop-input : goal.invariant-loop-input
invariant-loop-input l =
    (goal.iterator-loop-input).can_next l.input-iterator × (goal.iterator-loop-input).is_finite l.input-iterator
    × (after l.entries (assignments (members_view l.input-iterator)) ≡ assignments (members_view l.table.entries))
