use Rattle.std.proofs.Common.{◌≡◌}
use Rattle.toml.specs.View.{members_view}
use Rattle.settings_file.specs.Entries.{ranges}
use Rattle.settings_file.proofs.Entered.{after}
use Rattle.settings_file.proofs.entries.ranges.Given as goal

abbrev pub invariant-loop-input : goal.invariant-loop-input
invariant-loop-input l =
    (goal.iterator-loop-input).can_next l.input-iterator × (goal.iterator-loop-input).is_finite l.input-iterator
    × (after l.entries (ranges (members_view l.input-iterator)) ≡ ranges (members_view l.table.entries))
