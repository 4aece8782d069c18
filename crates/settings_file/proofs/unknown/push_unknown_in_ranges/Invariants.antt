use Rattle.std.proofs.Common.{◌≡◌, ◌++◌}
use Rattle.toml.specs.View.{members_view}
use Rattle.settings_file.specs.Unknown.{unknown_in_ranges}
use Rattle.settings_file.proofs.unknown.push_unknown_in_ranges.Given as goal

abbrev pub invariant-loop-input : goal.invariant-loop-input
invariant-loop-input l =
    (goal.iterator-loop-input).can_next l.input-iterator × (goal.iterator-loop-input).is_finite l.input-iterator
    × (l.names ++ unknown_in_ranges (members_view l.input-iterator) ≡ l.initial.names ++ unknown_in_ranges (members_view l.table.entries))
