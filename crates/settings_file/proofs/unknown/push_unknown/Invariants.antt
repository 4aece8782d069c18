use Rattle.std.proofs.Common.{◌≡◌, ◌++◌}
use Rattle.toml.specs.View.{members_view}
use Rattle.settings_file.specs.Unknown.{unknown_in}
use Rattle.settings_file.proofs.unknown.push_unknown.Given as goal

abbrev pub invariant-loop-key : goal.invariant-loop-key
invariant-loop-key l =
    (goal.iterator-loop-key).can_next l.key-iterator × (goal.iterator-loop-key).is_finite l.key-iterator
    × (l.names ++ unknown_in l.level l.prefix (members_view l.key-iterator) ≡ l.initial.names ++ unknown_in l.level l.prefix (members_view l.table.entries))
