use Rattle.std.proofs.Common.{◌≡◌, ◌++◌, IfOk, OnOk, ℕ, ◌+◌, ◌-◌, ◌*◌, ◌<◌, ◌≤◌, length}
use Rattle.std.specs.List.{flat_map}
use Rattle.mql_meaning.specs.Texts as texts
use Rattle.tester_world.specs.Journal.{shown_byte, shown_text, line_bytes}
use Rattle.tester_world.proofs.journal.+printed.Given as goal

abbrev pub decreases-printed : goal.decreases-printed
decreases-printed l = length l.values.now
