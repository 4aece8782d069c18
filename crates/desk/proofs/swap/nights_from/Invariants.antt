use Rattle.std.proofs.Common.{◌≡◌, ◌≤◌, ◌*◌, ◌-◌}
use Rattle.desk.specs.Nights.{nights_from}
use Rattle.desk.proofs.swap.nights_from.Given as goal

abbrev pub invariant-loop-done : goal.invariant-loop-done
invariant-loop-done l = record {
  value : l.nights ≡ nights_from l.swap_day l.day l.done;
  within : l.done ≤ l.days;
  most : l.nights ≤ 3 * l.done;
}

abbrev pub decreases-loop-done : goal.decreases-loop-done
decreases-loop-done l = l.days - l.done
