use Rattle.std.specs.Prelude.{◌≡◌, ◌-◌, drop, take}
use Rattle.mql_meaning.specs.Frames.{reset}
use Rattle.store_frames.proofs.resets.reset.Given as goal

abbrev pub invariant-loop-local : goal.invariant-loop-local
invariant-loop-local l =
    reset l.classes l.first (take (l.end - l.first) (drop l.first l.locals)) l.initial.store
    ≡ reset l.classes l.local (take (l.end - l.local) (drop l.local l.locals)) l.store
