-- Where the code of a pass stands (own).
use Rattle.mql_meaning.specs.declared.store.Store.{Store}
use Rattle.tester_world.specs.World.{TesterState}
use Rattle.std.specs.Prelude.{ℕ}
use Rattle.tester_pass.specs.declared.events.Run.{Run}
use Rattle.tester_pass.specs.Pass.{Stage}

-- the stage of a run
abbrev pub stage : Run → Stage
stage run =
    record { store = run.machine; steps = run.steps; state = run.world; quotes = run.quotes; loud = run.loud }
