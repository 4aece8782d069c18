-- A call of the machine is a call of the pass.
use Rattle.std.proofs.Common.{◌≡◌, ℕ, ℤ, List, [], ◌++◌, refl, subst, append-nil}
use Rattle.mql_mean.specs.Answer.{Answer}
use Rattle.mql_meaning.specs.declared.store.Store.{Store}
use Rattle.mql_meaning.specs.declared.tree.Entry.{Entry}
use Rattle.mql_meaning.specs.Runs.{world}
use Rattle.stack_code.specs.declared.code.Code.{Code}
use Rattle.stack_code.specs.Machine.{Gives}
use Rattle.stack_machine.specs.declared.ends.End.{End}
use Rattle.stack_machine.specs.Ends.{as_ended}
use Rattle.stack_machine.specs.Steps.{Ends}
use Rattle.tester_world.specs.World.{TesterState, TesterStep}
use Rattle.tester_pass.specs.Pass.{Stage, Calls, of_code}

abbrev pub at : Store → ℕ → TesterState → ℕ → ℕ → Stage
at store steps state quotes loud =
    record { store = store; steps = steps; state = state; quotes = quotes; loud = loud }

pub called : (code : Code) (entry : Entry) (arg : ℤ) (store store' : Store) (n n' : ℕ) (w w' : TesterState) (e : End)
    (quotes loud : ℕ) → Ends TesterStep code entry arg store n w w' e store' n' →
    Calls (of_code code) entry arg (at store n w quotes loud) e (at store' n' w' quotes loud)
called code entry arg store store' n n' w w' e quotes loud run =
    record {
      made = run.made;
      got = run.got;
      turns = run.turns;
      means =
          subst (λ (l : List Answer). Gives code entry arg n (world store [] l)
          (record { ended = as_ended e; left = n'; world = world store' run.made [] }))
          (append-nil run.got) (run.holds []);
      quotes = refl;
      loud = refl;
    }
