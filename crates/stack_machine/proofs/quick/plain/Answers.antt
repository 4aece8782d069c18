use Rattle.std.proofs.Common.{Bool, Ok, List, [], ap, refl, subst}
use Rattle.mql_meaning.specs.declared.store.Store.{Store}
use Rattle.mql_meaning.specs.declared.types.VarType.{VarType}
use Rattle.stack_code.specs.Machine.{does_effect}
use Rattle.stack_unboxed.specs.Unboxed.{Did}
use Rattle.stack_machine.proofs.Unboxed.{plain_done}
use Rattle.stack_machine.proofs.quick.plain.Goals as goal

pub returns-then-branch : goal.returns-then-branch
returns-then-branch c =
    plain_done c.args.code.now c.args.state.now c.args.steps.now c.args.effect c.args.top.now c.does_unboxed.new.top c.does_unboxed.new.store
    (subst (λ (b : Bool). (ts : List VarType) → Did (does_effect c.args.code.now ts c.args.effect) (Ok b) c.args.top.now c.does_unboxed.new.top c.args.state.now.store c.does_unboxed.new.store)
    c.if-branch.true c.in_ok-does_unboxed.ensures)

pub returns-else-branch : goal.returns-else-branch
returns-else-branch c =
    let same = subst (λ (b : Bool). (ts : List VarType) → Did (does_effect c.args.code.now ts c.args.effect) (Ok b) c.args.top.now c.does_unboxed.new.top c.args.state.now.store c.does_unboxed.new.store)
    c.if-branch.false c.in_ok-does_unboxed.ensures [] in
    (ap (λ (store : Store). record c.args.state.now { store = store }) same.1, same.0, refl)
