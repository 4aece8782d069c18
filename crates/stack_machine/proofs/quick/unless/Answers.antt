use Rattle.std.proofs.Common.{◌≡◌, true, false, Some, ◌∷◌, rules}
use Rattle.fx8.specs.Integers.{is_zero}
use Rattle.stack_unboxed.specs.declared.unboxed.Unboxed.TheVariants as unboxed
use Rattle.stack_code.specs.Machine.{label_at}
use Rattle.stack_machine.proofs.Unboxed.{unless_holds, unless_fails}
use Rattle.stack_machine.proofs.quick.unless.Goals as goal

pub returns-then-condition-ne0 : goal.returns-then-condition-ne0
returns-then-condition-ne0 c =
    let m = c.in-Some-Number.condition in
    let taken : c.args.top.now ≡ unboxed.Number m ∷ c.pop.new.self = search rules in
    let some : is_zero m.number ≡ false = search rules in
    unless_holds c.args.code.now c.args.state.now c.args.steps.now c.args.label m c.args.top.now c.pop.new.self taken some

pub returns-else-condition-ne0 : goal.returns-else-condition-ne0
returns-else-condition-ne0 c =
    let m = c.in-Some-Number.condition in
    let taken : c.args.top.now ≡ unboxed.Number m ∷ c.pop.new.self = search rules in
    let none : is_zero m.number ≡ true = search rules in
    let there : Some c.in-Some.place ≡ label_at c.args.code.now c.args.state.now.function c.args.label = search rules in
    unless_fails c.args.code.now c.args.state.now c.args.steps.now c.args.label c.in-Some.place m c.args.top.now c.pop.new.self there taken none
