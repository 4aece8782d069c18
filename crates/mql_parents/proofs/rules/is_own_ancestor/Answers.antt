use Rattle.std.proofs.Common.{◌≡◌, ◌-◌, suc, arith, sym, ap, ◌∙◌}
use Rattle.std.specs.Option.{option_copied}
use Rattle.mql_parents.specs.Maps.{parent_at}
use Rattle.mql_parents.proofs.Chain.{chain_goes_on}
use Rattle.mql_parents.proofs.rules.is_own_ancestor.Goals as goal

pub loop-left-preserved : goal.loop-left-preserved
loop-left-preserved c =
    let n = c.loop-left.left in
    let h = c.loop-left-test.true in
    let e : n ≡ suc (n - 1) = omega (arith, h) in
    sym (chain_goes_on (parent_at c.args.parents.now) n (n - 1) c.loop-left.at.now c.args.name.now c.in-Some.parent.now e
    (sym c.parent_of.ensures ∙ ap option_copied c.in-Some.is) (sym c.eq.ensures ∙ c.if-eq.false))
    ∙ c.loop-left.invariant
