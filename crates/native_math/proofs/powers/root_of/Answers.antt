use Rattle.std.proofs.Common.{◌≡◌, ℤ, Some, rules, subst}
use Rattle.fx8.specs.Doubles.{IsRootOf}
use Rattle.native_math.proofs.Roots.{root_some}
use Rattle.native_math.proofs.powers.root_of.Goals as goal

pub returns-in-Some : goal.returns-in-Some
returns-in-Some c store =
    let e : c.of_units.result ≡ c.args.units = search rules in
    let is : IsRootOf c.args.units (Some c.in-Some.root) =
    subst (λ (x : ℤ). IsRootOf x (Some c.in-Some.root)) e c.in-Some.ensures in
    root_some c.args.units c.in-Some.root store c.ranges.units is
