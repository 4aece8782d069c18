use Rattle.std.proofs.Common.{◌≡◌, IfOk, List, ℕ, ℤ, unsigned_abs, true, subst}
use Rattle.std.proofs.lemmas.Int.{to_z-of_z}
use mir.Syntax.{w128}
use Rattle.mql_meaning.specs.Dates.{has_date}
use Rattle.native_conversions.proofs.Calendar.{at_date}
use Rattle.native_conversions.proofs.texts.time_text.Goals as goal

pub returns-in-Some : goal.returns-in-Some
returns-in-Some c =
    let e = to_z-of_z w128 c.args.second c.ranges.second in
    let d : has_date c.args.second ≡ true = subst (λ (z : ℤ). has_date z ≡ true) e c.in-Some.ensures.some in
    let u : c.in-Some.t ≡ unsigned_abs c.args.second = subst (λ (z : ℤ). c.in-Some.t ≡ unsigned_abs z) e c.in-Some.ensures.none in
    subst (λ (m : List ℕ). IfOk c.moment_text.result (λ text. text ≡ m)) (at_date c.args.second c.in-Some.t d u) c.moment_text.ensures
