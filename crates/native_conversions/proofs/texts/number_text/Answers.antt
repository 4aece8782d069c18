use Rattle.std.proofs.Common.{◌≡◌, IfOk, ℤ, subst, sym}
use Rattle.std.proofs.lemmas.Int.{to_z-of_z}
use mir.Syntax.{w128}
use Rattle.fx8.specs.declared.int_kind.IntKind.{IntKind}
use Rattle.mql_meaning.specs.Texts as texts
use Rattle.native_conversions.proofs.texts.number_text.Goals as goal

pub returns-in-Datetime : goal.returns-in-Datetime
returns-in-Datetime c =
    let e = to_z-of_z w128 c.args.number c.ranges.number in
    let t : IfOk c.time_text.result (λ text. text ≡ texts.time_text c.args.number) = subst (λ (z : ℤ). IfOk c.time_text.result (λ text. text ≡ texts.time_text z)) e c.time_text.ensures in
    subst (λ (k : IntKind). IfOk c.time_text.result (λ text. text ≡ texts.number_text k c.args.number)) (sym c.in-Datetime.is) t
