use Rattle.std.proofs.Common.{ℤ, ap, ◌∙◌, w64}
use Rattle.std.proofs.lemmas.Int.{to_z-of_z}
use mir.Syntax.{w128}
use Rattle.fx8.specs.Integers.{wrapped}
use Rattle.fx8.specs.declared.int_kind.IntKind.TheVariants as kinds
use Rattle.native_conversions.proofs.Numbers.{wrapped_negative}
use Rattle.native_conversions.proofs.digits.negative_long.Goals as goal

pub returns : goal.returns
returns c = λ n e.
    to_z-of_z w64 c.in_long.result (record { sfits = c.in_long.type_inv }) ∙ c.in_long.ensures
    ∙ ap (λ (z : ℤ). wrapped kinds.Long z) (to_z-of_z w128 c.negated.result (record { sfits = c.negated.type_inv }) ∙ c.negated.ensures)
    ∙ wrapped_negative n c.args.number e
