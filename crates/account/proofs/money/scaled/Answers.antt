use Rattle.std.proofs.Common.{sym, ◌*◌, ◌∙◌, ap, ℕ, Bool, unsigned_abs, FitsSigned}
use Rattle.std.specs.Int.{w128}
use Rattle.std.proofs.lemmas.Int.{to_z-of_z}
use Rattle.fx8.specs.Rounding.{nearest, signed, is_below_zero}
use Rattle.account.proofs.Scaling.{rounded_scaled}
use Rattle.account.proofs.money.scaled.Goals as goal

pub returns : goal.returns
returns c =
    let f : FitsSigned w128 c.signed.result = record { sfits = c.signed.type_inv } in
    to_z-of_z w128 c.signed.result f ∙ c.signed.ensures
    ∙ ap (λ (b : Bool). signed b c.scaled_size-size.result) (c.is_below_zero.ensures ∙ ap is_below_zero (to_z-of_z w128 c.args.amount c.ranges.amount))
    ∙ ap (λ (n : ℕ). signed (is_below_zero c.args.amount) n) (c.scaled_size-size.ensures.value ∙ ap (λ (m : ℕ). nearest (m * c.args.part) c.args.whole) (c.unsigned_abs.ensures.value ∙ ap unsigned_abs (to_z-of_z w128 c.args.amount c.ranges.amount)))
    ∙ sym (rounded_scaled c.args.amount c.args.part c.args.whole c.requires.some)
