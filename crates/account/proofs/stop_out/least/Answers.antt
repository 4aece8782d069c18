use Rattle.std.proofs.Common.{◌≡◌, ◌∷◌, List, zero, subst, arith}
use Rattle.std.specs.List.{All}
use Rattle.std.proofs.lemmas.List.Elements.{All-tail}
use Rattle.account.specs.declared.position.Position.{Position}
use Rattle.account.specs.StopOut.{floating}
use Rattle.account.specs.Ranges.{Floats}
use Rattle.account.proofs.Choice.{choice_begins, choice_goes_on, chosen}
use Rattle.account.proofs.stop_out.least.Goals as goal

head_of : (P : Position → Type 0) (p : Position) (ps : List Position) → All P (p ∷ ps) → P p
head_of P p ps h = h zero p (omega arith)

pub loop-position-init : goal.loop-position-init
loop-position-init c =
    let e : c.args.positions.now ≡ c.in_ok-first.first.now ∷ c.in_ok-first.others.now = c.in_ok-first.ensures.cases.0 in
    let a : All (Floats c.args.specs.now c.args.prices.now) (c.in_ok-first.first.now ∷ c.in_ok-first.others.now) = subst (λ (ps : List Position). All (Floats c.args.specs.now c.args.prices.now) ps) e c.requires.floats in (
      choice_begins (floating c.args.specs.now c.args.prices.now) c.in_ok-first.first.now c.args.positions.now c.in_ok-first.others.now e,
      head_of (Floats c.args.specs.now c.args.prices.now) c.in_ok-first.first.now c.in_ok-first.others.now a,
      All-tail (Floats c.args.specs.now c.args.prices.now) c.in_ok-first.first.now c.in_ok-first.others.now a,
    )

pub loop-position-preserved : goal.loop-position-preserved
loop-position-preserved c =
    let e : c.loop-position.rest.now ≡ c.in-Some.position.now ∷ c.in-Some.others.now = c.in-Some.ensures.cases.0 in
    let a : All (Floats c.args.specs.now c.args.prices.now) (c.in-Some.position.now ∷ c.in-Some.others.now) = subst (λ (ps : List Position). All (Floats c.args.specs.now c.args.prices.now) ps) e c.loop-position.invariant.2 in (
      choice_goes_on (floating c.args.specs.now c.args.prices.now) c.loop-position.best.now c.in-Some.position.now c.lesser-best.result.now c.loop-position.rest.now c.in-Some.others.now c.args.positions.now e c.lesser-best.ensures c.loop-position.invariant.0,
      chosen (Floats c.args.specs.now c.args.prices.now) (floating c.args.specs.now c.args.prices.now) c.loop-position.best.now c.in-Some.position.now c.lesser-best.result.now c.lesser-best.ensures c.loop-position.invariant.1 (head_of (Floats c.args.specs.now c.args.prices.now) c.in-Some.position.now c.in-Some.others.now a),
      All-tail (Floats c.args.specs.now c.args.prices.now) c.in-Some.position.now c.in-Some.others.now a,
    )
