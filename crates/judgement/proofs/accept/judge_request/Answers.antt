use Rattle.std.proofs.Common.{◌∙◌, sym}
use Rattle.std.specs.Int.{w64}
use Rattle.std.proofs.lemmas.Int.{to_z-of_z}
use Rattle.judgement.proofs.Passed.{refused_at}
use Rattle.judgement.proofs.accept.judge_request.Goals as goal

pub returns-in-Some : goal.returns-in-Some
returns-in-Some g c =
    refused_at c.args.ledger.now c.spec-spec.result.now c.args.orders.now _ c.args.prices.now c.args.time_ms _ c.args.next c.args.request.now c.in-Some.code (to_z-of_z w64 c.args.time_ms c.ranges.time_ms) c.spec-spec.ensures.value c.requires.positions (sym c.in-Some.is ∙ c.refusal.ensures)
