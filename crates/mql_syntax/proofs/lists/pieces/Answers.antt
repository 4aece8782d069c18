use Rattle.std.proofs.Common.{◌≡◌, ◌+◌, ◌-◌, ◌≤◌, [], ◌∷◌, ◌++◌, map, take, drop, length, sym, ap, ◌∙◌, arith}
use Rattle.std.proofs.lemmas.List.{map_push, take_rest}
use Rattle.mql_views.specs.Seen.{part_seen, seen, all}
use Rattle.mql_syntax.specs.Lists.{enclosed, pieces_from}
use Rattle.mql_syntax.proofs.Each.{from_place}
use Rattle.mql_syntax.proofs.Cutting.{at_comma, at_other, stretch_seen, ends_with, ends_without}
use Rattle.mql_syntax.proofs.lists.pieces.Goals as goal
use Rattle.mql_syntax.proofs.lists.pieces.Goals.{then-divides+in_ok-push, else-divides, then-start-parts+in_ok-push-2, else-start-parts}

pub loop-place-preserved : goal.loop-place-preserved
loop-place-preserved c =
    let parts = c.args.parts.now in
    let front = seen (take (c.loop-place.place - c.loop-place.start) (drop c.loop-place.start parts)) in
    let rest = seen (drop (c.loop-place.place + 1) parts) in
    let next = from_place parts c.loop-place.place c.index-parts-place.result c.loop-place-test.true c.index-parts-place.is in
    let inv = c.loop-place.invariant.1 ∙ ap (λ l. map all c.loop-place.found ++ pieces_from c.loop-place.inside front (seen l)) next in
    elim c.if-divides.branch [
      | then-divides+in_ok-push w ↦
          let start : c.if-divides.start ≡ c.loop-place.place + 1 = w.start-is in
          let none : c.loop-place.place + 1 - c.if-divides.start ≡ 0 = omega arith in (
            omega arith,
            inv
                ∙ at_comma (map all c.loop-place.found) c.loop-place.inside front (part_seen c.index-parts-place.result) rest (sym w.if-divides.true ∙ c.divides.ensures)
                ∙ ap (λ f. f ++ pieces_from c.loop-place.inside [] rest) (sym (ap (map all) (w.found-is ∙ w.in_ok-push.ensures.ok) ∙ map_push all c.loop-place.found _))
                ∙ ap (λ b. map all c.if-divides.found ++ pieces_from b [] rest) (sym w.inside-is)
                ∙ ap (λ k. map all c.if-divides.found ++ pieces_from c.if-divides.inside (seen (take k (drop c.if-divides.start parts))) rest) (sym none),
          )
      | else-divides w ↦
          let start : c.if-divides.start ≡ c.loop-place.start = w.start-is in
          let below : c.loop-place.start ≤ c.loop-place.place = c.loop-place.invariant.0 in (
            omega arith,
            inv
                ∙ at_other (map all c.loop-place.found) c.loop-place.inside front (part_seen c.index-parts-place.result) rest (sym w.if-divides.false ∙ c.divides.ensures)
                ∙ ap (λ l. map all c.loop-place.found ++ pieces_from (enclosed c.loop-place.inside (part_seen c.index-parts-place.result)) l rest) (sym (stretch_seen parts c.loop-place.start c.loop-place.place c.index-parts-place.result below c.loop-place-test.true c.index-parts-place.is))
                ∙ ap (λ s. map all c.loop-place.found ++ pieces_from (enclosed c.loop-place.inside (part_seen c.index-parts-place.result)) (seen (take (c.loop-place.place + 1 - s) (drop s parts))) rest) (sym start)
                ∙ ap (λ b. map all c.loop-place.found ++ pieces_from b (seen (take (c.loop-place.place + 1 - c.if-divides.start) (drop c.if-divides.start parts))) rest) (sym (w.inside-is ∙ w.enclosed-inside.ensures))
                ∙ ap (λ f. map all f ++ pieces_from c.if-divides.inside (seen (take (c.loop-place.place + 1 - c.if-divides.start) (drop c.if-divides.start parts))) rest) (sym w.found-is),
          )
    ]

pub returns : goal.returns
returns c =
    let parts = c.args.parts.now in
    let past : length parts ≤ c.loop-place.place = omega arith in
    elim c.if-start-parts.branch [
      | then-start-parts+in_ok-push-2 w ↦
          ap (map all) (w.found-is ∙ w.in_ok-push-2.ensures.ok) ∙ map_push all c.loop-place.found _
          ∙ ap (λ y. map all c.loop-place.found ++ seen y ∷ []) (take_rest parts c.loop-place.start)
          ∙ sym (ends_with (map all c.loop-place.found) c.loop-place.inside parts c.loop-place.start c.loop-place.place past (omega arith))
          ∙ sym c.loop-place.invariant.1
      | else-start-parts w ↦
          ap (map all) w.found-is
          ∙ sym (ends_without (map all c.loop-place.found) c.loop-place.inside parts c.loop-place.start c.loop-place.place past (omega arith))
          ∙ sym c.loop-place.invariant.1
    ]
