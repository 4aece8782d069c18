use Rattle.std.proofs.Common.{◌≡◌, ◌++◌, Some, ap, sym, ◌∙◌, take, drop, length, arith, append_assoc, length-drop, ◌-◌}
use Rattle.std.proofs.Math.Seq.{take-add}
use Rattle.std.proofs.lemmas.List.{take_all}
use Rattle.tester_answer.proofs.outside.write_whole.Goals as goal

pub loop-place-preserved : goal.loop-place-preserved
loop-place-preserved g c =
    let place = c.loop-place.place in
    let k = c.in_ok-written.written in
    let text = c.args.text.now in
    let rest : take (length text - place) (drop place text) ≡ drop place text = take_all _ (drop place text) (omega (arith, length-drop place text)) in
    let left = rw rest at c.in_ok-written.ensures.within in
    record {
      within = omega (arith, left, length-drop place text, c.loop-place.invariant.within);
      written = λ value told.
          c.in_ok-written.ensures.appended (value ++ take place text) (c.loop-place.invariant.written value told)
          ∙ ap (λ r. Some ((value ++ take place text) ++ take k r)) rest
          ∙ ap Some (append_assoc value (take place text) (take k (drop place text)) ∙ ap (λ t. value ++ t) (sym (take-add place k text)));
      counted = omega (arith, c.loop-place.invariant.counted, c.in_ok-written.ensures.write_faults.never_falls);
    }
