use Rattle.std.proofs.Common.{sym, ap, subst, ◌∙◌, ◌++◌, [], ◌∷◌, map, take}
use Rattle.std.proofs.lemmas.List.{take_more, append_assoc, map-append}
use Rattle.mql_names.specs.Maps.{Means}
use Rattle.mql_names.specs.Meanings.{enumerator_meant}
use Rattle.mql_names.proofs.program.with_enumerators.Goals as goal

pub loop-enumerator-preserved : goal.loop-enumerator-preserved
loop-enumerator-preserved c =
    let xs = take c.loop-enumerator.enumerator-index c.args.enumerators.now in
    let e = take_more c.args.enumerators.now c.loop-enumerator.enumerator-index c.enumerator-item.result c.loop-enumerator-test.true ∙ ap (λ x. take c.loop-enumerator.enumerator-index c.args.enumerators.now ++ x ∷ []) (sym c.enumerator-item.is) in
    λ ms h.
    let k = c.in_ok-names.ensures (ms ++ map enumerator_meant xs) (c.loop-enumerator.invariant ms h) in
    let f = append_assoc ms (map enumerator_meant xs) (enumerator_meant c.enumerator-item.result ∷ []) ∙ ap (λ ys. ms ++ ys) (sym (map-append enumerator_meant xs (c.enumerator-item.result ∷ [])) ∙ sym (ap (map enumerator_meant) e)) in
    subst (Means c.in_ok-names.names) f (rw c.as_slice.ensures at k)
