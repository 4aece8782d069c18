use Rattle.std.proofs.Common.{◌≡◌, ◌++◌, [], ◌∷◌, List, take, sym, ap, ◌∙◌, append_assoc}
use Rattle.std.proofs.lemmas.List.{take_more}
use Rattle.mql_meaning.specs.declared.types.VarType.{VarType}
use Rattle.mql_statement_walk.specs.Walk.{kept_in}
use Rattle.mql_statement_walk.proofs.OfParts.{kept_more}
use Rattle.mql_statement_walk.proofs.walk.with_part_types.Goals as goal

pub loop-t-preserved : goal.loop-t-preserved
loop-t-preserved c =
    let ts = take c.loop-t.t-index c.args.parts.now in
    let t = c.t-item.result in
    let e = take_more c.args.parts.now c.loop-t.t-index t c.loop-t-test.true ∙ ap (λ y. ts ++ y ∷ []) (sym c.t-item.is) in
    rw e (c.in_ok-all.ensures ∙ ap (λ (ks : List VarType). ks ++ c.as_slice.result.now) c.loop-t.invariant
    ∙ ap (λ (ks : List VarType). (c.args.types ++ kept_in ts) ++ ks) c.as_slice.ensures
    ∙ append_assoc c.args.types (kept_in ts) t.kept
    ∙ ap (λ (ks : List VarType). c.args.types ++ ks) (sym (kept_more ts t)))
