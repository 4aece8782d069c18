use Rattle.std.proofs.Common.{◌≡◌, ℕ, ◌+◌, arith, refl, sym, ap, ◌∙◌, ◌++◌, [], ◌∷◌, List, take, drop, length, append-nil}
use Rattle.std.proofs.lemmas.List.{take_more}
use Rattle.std.proofs.lemmas.Grind.{common_steps}
use Rattle.mql_scope.specs.declared.context.Known.{Known}
use Rattle.mql_scope.specs.Places.{context_at}
use Rattle.mql_meaning.specs.declared.types.VarType.{VarType}
use Rattle.mql_statements.specs.declared.told.Told.{Told}
use Rattle.mql_statements.specs.declared.told.Static.{Static}
use Rattle.mql_statement_walk.specs.Lists.{after}
use Rattle.mql_statements.specs.Told.{in_force}
use Rattle.mql_statement_walk.proofs.OfParts.{context_step, list_step, known_step, front, first_of, node_told, for_told, statement_place, statement_kind, statement_own, statement_values, statement_parts, whole_for, whole_other}
use Rattle.mql_statement_walk.proofs.walk.+told.Goals as goal

pub each_told-loop-s-preserved : goal.each_told-loop-s-preserved
each_told-loop-s-preserved g t c =
    let p = g.P.ProgramFacts.program in
    let x = in_force (context_at p c.args.here.now) c.args.locals in
    let at = context_at p c.loop-s.at in
    let ss = take c.loop-s.s-index c.args.parts.now in
    let e = take_more c.args.parts.now c.loop-s.s-index c.s-item.result c.loop-s-test.true ∙ ap (λ y. ss ++ y ∷ []) (sym c.s-item.is) in
    let inv = c.loop-s.invariant in
    let known = c.loop-s.known in
    let one = c.in_ok-t.t in
    let next = c.in_ok-at.ensures
    ∙ ap (λ (xs : List VarType). after (length xs) (length c.as_slice-in-loop-s.result.now) at) c.as_slice.ensures
    ∙ ap (λ (xs : List Static). after (length one.kept) (length xs) at) c.as_slice-in-loop-s.ensures in
    rw e (record {
      context = context_step x at _ known _ c.loop-s.all _ one inv.context next c.in_ok-t.ensures.locals c.in_ok-push.ensures.ok;
      told = list_step x at c.args.shared known ss c.s-item.result c.loop-s.all _ one inv.context inv.told c.in_ok-t.ensures.told c.in_ok-push.ensures.ok;
      locals = known_step c.args.locals known _ c.loop-s.all _ one inv.locals c.in_ok-t.ensures.locals c.in_ok-push.ensures.ok;
    })

pub parts_told-returns-clause-locals : goal.parts_told-returns-clause-locals
parts_told-returns-clause-locals g t c =
    c.truncate.ensures ∙ front c.args.locals c.in_ok-all.known _ _ c.len-count.ensures c.in_ok-all.ensures.locals

pub node_told-returns-clause-told : goal.node_told-returns-clause-told
node_told-returns-clause-told g t c =
    let p = g.P.ProgramFacts.program in
    let ks = c.args.locals in
    let own = c.in_ok-variables.variables in
    let behind_own : c.in_ok-variables.declared ≡ ks ++ own.declared = c.in_ok-variables.ensures.locals ∙ ap (λ (x : Told). ks ++ x.declared) (sym c.in_ok-variables.ensures.told) in
    node_told (context_at p c.args.here.now) (context_at p c.in_ok-behind.behind) (context_at p c.inside-at.result)
    c.args.place c.args.what c.args.own.now c.args.values.now c.args.parts.now ks c.in_ok-variables.declared
    c.as_slice.result.now c.first-before.result.now own c.in_ok-head.head c.shares.result
    c.in_ok-told_parts.told_parts c.in_ok-t.t c.in_ok-variables.ensures.told behind_own c.as_slice.ensures
    c.in_ok-head.ensures c.in_ok-behind.ensures c.inside-at.ensures c.shares.ensures
    c.in_ok-told_parts.ensures.told
    (c.first-before.ensures ∙ front ks c.as_slice-2.result.now own.declared _ (ap (λ (xs : List Known). length xs) c.as_slice-count.ensures)
    (c.as_slice-2.ensures ∙ c.in_ok-told_parts.ensures.locals ∙ behind_own))
    c.in_ok-t.ensures

pub for_told-returns-in_ok-t-in-len1-up-clause-told : goal.for_told-returns-in_ok-t-in-len1-up-clause-told
for_told-returns-in_ok-t-in-len1-up-clause-told g t c =
    let p = g.P.ProgramFacts.program in
    let ks = c.args.locals in
    let begin = c.in_ok-begin-in-len1-up.begin in
    let behind_begin = c.in_ok-begin-in-len1-up.ensures.locals in
    for_told (context_at p c.args.here.now) (context_at p c.in_ok-behind-in-len1-up.behind) (context_at p c.in_loop-at.result)
    c.args.place c.args.what c.args.values.now c.s-item.result (drop 1 c.args.parts.now) c.args.parts.now ks
    c.in_ok-begin-in-len1-up.declared c.as_slice-in-len1-up.result.now c.as_slice-in-len1-up-2.result.now begin
    c.in_ok-head-in-len1-up.head c.in_ok-told_parts-in-len1-up.told_parts c.in_ok-t-in-len1-up.t
    (first_of c.s-item.result c.args.parts.now c.in-len1-up.len_at_least c.s-item.is)
    c.in_ok-begin-in-len1-up.ensures.told behind_begin c.as_slice-in-len1-up.ensures
    c.in_ok-head-in-len1-up.ensures c.in_ok-behind-in-len1-up.ensures c.in_loop-at.ensures
    c.in_ok-told_parts-in-len1-up.ensures.told
    (c.as_slice-in-len1-up-2.ensures ∙ c.truncate.ensures ∙ front ks c.in_ok-told_parts-in-len1-up.all begin.declared _
    (ap (λ (xs : List Known). length xs) c.as_slice-count.ensures) (c.in_ok-told_parts-in-len1-up.ensures.locals ∙ behind_begin))
    c.in_ok-t-in-len1-up.ensures

pub statement_told-returns-then-is_for-clause-told : goal.statement_told-returns-then-is_for-clause-told
statement_told-returns-then-is_for-clause-told g t c =
    let x = in_force (context_at g.P.ProgramFacts.program c.args.here.now) c.args.locals in
    let s = c.args.s.now in
    let e4 : c.as_slice-asked.result.now ≡ statement_values s = grind (arith, common_steps) in
    let e5 : c.as_slice-inner.result.now ≡ statement_parts s = grind (arith, common_steps) in
    whole_for c.for_told.result (λ r. r.0) x s _ _ c.as_slice-asked.result.now c.as_slice-inner.result.now
    (grind (arith, common_steps)) (grind (arith, common_steps)) e4 e5 (sym c.is_for.ensures ∙ c.if-is_for.true) c.for_told.ensures.told

pub statement_told-returns-else-is_for-clause-told : goal.statement_told-returns-else-is_for-clause-told
statement_told-returns-else-is_for-clause-told g t c =
    let x = in_force (context_at g.P.ProgramFacts.program c.args.here.now) c.args.locals in
    let s = c.args.s.now in
    let e3 : c.as_slice-declared.result.now ≡ statement_own s = grind (arith, common_steps) in
    let e4 : c.as_slice-asked.result.now ≡ statement_values s = grind (arith, common_steps) in
    let e5 : c.as_slice-inner.result.now ≡ statement_parts s = grind (arith, common_steps) in
    whole_other c.node_told.result (λ r. r.0) x s _ _ c.as_slice-declared.result.now c.as_slice-asked.result.now c.as_slice-inner.result.now
    (grind (arith, common_steps)) (grind (arith, common_steps)) e3 e4 e5 (sym c.is_for.ensures ∙ c.if-is_for.false) c.node_told.ensures.told
