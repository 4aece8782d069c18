use Rattle.std.proofs.Common.{◌≡◌, arith, sym, ap, ◌∙◌, ◌++◌, [], ◌∷◌, take}
use Rattle.std.proofs.lemmas.List.{take_more}
use Rattle.std.proofs.lemmas.Grind.{common_steps}
use Rattle.mql_names.specs.Faults.{sooner}
use Rattle.mql_names.specs.Things.{shares}
use Rattle.mql_names.specs.Maps.{meaning}
use Rattle.mql_names.proofs.Joined.{parts_more, at_statement, statement_kind, statement_locals, statement_values, statement_parts}
use Rattle.mql_names.proofs.walk.+statements.Goals as goal

pub parts_told-loop-s-preserved : goal.parts_told-loop-s-preserved
parts_told-loop-s-preserved t c =
    let e = take_more c.args.parts.now c.loop-s.s-index c.s-item.result c.loop-s-test.true ∙ ap (λ x. take c.loop-s.s-index c.args.parts.now ++ x ∷ []) (sym c.s-item.is) in
    λ shared locals. rw e (c.sooner-told.ensures ∙ parts_more (meaning c.args.names.now) (take c.loop-s.s-index c.args.parts.now) c.s-item.result c.loop-s.told c.in_ok-statement_told.field-0 c.loop-s.invariant c.in_ok-statement_told.ensures shared locals)

pub statement_told-returns : goal.statement_told-returns
statement_told-returns t c =
    let e1 : c.shares.result ≡ shares (statement_kind c.args.s.now) = grind (arith, common_steps) in
    let e2 : c.as_slice-2.result.now ≡ statement_locals c.args.s.now = grind (arith, common_steps) in
    let e3 : c.as_slice-3.result.now ≡ statement_values c.args.s.now = grind (arith, common_steps) in
    let e4 : c.as_slice.result.now ≡ statement_parts c.args.s.now = grind (arith, common_steps) in
    let e5 : c.as_slice-4.result.now ≡ statement_parts c.args.s.now = grind (arith, common_steps) in
    at_statement (meaning c.args.names.now) c.args.s.now c.shares.result c.as_slice-2.result.now c.as_slice-3.result.now c.as_slice.result.now c.as_slice-4.result.now
    c.sooner-3.result c.in_ok-scopes.scopes c.variables_told-own.result c.values_told-inner.result c.in_ok-rest.rest e1 e2 e3 e4 e5
    c.in_ok-scopes.ensures c.variables_told-own.ensures c.values_told-inner.ensures c.in_ok-rest.ensures
    (c.sooner-3.ensures ∙ ap (sooner c.in_ok-scopes.scopes) (c.sooner-2.ensures ∙ ap (sooner c.variables_told-own.result) c.sooner.ensures))
