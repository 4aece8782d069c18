use Rattle.std.proofs.Common.{ap, ◌∙◌, ◌+◌, ◌++◌, [], ◌∷◌, drop}
use Rattle.std.proofs.lemmas.List.{drop_all}
use Rattle.mql_names.specs.Maps.{meaning}
use Rattle.mql_sizes.specs.Maps.{value_at}
use Rattle.mql_sizes.proofs.Held.{from_place}
use Rattle.mql_decls.specs.Makes.{knowing}
use Rattle.mql_decls.specs.Declarations as spec
use Rattle.mql_decls.proofs.Params.{one_more, all_done}
use Rattle.mql_decls.proofs.maker.Maker.param_forms.Goals as goal

pub loop-q-init : goal.loop-q-init
loop-q-init c =
    ap (λ xs. xs ++ knowing c.args.self.now spec.params_from c.new-locals.result c.args.params.now) c.new-found.ensures
    ∙ ap (λ ls. knowing c.args.self.now spec.params_from ls c.args.params.now) c.new-locals.ensures

pub loop-q-preserved : goal.loop-q-preserved
loop-q-preserved c =
    let m = c.args.self.now in
    let qs = c.args.params.now in
    let n = c.loop-q.q-index in
    let q = c.q-item.result in
    one_more (meaning m.names.now) (value_at m.values.now) (drop n qs) (drop (n + 1) qs) q c.loop-q.locals c.in_ok-locals.locals c.loop-q.found c.in_ok-found.found _
    (from_place qs n q c.loop-q-test.true c.q-item.is)
    (c.in_ok-found.ensures ∙ ap (λ ls. c.loop-q.found ++ knowing m spec.param_form ls q ∷ []) c.as_slice.ensures)
    c.in_ok-locals.ensures c.loop-q.invariant

pub returns : goal.returns
returns c =
    let m = c.args.self.now in
    all_done (meaning m.names.now) (value_at m.values.now) _ c.loop-q.locals c.loop-q.found _ (drop_all c.loop-q.q-index c.args.params.now c.loop-q-test.false) c.loop-q.invariant
