use Rattle.std.proofs.Common.{ap, ◌∙◌, ◌++◌}
use Rattle.std.specs.List.{flat_map}
use Rattle.mql_walk.specs.Things.{function_things}
use Rattle.mql_decls.specs.Makes.{knowing}
use Rattle.mql_decls.specs.Declarations as spec
use Rattle.mql_decls.proofs.maker.Maker.with_own_statics.Goals as goal

pub returns : goal.returns
returns c =
    c.in_ok-all.ensures
    ∙ ap (λ k. c.args.found ++ flat_map (knowing c.args.self.now spec.static_in c.args.n k) (function_things c.args.f.now)) (c.as_slice.ensures ∙ c.in_ok-key.ensures)
