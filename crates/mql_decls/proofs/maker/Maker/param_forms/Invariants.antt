use Rattle.std.proofs.Common.{◌≡◌, ◌++◌, [], drop}
use Rattle.mql_decls.specs.Makes.{knowing}
use Rattle.mql_decls.specs.Declarations as spec
use Rattle.mql_decls.proofs.maker.Maker.param_forms.Given as goal

abbrev pub invariant-loop-q : goal.invariant-loop-q
invariant-loop-q l = l.found ++ knowing l.self spec.params_from l.locals (drop l.q-index l.params) ≡ knowing l.self spec.params_from [] l.params
