use Rattle.std.proofs.Common.{ap, ◌++◌}
use Rattle.mql_decls.specs.Makes.{knowing}
use Rattle.mql_decls.specs.Declarations as spec
use Rattle.mql_decls.proofs.Numbered.{one_more, all_done}
use Rattle.mql_decls.proofs.maker.Maker.globals.Goals as goal

pub loop-n-init : goal.loop-n-init
loop-n-init c = ap (λ xs. xs ++ spec.numbered (knowing c.args.self.now spec.item_globals) 0 c.args.items.now) c.new-found.ensures

pub loop-n-preserved : goal.loop-n-preserved
loop-n-preserved c =
    one_more (knowing c.args.self.now spec.item_globals) c.args.items.now c.loop-n.n c.index-items-n.result c.loop-n.found c.in_ok-found.found _ c.loop-n-test.true c.index-items-n.is
    c.in_ok-found.ensures c.loop-n.invariant

pub returns : goal.returns
returns c = all_done (knowing c.args.self.now spec.item_globals) c.args.items.now c.loop-n.n c.loop-n.found _ c.loop-n-test.false c.loop-n.invariant
