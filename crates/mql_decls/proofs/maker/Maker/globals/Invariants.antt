use Rattle.std.proofs.Common.{◌≡◌, ◌++◌, drop}
use Rattle.mql_decls.specs.Makes.{knowing}
use Rattle.mql_decls.specs.Declarations as spec
use Rattle.mql_decls.proofs.maker.Maker.globals.Given as goal

abbrev pub invariant-loop-n : goal.invariant-loop-n
invariant-loop-n l = l.found ++ spec.numbered (knowing l.self spec.item_globals) l.n (drop l.n l.items) ≡ spec.numbered (knowing l.self spec.item_globals) 0 l.items
