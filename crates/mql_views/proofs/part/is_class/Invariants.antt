use Rattle.std.proofs.Common.{◌≡◌, map, drop}
use Rattle.mql_grammar.specs.Table.{listed}
use Rattle.mql_grammar.specs.Numbers.{class_number}
use Rattle.mql_views.proofs.part.is_class.Given as goal

abbrev pub invariant-loop-own : goal.invariant-loop-own
invariant-loop-own l = listed (class_number l.class) (map class_number (drop l.own-index l.wanted)) ≡ listed (class_number l.class) (map class_number l.wanted)
