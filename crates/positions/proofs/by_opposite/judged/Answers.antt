use Rattle.std.proofs.Common.{rules}
use Rattle.positions.proofs.Closing.{held_found}
use Rattle.positions.proofs.by_opposite.judged.Goals as goal

pub pair_of-requires-clause-one : goal.pair_of-requires-clause-one
pair_of-requires-clause-one c = held_found c.args.positions.now c.args.one c.in-Some.first.now c.requires.open (search rules)

pub pair_of-requires-clause-other : goal.pair_of-requires-clause-other
pair_of-requires-clause-other c = held_found c.args.positions.now c.args.other c.in-Some-look_up.second.now c.requires.open (search rules)
