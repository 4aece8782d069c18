use Rattle.std.proofs.Common.{rules}
use Rattle.native_arguments.specs.Arguments.{all_shown, shown, array_in, number_in}
use Rattle.native_arguments.proofs.Reading.{triple_all}
use Rattle.native_arguments.proofs.three_read.array_two_numbers.Goals as goal

pub returns : goal.returns
returns c =
    triple_all array_in number_in number_in (all_shown c.args.arguments.now) (shown c.in_ok-x.x) (shown c.in_ok-x.y)
    (shown c.in_ok-x.z) _ _ _ (search rules) (search rules) (search rules) (search rules)
