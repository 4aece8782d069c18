use Rattle.std.proofs.Common.{rules}
use Rattle.native_arguments.specs.Arguments.{all_shown, shown, lent_string_in, string_in}
use Rattle.native_arguments.proofs.Reading.{triple_all}
use Rattle.native_arguments.proofs.three_read.lent_string_two_strings.Goals as goal

pub returns : goal.returns
returns c =
    triple_all lent_string_in string_in string_in (all_shown c.args.arguments.now) (shown c.in_ok-x.x) (shown c.in_ok-x.y)
    (shown c.in_ok-x.z) _ _ _ (search rules) (search rules) (search rules) (search rules)
