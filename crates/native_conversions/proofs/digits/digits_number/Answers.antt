use Rattle.std.proofs.Common.{rules, ◌≡◌, true, get_or, ◌∙◌}
use Rattle.fx8.specs.Decimals as decimals
use Rattle.fx8.proofs.Digits.{behind_is}
use Rattle.native_conversions.proofs.Numbers.{digits_more}
use Rattle.native_conversions.proofs.digits.digits_number.Goals as goal

pub loop-rest-preserved : goal.loop-rest-preserved
loop-rest-preserved c =
    let text = c.loop-rest.rest.now in
    let d : decimals.is_digit (get_or text 0 0) ≡ true = search rules in
    record {
      small = c.with_digit-number.ensures.small;
      same = digits_more c.loop-rest.number c.with_digit-number.result text _ (behind_is 1 text) c.in-len1-up.len_at_least d c.with_digit-number.ensures.value
          ∙ c.loop-rest.invariant.same;
    }
