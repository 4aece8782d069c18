use Rattle.std.proofs.Common.{arith, ap, ◌≡◌, ◌+◌, length}
use Rattle.mql_spelling.proofs.Powers.{real_by}
use Rattle.mql_spelling.proofs.real.real_value.Goals as goal

pub returns : goal.returns
returns c =
    let m : c.len-most.result + 20 ≡ length c.as_slice.result.now + 20 = omega (arith, c.len-most.ensures, ap length c.as_slice.ensures) in
    real_by _ _ _ _ _ _ _ _ _ _ _ _ c.in_ok-digits.ensures.value c.as_slice.ensures c.exponent_part-exponent.ensures c.digits_len-before.ensures.value c.has_minus.ensures c.exponent_digits.ensures c.number.ensures c.places_kept-places.ensures m c.value_of.ensures c.double_of.ensures
