use Rattle.std.proofs.Common.{◌∷◌, [], rules, arith}
use Rattle.fx8.proofs.Written.{few_units, small_step, written_step, written_last, written_all, digit_pushed, kept_more}
use Rattle.fx8.proofs.decimal_print.write_decimals.Goals as goal

pub digit-requires-clause-few : goal.digit-requires-clause-few
digit-requires-clause-few c = few_units c.loop-place.place c.loop-place.rest c.unit_of_place-unit.result (omega arith) c.unit_of_place-unit.ensures.value c.loop-place.invariant.small

pub returns-then-rest-eq0-clause-ok : goal.returns-then-rest-eq0-clause-ok
returns-then-rest-eq0-clause-ok c =
    written_last c.loop-place.place c.loop-place.rest c.unit_of_place-unit.result c.loop-place.out c.push.new.self _ (omega arith) c.unit_of_place-unit.ensures.value (search rules)
    (digit_pushed c.loop-place.rest c.unit_of_place-unit.result c.digit.result c.loop-place.out c.push.new.self (search rules) c.digit.ensures) c.loop-place.invariant.written

pub loop-place-preserved : goal.loop-place-preserved
loop-place-preserved c = record {
  small = small_step c.loop-place.place c.loop-place.rest c.unit_of_place-unit.result c.unit_of_place-unit.ensures.value;
  written = written_step c.loop-place.place c.loop-place.rest c.unit_of_place-unit.result c.loop-place.out c.push.new.self _ (omega arith) c.unit_of_place-unit.ensures.value (search rules)
      (digit_pushed c.loop-place.rest c.unit_of_place-unit.result c.digit.result c.loop-place.out c.push.new.self (search rules) c.digit.ensures) c.loop-place.invariant.written;
  kept = kept_more c.args.out.now c.loop-place.out c.push.new.self (c.digit.result ∷ []) c.loop-place.invariant.kept (search rules);
}

pub returns-clause-ok : goal.returns-clause-ok
returns-clause-ok c = written_all c.loop-place.place c.loop-place.rest c.loop-place.out _ (omega arith) c.loop-place.invariant.written
