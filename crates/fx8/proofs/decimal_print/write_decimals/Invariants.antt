use Rattle.std.proofs.Common.{◌≡◌, ◌++◌, ◌<◌, ◌^◌, ◌-◌, length, take}
use Rattle.fx8.specs.Decimals.{decimals}
use Rattle.fx8.proofs.decimal_print.write_decimals.Given as goal

abbrev pub invariant-loop-place : goal.invariant-loop-place
invariant-loop-place l = record {
  small : l.rest < 10 ^ (9 - l.place);
  written : l.out ++ decimals (9 - l.place) l.rest ≡ l.fn.out ++ decimals 8 l.fn.units;
  kept : take (length l.fn.out) l.out ≡ l.fn.out;
}
