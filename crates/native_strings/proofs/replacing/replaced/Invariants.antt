use Rattle.std.proofs.Common.{◌≡◌, ◌+◌, ◌-◌, ◌≤◌, ◌++◌, drop, length}
use Rattle.mql_meaning.specs.StringFunctions.{replaced}
use Rattle.native_strings.proofs.replacing.replaced.Given as goal

abbrev pub invariant-loop-place : goal.invariant-loop-place
invariant-loop-place l = record {
  text : l.out ++ (replaced l.part l.by 0 (drop l.place l.text)).text ≡ (replaced l.part l.by 0 l.text).text;
  count : l.count + (replaced l.part l.by 0 (drop l.place l.text)).count ≡ (replaced l.part l.by 0 l.text).count;
  few : l.count ≤ l.place;
  within : l.place ≤ length l.text;
}

abbrev pub decreases-loop-place : goal.decreases-loop-place
decreases-loop-place l = length l.text - l.place
