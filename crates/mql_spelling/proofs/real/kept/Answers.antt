use Rattle.std.proofs.Common.{length, ◌-◌}
use Rattle.mql_spelling.proofs.Powers.{kept_none, kept_high, kept_some, zeros}
use Rattle.mql_spelling.proofs.real.kept.Goals as goal

pub returns-in-None : goal.returns-in-None
returns-in-None c = λ k h. kept_none c.args.digits.now _ c.args.places k c.min-count.result h c.min-count.ensures c.split_at.ensures.front c.in-None.ensures

pub returns-in-Some-shifted : goal.returns-in-Some-shifted
returns-in-Some-shifted c = λ k h. kept_some c.args.digits.now _ c.args.places k c.min-count.result _ _ _ _ h c.min-count.ensures c.split_at.ensures.front c.in-Some.ensures (c.in-Some-shifted.ensures (k - length c.args.digits.now) (zeros c.args.places k (length c.args.digits.now) c.min-count.result c.min.result h c.min-count.ensures c.min.ensures)) c.half.ensures.value c.sum_of.ensures

pub returns-in-None-shifted : goal.returns-in-None-shifted
returns-in-None-shifted c = λ k h. kept_high c.args.digits.now _ c.args.places k c.min-count.result _ h c.min-count.ensures c.split_at.ensures.front c.in-Some.ensures (c.in-None-shifted.ensures (k - length c.args.digits.now) (zeros c.args.places k (length c.args.digits.now) c.min-count.result c.min.result h c.min-count.ensures c.min.ensures))
