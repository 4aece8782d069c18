use Rattle.std.proofs.Common.{◌≡◌, sym, ◌∙◌, subst, take, true, false}
use Rattle.settings_file.specs.Symbols.{has_name}
use Rattle.settings_file.proofs.Gathered.{double_more, double_here, double_none}
use Rattle.settings_file.proofs.judging.first_double.Goals as goal

pub returns-then-has_name : goal.returns-then-has_name
returns-then-has_name c =
    let found = subst (λ n. has_name n (take c.loop-i.i c.args.symbols.now) ≡ true) c.as_slice.ensures (sym c.has_name.ensures ∙ c.if-has_name.true) in
    sym (double_here c.args.symbols.now c.index-symbols-i.result c.loop-i.i _ c.loop-i-test.true c.index-symbols-i.is c.loop-i.invariant found)

pub loop-i-preserved : goal.loop-i-preserved
loop-i-preserved c =
    let found = subst (λ n. has_name n (take c.loop-i.i c.args.symbols.now) ≡ false) c.as_slice.ensures (sym c.has_name.ensures ∙ c.if-has_name.false) in
    double_more c.args.symbols.now c.index-symbols-i.result c.loop-i.i _ c.loop-i-test.true c.index-symbols-i.is c.loop-i.invariant found

pub returns : goal.returns
returns c = sym (double_none c.args.symbols.now c.loop-i.i _ c.loop-i-test.false c.loop-i.invariant)
