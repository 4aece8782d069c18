use Rattle.std.proofs.Common.{◌≡◌, ◌+◌, drop, Some, None, sym, subst}
use Rattle.settings_file.specs.Symbols.{odd_or, odd_volumes_from, volumes_at_odds}
use Rattle.settings_file.proofs.Gathered.{odd_more, odd_none}
use Rattle.settings_file.proofs.judging.first_odd.Goals as goal

pub returns-in-Some : goal.returns-in-Some
returns-in-Some c =
    let found : volumes_at_odds c.index-symbols-i.result ≡ Some c.in-Some.key.now = sym c.in-Some.ensures in
    subst (λ o. odd_or c.loop-i.i o (odd_volumes_from (c.loop-i.i + 1) (drop (c.loop-i.i + 1) c.args.symbols.now)) ≡ odd_volumes_from 0 c.args.symbols.now) found
    (odd_more c.args.symbols.now c.index-symbols-i.result c.loop-i.i _ c.loop-i-test.true c.index-symbols-i.is c.loop-i.invariant)

pub loop-i-preserved : goal.loop-i-preserved
loop-i-preserved c =
    let found : volumes_at_odds c.index-symbols-i.result ≡ None = sym c.in_default.ensures in
    subst (λ o. odd_or c.loop-i.i o (odd_volumes_from (c.loop-i.i + 1) (drop (c.loop-i.i + 1) c.args.symbols.now)) ≡ odd_volumes_from 0 c.args.symbols.now) found
    (odd_more c.args.symbols.now c.index-symbols-i.result c.loop-i.i _ c.loop-i-test.true c.index-symbols-i.is c.loop-i.invariant)

pub returns : goal.returns
returns c = sym (odd_none c.args.symbols.now c.loop-i.i _ c.loop-i-test.false c.loop-i.invariant)
