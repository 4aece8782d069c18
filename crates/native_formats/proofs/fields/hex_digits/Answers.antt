use Rattle.std.proofs.Common.{◌+◌, ◌-◌, ◌/◌, List, reverse, ap, ◌∙◌}
use Rattle.std.specs.Prelude.{ℕ}
use Rattle.mql_meaning.specs.Formats.{hex}
use Rattle.native_formats.proofs.Sixteens.{last_one, no_more, none_yet, one_more}
use Rattle.native_formats.proofs.fields.hex_digits.Goals as goal

pub loop-i-init : goal.loop-i-init
loop-i-init c = none_yet c.args.places c.args.ten c.args.n c.new-digits.result c.new-digits.ensures

pub loop-i-preserved : goal.loop-i-preserved
loop-i-preserved c =
    ap (λ (out : List ℕ). hex (c.args.places - (c.loop-i.i + 1)) c.args.ten (c.loop-i.left / 16) (reverse out))
    c.in_ok-push.ensures.ok
    ∙ one_more c.args.places c.loop-i.i c.args.ten c.loop-i.left c.hex_digit.result c.loop-i.digits _
    c.loop-i-test.true c.if-left-eq0.false c.hex_digit.ensures c.loop-i.invariant

pub returns-then-left-eq0 : goal.returns-then-left-eq0
returns-then-left-eq0 c =
    c.reversed.ensures ∙ ap reverse c.in_ok-push.ensures.ok
    ∙ last_one c.args.places c.loop-i.i c.args.ten c.loop-i.left c.hex_digit.result c.loop-i.digits _
    c.loop-i-test.true c.if-left-eq0.true c.hex_digit.ensures c.loop-i.invariant

pub returns : goal.returns
returns c =
    c.reversed-2.ensures
    ∙ no_more c.args.places c.loop-i.i c.args.ten c.loop-i.left c.loop-i.digits _ c.loop-i-test.false
    c.loop-i.invariant
