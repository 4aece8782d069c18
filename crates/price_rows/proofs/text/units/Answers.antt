use Rattle.std.proofs.Common.{◌≡◌, ◌∙◌, sym, true, rules, eqb-true}
use Rattle.std.proofs.lemmas.Bool.{eqb-false}
use Rattle.std.specs.Result.{is_ok}
use Rattle.price_rows.proofs.Texts.{units_first, units_none, units_all}
use Rattle.price_rows.proofs.text.units.Goals as goal

pub loop-rest-preserved : goal.loop-rest-preserved
loop-rest-preserved c =
    let good : is_ok c.push.result ≡ true = search rules in
    let items = rw good at c.push.ensures.items in
    rw (items, c.narrow.ensures) (c.loop-rest.invariant ∙ units_first c.loop-rest.text.items c.loop-rest.rest.now c.in-len2-up.len_at_least)

pub returns-then-is_empty : goal.returns-then-is_empty
returns-then-is_empty c = sym (c.loop-rest.invariant ∙ units_all c.loop-rest.text.items c.loop-rest.rest.now (eqb-true _ _ (sym c.is_empty.ensures ∙ c.if-is_empty.true)))

pub returns : goal.returns
returns c = sym (c.loop-rest.invariant ∙ units_none c.loop-rest.text.items c.loop-rest.rest.now c.in_default.len_below (eqb-false _ _ (sym c.is_empty.ensures ∙ c.if-is_empty.false)))
