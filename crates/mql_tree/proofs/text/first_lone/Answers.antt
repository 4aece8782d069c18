use Rattle.std.proofs.Common.{sym, ◌∙◌, arith}
use Rattle.mql_tree.proofs.Surrogates.{lone_end, lone_here, search_on}
use Rattle.mql_tree.proofs.text.first_lone.Goals as goal

pub returns-then-count-eq0 : goal.returns-then-count-eq0
returns-then-count-eq0 c =
    sym (lone_here c.loop-rest.place c.loop-rest.rest.now (omega arith) (sym c.front_len-count.ensures.value ∙ c.if-count-eq0.true)) ∙ c.loop-rest.invariant.0

pub loop-rest-preserved : goal.loop-rest-preserved
loop-rest-preserved c = search_on _ _ _ _ _ _ c.loop-rest.invariant c.front_len-count.ensures.value c.front_len-count.ensures.within (omega arith) c.rest_from-rest.ensures

pub returns : goal.returns
returns c = sym (lone_end c.loop-rest.place c.loop-rest.rest.now (omega arith)) ∙ c.loop-rest.invariant.0
