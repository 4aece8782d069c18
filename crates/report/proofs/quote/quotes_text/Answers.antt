use Rattle.std.proofs.Common.{◌<◌, length, sym, subst}
use Rattle.std.specs.Prelude.{All}
use Rattle.market_types.specs.declared.quote.Quote.{Quote}
use Rattle.report.proofs.Lines.{LinesSoFar, lines_at_first, line_more, within_market, rest_within}
use Rattle.report.proofs.quote.quotes_text.Goals as goal

pub loop-quote-init : goal.loop-quote-init
loop-quote-init c = record {
  lines = subst (λ t. LinesSoFar c.args.market.now t c.start-stream.result) (sym c.new-text.ensures) (lines_at_first c.args.market.now c.start-stream.result c.start-stream.ensures.value);
  within = subst (All (λ (q : Quote). q.symbol < length c.args.market.now.listed)) (sym c.start-stream.ensures.value) (within_market c.args.market.now);
}

pub loop-quote-preserved : goal.loop-quote-preserved
loop-quote-preserved c = record {
  lines = line_more c.args.market.now c.loop-quote.text c.push_line.new.text c.in-Some.quote c.loop-quote.stream c.next.new.self c.in-Some.ensures.next c.loop-quote.invariant.lines c.in_ok-push_line.ensures;
  within = rest_within (length c.args.market.now.listed) c.in-Some.quote c.loop-quote.stream c.next.new.self c.in-Some.ensures.next c.loop-quote.invariant.within;
}
