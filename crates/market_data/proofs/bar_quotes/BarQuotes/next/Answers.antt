use Rattle.std.proofs.Common.{◌≡◌, ◌∙◌, ap, arith, ℤ, to_z, of_z, w64}
use Rattle.std.proofs.lemmas.Int.{ints}
use Rattle.market_types.specs.declared.quote.Quote.{Quote}
use Rattle.market_data.specs.Quotes.{IsQuote, is_heard, number_at}
use Rattle.market_data.proofs.StageLaws.{all_given, rest_keeps, next_opening, next_early, next_late, next_closing}
use Rattle.market_data.proofs.bar_quotes.BarQuotes.next.Goals as goal

-- a quote's time fits 64 bits
fits : (q : Quote) → IsQuote q → to_z w64 (of_z w64 q.time_ms) ≡ q.time_ms
fits q is = omega (arith, ints, is.time.from, is.time.to)

pub returns-in_default-clause-next : goal.returns-in_default-clause-next
returns-in_default-clause-next c =
    let s = c.self.inside in
    let none = all_given s.period s.before s.spread s.digits s.bars.now s.stage c.args.self.now c.self.view_is c.in_default.len_below in
    (none, none)

pub invariant_of-self-in-Closing : goal.invariant_of-self-in-Closing
invariant_of-self-in-Closing c = (c.self.invariant.0, c.self.invariant.1, rest_keeps c.self.inside.bars.now c.self.invariant.2)

pub returns-in-Opening-clause-next : goal.returns-in-Opening-clause-next
returns-in-Opening-clause-next c =
    let s = c.self.inside in
    next_opening s.spread s.digits s.bars.now c.bar-item.result s.stage s.period s.before c.number_at-number.result c.is_heard-loud.result
    c.quote_at-quote.result c.with_loud-heard.result c.args.self.now c.self.view_is c.in-len1-up.len_at_least c.bar-item.is c.quote_at-quote.ensures.value
    c.with_loud-heard.ensures.value
    (c.is_heard-loud.ensures ∙ ap (λ (t : ℤ). is_heard s.period s.before t) (fits c.quote_at-quote.result c.quote_at-quote.ensures.ranges))
    (c.number_at-number.ensures ∙ ap (λ (t : ℤ). number_at s.period t) (fits c.quote_at-quote.result c.quote_at-quote.ensures.ranges)) c.in-Opening.is

pub returns-in-Early-clause-next : goal.returns-in-Early-clause-next
returns-in-Early-clause-next c =
    let s = c.self.inside in
    next_early s.spread s.digits s.bars.now c.bar-item.result s.stage s.period s.before c.number_at-number.result c.is_heard-loud.result
    c.quote_at-quote.result c.with_loud-heard.result c.args.self.now c.self.view_is c.in-len1-up.len_at_least c.bar-item.is c.quote_at-quote.ensures.value
    c.with_loud-heard.ensures.value
    (c.is_heard-loud.ensures ∙ ap (λ (t : ℤ). is_heard s.period s.before t) (fits c.quote_at-quote.result c.quote_at-quote.ensures.ranges))
    (c.number_at-number.ensures ∙ ap (λ (t : ℤ). number_at s.period t) (fits c.quote_at-quote.result c.quote_at-quote.ensures.ranges)) c.in-Early.is

pub returns-in-Late-clause-next : goal.returns-in-Late-clause-next
returns-in-Late-clause-next c =
    let s = c.self.inside in
    next_late s.spread s.digits s.bars.now c.bar-item.result s.stage s.period s.before c.number_at-number.result c.is_heard-loud.result
    c.quote_at-quote.result c.with_loud-heard.result c.args.self.now c.self.view_is c.in-len1-up.len_at_least c.bar-item.is c.quote_at-quote.ensures.value
    c.with_loud-heard.ensures.value
    (c.is_heard-loud.ensures ∙ ap (λ (t : ℤ). is_heard s.period s.before t) (fits c.quote_at-quote.result c.quote_at-quote.ensures.ranges))
    (c.number_at-number.ensures ∙ ap (λ (t : ℤ). number_at s.period t) (fits c.quote_at-quote.result c.quote_at-quote.ensures.ranges)) c.in-Late.is

pub returns-in-Closing-clause-next : goal.returns-in-Closing-clause-next
returns-in-Closing-clause-next c =
    let s = c.self.inside in
    next_closing s.spread s.digits s.bars.now c.bar-item.result s.stage s.period s.before c.number_at-number.result c.is_heard-loud.result
    c.quote_at-quote.result c.with_loud-heard.result c.args.self.now c.self.view_is c.in-len1-up.len_at_least c.bar-item.is c.quote_at-quote.ensures.value
    c.with_loud-heard.ensures.value
    (c.is_heard-loud.ensures ∙ ap (λ (t : ℤ). is_heard s.period s.before t) (fits c.quote_at-quote.result c.quote_at-quote.ensures.ranges))
    (c.number_at-number.ensures ∙ ap (λ (t : ℤ). number_at s.period t) (fits c.quote_at-quote.result c.quote_at-quote.ensures.ranges)) c.in-Closing.is
