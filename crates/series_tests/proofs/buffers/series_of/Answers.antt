use Rattle.std.proofs.Common.{◌≡◌, ◌+◌, ◌≤◌, ◌^◌, List, [], ◌∷◌, ◌++◌, length, take, sym, subst, arith}
use Rattle.std.specs.List.{All}
use Rattle.std.proofs.lemmas.List.{length_push, length-take-le}
use Rattle.std.proofs.lemmas.List.Elements.{All-take, All-push, All-weaker}
use Rattle.market_types.specs.declared.quote.Quote.{Quote}
use Rattle.market_data.specs.Quotes.{IsQuote}
use Rattle.series.specs.Bars.{lots}
use Rattle.series_tests.proofs.buffers.series_of.Goals as goal

abbrev IsFirst : Quote → Type 0
IsFirst q = IsQuote q × (q.symbol ≡ 0) × (lots q ≤ 2 ^ 63)

abbrev IsSmall : Quote → Type 0
IsSmall q = lots q ≤ 2 ^ 63

pub push-requires-in-loop-quote-clause-volumes : goal.push-requires-in-loop-quote-clause-volumes
push-requires-in-loop-quote-clause-volumes c =
    let all = c.args.quotes.now in
    let i = c.loop-quote.quote-index in
    let q = c.quote-item.result in
    let xs : List Quote = take i all in
    let small : All IsSmall all = All-weaker IsFirst IsSmall (λ (r : Quote) (p : IsFirst r). p.2) all c.requires.quotes in
    let last : IsSmall q = subst IsSmall (sym c.quote-item.is) (small i q c.loop-quote-test.true) in
    let taken : length xs ≡ i = length-take-le i all (omega (arith, c.loop-quote-test.true)) in
    let pushed : length (xs ++ q ∷ []) ≡ length xs + 1 = length_push xs q in (
      xs,
      c.loop-quote.invariant.stands,
      c.few_quotes_fit.ensures c.loop-quote.series (xs ++ q ∷ [])
          (omega (arith, taken, pushed, c.loop-quote-test.true, c.requires.few)) (All-push IsSmall xs q (All-take IsSmall i all small) last),
    )
