use Rattle.std.proofs.Common.{arith, FitsSigned, w64}
use Rattle.std.proofs.lemmas.Int.{ints, to_z-of_z}
use Rattle.report.proofs.Written.{quote_written}
use Rattle.report.proofs.quote.push_quote_line.Goals as goal

pub returns : goal.returns
returns c =
    let fits : FitsSigned w64 c.args.quote.now.time_ms = omega (arith, ints, c.requires.from_1970, c.requires.to_2999) in
    let time = simp to_z-of_z at c.in_ok-push_time.ensures in
    quote_written c.push_loudness.result c.args.name.now c.args.quote.now c.args.text.now c.push_time.new.text c.push_name.new.text c.push_prices.new.text c.push_loudness.new.text
    time c.in_ok-push_name.ensures c.in_ok-push_prices.ensures c.push_loudness.ensures
