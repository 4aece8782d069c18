use Rattle.std.proofs.Common.{◌≡◌, Some, ℤ, FitsSigned, to_z, of_z, w64, sym, subst, ap, arith}
use Rattle.std.specs.Prelude.{slice_set}
use Rattle.std.proofs.lemmas.Int.{ints, to_z-of_z}
use Rattle.desk.specs.Quotes.{MayQuote}
use Rattle.desk.specs.State.{Quoted}
use Rattle.desk.proofs.Quoting.{quoted_on}
use Rattle.desk.proofs.quoted.QuotedLedger.set_quote.Goals as goal

pub invariant_of-self : goal.invariant_of-self
invariant_of-self c =
    let q : Quoted = record { spec = c.self.inside.ledger.spec; events = c.self.inside.ledger.events; prices = c.self.inside.prices; times = c.self.inside.times.items } in
    let m : MayQuote q c.args.quote.now = subst (λ (x : Quoted). MayQuote x c.args.quote.now) (sym c.self.view_is) c.requires in
    let fits : FitsSigned w64 c.args.quote.now.time_ms = omega (arith, ints, m.moment.from, m.moment.to) in
    let t : to_z w64 (of_z w64 c.args.quote.now.time_ms) ≡ c.args.quote.now.time_ms = to_z-of_z w64 c.args.quote.now.time_ms fits in
    quoted_on q c.args.quote.now c.set.new.self (slice_set c.self.inside.times.items c.args.quote.now.symbol (Some (to_z w64 (of_z w64 c.args.quote.now.time_ms)))) m c.self.invariant.1 c.self.invariant.0 c.set.ensures
    (ap (λ (z : ℤ). slice_set c.self.inside.times.items c.args.quote.now.symbol (Some z)) t)
