use Rattle.std.proofs.Common.{refl, subst}
use Rattle.desk.specs.Effect.{effect}
use Rattle.desk.specs.Quotes.{Quotes}
use Rattle.desk.specs.State.{DeskState}
use Rattle.desk.proofs.Answered.{desk_of, desk_leaves}
use Rattle.desk.proofs.Whole.{at_quote}
use Rattle.desk.proofs.desk.Desk.quote.Goals as goal

pub returns-clause-effect : goal.returns-clause-effect
returns-clause-effect g c =
    let books = c.self.inside.books in
    subst (λ (a : DeskState). Quotes a c.args.quote.now c.effect.result (desk_of c.effect.new.books c.self.inside.requests)) c.self.view_is
    (desk_leaves (desk_of books c.self.inside.requests) (at_quote c.args.quote.now books) c.effect.new.books (effect books.quoted c.args.quote.now) c.effect.result refl c.effect.ensures.runs)
