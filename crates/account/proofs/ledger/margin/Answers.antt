use Rattle.account.proofs.Kept.{few_held}
use Rattle.account.proofs.ledger.margin.Goals as goal

pub margin_by-requires-clause-few : goal.margin_by-requires-clause-few
margin_by-requires-clause-few c = rw c.as_slice.ensures.value (few_held c.args.spec.now c.args.books.now c.requires.books)
