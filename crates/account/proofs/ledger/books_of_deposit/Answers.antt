use Rattle.std.proofs.Common.{◌≡◌, ◌∷◌, [], rules}
use Rattle.std.proofs.lemmas.List.Elements.{All-nil}
use Rattle.account.specs.Ranges.{IsHeld}
use Rattle.account.specs.Journal.{deposit_deal}
use Rattle.account.specs.declared.event.Event.TheVariants as event
use Rattle.account.proofs.Kept.{margin_of_none}
use Rattle.account.proofs.ledger.books_of_deposit.Goals as goal

pub returns : goal.returns
returns c =
    let e : c.push.new.self.items ≡ event.Added (deposit_deal c.args.spec.now) ∷ [] = search rules in (
      record {
        listed = search rules;
        held = search rules;
        summed = search rules;
        first = search rules;
        few = search rules;
        each_held = rw e (All-nil IsHeld);
        margin_fits = rw e (margin_of_none c.args.spec.now.hedging c.args.spec.now.specs c.args.spec.now.leverage);
      },
      e,
    )
