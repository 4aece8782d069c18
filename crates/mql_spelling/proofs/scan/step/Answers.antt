use Rattle.std.proofs.Common.{ap, ◌∙◌, Option}
use Rattle.std.specs.Prelude.{◌∷◌, option_map}
use Rattle.mql_spelling.specs.Onward.{after}
use Rattle.mql_spelling.specs.declared.scan.State.{State}
use Rattle.mql_spelling.specs.declared.sign.Sign as sign
use Rattle.mql_spelling.specs.declared.lexeme.Lexeme.TheVariants.{Sign}
use Rattle.mql_spelling.proofs.Signs.{four_units}
use Rattle.mql_spelling.proofs.scan.step.Goals as goal

pub returns-in-Three : goal.returns-in-Three
returns-in-Three c = λ rest.
    ap (λ (s : State). after s (c.args.unit ∷ rest)) c.in-Three.is
    ∙ ap (λ (o : Option sign.Sign). option_map Sign o) (four_units _ _ _ c.args.unit rest)
