use Rattle.std.proofs.Common.{◌<◌, List, map, length, get_or, ap, sym, ◌∙◌, subst}
use Rattle.series.specs.Stored.{Histories}
use Rattle.series.specs.Symbols.{histories, FitEach}
use Rattle.series.specs.Stands.{Kept, StandsFor, digits}
use Rattle.series.proofs.Standing.{pushed_fits, all_pushed, same_digits, ok_gives, either_way}
use Rattle.series.proofs.series.Series.push.Goals as goal

pub take-requires-clause-volumes : goal.take-requires-clause-volumes
take-requires-clause-volumes c = λ none.
    let q = c.args.quote.now in
    let v = c.requires.volumes in
    subst (λ (k : Kept). FitEach q (get_or k.symbols q.symbol none)) (sym c.self.view_is)
    (pushed_fits c.args.self.now.symbols q v.0 none c.requires.symbol v.1 (v.2 q.symbol none c.requires.symbol))

pub returns-clause-taken : goal.returns-clause-taken
returns-clause-taken c =
    let q = c.args.quote.now in
    let old = map histories c.self.inside.symbols.items in
    let new = map histories c.take.new.symbols.items in
    let within : q.symbol < length old = subst (λ (k : Kept). q.symbol < length k.symbols) (sym c.self.view_is) c.requires.symbol in
    ok_gives c.take.result _ _ c.take.ensures.taken
    (λ is quotes stand. all_pushed old new q within is quotes (subst (λ (k : Kept). StandsFor k quotes) (sym c.self.view_is) stand))

pub returns-clause-digits : goal.returns-clause-digits
returns-clause-digits c =
    let old = map histories c.self.inside.symbols.items in
    let new = map histories c.take.new.symbols.items in
    either_way c.take.result _ _ _ c.take.ensures.taken c.take.ensures.refused (λ is. same_digits old new c.args.quote.now is)
    (λ same. ap (λ (hs : List Histories). map (λ (s : Histories). s.digits) hs) same)
    ∙ ap digits c.self.view_is
