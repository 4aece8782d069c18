use Rattle.std.proofs.Common.{refl, sym, ap, subst, ◌∙◌, ◌++◌, [], ◌∷◌, take}
use Rattle.std.proofs.lemmas.List.{take_more}
use Rattle.mql_names.specs.Faults.{told, sooner}
use Rattle.mql_names.specs.Scopes.{repeated}
use Rattle.mql_names.specs.Maps.{Holds}
use Rattle.mql_names.proofs.Scopes.{nothing_held, told_more}
use Rattle.mql_names.proofs.scope.repeated.Goals as goal

pub loop-named-init : goal.loop-named-init
loop-named-init c = record {
  first = refl;
  holds = nothing_held c.new.result c.new-2.result c.new-3.result c.new.ensures.empty c.new-2.ensures.empty c.new-3.ensures.empty;
}

pub loop-named-preserved : goal.loop-named-preserved
loop-named-preserved c =
    let e = take_more c.args.names.now c.loop-named.named-index c.named-item.result c.loop-named-test.true ∙ ap (λ x. take c.loop-named.named-index c.args.names.now ++ x ∷ []) (sym c.named-item.is) in
    record {
      first =
          c.sooner-first.ensures
          ∙ ap (sooner c.loop-named.first) c.break_if.ensures
          ∙ told_more (take c.loop-named.named-index c.args.names.now) c.named-item.result c.loop-named.first c.is_taken.result c.loop-named.invariant.first
          (c.is_taken.ensures (take c.loop-named.named-index c.args.names.now) c.loop-named.invariant.holds)
          ∙ ap (λ xs. told (repeated [] xs)) (sym e);
      holds = subst (Holds c.in_ok-taken.taken) (sym e) (c.in_ok-taken.ensures (take c.loop-named.named-index c.args.names.now) c.loop-named.invariant.holds);
    }
