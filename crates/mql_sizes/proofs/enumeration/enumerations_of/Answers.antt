use Rattle.std.proofs.Common.{◌≡◌, ℕ, pos, Some, None, refl, sym, ap, ◌∙◌, ◌+◌, ◌++◌, [], ◌∷◌, drop}
use Rattle.std.proofs.lemmas.List.{append-nil, append_assoc, drop_all}
use Rattle.mql_names.specs.Maps.{meaning}
use Rattle.mql_sizes.specs.Maps.{value_at, Holds}
use Rattle.mql_sizes.specs.Members.{members_of, enumerations_of, all_members, one_more}
use Rattle.mql_sizes.proofs.Held.{valued, value_held, none_held, nothing_held, same_values, members_init, held_as, member_more, enumeration_more, members_append, from_place, enumeration_made}
use Rattle.mql_sizes.proofs.enumeration.enumerations_of.Goals as goal

pub loop-item-init : goal.loop-item-init
loop-item-init c = (
  ap (λ xs. xs ++ enumerations_of (meaning c.args.names.now) (all_members xs) c.args.items.now) c.new-found.ensures,
  held_as c.new-values.result [] (all_members c.new-found.result) (sym (ap all_members c.new-found.ensures)) (nothing_held c.new-values.result c.new-values.ensures.empty),
)

pub loop-item-preserved : goal.loop-item-preserved
loop-item-preserved c =
    let r = c.in_ok-more.ensures c.loop-item.invariant.1 in
    let at = from_place c.args.items.now c.loop-item.item-index c.item-item.result c.loop-item-test.true c.item-item.is in (
      r.0 (drop (c.loop-item.item-index + 1) c.args.items.now)
          ∙ ap (λ l. c.loop-item.found ++ enumerations_of (meaning c.args.names.now) (all_members c.loop-item.found) l) (sym at) ∙ c.loop-item.invariant.0,
      r.1,
    )

pub returns : goal.returns
returns c = (
  sym (append-nil c.loop-item.found)
      ∙ sym (ap (λ l. c.loop-item.found ++ enumerations_of (meaning c.args.names.now) (all_members c.loop-item.found) l) (drop_all _ _ c.loop-item-test.false)) ∙ c.loop-item.invariant.0,
  c.loop-item.invariant.1,
)
