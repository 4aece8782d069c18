use Rattle.std.proofs.Common.{◌≡◌, ℕ, pos, Some, None, refl, sym, ap, ◌∙◌, ◌+◌, ◌++◌, [], ◌∷◌, drop}
use Rattle.std.proofs.lemmas.List.{append-nil, append_assoc, drop_all}
use Rattle.mql_names.specs.Maps.{meaning}
use Rattle.mql_sizes.specs.Maps.{value_at, Holds}
use Rattle.mql_sizes.specs.Members.{members_of, enumerations_of, all_members, one_more}
use Rattle.mql_sizes.proofs.Held.{valued, value_held, none_held, nothing_held, same_values, members_init, held_as, member_more, enumeration_more, members_append, from_place, enumeration_made}
use Rattle.mql_sizes.proofs.enumeration.with_enumeration.Goals as goal

pub returns : goal.returns
returns c = λ h.
    let names = meaning c.args.names.now in
    let found = c.args.found in
    let one = c.in_ok-one.one in
    let r = c.in_ok-one.ensures (all_members found) h in
    let ps : c.in_ok-found.found ≡ found ++ one ∷ [] = c.in_ok-found.ensures in (
      λ is. ap (λ xs. xs ++ enumerations_of names (all_members xs) is) ps
          ∙ ap (λ b. (found ++ one ∷ []) ++ enumerations_of names b is) (members_append found one) ∙ enumeration_more names found one c.args.e.now is r.0,
      held_as c.in_ok-one.values (all_members found ++ one.members) (all_members c.in_ok-found.found) (sym (members_append found one) ∙ ap all_members (sym ps)) r.1,
    )
