use Rattle.std.proofs.Common.{◌≡◌, ℕ, pos, Some, None, refl, sym, ap, ◌∙◌, ◌+◌, ◌++◌, [], ◌∷◌, drop}
use Rattle.std.proofs.lemmas.List.{append-nil, append_assoc, drop_all}
use Rattle.mql_names.specs.Maps.{meaning}
use Rattle.mql_sizes.specs.Maps.{value_at, Holds}
use Rattle.mql_sizes.specs.Members.{members_of, enumerations_of, all_members, one_more}
use Rattle.mql_sizes.proofs.Held.{valued, value_held, none_held, nothing_held, same_values, members_init, held_as, member_more, enumeration_more, members_append, from_place, enumeration_made}
use Rattle.mql_sizes.proofs.enumeration.enumeration_of.Goals as goal

pub returns : goal.returns
returns c = λ ms h.
    let r = c.in_ok-members.ensures ms h in (
      enumeration_made (meaning c.args.names.now) ms c.args.e.now c.in_ok-name.name c.in_ok-members.members (c.in_ok-name.ensures ∙ c.as_slice-2.ensures)
          (r.0 ∙ ap (members_of (meaning c.args.names.now) ms (Some (pos 0))) c.as_slice.ensures),
      r.1,
    )
