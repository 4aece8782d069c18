use Rattle.std.proofs.Common.{◌≡◌, ℕ, pos, Some, None, refl, sym, ap, ◌∙◌, ◌+◌, ◌++◌, [], ◌∷◌, drop}
use Rattle.std.proofs.lemmas.List.{append-nil, append_assoc, drop_all}
use Rattle.mql_names.specs.Maps.{meaning}
use Rattle.mql_sizes.specs.Maps.{number_of, value_at, Holds}
use Rattle.mql_sizes.specs.Members.{members_of, enumerations_of, all_members, one_more}
use Rattle.mql_sizes.proofs.Held.{valued, value_held, none_held, nothing_held, same_values, members_init, held_as, member_more, enumeration_more, members_append, from_place, enumeration_made}
use Rattle.mql_sizes.proofs.enumeration.with_value.Goals as goal

pub returns-in-None : goal.returns-in-None
returns-in-None c = λ ms h.
    held_as c.args.values (ms ++ valued c.args.name.now None ∷ []) (ms ++ valued c.args.name.now (number_of c.args.value) ∷ [])
    (ap (λ v. ms ++ valued c.args.name.now (number_of v) ∷ []) (sym c.in-None.is)) (none_held c.args.values c.args.name.now ms h)

pub returns-in_ok-insert-in-Some : goal.returns-in_ok-insert-in-Some
returns-in_ok-insert-in-Some c = λ ms h.
    held_as c.insert.new.self (ms ++ valued c.args.name.now (number_of (Some c.in-Some.member)) ∷ []) (ms ++ valued c.args.name.now (number_of c.args.value) ∷ [])
    (ap (λ v. ms ++ valued c.args.name.now (number_of v) ∷ []) (sym c.in-Some.is))
    (value_held c.args.values c.insert.new.self c.args.name.now c.in-Some.member ms c.in_ok-insert-in-Some.ensures.updates h)
