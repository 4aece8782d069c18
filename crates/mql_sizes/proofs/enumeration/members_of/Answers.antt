use Rattle.std.proofs.Common.{◌≡◌, ℕ, pos, Some, None, refl, sym, ap, ◌∙◌, ◌+◌, ◌++◌, [], ◌∷◌, drop}
use Rattle.std.proofs.lemmas.List.{append-nil, append_assoc, drop_all}
use Rattle.mql_names.specs.Maps.{meaning}
use Rattle.mql_sizes.specs.Maps.{number_of, value_at, Holds}
use Rattle.mql_sizes.specs.Members.{members_of, enumerations_of, all_members, one_more}
use Rattle.mql_sizes.proofs.Held.{valued, value_held, none_held, nothing_held, same_values, members_init, held_as, member_more, enumeration_more, members_append, from_place, enumeration_made}
use Rattle.mql_sizes.proofs.enumeration.members_of.Goals as goal

pub loop-e-init : goal.loop-e-init
loop-e-init c = λ ms h. (
  members_init (meaning c.args.names.now) ms c.new-members.result c.args.enumerators.now c.new-members.ensures,
  held_as c.args.values ms (ms ++ c.new-members.result) (sym (ap (λ xs. ms ++ xs) c.new-members.ensures ∙ append-nil ms)) h,
)

pub loop-e-preserved : goal.loop-e-preserved
loop-e-preserved c = λ ms h.
    let inv = c.loop-e.invariant ms h in
    let names = meaning c.args.names.now in
    let m = c.loop-e.members in
    let x = c.e-item.result in
    let v = c.in_ok-value.value in
    let rest = drop (c.loop-e.e-index + 1) c.args.enumerators.now in
    let at = from_place c.args.enumerators.now c.loop-e.e-index x c.loop-e-test.true c.e-item.is in
    let ps : c.in_ok-members.members ≡ m ++ valued x.name v ∷ [] = c.in_ok-members.ensures ∙ ap (λ n. m ++ valued n v ∷ []) c.as_slice.ensures in
    let held : Holds c.in_ok-values.values ((ms ++ m) ++ valued x.name v ∷ []) =
    held_as c.in_ok-values.values ((ms ++ m) ++ valued c.as_slice-in-loop-e.result.now (number_of c.member_value.result) ∷ []) ((ms ++ m) ++ valued x.name v ∷ [])
    (ap (λ n. (ms ++ m) ++ valued n (number_of c.member_value.result) ∷ []) c.as_slice-in-loop-e.ensures ∙ ap (λ u. (ms ++ m) ++ valued x.name u ∷ []) c.member_value.ensures) (c.in_ok-values.ensures (ms ++ m) inv.1) in (
      ap (λ xs. xs ++ members_of names (ms ++ xs) c.one_more-next.result rest) ps
          ∙ ap (λ n. (m ++ valued x.name v ∷ []) ++ members_of names (ms ++ (m ++ valued x.name v ∷ [])) n rest) c.one_more-next.ensures
          ∙ member_more names (value_at c.loop-e.values) ms m c.loop-e.next x rest v (same_values c.loop-e.values (ms ++ m) inv.1) c.in_ok-value.ensures
          ∙ ap (λ l. m ++ members_of names (ms ++ m) c.loop-e.next l) (sym at) ∙ inv.0,
      held_as c.in_ok-values.values ((ms ++ m) ++ valued x.name v ∷ []) (ms ++ c.in_ok-members.members)
          (append_assoc ms m (valued x.name v ∷ []) ∙ ap (λ xs. ms ++ xs) (sym ps)) held,
    )

pub returns : goal.returns
returns c = λ ms h.
    let inv = c.loop-e.invariant ms h in (
      sym (append-nil c.loop-e.members)
          ∙ sym (ap (λ l. c.loop-e.members ++ members_of (meaning c.args.names.now) (ms ++ c.loop-e.members) c.loop-e.next l) (drop_all _ _ c.loop-e-test.false)) ∙ inv.0,
      inv.1,
    )
