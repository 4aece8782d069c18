use Rattle.std.proofs.Common.{sym, ap, ◌∙◌, ◌++◌, [], ◌∷◌, take}
use Rattle.std.proofs.lemmas.List.{take_more}
use Rattle.mql_names.specs.Maps.{meaning}
use Rattle.mql_names.specs.Things.{member_things}
use Rattle.mql_names.proofs.Joined.{each_more}
use Rattle.mql_names.proofs.items.members_told.Goals as goal

pub loop-member-preserved : goal.loop-member-preserved
loop-member-preserved c =
    let e = take_more c.args.members.now c.loop-member.member-index c.member-item.result c.loop-member-test.true ∙ ap (λ x. take c.loop-member.member-index c.args.members.now ++ x ∷ []) (sym c.member-item.is) in
    rw e (c.sooner-told.ensures ∙ each_more (meaning c.args.names.now) member_things (take c.loop-member.member-index c.args.members.now) c.member-item.result c.loop-member.told c.in_ok-member_told.field-0 c.loop-member.invariant c.in_ok-member_told.ensures)
