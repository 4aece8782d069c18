use Rattle.std.proofs.Common.{◌≡◌, ◌++◌, ◌∷◌, [], ◌∙◌, ap, sym, arith, subst}
use Rattle.std.specs.Prelude.{string_bytes}
use Rattle.std.proofs.lemmas.Grind.{common_steps}
use Rattle.toml.specs.View.{view, members_view}
use Rattle.toml.proofs.Views.{Entry}
use Rattle.settings_file.specs.Unknown.{unknown_in}
use Rattle.settings_file.proofs.Lists.{kept, skipped, no_more}
use Rattle.settings_file.proofs.unknown.push_unknown.Goals as goal

pub loop-key-preserved-in-Continue-branch-3 : goal.loop-key-preserved-in-Continue-branch-3
loop-key-preserved-in-Continue-branch-3 c =
    let e : Entry = (c.in-Some.key.now, c.in-Some._value.now) in
    let iter : c.loop-key.key-iterator ≡ e ∷ c.next.new.self = grind (arith, common_steps) in
    let known = rw c.as_str.ensures.value at (sym c.is_known.ensures ∙ c.if-not-is_known.true) in
    let inv = subst (λ x. c.loop-key.names ++ unknown_in c.args.level c.args.prefix.now (members_view x) ≡ c.args.names.now ++ unknown_in c.args.level c.args.prefix.now (members_view c.args.table.now.entries)) iter c.loop-key.invariant.2 in
    let name : c.extend_from_slice.new.self ≡ c.args.prefix.now ++ string_bytes e.0 = c.in_ok-extend_from_slice.ensures.ok ∙ ap (λ x. x ++ c.as_bytes.result.now) c.in_ok-name.ensures ∙ ap (λ x. c.args.prefix.now ++ x) c.as_bytes.ensures.value in
    let pushed = rw name at c.in_ok-push.ensures.ok in
    (tt, tt, kept c.loop-key.names c.push.new.self _ c.args.level c.args.prefix.now (string_bytes e.0) (view e.1) (members_view c.next.new.self) known inv pushed)

pub loop-key-preserved : goal.loop-key-preserved
loop-key-preserved c =
    let e : Entry = (c.in-Some.key.now, c.in-Some._value.now) in
    let iter : c.loop-key.key-iterator ≡ e ∷ c.next.new.self = grind (arith, common_steps) in
    let known = rw c.as_str.ensures.value at (sym c.is_known.ensures ∙ c.if-not-is_known.false) in
    let inv = subst (λ x. c.loop-key.names ++ unknown_in c.args.level c.args.prefix.now (members_view x) ≡ c.args.names.now ++ unknown_in c.args.level c.args.prefix.now (members_view c.args.table.now.entries)) iter c.loop-key.invariant.2 in
    (tt, tt, skipped c.loop-key.names _ c.args.level c.args.prefix.now (string_bytes e.0) (view e.1) (members_view c.next.new.self) known inv)

pub returns : goal.returns
returns c =
    let none : c.loop-key.key-iterator ≡ [] = grind (arith, common_steps) in
    no_more c.loop-key.names _ c.args.level c.args.prefix.now (rw none at c.loop-key.invariant.2)
