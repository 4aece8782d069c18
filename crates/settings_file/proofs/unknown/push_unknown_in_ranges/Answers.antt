use Rattle.std.proofs.Common.{◌≡◌, ◌++◌, ◌∷◌, [], ◌∙◌, ap, arith, subst}
use Rattle.std.specs.Prelude.{string_bytes}
use Rattle.std.proofs.lemmas.Grind.{common_steps}
use Rattle.toml.specs.View.{view, members_view}
use Rattle.toml.proofs.Views.{Entry}
use Rattle.settings_file.specs.Names.{range_prefix}
use Rattle.settings_file.specs.Unknown.{unknown_in_ranges, unknown_of}
use Rattle.settings_file.specs.declared.unknown.Level.TheVariants.{OfRange}
use Rattle.settings_file.proofs.Lists.{one_range_more, no_range_more}
use Rattle.settings_file.proofs.unknown.push_unknown_in_ranges.Goals as goal

pub loop-input-preserved : goal.loop-input-preserved
loop-input-preserved c =
    let e : Entry = (c.in-Some.input.now, c.in-Some.value.now) in
    let iter : c.loop-input.input-iterator ≡ e ∷ c.next.new.self = grind (arith, common_steps) in
    let inv = subst (λ x. c.loop-input.names ++ unknown_in_ranges (members_view x) ≡ c.args.names.now ++ unknown_in_ranges (members_view c.args.table.now.entries)) iter c.loop-input.invariant.2 in
    let prefix = c.as_slice.ensures ∙ (c.in_ok-prefix.ensures ∙ ap range_prefix c.as_str.ensures.value) in (
      tt,
      tt,
      one_range_more c.loop-input.names c.push_unknown_of.new.names _ (string_bytes e.0) (view e.1) (members_view c.next.new.self) inv
          (c.in_ok-push_unknown_of.ensures ∙ ap (λ p. c.loop-input.names ++ unknown_of OfRange p (view e.1)) prefix),
    )

pub returns : goal.returns
returns c =
    let none : c.loop-input.input-iterator ≡ [] = grind (arith, common_steps) in
    no_range_more c.loop-input.names _ (rw none at c.loop-input.invariant.2)
