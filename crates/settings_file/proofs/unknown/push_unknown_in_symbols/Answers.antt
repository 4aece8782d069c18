use Rattle.std.proofs.Common.{◌∙◌, ◌++◌, ◌+◌, sym, ap, drop}
use Rattle.toml.specs.View.{view, items_view}
use Rattle.settings_file.specs.Unknown.{unknown_in_symbols, unknown_of}
use Rattle.settings_file.specs.declared.unknown.Level.TheVariants.{OfSymbol}
use Rattle.settings_file.proofs.Lists.{one_symbol_more, no_symbol_more, drop_values, drop_past}
use Rattle.settings_file.proofs.unknown.push_unknown_in_symbols.Goals as goal

pub loop-i-preserved : goal.loop-i-preserved
loop-i-preserved c =
    let step = drop_values c.args.values.now c.loop-i.i c.index-values-i.result c.index-values-i.is c.loop-i-test.true in
    let prefix = c.as_slice.ensures ∙ c.in_ok-prefix.ensures in
    one_symbol_more c.loop-i.names c.push_unknown_of.new.names _ c.loop-i.i (view c.index-values-i.result) (items_view (drop (c.loop-i.i + 1) c.args.values.now))
    (ap (λ x. c.loop-i.names ++ unknown_in_symbols c.loop-i.i x) (sym step) ∙ c.loop-i.invariant)
    (c.in_ok-push_unknown_of.ensures ∙ ap (λ p. c.loop-i.names ++ unknown_of OfSymbol p (view c.index-values-i.result)) prefix)

pub returns : goal.returns
returns c =
    let none = drop_past c.args.values.now c.loop-i.i c.loop-i-test.false in
    no_symbol_more c.loop-i.names _ c.loop-i.i (ap (λ x. c.loop-i.names ++ unknown_in_symbols c.loop-i.i x) (sym none) ∙ c.loop-i.invariant)
