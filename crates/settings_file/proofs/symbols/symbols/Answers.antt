use Rattle.std.proofs.Common.{◌∙◌, ◌+◌, sym, ap, drop, subst}
use Rattle.std.specs.Prelude.{All}
use Rattle.std.proofs.lemmas.List.Elements.{All-push}
use Rattle.settings_file.specs.Ranges.{SymbolIsInRange}
use Rattle.toml.specs.View.{view, items_view}
use Rattle.settings_file.specs.Symbols.{symbols_from, symbol_of}
use Rattle.settings_file.proofs.Entered.{after, fault_from}
use Rattle.settings_file.proofs.Gathered.{symbol_good, symbol_bad, symbols_end}
use Rattle.settings_file.proofs.Lists.{drop_values, drop_past}
use Rattle.settings_file.proofs.symbols.symbols.Goals as goal

pub returns-in-Err-clause-value : goal.returns-in-Err-clause-value
returns-in-Err-clause-value c =
    let step = drop_values c.args.values.now c.loop-i.i c.index-values-i.result c.index-values-i.is c.loop-i-test.true in
    let inv = ap (λ x. after c.loop-i.symbols (symbols_from c.loop-i.i x)) (sym step) ∙ c.loop-i.invariant.gathered in
    fault_from _ (symbol_of c.loop-i.i (view c.index-values-i.result)) c.in-Err.fault (λ e s. symbol_bad c.loop-i.symbols _ c.loop-i.i (view c.index-values-i.result) (items_view (drop (c.loop-i.i + 1) c.args.values.now)) e inv s) c.in-Err.ensures.value

pub loop-i-preserved : goal.loop-i-preserved
loop-i-preserved c =
    let step = drop_values c.args.values.now c.loop-i.i c.index-values-i.result c.index-values-i.is c.loop-i-test.true in
    record {
      range = subst (All SymbolIsInRange) (sym c.in_ok-push-in-Ok.ensures.ok) (All-push SymbolIsInRange c.loop-i.symbols c.in-Ok.symbol c.loop-i.invariant.range c.in-Ok.ensures.range);
      gathered = symbol_good c.loop-i.symbols c.push.new.self _ c.loop-i.i (view c.index-values-i.result) (items_view (drop (c.loop-i.i + 1) c.args.values.now)) c.in-Ok.symbol
          (ap (λ x. after c.loop-i.symbols (symbols_from c.loop-i.i x)) (sym step) ∙ c.loop-i.invariant.gathered) c.in-Ok.ensures.value c.in_ok-push-in-Ok.ensures.ok;
    }

pub returns-clause-value : goal.returns-clause-value
returns-clause-value c =
    let none = drop_past c.args.values.now c.loop-i.i c.loop-i-test.false in
    symbols_end c.loop-i.symbols _ c.loop-i.i (ap (λ x. after c.loop-i.symbols (symbols_from c.loop-i.i x)) (sym none) ∙ c.loop-i.invariant.gathered)
