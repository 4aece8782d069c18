use Rattle.std.proofs.Common.{◌≡◌, Some, sym, ap, ◌∙◌, rules}
use Rattle.mql_meaning.specs.Natives.{formats}
use Rattle.native_functions.proofs.Formatted.{all_given}
use Rattle.native_functions.proofs.formats.string_format.Goals as goal

pub returns : goal.returns
returns c =
    let v : c.as_slice.result.now ≡ c.in-Some-2.values = search rules in
    all_given c.args.arguments.now c.in-Some.others.now c.in-Some.first.now formats c.in-Some-string.text.now
    c.as_slice.result.now c.formatted.result c.args.store.now c.in-Some.ensures.cases.0 c.in-Some-string.ensures
    (sym c.in_ok-values.ensures ∙ c.in-Some-2.is ∙ ap Some (sym v)) c.formatted.ensures
