use Rattle.std.proofs.Common.{◌≡◌, ℤ, unsigned_abs, to_z, of_z, sym, ap, ◌∙◌}
use Rattle.std.specs.Int.{w128}
use Rattle.std.proofs.lemmas.Int.{to_z-of_z}
use Rattle.fx8.specs.declared.int_kind.IntKind.TheVariants as kind
use Rattle.fx8.specs.Operators.{bits}
use Rattle.mql_meaning.specs.Dates.{has_date}
use Rattle.native_functions.proofs.Moments.{tells}
use Rattle.native_functions.proofs.text_parts.time_text.Goals as goal

pub returns : goal.returns
returns c =
    let t : to_z w128 (of_z w128 c.args.time) ≡ c.args.time = to_z-of_z w128 c.args.time c.ranges.time in
    let f : to_z w128 (of_z w128 c.args.flags) ≡ c.args.flags = to_z-of_z w128 c.args.flags c.ranges.flags in
    tells c.args.time c.args.flags c.in-Some.second c.flag_bits.result c.dated_text.result c.args.store.now
    (ap has_date (sym t) ∙ c.in-Some.ensures.0)
    (ap (λ (x : ℤ). unsigned_abs x) (sym t) ∙ c.in-Some.ensures.1)
    (c.flag_bits.ensures ∙ ap (bits kind.Int) f) c.dated_text.ensures
