use Rattle.std.proofs.Common.{◌∷◌, ◌∙◌, ◌<◌, ap, arith, length, sym}
use Rattle.std.proofs.lemmas.Slice.{first_rest}
use Rattle.std.specs.List.{between}
use Rattle.mql_mean.specs.declared.value.Value.{Value}
use Rattle.native_formats.specs.Forms.{form_of}
use Rattle.native_formats.specs.Pieces.{with_argument}
use Rattle.native_formats.proofs.formats.with_argument.Goals as goal

pub returns-in-len1-up : goal.returns-in-len1-up
returns-in-len1-up c =
    let some : 0 < length c.args.values.now = omega (arith, c.in-len1-up.len_at_least) in
    sym (ap (with_argument (form_of c.args.form c.args.rest.now))
    (first_rest c.args.values.now c.value-item.result some
    ∙ ap (λ (v : Value). v ∷ between 1 (length c.args.values.now) c.args.values.now) (sym c.value-item.is)))
