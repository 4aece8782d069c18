use Rattle.std.proofs.Common.{◌≡◌, ◌∙◌, [], IfOk, List, ap, subst}
use Rattle.std.specs.Prelude.{ℕ}
use Rattle.mql_meaning.specs.Formats.{hex, integer}
use Rattle.native_formats.specs.Forms.{form_of}
use Rattle.native_formats.proofs.writing.sixteens.Goals as goal

pub returns : goal.returns
returns c =
    subst (λ (digits : List ℕ). IfOk c.integer.result (λ t. t ≡ integer (form_of c.args.form []) [] digits))
    (c.as_slice.ensures ∙ c.in_ok-digits.ensures ∙ ap (λ (n : ℕ). hex 16 c.args.ten n []) c.ulong_of.ensures)
    c.integer.ensures
