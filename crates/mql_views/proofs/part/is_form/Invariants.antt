use Rattle.std.proofs.Common.{◌≡◌, map, drop}
use Rattle.mql_grammar.specs.Table.{listed}
use Rattle.mql_forms.specs.Numbers.{form_number}
use Rattle.mql_views.proofs.part.is_form.Given as goal

abbrev pub invariant-loop-own : goal.invariant-loop-own
invariant-loop-own l = listed (form_number l.form) (map form_number (drop l.own-index l.wanted)) ≡ listed (form_number l.form) (map form_number l.wanted)
