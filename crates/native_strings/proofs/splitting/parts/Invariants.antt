use Rattle.std.proofs.Common.{◌≡◌, ◌++◌, drop}
use Rattle.mql_meaning.specs.StringFunctions.{parts}
use Rattle.native_strings.proofs.Parts.{glued}
use Rattle.native_strings.proofs.splitting.parts.Given as goal

abbrev pub invariant-loop-unit : goal.invariant-loop-unit
invariant-loop-unit l = l.done ++ glued l.part (parts l.separator (drop l.unit-index l.text)) ≡ parts l.separator l.text
