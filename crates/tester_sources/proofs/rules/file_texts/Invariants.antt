use Rattle.std.proofs.Common.{◌≡◌, take}
use Rattle.tester_sources.specs.Rules.{file_texts}
use Rattle.tester_sources.proofs.rules.file_texts.Given as goal

abbrev pub invariant-loop-source : goal.invariant-loop-source
invariant-loop-source l = l.texts ≡ file_texts (take l.source-index l.list)
