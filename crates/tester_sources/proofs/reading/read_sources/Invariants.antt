use Rattle.std.proofs.Common.{◌-◌, ◌≤◌, length, All}
use Rattle.mql_preproc.specs.Turns.{NeededInTurn}
use Rattle.tester_io.specs.Outside.{WhereTold}
use Rattle.tester_answer.specs.Clauses.{OnlyRead}
use Rattle.tester_sources.specs.Reading.{ReadInTurn, MayGoOn}
use Rattle.tester_sources.proofs.reading.read_sources.Given as goal
use Rattle.mql_source.specs.Limits.{most_units}

abbrev pub invariant-loop-sources : goal.invariant-loop-sources
invariant-loop-sources g l =
    OnlyRead (g.F.Files.seen l.fn.files) (g.F.Files.seen l.files)
    × WhereTold (g.F.Files.seen l.fn.files).told (λ held. ReadInTurn l.entry held l.sources)
    × NeededInTurn l.entry l.sources × All (λ s. length s.text ≤ most_units) l.sources
    × MayGoOn l.entry l.sources l.reading

abbrev pub decreases-loop-sources : goal.decreases-loop-sources
decreases-loop-sources g l = 512 - length l.sources
