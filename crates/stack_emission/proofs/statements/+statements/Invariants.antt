use Rattle.std.specs.Prelude.{◌+◌, ◌≤◌, length, take}
use Rattle.stack_emission.specs.Draft.{Emits, Wait, Writes}
use Rattle.stack_emission.specs.Statements.{cases, leads, statements}
use Rattle.stack_emission.proofs.statements.+statements.Given as goal

abbrev pub invariant-statements-loop-s : goal.invariant-statements-loop-s
invariant-statements-loop-s l = Emits (statements l.gives (take l.s-index l.body) (leads l.exits)) l.fn.draft l.draft

abbrev pub invariant-cases-loop-i : goal.invariant-cases-loop-i
invariant-cases-loop-i l =
    record {
      written : Writes l.first (cases l.gives l.first (take l.i l.body) (leads l.exits)) l.fn.draft l.draft;
      waits : Wait (l.first + l.i) (l.first + length l.body + 1) l.draft;
      within : l.i ≤ length l.body;
    }
