use Rattle.std.specs.Prelude.{◌≡◌, ◌++◌, None, replicate}
use Rattle.stack_emission.proofs.draft.new_labels.Given as goal

abbrev pub invariant-loop-i : goal.invariant-loop-i
invariant-loop-i l = l.draft ≡ record l.fn.draft { labels = l.fn.draft.labels ++ replicate l._i None }
