-- What a call does to the store, against the change that it stands for.
use Rattle.std.specs.Prelude.{◌≡◌, Result, Ok, Err}
use Rattle.mql_meaning.specs.declared.store.Store.{Store}
use Rattle.mql_meaning.specs.Changes.{Change, Out, Ended, Failed, Stuck, Done, Over}
use Rattle.store_cells.specs.declared.fault.End.{End}
use Rattle.store_cells.specs.declared.fault.End.TheVariants as end
use Rattle.store_cells.specs.declared.fault.Fault.{Fault}
use Rattle.store_cells.specs.declared.fault.Fault.TheVariants as fault

-- how the run ends
abbrev pub ended : End → Ended
ended (end.Failed e) = Failed e.kind e.line
ended end.Stuck = Stuck

-- what a change comes to is what a call answers, and the store that the call leaves; an end too. Where there
-- was no memory nothing is said of the store
abbrev pub Leads : {A : Type 0} → Out A → Result A Fault → Store → Type 0
Leads out (Ok a) new = out ≡ Done a new
Leads out (Err (fault.End e)) new = out ≡ Over (ended e) new
Leads out (Err fault.OutOfMemory) new = Unit {0}

-- the same, where want of memory leaves the store as it was
abbrev pub Comes : {A : Type 0} → Out A → Result A Fault → Store → Store → Type 0
Comes out (Ok a) old new = out ≡ Done a new
Comes out (Err (fault.End e)) old new = out ≡ Over (ended e) new
Comes out (Err fault.OutOfMemory) old new = new ≡ old

-- a call does a change, and where there was no memory the store is as it was
abbrev pub Meets : {A : Type 0} → Change A → Result A Fault → Store → Store → Type 0
Meets change result old new = Comes (change old) result old new

-- a call does a change of several parts, where want of memory says nothing of the store
abbrev pub Does : {A : Type 0} → Change A → Result A Fault → Store → Store → Type 0
Does change result old new = Leads (change old) result new

-- a call gives what a change gives that leaves the store
abbrev pub Gives : {A : Type 0} → Change A → Result A Fault → Store → Type 0
Gives change result store = Leads (change store) result store
