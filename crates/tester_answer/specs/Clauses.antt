-- What the statuses of a run say. Own.
use Rattle.std.specs.Prelude.{◌≡◌, ◌⊎◌, ◌≤◌, ◌<◌, length, IsSomeAnd, ℕ, List, [], ◌++◌, take, Option, Some, None}
use Rattle.tester_io.specs.Outside.{Contents, FilesSeen, SinkSeen, WhereTold, Rose}
use Rattle.tester_answer.specs.declared.status.Status.{Status}
use Rattle.tester_answer.specs.declared.status.Status.TheVariants.{Done, Usage, Source, Settings, Prices, CodeFile, Grid, Absent, ReadFault, WriteFault, TooLarge, OutOfMemory}
use Rattle.tester_io.specs.declared.fault.FileFault.{FileFault}
use Rattle.tester_io.specs.declared.fault.FileFault.TheVariants as Fault
use Rattle.tester_answer.specs.Answer.{Plan, Gives, Reaches, CutAt, WritesFile}

-- reading leaves what the names hold and how many writings failed, and no count of readings falls
pub record OnlyRead (before now : FilesSeen) : Type 0 where
  pub told : now.told ≡ before.told
  pub absents : before.absents ≤ now.absents
  pub read_faults : before.read_faults ≤ now.read_faults
  pub oversizes : before.oversizes ≤ now.oversizes
  pub write_faults : now.write_faults ≡ before.write_faults

-- the bytes that a reading of a name gave: within the limit, and what the name holds, where that is told
pub record IsReading (name : List ℕ) (limit : ℕ) (told : Option Contents) (bytes : List ℕ) : Type 0 where
  pub within : length bytes ≤ limit
  pub holds : WhereTold told (λ held. held name ≡ Some bytes)

-- the sink gained these bytes
abbrev pub Gained : List ℕ → SinkSeen → SinkSeen → Type 0
Gained bytes before now = WhereTold before.told (λ held. now.told ≡ Some (held ++ bytes))

-- why a reading of a name is refused
abbrev pub ReadingRefused : List ℕ → ℕ → FilesSeen → FilesSeen → Status → Type 0
ReadingRefused name limit before now (Absent which) =
    (which ≡ name) × Rose before.absents now.absents × WhereTold before.told (λ held. held name ≡ None)
ReadingRefused name limit before now (ReadFault which) =
    (which ≡ name) × Rose before.read_faults now.read_faults
ReadingRefused name limit before now (TooLarge which) =
    (which ≡ name) × Rose before.oversizes now.oversizes
    × WhereTold before.told (λ held. IsSomeAnd (held name) (λ bytes. limit < length bytes))
ReadingRefused name limit before now OutOfMemory = Unit {0}
ReadingRefused name limit before now _ = ⊥

-- the plan has this refusal over the contents, where they are told
abbrev pub Refuses : Plan → Option Contents → Status → Type 0
Refuses plan told status = WhereTold told (λ held. Gives plan held status [] held)

-- why a command ends with a status other than Done before it writes: the plan has that refusal, or a fault of
-- the files was counted where the plan reaches the reading of that name. Only the words decide on Usage
abbrev pub Refused : (ℕ → Type 0) → Plan → FilesSeen → FilesSeen → Status → Type 0
Refused usage plan before now (Usage rule) = usage rule
Refused usage plan before now (Source fault) = Refuses plan before.told (Source fault)
Refused usage plan before now (Settings rule key) = Refuses plan before.told (Settings rule key)
Refused usage plan before now (Prices file row rule) = Refuses plan before.told (Prices file row rule)
Refused usage plan before now (CodeFile rule place) = Refuses plan before.told (CodeFile rule place)
Refused usage plan before now (Grid rule input) = Refuses plan before.told (Grid rule input)
Refused usage plan before now (Absent name) =
    Rose before.absents now.absents × Refuses plan before.told (Absent name)
Refused usage plan before now (ReadFault name) =
    Rose before.read_faults now.read_faults × WhereTold before.told (λ held. Reaches plan name held)
Refused usage plan before now (TooLarge name) =
    Rose before.oversizes now.oversizes × Refuses plan before.told (TooLarge name)
Refused usage plan before now OutOfMemory = Unit {0}
Refused usage plan before now Done = ⊥
Refused usage plan before now WriteFault = ⊥

-- after the words no usage rule is told
abbrev pub Never : ℕ → Type 0
Never rule = ⊥

-- the plan refuses the words by this usage rule, whatever the files hold
abbrev pub UsageRefused : Plan → ℕ → Type 0
UsageRefused plan rule = (held : Contents) → Gives plan held (Usage rule) [] held

-- the status of a fault of reading a name; for the name there may be no memory
abbrev pub FaultStatus : List ℕ → FileFault → Status → Type 0
FaultStatus name fault OutOfMemory = Unit {0}
FaultStatus name Fault.Absent (Absent which) = which ≡ name
FaultStatus name Fault.Failed (ReadFault which) = which ≡ name
FaultStatus name Fault.TooLarge (TooLarge which) = which ≡ name
FaultStatus name fault status = ⊥

-- at a judgement, which is any of Usage to Grid
abbrev pub AtJudgement : Status → Type 0 → Type 0
AtJudgement (Usage rule) P = P
AtJudgement (Source fault) P = P
AtJudgement (Settings rule key) P = P
AtJudgement (Prices file row rule) P = P
AtJudgement (CodeFile rule place) P = P
AtJudgement (Grid rule input) P = P
AtJudgement _ P = Unit {0}

-- at a file that was not read: Absent, ReadFault or TooLarge
abbrev pub AtUnread : Status → Type 0 → Type 0
AtUnread (Absent name) P = P
AtUnread (ReadFault name) P = P
AtUnread (TooLarge name) P = P
AtUnread _ P = Unit {0}

-- The sink gained a beginning of a text that the plan has with Done, and the files are as the plan has them
-- with it.
pub record WrotePart (plan : Plan) (held : Contents) (files : FilesSeen)
    (before now : SinkSeen) : Type 0 where
  pub text : List ℕ
  pub after : Contents
  pub gives : Gives plan held Done text after
  pub kept : files.told ≡ Some after
  pub part : ℕ
  pub grew : Gained (take part text) before now

-- the same of a whole text
pub record WroteWhole (plan : Plan) (held : Contents) (files : FilesSeen)
    (before now : SinkSeen) : Type 0 where
  pub text : List ℕ
  pub after : Contents
  pub gives : Gives plan held Done text after
  pub kept : files.told ≡ Some after
  pub grew : Gained text before now

-- nothing was written, neither to the sink nor to a file
abbrev pub WroteNothing : FilesSeen → FilesSeen → SinkSeen → SinkSeen → Type 0
WroteNothing before now sink_before sink_now = (sink_now.told ≡ sink_before.told) × (now.told ≡ before.told)

-- the sink gained nothing, and the writing of a file was cut short
abbrev pub FileCut : Plan → FilesSeen → FilesSeen → SinkSeen → SinkSeen → Type 0
FileCut plan before now sink_before sink_now =
    (sink_now.told ≡ sink_before.told) × WhereTold before.told (λ held. CutAt plan held now.told)

-- a beginning of a text was written
abbrev pub Began : Plan → FilesSeen → FilesSeen → SinkSeen → SinkSeen → Type 0
Began plan before now sink_before sink_now =
    WhereTold before.told (λ held. WrotePart plan held now sink_before sink_now)

-- all was written
abbrev pub Wrote : Plan → FilesSeen → FilesSeen → SinkSeen → SinkSeen → Type 0
Wrote plan before now sink_before sink_now =
    WhereTold before.told (λ held. WroteWhole plan held now sink_before sink_now)

-- the plan has Done with this text over the contents that are told, and changes no file
abbrev pub Has : Plan → FilesSeen → List ℕ → Type 0
Has plan before text = WhereTold before.told (λ held. Gives plan held Done text held)

-- the plan refuses; by a usage rule it does so whatever the files hold
abbrev pub RefusedBy : Plan → FilesSeen → FilesSeen → Status → Type 0
RefusedBy plan before now status = Refused (UsageRefused plan) plan before now status

-- the plan refuses, and only reading was done
abbrev pub IsRefused : Plan → FilesSeen → FilesSeen → Status → Type 0
IsRefused plan before now status = OnlyRead before now × RefusedBy plan before now status

-- Writing failed: the sink's count rose, and a beginning of a text was written; or that of the files rose,
-- and the writing of a file was cut short.
abbrev pub Unwritten : Plan → FilesSeen → FilesSeen → SinkSeen → SinkSeen → Type 0
Unwritten plan before now sink_before sink_now =
    (Rose sink_before.write_faults sink_now.write_faults × Began plan before now sink_before sink_now)
    ⊎ (Rose before.write_faults now.write_faults × FileCut plan before now sink_before sink_now)

-- Memory was wanting: nothing was written, or a beginning of a text, or the writing of a file was cut short.
abbrev pub NoMemory : Plan → FilesSeen → FilesSeen → SinkSeen → SinkSeen → Type 0
NoMemory plan before now sink_before sink_now =
    WroteNothing before now sink_before sink_now
    ⊎ Began plan before now sink_before sink_now
    ⊎ FileCut plan before now sink_before sink_now

-- all was done, or memory was wanting
abbrev pub IsDoneOrMemory : Status → Type 0
IsDoneOrMemory Done = Unit {0}
IsDoneOrMemory OutOfMemory = Unit {0}
IsDoneOrMemory _ = ⊥

-- the plan has Done over these contents
abbrev pub HasDone : Plan → Contents → Type 0
HasDone plan held = (text : List ℕ) × (after : Contents) × Gives plan held Done text after

-- no fault of reading or of writing was counted; writings of files count where the plan writes one
pub record NoFault (plan : Plan) (held : Contents) (before now : FilesSeen)
    (sink_before sink_now : SinkSeen) : Type 0 where
  pub read : ¬ Rose before.read_faults now.read_faults
  pub wrote : ¬ Rose sink_before.write_faults sink_now.write_faults
  pub filed : WritesFile plan held → ¬ Rose before.write_faults now.write_faults

-- Where the plan has Done over the contents that are told, and no fault was counted, all was done but for
-- memory.
abbrev pub Completes : Plan → FilesSeen → FilesSeen → SinkSeen → SinkSeen → Status → Type 0
Completes plan before now sink_before sink_now status =
    WhereTold before.told (λ held. HasDone plan held → NoFault plan held before now sink_before sink_now
    → IsDoneOrMemory status)
