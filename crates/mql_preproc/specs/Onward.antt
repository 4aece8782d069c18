-- What the code's steps still come to: `Fits` and `IsStopped` are for readers, the others are not.
use Rattle.std.specs.Prelude.{◌≡◌, ℕ, ◌+◌, ◌-◌, ◌*◌, ◌<◌, ◌≤◌, List, [], ◌∷◌, ◌++◌, length, slice_get, All, Some, Result, Ok, Err}
use Rattle.mql_tree.specs.declared.token.Span.{Span}
use Rattle.mql_tree.specs.declared.token.Token as token
use Rattle.mql_tree.specs.Tokens.{start, Lexes}
use Rattle.mql_preproc.specs.declared.source.Source.{Source}
use Rattle.mql_preproc.specs.declared.fault.PreFault.{PreFault}
use Rattle.mql_preproc.specs.declared.fault.PreFault.TheVariants.{Need, BadDirective, UnclosedIf, MacroArity, Depth, TooManyTokens, TooManyFiles, Lex, OutOfMemory}
use Rattle.mql_preproc.specs.declared.state.State.{State}
use Rattle.mql_preproc.specs.declared.state.Progress.{Progress}
use Rattle.mql_preproc.specs.declared.state.Deed as code
use Rattle.mql_preproc.specs.declared.state.Deed.TheVariants as codes
use Rattle.mql_preproc.specs.declared.state.Open.{Open}
use Rattle.mql_preproc.specs.declared.state.Left.{Left}
use Rattle.mql_preproc.specs.declared.state.Pause.{Pause}
use Rattle.mql_preproc.specs.declared.state.Pause.TheVariants as pauses
use Rattle.mql_preproc.specs.declared.state.Reading.{Reading}
use Rattle.mql_preproc.specs.declared.state.Advance.{Advance}
use Rattle.mql_preproc.specs.declared.state.Advance.TheVariants as advances
use Rattle.mql_preproc.specs.declared.state.Stop.{Stop}
use Rattle.mql_preproc.specs.declared.state.Stop.TheVariants as stops
use Rattle.mql_preproc.specs.Reading.{Deed, Goes, Includes, entered, Replaces, Reads, Leads, Preprocesses}
use Rattle.mql_preproc.specs.Resume.{progress_in, Resumes, Stands}
use Rattle.mql_source.specs.Limits.{most_depth, most_files, most_tokens}

-- this is said of a fault, which is never the need of a file; of want of memory nothing is said
abbrev pub Ends : PreFault → Type 0 → Type 0
Ends OutOfMemory P = Unit {0}
Ends (Need name) P = ⊥
Ends (BadDirective span) P = P
Ends (UnclosedIf span) P = P
Ends (MacroArity span) P = P
Ends (Depth span) P = P
Ends (TooManyTokens span) P = P
Ends (TooManyFiles span) P = P
Ends (Lex fault) P = P

-- what a directive did is that; the need of a file is told with what was read before it
abbrev pub Did : Progress → Result Deed PreFault → Result code.Deed PreFault → Type 0
Did p wanted (Ok (codes.Goes q)) = wanted ≡ Ok (Goes q)
Did p wanted (Ok (codes.Includes q k)) = wanted ≡ Ok (Includes q k)
Did p wanted (Ok (codes.Needs q name)) = (wanted ≡ Err (Need name)) × (q ≡ p)
Did p wanted (Err fault) = Ends fault (wanted ≡ Err fault)

-- a directive includes a file only at a place below n, only in a file that is not as deep as files may stand,
-- and only where fewer files were read than may be
abbrev pub IncludesWithin : ℕ → ℕ → code.Deed → Type 0
IncludesWithin n depth (codes.Goes p) = Unit {0}
IncludesWithin n depth (codes.Includes p k) =
    (k < n) × (depth < most_depth) × (length p.state.read < most_files)
IncludesWithin n depth (codes.Needs p name) = Unit {0}

-- a run in an active part is replaced, or has a fault
abbrev pub IsReplaced : State → List (token.Token × Span) → Result State PreFault → Type 0
IsReplaced s run (Ok t) = Replaces s run (Ok t)
IsReplaced s run (Err fault) = Ends fault (Replaces s run (Err fault))

-- a run was read: what comes behind it comes from before it, in every file
pub record PastRun (p : Progress) (ts : List (token.Token × Span)) (q : Progress) (rest : List (token.Token
    × Span)) : Type 0 where
  pub comes : (sources : List Source) (source : Source) (depth : ℕ) (answer : Result State PreFault)
      → Leads sources source depth q rest answer → Leads sources source depth p ts answer
  pub read : q.state.read ≡ p.state.read
  pub shorter : length rest < length ts

abbrev pub IsPastRun : Progress → token.Token × Span → List (token.Token × Span) → List (token.Token × Span)
    → Result Progress PreFault → Type 0
IsPastRun p first old new (Ok q) = PastRun p (first ∷ old) q new
IsPastRun p first old new (Err fault) =
    Ends fault ((sources : List Source) (source : Source) (depth : ℕ)
    → Leads sources source depth p (first ∷ old) (Err fault))

-- an open file at a place
abbrev pub left_open : ℕ → List (token.Token × Span) → Progress → Left
left_open file rest p = record {
  inner =
      record { file = file; rest = rest; conditions = p.conditions };
  state = p.state;
}

-- what the rest of an open file makes of what was read before it
abbrev pub LeftLeads : List Source → Source → ℕ → Left → Result State PreFault → Type 0
LeftLeads sources source depth l answer =
    Leads sources source depth (progress_in l.inner l.state) l.inner.rest answer

-- the same file further on: what comes from there comes from here, whatever files are added
pub record Further (sources : List Source) (source : Source) (depth : ℕ) (l m : Left) : Type 0 where
  pub comes : (more : List Source) (answer : Result State PreFault)
      → LeftLeads (sources ++ more) source depth m answer → LeftLeads (sources ++ more) source depth l answer
  pub file : m.inner.file ≡ l.inner.file
  pub read : m.state.read ≡ l.state.read

-- behind an include of the file at that place: what that file makes, and then the rest of this one, comes
-- from here
pub record Entering (sources : List Source) (source : Source) (depth : ℕ) (l m : Left) (k : ℕ) : Type 0 where
  pub comes : (more : List Source) (t : State) (answer : Result State PreFault)
      → Reads (sources ++ more) k (depth + 1) m.state (Ok t)
      → Leads (sources ++ more) source depth (progress_in m.inner t) m.inner.rest answer
      → LeftLeads (sources ++ more) source depth l answer
  pub fails : (more : List Source) (fault : PreFault)
      → Reads (sources ++ more) k (depth + 1) m.state (Err fault)
      → LeftLeads (sources ++ more) source depth l (Err fault)
  pub file : m.inner.file ≡ l.inner.file
  pub read : m.state.read ≡ l.state.read
  pub within : k < length sources
  pub deep : depth < most_depth
  pub few : length m.state.read < most_files

-- it is read to its end, and leaves this
pub record AtEnd (sources : List Source) (source : Source) (depth : ℕ) (l : Left) (t : State) : Type 0 where
  pub comes : (more : List Source) → LeftLeads (sources ++ more) source depth l (Ok t)
  pub read : t.read ≡ l.state.read

-- where the reading of a file stopped
unfoldable pub IsPaused : List Source → Source → ℕ → Left → Result Pause PreFault → Type 0
IsPaused sources source depth l (Ok (pauses.Ends t)) = AtEnd sources source depth l t
IsPaused sources source depth l (Ok (pauses.Includes m k)) = Entering sources source depth l m k
IsPaused sources source depth l (Ok (pauses.Needs m name)) =
    Further sources source depth l m × LeftLeads sources source depth l (Err (Need name))
IsPaused sources source depth l (Err fault) = Ends fault (LeftLeads sources source depth l (Err fault))

-- the file at a place is opened, its tokens before it and no condition open
pub record Opens (sources : List Source) (file : ℕ) (s : State) (files : List Open)
    (reading : Reading) : Type 0 where
  pub source : Source
  pub tokens : List (token.Token × Span)
  pub held : slice_get sources file ≡ Some source
  pub lexes : Lexes file start source.text (Ok tokens)
  pub is : reading ≡ record {
    state = (entered s file).state;
    files =
        record { file = file; rest = tokens; conditions = [] } ∷ files;
  }

unfoldable pub IsOpened : List Source → ℕ → State → List Open → Result Reading PreFault → Type 0
IsOpened sources file s files (Ok reading) = Opens sources file s files reading
IsOpened sources file s files (Err fault) = Ends fault ((depth : ℕ) → Reads sources file depth s (Err fault))

-- The open files of a reading are among the sources, and stand no deeper than files may.
pub record Fits (sources : List Source) (reading : Reading) : Type 0 where
  pub files : All (λ (o : Open). o.file < length sources) reading.files
  pub deep : length reading.files ≤ most_depth

-- how many files may still be entered and left
abbrev pub still_open : Reading → ℕ
still_open reading = 2 * (most_files - length reading.state.read) + length reading.files

-- what a reading comes to, with the sources and others behind them
abbrev pub Comes : List Source → Reading → Result State PreFault → Type 0
Comes sources reading answer = Resumes sources reading.files reading.state answer

-- one reading comes to what another comes to
pub record Advances (sources : List Source) (reading next : Reading) : Type 0 where
  pub comes : (more : List Source) (answer : Result State PreFault) → Comes (sources ++ more) next answer
      → Comes (sources ++ more) reading answer
  pub fits : Fits sources next

unfoldable pub IsAdvanced : List Source → Reading → Result Advance PreFault → Type 0
IsAdvanced sources reading (Ok (advances.On next)) =
    Advances sources reading next × (still_open next < still_open reading)
IsAdvanced sources reading (Ok (advances.Made s)) = Comes sources reading (Ok s)
IsAdvanced sources reading (Ok (advances.Needs name next)) =
    Advances sources reading next × Comes sources reading (Err (Need name))
IsAdvanced sources reading (Err fault) = Ends fault (Comes sources reading (Err fault))

-- where the reading of a program stopped: at its tokens, before a file that it needs, from where the reading
-- goes on, or at its first fault
abbrev pub IsStopped : List ℕ → List Source → Result Stop PreFault → Type 0
IsStopped entry sources (Ok (stops.Made tokens)) = Preprocesses entry sources (Ok tokens)
IsStopped entry sources (Ok (stops.Needs name reading)) =
    Preprocesses entry sources (Err (Need name)) × Stands entry sources reading
IsStopped entry sources (Err fault) = Ends fault (Preprocesses entry sources (Err fault))

abbrev pub StopFits : List Source → Stop → Type 0
StopFits sources (stops.Made tokens) = Unit {0}
StopFits sources (stops.Needs name reading) = Fits sources reading

-- a program has at most so many tokens
abbrev pub HasFewTokens : Stop → Type 0
HasFewTokens (stops.Made tokens) = length tokens ≤ most_tokens
HasFewTokens (stops.Needs name reading) = Unit {0}
