-- The sources of a program are read in the order of need. Own.
use Rattle.std.specs.Prelude.{◌≡◌, ◌+◌, ◌≤◌, ℕ, zero, suc, List, [], ◌∷◌, ◌++◌, length, Option, Some, None, Result, Ok, Err}
use Rattle.tester_io.specs.Outside.{Contents}
use Rattle.mql_tree.specs.declared.text.TextFault.{TextFault}
use Rattle.mql_tree.specs.declared.token.Span.{Span}
use Rattle.mql_tree.specs.declared.token.Token as token
use Rattle.mql_tree.specs.Text.{text_of}
use Rattle.mql_preproc.specs.declared.source.Source.{Source}
use Rattle.mql_preproc.specs.declared.fault.PreFault.{PreFault}
use Rattle.mql_preproc.specs.declared.fault.PreFault.TheVariants.{Need, OutOfMemory}
use Rattle.mql_preproc.specs.Reading.{Preprocesses}
use Rattle.tester_answer.specs.declared.status.Status.{Status}
use Rattle.tester_answer.specs.declared.status.Status.TheVariants as status
use Rattle.tester_answer.specs.Clauses.{IsReading}
use Rattle.tester_sources.specs.declared.reading.Wanted.{Wanted}
use Rattle.tester_sources.specs.declared.reading.Wanted.TheVariants as wanted
use Rattle.tester_sources.specs.declared.reading.Next.{Next}
use Rattle.tester_sources.specs.declared.reading.Next.TheVariants as nexts
use Rattle.tester_sources.specs.declared.reading.Turned.{Turned}
use Rattle.tester_sources.specs.declared.reading.Turned.TheVariants as turns
use Rattle.mql_preproc.specs.declared.state.Reading.{Reading}
use Rattle.mql_preproc.specs.Resume.{Stands}
use Rattle.mql_preproc.specs.Onward.{Fits}
use Rattle.tester_answer.specs.Answer.{Plan, Reads, Finds, refuses, never}
use Rattle.tester_sources.specs.Faults.{text_fault, source_fault}
use Rattle.mql_source.specs.Limits.{most_files, most_tokens, most_units}

-- the most bytes of a source, 4 MiB
abbrev pub source_limit : ℕ
source_limit = 4194304

-- the tokens of a program, each with its place
abbrev pub Tokens : Type 0
Tokens = List (token.Token × Span)

-- a file with its text
abbrev pub source : List ℕ → List ℕ → Source
source name text = record { name = name; text = text }

-- goes on with a text, or refuses it by stage 1
abbrev pub with_text : List ℕ → Result (List ℕ) TextFault → (List ℕ → Plan) → Plan
with_text name (Ok text) next = next text
with_text name (Err fault) next = refuses (status.Source (text_fault name fault))

-- goes on with the tokens, or reads the file that is needed, or refuses by stage 2 or 3
abbrev pub with_tokens : List Source → (List Source → Tokens → Plan) → (List ℕ → Plan)
    → Result Tokens PreFault → Plan
with_tokens sources next reads (Ok tokens) = next sources tokens
with_tokens sources next reads (Err (Need name)) = reads name
with_tokens sources next reads (Err fault) = refuses (status.Source (source_fault sources fault))

-- The tokens of a program, where these files were read and preprocessing may be asked so many more times:
-- what it makes of the files; a file that it needs is read, and its text is judged as it is read.
abbrev pub sources_plan : ℕ → List ℕ → List Source → (List Source → Tokens → Plan) → Plan
sources_plan zero entry sources next = never
sources_plan (suc more) entry sources next =
    Finds (Result Tokens PreFault) (Preprocesses entry sources)
    (with_tokens sources next (λ name. Reads name source_limit
    (λ bytes. with_text name (text_of bytes) (λ text. sources_plan more entry (sources
    ++ source name text ∷ []) next))))

-- The plan of a program that begins with its entry. Preprocessing is asked with no file, with one, and so on,
-- at most with 512: files that were needed in turn are no more, so that no plan comes to `never`.
unfoldable pub program_plan : List ℕ → (List Source → Tokens → Plan) → Plan
program_plan entry next = sources_plan (most_files + 1) entry [] next

-- the files that were read, each needed by those before it
pub data ReadInTurn (entry : List ℕ) (held : Contents) : List Source → Type 0 where
  none : ReadInTurn entry held []
  needed : {sources : List Source} (name bytes text : List ℕ) → ReadInTurn entry held sources
      → Preprocesses entry sources (Err (Need name)) → held name ≡ Some bytes → length bytes ≤ source_limit
      → text_of bytes ≡ Ok text
      → ReadInTurn entry held (sources ++ source name text ∷ [])

-- a file of that name: what it holds is within the limit, and its text is the source's
pub record IsSource (told : Option Contents) (name : List ℕ) (s : Source) : Type 0 where
  pub bytes : List ℕ
  pub reading : IsReading name source_limit told bytes
  pub text : text_of bytes ≡ Ok s.text
  pub named : s.name ≡ name
  pub few : length s.text ≤ most_units

-- the file that the others need was read, and stands behind them
pub record NeedMet (entry : List ℕ) (told : Option Contents) (old new : List Source) : Type 0 where
  pub name : List ℕ
  pub needs : Preprocesses entry old (Err (Need name))
  pub added : Source
  pub is : IsSource told name added
  pub grew : new ≡ old ++ added ∷ []

-- what preprocessing makes of files: the program's tokens, or the name of a file that it needs
abbrev pub IsWanted : List ℕ → List Source → Wanted → Type 0
IsWanted entry sources (wanted.Tokens tokens) = Preprocesses entry sources (Ok tokens)
IsWanted entry sources (wanted.File name) = Preprocesses entry sources (Err (Need name))

-- a reading that was begun goes on with these files as it is, and comes to what the program becomes
abbrev pub MayGoOn : List ℕ → List Source → Option Reading → Type 0
MayGoOn entry sources None = Unit {0}
MayGoOn entry sources (Some reading) = Stands entry sources reading × Fits sources reading

-- what the reading of files comes to: the program's tokens, or the name of a file that it needs and goes on
-- with
abbrev pub IsNext : List ℕ → List Source → Next → Type 0
IsNext entry sources (nexts.Tokens tokens) =
    Preprocesses entry sources (Ok tokens) × (length tokens ≤ most_tokens)
IsNext entry sources (nexts.File name reading) =
    Preprocesses entry sources (Err (Need name)) × MayGoOn entry sources reading

-- a turn: the files are all, or the one that is needed was read, and the reading goes on with it
abbrev pub IsTurn : List ℕ → Option Contents → List Source → List Source → Turned → Type 0
IsTurn entry told old new (turns.Made tokens) =
    (new ≡ old) × Preprocesses entry old (Ok tokens) × (length tokens ≤ most_tokens)
IsTurn entry told old new (turns.More reading) = NeedMet entry told old new × MayGoOn entry new reading

-- tokens are no more than the parser takes
abbrev pub FewTokens : Wanted → Type 0
FewTokens (wanted.Tokens tokens) = length tokens ≤ most_tokens
FewTokens (wanted.File name) = Unit {0}

-- a fault that refuses a source, and asks for no file
abbrev pub Refusing : PreFault → Type 0
Refusing (Need name) = ⊥
Refusing OutOfMemory = ⊥
Refusing _ = Unit {0}

-- preprocessing refuses the files with that status
abbrev pub FilesRefused : List ℕ → List Source → Status → Type 0
FilesRefused entry sources (status.Source given) =
    (fault : PreFault) × Refusing fault × Preprocesses entry sources (Err fault)
    × (given ≡ source_fault sources fault)
FilesRefused entry sources status.OutOfMemory = Unit {0}
FilesRefused entry sources _ = ⊥

-- the bytes of a file are no text, and that status says so
abbrev pub TextRefused : List ℕ → List ℕ → Status → Type 0
TextRefused name bytes (status.Source given) =
    (fault : TextFault) × (text_of bytes ≡ Err fault) × (given ≡ text_fault name fault)
TextRefused name bytes status.OutOfMemory = Unit {0}
TextRefused name bytes _ = ⊥

-- the reading of one file
abbrev pub file_plan : List ℕ → Plan
file_plan name = Reads name source_limit (λ bytes. with_text name (text_of bytes) (λ text. never))

-- files with an entry have one answer of preprocessing
abbrev pub OneAnswer : Type 0
OneAnswer = (entry : List ℕ) (sources : List Source) (a b : Result Tokens PreFault)
    → Preprocesses entry sources a → Preprocesses entry sources b → a ≡ b
