-- How the plan of a program's files goes on.
use Rattle.std.proofs.Common.{◌≡◌, ℕ, zero, suc, ◌+◌, ◌-◌, ◌≤◌, List, [], ◌∷◌, ◌++◌, length, Option, Some, None, Result, Ok, Err, refl, sym, ap, ◌∙◌, subst, arith, length-append}
use Rattle.tester_io.specs.Outside.{Contents, FilesSeen, WhereTold}
use Rattle.mql_tree.specs.declared.text.TextFault.{TextFault}
use Rattle.mql_tree.specs.Text.{text_of}
use Rattle.mql_preproc.specs.declared.source.Source.{Source}
use Rattle.mql_preproc.specs.declared.fault.PreFault.{PreFault}
use Rattle.mql_tree.specs.declared.text.TextFault.TheVariants as text
use Rattle.mql_tree.specs.Text.{Answers}
use Rattle.mql_preproc.specs.Answers.{Unless}
use Rattle.mql_preproc.specs.declared.fault.PreFault.TheVariants.{Need, BadDirective, UnclosedIf, MacroArity, Depth, TooManyTokens, TooManyFiles, Lex, OutOfMemory}
use Rattle.mql_preproc.specs.Reading.{Preprocesses}
use Rattle.mql_preproc.specs.Turns.{NeededInTurn, one_more}
use Rattle.mql_preproc.specs.declared.state.Reading.{Reading}
use Rattle.mql_preproc.specs.Resume.{Stands}
use Rattle.mql_preproc.specs.Onward.{Ends as EndsReading, Fits}
use Rattle.tester_answer.specs.declared.status.Status.{Status}
use Rattle.tester_answer.specs.declared.status.Status.TheVariants as status
use Rattle.tester_answer.specs.Answer.{Plan, Reads, Finds, Ends, refuses, never}
use Rattle.tester_answer.specs.Clauses.{OnlyRead, IsReading, ReadingRefused, Refused, Never}
use Rattle.tester_answer.proofs.PlanLemmas.{Leads, leads_same, leads_on, leads_reading, leads_finding, leads_never, leads_both_read, leads_both_find, refused_here, refused_on}
use Rattle.tester_answer.specs.Answer.{OneEnd}
use Rattle.tester_answer.proofs.OneEnd.{refuses_one, reads_one, finds_one}
use Rattle.tester_sources.specs.Faults.{text_fault, source_fault, TellsFault, TellsText, TellsPreFault, TellsRefusal}
use Rattle.tester_sources.specs.Reading.{source_limit, Tokens, source, with_text, with_tokens, sources_plan, program_plan, ReadInTurn, none, needed, NeedMet, MayGoOn, Refusing, FilesRefused, TextRefused, file_plan, OneAnswer}
use Rattle.mql_source.specs.Limits.{most_files}

-- with a text that is there
pub text_leads : (name : List ℕ) (r : Result (List ℕ) TextFault) (text : List ℕ) (next : List ℕ → Plan) (told : Option Contents) → r ≡ Ok text → Leads (with_text name r next) (next text) told
text_leads name r text next told e = subst (λ r. Leads (with_text name r next) (next text) told) (sym e) (leads_same (next text) told)

-- what follows may be anything
texts_lead : (name : List ℕ) (r : Result (List ℕ) TextFault) (next rest : List ℕ → Plan) (told : Option Contents) → ((text : List ℕ) → Leads (next text) (rest text) told) → Leads (with_text name r next) (with_text name r rest) told
texts_lead name (Ok text) next rest told each = each text
texts_lead name (Err fault) next rest told each = leads_same _ told

tokens_lead : (sources : List Source) (next : List Source → Tokens → Plan) (reads rest : List ℕ → Plan) (told : Option Contents) → ((name : List ℕ) → Leads (reads name) (rest name) told) → (answer : Result Tokens PreFault) → Leads (with_tokens sources next reads answer) (with_tokens sources (λ sources tokens. never) rest answer) told
tokens_lead sources next reads rest told each (Ok tokens) = leads_never _ told
tokens_lead sources next reads rest told each (Err (Need name)) = each name
tokens_lead sources next reads rest told each (Err (BadDirective span)) = leads_same _ told
tokens_lead sources next reads rest told each (Err (UnclosedIf span)) = leads_same _ told
tokens_lead sources next reads rest told each (Err (MacroArity span)) = leads_same _ told
tokens_lead sources next reads rest told each (Err (Depth span)) = leads_same _ told
tokens_lead sources next reads rest told each (Err (TooManyTokens span)) = leads_same _ told
tokens_lead sources next reads rest told each (Err (TooManyFiles span)) = leads_same _ told
tokens_lead sources next reads rest told each (Err (Lex fault)) = leads_same _ told
tokens_lead sources next reads rest told each (Err OutOfMemory) = leads_same _ told

pub sources_lead : (k : ℕ) (entry : List ℕ) (sources : List Source) (next : List Source → Tokens → Plan) (told : Option Contents) → Leads (sources_plan k entry sources next) (sources_plan k entry sources (λ sources tokens. never)) told
sources_lead zero entry sources next told = leads_same never told
sources_lead (suc k) entry sources next told =
    leads_both_find _ _ _ _ told
    (tokens_lead sources next _ _ told (λ name. leads_both_read name source_limit _ _ told (λ bytes. texts_lead name (text_of bytes) _ _ told (λ text. sources_lead k entry (sources ++ source name text ∷ []) next told))))

-- past a file that was needed and read
step_leads : (k : ℕ) (entry : List ℕ) (sources : List Source) (next : List Source → Tokens → Plan) (told : Option Contents) (name bytes text : List ℕ) → Preprocesses entry sources (Err (Need name)) → IsReading name source_limit told bytes → text_of bytes ≡ Ok text → Leads (sources_plan (suc k) entry sources next) (sources_plan k entry (sources ++ source name text ∷ []) next) told
step_leads k entry sources next told name bytes text needs reading is =
    leads_on _ _ _ told (leads_finding _ _ _ told (Err (Need name)) needs)
    (leads_on _ _ _ told (leads_reading name source_limit _ told bytes reading) (text_leads name (text_of bytes) text _ told is))

-- past files that were read in turn
past_at : (entry : List ℕ) (held : Contents) (sources : List Source) (k : ℕ) (next : List Source → Tokens → Plan) → ReadInTurn entry held sources → length sources + k ≡ most_files + 1 → Leads (program_plan entry next) (sources_plan k entry sources next) (Some held)
unfolding program_plan
past_at entry held [] k next none e =
    let same : k ≡ most_files + 1 = omega (arith, e) in
    subst (λ k. Leads (program_plan entry next) (sources_plan k entry [] next) (Some held)) (sym same) (leads_same (program_plan entry next) (Some held))
past_at entry held all k next (needed {sources} name bytes text turns needs holds within is) e =
    leads_on _ _ _ (Some held) (past_at entry held sources (suc k) next turns (omega (arith, e, length-append sources (source name text ∷ []))))
    (step_leads k entry sources next (Some held) name bytes text needs (record { within = within; holds = λ h same. holds_in h same }) is)
  where
    holds_in : (h : Contents) → Some held ≡ Some h → h name ≡ Some bytes
    holds_in h same = subst (λ (h : Contents). h name ≡ Some bytes) (ap (λ o. elim o as (λ _. Contents) [ None ↦ held | Some x ↦ x ]) same) holds

pub past : (entry : List ℕ) (told : Option Contents) (sources : List Source) (k : ℕ) (next : List Source → Tokens → Plan) → WhereTold told (λ held. ReadInTurn entry held sources) → length sources + k ≡ most_files + 1 → Leads (program_plan entry next) (sources_plan k entry sources next) told
past entry told sources k next turns e = record {
  gives = λ held is s text after g. (past_at entry held sources k next (turns held is) e).gives held refl s text after g;
  reaches = λ held is wanted r. (past_at entry held sources k next (turns held is) e).reaches held refl wanted r;
}

-- all files were read, and this is what they make
pub read_leads : (entry : List ℕ) (told : Option Contents) (sources : List Source) (tokens : Tokens) (next : List Source → Tokens → Plan) → WhereTold told (λ held. ReadInTurn entry held sources) → length sources ≤ most_files → Preprocesses entry sources (Ok tokens) → Leads (program_plan entry next) (next sources tokens) told
read_leads entry told sources tokens next turns few makes =
    leads_on _ _ _ told (past entry told sources (suc (most_files - length sources)) next turns (omega (arith, few))) (leads_finding _ _ _ told (Ok tokens) makes)

-- the files that were read were needed in turn
pub met_in_turn : (entry : List ℕ) (told : Option Contents) (old new : List Source) → NeededInTurn entry old → NeedMet entry told old new → NeededInTurn entry new
met_in_turn entry told old new turns met =
    subst (NeededInTurn entry) (sym met.grew) (one_more met.added turns (subst (λ name. Preprocesses entry old (Err (Need name))) (sym met.is.named) met.needs))

-- one more file
pub turn_on : (entry : List ℕ) (told told_mid : Option Contents) (old new : List Source) → told_mid ≡ told → WhereTold told (λ held. ReadInTurn entry held old) → NeedMet entry told_mid old new → WhereTold told (λ held. ReadInTurn entry held new)
turn_on entry told told_mid old new again turns met held is =
    let s = met.is in
    subst (ReadInTurn entry held) (ap (λ s. old ++ s ∷ []) (same met.name met.added s.named) ∙ sym met.grew)
    (needed met.name s.bytes met.added.text (turns held is) met.needs (s.reading.holds held (again ∙ is)) s.reading.within s.text)
  where
    same : (name : List ℕ) (s : Source) → s.name ≡ name → source name s.text ≡ s
    same name s e = subst (λ n. source n s.text ≡ s) e refl

-- one time is left
once_more : (entry : List ℕ) (sources : List Source) (before now : FilesSeen) (s : Status) → length sources ≤ most_files
    → Refused Never (sources_plan (suc (most_files - length sources)) entry sources (λ sources tokens. never)) before now s → Refused Never (sources_plan (most_files + 1 - length sources) entry sources (λ sources tokens. never)) before now s
once_more entry sources before now s few r =
    subst (λ k. Refused Never (sources_plan k entry sources (λ sources tokens. never)) before now s) (let e : suc (most_files - length sources) ≡ most_files + 1 - length sources = omega (arith, few) in e) r

-- a plan of files refuses what preprocessing refuses
refused_now : (k : ℕ) (entry : List ℕ) (sources : List Source) (before now : FilesSeen) (s : Status) → FilesRefused entry sources s → Refused Never (sources_plan (suc k) entry sources (λ sources tokens. never)) before now s
refused_now k entry sources before now (status.Source given) (fault, other, is, same) =
    λ held i. (Err fault, is, subst (λ p. Rattle.tester_answer.specs.Answer.Gives p held (status.Source given) [] held) (sym (refusal_of _ fault other)) (ap status.Source same, refl, refl))
  where
    refusal_of : (reads : List ℕ → Plan) (fault : PreFault) → Refusing fault → with_tokens sources (λ sources tokens. never) reads (Err fault) ≡ refuses (status.Source (source_fault sources fault))
    refusal_of reads (Need name) h = absurd h
    refusal_of reads (BadDirective span) h = refl
    refusal_of reads (UnclosedIf span) h = refl
    refusal_of reads (MacroArity span) h = refl
    refusal_of reads (Depth span) h = refl
    refusal_of reads (TooManyTokens span) h = refl
    refusal_of reads (TooManyFiles span) h = refl
    refusal_of reads (Lex fault) h = refl
    refusal_of reads OutOfMemory h = absurd h
refused_now k entry sources before now status.OutOfMemory h = tt
refused_now k entry sources before now status.Done h = absurd h
refused_now k entry sources before now (status.Usage rule) h = absurd h
refused_now k entry sources before now (status.Settings rule key) h = absurd h
refused_now k entry sources before now (status.Prices file row rule) h = absurd h
refused_now k entry sources before now (status.CodeFile rule place) h = absurd h
refused_now k entry sources before now (status.Grid rule input) h = absurd h
refused_now k entry sources before now (status.Absent name) h = absurd h
refused_now k entry sources before now (status.ReadFault name) h = absurd h
refused_now k entry sources before now status.WriteFault h = absurd h
refused_now k entry sources before now (status.TooLarge name) h = absurd h

pub files_refused : (entry : List ℕ) (sources : List Source) (before now : FilesSeen) (s : Status) → length sources ≤ most_files → FilesRefused entry sources s → Refused Never (sources_plan (most_files + 1 - length sources) entry sources (λ sources tokens. never)) before now s
files_refused entry sources before now s few h = once_more entry sources before now s few (refused_now (most_files - length sources) entry sources before now s h)

-- a text that is refused
pub text_refused : (name bytes : List ℕ) (before mid now : FilesSeen) (s : Status) → IsReading name source_limit before.told bytes → OnlyRead before mid → OnlyRead mid now → TextRefused name bytes s → Refused Never (file_plan name) before now s
text_refused name bytes before mid now (status.Source given) reading fell fell' (fault, is, same) =
    refused_on Never (file_plan name) (with_text name (text_of bytes) (λ text. never)) before mid now (status.Source given) (leads_reading name source_limit _ before.told bytes reading) fell
    (λ held i. subst (λ r. Rattle.tester_answer.specs.Answer.Gives (with_text name r (λ text. never)) held (status.Source given) [] held) (sym is) (ap status.Source same, refl, refl))
text_refused name bytes before mid now status.OutOfMemory reading fell fell' h = tt
text_refused name bytes before mid now status.Done reading fell fell' h = absurd h
text_refused name bytes before mid now (status.Usage rule) reading fell fell' h = absurd h
text_refused name bytes before mid now (status.Settings rule key) reading fell fell' h = absurd h
text_refused name bytes before mid now (status.Prices file row rule) reading fell fell' h = absurd h
text_refused name bytes before mid now (status.CodeFile rule place) reading fell fell' h = absurd h
text_refused name bytes before mid now (status.Grid rule input) reading fell fell' h = absurd h
text_refused name bytes before mid now (status.Absent which) reading fell fell' h = absurd h
text_refused name bytes before mid now (status.ReadFault which) reading fell fell' h = absurd h
text_refused name bytes before mid now status.WriteFault reading fell fell' h = absurd h
text_refused name bytes before mid now (status.TooLarge which) reading fell fell' h = absurd h

-- past the need of a file, to its reading alone
need_leads : (j : ℕ) (entry : List ℕ) (sources : List Source) (told : Option Contents) (name : List ℕ) → Preprocesses entry sources (Err (Need name)) → Leads (sources_plan (suc j) entry sources (λ sources tokens. never)) (file_plan name) told
need_leads j entry sources told name needs =
    leads_on (sources_plan (suc j) entry sources (λ sources tokens. never)) (Reads name source_limit (λ bytes. with_text name (text_of bytes) (λ text. sources_plan j entry (sources ++ source name text ∷ []) (λ sources tokens. never)))) (file_plan name) told
    (leads_finding (Result Tokens PreFault) (Preprocesses entry sources) (with_tokens sources (λ sources tokens. never) (λ name. Reads name source_limit (λ bytes. with_text name (text_of bytes) (λ text. sources_plan j entry (sources ++ source name text ∷ []) (λ sources tokens. never))))) told (Err (Need name)) needs)
    (leads_both_read name source_limit (λ bytes. with_text name (text_of bytes) (λ text. sources_plan j entry (sources ++ source name text ∷ []) (λ sources tokens. never))) (λ bytes. with_text name (text_of bytes) (λ text. never)) told
    (λ bytes. texts_lead name (text_of bytes) (λ text. sources_plan j entry (sources ++ source name text ∷ []) (λ sources tokens. never)) (λ text. never) told (λ text. leads_never _ told)))

-- the file that is needed is refused
pub needed_refused : (entry : List ℕ) (sources : List Source) (before mid now : FilesSeen) (s : Status) (name : List ℕ) → length sources ≤ most_files → OnlyRead before mid → Preprocesses entry sources (Err (Need name)) → Refused Never (file_plan name) mid now s → Refused Never (sources_plan (most_files + 1 - length sources) entry sources (λ sources tokens. never)) before now s
needed_refused entry sources before mid now s name few fell needs r =
    once_more entry sources before now s few
    (refused_on Never (sources_plan (suc (most_files - length sources)) entry sources (λ sources tokens. never)) (file_plan name) before mid now s (need_leads (most_files - length sources) entry sources before.told name needs) fell r)

-- the reading of a file is refused
pub reading_refused : (name : List ℕ) (before now : FilesSeen) (s : Status) → ReadingRefused name source_limit before now s → Refused Never (file_plan name) before now s
reading_refused name before now s r = refused_here Never name source_limit (λ bytes. with_text name (text_of bytes) (λ text. never)) before now s r

-- a refusal of the files to come is one of the program
pub program_refused : (entry : List ℕ) (sources : List Source) (before mid now : FilesSeen) (s : Status) → WhereTold before.told (λ held. ReadInTurn entry held sources) → length sources ≤ most_files → OnlyRead before mid → Refused Never (sources_plan (most_files + 1 - length sources) entry sources (λ sources tokens. never)) mid now s → Refused Never (program_plan entry (λ sources tokens. never)) before now s
program_refused entry sources before mid now s turns few read r =
    refused_on Never _ _ before mid now s (past entry before.told sources (most_files + 1 - length sources) (λ sources tokens. never) turns (omega (arith, few))) read r

-- one status, where each program's tokens give one
pub tokens_one : (sources : List Source) (next : List Source → Tokens → Plan) (reads : List ℕ → Plan) → ((sources : List Source) (tokens : Tokens) → OneEnd (next sources tokens)) → ((name : List ℕ) → OneEnd (reads name)) → (answer : Result Tokens PreFault) → OneEnd (with_tokens sources next reads answer)
tokens_one sources next reads each other (Ok tokens) = each sources tokens
tokens_one sources next reads each other (Err (Need name)) = other name
tokens_one sources next reads each other (Err (BadDirective span)) = refuses_one _
tokens_one sources next reads each other (Err (UnclosedIf span)) = refuses_one _
tokens_one sources next reads each other (Err (MacroArity span)) = refuses_one _
tokens_one sources next reads each other (Err (Depth span)) = refuses_one _
tokens_one sources next reads each other (Err (TooManyTokens span)) = refuses_one _
tokens_one sources next reads each other (Err (TooManyFiles span)) = refuses_one _
tokens_one sources next reads each other (Err (Lex fault)) = refuses_one _
tokens_one sources next reads each other (Err OutOfMemory) = refuses_one _

tells : (name bytes : List ℕ) (fault : TextFault) (s : Status) → text_of bytes ≡ Err fault → TellsFault (text_fault name fault) s → TextRefused name bytes s
tells name bytes fault (status.Source given) is h = (fault, is, h)
tells name bytes fault status.OutOfMemory is h = tt
tells name bytes fault status.Done is h = absurd h
tells name bytes fault (status.Usage rule) is h = absurd h
tells name bytes fault (status.Settings rule key) is h = absurd h
tells name bytes fault (status.Prices file row rule) is h = absurd h
tells name bytes fault (status.CodeFile rule place) is h = absurd h
tells name bytes fault (status.Grid rule input) is h = absurd h
tells name bytes fault (status.Absent which) is h = absurd h
tells name bytes fault (status.ReadFault which) is h = absurd h
tells name bytes fault status.WriteFault is h = absurd h
tells name bytes fault (status.TooLarge which) is h = absurd h

refuses_by : (entry : List ℕ) (sources : List Source) (fault : PreFault) (s : Status) → Refusing fault → Preprocesses entry sources (Err fault) → TellsFault (source_fault sources fault) s → FilesRefused entry sources s
refuses_by entry sources fault (status.Source given) other is h = (fault, other, is, h)
refuses_by entry sources fault status.OutOfMemory other is h = tt
refuses_by entry sources fault status.Done other is h = absurd h
refuses_by entry sources fault (status.Usage rule) other is h = absurd h
refuses_by entry sources fault (status.Settings rule key) other is h = absurd h
refuses_by entry sources fault (status.Prices file row rule) other is h = absurd h
refuses_by entry sources fault (status.CodeFile rule place) other is h = absurd h
refuses_by entry sources fault (status.Grid rule input) other is h = absurd h
refuses_by entry sources fault (status.Absent which) other is h = absurd h
refuses_by entry sources fault (status.ReadFault which) other is h = absurd h
refuses_by entry sources fault status.WriteFault other is h = absurd h
refuses_by entry sources fault (status.TooLarge which) other is h = absurd h

-- the status of a text's fault
pub text_told : (name bytes : List ℕ) (fault : TextFault) (s : Status) → Answers (Err fault) (text_of bytes) → TellsText name fault s → TextRefused name bytes s
text_told name bytes (text.NotUtf8 place) s is h = tells name bytes (text.NotUtf8 place) s is h
text_told name bytes text.OddLength s is h = tells name bytes text.OddLength s is h
text_told name bytes (text.LoneSurrogate place) s is h = tells name bytes (text.LoneSurrogate place) s is h
text_told name bytes text.TooLong s is h = tells name bytes text.TooLong s is h
text_told name bytes text.OutOfMemory s is h = subst (TextRefused name bytes) (sym h) (tt {0})

-- the status of a fault of preprocessing
pub refusal_told : (entry : List ℕ) (sources : List Source) (fault : PreFault) (s : Status) → Unless fault (Preprocesses entry sources (Err fault)) → TellsRefusal sources fault s → FilesRefused entry sources s
refusal_told entry sources (Need name) s is h = absurd h
refusal_told entry sources (BadDirective span) s is h = refuses_by entry sources (BadDirective span) s tt is h
refusal_told entry sources (UnclosedIf span) s is h = refuses_by entry sources (UnclosedIf span) s tt is h
refusal_told entry sources (MacroArity span) s is h = refuses_by entry sources (MacroArity span) s tt is h
refusal_told entry sources (Depth span) s is h = refuses_by entry sources (Depth span) s tt is h
refusal_told entry sources (TooManyTokens span) s is h = refuses_by entry sources (TooManyTokens span) s tt is h
refusal_told entry sources (TooManyFiles span) s is h = refuses_by entry sources (TooManyFiles span) s tt is h
refusal_told entry sources (Lex fault) s is h = refuses_by entry sources (Lex fault) s tt is h
refusal_told entry sources OutOfMemory s is h = subst (FilesRefused entry sources) (sym h) (tt {0})

-- the status of a fault that ends the reading, which is no need
pub fault_told : (entry : List ℕ) (sources : List Source) (fault : PreFault) (s : Status) → EndsReading fault (Preprocesses entry sources (Err fault)) → TellsPreFault sources fault s → FilesRefused entry sources s
fault_told entry sources (Need name) s is h = absurd is
fault_told entry sources (BadDirective span) s is h = refuses_by entry sources (BadDirective span) s tt is h
fault_told entry sources (UnclosedIf span) s is h = refuses_by entry sources (UnclosedIf span) s tt is h
fault_told entry sources (MacroArity span) s is h = refuses_by entry sources (MacroArity span) s tt is h
fault_told entry sources (Depth span) s is h = refuses_by entry sources (Depth span) s tt is h
fault_told entry sources (TooManyTokens span) s is h = refuses_by entry sources (TooManyTokens span) s tt is h
fault_told entry sources (TooManyFiles span) s is h = refuses_by entry sources (TooManyFiles span) s tt is h
fault_told entry sources (Lex fault) s is h = refuses_by entry sources (Lex fault) s tt is h
fault_told entry sources OutOfMemory s is h = subst (FilesRefused entry sources) (sym h) (tt {0})

-- a reading goes on with the file that was added
pub may_go_on : (entry : List ℕ) (old new : List Source) (added : Source) (reading : Option Reading)
    → ((entry : List ℕ) (sources more : List Source) (r : Reading) → Stands entry sources r → Stands entry (sources ++ more) r)
    → ((sources more : List Source) (r : Reading) → Fits sources r → Fits (sources ++ more) r)
    → new ≡ old ++ added ∷ [] → MayGoOn entry old reading → MayGoOn entry new reading
may_go_on entry old new added None stands fits e h = tt
may_go_on entry old new added (Some r) stands fits e h =
    subst (λ x. Stands entry x r × Fits x r) (sym e) (stands entry old (added ∷ []) r h.0, fits old (added ∷ []) r h.1)

-- the file that is needed
pub need_told : (entry : List ℕ) (sources : List Source) (fault : PreFault) (name : List ℕ) → Unless fault (Preprocesses entry sources (Err fault)) → fault ≡ Need name → Preprocesses entry sources (Err (Need name))
need_told entry sources fault name is e = subst (λ fault. Unless fault (Preprocesses entry sources (Err fault))) e is

never_one : OneEnd never
never_one held s s' text text' after after' g g' = absurd g

text_one : (name : List ℕ) (r : Result (List ℕ) TextFault) (next : List ℕ → Plan) → ((text : List ℕ) → OneEnd (next text)) → OneEnd (with_text name r next)
text_one name (Ok text) next each = each text
text_one name (Err fault) next each = refuses_one _

pub sources_one : OneAnswer → (k : ℕ) (entry : List ℕ) (sources : List Source) (next : List Source → Tokens → Plan) → ((sources : List Source) (tokens : Tokens) → OneEnd (next sources tokens)) → OneEnd (sources_plan k entry sources next)
sources_one one zero entry sources next each = never_one
sources_one one (suc k) entry sources next each =
    finds_one (Result Tokens PreFault) (Preprocesses entry sources) (with_tokens sources next (λ name. Reads name source_limit (λ bytes. with_text name (text_of bytes) (λ text. sources_plan k entry (sources ++ source name text ∷ []) next)))) (one entry sources)
    (tokens_one sources next (λ name. Reads name source_limit (λ bytes. with_text name (text_of bytes) (λ text. sources_plan k entry (sources ++ source name text ∷ []) next))) each
    (λ name. reads_one name source_limit (λ bytes. with_text name (text_of bytes) (λ text. sources_plan k entry (sources ++ source name text ∷ []) next)) (λ bytes. text_one name (text_of bytes) (λ text. sources_plan k entry (sources ++ source name text ∷ []) next) (λ text. sources_one one k entry (sources ++ source name text ∷ []) next each))))
