-- What tells the fault of a source. Own.
use Rattle.std.specs.Prelude.{◌≡◌, ℕ, List, [], Option, Some, None, slice_get}
use Rattle.mql_tree.specs.declared.text.TextFault.{TextFault}
use Rattle.mql_tree.specs.declared.text.TextFault.TheVariants as text
use Rattle.mql_tree.specs.declared.token.LexFault.{LexFault}
use Rattle.mql_tree.specs.declared.token.LexFault.TheVariants as lexing
use Rattle.mql_tree.specs.declared.token.Span.{Span}
use Rattle.mql_preproc.specs.declared.source.Source.{Source}
use Rattle.mql_preproc.specs.declared.fault.PreFault.{PreFault}
use Rattle.mql_preproc.specs.declared.fault.PreFault.TheVariants.{Need, BadDirective, UnclosedIf, MacroArity, Depth, TooManyTokens, TooManyFiles, Lex, OutOfMemory}
use Rattle.mql_source.specs.declared.fault.SourceFault.{SourceFault}
use Rattle.tester_answer.specs.declared.status.Status.{Status}
use Rattle.tester_answer.specs.declared.status.Status.TheVariants as status

-- the rules of stage 1, the text
abbrev pub text_rule : TextFault → ℕ
text_rule (text.NotUtf8 place) = 1
text_rule text.OddLength = 2
text_rule (text.LoneSurrogate place) = 3
text_rule text.TooLong = 4
text_rule text.OutOfMemory = 0

-- a fault of a text has no line
abbrev pub text_fault : List ℕ → TextFault → SourceFault
text_fault name fault = record { stage = 1; rule = text_rule fault; file = name; line = 0 }

-- the name of a file by its place
abbrev pub name_of : Option Source → List ℕ
name_of None = []
name_of (Some source) = source.name

abbrev pub file_name : List Source → ℕ → List ℕ
file_name sources file = name_of (slice_get sources file)

-- a rule of a stage that is broken at that place
abbrev pub at_span : List Source → ℕ → ℕ → Span → SourceFault
at_span sources stage rule span = record {
  stage = stage;
  rule = rule;
  file =
      file_name sources span.file;
  line = span.line;
}

-- the rules of stage 2, the tokens
abbrev pub token_fault : List Source → LexFault → SourceFault
token_fault sources (lexing.NoToken span) = at_span sources 2 1 span
token_fault sources (lexing.NameTooLong span) = at_span sources 2 2 span
token_fault sources (lexing.NumberTooLarge span) = at_span sources 2 3 span
token_fault sources (lexing.OpenComment span) = at_span sources 2 4 span
token_fault sources (lexing.OpenString span) = at_span sources 2 5 span
token_fault sources lexing.OutOfMemory = record { stage = 2; rule = 0; file = []; line = 0 }

-- the rules of stage 3, preprocessing; a fault of tokens is one of stage 2
abbrev pub source_fault : List Source → PreFault → SourceFault
source_fault sources (Need name) = record { stage = 3; rule = 1; file = name; line = 0 }
source_fault sources (BadDirective span) = at_span sources 3 2 span
source_fault sources (UnclosedIf span) = at_span sources 3 3 span
source_fault sources (MacroArity span) = at_span sources 3 4 span
source_fault sources (Depth span) = at_span sources 3 5 span
source_fault sources (TooManyTokens span) = at_span sources 3 6 span
source_fault sources (TooManyFiles span) = at_span sources 3 7 span
source_fault sources (Lex fault) = token_fault sources fault
source_fault sources OutOfMemory = record { stage = 3; rule = 0; file = []; line = 0 }

-- the status that tells a fault of a source; for its name there may be no memory
abbrev pub TellsFault : SourceFault → Status → Type 0
TellsFault fault (status.Source given) = given ≡ fault
TellsFault fault status.OutOfMemory = Unit {0}
TellsFault fault _ = ⊥

-- the status of a file whose bytes are no text
abbrev pub TellsText : List ℕ → TextFault → Status → Type 0
TellsText name text.OutOfMemory s = s ≡ status.OutOfMemory
TellsText name fault s = TellsFault (text_fault name fault) s

-- the status of a fault of preprocessing
abbrev pub TellsPreFault : List Source → PreFault → Status → Type 0
TellsPreFault sources OutOfMemory s = s ≡ status.OutOfMemory
TellsPreFault sources fault s = TellsFault (source_fault sources fault) s

-- the same, where it asks for no file
abbrev pub TellsRefusal : List Source → PreFault → Status → Type 0
TellsRefusal sources (Need name) s = ⊥
TellsRefusal sources OutOfMemory s = s ≡ status.OutOfMemory
TellsRefusal sources fault s = TellsFault (source_fault sources fault) s
