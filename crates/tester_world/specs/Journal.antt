-- The journal of prints. Own, with MQL5 Reference, Common Functions, Print.
use Rattle.std.specs.Prelude.{ℕ, ◌+◌, ◌==◌, List, [], ◌∷◌, length, codes, sum_by, if◌then◌else◌}
use Rattle.std.specs.List.{flat_map}
use Rattle.std.specs.Str.{encode_utf8_all}
use Rattle.std.specs.Char.Utf16.{utf16_lossy_chars}
use Rattle.tester_world.specs.declared.printed.Printed.{Printed}

-- a byte of a printed line: a line feed is written `\n` and a carriage return `\r`
abbrev pub shown_byte : ℕ → List ℕ
shown_byte b = if b == 10 then codes "\\n" else (if b == 13 then codes "\\r" else b ∷ [])

-- the bytes of a printed text: UTF-8 on one line, where a surrogate without its partner is U+FFFD
unfoldable pub shown_text : List ℕ → List ℕ
shown_text units = flat_map shown_byte (encode_utf8_all (utf16_lossy_chars units))

-- the bytes that a line takes of the journal: those of its text in a report, and one more
abbrev pub line_bytes : List ℕ → ℕ
line_bytes text = length (shown_text text) + 1

abbrev pub journal_bytes : List Printed → ℕ
journal_bytes prints = sum_by (λ (printed : Printed). line_bytes printed.text) prints

-- the most bytes that the journal of a pass may take, 1 MiB
abbrev pub most_bytes : ℕ
most_bytes = 1048576
