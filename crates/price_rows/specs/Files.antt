-- The rows of a price file, or the first row that breaks a rule with the first rule that it breaks.
use Rattle.std.specs.Prelude.{ℕ, ◌+◌, Bool, true, false, ◌&&◌, ◌==◌, nat_le, if◌then◌else◌, List, [], ◌∷◌, Option, Some, None, option_map, Result, Ok, Err}
use Rattle.csv.specs.Reading.{strip_bom}
use Rattle.market_types.specs.declared.bar.Bar.{Bar}
use Rattle.market_types.specs.declared.tick.Tick.{Tick}
use Rattle.price_records.specs.Records.{records}
use Rattle.price_rows.specs.Rows.{is_bar_header, judged_bar, tick_width, judged_tick}

-- how a row is judged: by its number, the row before it, if there is one, and its fields
abbrev pub Judge : Type 0 → Type 0
Judge R = ℕ → Option R → List (List ℕ) → Result R ℕ

-- rows, or the row and the rule that it breaks
abbrev pub Judged : Type 0 → Type 0
Judged R = Result (List R) (ℕ × ℕ)

-- what follows a row, or its fault
abbrev pub at_row : {R : Type 0} → ℕ → Result R ℕ → (R → Judged R) → Judged R
at_row n (Err rule) f = Err (n, rule)
at_row n (Ok row) f = f row

-- a row before those that follow
abbrev pub after_row : {R : Type 0} → R → Judged R → Judged R
after_row row (Ok rows) = Ok (row ∷ rows)
after_row row (Err fault) = Err fault

-- the rows of records, of which the first is row n
unfoldable pub rows_from : {R : Type 0} → Judge R → ℕ → Option R → List (List (List ℕ)) → Judged R
rows_from judge n before [] = Ok []
rows_from judge n before (fields ∷ more) =
    at_row n (judge n before fields) (λ row. after_row row (rows_from judge (n + 1) (Some row) more))

-- the bars under a header, which is row 1; rule 1 is broken where it is not that of bars
abbrev pub bars_under_header : List (List (List ℕ)) → Judged Bar
bars_under_header [] = Err (1, 1)
bars_under_header (header ∷ more) = if is_bar_header header then rows_from judged_bar 2 None more
    else Err (1, 1)

-- the ticks under a header of so many fields
abbrev pub ticks_of_width : Option ℕ → List (List (List ℕ)) → Judged Tick
ticks_of_width None more = Err (1, 1)
ticks_of_width (Some width) more = rows_from (judged_tick width) 2 None more

-- the ticks under a header
abbrev pub ticks_under_header : List (List (List ℕ)) → Judged Tick
ticks_under_header [] = Err (1, 1)
ticks_under_header (header ∷ more) = ticks_of_width (tick_width header) more

-- a tab stands in the first line
abbrev pub is_tabbed : List (List (List ℕ)) → Bool
is_tabbed ((first ∷ second ∷ fields) ∷ more) = true
is_tabbed other = false

-- the separator: a tab where the header has one, else a comma
unfoldable pub separator : List ℕ → ℕ
separator text = if is_tabbed (records 9 text) then 9 else 44

-- a unit of UTF-16, low byte first; one past ASCII stands as 255, which no field of a row may have
abbrev pub narrow : ℕ → ℕ → ℕ
narrow low high = if (high == 0) && nat_le low 127 then low else 255

-- the units of bytes, if they are even in number
unfoldable pub units : List ℕ → Option (List ℕ)
units [] = Some []
units (low ∷ []) = None
units (low ∷ high ∷ more) = option_map (λ rest. narrow low high ∷ rest) (units more)

-- the text of a file: UTF-16 after FF FE, else the bytes after EF BB BF, if they begin so
abbrev pub text_of : List ℕ → Option (List ℕ)
text_of [] = Some []
text_of (a ∷ []) = Some (a ∷ [])
text_of (a ∷ b ∷ more) = if (a == 255) && (b == 254) then units more else Some (strip_bom (a ∷ b ∷ more))

-- what the records of a text are judged as; an odd number of bytes of UTF-16 is rule 9 at row 0
abbrev pub of_text : {R : Type 0} → (List (List (List ℕ)) → Judged R) → Option (List ℕ) → Judged R
of_text under None = Err (0, 9)
of_text under (Some text) = under (records (separator text) text)

-- the bars of a file
unfoldable pub bars_of_file : List ℕ → Judged Bar
bars_of_file bytes = of_text bars_under_header (text_of bytes)

-- the ticks of a file
unfoldable pub ticks_of_file : List ℕ → Judged Tick
ticks_of_file bytes = of_text ticks_under_header (text_of bytes)
