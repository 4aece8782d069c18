-- What a key of the settings may hold: each reading gives the key's value, or why it breaks a rule. Own.
use Rattle.std.specs.Prelude.{ℕ, Bool, true, ◌&&◌, ◌||◌, nat_le, if◌then◌else◌, List, [], ◌∷◌, length, Option, Some, None, ℤ, pos, int_le, unsigned_abs, codes, Result, Ok, Err}
use Rattle.std.specs.Str.{bytes_eq}
use Rattle.toml.specs.Data.{Data, string, integer, array, table, Items, no_items, Members, no_members}
use Rattle.market_types.specs.declared.mode.Mode.{Mode}
use Rattle.market_types.specs.declared.mode.Mode.TheVariants as mode
use Rattle.market_types.specs.declared.period.Period.{Period}
use Rattle.market_types.specs.declared.period.Period.TheVariants as period
use Rattle.tester_settings.specs.declared.settings.Account.{Account}
use Rattle.tester_settings.specs.declared.settings.Account.TheVariants as account
use Rattle.settings_file.specs.declared.keys.KeyFault.{KeyFault}
use Rattle.settings_file.specs.declared.keys.KeyFault.TheVariants.{Missing, WrongKind, OutOfRange, UnknownWord}
use Rattle.settings_file.specs.declared.keys.Expert.{Expert}
use Rattle.settings_file.specs.declared.keys.Expert.TheVariants.{Needed, NotNeeded}

-- the number of the rule that a key breaks
abbrev pub rule_of : KeyFault → ℕ
rule_of Missing = 3
rule_of WrongKind = 4
rule_of OutOfRange = 5
rule_of UnknownWord = 6

-- what a value stands for, where there is one
abbrev pub map_ok : {A B E : Type 0} → (A → B) → Result A E → Result B E
map_ok f (Ok x) = Ok (f x)
map_ok f (Err e) = Err e

-- a whole number from lo to hi
abbrev pub whole_in : ℕ → ℕ → ℤ → Result ℕ KeyFault
whole_in lo hi z = if int_le (pos lo) z && int_le z (pos hi) then Ok (unsigned_abs z) else Err OutOfRange

abbrev pub whole_data : ℕ → ℕ → Data → Result ℕ KeyFault
whole_data lo hi (integer z) = whole_in lo hi z
whole_data lo hi other = Err WrongKind

-- a key that holds a whole number
abbrev pub whole_key : ℕ → ℕ → ℕ → Option Data → Result ℕ KeyFault
whole_key preset lo hi None = Ok preset
whole_key preset lo hi (Some d) = whole_data lo hi d

-- the same where a key that is missing stands for no number
abbrev pub whole_if_any : ℕ → ℕ → Option Data → Result (Option ℕ) KeyFault
whole_if_any lo hi None = Ok None
whole_if_any lo hi (Some d) = map_ok Some (whole_data lo hi d)

-- a text
abbrev pub text_data : Data → Result (List ℕ) KeyFault
text_data (string text) = Ok text
text_data other = Err WrongKind

-- a text that the test given is true of
abbrev pub text_in : (List ℕ → Bool) → List ℕ → Result (List ℕ) KeyFault
text_in fits text = if fits text then Ok text else Err OutOfRange

-- what follows from a value
abbrev pub and_then : {A B E : Type 0} → Result A E → (A → Result B E) → Result B E
and_then (Ok x) f = f x
and_then (Err e) f = Err e

-- a key that holds a word
abbrev pub word_key : {A : Type 0} → A → (List ℕ → Result A KeyFault) → Option Data → Result A KeyFault
word_key preset of_word None = Ok preset
word_key preset of_word (Some d) = and_then (text_data d) of_word

-- the words for the ways of making quotes
abbrev pub mode_of : List ℕ → Result Mode KeyFault
mode_of word =
    if bytes_eq word (codes "ticks") then Ok mode.Ticks
    else (if bytes_eq word (codes "ohlc") then Ok mode.Ohlc
    else (if bytes_eq word (codes "open") then Ok mode.Opening
    else Err UnknownWord))

-- the words for periods
abbrev pub period_of : List ℕ → Result Period KeyFault
period_of word =
    if bytes_eq word (codes "M1") then Ok period.M1
    else (if bytes_eq word (codes "M5") then Ok period.M5
    else (if bytes_eq word (codes "M15") then Ok period.M15
    else (if bytes_eq word (codes "M30") then Ok period.M30
    else (if bytes_eq word (codes "H1") then Ok period.H1
    else (if bytes_eq word (codes "H4") then Ok period.H4
    else (if bytes_eq word (codes "D1") then Ok period.D1
    else Err UnknownWord))))))

-- the words for kinds of account
abbrev pub account_of : List ℕ → Result Account KeyFault
account_of word =
    if bytes_eq word (codes "netting") then Ok account.Netting
    else (if bytes_eq word (codes "hedging") then Ok account.Hedging
    else Err UnknownWord)

-- the expert's source, which a command may need or not
abbrev pub expert_key : Expert → Option Data → Result (Option (List ℕ)) KeyFault
expert_key Needed None = Err Missing
expert_key NotNeeded None = Ok None
expert_key expert (Some d) = map_ok Some (text_data d)

-- each byte passes a test
abbrev pub all_of : (ℕ → Bool) → List ℕ → Bool
all_of test [] = true
all_of test (b ∷ text) = test b && all_of test text

-- 1 to so many bytes, each of which passes a test
abbrev pub is_name_of : ℕ → (ℕ → Bool) → List ℕ → Bool
is_name_of most test text = (nat_le 1 (length text) && nat_le (length text) most) && all_of test text

-- an ASCII letter
abbrev pub is_latin_letter : ℕ → Bool
is_latin_letter b = (nat_le 65 b && nat_le b 90) || (nat_le 97 b && nat_le b 122)

-- printable ASCII and no blank
abbrev pub is_visible : ℕ → Bool
is_visible b = nat_le 33 b && nat_le b 126

-- the account's currency has 1 to 8 letters
abbrev pub currency_key : Option Data → Result (List ℕ) KeyFault
currency_key None = Ok (codes "USD")
currency_key (Some d) = and_then (text_data d) (text_in (is_name_of 8 is_latin_letter))

-- a symbol's name has 1 to 32 visible characters, and is needed
abbrev pub name_key : Option Data → Result (List ℕ) KeyFault
name_key None = Err Missing
name_key (Some d) = and_then (text_data d) (text_in (is_name_of 32 is_visible))

-- a text that is needed
abbrev pub text_key : Option Data → Result (List ℕ) KeyFault
text_key None = Err Missing
text_key (Some d) = text_data d

-- the entries of a list, of which there are none where the key is missing
abbrev pub list_key : Option Data → Result Items KeyFault
list_key None = Ok no_items
list_key (Some (array items)) = Ok items
list_key (Some other) = Err WrongKind

-- a value that is a table
abbrev pub table_data : Data → Result Members KeyFault
table_data (table members) = Ok members
table_data other = Err WrongKind

-- the entries of a table, of which there are none where the key is missing
abbrev pub table_key : Option Data → Result Members KeyFault
table_key None = Ok no_members
table_key (Some d) = table_data d
