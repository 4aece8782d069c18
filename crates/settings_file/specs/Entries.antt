-- The values and the ranges of inputs that a settings file has, by the bytes of their names. Own.
use Rattle.std.specs.Prelude.{ℕ, Bool, true, false, List, [], ◌∷◌, ◌++◌, codes, Option, Some, None, Result, Ok, Err}
use Rattle.std.specs.Fmt.{signed_decimal}
use Rattle.toml.specs.Data.{Data, string, integer, boolean, Members, no_members, member, get_member}
use Rattle.tester_settings.specs.declared.input.Assignment.{Assignment}
use Rattle.tester_settings.specs.declared.input.InputRange.{InputRange}
use Rattle.settings_file.specs.declared.keys.KeyFault.{KeyFault}
use Rattle.settings_file.specs.declared.keys.KeyFault.TheVariants.{Missing, WrongKind}
use Rattle.settings_file.specs.Keys.{table_data, table_key}
use Rattle.settings_file.specs.Faults.{Broken, at_key, then_with}
use Rattle.settings_file.specs.Names.{input_name, range_name, range_prefix}

abbrev pub word_of : Bool → List ℕ
word_of true = codes "true"
word_of false = codes "false"

-- the text of a value of an input: a string is its text, a whole number its decimal text
abbrev pub value_text : Data → Option (List ℕ)
value_text (string text) = Some text
value_text (integer z) = Some (signed_decimal z)
value_text (boolean b) = Some (word_of b)
value_text other = None

abbrev pub of_kind : Option (List ℕ) → Result (List ℕ) KeyFault
of_kind None = Err WrongKind
of_kind (Some text) = Ok text

abbrev pub value_key : Option Data → Result (List ℕ) KeyFault
value_key None = Err Missing
value_key (Some d) = of_kind (value_text d)

-- an entry before those that follow
abbrev pub before : {A : Type 0} → A → Result (List A) Broken → Result (List A) Broken
before entry (Err broken) = Err broken
before entry (Ok entries) = Ok (entry ∷ entries)

abbrev pub assignment : List ℕ → Data → Result Assignment Broken
assignment name d =
    at_key (input_name name) (of_kind (value_text d)) (λ text. Ok (record { name = name; text = text }))

-- the values of inputs
unfoldable pub assignments : Members → Result (List Assignment) Broken
assignments no_members = Ok []
assignments (member name d more) = then_with (assignment name d) (λ entry. before entry (assignments more))

-- a text of a range
abbrev pub range_text : List ℕ → List ℕ → Members → Result (List ℕ) Broken
range_text prefix key members = at_key (prefix ++ key) (value_key (get_member key members)) Ok

-- the range of a table: its keys in their order
abbrev pub range_in : List ℕ → Members → Result InputRange Broken
range_in name members =
    then_with (range_text (range_prefix name) (codes "start") members) (λ start.
    then_with (range_text (range_prefix name) (codes "step") members) (λ step.
    then_with (range_text (range_prefix name) (codes "stop") members) (λ stop.
    Ok (record { name = name; start = start; step = step; stop = stop }))))

abbrev pub range : List ℕ → Data → Result InputRange Broken
range name d = at_key (range_name name) (table_data d) (range_in name)

-- the ranges of inputs
unfoldable pub ranges : Members → Result (List InputRange) Broken
ranges no_members = Ok []
ranges (member name d more) = then_with (range name d) (λ entry. before entry (ranges more))

-- what a document has under `inputs` and under `optimise`
abbrev pub inputs_in : Members → Result (List Assignment) Broken
inputs_in document = at_key (codes "inputs") (table_key (get_member (codes "inputs") document)) assignments

abbrev pub optimise_in : Members → Result (List InputRange) Broken
optimise_in document = at_key (codes "optimise") (table_key (get_member (codes "optimise") document)) ranges
