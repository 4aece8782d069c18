-- The keys of a settings file that are unknown, and the first of them by the bytes of their full names. Own.
use Rattle.std.specs.Prelude.{ℕ, ◌+◌, Bool, ◌||◌, if◌then◌else◌, List, [], ◌∷◌, ◌++◌, Option, Some, None, codes}
use Rattle.std.specs.Str.{bytes_eq}
use Rattle.std.specs.Ordering.{nat_cmp, is_lt}
use Rattle.std.specs.Cmp.Lexicographic.{slice_cmp}
use Rattle.toml.specs.Data.{Data, array, table, Items, no_items, item, Members, no_members, member, get_member}
use Rattle.settings_file.specs.Names.{symbol_prefix, range_prefix}
use Rattle.settings_file.specs.declared.unknown.Level.{Level}
use Rattle.settings_file.specs.declared.unknown.Level.TheVariants.{Top, OfSymbol, OfRange}

-- the keys at the top
abbrev pub is_top : List ℕ → Bool
is_top k =
    (bytes_eq k (codes "expert")
    || (bytes_eq k (codes "mode") || (bytes_eq k (codes "period") || bytes_eq k (codes "account"))))
    || ((bytes_eq k (codes "deposit")
    || (bytes_eq k (codes "currency") || (bytes_eq k (codes "leverage") || bytes_eq k (codes "stop_out"))))
    || (bytes_eq k (codes "steps")
    || (bytes_eq k (codes "rand_start")
    || (bytes_eq k (codes "inputs") || (bytes_eq k (codes "optimise") || bytes_eq k (codes "symbol"))))))

-- the keys of a symbol
abbrev pub is_of_symbol : List ℕ → Bool
is_of_symbol k =
    (bytes_eq k (codes "name")
    || (bytes_eq k (codes "data") || (bytes_eq k (codes "digits") || bytes_eq k (codes "contract"))))
    || ((bytes_eq k (codes "volume_min")
    || (bytes_eq k (codes "volume_max")
    || (bytes_eq k (codes "volume_step") || bytes_eq k (codes "stops_level"))))
    || (bytes_eq k (codes "spread")
    || (bytes_eq k (codes "commission")
    || (bytes_eq k (codes "swap_long") || (bytes_eq k (codes "swap_short")
    || bytes_eq k (codes "swap_day"))))))

-- the keys of a range
abbrev pub is_of_range : List ℕ → Bool
is_of_range k = bytes_eq k (codes "start") || (bytes_eq k (codes "step") || bytes_eq k (codes "stop"))

abbrev pub is_known : Level → List ℕ → Bool
is_known Top k = is_top k
is_known OfSymbol k = is_of_symbol k
is_known OfRange k = is_of_range k

-- the unknown keys of a table, each after what its full name begins with
unfoldable pub unknown_in : Level → List ℕ → Members → List (List ℕ)
unknown_in level prefix no_members = []
unknown_in level prefix (member k d more) =
    if is_known level k then unknown_in level prefix more else (prefix ++ k) ∷ unknown_in level prefix more

-- the unknown keys of a value, where it is a table
abbrev pub unknown_of : Level → List ℕ → Data → List (List ℕ)
unknown_of level prefix (table members) = unknown_in level prefix members
unknown_of level prefix other = []

-- the unknown keys of the symbols from the i-th on
unfoldable pub unknown_in_symbols : ℕ → Items → List (List ℕ)
unknown_in_symbols i no_items = []
unknown_in_symbols i (item d more) =
    unknown_of OfSymbol (symbol_prefix i) d ++ unknown_in_symbols (i + 1) more

abbrev pub unknown_under_symbol : Option Data → List (List ℕ)
unknown_under_symbol (Some (array items)) = unknown_in_symbols 0 items
unknown_under_symbol other = []

-- the unknown keys of the ranges
unfoldable pub unknown_in_ranges : Members → List (List ℕ)
unknown_in_ranges no_members = []
unknown_in_ranges (member name d more) = unknown_of OfRange (range_prefix name) d ++ unknown_in_ranges more

abbrev pub unknown_under_optimise : Option Data → List (List ℕ)
unknown_under_optimise (Some (table members)) = unknown_in_ranges members
unknown_under_optimise other = []

-- all the unknown keys of a document
abbrev pub unknown_names : Members → List (List ℕ)
unknown_names document =
    (unknown_in Top [] document ++ unknown_under_symbol (get_member (codes "symbol") document))
    ++ unknown_under_optimise (get_member (codes "optimise") document)

-- the lesser of two names, by their bytes
abbrev pub lesser : List ℕ → Option (List ℕ) → List ℕ
lesser name None = name
lesser name (Some best) = if is_lt (slice_cmp nat_cmp name best) then name else best

-- the first of names by their bytes, after the first so far
abbrev pub least_after : Option (List ℕ) → List (List ℕ) → Option (List ℕ)
least_after best [] = best
least_after best (name ∷ names) = least_after (Some (lesser name best)) names

-- the first of names by their bytes
abbrev pub least : List (List ℕ) → Option (List ℕ)
least names = least_after None names
