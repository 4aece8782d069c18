-- How unknown keys follow one another.
use Rattle.std.proofs.Common.{◌≡◌, ℕ, ◌+◌, ◌<◌, ◌≤◌, true, false, List, [], ◌∷◌, ◌++◌, length, get_or, drop, refl, sym, ap, ◌∙◌, append_assoc, append-nil}
use Rattle.std.proofs.lemmas.List.{drop_all}
use Rattle.toml.specs.View.{view, items_view}
use Rattle.toml.specs.declared.value.Value.{Value}
use Rattle.toml.proofs.Views.{items_view-drop}
use Rattle.toml.specs.Data.{Data, Items, no_items, item, Members, no_members, member}
use Rattle.settings_file.specs.declared.unknown.Level.{Level}
use Rattle.settings_file.specs.declared.unknown.Level.TheVariants.{OfSymbol, OfRange}
use Rattle.settings_file.specs.Names.{symbol_prefix, range_prefix}
use Rattle.settings_file.specs.Unknown.{is_known, unknown_in, unknown_of, unknown_in_symbols, unknown_in_ranges}

pub kept : (names all total : List (List ℕ)) (level : Level) (prefix k : List ℕ) (d : Data) (more : Members) → is_known level k ≡ false
    → names ++ unknown_in level prefix (member k d more) ≡ total → all ≡ names ++ ((prefix ++ k) ∷ []) → all ++ unknown_in level prefix more ≡ total
unfolding unknown_in
kept names all total level prefix k d more u e a = rw a (append_assoc names ((prefix ++ k) ∷ []) (unknown_in level prefix more) ∙ rw u at e)

pub skipped : (names total : List (List ℕ)) (level : Level) (prefix k : List ℕ) (d : Data) (more : Members) → is_known level k ≡ true
    → names ++ unknown_in level prefix (member k d more) ≡ total → names ++ unknown_in level prefix more ≡ total
unfolding unknown_in
skipped names total level prefix k d more u e = rw u at e

pub no_more : (names total : List (List ℕ)) (level : Level) (prefix : List ℕ) → names ++ unknown_in level prefix no_members ≡ total → names ≡ total
unfolding unknown_in
no_more names total level prefix e = sym (append-nil names) ∙ e

pub one_symbol_more : (names all total : List (List ℕ)) (i : ℕ) (d : Data) (more : Items) → names ++ unknown_in_symbols i (item d more) ≡ total
    → all ≡ names ++ unknown_of OfSymbol (symbol_prefix i) d → all ++ unknown_in_symbols (i + 1) more ≡ total
unfolding unknown_in_symbols
one_symbol_more names all total i d more e a = rw a (append_assoc names (unknown_of OfSymbol (symbol_prefix i) d) (unknown_in_symbols (i + 1) more) ∙ e)

pub no_symbol_more : (names total : List (List ℕ)) (i : ℕ) → names ++ unknown_in_symbols i no_items ≡ total → names ≡ total
unfolding unknown_in_symbols
no_symbol_more names total i e = sym (append-nil names) ∙ e

pub one_range_more : (names all total : List (List ℕ)) (name : List ℕ) (d : Data) (more : Members) → names ++ unknown_in_ranges (member name d more) ≡ total
    → all ≡ names ++ unknown_of OfRange (range_prefix name) d → all ++ unknown_in_ranges more ≡ total
unfolding unknown_in_ranges
one_range_more names all total name d more e a = rw a (append_assoc names (unknown_of OfRange (range_prefix name) d) (unknown_in_ranges more) ∙ e)

pub no_range_more : (names total : List (List ℕ)) → names ++ unknown_in_ranges no_members ≡ total → names ≡ total
unfolding unknown_in_ranges
no_range_more names total e = sym (append-nil names) ∙ e

-- the values from a place on
pub drop_values : (values : List Value) (i : ℕ) (value : Value) → value ≡ get_or values i value → i < length values → items_view (drop i values) ≡ item (view value) (items_view (drop (i + 1) values))
drop_values values i value is h = items_view-drop values i value h ∙ ap (λ x. item (view x) (items_view (drop (i + 1) values))) (sym is)

pub drop_past : (values : List Value) (i : ℕ) → length values ≤ i → items_view (drop i values) ≡ no_items
drop_past values i h = rw (drop_all i values h) refl
