-- What is told of parents, in parts.
use Rattle.std.proofs.Common.{◌≡◌, ℕ, List, ◌++◌, Option, sym, ap, ◌∙◌, length}
use Rattle.std.specs.List.{flat_map}
use Rattle.mql_syntax.specs.declared.declaration.Item.{Item}
use Rattle.mql_syntax.specs.declared.declaration.Syntax.{Syntax}
use Rattle.mql_names.specs.declared.fault.Broken.{Broken}
use Rattle.mql_names.specs.Faults.{told, sooner}
use Rattle.mql_names.specs.Types.{Names}
use Rattle.mql_names.proofs.Faults.{told_append}
use Rattle.mql_parents.specs.Parents.{Parents, item_derived, parent_among, at_item, breaks_parents}
use Rattle.mql_parents.specs.Maps.{parent_at, Holds}
use Rattle.mql_parents.proofs.Held.{Map, same_parents}

pub of_three : (xs ys zs : List Broken) (r a b c : Option Broken) → a ≡ told xs → b ≡ told ys → c ≡ told zs → r ≡ sooner a (sooner b c) → r ≡ told (xs ++ (ys ++ zs))
of_three xs ys zs r a b c h k l s =
    s ∙ ap (λ x. sooner x (sooner b c)) h
    ∙ ap (sooner (told xs)) (ap (λ x. sooner x c) k ∙ ap (sooner (told ys)) l ∙ sym (told_append ys zs))
    ∙ sym (told_append xs (ys ++ zs))

pub all_told : (names : Names) (m : Map) (s : Syntax) (items : List Item) (n : ℕ) (r : Option Broken) → items ≡ s.items → n ≡ length items
    → Holds m (flat_map item_derived items) → r ≡ told (flat_map (at_item names (parent_at m) n) items) → r ≡ told (breaks_parents names s)
all_told names m s items n r e l h k =
    k
    ∙ ap (λ (p : Parents). told (flat_map (at_item names p n) items)) (same_parents m (flat_map item_derived items) h)
    ∙ ap (λ c. told (flat_map (at_item names (parent_among (flat_map item_derived items)) c) items)) l
    ∙ ap (λ (is : List Item). told (flat_map (at_item names (parent_among (flat_map item_derived is)) (length is)) is)) e
