-- What items declare, one after another.
use Rattle.std.proofs.Common.{◌≡◌, ◌≤◌, ◌<◌, ◌+◌, ℕ, List, [], ◌++◌, length, drop, get_or, sym, ap, ◌∙◌}
use Rattle.std.proofs.lemmas.List.{append-nil, append_assoc, drop_all}
use Rattle.mql_syntax.specs.declared.declaration.Item.{Item}
use Rattle.mql_sizes.proofs.Held.{from_place}
use Rattle.mql_decls.specs.Declarations.{numbered}

pub one_more : {A : Type 0} (declares : ℕ → Item → List A) (items : List Item) (n : ℕ) (i : Item) (found new all : List A)
    → n < length items → i ≡ get_or items n i → new ≡ found ++ declares n i → found ++ numbered declares n (drop n items) ≡ all
    → new ++ numbered declares (n + 1) (drop (n + 1) items) ≡ all
one_more declares items n i found new all h e k done =
    let rest = numbered declares (n + 1) (drop (n + 1) items) in
    ap (λ xs. xs ++ rest) k ∙ append_assoc found (declares n i) rest
    ∙ ap (λ l. found ++ numbered declares n l) (sym (from_place items n i h e)) ∙ done

pub all_done : {A : Type 0} (declares : ℕ → Item → List A) (items : List Item) (n : ℕ) (found all : List A)
    → length items ≤ n → found ++ numbered declares n (drop n items) ≡ all → found ≡ all
all_done declares items n found all h done =
    sym (append-nil found) ∙ sym (ap (λ l. found ++ numbered declares n l) (drop_all n items h)) ∙ done
