-- A text with an escape that is none.
use Rattle.std.proofs.Common.{◌≡◌, ℕ, List, [], ◌∷◌, length, arith, refl, sym, ap, ◌∙◌, Option, Some, None}
use Rattle.mql_spelling.specs.declared.escape.Escape.{Escape}
use Rattle.mql_spelling.specs.declared.escape.Added.{Added}
use Rattle.mql_spelling.specs.Value.{text_of, adding, put_behind}

-- what is read is none
pub broken : (text : List ℕ) (at next : Escape) (added : Added) (u : ℕ) (all rest : List ℕ) (whole : Option (List ℕ)) → put_behind text (text_of at all) ≡ whole → all ≡ u ∷ rest → ((us : List ℕ) → text_of at (u ∷ us) ≡ adding added (text_of next us)) → ((o : Option (List ℕ)) → adding added o ≡ None) → None ≡ whole
broken text at next added u all rest whole i e step bad =
    let q : text_of at all ≡ None = ap (text_of at) e ∙ step rest ∙ bad (text_of next rest) in
    sym (ap (put_behind text) q) ∙ i

-- the same at the end
pub broken_end : (text : List ℕ) (at : Escape) (added : Added) (all : List ℕ) (whole : Option (List ℕ)) → put_behind text (text_of at all) ≡ whole → all ≡ [] → text_of at [] ≡ adding added (Some []) → ((o : Option (List ℕ)) → adding added o ≡ None) → None ≡ whole
broken_end text at added all whole i e step bad =
    let q : text_of at all ≡ None = ap (text_of at) e ∙ step ∙ bad (Some []) in
    sym (ap (put_behind text) q) ∙ i

pub empty_list : (us : List ℕ) → ◌≡◌ {A = ℕ} (length us) 0 → us ≡ []
empty_list [] h = refl
empty_list (u ∷ us) h = absurd (omega arith)
