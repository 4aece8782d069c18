-- Cells that are added.
use Rattle.std.proofs.Common.{◌≡◌, ℕ, ◌+◌, List, [], ◌∷◌, ◌++◌, replicate, ap, ◌∙◌, append_assoc}
use Rattle.std.proofs.lemmas.List.{replicate-append-replicate}
use Rattle.mql_meaning.specs.declared.cell.Cell.{Cell}

pub one_more : (out : List Cell) (n : ℕ) (c : Cell) → (out ++ replicate n c) ++ (c ∷ []) ≡ out ++ replicate (n + 1) c
one_more out n c =
    append_assoc out (replicate n c) (c ∷ [])
    ∙ ap (λ (xs : List Cell). out ++ xs) (replicate-append-replicate n 1 c)
