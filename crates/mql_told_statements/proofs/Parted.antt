-- The parts of a statement: a first, a second and others.
use Rattle.std.proofs.Common.{◌≡◌, List, [], ◌∷◌, ◌++◌, drop, refl, append-nil, append_assoc}
use Rattle.mql_statements.specs.declared.told.Told.{Told}
use Rattle.mql_statements.specs.Told.{joined}
use Rattle.mql_typed_statements.specs.Statements.{nth_told}

pub second_next : (ts : List Told) → nth_told 0 (drop 1 ts) ≡ nth_told 1 ts
second_next [] = refl
second_next (t ∷ []) = refl
second_next (t ∷ u ∷ ts) = refl

pub statics_parted : (ts : List Told) →
    ((nth_told 0 ts).statics ++ (nth_told 0 (drop 1 ts)).statics) ++ (joined (drop 1 (drop 1 ts))).statics
    ≡ (joined ts).statics
statics_parted [] = refl
statics_parted (t ∷ []) = append-nil (t.statics ++ [])
statics_parted (t ∷ u ∷ ts) = append_assoc t.statics u.statics (joined ts).statics

pub broken_parted : (ts : List Told) →
    ((nth_told 0 ts).broken ++ (nth_told 0 (drop 1 ts)).broken) ++ (joined (drop 1 (drop 1 ts))).broken
    ≡ (joined ts).broken
broken_parted [] = refl
broken_parted (t ∷ []) = append-nil (t.broken ++ [])
broken_parted (t ∷ u ∷ ts) = append_assoc t.broken u.broken (joined ts).broken

pub used_parted : (ts : List Told) →
    ((nth_told 0 ts).used ++ (nth_told 0 (drop 1 ts)).used) ++ (joined (drop 1 (drop 1 ts))).used
    ≡ (joined ts).used
used_parted [] = refl
used_parted (t ∷ []) = append-nil (t.used ++ [])
used_parted (t ∷ u ∷ ts) = append_assoc t.used u.used (joined ts).used
