-- What statements are typed, one after another.
use Rattle.std.proofs.Common.{◌≡◌, ◌+◌, ℕ, List, [], ◌∷◌, ◌++◌, length, map, take, refl, sym, ap, ◌∙◌, arith, append-nil, append_assoc, length-append}
use Rattle.mql_statements.specs.declared.told.Label.{Label}
use Rattle.mql_statements.specs.declared.told.Told.{Told}
use Rattle.mql_statements.specs.Told.{nothing_told, moved, then_told, joined}

pub map_more : {A B : Type 0} (f : A → B) (xs : List A) (x : A) → map f (xs ++ x ∷ []) ≡ map f xs ++ f x ∷ []
map_more f [] x = refl
map_more f (y ∷ xs) x = ap (λ r. f y ∷ r) (map_more f xs x)

map_append : {A B : Type 0} (f : A → B) (xs ys : List A) → map f (xs ++ ys) ≡ map f xs ++ map f ys
map_append f [] ys = refl
map_append f (x ∷ xs) ys = ap (λ r. f x ∷ r) (map_append f xs ys)

moved_zero : (ls : List Label) → map (moved 0) ls ≡ ls
moved_zero [] = refl
moved_zero (l ∷ ls) =
    let e : 0 + l.before ≡ l.before = omega arith in
    ap (λ (n : ℕ). record l { before = n } ∷ map (moved 0) ls) e ∙ ap (λ r. l ∷ r) (moved_zero ls)

moved_twice : (m n : ℕ) (ls : List Label) → map (moved m) (map (moved n) ls) ≡ map (moved (m + n)) ls
moved_twice m n [] = refl
moved_twice m n (l ∷ ls) =
    let e : m + (n + l.before) ≡ m + n + l.before = omega arith in
    ap (λ (k : ℕ). record l { before = k } ∷ map (moved m) (map (moved n) ls)) e
    ∙ ap (λ r. moved (m + n) l ∷ r) (moved_twice m n ls)

-- one after another, from either side
pub nothing_then : (t : Told) → then_told nothing_told t ≡ t
nothing_then t = ap (λ ls. record t { labels = ls }) (moved_zero t.labels)

pub then_nothing : (t : Told) → then_told t nothing_told ≡ t
then_nothing t =
    ap (λ x. record t {
      typed = x;
      kept = t.kept ++ [];
      declared = t.declared ++ [];
      statics = t.statics ++ [];
      labels = t.labels ++ [];
      broken = t.broken ++ [];
      used = t.used ++ [];
    }) (append-nil t.typed)
    ∙ ap (λ x. record t {
      kept = x;
      declared = t.declared ++ [];
      statics = t.statics ++ [];
      labels = t.labels ++ [];
      broken = t.broken ++ [];
      used = t.used ++ [];
    }) (append-nil t.kept)
    ∙ ap (λ x. record t {
      declared = x;
      statics = t.statics ++ [];
      labels = t.labels ++ [];
      broken = t.broken ++ [];
      used = t.used ++ [];
    }) (append-nil t.declared)
    ∙ ap (λ x. record t { statics = x; labels = t.labels ++ []; broken = t.broken ++ []; used = t.used ++ [] }) (append-nil t.statics)
    ∙ ap (λ x. record t { labels = x; broken = t.broken ++ []; used = t.used ++ [] }) (append-nil t.labels)
    ∙ ap (λ x. record t { broken = x; used = t.used ++ [] }) (append-nil t.broken)
    ∙ ap (λ x. record t { used = x }) (append-nil t.used)

labels_assoc : (a b c : Told) →
    a.labels ++ map (moved (length a.typed)) (b.labels ++ map (moved (length b.typed)) c.labels)
    ≡ (a.labels ++ map (moved (length a.typed)) b.labels) ++ map (moved (length (a.typed ++ b.typed))) c.labels
labels_assoc a b c =
    ap (λ r. a.labels ++ r) (map_append (moved (length a.typed)) b.labels (map (moved (length b.typed)) c.labels)
    ∙ ap (λ r. map (moved (length a.typed)) b.labels ++ r) (moved_twice (length a.typed) (length b.typed) c.labels
    ∙ ap (λ n. map (moved n) c.labels) (sym (length-append a.typed b.typed))))
    ∙ sym (append_assoc a.labels (map (moved (length a.typed)) b.labels) (map (moved (length (a.typed ++ b.typed))) c.labels))

pub then_assoc : (a b c : Told) → then_told a (then_told b c) ≡ then_told (then_told a b) c
then_assoc a b c =
    let t = then_told a (then_told b c) in
    let u = then_told (then_told a b) c in
    ap (λ x. record t { typed = x }) (sym (append_assoc a.typed b.typed c.typed))
    ∙ ap (λ x. record u { kept = x; declared = t.declared; statics = t.statics; labels = t.labels; broken = t.broken; used = t.used }) (sym (append_assoc a.kept b.kept c.kept))
    ∙ ap (λ x. record u { declared = x; statics = t.statics; labels = t.labels; broken = t.broken; used = t.used }) (sym (append_assoc a.declared b.declared c.declared))
    ∙ ap (λ x. record u { statics = x; labels = t.labels; broken = t.broken; used = t.used }) (sym (append_assoc a.statics b.statics c.statics))
    ∙ ap (λ x. record u { labels = x; broken = t.broken; used = t.used }) (labels_assoc a b c)
    ∙ ap (λ x. record u { broken = x; used = t.used }) (sym (append_assoc a.broken b.broken c.broken))
    ∙ ap (λ x. record u { used = x }) (sym (append_assoc a.used b.used c.used))
