-- What a list of files holds after one of them was replaced or a new one was added.
use Rattle.std.proofs.Common.{◌≡◌, ℕ, zero, suc, ◌+◌, ◌<◌, ◌≤◌, Bool, true, false, cond, not, ltb, List, [], ◌∷◌, ◌++◌, length, get_or, set, refl, sym, ap, ◌∙◌, arith, Option, Some, None, find, option_map, position, bytes_eq}
use Rattle.std.specs.List.{position_or_len}
use Rattle.std.proofs.lemmas.Slice.Eq.{bytes_eq-Decides}
use Rattle.std.proofs.lemmas.List.Quantifiers.{position-Some}
use borrow.Author.Tests.{ltb-false}
use Rattle.std.proofs.lemmas.Bool.{false≢true}
use mathlib.Core.Path.{fun_ext}
use Rattle.tester_io.specs.declared.shelf.Held.{Held}
use Rattle.tester_io.specs.Outside.{holding}
use Rattle.tester_io.specs.Memory.{named, held_in}

-- equal names are asked for alike
same_asked : (a b asked : List ℕ) → bytes_eq a b ≡ true → bytes_eq a asked ≡ bytes_eq b asked
same_asked a b asked h = ap (λ (n : List ℕ). bytes_eq n asked) ((bytes_eq-Decides a b).0 h)

-- a name that is asked for is not another one
other_asked : (a b asked : List ℕ) → bytes_eq a b ≡ false → bytes_eq a asked ≡ true → bytes_eq b asked ≡ false
other_asked a b asked h e =
    let P : Bool → Type 0 = λ v. bytes_eq b asked ≡ v → bytes_eq b asked ≡ false in
    (elim (bytes_eq b asked) as P [
      | true ↦ λ q. absurd (false≢true (sym h ∙ (bytes_eq-Decides a b).1 ((bytes_eq-Decides a asked).0 e ∙ sym ((bytes_eq-Decides b asked).0 q))))
      | false ↦ λ q. q
    ]) refl

-- what is asked for at the front of a list
front : (x : Held) (files : List Held) (asked : List ℕ) → held_in (x ∷ files) asked ≡ cond (bytes_eq x.name asked) (Some x.bytes) (held_in files asked)
front x files asked =
    elim (bytes_eq x.name asked) as (λ v. option_map (λ (file : Held). file.bytes) (cond v (Some x) (find (named asked) files)) ≡ cond v (Some x.bytes) (held_in files asked)) [ true ↦ refl | false ↦ refl ]

-- a file of another name stays at the front, whatever is put behind it
behind : (name bytes : List ℕ) (x : Held) (files after : List Held) (asked : List ℕ) → bytes_eq x.name name ≡ false → held_in after asked ≡ holding (held_in files) name bytes asked → held_in (x ∷ after) asked ≡ holding (held_in (x ∷ files)) name bytes asked
behind name bytes x files after asked other rest =
    let P : Bool → Type 0 = λ v. bytes_eq x.name asked ≡ v → cond v (Some x.bytes) (held_in after asked) ≡ cond (bytes_eq name asked) (Some bytes) (cond v (Some x.bytes) (held_in files asked)) in
    let e = (elim (bytes_eq x.name asked) as P [
      | true ↦ λ q. let n : bytes_eq name asked ≡ false = other_asked x.name name asked other q in rw n refl
      | false ↦ λ q. rest
    ]) refl in
    front x after asked ∙ e ∙ ap (λ (o : Option (List ℕ)). cond (bytes_eq name asked) (Some bytes) o) (sym (front x files asked))

-- replacing the first file of a name
replaced_at : (d f : Held) (asked : List ℕ) (files : List Held) (i : ℕ) → i < length files → bytes_eq (get_or files i d).name f.name ≡ true → ((k : ℕ) → k < i → bytes_eq (get_or files k d).name f.name ≡ false) → held_in (set files i f) asked ≡ holding (held_in files) f.name f.bytes asked
replaced_at d f asked [] i lt at below = absurd (omega arith)
replaced_at d f asked (x ∷ files) zero lt at below =
    let P : Bool → Type 0 = λ v. bytes_eq x.name asked ≡ v → cond v (Some f.bytes) (held_in files asked) ≡ cond v (Some f.bytes) (cond v (Some x.bytes) (held_in files asked)) in
    let e = (elim (bytes_eq x.name asked) as P [ true ↦ λ q. refl | false ↦ λ q. refl ]) refl in
    let s : bytes_eq f.name asked ≡ bytes_eq x.name asked = sym (same_asked x.name f.name asked at) in
    front f files asked ∙ rw (front x files asked) (rw s e)
replaced_at d f asked (x ∷ files) (suc i) lt at below =
    behind f.name f.bytes x files (set files i f) asked (below 0 (omega arith)) (replaced_at d f asked files i (omega arith) at (λ k h. below (suc k) (omega arith)))

-- adding a file of a new name
added_at : (f : Held) (asked : List ℕ) (files : List Held) → length files ≤ position_or_len (named f.name) files → held_in (files ++ f ∷ []) asked ≡ holding (held_in files) f.name f.bytes asked
added_at f asked [] far = front f [] asked
added_at f asked (x ∷ files) far =
    let P : Bool → Type 0 = λ v. bytes_eq x.name f.name ≡ v → (suc (length files) ≤ cond (not v) (1 + position_or_len (named f.name) files) 0) → held_in (x ∷ (files ++ f ∷ [])) asked ≡ holding (held_in (x ∷ files)) f.name f.bytes asked in
    (elim (bytes_eq x.name f.name) as P [
      | true ↦ λ q h. absurd (omega arith)
      | false ↦ λ q h. behind f.name f.bytes x files (files ++ f ∷ []) asked q (added_at f asked files (omega arith))
    ]) refl far

-- where no place was found, none is before the end
no_place : (p : Held → Bool) (files : List Held) → position p files ≡ None → length files ≤ position_or_len p files
no_place p files h =
    let none : Option ℕ = None in let P : Bool → Type 0 = λ v. ltb (position_or_len p files) (length files) ≡ v → cond v (Some (position_or_len p files)) none ≡ none → length files ≤ position_or_len p files in
    (elim (ltb (position_or_len p files) (length files)) as P [ true ↦ λ q e. cc | false ↦ λ q e. omega (arith, ltb-false _ _ q) ]) refl h

pub put-replaced : (old new files : List Held) (name : List ℕ) (file : Held) (place : Option ℕ) (i : ℕ) → place ≡ position (named name) files → files ≡ old → name ≡ file.name → place ≡ Some i → new ≡ set old i file → held_in new ≡ holding (held_in old) file.name file.bytes
put-replaced old new files name file place i p f n h e =
    let q : position (named file.name) old ≡ Some i = cc in
    let at = position-Some (named file.name) old i file q in
    rw e (fun_ext (λ asked. replaced_at file file asked old i at.0 at.1 at.2))

pub put-added : (old new files : List Held) (name : List ℕ) (file : Held) (place : Option ℕ) → place ≡ position (named name) files → files ≡ old → name ≡ file.name → place ≡ None → new ≡ old ++ file ∷ [] → held_in new ≡ holding (held_in old) file.name file.bytes
put-added old new files name file place p f n h e =
    let q : position (named file.name) old ≡ None = cc in
    rw e (fun_ext (λ asked. added_at file asked old (no_place (named file.name) old q)))
