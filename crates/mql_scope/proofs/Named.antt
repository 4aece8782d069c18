-- The last of a name, from the end.
use Rattle.std.proofs.Common.{rules, ◌≡◌, ap, sym, refl, ◌∙◌, ℕ, ◌+◌, ◌-◌, ◌<◌, ◌≤◌, List, [], ◌∷◌, ◌++◌, length, map, take, slice_index_or, Option, Some, Bool, true, false, arith}
use Rattle.std.proofs.lemmas.List.{take_more, length-map}
use Rattle.std.specs.Prelude.{bytes_eq, if◌then◌else◌}
use Rattle.mql_scope.specs.declared.context.Known.{Known}
use Rattle.mql_scope.specs.declared.context.Layout.{Layout}
use Rattle.mql_scope.specs.declared.context.Enumeration.{Enumeration}
use Rattle.mql_scope.specs.Contexts.{Text, either, variable_named, number_named, layout_names, enumeration_names}

-- a choice among three
either-if : {A : Type 0} (b : Bool) (x : A) (o r : Option A) →
    either (if b then Some x else o) r ≡ (if b then Some x else either o r)
either-if true x o r = refl
either-if false x o r = refl

-- the first items, to one before
take_before : {A : Type 0} (xs : List A) (m : ℕ) (x : A) → 1 ≤ m → m ≤ length xs → x ≡ slice_index_or xs (m - 1) x →
    take m xs ≡ take (m - 1) xs ++ x ∷ []
take_before xs m x a b e =
    let s : m ≡ m - 1 + 1 = omega (arith, a) in
    let l : m - 1 < length xs = omega (arith, a, b) in
    ap (λ i. take i xs) s ∙ (take_more xs (m - 1) x l ∙ ap (λ j. take (m - 1) xs ++ j ∷ []) (sym e))

variable_last : (x : Text) (ks : List Known) (k : Known) →
    variable_named x (ks ++ k ∷ []) ≡ (if bytes_eq k.name x then Some k else variable_named x ks)
variable_last x [] k = refl
variable_last x (j ∷ ks) k =
    rw (variable_last x ks k) (either-if (bytes_eq k.name x) k (variable_named x ks) _)

variable_before : (x : Text) (ks : List Known) (m : ℕ) (k : Known) → 1 ≤ m → m ≤ length ks →
    k ≡ slice_index_or ks (m - 1) k →
    variable_named x (take m ks) ≡ (if bytes_eq k.name x then Some k else variable_named x (take (m - 1) ks))
variable_before x ks m k a b e = rw (take_before ks m k a b e) (variable_last x (take (m - 1) ks) k)

-- the last of the first variables has the name, or is left out
pub variable_hit : (x : Text) (ks : List Known) (m : ℕ) (k : Known) → 1 ≤ m → m ≤ length ks →
    k ≡ slice_index_or ks (m - 1) k → bytes_eq k.name x ≡ true → variable_named x (take m ks) ≡ Some k
variable_hit x ks m k a b e h =
    variable_before x ks m k a b e ∙ ap (λ c. if c then Some k else variable_named x (take (m - 1) ks)) h

pub variable_miss : (x : Text) (ks : List Known) (m : ℕ) (k : Known) → 1 ≤ m → m ≤ length ks →
    k ≡ slice_index_or ks (m - 1) k → bytes_eq k.name x ≡ false →
    variable_named x (take (m - 1) ks) ≡ variable_named x (take m ks)
variable_miss x ks m k a b e h =
    sym (variable_before x ks m k a b e ∙ ap (λ c. if c then Some k else variable_named x (take (m - 1) ks)) h)

zero-plus : (n : ℕ) → length {A = Text} [] + n ≡ n
zero-plus n = omega arith

number_last : (x : Text) (ys : List Text) (y : Text) (n : ℕ) →
    number_named x (ys ++ y ∷ []) n ≡ (if bytes_eq y x then Some (length ys + n) else number_named x ys n)
number_last x [] y n = rw (zero-plus n) refl
number_last x (z ∷ ys) y n =
    let e : length ys + (n + 1) ≡ length (z ∷ ys) + n = omega arith in
    rw (number_last x ys y (n + 1)) (rw e (either-if (bytes_eq y x) (length (z ∷ ys) + n) (number_named x ys (n + 1)) _))

map_last : {A B : Type 0} (f : A → B) (xs : List A) (x : A) → map f (xs ++ x ∷ []) ≡ map f xs ++ f x ∷ []
map_last f [] x = refl
map_last f (y ∷ xs) x = ap (λ r. f y ∷ r) (map_last f xs x)

length_take : {A : Type 0} (xs : List A) (n : ℕ) → n ≤ length xs → length (take n xs) ≡ n
length_take xs n l = search rules

number_before : {A : Type 0} (f : A → Text) (x : Text) (ls : List A) (m : ℕ) (l : A) → 1 ≤ m → m ≤ length ls →
    l ≡ slice_index_or ls (m - 1) l →
    number_named x (map f (take m ls)) 0
    ≡ (if bytes_eq (f l) x then Some (m - 1) else number_named x (map f (take (m - 1) ls)) 0)
number_before f x ls m l a b e =
    let n : length (map f (take (m - 1) ls)) + 0 ≡ m - 1 =
    omega (arith, a, length-map (take (m - 1) ls) f, length_take ls (m - 1) (omega (arith, a, b))) in
    rw (take_before ls m l a b e) (rw (map_last f (take (m - 1) ls) l)
    (number_last x (map f (take (m - 1) ls)) (f l) 0
    ∙ ap (λ k. if bytes_eq (f l) x then Some k else number_named x (map f (take (m - 1) ls)) 0) n))

number_hit : {A : Type 0} (f : A → Text) (x : Text) (ls : List A) (m : ℕ) (l : A) → 1 ≤ m → m ≤ length ls →
    l ≡ slice_index_or ls (m - 1) l → bytes_eq (f l) x ≡ true →
    number_named x (map f (take m ls)) 0 ≡ Some (m - 1)
number_hit f x ls m l a b e h =
    number_before f x ls m l a b e
    ∙ ap (λ c. if c then Some (m - 1) else number_named x (map f (take (m - 1) ls)) 0) h

number_miss : {A : Type 0} (f : A → Text) (x : Text) (ls : List A) (m : ℕ) (l : A) → 1 ≤ m → m ≤ length ls →
    l ≡ slice_index_or ls (m - 1) l → bytes_eq (f l) x ≡ false →
    number_named x (map f (take (m - 1) ls)) 0 ≡ number_named x (map f (take m ls)) 0
number_miss f x ls m l a b e h =
    sym (number_before f x ls m l a b e
    ∙ ap (λ c. if c then Some (m - 1) else number_named x (map f (take (m - 1) ls)) 0) h)

-- the last of the first structures or enumerations has the name, or is left out
pub structure_hit : (x : Text) (ls : List Layout) (m : ℕ) (l : Layout) → 1 ≤ m → m ≤ length ls →
    l ≡ slice_index_or ls (m - 1) l → bytes_eq l.name x ≡ true →
    number_named x (layout_names (take m ls)) 0 ≡ Some (m - 1)
structure_hit x ls m l a b e h = number_hit (λ (k : Layout). k.name) x ls m l a b e h

pub structure_miss : (x : Text) (ls : List Layout) (m : ℕ) (l : Layout) → 1 ≤ m → m ≤ length ls →
    l ≡ slice_index_or ls (m - 1) l → bytes_eq l.name x ≡ false →
    number_named x (layout_names (take (m - 1) ls)) 0 ≡ number_named x (layout_names (take m ls)) 0
structure_miss x ls m l a b e h = number_miss (λ (k : Layout). k.name) x ls m l a b e h

pub enumeration_hit : (x : Text) (ls : List Enumeration) (m : ℕ) (l : Enumeration) → 1 ≤ m → m ≤ length ls →
    l ≡ slice_index_or ls (m - 1) l → bytes_eq l.name x ≡ true →
    number_named x (enumeration_names (take m ls)) 0 ≡ Some (m - 1)
enumeration_hit x ls m l a b e h = number_hit (λ (k : Enumeration). k.name) x ls m l a b e h

pub enumeration_miss : (x : Text) (ls : List Enumeration) (m : ℕ) (l : Enumeration) → 1 ≤ m → m ≤ length ls →
    l ≡ slice_index_or ls (m - 1) l → bytes_eq l.name x ≡ false →
    number_named x (enumeration_names (take (m - 1) ls)) 0 ≡ number_named x (enumeration_names (take m ls)) 0
enumeration_miss x ls m l a b e h = number_miss (λ (k : Enumeration). k.name) x ls m l a b e h
