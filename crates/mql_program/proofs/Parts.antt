-- Lists of parts, one more after another.
use Rattle.std.proofs.Common.{◌≡◌, ℕ, Bool, true, false, ◌||◌, List, [], ◌∷◌, ◌++◌, map, Option, Some, None, option_map, slice_get, if◌then◌else◌, refl, ap, ◌∙◌}
use Rattle.std.specs.Borrow.{Bor}
use Rattle.std.proofs.lemmas.List.{map-append}
use Rattle.std.proofs.lemmas.Option.{slice_get-map}
use Rattle.mql_syntax.specs.declared.declaration.Function.{Function}
use Rattle.mql_names.specs.Types.{Names}
use Rattle.mql_scope.specs.Contexts.{either}
use Rattle.mql_program.specs.Lists.{lent, all_lent}
use Rattle.mql_program.specs.Programs.{is_one_function, stands_among, without_body}

pub map_more : {A B : Type 0} (f : A → B) (xs : List A) (x : A) → map f (xs ++ x ∷ []) ≡ map f xs ++ f x ∷ []
map_more f [] x = refl
map_more f (y ∷ xs) x = ap (λ r. f y ∷ r) (map_more f xs x)

pub lent_more : {A : Type 0} (xs : List (Bor A)) (x : Bor A) → all_lent (xs ++ x ∷ []) ≡ all_lent xs ++ x.now ∷ []
lent_more xs x = map_more lent xs x

pub lent_append : {A : Type 0} (xs ys : List (Bor A)) → all_lent (xs ++ ys) ≡ all_lent xs ++ all_lent ys
lent_append xs ys = map-append lent xs ys

-- the last of two that are there, where one is there by a test
pub last_of_three : {A : Type 0} (a b hit : Option A) → either (either a b) hit ≡ either a (either b hit)
last_of_three (Some y) b hit = refl
last_of_three None b hit = refl

pub either_none : {A : Type 0} (a : Option A) → either a None ≡ a
either_none (Some x) = refl
either_none None = refl

-- functions among others
or_assoc : (a b c : Bool) → (a || (b || c)) ≡ ((a || b) || c)
or_assoc true b c = refl
or_assoc false b c = refl

pub among_more : (names : Names) (f : Function) (xs ys : List Function) →
    stands_among names f (xs ++ ys) ≡ (stands_among names f xs || stands_among names f ys)
among_more names f [] ys = refl
among_more names f (x ∷ xs) ys =
    ap (λ (b : Bool). is_one_function names f x || b) (among_more names f xs ys)
    ∙ or_assoc (is_one_function names f x) (stands_among names f xs) (stands_among names f ys)

pub first_among : (names : Names) (f : Function) (xs ys : List Function) → stands_among names f xs ≡ true →
    stands_among names f (xs ++ ys) ≡ true
first_among names f xs ys e =
    among_more names f xs ys ∙ ap (λ (b : Bool). b || stands_among names f ys) e

pub none_among_first : (names : Names) (f : Function) (xs ys : List Function) → stands_among names f xs ≡ false →
    stands_among names f (xs ++ ys) ≡ stands_among names f ys
none_among_first names f xs ys e =
    among_more names f xs ys ∙ ap (λ (b : Bool). b || stands_among names f ys) e

-- one more of those that have no body, and one that is known
pub known_left_out : (names : Names) (f : Function) (known fs : List Function) → stands_among names f known ≡ true →
    without_body names known (f ∷ fs) ≡ without_body names known fs
known_left_out names f known fs e =
    ap (λ (b : Bool). if b then without_body names known fs else f ∷ without_body names (known ++ f ∷ []) fs) e

pub new_found : (names : Names) (f : Function) (known fs : List Function) → stands_among names f known ≡ false →
    without_body names known (f ∷ fs) ≡ f ∷ without_body names (known ++ f ∷ []) fs
new_found names f known fs e =
    ap (λ (b : Bool). if b then without_body names known fs else f ∷ without_body names (known ++ f ∷ []) fs) e

-- what is lent at a place
pub lent_at : {A : Type 0} (xs : List (Bor A)) (n : ℕ) (x : Bor A) → slice_get xs n ≡ Some x → slice_get (all_lent xs) n ≡ Some x.now
lent_at xs n x e = slice_get-map lent xs n ∙ ap (option_map lent) e

pub none_lent_at : {A : Type 0} (xs : List (Bor A)) (n : ℕ) → slice_get xs n ≡ None → slice_get (all_lent xs) n ≡ None
none_lent_at xs n e = slice_get-map lent xs n ∙ ap (option_map lent) e
