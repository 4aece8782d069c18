-- The lowest rule that is broken, rule after rule.
use Rattle.std.proofs.Common.{◌≡◌, ℕ, Bool, true, false, List, [], ◌∷◌, ◌++◌, Option, Some, None, if◌then◌else◌, refl, sym, ap, ◌∙◌}
use Rattle.mql_scope.specs.Contexts.{Context, either}
use Rattle.mql_calls.specs.Nodes.{Node}
use Rattle.mql_expressions.specs.Rules.{Numbered, lowest_in}

-- one more rule in front
pub one_more : (c : Context) (n : Node) (r : Numbered) (rs : List Numbered) (b : Bool) (others result : Option ℕ)
    → b ≡ r.test c n → others ≡ lowest_in rs c n → result ≡ (if b then Some r.number else others)
    → result ≡ lowest_in (r ∷ rs) c n
one_more c n r rs b others result e f g =
    g ∙ ap (λ (x : Bool). if x then Some r.number else others) e
    ∙ ap (λ (x : Option ℕ). if r.test c n then Some r.number else x) f

split : (c : Context) (n : Node) (r : Numbered) (rs ss : List Numbered) (b : Bool)
    → lowest_in (rs ++ ss) c n ≡ either (lowest_in rs c n) (lowest_in ss c n)
    → (if b then Some r.number else lowest_in (rs ++ ss) c n)
    ≡ either (if b then Some r.number else lowest_in rs c n) (lowest_in ss c n)
split c n r rs ss true e = refl
split c n r rs ss false e = e

-- rules behind others
pub joined : (c : Context) (n : Node) (rs ss : List Numbered)
    → lowest_in (rs ++ ss) c n ≡ either (lowest_in rs c n) (lowest_in ss c n)
joined c n [] ss = refl
joined c n (r ∷ rs) ss = split c n r rs ss (r.test c n) (joined c n rs ss)

pub behind : (c : Context) (n : Node) (rs ss : List Numbered) (a b result : Option ℕ)
    → a ≡ lowest_in rs c n → b ≡ lowest_in ss c n → result ≡ either a b → result ≡ lowest_in (rs ++ ss) c n
behind c n rs ss a b result e f g =
    g ∙ ap (λ x. either x b) e ∙ ap (λ x. either (lowest_in rs c n) x) f ∙ sym (joined c n rs ss)

-- the last of two that are there, where one is there by a test
pub last_hit : {A : Type 0} (a : Option A) (b : Bool) (x : A) (hit : Option A)
    → either (either a (if b then Some x else None)) hit ≡ either a (if b then Some x else hit)
last_hit (Some y) b x hit = refl
last_hit None true x hit = refl
last_hit None false x hit = refl

pub no_hit : {A : Type 0} (a : Option A) → either a None ≡ a
no_hit (Some x) = refl
no_hit None = refl
