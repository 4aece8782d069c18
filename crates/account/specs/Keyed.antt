-- Lists in the order of a key, as of tickets (own): what stands at a key, and a change at a key.
use Rattle.std.specs.Prelude.{ℕ, suc, if◌then◌else◌, ◌≡◌, ◌++◌, Bool, true, false, ◌==◌, ltb, List, [], ◌∷◌, Option, Some, None, ⊤}
use Rattle.std.specs.List.{filter, find}
use Rattle.std.specs.Option.{option_to_list, option_map}

-- the items of lower keys; those of higher keys
abbrev pub below : {X K : Type 0} → (K → K → Bool) → (X → K) → K → List X → List X
below lt key t xs = filter (λ x. lt (key x) t) xs

abbrev pub above : {X K : Type 0} → (K → K → Bool) → (X → K) → K → List X → List X
above lt key t xs = filter (λ x. lt t (key x)) xs

-- the items with another one, or none, at a key, in the order of the keys
abbrev pub put_by : {X K : Type 0} → (K → K → Bool) → (X → K) → K → Option X → List X → List X
put_by lt key t new xs = below lt key t xs ++ option_to_list new ++ above lt key t xs

-- each key is above k
abbrev pub AllAbove : {X K : Type 0} → (K → K → Bool) → (X → K) → K → List X → Type 0
AllAbove lt key k [] = ⊤
AllAbove lt key k (x ∷ xs) = (lt k (key x) ≡ true) × AllAbove lt key k xs

-- keys rise
abbrev pub RisingBy : {X K : Type 0} → (K → K → Bool) → (X → K) → List X → Type 0
RisingBy lt key [] = ⊤
RisingBy lt key (x ∷ xs) = AllAbove lt key (key x) xs × RisingBy lt key xs

-- how many items come before a key
abbrev pub place_by : {X K : Type 0} → (K → K → Bool) → (X → K) → K → List X → ℕ
place_by lt key t [] = 0
place_by lt key t (x ∷ xs) = if lt (key x) t then suc (place_by lt key t xs) else 0

-- a strict total order
pub record IsStrict {K : Type 0} (lt : K → K → Bool) : Type 0 where
  pub none : (a : K) → lt a a ≡ false
  pub chain : (a b c : K) → lt a b ≡ true → lt b c ≡ true → lt a c ≡ true
  pub total : (a b : K) → lt a b ≡ false → lt b a ≡ false → a ≡ b

-- the item of a ticket, where there is one
abbrev pub item : {X : Type 0} → (X → ℕ) → ℕ → List X → Option X
item key t xs = find (λ x. key x == t) xs

-- the items with another one, or none, at a ticket
abbrev pub put : {X : Type 0} → (X → ℕ) → ℕ → Option X → List X → List X
put key t new xs = put_by ltb key t new xs

-- tickets rise
abbrev pub Rising : {X : Type 0} → (X → ℕ) → List X → Type 0
Rising key xs = RisingBy ltb key xs

-- how many items have lower tickets
abbrev pub lower : {X : Type 0} → (X → ℕ) → ℕ → List X → ℕ
lower key t xs = place_by ltb key t xs

-- where the item of a ticket stands
abbrev pub found : {X : Type 0} → (X → ℕ) → ℕ → List X → Option ℕ
found key t xs = option_map (λ x. lower key t xs) (item key t xs)

-- the item, if there is one, has the ticket
abbrev pub KeyIs : {X : Type 0} → (X → ℕ) → ℕ → Option X → Type 0
KeyIs key t None = ⊤
KeyIs key t (Some x) = key x ≡ t
