-- What is spelled so.
use Rattle.std.specs.Prelude.{ℕ, List, [], ◌∷◌, bytes_eq, Option, Some, None, if◌then◌else◌}

-- the first of some things, each with its spelling, that is spelled so
abbrev pub spelled_among : {K : Type 0} → (K → List ℕ) → List K → List ℕ → Option K
spelled_among spelling [] us = None
spelled_among spelling (k ∷ ks) us = if bytes_eq us (spelling k) then Some k else spelled_among spelling ks us
