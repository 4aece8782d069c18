-- Which broken rule is told (own): that of the first node in the order of tokens, a node by its first token,
-- and at it the lowest rule. Of nodes that begin at one token the outer comes first.
use Rattle.std.specs.Prelude.{ℕ, Bool, ◌&&◌, ◌||◌, nat_lt, ◌==◌, List, [], ◌∷◌, Option, Some, None, if◌then◌else◌}
use Rattle.mql_syntax.specs.declared.kind.Place.{Place}
use Rattle.mql_names.specs.declared.fault.Broken.{Broken}

-- a is told before b
abbrev pub is_before : Broken → Broken → Bool
is_before a b =
    nat_lt a.first b.first
    || (a.first == b.first && (nat_lt a.rule b.rule || (a.rule == b.rule && nat_lt a.node b.node)))

-- of two the one that is told
abbrev pub sooner : Option Broken → Option Broken → Option Broken
sooner None b = b
sooner (Some x) None = Some x
sooner (Some x) (Some y) = if is_before y x then Some y else Some x

-- the one that is told, if there is any
abbrev pub told : List Broken → Option Broken
told [] = None
told (x ∷ xs) = sooner (Some x) (told xs)

-- a rule that is broken at a place where this holds
abbrev pub break_if : Bool → ℕ → Place → List Broken
break_if b r p = if b then record { rule = r; node = p.at; first = p.first } ∷ [] else []
