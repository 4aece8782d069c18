-- Sizes of arrays (MQL5 Reference, Variables; Data Types, Dynamic Arrays).
use Rattle.std.specs.Prelude.{ℕ, ℤ, pos, ◌*◌, nat_le, int_le, unsigned_abs, Bool, true, false, not, ◌&&◌, List, [], ◌∷◌, map, flat_map, ◌++◌, Option, Some, None, if◌then◌else◌}
use Rattle.natives.specs.declared.types.ConstantValue.{ConstantValue}
use Rattle.natives.specs.declared.types.ConstantValue.TheVariants.{Integer, Double}
use Rattle.mql_syntax.specs.declared.declaration.Dimension.{Dimension}
use Rattle.mql_syntax.specs.declared.declaration.Dimension.TheVariants.{Open, Size}
use Rattle.mql_syntax.specs.declared.declaration.Syntax.{Syntax}
use Rattle.mql_names.specs.declared.fault.Broken.{Broken}
use Rattle.mql_names.specs.Faults.{break_if, told}
use Rattle.mql_names.specs.Scopes.{Name}
use Rattle.mql_names.specs.Types.{Names}
use Rattle.mql_names.specs.Meanings.{names_of}
use Rattle.mql_walk.specs.Things.{Thing, things_of}
use Rattle.mql_walk.specs.Things as thing
use Rattle.mql_sizes.specs.Members.{Values, constant_in, enumerations_of, all_members, value_among, valueless}

-- the greatest number of elements that dimensions give an array (own)
abbrev pub most_elements : ℕ
most_elements = 1000000

-- the size that a constant gives a dimension: an integer from 1 to the greatest number of elements
abbrev pub size_of : Option ConstantValue → Option ℕ
size_of None = None
size_of (Some (Integer k x)) =
    if int_le (pos 1) x && int_le x (pos 1000000) then Some (unsigned_abs x) else None
size_of (Some (Double x)) = None

-- so many elements, if they are not too many
abbrev pub fewest : ℕ → Option ℕ
fewest n = if nat_le n most_elements then Some n else None

abbrev pub times : ℕ → Option ℕ → Option ℕ
times n None = None
times n (Some k) = fewest (n * k)

-- the elements with one more dimension
abbrev pub after : Names → Values → List Name → ℕ → Dimension → Option ℕ
after names values locals n Open = Some n
after names values locals n (Size v) = times n (size_of (constant_in names values locals v))

-- each size is a constant from 1, and the elements, so many for each place of the dimensions, are not too
-- many
abbrev pub sizes_hold : Names → Values → List Name → ℕ → List Dimension → Bool
sizes_hold names values locals n [] = true
sizes_hold names values locals n (d ∷ ds) =
    elim (after names values locals n d) [ None ↦ false | Some m ↦ sizes_hold names values locals m ds ]

-- 13 a dimension is not a constant from 1, or the product of the dimensions is over 1,000,000
abbrev pub sizes : Names → Values → Thing → List Broken
sizes names values (thing.variable locals v) =
    break_if (not (sizes_hold names values locals 1 v.dimensions)) 13 v.place
sizes names values _ = []

-- what breaks the rules on constants
abbrev pub breaks_in : Names → Syntax → List Broken
breaks_in names s =
    let es = enumerations_of names [] s.items in
    flat_map valueless es ++ flat_map (sizes names (value_among (all_members es))) (things_of s)
