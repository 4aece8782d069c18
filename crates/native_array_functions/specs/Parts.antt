-- Parts of what native functions of arrays do.
use Rattle.std.specs.Prelude.{ℕ, ℤ, pos, negsuc, ◌-◌, Bool, List, [], ◌∷◌, length, Option, Some, None}
use Rattle.mql_mean.specs.declared.value.Value.{Value}
use Rattle.mql_meaning.specs.declared.cell.Cell.{Cell}
use Rattle.mql_meaning.specs.Changes.{Change, ◌>>=◌, either}
use Rattle.mql_meaning.specs.StringFunctions.{place_in, count_in, part_of}
use Rattle.mql_meaning.specs.ArrayFunctions.{ArrayParts, best, copy_at, filled, grown, leaves, rebuilt}
use Rattle.mql_meaning.specs.Natives.{NativeDone, fitting, in_range, minus_one, gives, gives_with, whole}

-- the place of the best among numbers from a place on, of which there must be one
abbrev pub among : (ℤ → ℤ → Bool) → List ℤ → ℤ → ℤ → Change NativeDone
among better xs start count =
    in_range minus_one (place_in start (length xs)) (λ i.
    in_range minus_one (count_in count (length xs - i)) (λ n.
    in_range minus_one (best better i (part_of xs i n)) (λ k. gives (whole k))))

-- an array gets so many elements from a place on
abbrev pub put_elements : ArrayParts → ℕ → ℕ → List Cell → Change NativeDone
put_elements a t k from = do
  c ← copy_at (rebuilt (either a.dynamic (grown a t k) a)) t from
  gives_with (c ∷ []) (whole k)

-- a number as a place
abbrev pub place_from : ℤ → Option ℕ
place_from (pos i) = Some i
place_from (negsuc i) = None

-- an array gets some of so many elements
abbrev pub copy_into : ArrayParts → List Cell → ℤ → ℤ → ℤ → Change NativeDone
copy_into a from at start count =
    in_range (whole 0) (place_in start (length from)) (λ f.
    in_range (whole 0) (count_in count (length from - f)) (λ n.
    in_range (whole 0) (place_from at) (λ t.
    in_range (whole 0) (fitting a t n) (λ k. put_elements a t k (part_of from f k)))))

-- the elements of an array get a number each
abbrev pub fills : Cell → Value → Change NativeDone
fills c v = filled c v >>= λ d. gives_with (d ∷ []) (whole (length (leaves c)))
