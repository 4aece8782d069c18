-- Arguments that are read, where numbers are handed on.
use Rattle.std.proofs.Common.{◌≡◌, ℕ, ℤ, List, Some, Result, subst}
use Rattle.mql_meaning.specs.declared.store.Store.{Store}
use Rattle.mql_meaning.specs.ArrayFunctions.{ArrayParts}
use Rattle.mql_meaning.specs.Changes.{Change}
use Rattle.mql_meaning.specs.Natives.{Argument, NativeDone, with_2, with_3, a_number, a_string, an_array}
use Rattle.store_cells.specs.declared.fault.Fault.{Fault}
use Rattle.native_arguments.specs.declared.done.NativeDone as code
use Rattle.native_arguments.specs.Arguments.{array_in, number_in, read_2, read_3, string_in}
use Rattle.native_arguments.specs.Done.{Comes}
use Rattle.native_arguments.proofs.Shapes.{string_number_array_some, two_numbers_some}

pub two_numbers_passed : (f : ℤ → ℤ → Change NativeDone) (xs : List Argument) (u v p q : ℤ)
    (r : Result code.NativeDone Fault) (s : Store) → read_2 number_in number_in xs ≡ Some (u, v) →
    p ≡ u → q ≡ v → Comes (f p q s) r s → Comes (with_2 a_number a_number f xs s) r s
two_numbers_passed f xs u v p q r s e d g h =
    two_numbers_some f xs u v r s e
    (subst (λ (x : ℤ). Comes (f x v s) r s) d (subst (λ (y : ℤ). Comes (f p y s) r s) g h))

pub string_number_array_passed : (f : List ℕ → ℤ → ArrayParts → Change NativeDone) (xs : List Argument)
    (t : List ℕ) (u p : ℤ) (a : ArrayParts) (r : Result code.NativeDone Fault) (s : Store) →
    read_3 string_in number_in array_in xs ≡ Some (t, u, a) → p ≡ u → Comes (f t p a s) r s →
    Comes (with_3 a_string a_number an_array f xs s) r s
string_number_array_passed f xs t u p a r s e d h =
    string_number_array_some f xs t u a r s e (subst (λ (x : ℤ). Comes (f t x a s) r s) d h)
