-- Arguments that are read, where numbers are handed on.
use Rattle.std.proofs.Common.{◌≡◌, ℤ, List, Some, Result, subst}
use Rattle.mql_meaning.specs.declared.cell.Cell.{Cell}
use Rattle.mql_meaning.specs.declared.store.Store.{Store}
use Rattle.mql_meaning.specs.ArrayFunctions.{ArrayParts}
use Rattle.mql_meaning.specs.Changes.{Change}
use Rattle.mql_meaning.specs.Natives.{Argument, NativeDone, with_2, with_3, a_cell, a_number, an_array}
use Rattle.store_cells.specs.declared.fault.Fault.{Fault}
use Rattle.native_arguments.specs.declared.done.NativeDone as code
use Rattle.native_arguments.specs.Arguments.{array_in, cell_in, number_in, read_2, read_3}
use Rattle.native_arguments.specs.Done.{Comes}
use Rattle.native_arguments.proofs.Shapes.{array_number_some, array_two_numbers_some, cell_two_numbers_some}

pub array_number_passed : (f : ArrayParts → ℤ → Change NativeDone) (xs : List Argument)
    (a : ArrayParts) (u p : ℤ)
    (r : Result code.NativeDone Fault) (s : Store) → read_2 array_in number_in xs ≡ Some (a, u) → p ≡ u →
    Comes (f a p s) r s → Comes (with_2 an_array a_number f xs s) r s
array_number_passed f xs a u p r s e d h =
    array_number_some f xs a u r s e (subst (λ (x : ℤ). Comes (f a x s) r s) d h)

pub array_two_numbers_passed : (f : ArrayParts → ℤ → ℤ → Change NativeDone) (xs : List Argument)
    (a : ArrayParts) (u v p : ℤ) (r : Result code.NativeDone Fault) (s : Store) →
    read_3 array_in number_in number_in xs ≡ Some (a, u, v) → p ≡ u → Comes (f a p v s) r s →
    Comes (with_3 an_array a_number a_number f xs s) r s
array_two_numbers_passed f xs a u v p r s e d h =
    array_two_numbers_some f xs a u v r s e (subst (λ (x : ℤ). Comes (f a x v s) r s) d h)

pub cell_two_numbers_passed : (f : Cell → ℤ → ℤ → Change NativeDone) (xs : List Argument) (c : Cell)
    (u v p q : ℤ) (r : Result code.NativeDone Fault) (s : Store) →
    read_3 cell_in number_in number_in xs ≡ Some (c, u, v) → p ≡ u → q ≡ v → Comes (f c p q s) r s →
    Comes (with_3 a_cell a_number a_number f xs s) r s
cell_two_numbers_passed f xs c u v p q r s e d g h =
    cell_two_numbers_some f xs c u v r s e
    (subst (λ (x : ℤ). Comes (f c x v s) r s) d (subst (λ (y : ℤ). Comes (f c p y s) r s) g h))
