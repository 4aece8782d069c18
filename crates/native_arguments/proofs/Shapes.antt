-- What native functions do with arguments that are read.
use Rattle.std.proofs.Common.{◌≡◌, ℕ, ℤ, List, Option, Some, None, Result, refl, sym, ap, ◌∙◌, subst}
use Rattle.mql_mean.specs.declared.value.Value.{Value}
use Rattle.mql_meaning.specs.declared.cell.Cell.{Cell}
use Rattle.mql_meaning.specs.declared.store.Store.{Store}
use Rattle.mql_meaning.specs.Changes.{Change, Out, Done, Over, Stuck}
use Rattle.mql_meaning.specs.ArrayFunctions.{ArrayParts}
use Rattle.mql_meaning.specs.Natives.{Argument, NativeDone, with_1, with_2, with_3, a_value, a_cell, a_number, a_double, a_string, lent_string, an_array}
use Rattle.store_cells.specs.declared.fault.Fault.{Fault}
use Rattle.native_arguments.specs.declared.done.NativeDone as code
use Rattle.native_arguments.specs.Arguments.{value_in, cell_in, number_in, double_in, string_in, lent_string_in, array_in, read_1, read_2, read_3}
use Rattle.native_arguments.specs.Done.{Comes}
use Rattle.native_arguments.proofs.Agrees.{agree_value, agree_cell, agree_number, agree_double, agree_string, agree_lent_string, agree_array, none_1, some_1, none_2, some_2, none_3, some_3}

pub one_value_none : (f : Value → Change NativeDone) (xs : List Argument) (s : Store) →
    read_1 value_in xs ≡ None → with_1 a_value f xs s ≡ Over Stuck s
one_value_none f xs s h = none_1 a_value value_in agree_value f xs s h

pub one_value_some : (f : Value → Change NativeDone) (xs : List Argument) (u : Value)
    (r : Result code.NativeDone Fault) (s : Store) → read_1 value_in xs ≡ Some u →
    Comes (f u s) r s → Comes (with_1 a_value f xs s) r s
one_value_some f xs u r s h = some_1 a_value value_in agree_value f xs u r s h

pub one_cell_none : (f : Cell → Change NativeDone) (xs : List Argument) (s : Store) →
    read_1 cell_in xs ≡ None → with_1 a_cell f xs s ≡ Over Stuck s
one_cell_none f xs s h = none_1 a_cell cell_in agree_cell f xs s h

pub one_cell_some : (f : Cell → Change NativeDone) (xs : List Argument) (u : Cell)
    (r : Result code.NativeDone Fault) (s : Store) → read_1 cell_in xs ≡ Some u →
    Comes (f u s) r s → Comes (with_1 a_cell f xs s) r s
one_cell_some f xs u r s h = some_1 a_cell cell_in agree_cell f xs u r s h

pub one_number_none : (f : ℤ → Change NativeDone) (xs : List Argument) (s : Store) →
    read_1 number_in xs ≡ None → with_1 a_number f xs s ≡ Over Stuck s
one_number_none f xs s h = none_1 a_number number_in agree_number f xs s h

pub one_number_some : (f : ℤ → Change NativeDone) (xs : List Argument) (u : ℤ)
    (r : Result code.NativeDone Fault) (s : Store) → read_1 number_in xs ≡ Some u →
    Comes (f u s) r s → Comes (with_1 a_number f xs s) r s
one_number_some f xs u r s h = some_1 a_number number_in agree_number f xs u r s h

pub one_double_none : (f : ℤ → Change NativeDone) (xs : List Argument) (s : Store) →
    read_1 double_in xs ≡ None → with_1 a_double f xs s ≡ Over Stuck s
one_double_none f xs s h = none_1 a_double double_in agree_double f xs s h

pub one_double_some : (f : ℤ → Change NativeDone) (xs : List Argument) (u : ℤ)
    (r : Result code.NativeDone Fault) (s : Store) → read_1 double_in xs ≡ Some u →
    Comes (f u s) r s → Comes (with_1 a_double f xs s) r s
one_double_some f xs u r s h = some_1 a_double double_in agree_double f xs u r s h

pub one_string_none : (f : (List ℕ) → Change NativeDone) (xs : List Argument) (s : Store) →
    read_1 string_in xs ≡ None → with_1 a_string f xs s ≡ Over Stuck s
one_string_none f xs s h = none_1 a_string string_in agree_string f xs s h

pub one_string_some : (f : (List ℕ) → Change NativeDone) (xs : List Argument) (u : List ℕ)
    (r : Result code.NativeDone Fault) (s : Store) → read_1 string_in xs ≡ Some u →
    Comes (f u s) r s → Comes (with_1 a_string f xs s) r s
one_string_some f xs u r s h = some_1 a_string string_in agree_string f xs u r s h

pub one_lent_string_none : (f : (List ℕ) → Change NativeDone) (xs : List Argument) (s : Store) →
    read_1 lent_string_in xs ≡ None → with_1 lent_string f xs s ≡ Over Stuck s
one_lent_string_none f xs s h = none_1 lent_string lent_string_in agree_lent_string f xs s h

pub one_lent_string_some : (f : (List ℕ) → Change NativeDone) (xs : List Argument) (u : List ℕ)
    (r : Result code.NativeDone Fault) (s : Store) → read_1 lent_string_in xs ≡ Some u →
    Comes (f u s) r s → Comes (with_1 lent_string f xs s) r s
one_lent_string_some f xs u r s h = some_1 lent_string lent_string_in agree_lent_string f xs u r s h

pub one_array_none : (f : ArrayParts → Change NativeDone) (xs : List Argument) (s : Store) →
    read_1 array_in xs ≡ None → with_1 an_array f xs s ≡ Over Stuck s
one_array_none f xs s h = none_1 an_array array_in agree_array f xs s h

pub one_array_some : (f : ArrayParts → Change NativeDone) (xs : List Argument) (u : ArrayParts)
    (r : Result code.NativeDone Fault) (s : Store) → read_1 array_in xs ≡ Some u →
    Comes (f u s) r s → Comes (with_1 an_array f xs s) r s
one_array_some f xs u r s h = some_1 an_array array_in agree_array f xs u r s h

pub string_number_none : (f : (List ℕ) → ℤ → Change NativeDone) (xs : List Argument) (s : Store) →
    read_2 string_in number_in xs ≡ None → with_2 a_string a_number f xs s ≡ Over Stuck s
string_number_none f xs s h = none_2 a_string a_number string_in number_in agree_string agree_number f xs s h

pub string_number_some : (f : (List ℕ) → ℤ → Change NativeDone) (xs : List Argument) (u : List ℕ) (v : ℤ)
    (r : Result code.NativeDone Fault) (s : Store) → read_2 string_in number_in xs ≡ Some (u, v) →
    Comes (f u v s) r s → Comes (with_2 a_string a_number f xs s) r s
string_number_some f xs u v r s h = some_2 a_string a_number string_in number_in agree_string agree_number f xs u v r s h

pub double_number_none : (f : ℤ → ℤ → Change NativeDone) (xs : List Argument) (s : Store) →
    read_2 double_in number_in xs ≡ None → with_2 a_double a_number f xs s ≡ Over Stuck s
double_number_none f xs s h = none_2 a_double a_number double_in number_in agree_double agree_number f xs s h

pub double_number_some : (f : ℤ → ℤ → Change NativeDone) (xs : List Argument) (u : ℤ) (v : ℤ)
    (r : Result code.NativeDone Fault) (s : Store) → read_2 double_in number_in xs ≡ Some (u, v) →
    Comes (f u v s) r s → Comes (with_2 a_double a_number f xs s) r s
double_number_some f xs u v r s h = some_2 a_double a_number double_in number_in agree_double agree_number f xs u v r s h

pub two_numbers_none : (f : ℤ → ℤ → Change NativeDone) (xs : List Argument) (s : Store) →
    read_2 number_in number_in xs ≡ None → with_2 a_number a_number f xs s ≡ Over Stuck s
two_numbers_none f xs s h = none_2 a_number a_number number_in number_in agree_number agree_number f xs s h

pub two_numbers_some : (f : ℤ → ℤ → Change NativeDone) (xs : List Argument) (u : ℤ) (v : ℤ)
    (r : Result code.NativeDone Fault) (s : Store) → read_2 number_in number_in xs ≡ Some (u, v) →
    Comes (f u v s) r s → Comes (with_2 a_number a_number f xs s) r s
two_numbers_some f xs u v r s h = some_2 a_number a_number number_in number_in agree_number agree_number f xs u v r s h

pub array_number_none : (f : ArrayParts → ℤ → Change NativeDone) (xs : List Argument) (s : Store) →
    read_2 array_in number_in xs ≡ None → with_2 an_array a_number f xs s ≡ Over Stuck s
array_number_none f xs s h = none_2 an_array a_number array_in number_in agree_array agree_number f xs s h

pub array_number_some : (f : ArrayParts → ℤ → Change NativeDone) (xs : List Argument) (u : ArrayParts) (v : ℤ)
    (r : Result code.NativeDone Fault) (s : Store) → read_2 array_in number_in xs ≡ Some (u, v) →
    Comes (f u v s) r s → Comes (with_2 an_array a_number f xs s) r s
array_number_some f xs u v r s h = some_2 an_array a_number array_in number_in agree_array agree_number f xs u v r s h

pub cell_value_none : (f : Cell → Value → Change NativeDone) (xs : List Argument) (s : Store) →
    read_2 cell_in value_in xs ≡ None → with_2 a_cell a_value f xs s ≡ Over Stuck s
cell_value_none f xs s h = none_2 a_cell a_value cell_in value_in agree_cell agree_value f xs s h

pub cell_value_some : (f : Cell → Value → Change NativeDone) (xs : List Argument) (u : Cell) (v : Value)
    (r : Result code.NativeDone Fault) (s : Store) → read_2 cell_in value_in xs ≡ Some (u, v) →
    Comes (f u v s) r s → Comes (with_2 a_cell a_value f xs s) r s
cell_value_some f xs u v r s h = some_2 a_cell a_value cell_in value_in agree_cell agree_value f xs u v r s h

pub two_values_none : (f : Value → Value → Change NativeDone) (xs : List Argument) (s : Store) →
    read_2 value_in value_in xs ≡ None → with_2 a_value a_value f xs s ≡ Over Stuck s
two_values_none f xs s h = none_2 a_value a_value value_in value_in agree_value agree_value f xs s h

pub two_values_some : (f : Value → Value → Change NativeDone) (xs : List Argument) (u : Value) (v : Value)
    (r : Result code.NativeDone Fault) (s : Store) → read_2 value_in value_in xs ≡ Some (u, v) →
    Comes (f u v s) r s → Comes (with_2 a_value a_value f xs s) r s
two_values_some f xs u v r s h = some_2 a_value a_value value_in value_in agree_value agree_value f xs u v r s h

pub two_doubles_none : (f : ℤ → ℤ → Change NativeDone) (xs : List Argument) (s : Store) →
    read_2 double_in double_in xs ≡ None → with_2 a_double a_double f xs s ≡ Over Stuck s
two_doubles_none f xs s h = none_2 a_double a_double double_in double_in agree_double agree_double f xs s h

pub two_doubles_some : (f : ℤ → ℤ → Change NativeDone) (xs : List Argument) (u : ℤ) (v : ℤ)
    (r : Result code.NativeDone Fault) (s : Store) → read_2 double_in double_in xs ≡ Some (u, v) →
    Comes (f u v s) r s → Comes (with_2 a_double a_double f xs s) r s
two_doubles_some f xs u v r s h = some_2 a_double a_double double_in double_in agree_double agree_double f xs u v r s h

pub number_cell_none : (f : ℤ → Cell → Change NativeDone) (xs : List Argument) (s : Store) →
    read_2 number_in cell_in xs ≡ None → with_2 a_number a_cell f xs s ≡ Over Stuck s
number_cell_none f xs s h = none_2 a_number a_cell number_in cell_in agree_number agree_cell f xs s h

pub number_cell_some : (f : ℤ → Cell → Change NativeDone) (xs : List Argument) (u : ℤ) (v : Cell)
    (r : Result code.NativeDone Fault) (s : Store) → read_2 number_in cell_in xs ≡ Some (u, v) →
    Comes (f u v s) r s → Comes (with_2 a_number a_cell f xs s) r s
number_cell_some f xs u v r s h = some_2 a_number a_cell number_in cell_in agree_number agree_cell f xs u v r s h

pub string_two_numbers_none : (f : (List ℕ) → ℤ → ℤ → Change NativeDone) (xs : List Argument) (s : Store) →
    read_3 string_in number_in number_in xs ≡ None → with_3 a_string a_number a_number f xs s ≡ Over Stuck s
string_two_numbers_none f xs s h = none_3 a_string a_number a_number string_in number_in number_in agree_string agree_number agree_number f xs s h

pub string_two_numbers_some : (f : (List ℕ) → ℤ → ℤ → Change NativeDone) (xs : List Argument) (u : List ℕ) (v : ℤ) (w : ℤ)
    (r : Result code.NativeDone Fault) (s : Store) → read_3 string_in number_in number_in xs ≡ Some (u, v, w) →
    Comes (f u v w s) r s → Comes (with_3 a_string a_number a_number f xs s) r s
string_two_numbers_some f xs u v w r s h = some_3 a_string a_number a_number string_in number_in number_in agree_string agree_number agree_number f xs u v w r s h

pub two_strings_number_none : (f : (List ℕ) → (List ℕ) → ℤ → Change NativeDone) (xs : List Argument) (s : Store) →
    read_3 string_in string_in number_in xs ≡ None → with_3 a_string a_string a_number f xs s ≡ Over Stuck s
two_strings_number_none f xs s h = none_3 a_string a_string a_number string_in string_in number_in agree_string agree_string agree_number f xs s h

pub two_strings_number_some : (f : (List ℕ) → (List ℕ) → ℤ → Change NativeDone) (xs : List Argument) (u : List ℕ) (v : List ℕ) (w : ℤ)
    (r : Result code.NativeDone Fault) (s : Store) → read_3 string_in string_in number_in xs ≡ Some (u, v, w) →
    Comes (f u v w s) r s → Comes (with_3 a_string a_string a_number f xs s) r s
two_strings_number_some f xs u v w r s h = some_3 a_string a_string a_number string_in string_in number_in agree_string agree_string agree_number f xs u v w r s h

pub lent_string_two_strings_none : (f : (List ℕ) → (List ℕ) → (List ℕ) → Change NativeDone) (xs : List Argument) (s : Store) →
    read_3 lent_string_in string_in string_in xs ≡ None → with_3 lent_string a_string a_string f xs s ≡ Over Stuck s
lent_string_two_strings_none f xs s h = none_3 lent_string a_string a_string lent_string_in string_in string_in agree_lent_string agree_string agree_string f xs s h

pub lent_string_two_strings_some : (f : (List ℕ) → (List ℕ) → (List ℕ) → Change NativeDone) (xs : List Argument) (u : List ℕ) (v : List ℕ) (w : List ℕ)
    (r : Result code.NativeDone Fault) (s : Store) → read_3 lent_string_in string_in string_in xs ≡ Some (u, v, w) →
    Comes (f u v w s) r s → Comes (with_3 lent_string a_string a_string f xs s) r s
lent_string_two_strings_some f xs u v w r s h = some_3 lent_string a_string a_string lent_string_in string_in string_in agree_lent_string agree_string agree_string f xs u v w r s h

pub lent_string_two_numbers_none : (f : (List ℕ) → ℤ → ℤ → Change NativeDone) (xs : List Argument) (s : Store) →
    read_3 lent_string_in number_in number_in xs ≡ None → with_3 lent_string a_number a_number f xs s ≡ Over Stuck s
lent_string_two_numbers_none f xs s h = none_3 lent_string a_number a_number lent_string_in number_in number_in agree_lent_string agree_number agree_number f xs s h

pub lent_string_two_numbers_some : (f : (List ℕ) → ℤ → ℤ → Change NativeDone) (xs : List Argument) (u : List ℕ) (v : ℤ) (w : ℤ)
    (r : Result code.NativeDone Fault) (s : Store) → read_3 lent_string_in number_in number_in xs ≡ Some (u, v, w) →
    Comes (f u v w s) r s → Comes (with_3 lent_string a_number a_number f xs s) r s
lent_string_two_numbers_some f xs u v w r s h = some_3 lent_string a_number a_number lent_string_in number_in number_in agree_lent_string agree_number agree_number f xs u v w r s h

pub string_number_array_none : (f : (List ℕ) → ℤ → ArrayParts → Change NativeDone) (xs : List Argument) (s : Store) →
    read_3 string_in number_in array_in xs ≡ None → with_3 a_string a_number an_array f xs s ≡ Over Stuck s
string_number_array_none f xs s h = none_3 a_string a_number an_array string_in number_in array_in agree_string agree_number agree_array f xs s h

pub string_number_array_some : (f : (List ℕ) → ℤ → ArrayParts → Change NativeDone) (xs : List Argument) (u : List ℕ) (v : ℤ) (w : ArrayParts)
    (r : Result code.NativeDone Fault) (s : Store) → read_3 string_in number_in array_in xs ≡ Some (u, v, w) →
    Comes (f u v w s) r s → Comes (with_3 a_string a_number an_array f xs s) r s
string_number_array_some f xs u v w r s h = some_3 a_string a_number an_array string_in number_in array_in agree_string agree_number agree_array f xs u v w r s h

pub three_numbers_none : (f : ℤ → ℤ → ℤ → Change NativeDone) (xs : List Argument) (s : Store) →
    read_3 number_in number_in number_in xs ≡ None → with_3 a_number a_number a_number f xs s ≡ Over Stuck s
three_numbers_none f xs s h = none_3 a_number a_number a_number number_in number_in number_in agree_number agree_number agree_number f xs s h

pub three_numbers_some : (f : ℤ → ℤ → ℤ → Change NativeDone) (xs : List Argument) (u : ℤ) (v : ℤ) (w : ℤ)
    (r : Result code.NativeDone Fault) (s : Store) → read_3 number_in number_in number_in xs ≡ Some (u, v, w) →
    Comes (f u v w s) r s → Comes (with_3 a_number a_number a_number f xs s) r s
three_numbers_some f xs u v w r s h = some_3 a_number a_number a_number number_in number_in number_in agree_number agree_number agree_number f xs u v w r s h

pub array_two_numbers_none : (f : ArrayParts → ℤ → ℤ → Change NativeDone) (xs : List Argument) (s : Store) →
    read_3 array_in number_in number_in xs ≡ None → with_3 an_array a_number a_number f xs s ≡ Over Stuck s
array_two_numbers_none f xs s h = none_3 an_array a_number a_number array_in number_in number_in agree_array agree_number agree_number f xs s h

pub array_two_numbers_some : (f : ArrayParts → ℤ → ℤ → Change NativeDone) (xs : List Argument) (u : ArrayParts) (v : ℤ) (w : ℤ)
    (r : Result code.NativeDone Fault) (s : Store) → read_3 array_in number_in number_in xs ≡ Some (u, v, w) →
    Comes (f u v w s) r s → Comes (with_3 an_array a_number a_number f xs s) r s
array_two_numbers_some f xs u v w r s h = some_3 an_array a_number a_number array_in number_in number_in agree_array agree_number agree_number f xs u v w r s h

pub cell_two_numbers_none : (f : Cell → ℤ → ℤ → Change NativeDone) (xs : List Argument) (s : Store) →
    read_3 cell_in number_in number_in xs ≡ None → with_3 a_cell a_number a_number f xs s ≡ Over Stuck s
cell_two_numbers_none f xs s h = none_3 a_cell a_number a_number cell_in number_in number_in agree_cell agree_number agree_number f xs s h

pub cell_two_numbers_some : (f : Cell → ℤ → ℤ → Change NativeDone) (xs : List Argument) (u : Cell) (v : ℤ) (w : ℤ)
    (r : Result code.NativeDone Fault) (s : Store) → read_3 cell_in number_in number_in xs ≡ Some (u, v, w) →
    Comes (f u v w s) r s → Comes (with_3 a_cell a_number a_number f xs s) r s
cell_two_numbers_some f xs u v w r s h = some_3 a_cell a_number a_number cell_in number_in number_in agree_cell agree_number agree_number f xs u v w r s h
