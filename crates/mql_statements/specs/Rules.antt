-- The rules of statements, one named test each in the order of their numbers (MQL5 Reference, Language Basics,
-- Operators).
use Rattle.std.specs.Prelude.{ℕ, ℤ, Bool, true, false, not, ◌&&◌, ◌||◌, List, [], ◌∷◌, Option, Some, None, is_some, is_none, if◌then◌else◌}
use Rattle.std.specs.Ordering.{int_eq}
use Rattle.fx8.specs.declared.int_kind.IntKind.{IntKind}
use Rattle.fx8.specs.declared.int_kind.IntKind.TheVariants as int_kind
use Rattle.fx8.specs.Integers.{wrapped}
use Rattle.mql_meaning.specs.declared.types.Sort.{Sort}
use Rattle.mql_meaning.specs.declared.types.Sort.TheVariants as sort
use Rattle.mql_syntax.specs.declared.kind.StatementKind.{StatementKind}
use Rattle.mql_syntax.specs.declared.kind.StatementKind.TheVariants as kind
use Rattle.mql_types.specs.declared.types.Base.{Base}
use Rattle.mql_types.specs.Conversions.{is_null}
use Rattle.mql_types.specs.Operators.{unary_sort}
use Rattle.mql_typed.specs.declared.info.Info.{Info}
use Rattle.mql_scope.specs.Contexts.{Context}
use Rattle.mql_typed.specs.Typed.{value_base}
use Rattle.mql_calls.specs.Nodes.{passes, nth, is_void, is_whole_array}
use Rattle.mql_expressions.specs.Rules.{no_fit, no_integer, no_condition}
use Rattle.mql_statements.specs.declared.told.LabelValue.{LabelValue}
use Rattle.mql_statements.specs.declared.told.LabelValue.TheVariants.{Default, NoConstant, Number}
use Rattle.mql_statements.specs.declared.told.Label.{Label}
use Rattle.mql_statements.specs.Closing.{is_return}

-- a test of the first value, and of its type
abbrev pub ask_value : (Info → Bool) → List (Option Info) → Bool
ask_value test is = passes test (nth 0 is)

abbrev pub first_base : List (Option Info) → Option Base
first_base is = elim (nth 0 is) [ None ↦ None | Some i ↦ value_base i ]

abbrev pub ask_type : (Base → Bool) → List (Option Info) → Bool
ask_type test is = passes test (first_base is)

-- a test stands first in it; a value must stand in it
abbrev pub is_tested : StatementKind → Bool
is_tested kind.If = true
is_tested kind.While = true
is_tested kind.Do = true
is_tested (kind.For tested) = tested
is_tested _ = false

abbrev pub is_switch : StatementKind → Bool
is_switch kind.Switch = true
is_switch _ = false

abbrev pub is_delete : StatementKind → Bool
is_delete kind.Delete = true
is_delete _ = false

abbrev pub wants_value : StatementKind → Bool
wants_value k = is_tested k || (is_switch k || (is_return k || is_delete k))

-- 13 what is returned has no conversion to the result
abbrev pub return_no_fit : Option Base → StatementKind → List (Option Info) → Bool
return_no_fit result what is = is_return what && passes (λ b. ask_type (no_fit b) is) result

-- 17 a condition is no number
abbrev pub test_no_number : StatementKind → List (Option Info) → Bool
test_no_number what is = is_tested what && ask_value no_condition is

-- 18 the value of a `switch` is no integer
abbrev pub switch_no_integer : StatementKind → List (Option Info) → Bool
switch_no_integer what is = is_switch what && ask_type no_integer is

-- 19 a label is no constant integer
abbrev pub no_constant : LabelValue → Bool
no_constant NoConstant = true
no_constant _ = false

abbrev pub some_no_constant : List Label → Bool
some_no_constant [] = false
some_no_constant (l ∷ ls) = no_constant l.label || some_no_constant ls

-- 20 a label is repeated: two are equal as numbers of the value's kind
abbrev pub sort_kind : Option Sort → IntKind
sort_kind (Some (sort.Number k)) = k
sort_kind _ = int_kind.Int

abbrev pub switch_kind : Option Base → IntKind
switch_kind None = int_kind.Int
switch_kind (Some b) = sort_kind (unary_sort b)

abbrev pub value_kind : List (Option Info) → IntKind
value_kind is = switch_kind (first_base is)

abbrev pub same_number : IntKind → ℤ → ℤ → Bool
same_number k x y = int_eq (wrapped k x) (wrapped k y)

abbrev pub same_label : IntKind → LabelValue → LabelValue → Bool
same_label k Default Default = true
same_label k (Number x) (Number y) = same_number k x y
same_label k _ _ = false

abbrev pub stands_in : IntKind → LabelValue → List Label → Bool
stands_in k x [] = false
stands_in k x (l ∷ ls) = same_label k x l.label || stands_in k x ls

abbrev pub some_twice : IntKind → List Label → Bool
some_twice k [] = false
some_twice k (l ∷ ls) = stands_in k l.label ls || some_twice k ls

abbrev pub label_repeated : List (Option Info) → List Label → Bool
label_repeated is ls = some_twice (value_kind is) ls

-- 21 `break` or `continue` outside
abbrev pub outside : Bool → Bool → StatementKind → Bool
outside breaks continues kind.Break = not breaks
outside breaks continues kind.Continue = not continues
outside breaks continues _ = false

-- 22 `return` with or without a value against the result
abbrev pub is_empty : List (Option Info) → Bool
is_empty [] = true
is_empty (i ∷ is) = false

abbrev pub against_result : Option Base → StatementKind → List (Option Info) → Bool
against_result result what is =
    is_return what && (if is_empty is then is_some result else is_none result)

-- 23 nothing is used as a value
abbrev pub void_used : StatementKind → List (Option Info) → Bool
void_used what is = wants_value what && ask_value is_void is

-- 26 a whole array is used as a value
abbrev pub array_used : StatementKind → List (Option Info) → Bool
array_used what is = wants_value what && ask_value is_whole_array is

-- 28 `delete` of no pointer: there is only `NULL` yet
abbrev pub no_pointer : Base → Bool
no_pointer b = not (is_null b)

abbrev pub deletes_no_pointer : StatementKind → List (Option Info) → Bool
deletes_no_pointer what is = is_delete what && ask_type no_pointer is

-- a rule by its number, and whether it is broken
pub record Asked : Type 0 where
  pub number : ℕ
  pub broken : Bool

abbrev pub rule : ℕ → Bool → Asked
rule k b = record { number = k; broken = b }

-- the rules that statements break by themselves, asked of a statement with what its values tell and its labels
abbrev pub rules : Context → StatementKind → List (Option Info) → List Label → List Asked
rules c what is ls =
    rule 13 (return_no_fit c.result what is) ∷ rule 17 (test_no_number what is) ∷
    rule 18 (switch_no_integer what is) ∷ rule 19 (some_no_constant ls) ∷ rule 20 (label_repeated is ls) ∷
    rule 21 (outside c.breaks c.continues what) ∷ rule 22 (against_result c.result what is) ∷
    rule 23 (void_used what is) ∷ rule 26 (array_used what is) ∷ rule 28 (deletes_no_pointer what is) ∷ []

abbrev pub lowest_in : List Asked → Option ℕ
lowest_in [] = None
lowest_in (r ∷ rs) = if r.broken then Some r.number else lowest_in rs

unfoldable pub lowest : Context → StatementKind → List (Option Info) → List Label → Option ℕ
lowest c what is ls = lowest_in (rules c what is ls)
