-- Fields that are inherited, and members' values.
use Rattle.std.proofs.Common.{◌≡◌, ◌≤◌, ◌-◌, ℕ, zero, suc, ℤ, pos, negsuc, ◌≤ℤ◌, List, [], ◌++◌, map, Option, Some, None, refl, ap, ◌∙◌, arith}
use Rattle.std.specs.List.{flat_map}
use Rattle.fx8.specs.declared.int_kind.IntKind.TheVariants as int_kind
use Rattle.fx8.specs.Integers.{InRange}
use Rattle.mql_syntax.specs.declared.declaration.Class.{Class}
use Rattle.mql_syntax.specs.declared.declaration.Item.{Item}
use Rattle.mql_syntax.specs.declared.declaration.Parent.{Parent}
use Rattle.mql_names.specs.Types.{type_name}
use Rattle.mql_scope.specs.Contexts.{Program}
use Rattle.mql_scope.specs.declared.context.Field.{Field}
use Rattle.mql_program.specs.Programs.{supplied_layouts, fields_named, class_named, own_fields, inherited_field, inherited}

pub inherited_zero : (p : Program) (is : List Item) (n : ℕ) (q : Option Parent) → n ≡ 0 → inherited p is n q ≡ []
inherited_zero p is n q e = ap (λ m. inherited p is m q) e

pub inherited_none : (p : Program) (is : List Item) (n : ℕ) → inherited p is n None ≡ []
inherited_none p is zero = refl
inherited_none p is (suc n) = refl

-- through one more parent: a supplied structure, or one of the program
abbrev parent_fields : Program → List Item → ℕ → Parent → Option Class → List Field
parent_fields p is n q o =
    map (inherited_field q.access) (elim o [
      | None ↦ flat_map (fields_named (type_name q.of)) supplied_layouts
      | Some c ↦ inherited p is n c.parent ++ own_fields p c
    ])

inherited_step : (p : Program) (is : List Item) (n : ℕ) (q : Parent) → 1 ≤ n →
    inherited p is n (Some q) ≡ parent_fields p is (n - 1) q (class_named (type_name q.of) is)
inherited_step p is zero q l = absurd (omega (arith, l))
inherited_step p is (suc n) q l =
    let e : n ≡ suc n - 1 = omega arith in
    ap (λ m. parent_fields p is m q (class_named (type_name q.of) is)) e

pub inherited_supplied : (p : Program) (is : List Item) (n : ℕ) (q : Parent) → 1 ≤ n → class_named (type_name q.of) is ≡ None →
    inherited p is n (Some q) ≡ map (inherited_field q.access) (flat_map (fields_named (type_name q.of)) supplied_layouts)
inherited_supplied p is n q l e = inherited_step p is n q l ∙ ap (parent_fields p is (n - 1) q) e

pub inherited_own : (p : Program) (is : List Item) (n : ℕ) (q : Parent) (c : Class) → 1 ≤ n → class_named (type_name q.of) is ≡ Some c →
    inherited p is n (Some q) ≡ map (inherited_field q.access) (inherited p is (n - 1) c.parent ++ own_fields p c)
inherited_own p is n q c l e = inherited_step p is n q l ∙ ap (parent_fields p is (n - 1) q) e

-- the numbers of `int`
pub int_least : (x : ℤ) → InRange int_kind.Int x → negsuc 2147483647 ≤ℤ x
int_least x h = h.from

pub int_greatest : (x : ℤ) → InRange int_kind.Int x → x ≤ℤ pos 2147483647
int_greatest x h = h.to
