-- What the code's map of values holds. (No definition for readers.)
use Rattle.std.specs.Prelude.{◌≡◌, ℤ, List, Option, Some, None}
use Rattle.std.specs.Ordering.{nat_cmp}
use Rattle.std.specs.Cmp.Lexicographic.{slice_cmp}
use Rattle.std.specs.BTreeMap.{BTreeMap, get_by}
use Rattle.std.specs.Borrow.{Bor}
use Rattle.mql_names.specs.Scopes.{Name}
use Rattle.mql_sizes.specs.declared.member.EnumMember.{EnumMember}
use Rattle.mql_sizes.specs.declared.member.MemberValue.{MemberValue}
use Rattle.mql_sizes.specs.Members.{value_among}

abbrev pub number_of : Option MemberValue → Option ℤ
number_of None = None
number_of (Some v) = Some v.value

-- the value that a map has under a name
unfoldable pub value_at : BTreeMap (Bor Name) MemberValue → Name → Option ℤ
value_at m q = number_of (get_by (λ k. slice_cmp nat_cmp q k.now) m)

-- the map holds the values of members
pub record Holds (m : BTreeMap (Bor Name) MemberValue) (ms : List EnumMember) : Type 0 where
  pub is : (q : Name) → value_at m q ≡ value_among ms q
