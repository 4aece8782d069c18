-- Names and members' values, as the code has them, are those of the program.
use Rattle.std.proofs.Common.{◌≡◌, List, [], flat_map, subst, sym, ap}
use Rattle.std.specs.BTreeMap.{BTreeMap}
use Rattle.std.specs.Borrow.{Bor}
use Rattle.mql_syntax.specs.declared.declaration.Item.{Item}
use Rattle.mql_names.specs.declared.types.Meaning.{Meaning}
use Rattle.mql_names.specs.Scopes.{Name}
use Rattle.mql_names.specs.Types.{Names}
use Rattle.mql_names.specs.Maps.{meaning, Means}
use Rattle.mql_names.specs.Meanings.{names_of, item_meanings}
use Rattle.mql_scope.specs.Contexts.{Program}
use Rattle.mql_program.specs.Programs.{Given, program_of}
use Rattle.mql_sizes.specs.declared.member.MemberValue.{MemberValue}
use Rattle.mql_sizes.specs.Maps.{value_at, Holds}
use Rattle.mql_sizes.specs.Members.{enumerations_of, all_members}
use Rattle.mql_values.specs.Sources.{IsSourceOf, values_of}

pub names_known : (m : BTreeMap (Bor Name) Meaning) (items : List Item) → Means m (flat_map item_meanings items) → meaning m ≡ names_of items
names_known m items h = λ i q. h.is q i

pub source_known : (n : Names) (items : List Item) (v : BTreeMap (Bor Name) MemberValue) → n ≡ names_of items
    → Holds v (all_members (enumerations_of n [] items)) → IsSourceOf items n (value_at v)
source_known n items v same h = record {
  names_are = λ x. λ i. same i x;
  values_are = λ x. (subst (λ (k : Names). Holds v (all_members (enumerations_of k [] items))) same h).is x;
}

-- the names of a program are those of its items
pub program_names : (p : Program) (g : Given) (items : List Item) → p ≡ program_of g items → p.names ≡ names_of items
unfolding program_of
program_names p g items e = ap (λ (q : Program). q.names) e
