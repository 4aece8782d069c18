-- The tables of a whole program.
use Rattle.std.proofs.Common.{◌≡◌, List, Result, Ok, Err, IfOk, ap, ◌∙◌}
use Rattle.std.specs.List.{flat_map}
use Rattle.std.specs.BTreeMap.{BTreeMap}
use Rattle.std.specs.Borrow.{Bor}
use Rattle.mql_syntax.specs.declared.declaration.Item.{Item}
use Rattle.mql_syntax.specs.declared.declaration.Function.{Function}
use Rattle.mql_names.specs.declared.types.Meaning.{Meaning}
use Rattle.mql_names.specs.Scopes.{Name}
use Rattle.mql_names.specs.Types.{Names}
use Rattle.mql_names.specs.Maps.{meaning}
use Rattle.mql_names.specs.Meanings.{names_of}
use Rattle.mql_types.specs.declared.overloads.Signature.{Signature}
use Rattle.mql_scope.specs.declared.context.Known.{Known}
use Rattle.mql_scope.specs.Contexts.{Program}
use Rattle.mql_program.specs.Programs.{Given, variables_in, globals_from, signatures_from, announced_functions, all_functions, of_types, with_types, with_known, with_things, program_with, program_of}

-- the tables by their parts
pub things_known : (g : Given) (names : Names) (items : List Item) (p : Program) (globals : List Known) (signatures : List Signature)
    (announced functions : List Function) → globals ≡ globals_from p 0 (flat_map variables_in items)
    → signatures ≡ signatures_from p announced 0 functions → announced ≡ announced_functions items → functions ≡ all_functions names items
    → with_known g p globals signatures announced functions ≡ with_things g names items p
things_known g names items p globals signatures announced functions a b c d =
    ap (λ x. with_known g p x signatures announced functions) a
    ∙ ap (λ x. with_known g p (globals_from p 0 (flat_map variables_in items)) x announced functions) b
    ∙ ap (λ x. with_known g p (globals_from p 0 (flat_map variables_in items)) (signatures_from p x 0 functions) x functions) c
    ∙ ap (λ x. with_known g p (globals_from p 0 (flat_map variables_in items)) (signatures_from p (announced_functions items) 0 x) (announced_functions items) x) d

-- a program's stages, where its names are known
stages_known : {S : Type 0} (given : S → Given) (s t : S) (m n : BTreeMap (Bor Name) Meaning) (items : List Item) (p q : Program)
    → t ≡ s → n ≡ m → meaning m ≡ names_of items → p ≡ with_types (given s) (meaning m) items (of_types (given s) (meaning m) items)
    → q ≡ with_things (given t) (meaning n) items p → q ≡ program_of (given s) items
unfolding program_of
stages_known given s t m n items p q a b c d e =
    e
    ∙ ap (λ x. with_things (given x) (meaning n) items p) a
    ∙ ap (λ x. with_things (given s) (meaning x) items p) b
    ∙ ap (λ x. with_things (given s) (meaning m) items x) d
    ∙ ap (λ x. program_with (given s) x items) c

pub whole_known : {S T E : Type 0} (given : S → Given) (shown : T → Program) (s t : S) (m n : BTreeMap (Bor Name) Meaning)
    (items : List Item) (p : Program) (r : Result T E) → t ≡ s → n ≡ m → meaning m ≡ names_of items
    → p ≡ with_types (given s) (meaning m) items (of_types (given s) (meaning m) items)
    → IfOk r (λ x. shown x ≡ with_things (given t) (meaning n) items p) → IfOk r (λ x. shown x ≡ program_of (given s) items)
whole_known given shown s t m n items p (Ok o) a b c d e = stages_known given s t m n items p (shown o) a b c d e
whole_known given shown s t m n items p (Err x) a b c d e = e
