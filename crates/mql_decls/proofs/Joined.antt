-- What is told of a program, and its declarations, in parts.
use Rattle.std.proofs.Common.{◌≡◌, ℕ, List, [], ◌∷◌, ◌++◌, Option, Result, Ok, Err, IfOk, refl, sym, ap, subst, ◌∙◌}
use Rattle.std.specs.List.{flat_map}
use Rattle.std.specs.BTreeMap.{BTreeMap}
use Rattle.std.specs.Borrow.{Bor}
use Rattle.mql_syntax.specs.declared.declaration.Item.{Item}
use Rattle.mql_syntax.specs.declared.declaration.Syntax.{Syntax}
use Rattle.mql_names.specs.declared.fault.Broken.{Broken}
use Rattle.mql_names.specs.declared.types.Meaning.{Meaning}
use Rattle.mql_names.specs.Faults.{told, sooner}
use Rattle.mql_names.specs.Types.{Names}
use Rattle.mql_names.specs.Maps.{meaning, Means}
use Rattle.mql_names.specs.Meanings.{names_of, item_meanings}
use Rattle.mql_names.specs.Things.{things_of}
use Rattle.mql_names.specs.Rules.{breaks, told_of}
use Rattle.mql_names.proofs.Faults.{told_append}
use Rattle.mql_walk.specs.Things.{told_by}
use Rattle.mql_walk.specs.Things as walk
use Rattle.mql_sizes.specs.declared.member.EnumMembers.{EnumMembers}
use Rattle.mql_sizes.specs.declared.member.MemberValue.{MemberValue}
use Rattle.mql_sizes.specs.Members.{Values, enumerations_of, all_members, value_among, valueless}
use Rattle.mql_sizes.specs.Sizes.{sizes, breaks_in}
use Rattle.mql_sizes.specs.Maps.{value_at, Holds}
use Rattle.mql_sizes.proofs.Held.{same_values}
use Rattle.mql_nesting.specs.Nesting.{breaks_nesting}
use Rattle.mql_parents.specs.Parents.{breaks_parents}
use Rattle.mql_decls.specs.declared.forms.StructureForm.{StructureForm}
use Rattle.mql_decls.specs.declared.forms.FunctionForm.{FunctionForm}
use Rattle.mql_decls.specs.declared.forms.GlobalForm.{GlobalForm}
use Rattle.mql_decls.specs.declared.expanding.Decls.{Decls}
use Rattle.mql_typing.specs.Sources.{breaks_used}
use Rattle.mql_decls.specs.Rules.{all_breaks, first_broken}
use Rattle.mql_decls.specs.declared.forms.StaticForm.{StaticForm}
use Rattle.mql_decls.specs.Declarations.{numbered, item_functions, item_globals, item_statics, item_structures}
use Rattle.mql_decls.specs.Expands.{Declares, values_of}

abbrev MeaningMap : Type 0
MeaningMap = BTreeMap (Bor (List ℕ)) Meaning

abbrev ValueMap : Type 0
ValueMap = BTreeMap (Bor (List ℕ)) MemberValue

pub of_constants : (names : Names) (s : Syntax) (items : List Item) (es : List EnumMembers) (m : ValueMap) (r a b : Option Broken)
    → items ≡ s.items → es ≡ enumerations_of names [] items → Holds m (all_members es) → a ≡ told (flat_map valueless es)
    → b ≡ told_by (sizes names (value_at m)) (walk.things_of s) → r ≡ sooner a b → r ≡ told (breaks_in names s)
of_constants names s items es m r a b e h held k l t =
    let p : es ≡ enumerations_of names [] s.items = h ∙ ap (enumerations_of names []) e in
    let full : List EnumMembers → List EnumMembers → Option Broken = λ xs ys. told (flat_map valueless xs ++ flat_map (sizes names (value_among (all_members ys))) (walk.things_of s)) in
    t ∙ ap (λ x. sooner x b) k
    ∙ ap (sooner (told (flat_map valueless es))) (l ∙ ap (λ (v : Values). told_by (sizes names v) (walk.things_of s)) (same_values m (all_members es) held))
    ∙ sym (told_append (flat_map valueless es) (flat_map (sizes names (value_among (all_members es))) (walk.things_of s)))
    ∙ ap (λ xs. full xs es) p ∙ ap (full (enumerations_of names [] s.items)) p

of_three : (names : Names) (s : Syntax) (r a b d : Option Broken) → a ≡ told_of names (things_of names s) → b ≡ told (breaks_in names s)
    → d ≡ told (breaks_used s.items) → r ≡ sooner a (sooner b d) → r ≡ told (flat_map (breaks names) (things_of names s) ++ (breaks_in names s ++ breaks_used s.items))
of_three names s r a b d h k l t =
    t ∙ ap (λ x. sooner x (sooner b d)) h
    ∙ ap (sooner (told_of names (things_of names s))) (ap (λ x. sooner x d) k ∙ ap (sooner (told (breaks_in names s))) l ∙ sym (told_append (breaks_in names s) (breaks_used s.items)))
    ∙ sym (told_append (flat_map (breaks names) (things_of names s)) (breaks_in names s ++ breaks_used s.items))

pub of_all : (names : Names) (s : Syntax) (r q t a b d e f : Option Broken) → a ≡ told_of names (things_of names s) → b ≡ told (breaks_in names s)
    → d ≡ told (breaks_used s.items) → e ≡ told (breaks_nesting s) → f ≡ told (breaks_parents names s) → q ≡ sooner a (sooner b d) → t ≡ sooner e f → r ≡ sooner q t → r ≡ told (all_breaks names s)
of_all names s r q t a b d e f h k l m o u v w =
    let three : List Broken = flat_map (breaks names) (things_of names s) ++ (breaks_in names s ++ breaks_used s.items) in
    w ∙ ap (λ x. sooner x t) (of_three names s q a b d h k l u)
    ∙ ap (sooner (told three)) (v ∙ ap (λ x. sooner x f) m ∙ ap (sooner (told (breaks_nesting s))) o ∙ sym (told_append (breaks_nesting s) (breaks_parents names s)))
    ∙ sym (told_append three (breaks_nesting s ++ breaks_parents names s))

pub by_names : {E : Type 0} (m : MeaningMap) (s : Syntax) (r : Result (Option Broken) E) → Means m (flat_map item_meanings s.items)
    → IfOk r (λ b. b ≡ told (all_breaks (meaning m) s)) → IfOk r (λ b. b ≡ first_broken s)
unfolding first_broken
by_names m s r h k = subst (λ (names : Names). IfOk r (λ b. b ≡ told (all_breaks names s))) (λ i q. h.is q i) k

same_numbered : {A : Type 0} (declares : Names → Values → ℕ → Item → List A) (s : Syntax) (items : List Item) (n m : Names) (v w : Values) (xs : List A)
    → n ≡ m → v ≡ w → items ≡ s.items → xs ≡ numbered (declares n v) 0 items → xs ≡ numbered (declares m w) 0 s.items
same_numbered declares s items n m v w xs e f g h =
    h ∙ ap (λ (o : Names). numbered (declares o v) 0 items) e ∙ ap (λ (o : Values). numbered (declares m o) 0 items) f ∙ ap (numbered (declares m w) 0) g

pub made : (s : Syntax) (items : List Item) (m : MeaningMap) (v : ValueMap) (es : List EnumMembers) (ss : List StructureForm) (fs : List FunctionForm) (gs : List GlobalForm) (ts : List StaticForm)
    → items ≡ s.items → Means m (flat_map item_meanings items) → es ≡ enumerations_of (meaning m) [] items → Holds v (all_members es)
    → ss ≡ flat_map (item_structures (meaning m) (value_at v)) items → fs ≡ numbered (item_functions (meaning m) (value_at v)) 0 items
    → gs ≡ numbered (item_globals (meaning m) (value_at v)) 0 items → ts ≡ numbered (item_statics (meaning m) (value_at v)) 0 items
    → Declares (record { names = m; values = v; enumerations = es; structures = ss; functions = fs; globals = gs; statics = ts }) s
made s items m v es ss fs gs ts e h k held p q r t =
    let nm : meaning m ≡ names_of s.items = (λ i x. h.is x i) ∙ ap names_of e in
    let esp : es ≡ enumerations_of (names_of s.items) [] s.items = k ∙ ap (λ (n : Names). enumerations_of n [] items) nm ∙ ap (enumerations_of (names_of s.items) []) e in
    let vp : value_at v ≡ values_of s = same_values v (all_members es) held ∙ ap (λ xs. value_among (all_members xs)) esp in
    record {
      names = λ x. ap (λ (f : Names). f x) nm;
      values = λ x. ap (λ (f : Values). f x) vp;
      enumerations = esp;
      structures = p ∙ ap (λ (n : Names). flat_map (item_structures n (value_at v)) items) nm ∙ ap (λ (f : Values). flat_map (item_structures (names_of s.items) f) items) vp ∙ ap (flat_map (item_structures (names_of s.items) (values_of s))) e;
      functions = same_numbered item_functions s items (meaning m) (names_of s.items) (value_at v) (values_of s) fs nm vp e q;
      globals = same_numbered item_globals s items (meaning m) (names_of s.items) (value_at v) (values_of s) gs nm vp e r;
      statics = same_numbered item_statics s items (meaning m) (names_of s.items) (value_at v) (values_of s) ts nm vp e t;
    }
