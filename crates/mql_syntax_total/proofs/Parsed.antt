-- The parts of a tree that the parser answers follow the grammar.
use Rattle.std.proofs.Common.{◌≡◌, ℕ, zero, suc, ◌≤◌, true, List, [], ◌∷◌, ◌++◌, map, length, Ok, refl, sym, ap, subst, ◌∙◌, ◌⊎◌, inl, inr, append-nil}
use Rattle.mql_forms.specs.Numbers.{form_number}
use Rattle.mql_forms.specs.declared.form.Form.{Form}
use Rattle.mql_forms.specs.declared.form.Form.TheVariants as form
use Rattle.mql_grammar.specs.Expression.{many, among, Begins, IsOne, Times, InRow}
use Rattle.mql_grammar.specs.Expressions.{expression_of, parts_of as heads_of, one, a}
use Rattle.mql_grammar.specs.Forms.{Head, of_class, of_form, Grammar, leaf, node, add, head, depth, Formed}
use Rattle.mql_grammar.specs.Numbers.{class_number}
use Rattle.mql_grammar.specs.declared.token_class.Class.{Class}
use Rattle.mql_grammar.specs.declared.token_class.Class.TheVariants as class
use Rattle.mql_grammar.proofs.ExpressionsChecked.{nodes_follow}
use Rattle.mql_tree.specs.declared.token.Span.{Span}
use Rattle.mql_tree.specs.declared.token.Token.{Token}
use Rattle.mql_tree.specs.declared.token.Tree.{Tree, out-Tree}
use Rattle.mql_tree.specs.declared.token.Tree.TheOpen.{Tree-F}
use Rattle.mql_parse.specs.Classes.{classes_of}
use Rattle.mql_parse.specs.Parsed.{IsParsed}
use Rattle.mql_parse.specs.View.{with_parts, spine_of, class_at as parsed_at, over}
use Rattle.mql_views.specs.Laws.{heads}
use Rattle.mql_views.specs.Parts.{Part, counted, parts_from}
use Rattle.mql_syntax.specs.Leaves.{parts_in, part_from, inner}
use Rattle.mql_syntax_total.specs.Formed.{Every, IsFormed}
use Rattle.mql_syntax_total.proofs.Gives.{false_true, Among, AllAmong, all_among, parts_among, among_join}
use Rattle.mql_syntax_total.proofs.Trees.{leaf_spine, node_spine, head_seen, head_is, head_out, with_heads, heads_from, parts_stand, parts_deep, formed_from, class_form}

abbrev pub item_cs : List ℕ
item_cs = 41 ∷ []

abbrev pub item_fs : List ℕ
item_fs = 2 ∷ 3 ∷ 6 ∷ 7 ∷ []

same_end : (us ts : List Head) (v h : Head) → us ++ v ∷ [] ≡ ts ++ h ∷ [] → us ≡ ts
same_end [] [] v h e = refl
same_end [] (t ∷ []) v h e = absurd (two v t h [] e)
  where
    two : (a b c : Head) (hs : List Head) → a ∷ [] ≡ b ∷ c ∷ hs → ⊥
    two a b c hs e = cc
same_end [] (t ∷ s ∷ ts) v h e = absurd (two v t s (ts ++ h ∷ []) e)
  where
    two : (a b c : Head) (hs : List Head) → a ∷ [] ≡ b ∷ c ∷ hs → ⊥
    two a b c hs e = cc
same_end (u ∷ []) [] v h e = absurd (two u v h [] e)
  where
    two : (a b c : Head) (hs : List Head) → a ∷ b ∷ hs ≡ c ∷ [] → ⊥
    two a b c hs e = cc
same_end (u ∷ w ∷ us) [] v h e = absurd (two u w h (us ++ v ∷ []) e)
  where
    two : (a b c : Head) (hs : List Head) → a ∷ b ∷ hs ≡ c ∷ [] → ⊥
    two a b c hs e = cc
same_end (u ∷ us) (t ∷ ts) v h e = λ i. first e i ∷ same_end us ts v h (rest e) i
  where
    first : u ∷ (us ++ v ∷ []) ≡ t ∷ (ts ++ h ∷ []) → u ≡ t
    first e = cc

    rest : u ∷ (us ++ v ∷ []) ≡ t ∷ (ts ++ h ∷ []) → us ++ v ∷ [] ≡ ts ++ h ∷ []
    rest e = cc

among_front : (cs fs : List ℕ) (us vs : List Head) → AllAmong cs fs (us ++ vs) → AllAmong cs fs us
among_front cs fs [] vs m = tt
among_front cs fs (u ∷ us) vs m = (m.0, among_front cs fs us vs m.1)

among_last : (cs fs : List ℕ) (us : List Head) (h : Head) → AllAmong cs fs (us ++ h ∷ []) → among cs fs h ≡ true
among_last cs fs [] h m = m.0
among_last cs fs (u ∷ us) h m = among_last cs fs us h m.1

-- items, as far as they go
items_begin : (hs : List Head) (n : ℕ) → InRow (Times n (IsOne item_cs item_fs)) (Begins (one (class.Semicolon ∷ []) (form.Item ∷ form.Template ∷ form.Enumeration ∷ form.Class ∷ []))) hs → AllAmong item_cs item_fs hs
unfolding class_number form_number
items_begin hs n m = subst (AllAmong item_cs item_fs) (sym m.2) (among_join item_cs item_fs m.0 m.1 (times n m.0 m.3) (begun m.1 m.4))
  where
    alone : (hs : List Head) → IsOne item_cs item_fs hs → AllAmong item_cs item_fs hs
    alone [] m = absurd m
    alone (h ∷ []) m = (m, tt)
    alone (h ∷ k ∷ hs) m = absurd m

    times : (n : ℕ) (hs : List Head) → Times n (IsOne item_cs item_fs) hs → AllAmong item_cs item_fs hs
    times zero hs m = subst (AllAmong item_cs item_fs) (sym m) tt
    times (suc n) hs m = subst (AllAmong item_cs item_fs) (sym m.2) (among_join item_cs item_fs m.0 m.1 (alone m.0 m.3) (times n m.1 m.4))

    begun : (hs : List Head) → (hs ≡ []) ⊎ IsOne item_cs item_fs hs → AllAmong item_cs item_fs hs
    begun hs (inl e) = subst (AllAmong item_cs item_fs) (sym e) tt
    begun hs (inr m) = alone hs m

-- what stands before the end mark are items
program_items : (hs : List Head) → Begins (expression_of form.Program) (hs ++ of_class 69 ∷ []) → AllAmong item_cs item_fs hs
unfolding expression_of class_number form_number
program_items hs (inl m) = false_true (among_last item_cs item_fs hs (of_class 69) (items_begin (hs ++ of_class 69 ∷ []) m.0 m.1))
program_items hs (inr m) = go m.1 m.2 m.4
  where
    items : AllAmong item_cs item_fs m.0
    items = all_among item_cs item_fs (many (one (class.Semicolon ∷ []) (form.Item ∷ form.Template ∷ form.Enumeration ∷ form.Class ∷ []))) refl m.0 m.3

    go : (vs : List Head) → hs ++ of_class 69 ∷ [] ≡ m.0 ++ vs → (vs ≡ []) ⊎ IsOne (69 ∷ []) [] vs → AllAmong item_cs item_fs hs
    go [] e w = among_front item_cs item_fs hs (of_class 69 ∷ []) (subst (AllAmong item_cs item_fs) (sym (e ∙ append-nil m.0)) items)
    go (v ∷ []) e w = subst (AllAmong item_cs item_fs) (sym (same_end hs m.0 (of_class 69) v e)) items
    go (v ∷ w ∷ vs) e (inl f) = absurd (let g : v ∷ w ∷ vs ≡ [] → ⊥ = λ e. cc in g f)
    go (v ∷ w ∷ vs) e (inr f) = absurd f

-- behind the tokens stands the end mark
mark_at : (cs : List Class) → parsed_at cs (length cs) ≡ 69
unfolding parsed_at class_number
mark_at [] = refl
mark_at (c ∷ cs) = mark_at cs

program_is : of_form (form_number form.Program) ≡ of_form 1
unfolding form_number
program_is = refl

-- the parts of the program
abbrev pub program_part : List (Token × Span) → Tree → Part
program_part tokens t = part_from (classes_of tokens) 0 0 t

pub parsed_parts : (tokens : List (Token × Span)) (t : Tree) → IsParsed tokens (Ok t)
    → (f : Form) × (ts : List Tree) × (out-Tree t ≡ Tree-F.Node f ts) × (form_number f ≡ 1) × Every (IsFormed tokens 200) (inner (classes_of tokens) (program_part tokens t)) × Every (Among item_cs item_fs) (inner (classes_of tokens) (program_part tokens t))
unfolding IsParsed inner
parsed_parts tokens t p = go (out-Tree t) refl
  where
    same_form : (a b : ℕ) → of_form a ≡ of_form b → a ≡ b
    same_form a b e = cc

    cs : List Class
    cs = classes_of tokens

    g : Grammar
    g = over cs

    rooted : head g (spine_of t) ≡ of_form 1
    rooted = p.0.rooted

    formed : Formed g (add (spine_of t) (leaf (length cs)))
    formed = p.0.whole

    marked : parsed_at cs (length cs) ≡ 69
    marked = mark_at cs

    go : (x : Tree-F Tree) → out-Tree t ≡ x → (f : Form) × (ts : List Tree) × (out-Tree t ≡ Tree-F.Node f ts) × (form_number f ≡ 1) × Every (IsFormed tokens 200) (parts_in cs (program_part tokens t).at (out-Tree t)) × Every (Among item_cs item_fs) (parts_in cs (program_part tokens t).at (out-Tree t))
    go (Tree-F.Leaf k) e = class_form (parsed_at cs k) 1 (sym (ap (λ s. head g s) (leaf_spine t k e)) ∙ rooted)
    go (Tree-F.Node f ts) e =
        let s = node_spine t f ts e in
        let is_one : form_number f ≡ 1 = same_form (form_number f) 1 (sym (head_seen cs t ∙ head_is cs t ∙ ap (λ x. head_out cs x) e) ∙ rooted) in
        let at = (program_part tokens t).at in
        let h : Formed g (with_parts (node (form_number f)) (map spine_of ts)) = subst (Formed g) s formed.0 in
        let d : depth (with_parts (node (form_number f)) (map spine_of ts)) ≤ 200 = subst (λ t. depth t ≤ 200) s p.1.deep in
        let begun : Begins (expression_of form.Program) (heads_of g (spine_of t) ++ of_class (parsed_at cs (length cs)) ∷ []) = (nodes_follow _ form.Program (add (spine_of t) (leaf (length cs))) (rooted ∙ sym program_is)).1.0 formed.3 in
        let items = program_items (heads_of g (spine_of t)) (subst (λ n. Begins (expression_of form.Program) (heads_of g (spine_of t) ++ of_class n ∷ [])) marked begun) in
        let seen : heads_of g (spine_of t) ≡ heads (parts_from cs at (counted at 1) ts) = ap (λ t. heads_of g t) s ∙ with_heads g (node (form_number f)) (map spine_of ts) ∙ sym (heads_from cs at (counted at 1) ts) in
        subst (λ x. (f : Form) × (ts : List Tree) × (x ≡ Tree-F.Node f ts) × (form_number f ≡ 1) × Every (IsFormed tokens 200) (parts_in cs at x) × Every (Among item_cs item_fs) (parts_in cs at x)) (sym e) (
          f,
          ts,
          refl,
          is_one,
          formed_from tokens 200 at (counted at 1) ts (parts_stand g (node (form_number f)) (map spine_of ts) h).1 (parts_deep (node (form_number f)) (map spine_of ts) 200 d).1,
          parts_among item_cs item_fs (parts_from cs at (counted at 1) ts) (subst (AllAmong item_cs item_fs) seen items),
        )
