-- The parts of the nodes of trees that follow the grammar.
use Rattle.std.proofs.Common.{◌≡◌, ℕ, suc, ◌+◌, ◌<◌, ◌≤◌, max, true, List, [], ◌∷◌, ◌++◌, map, Some, refl, sym, ap, subst, ◌∙◌, append_assoc, append-nil, arith}
use Rattle.mql_forms.specs.Numbers.{form_number}
use Rattle.mql_forms.specs.declared.form.Form.{Form}
use Rattle.mql_grammar.specs.Expression.{among, Matches}
use Rattle.mql_grammar.specs.Expressions.{expression_of, parts_of as heads_of}
use Rattle.mql_grammar.specs.Forms.{Head, of_class, of_form, Grammar, Spine, leaf, node, add, head, dot, depth, IsWhole, Formed}
use Rattle.mql_grammar.specs.Rules.{dot_ends}
use Rattle.mql_grammar.specs.Numbers.{class_number}
use Rattle.mql_grammar.specs.Table.{listed}
use Rattle.mql_grammar.specs.declared.token_class.Class.{Class}
use Rattle.mql_grammar.proofs.ExpressionsChecked.{nodes_follow}
use Rattle.mql_tree.specs.TokenSorts.{name_of}
use Rattle.mql_tree.specs.declared.token.Span.{Span}
use Rattle.mql_tree.specs.declared.token.Token.{Token}
use Rattle.mql_tree.specs.declared.token.Tree.{Tree, Leaf, Node', out-Tree, roll-Tree, roll-out-Tree}
use Rattle.mql_tree.specs.declared.token.Tree.TheOpen.{Tree-F}
use Rattle.mql_tree.specs.declared.token.Tree.TheFolds.{fold-roll-Tree}
use Rattle.mql_parse.specs.Classes.{Context, classes_of, token_class, start}
use Rattle.mql_parse.specs.View.{with_parts, spine_step, spine_of, class_at as parsed_at, over}
use Rattle.mql_parse.specs.Words.{sign_class}
use Rattle.mql_views.specs.Cuts.{on}
use Rattle.mql_views.specs.Laws.{heads}
use Rattle.mql_views.specs.Parts.{Part, counted, nodes, class_at, head_in, parts_from}
use Rattle.mql_views.proofs.Stands.{apart, away, within, inside}
use Rattle.mql_syntax.specs.Leaves.{token_of, token_in, token, name, sign, sign_of, parts_in, inner}
use Rattle.mql_syntax_total.specs.Formed.{Every, IsFormed}
use Rattle.mql_syntax_total.proofs.Gives.{false_true, Has, Among}
use Rattle.mql_syntax_total.proofs.Tokens.{Is, token_there, name_was, sign_was, odd, low}

-- a tree and its spine
pub leaf_spine : (t : Tree) (k : ℕ) → out-Tree t ≡ Tree-F.Leaf k → spine_of t ≡ leaf k
leaf_spine t k e = ap spine_of (sym (roll-out-Tree t) ∙ ap roll-Tree e) ∙ fold-roll-Tree Spine spine_step (Tree-F.Leaf k)

pub node_spine : (t : Tree) (f : Form) (ts : List Tree) → out-Tree t ≡ Tree-F.Node f ts → spine_of t ≡ with_parts (node (form_number f)) (map spine_of ts)
node_spine t f ts e = ap spine_of (sym (roll-out-Tree t) ∙ ap roll-Tree e) ∙ fold-roll-Tree Spine spine_step (Tree-F.Node f ts)

-- what a node sees of a tree
abbrev pub head_out : List Class → Tree-F Tree → Head
head_out classes (Tree-F.Leaf k) = of_class (class_at classes k)
head_out classes (Tree-F.Node f ts) = of_form (form_number f)

pub head_is : (classes : List Class) (t : Tree) → head_in classes t ≡ head_out classes (out-Tree t)
unfolding out-Tree denote.Hole.Carrier.out
head_is classes (Leaf k) = refl
head_is classes (Node' f n row) = refl

head_parts : (g : Grammar) (p : Spine) (ts : List Spine) → head g (with_parts p ts) ≡ head g p
head_parts g p [] = refl
head_parts g p (t ∷ ts) = head_parts g (add p t) ts

pub head_seen : (classes : List Class) (t : Tree) → head (over classes) (spine_of t) ≡ head_in classes t
unfolding class_at parsed_at
head_seen classes t = go (out-Tree t) refl ∙ sym (head_is classes t)
  where
    go : (x : Tree-F Tree) → out-Tree t ≡ x → head (over classes) (spine_of t) ≡ head_out classes (out-Tree t)
    go (Tree-F.Leaf k) e = ap (λ s. head (over classes) s) (leaf_spine t k e) ∙ sym (ap (λ x. head_out classes x) e)
    go (Tree-F.Node f ts) e = ap (λ s. head (over classes) s) (node_spine t f ts e) ∙ head_parts (over classes) (node (form_number f)) (map spine_of ts) ∙ sym (ap (λ x. head_out classes x) e)

-- the parts of a spine
pub with_heads : (g : Grammar) (p : Spine) (ts : List Spine) → heads_of g (with_parts p ts) ≡ heads_of g p ++ map (λ t. head g t) ts
with_heads g p [] = sym (append-nil (heads_of g p))
with_heads g p (t ∷ ts) = with_heads g (add p t) ts ∙ append_assoc (heads_of g p) (head g t ∷ []) (map (λ t. head g t) ts)

abbrev pub Stood : Grammar → Spine → Type 0
Stood g t = Formed g t × IsWhole g t

pub parts_stand : (g : Grammar) (p : Spine) (ts : List Spine) → Formed g (with_parts p ts) → Formed g p × Every (Stood g) ts
parts_stand g p [] f = (f, tt)
parts_stand g p (t ∷ ts) f = let r = parts_stand g (add p t) ts f in (r.0.0, ((r.0.1, r.0.2), r.1))

max_left : (a b c : ℕ) → max a (1 + b) ≤ c → a ≤ c
max_left a b c h = grind arith

max_right : (a b c : ℕ) → max a (1 + b) ≤ c → b < c
max_right a b c h = grind arith

pub parts_deep : (p : Spine) (ts : List Spine) (n : ℕ) → depth (with_parts p ts) ≤ n → (depth p ≤ n) × Every (λ t. depth t < n) ts
parts_deep p [] n h = (h, tt)
parts_deep p (t ∷ ts) n h = let r = parts_deep (add p t) ts n h in (max_left (depth p) (depth t) n r.0, (max_right (depth p) (depth t) n r.0, r.1))

pub class_form : {B : Type 0} (a b : ℕ) → of_class a ≡ of_form b → B
class_form a b e = absurd (let f : of_class a ≡ of_form b → ⊥ = λ e. cc in f e)

whole_ends : (classes : List Class) (f : ℕ) (t : Spine) → head (over classes) t ≡ of_form f → IsWhole (over classes) t → dot_ends (dot (over classes) t) ≡ true
whole_ends classes f (leaf k) e w = class_form (parsed_at classes k) f e
whole_ends classes f (node h) e w = absurd w
whole_ends classes f (add p t) e w = w

-- the parts of a node, and of a spine
pub heads_from : (classes : List Class) (inside next : ℕ) (ts : List Tree) → heads (parts_from classes inside next ts) ≡ map (λ t. head (over classes) t) (map spine_of ts)
heads_from classes inside next [] = refl
heads_from classes inside next (t ∷ ts) = λ i. sym (head_seen classes t) i ∷ heads_from classes inside (counted next (nodes t)) ts i

module _ (tokens : List (Token × Span)) where
  pub formed_from : (n inside next : ℕ) (ts : List Tree) → Every (Stood (over (classes_of tokens))) (map spine_of ts) → Every (λ t. depth t < n) (map spine_of ts)
      → Every (IsFormed tokens n) (parts_from (classes_of tokens) inside next ts)
  formed_from n inside next [] s d = tt
  formed_from n inside next (t ∷ ts) s d = (
    record { seen = refl; formed = s.0.0; whole = s.0.1; deep = d.0 },
    formed_from n inside (counted next (nodes t)) ts s.1 d.1,
  )

  -- the parts of a node: they are those of its form's expression, and less deep
  pub inner_formed : (n : ℕ) (p : Part) (f : Form) (ts : List Tree) → IsFormed tokens (suc n) p → out-Tree p.tree ≡ Tree-F.Node f ts
      → Matches (expression_of f) (heads (inner (classes_of tokens) p)) × Every (IsFormed tokens n) (inner (classes_of tokens) p)
  unfolding inner
  inner_formed n p f ts is e =
      let g = over (classes_of tokens) in
      let cs = classes_of tokens in
      let s = node_spine p.tree f ts e in
      let formed : Formed g (with_parts (node (form_number f)) (map spine_of ts)) = subst (Formed g) s is.formed in
      let deep : depth (with_parts (node (form_number f)) (map spine_of ts)) ≤ n = subst (λ t. depth t ≤ n) s (below (depth (spine_of p.tree)) is.deep) in
      let is_node : head g (spine_of p.tree) ≡ of_form (form_number f) = head_seen cs p.tree ∙ head_is cs p.tree ∙ ap (λ x. head_out cs x) e in
      let ends = whole_ends cs (form_number f) (spine_of p.tree) is_node is.whole in
      let matched : Matches (expression_of f) (heads_of g (spine_of p.tree)) = (nodes_follow _ f (spine_of p.tree) is_node).0.0 ends in
      let seen : heads_of g (spine_of p.tree) ≡ map (λ t. head g t) (map spine_of ts) = ap (λ t. heads_of g t) s ∙ with_heads g (node (form_number f)) (map spine_of ts) in
      subst (λ x. Matches (expression_of f) (heads (parts_in cs p.at x)) × Every (IsFormed tokens n) (parts_in cs p.at x)) (sym e) (
        subst (Matches (expression_of f)) (seen ∙ sym (heads_from cs p.at (counted p.at 1) ts)) matched,
        formed_from n p.at (counted p.at 1) ts (parts_stand g (node (form_number f)) (map spine_of ts) formed).1 (parts_deep (node (form_number f)) (map spine_of ts) n deep).1,
      )
    where
      below : (a : ℕ) → a < suc n → a ≤ n
      below a h = omega arith

  -- a part that is a token of some classes
  pub record IsToken (cs : List ℕ) (p : Part) : Type 0 where
    pub own : Token
    pub before : Context
    pub behind : List (Token × Span)
    pub is : token tokens p ≡ Some own
    pub classed : listed (class_number (token_class before own behind)) cs ≡ true

  pub leaf_token : (n : ℕ) (cs fs : List ℕ) (p : Part) (k : ℕ) → IsFormed tokens n p → Among cs fs p → apart cs (69 ∷ []) ≡ true → out-Tree p.tree ≡ Tree-F.Leaf k → IsToken cs p
  unfolding token class_at classes_of
  leaf_token n cs fs p k is h d e =
      let ks = classes_of tokens in
      let at : p.head ≡ of_class (class_at ks k) = is.seen ∙ head_is ks p.tree ∙ ap (λ x. head_out ks x) e in
      let here : listed (class_at ks k) cs ≡ true = subst (λ x. among cs fs x ≡ true) at h in
      let t = token_there start tokens k (away (class_at ks k) cs (69 ∷ []) d here) in
      record {
        own = t.0.0;
        before = t.1;
        behind = t.2;
        is = ap (λ x. token_in tokens x) e ∙ ap token_of t.3;
        classed = subst (λ c. listed (class_number c) cs ≡ true) t.4 here;
      }

  -- a part that is a node of some forms
  pub node_form : (n : ℕ) (cs fs : List ℕ) (p : Part) (f : Form) (ts : List Tree) → IsFormed tokens n p → Among cs fs p → out-Tree p.tree ≡ Tree-F.Node f ts → listed (form_number f) fs ≡ true
  node_form n cs fs p f ts is h e = subst (λ x. among cs fs x ≡ true) (is.seen ∙ head_is (classes_of tokens) p.tree ∙ ap (λ x. head_out (classes_of tokens) x) e) h

  pub no_leaf : (n : ℕ) (cs fs : List ℕ) (p : Part) (k : ℕ) → IsFormed tokens n p → Among cs fs p → out-Tree p.tree ≡ Tree-F.Leaf k → listed (class_at (classes_of tokens) k) cs ≡ true
  no_leaf n cs fs p k is h e = subst (λ x. among cs fs x ≡ true) (is.seen ∙ head_is (classes_of tokens) p.tree ∙ ap (λ x. head_out (classes_of tokens) x) e) h

  -- a part that can be no node
  pub only_token : (n : ℕ) (cs : List ℕ) (p : Part) → IsFormed tokens n p → Among cs [] p → apart cs (69 ∷ []) ≡ true → IsToken cs p
  only_token n cs p is h d = go (out-Tree p.tree) refl
    where
      go : (x : Tree-F Tree) → out-Tree p.tree ≡ x → IsToken cs p
      go (Tree-F.Leaf k) e = leaf_token n cs [] p k is h d e
      go (Tree-F.Node f ts) e = false_true (node_form n cs [] p f ts is h e)

  -- names and signs
  pub name_of_token : (cs : List ℕ) (p : Part) → IsToken cs p → within cs (0 ∷ 1 ∷ 2 ∷ 3 ∷ []) ≡ true → Is (name tokens p)
  unfolding name
  name_of_token cs p t w = subst (λ o. Is (on o name_of)) (sym t.is) (name_was t.before t.own t.behind (inside (class_number (token_class t.before t.own t.behind)) cs (0 ∷ 1 ∷ 2 ∷ 3 ∷ []) w t.classed))

  pub name_there : (n : ℕ) (cs : List ℕ) (p : Part) → IsFormed tokens n p → Among cs [] p → within cs (0 ∷ 1 ∷ 2 ∷ 3 ∷ []) ≡ true → apart cs (69 ∷ []) ≡ true → Is (name tokens p)
  name_there n cs p is h w d = name_of_token cs p (only_token n cs p is h d) w

  pub sign_there : (n : ℕ) (cs : List ℕ) (p : Part) → IsFormed tokens n p → Among cs [] p → apart cs (69 ∷ []) ≡ true → apart cs odd ≡ true → apart low cs ≡ true → Has (λ s. listed (class_number (sign_class s)) cs ≡ true) (sign tokens p)
  unfolding sign
  sign_there n cs p is h d o l =
      let t = only_token n cs p is h d in
      subst (λ x. Has (λ s. listed (class_number (sign_class s)) cs ≡ true) (on x sign_of)) (sym t.is) (sign_was t.before t.own t.behind cs o l t.classed)
