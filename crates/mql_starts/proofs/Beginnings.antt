-- What variables begin with, in parts.
use Rattle.std.proofs.Common.{◌≡◌, ℕ, ◌+◌, ◌-◌, Bool, true, false, ◌&&◌, List, [], ◌∷◌, ◌++◌, length, drop, take, get_or, ◌<◌, flat_map, Option, Some, None, is_some, if◌then◌else◌, Result, IfOk, refl, sym, ap, subst, ◌∙◌, arith, append_assoc, add-zero, length-append, length-drop}
use Rattle.std.proofs.Math.Seq.{take-length}
use Rattle.std.proofs.lemmas.List.{append-nil, drop_more}
use Rattle.std.proofs.lemmas.Grind.{flat_map-append}
use Rattle.mql_meaning.specs.declared.types.VarType.{VarType}
use Rattle.mql_meaning.specs.declared.tree.Expression.{Expression}
use Rattle.mql_syntax.specs.declared.value.TypeUse.{TypeUse}
use Rattle.mql_syntax.specs.declared.kind.Place.{Place}
use Rattle.mql_syntax.specs.declared.value.Operation.{Operation}
use Rattle.mql_syntax.specs.declared.value.Value as value
use Rattle.mql_syntax.specs.declared.value.Value.{Value, out-Value, roll-Value, roll-out-Value, Row_of-Value, end_of-Value, more_of-Value, items-the_row-Value, items_hidden-the_row-Value-0}
use Rattle.mql_syntax.specs.declared.value.Value.TheOpen.{Value-F}
use Rattle.mql_syntax.specs.declared.value.Value.TheVariants as values
use mathlib.Core.Former.{Count}
use denote.Hole.Carrier.{roll}
use Rattle.mql_names.specs.declared.fault.Broken.{Broken}
use Rattle.mql_types.specs.declared.types.DataType.{DataType}
use Rattle.mql_scope.specs.declared.context.Known.{Known}
use Rattle.mql_scope.specs.Contexts.{Program, Context}
use Rattle.mql_expressions.specs.declared.findings.Found.{Found}
use Rattle.mql_expressions.specs.Values.{found, broken_in, used_in}
use Rattle.mql_starts.specs.declared.initialisers.Begun.{Begun}
use Rattle.mql_starts.specs.declared.initialisers.Part.{Part}
use Rattle.mql_starts.specs.declared.initialisers.PartStep.{PartStep}
use Rattle.mql_starts.specs.Starts.{then_begun, refused, loose, loose_row, begun_then, at_part, stepped, stepped_all, part_at, has_parts, sized, one_begun, behind_begun, is_braces, row_length, in_braces, begins, begins_row, begins_list, are_constant, all_constant, all_are_constant}

-- the answer of a call that may fail, said otherwise
pub held : {A E : Type 0} (r : Result A E) (x y : A) → x ≡ y → IfOk r (λ b. b ≡ x) → IfOk r (λ b. b ≡ y)
held r x y e h = subst (λ z. IfOk r (λ b. b ≡ z)) e h

-- one more step
pub stepped_more : (e : Expression) (ss : List PartStep) (s : PartStep) → stepped_all e (ss ++ s ∷ []) ≡ stepped (stepped_all e ss) s
stepped_more e [] s = refl
stepped_more e (x ∷ ss) s = stepped_more (stepped e x) ss s

-- one behind the other
begun_of : List Expression → List VarType → List Broken → List ℕ → Begun
begun_of steps kept broken used = record { steps = steps; kept = kept; broken = broken; used = used }

pub then_then : (a b d : Begun) → then_begun (then_begun a b) d ≡ then_begun a (then_begun b d)
unfolding begun_of
then_then a b d =
    let steps : List Expression = a.steps ++ (b.steps ++ d.steps) in
    let kept : List VarType = a.kept ++ (b.kept ++ d.kept) in
    let broken : List Broken = a.broken ++ (b.broken ++ d.broken) in
    ap (λ x. begun_of x ((a.kept ++ b.kept) ++ d.kept) ((a.broken ++ b.broken) ++ d.broken) ((a.used ++ b.used) ++ d.used)) (append_assoc a.steps b.steps d.steps)
    ∙ ap (λ x. begun_of steps x ((a.broken ++ b.broken) ++ d.broken) ((a.used ++ b.used) ++ d.used)) (append_assoc a.kept b.kept d.kept)
    ∙ ap (λ x. begun_of steps kept x ((a.used ++ b.used) ++ d.used)) (append_assoc a.broken b.broken d.broken)
    ∙ ap (begun_of steps kept broken) (append_assoc a.used b.used d.used)

-- contexts behind what begins
context_with : Context → ℕ → List Known → ℕ → Context
context_with c n ls s = record c { next = n; locals = ls; statics = s }

next_behind : (n : ℕ) (xs ys : List VarType) → n + length xs + length ys ≡ n + length (xs ++ ys)
next_behind n xs ys = omega (arith, length-append xs ys)

pub behind_both : (a b : Begun) (c : Context) → behind_begun b (behind_begun a c) ≡ behind_begun (then_begun a b) c
unfolding context_with
behind_both a b c =
    ap (λ x. context_with c x ((c.locals ++ []) ++ []) (c.statics + 0 + 0)) (next_behind c.next a.kept b.kept)
    ∙ ap (λ x. context_with c (c.next + length (a.kept ++ b.kept)) x (c.statics + 0 + 0)) (append-nil (c.locals ++ []))
    ∙ ap (context_with c (c.next + length (a.kept ++ b.kept)) (c.locals ++ [])) (add-zero (c.statics + 0))

-- values by themselves
loose_of_row : (n : _) (c : Context) (row : Row_of-Value n) → loose_row c row ≡ flat_map (loose c) (items-the_row-Value n row)
loose_of_row n c end_of-Value = refl
loose_of_row n c (more_of-Value v vs) = ap (λ fs. loose c v ++ fs) (loose_of_row _ c vs)

pub broken_append : (fs gs : List Found) → broken_in (fs ++ gs) ≡ broken_in fs ++ broken_in gs
broken_append [] gs = refl
broken_append (f ∷ fs) gs = ap (λ x. f.broken ++ x) (broken_append fs gs) ∙ sym (append_assoc f.broken (broken_in fs) (broken_in gs))

pub used_append : (fs gs : List Found) → used_in (fs ++ gs) ≡ used_in fs ++ used_in gs
used_append [] gs = refl
used_append (f ∷ fs) gs = ap (λ x. f.used ++ x) (used_append fs gs) ∙ sym (append_assoc f.used (used_in fs) (used_in gs))

loose_more : (c : Context) (vs : List Value) (v : Value) → flat_map (loose c) (vs ++ v ∷ []) ≡ flat_map (loose c) vs ++ loose c v
loose_more c vs v = flat_map-append (loose c) vs (v ∷ []) ∙ ap (λ x. flat_map (loose c) vs ++ x) (append-nil (loose c v))

pub broken_more : (c : Context) (before : List Broken) (vs : List Value) (v : Value)
    → (before ++ broken_in (flat_map (loose c) vs)) ++ broken_in (loose c v) ≡ before ++ broken_in (flat_map (loose c) (vs ++ v ∷ []))
broken_more c before vs v =
    append_assoc before (broken_in (flat_map (loose c) vs)) (broken_in (loose c v))
    ∙ ap (λ x. before ++ x) (sym (broken_append (flat_map (loose c) vs) (loose c v)) ∙ ap broken_in (sym (loose_more c vs v)))

pub used_more : (c : Context) (before : List ℕ) (vs : List Value) (v : Value)
    → (before ++ used_in (flat_map (loose c) vs)) ++ used_in (loose c v) ≡ before ++ used_in (flat_map (loose c) (vs ++ v ∷ []))
used_more c before vs v =
    append_assoc before (used_in (flat_map (loose c) vs)) (used_in (loose c v))
    ∙ ap (λ x. before ++ x) (sym (used_append (flat_map (loose c) vs) (loose c v)) ∙ ap used_in (sym (loose_more c vs v)))

-- the parts as a list
part_alike : (f g : Part → Begun) (a b : Begun) → ((x : Part) → f x ≡ g x) → a ≡ b → (x : Option Part) → at_part f a x ≡ at_part g b x
part_alike f g a b h k None = k
part_alike f g a b h k (Some x) = h x

then_alike : (one : Begun) (f g : Context → Begun) (c : Context) → ((d : Context) → f d ≡ g d) → begun_then one f c ≡ begun_then one g c
then_alike one f g c h = ap (then_begun one) (h (behind_begun one c))

begins_of_row : (n : _) (c : Context) (q : Place) (e : Expression) (t : DataType) (k : ℕ) (row : Row_of-Value n)
    → begins_row c q e t k row ≡ begins_list c q e t k (items-the_row-Value n row)
begins_of_row n c q e t k end_of-Value = refl
begins_of_row n c q e t k (more_of-Value v vs) =
    part_alike
    (λ x. begun_then (begins c q (stepped e x.step) x.of v) (λ d. begins_row d q e t (k + 1) vs) c)
    (λ x. begun_then (begins c q (stepped e x.step) x.of v) (λ d. begins_list d q e t (k + 1) (items-the_row-Value _ vs)) c)
    (refused q 35 (loose c v ++ loose_row c vs)) (refused q 35 (flat_map (loose c) (v ∷ items-the_row-Value _ vs)))
    (λ x. then_alike (begins c q (stepped e x.step) x.of v) (λ d. begins_row d q e t (k + 1) vs)
    (λ d. begins_list d q e t (k + 1) (items-the_row-Value _ vs)) c (λ d. begins_of_row _ d q e t (k + 1) vs))
    (ap (λ fs. refused q 35 (loose c v ++ fs)) (loose_of_row _ c vs)) (part_at c.program t k)

-- the values from a number on
pub rest_whole : (vs : List Value) (k : ℕ) → take (length vs - k) (drop k vs) ≡ drop k vs
rest_whole vs k = ap (λ n. take n (drop k vs)) (sym (length-drop k vs)) ∙ take-length (drop k vs)

-- one more part
abbrev list_rest : Context → Place → Expression → DataType → ℕ → Value → List Value → Option Part → Begun
list_rest c q e t k v vs x =
    at_part (λ x. begun_then (begins c q (stepped e x.step) x.of v) (λ d. begins_list d q e t (k + 1) vs) c)
    (refused q 35 (flat_map (loose c) (v ∷ vs))) x

pub list_more : (c : Context) (q : Place) (e : Expression) (t : DataType) (vs : List Value) (i : ℕ) (v : Value) (b one : Begun) (x : Part)
    → i < length vs → v ≡ get_or vs i v → Some x ≡ part_at c.program t i
    → one ≡ begins (behind_begun b c) q (stepped e x.step) x.of v
    → then_begun (then_begun b one) (begins_list (behind_begun (then_begun b one) c) q e t (i + 1) (drop (i + 1) vs))
    ≡ then_begun b (begins_list (behind_begun b c) q e t i (drop i vs))
list_more c q e t vs i v b one x h k p o =
    let d : Context = behind_begun b c in
    let rest : List Value = drop (i + 1) vs in
    then_then b one (begins_list (behind_begun (then_begun b one) c) q e t (i + 1) rest)
    ∙ ap (then_begun b) (
    ap (λ w. then_begun one (begins_list w q e t (i + 1) rest)) (sym (behind_both b one c))
    ∙ ap (λ y. begun_then y (λ w. begins_list w q e t (i + 1) rest) d) o
    ∙ ap (list_rest d q e t i v rest) p
    ∙ ap (begins_list d q e t i) (sym (drop_more vs i v h ∙ ap (λ y. y ∷ rest) (sym k))))

length_of_row : (n : _) (row : Row_of-Value n) → row_length row ≡ length (items-the_row-Value n row)
length_of_row n end_of-Value = refl
length_of_row n (more_of-Value v vs) = let h = length_of_row _ vs in omega (arith, h)

-- what a value is made of
abbrev place_in : Value-F Value → Place
place_in (Value-F.Node place what types parts) = place

abbrev what_in : Value-F Value → Operation
what_in (Value-F.Node place what types parts) = what

abbrev parts_in : Value-F Value → List Value
parts_in (Value-F.Node place what types parts) = parts

abbrev pub value_place : Value → Place
value_place v = place_in (out-Value v)

abbrev pub value_what : Value → Operation
value_what v = what_in (out-Value v)

abbrev pub value_parts : Value → List Value
value_parts v = parts_in (out-Value v)

abbrev value_row : Value → (n : Count) × Row_of-Value n
value_row (value.Node' place what types _ row) = (_, row)

abbrev braces_begun : Bool → Bool → Begun → Begun → Begun → Begun
braces_begun braces parted parts none one = if braces then (if parted then parts else none) else one

abbrev pub node_begun : Context → Place → Expression → DataType → Value → Place → Operation → List Value → Begun
node_begun c p e t v q what parts =
    braces_begun (is_braces what) (has_parts t) (in_braces q (sized e t (length parts)) (begins_list c q e t 0 parts))
    (refused p 35 (flat_map (loose c) parts)) (one_begun p e t (found c v))

abbrev row_begun : Context → Place → Expression → DataType → Value → Place → Operation → ℕ → Begun → List Found → Begun
row_begun c p e t v q what n b fs =
    braces_begun (is_braces what) (has_parts t) (in_braces q (sized e t n) b) (refused p 35 fs) (one_begun p e t (found c v))

begins_of_node : (c : Context) (p : Place) (e : Expression) (t : DataType) (q : Place) (o : Operation) (types : List TypeUse) (parts : List Value)
    → begins c p e t (values.Node q o types parts) ≡ node_begun c p e t (values.Node q o types parts) q o parts
begins_of_node c p e t q o types parts =
    let v : Value = values.Node q o types parts in
    let row = value_row (values.Node q o types parts) in
    let h = items_hidden-the_row-Value-0 parts in
    ap (λ n. row_begun c p e t v q o n (begins_row c q e t 0 row.1) (loose_row c row.1)) (length_of_row row.0 row.1 ∙ ap length h)
    ∙ ap (λ b. row_begun c p e t v q o (length parts) b (loose_row c row.1)) (begins_of_row row.0 c q e t 0 row.1 ∙ ap (begins_list c q e t 0) h)
    ∙ ap (row_begun c p e t v q o (length parts) (begins_list c q e t 0 parts)) (loose_of_row row.0 c row.1 ∙ ap (flat_map (loose c)) h)

begins_of_rolled : (c : Context) (p : Place) (e : Expression) (t : DataType) (w : Value-F Value)
    → begins c p e t (roll-Value w) ≡ node_begun c p e t (roll-Value w) (place_in w) (what_in w) (parts_in w)
unfolding roll-Value denote.Hole.Carrier.roll
begins_of_rolled c p e t (Value-F.Node q o types parts) = begins_of_node c p e t q o types parts

pub begins_of_value : (c : Context) (p : Place) (e : Expression) (t : DataType) (v : Value)
    → begins c p e t v ≡ node_begun c p e t v (value_place v) (value_what v) (value_parts v)
begins_of_value c p e t v =
    ap (begins c p e t) (sym (roll-out-Value v)) ∙ begins_of_rolled c p e t (out-Value v)
    ∙ ap (λ w. node_begun c p e t w (value_place v) (value_what v) (value_parts v)) (roll-out-Value v)

begins_as : (c : Context) (p : Place) (e : Expression) (t : DataType) (v : Value) (q : Place) (what : Operation) (parts : List Value)
    → q ≡ value_place v → what ≡ value_what v → parts ≡ value_parts v → begins c p e t v ≡ node_begun c p e t v q what parts
begins_as c p e t v q what parts h k l =
    begins_of_value c p e t v
    ∙ ap (λ x. node_begun c p e t v x (value_what v) (value_parts v)) (sym h)
    ∙ ap (λ x. node_begun c p e t v q x (value_parts v)) (sym k)
    ∙ ap (node_begun c p e t v q what) (sym l)

pub begins_none : (c : Context) (p : Place) (e : Expression) (t : DataType) (v : Value) (what : Operation) (parts : List Value) (b : Begun)
    → what ≡ value_what v → parts ≡ value_parts v → is_braces what ≡ true → has_parts t ≡ false
    → b ≡ refused p 35 (flat_map (loose c) parts) → b ≡ begins c p e t v
begins_none c p e t v what parts b k l z w o =
    o ∙ sym (begins_as c p e t v (value_place v) what parts refl k l
    ∙ ap (λ x. braces_begun x (has_parts t) (in_braces (value_place v) (sized e t (length parts)) (begins_list c (value_place v) e t 0 parts))
    (refused p 35 (flat_map (loose c) parts)) (one_begun p e t (found c v))) z
    ∙ ap (λ x. if x then in_braces (value_place v) (sized e t (length parts)) (begins_list c (value_place v) e t 0 parts)
    else refused p 35 (flat_map (loose c) parts)) w)

pub begins_parts : (c : Context) (p : Place) (e : Expression) (t : DataType) (v : Value) (q : Place) (what : Operation) (parts : List Value)
    (before : List Expression) (inner b : Begun) → q ≡ value_place v → what ≡ value_what v → parts ≡ value_parts v
    → is_braces what ≡ true → has_parts t ≡ true → before ≡ sized e t (length parts) → inner ≡ begins_list c q e t 0 parts
    → b ≡ in_braces q before inner → b ≡ begins c p e t v
begins_parts c p e t v q what parts before inner b h k l z w m n o =
    o ∙ ap (λ x. in_braces q x inner) m ∙ ap (in_braces q (sized e t (length parts))) n
    ∙ sym (begins_as c p e t v q what parts h k l
    ∙ ap (λ x. braces_begun x (has_parts t) (in_braces q (sized e t (length parts)) (begins_list c q e t 0 parts))
    (refused p 35 (flat_map (loose c) parts)) (one_begun p e t (found c v))) z
    ∙ ap (λ x. if x then in_braces q (sized e t (length parts)) (begins_list c q e t 0 parts)
    else refused p 35 (flat_map (loose c) parts)) w)

-- a value by itself
abbrev pub node_loose : Context → Value → Operation → List Value → List Found
node_loose c v what parts = if is_braces what then flat_map (loose c) parts else found c v ∷ []

loose_of_node : (c : Context) (q : Place) (o : Operation) (types : List TypeUse) (parts : List Value)
    → loose c (values.Node q o types parts) ≡ node_loose c (values.Node q o types parts) o parts
loose_of_node c q o types parts =
    let row = value_row (values.Node q o types parts) in
    ap (λ fs. if is_braces o then fs else found c (values.Node q o types parts) ∷ [])
    (loose_of_row row.0 c row.1 ∙ ap (flat_map (loose c)) (items_hidden-the_row-Value-0 parts))

loose_of_rolled : (c : Context) (w : Value-F Value) → loose c (roll-Value w) ≡ node_loose c (roll-Value w) (what_in w) (parts_in w)
unfolding roll-Value denote.Hole.Carrier.roll
loose_of_rolled c (Value-F.Node q o types parts) = loose_of_node c q o types parts

pub loose_of_value : (c : Context) (v : Value) → loose c v ≡ node_loose c v (value_what v) (value_parts v)
loose_of_value c v =
    ap (loose c) (sym (roll-out-Value v)) ∙ loose_of_rolled c (out-Value v)
    ∙ ap (λ w. node_loose c w (value_what v) (value_parts v)) (roll-out-Value v)

pub loose_braces : (c : Context) (v : Value) (what : Operation) (parts : List Value) → what ≡ value_what v → parts ≡ value_parts v
    → is_braces what ≡ true → flat_map (loose c) parts ≡ loose c v
loose_braces c v what parts k l z =
    sym (loose_of_value c v ∙ ap (λ x. node_loose c v x (value_parts v)) (sym k) ∙ ap (node_loose c v what) (sym l)
    ∙ ap (λ x. if x then flat_map (loose c) parts else found c v ∷ []) z)

-- constants
constant_of_row : (n : _) (p : Program) (ks : List Known) (row : Row_of-Value n) → all_constant p ks row ≡ all_are_constant p ks (items-the_row-Value n row)
constant_of_row n p ks end_of-Value = refl
constant_of_row n p ks (more_of-Value v vs) = ap (λ b. are_constant p ks v && b) (constant_of_row _ p ks vs)

abbrev pub node_constant : Program → List Known → Value → Operation → List Value → Bool
node_constant p ks v what parts = if is_braces what then all_are_constant p ks parts else is_some (p.constant ks v)

constant_of_node : (p : Program) (ks : List Known) (q : Place) (o : Operation) (types : List TypeUse) (parts : List Value)
    → are_constant p ks (values.Node q o types parts) ≡ node_constant p ks (values.Node q o types parts) o parts
constant_of_node p ks q o types parts =
    let row = value_row (values.Node q o types parts) in
    ap (λ b. if is_braces o then b else is_some (p.constant ks (values.Node q o types parts)))
    (constant_of_row row.0 p ks row.1 ∙ ap (all_are_constant p ks) (items_hidden-the_row-Value-0 parts))

constant_of_rolled : (p : Program) (ks : List Known) (w : Value-F Value)
    → are_constant p ks (roll-Value w) ≡ node_constant p ks (roll-Value w) (what_in w) (parts_in w)
unfolding roll-Value denote.Hole.Carrier.roll
constant_of_rolled p ks (Value-F.Node q o types parts) = constant_of_node p ks q o types parts

pub constant_of_value : (p : Program) (ks : List Known) (v : Value) → are_constant p ks v ≡ node_constant p ks v (value_what v) (value_parts v)
constant_of_value p ks v =
    ap (are_constant p ks) (sym (roll-out-Value v)) ∙ constant_of_rolled p ks (out-Value v)
    ∙ ap (λ w. node_constant p ks w (value_what v) (value_parts v)) (roll-out-Value v)

pub constant_braces : (p : Program) (ks : List Known) (v : Value) (what : Operation) (parts : List Value) → what ≡ value_what v
    → parts ≡ value_parts v → is_braces what ≡ true → all_are_constant p ks parts ≡ are_constant p ks v
constant_braces p ks v what parts k l z =
    sym (constant_of_value p ks v ∙ ap (λ x. node_constant p ks v x (value_parts v)) (sym k) ∙ ap (node_constant p ks v what) (sym l)
    ∙ ap (λ x. if x then all_are_constant p ks parts else is_some (p.constant ks v)) z)
