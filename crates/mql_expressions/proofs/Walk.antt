-- The walk over expressions, in parts.
use Rattle.std.proofs.Common.{◌≡◌, ℕ, Bool, true, false, List, [], ◌∷◌, ◌++◌, Option, Some, None, Result, IfOk, refl, sym, ap, subst, ◌∙◌}
use Rattle.std.proofs.lemmas.List.{append-nil, append_assoc}
use Rattle.mql_syntax.specs.declared.kind.Place.{Place}
use Rattle.mql_syntax.specs.declared.value.TypeUse.{TypeUse}
use Rattle.mql_syntax.specs.declared.value.Operation.{Operation}
use Rattle.mql_syntax.specs.declared.value.Operation.TheVariants as operation
use Rattle.mql_syntax.specs.declared.value.Value as value
use Rattle.mql_syntax.specs.declared.value.Value.{Value, out-Value, roll-Value, roll-out-Value, Row_of-Value, end_of-Value, more_of-Value, items-the_row-Value, items_hidden-the_row-Value-0}
use Rattle.mql_syntax.specs.declared.value.Value.TheOpen.{Value-F}
use Rattle.mql_syntax.specs.declared.value.Value.TheVariants as values
use mathlib.Core.Former.{Count}
use denote.Hole.Carrier.{roll}
use Rattle.mql_names.specs.declared.fault.Broken.{Broken}
use Rattle.mql_typed.specs.declared.info.Info.{Info}
use Rattle.mql_scope.specs.Contexts.{Text, Context}
use Rattle.mql_expressions.specs.declared.findings.Found.{Found}
use Rattle.mql_expressions.specs.declared.findings.Founds.{Founds}
use Rattle.mql_expressions.specs.Values.{infos_in, broken_in, used_in, name_of, name_of_first, called_in, first_name, called, is_named, behind_info, node, found_at, found, founds, found_all, founds_of, with_found, told_parts, all_behind}

-- parts as a list
founds_of_row : (n : _) (c : Context) (row : Row_of-Value n) → founds c false row ≡ found_all c (items-the_row-Value n row)
founds_of_row n c end_of-Value = refl
founds_of_row n c (more_of-Value v vs) =
    ap (λ fs. found c v ∷ fs) (founds_of_row _ (behind_info (found c v).info c) vs)

founds_behind : (n : _) (c : Context) (b : Bool) (row : Row_of-Value n)
    → founds c b row ≡ found_all c (told_parts b (items-the_row-Value n row))
founds_behind n c true end_of-Value = refl
founds_behind n c true (more_of-Value v vs) = founds_of_row _ c vs
founds_behind n c false row = founds_of_row n c row

first_of_row : (n : _) (row : Row_of-Value n) → first_name row ≡ name_of_first (items-the_row-Value n row)
first_of_row n end_of-Value = refl
first_of_row n (more_of-Value v vs) = refl

called_of_row : (n : _) (o : Operation) (row : Row_of-Value n) → called o row ≡ called_in o (items-the_row-Value n row)
called_of_row n operation.Call row = first_of_row n row
called_of_row n _ row = refl

-- what a value is made of
abbrev place_in : Value-F Value → Place
place_in (Value-F.Node place what types parts) = place

abbrev what_in : Value-F Value → Operation
what_in (Value-F.Node place what types parts) = what

abbrev types_in : Value-F Value → List TypeUse
types_in (Value-F.Node place what types parts) = types

abbrev parts_in : Value-F Value → List Value
parts_in (Value-F.Node place what types parts) = parts

abbrev pub value_place : Value → Place
value_place v = place_in (out-Value v)

abbrev pub value_what : Value → Operation
value_what v = what_in (out-Value v)

abbrev pub value_types : Value → List TypeUse
value_types v = types_in (out-Value v)

abbrev pub value_parts : Value → List Value
value_parts v = parts_in (out-Value v)

abbrev value_row : Value → (n : Count) × Row_of-Value n
value_row (value.Node' place what types _ row) = (_, row)

abbrev found_with : Context → Place → Operation → List TypeUse → Option Text → List Found → Found
found_with c p o types x fs = found_at c (node p o types x (infos_in fs)) (broken_in fs) (used_in fs)

abbrev made_found : Context → Place → Operation → List TypeUse → List Value → Found
made_found c p o types parts =
    found_with c p o types (called_in o parts) (found_all c (told_parts (is_named (called_in o parts)) parts))

found_in_row : (n : _) (c : Context) (p : Place) (o : Operation) (types : List TypeUse) (row : Row_of-Value n)
    → found_with c p o types (called o row) (founds c (is_named (called o row)) row)
    ≡ made_found c p o types (items-the_row-Value n row)
found_in_row n c p o types row =
    ap (λ x. found_with c p o types x (founds c (is_named x) row)) (called_of_row n o row)
    ∙ ap (found_with c p o types (called_in o (items-the_row-Value n row)))
    (founds_behind n c (is_named (called_in o (items-the_row-Value n row))) row)

found_of_node : (c : Context) (p : Place) (o : Operation) (types : List TypeUse) (parts : List Value)
    → found c (values.Node p o types parts) ≡ made_found c p o types parts
found_of_node c p o types parts =
    let row = value_row (values.Node p o types parts) in
    found_in_row row.0 c p o types row.1 ∙ ap (made_found c p o types) (items_hidden-the_row-Value-0 parts)

found_of_rolled : (c : Context) (w : Value-F Value)
    → found c (roll-Value w) ≡ made_found c (place_in w) (what_in w) (types_in w) (parts_in w)
unfolding roll-Value denote.Hole.Carrier.roll
found_of_rolled c (Value-F.Node p o types parts) = found_of_node c p o types parts

found_of_value : (c : Context) (v : Value)
    → found c v ≡ made_found c (value_place v) (value_what v) (value_types v) (value_parts v)
found_of_value c v = ap (found c) (sym (roll-out-Value v)) ∙ found_of_rolled c (out-Value v)

-- what is found at a value, from what is found in its parts
pub at_value : (c : Context) (v : Value) (p : Place) (o : Operation) (types : List TypeUse) (parts : List Value)
    (x : Option Text) (b : Bool) (fs : Founds) (r : Found)
    → p ≡ value_place v → o ≡ value_what v → types ≡ value_types v → parts ≡ value_parts v
    → x ≡ called_in o parts → b ≡ is_named x → fs ≡ founds_of (found_all c (told_parts b parts))
    → r ≡ found_at c (node p o types x fs.infos) fs.broken fs.used → r ≡ found c v
at_value c v p o types parts x b fs r e1 e2 e3 e4 h k l s =
    s ∙ ap (λ (gs : Founds). found_at c (node p o types x gs.infos) gs.broken gs.used) l
    ∙ ap (λ (d : Bool). found_with c p o types x (found_all c (told_parts d parts))) k
    ∙ ap (λ (y : Option Text). found_with c p o types y (found_all c (told_parts (is_named y) parts))) h
    ∙ ap (λ q. made_found c q o types parts) e1
    ∙ ap (λ q. made_found c (value_place v) q types parts) e2
    ∙ ap (λ q. made_found c (value_place v) (value_what v) q parts) e3
    ∙ ap (made_found c (value_place v) (value_what v) (value_types v)) e4
    ∙ sym (found_of_value c v)

-- the same of a call that may fail
pub whole : {E : Type 0} (c : Context) (v : Value) (p : Place) (o : Operation) (types : List TypeUse)
    (parts : List Value) (x : Option Text) (b : Bool) (fs : Founds) (r : Result Found E)
    → p ≡ value_place v → o ≡ value_what v → types ≡ value_types v → parts ≡ value_parts v
    → x ≡ called_in o parts → b ≡ is_named x → fs ≡ founds_of (found_all c (told_parts b parts))
    → IfOk r (λ f. f ≡ found_at c (node p o types x fs.infos) fs.broken fs.used) → IfOk r (λ f. f ≡ found c v)
whole c v p o types parts x b fs r e1 e2 e3 e4 h k l s =
    subst (λ y. IfOk r (λ f. f ≡ y)) (at_value c v p o types parts x b fs _ e1 e2 e3 e4 h k l refl) s

-- one more of a list
pub found_more : (c : Context) (vs : List Value) (v : Value)
    → found_all c (vs ++ v ∷ []) ≡ found_all c vs ++ found (all_behind c vs) v ∷ []
found_more c [] v = refl
found_more c (w ∷ ws) v = ap (λ fs. found c w ∷ fs) (found_more (behind_info (found c w).info c) ws v)

pub behind_more : (c : Context) (vs : List Value) (v : Value)
    → all_behind c (vs ++ v ∷ []) ≡ behind_info (found (all_behind c vs) v).info (all_behind c vs)
behind_more c [] v = refl
behind_more c (w ∷ ws) v = behind_more (behind_info (found c w).info c) ws v

infos_more : (fs : List Found) (f : Found) → infos_in (fs ++ f ∷ []) ≡ infos_in fs ++ f.info ∷ []
infos_more [] f = refl
infos_more (g ∷ gs) f = ap (λ is. g.info ∷ is) (infos_more gs f)

broken_more : (fs : List Found) (f : Found) → broken_in (fs ++ f ∷ []) ≡ broken_in fs ++ f.broken
broken_more [] f = append-nil f.broken
broken_more (g ∷ gs) f = ap (λ bs. g.broken ++ bs) (broken_more gs f) ∙ sym (append_assoc g.broken (broken_in gs) f.broken)

used_more : (fs : List Found) (f : Found) → used_in (fs ++ f ∷ []) ≡ used_in fs ++ f.used
used_more [] f = append-nil f.used
used_more (g ∷ gs) f = ap (λ ns. g.used ++ ns) (used_more gs f) ∙ sym (append_assoc g.used (used_in gs) f.used)

abbrev founds_with : List (Option Info) → List Broken → List ℕ → Founds
founds_with is bs ns = record { infos = is; broken = bs; used = ns }

of_more : (fs : List Found) (f : Found) → founds_of (fs ++ f ∷ []) ≡ with_found (founds_of fs) f
of_more fs f =
    ap (λ is. founds_with is (broken_in (fs ++ f ∷ [])) (used_in (fs ++ f ∷ []))) (infos_more fs f)
    ∙ ap (λ bs. founds_with (infos_in fs ++ f.info ∷ []) bs (used_in (fs ++ f ∷ []))) (broken_more fs f)
    ∙ ap (founds_with (infos_in fs ++ f.info ∷ []) (broken_in fs ++ f.broken)) (used_more fs f)

founds_more : (c : Context) (vs : List Value) (v : Value)
    → founds_of (found_all c (vs ++ v ∷ [])) ≡ with_found (founds_of (found_all c vs)) (found (all_behind c vs) v)
founds_more c vs v = ap founds_of (found_more c vs v) ∙ of_more (found_all c vs) (found (all_behind c vs) v)

-- the turn of the loop over expressions
pub context_step : (c : Context) (vs : List Value) (v : Value) (at next : Context) (f : Found)
    → at ≡ all_behind c vs → f ≡ found at v → next ≡ behind_info f.info at → next ≡ all_behind c (vs ++ v ∷ [])
context_step c vs v at next f e h k =
    k ∙ ap (λ (g : Found). behind_info g.info at) h
    ∙ ap (λ (a : Context). behind_info (found a v).info a) e ∙ sym (behind_more c vs v)

pub founds_step : (c : Context) (vs : List Value) (v : Value) (at : Context) (f : Found) (fs gs : Founds)
    → at ≡ all_behind c vs → f ≡ found at v → fs ≡ founds_of (found_all c vs) → gs ≡ with_found fs f
    → gs ≡ founds_of (found_all c (vs ++ v ∷ []))
founds_step c vs v at f fs gs e h k l =
    l ∙ ap (λ (x : Founds). with_found x f) k
    ∙ ap (with_found (founds_of (found_all c vs))) (h ∙ ap (λ (a : Context). found a v) e)
    ∙ sym (founds_more c vs v)
