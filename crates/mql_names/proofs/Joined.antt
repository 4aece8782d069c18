-- What is told of things, in parts.
use Rattle.std.proofs.Common.{◌≡◌, Bool, true, false, not, ltb, ◌||◌, List, [], ◌∷◌, ◌++◌, map, length, Option, Result, Ok, Err, IfOk, is_none, refl, sym, ap, ◌∙◌}
use Rattle.std.specs.List.{flat_map}
use Rattle.std.proofs.lemmas.Grind.{flat_map-append}
use Rattle.std.proofs.lemmas.List.{append-nil, append_assoc, map-append}
use Rattle.mql_syntax.specs.declared.value.TypeUse.{TypeUse}
use mathlib.Core.Former.{Count}
use Rattle.mql_syntax.specs.declared.kind.Place.{Place}
use Rattle.mql_syntax.specs.declared.value.Operation.{Operation}
use Rattle.mql_syntax.specs.declared.value.Value as value
use Rattle.mql_syntax.specs.declared.value.Value.{Value, out-Value, roll-Value, roll-out-Value, Row_of-Value, end_of-Value, more_of-Value, items-the_row-Value, items_hidden-the_row-Value-0}
use Rattle.mql_syntax.specs.declared.value.Value.TheOpen.{Value-F}
use denote.Hole.Carrier.{roll}
use Rattle.mql_syntax.specs.declared.value.Value.TheVariants as values
use Rattle.mql_syntax.specs.declared.kind.StatementKind.{StatementKind}
use Rattle.mql_syntax.specs.declared.statement.Statement as statement
use Rattle.mql_syntax.specs.declared.statement.Statement.{Statement, out-Statement, roll-Statement, roll-out-Statement, Row_of-Statement, end_of-Statement, more_of-Statement, items-the_row-Statement, items_hidden-the_row-Statement-0}
use Rattle.mql_syntax.specs.declared.statement.Statement.TheOpen.{Statement-F}
use Rattle.mql_syntax.specs.declared.statement.Statement.TheVariants as statements
use Rattle.mql_syntax.specs.declared.declaration.Variable.{Variable}
use Rattle.mql_syntax.specs.declared.declaration.Function.{Function}
use Rattle.mql_syntax.specs.declared.declaration.Param.{Param}
use Rattle.mql_syntax.specs.declared.declaration.Class.{Class}
use Rattle.mql_syntax.specs.declared.declaration.Syntax.{Syntax}
use Rattle.mql_names.specs.declared.fault.Broken.{Broken}
use Rattle.mql_names.specs.Faults.{break_if, told, sooner}
use Rattle.mql_names.specs.declared.scope.Named.{Named}
use Rattle.mql_names.specs.Scopes.{Name, repeated}
use Rattle.mql_names.specs.Types.{Names, type_sort, type_place}
use Rattle.mql_names.specs.Things.{Thing, type_things, value_things, row_things, dimension_things, start_things, variable_things, variables_things, variable_name, variable_named, param_variable, result_things, body_parts, function_things, member_named, member_things, class_things, item_named, item_things, things_of, own_locals, own_names, shares, list_among, parts_of, scopes_of, behind, statement_things, parts_things, list_things}
use Rattle.mql_names.specs.Things as thing
use Rattle.mql_names.specs.Events.{some_event}
use Rattle.mql_names.specs.Rules.{breaks, event_breaks, told_of, is_unknown, later_open, lacks_after}
use Rattle.mql_names.proofs.Faults.{told_append}

pub of_append : (names : Names) (xs ys : List Thing) → told_of names (xs ++ ys) ≡ sooner (told_of names xs) (told_of names ys)
of_append names xs ys = ap told (flat_map-append (breaks names) xs ys) ∙ told_append (flat_map (breaks names) xs) (flat_map (breaks names) ys)

-- one more of a list
pub each_more : {A : Type 0} (names : Names) (g : A → List Thing) (xs : List A) (x : A) (a b : Option Broken)
    → a ≡ told_of names (flat_map g xs) → b ≡ told_of names (g x) → sooner a b ≡ told_of names (flat_map g (xs ++ x ∷ []))
each_more names g xs x a b h k =
    ap (λ o. sooner o b) h ∙ ap (sooner (told_of names (flat_map g xs))) k
    ∙ sym (of_append names (flat_map g xs) (g x))
    ∙ ap (told_of names) (sym (flat_map-append g xs (x ∷ []) ∙ ap (λ ys. flat_map g xs ++ ys) (append-nil (g x))))

told_nil : (xs : List Broken) → told (xs ++ []) ≡ told xs
told_nil xs = ap told (append-nil xs)

told_nils : (xs : List Broken) → told ((xs ++ []) ++ []) ≡ told xs
told_nils xs = told_nil (xs ++ []) ∙ told_nil xs

pub at_type : (names : Names) (t : TypeUse) (r : Option Broken) → r ≡ told (break_if (is_unknown (type_sort names t)) 2 (type_place t)) → r ≡ told_of names (type_things t)
at_type names t r h = h ∙ sym (told_nils (break_if (is_unknown (type_sort names t)) 2 (type_place t)))

pub at_variable : (names : Names) (locals : List Name) (v : Variable) (r : Option Broken) → r ≡ told (break_if (ltb 4 (length v.dimensions) || later_open v.dimensions) 12 v.place) → r ≡ told_of names (thing.variable locals v ∷ [])
at_variable names locals v r h = h ∙ sym (told_nils (break_if (ltb 4 (length v.dimensions) || later_open v.dimensions) 12 v.place))

pub at_function : (names : Names) (f : Function) (r : Option Broken)
    → r ≡ sooner (told (break_if (is_none f.result) 2 f.place)) (told (break_if (lacks_after false f.params) 15 f.place)) → r ≡ told_of names (thing.function f ∷ [])
at_function names f r h =
    let xs = break_if (is_none f.result) 2 f.place in
    let ys = break_if (lacks_after false f.params) 15 f.place in
    h ∙ sym (told_nil (xs ++ (ys ++ [])) ∙ told_append xs (ys ++ []) ∙ ap (sooner (told xs)) (told_nil ys))

pub at_program : (names : Names) (s : Syntax) (r a b : Option Broken)
    → a ≡ told (flat_map (event_breaks names) s.items) → b ≡ told (break_if (not (some_event s.items)) 16 s.place)
    → r ≡ sooner a b → r ≡ told_of names (thing.program s ∷ [])
at_program names s r a b h k t =
    let xs = flat_map (event_breaks names) s.items in
    let ys = break_if (not (some_event s.items)) 16 s.place in
    t ∙ ap (λ x. sooner x b) h ∙ ap (sooner (told xs)) k ∙ sym (told_nil (xs ++ ys) ∙ told_append xs ys)

list_of_values : (n : _) (row : Row_of-Value n) → row_things row ≡ flat_map value_things (items-the_row-Value n row)
list_of_values n end_of-Value = refl
list_of_values n (more_of-Value v vs) = ap (λ ts. value_things v ++ ts) (list_of_values _ vs)

-- the types and the values that a value is made of
abbrev types_in : Value-F Value → List TypeUse
types_in (Value-F.Node place what types parts) = types

abbrev parts_in : Value-F Value → List Value
parts_in (Value-F.Node place what types parts) = parts

abbrev pub value_types : Value → List TypeUse
value_types v = types_in (out-Value v)

abbrev pub value_parts : Value → List Value
value_parts v = parts_in (out-Value v)

abbrev value_row : Value → (n : Count) × Row_of-Value n
value_row (value.Node' place what types _ row) = (_, row)

things_of_node : (p : Place) (o : Operation) (types : List TypeUse) (parts : List Value)
    → value_things (values.Node p o types parts) ≡ flat_map type_things types ++ flat_map value_things parts
things_of_node p o types parts =
    let row = value_row (values.Node p o types parts) in
    ap (λ ts. flat_map type_things types ++ ts) (list_of_values row.0 row.1 ∙ ap (flat_map value_things) (items_hidden-the_row-Value-0 parts))

things_of_rolled : (w : Value-F Value) → value_things (roll-Value w) ≡ flat_map type_things (types_in w) ++ flat_map value_things (parts_in w)
unfolding roll-Value denote.Hole.Carrier.roll
things_of_rolled (Value-F.Node p o types parts) = things_of_node p o types parts

things_of_value : (v : Value) → value_things v ≡ flat_map type_things (value_types v) ++ flat_map value_things (value_parts v)
things_of_value v = ap value_things (sym (roll-out-Value v)) ∙ things_of_rolled (out-Value v)

pub at_value : (names : Names) (v : Value) (types : List TypeUse) (parts : List Value) (r a b : Option Broken)
    → types ≡ value_types v → parts ≡ value_parts v → a ≡ told_of names (flat_map type_things types) → b ≡ told_of names (flat_map value_things parts)
    → r ≡ sooner a b → r ≡ told_of names (value_things v)
at_value names v types parts r a b e f h k s =
    s ∙ ap (λ x. sooner x b) (h ∙ ap (λ xs. told_of names (flat_map type_things xs)) e)
    ∙ ap (sooner (told_of names (flat_map type_things (value_types v)))) (k ∙ ap (λ xs. told_of names (flat_map value_things xs)) f)
    ∙ sym (ap (told_of names) (things_of_value v) ∙ of_append names (flat_map type_things (value_types v)) (flat_map value_things (value_parts v)))

pub whole_variable : (names : Names) (v : Variable) (r a b c d : Option Broken)
    → a ≡ told_of names (type_things v.of) → ((locals : List Name) → b ≡ told_of names (thing.variable locals v ∷ []))
    → c ≡ told_of names (flat_map dimension_things v.dimensions) → d ≡ told_of names (start_things v.start)
    → r ≡ sooner a (sooner b (sooner c d)) → (locals : List Name) → r ≡ told_of names (variable_things locals v)
whole_variable names v r a b c d h k l m s locals =
    s ∙ ap (λ x. sooner x (sooner b (sooner c d))) h
    ∙ ap (sooner (told_of names (type_things v.of))) (
    ap (λ x. sooner x (sooner c d)) (k locals)
    ∙ ap (sooner (told_of names (thing.variable locals v ∷ []))) (
    ap (λ x. sooner x d) l ∙ ap (sooner (told_of names (flat_map dimension_things v.dimensions))) m
    ∙ sym (of_append names (flat_map dimension_things v.dimensions) (start_things v.start)))
    ∙ sym (of_append names (thing.variable locals v ∷ []) (flat_map dimension_things v.dimensions ++ start_things v.start)))
    ∙ sym (of_append names (type_things v.of) (thing.variable locals v ∷ (flat_map dimension_things v.dimensions ++ start_things v.start)))

pub at_scope : {E : Type 0} (ns : List Named) (r : Result (Option Broken) E) → IfOk r (λ b. b ≡ told (repeated [] ns))
    → IfOk r (λ b. (names : Names) → b ≡ told_of names (thing.scope ns ∷ []))
at_scope ns (Ok b) h = λ names. h ∙ sym (told_nils (repeated [] ns))
at_scope ns (Err e) h = h

-- one more variable
variables_append : (locals : List Name) (vs : List Variable) (v : Variable)
    → variables_things locals (vs ++ v ∷ []) ≡ variables_things locals vs ++ variable_things (locals ++ map variable_name vs) v
variables_append locals [] v = append-nil (variable_things locals v) ∙ ap (λ ls. variable_things ls v) (sym (append-nil locals))
variables_append locals (w ∷ vs) v =
    ap (λ ts. variable_things locals w ++ ts) (variables_append (locals ++ w.name ∷ []) vs v)
    ∙ sym (append_assoc (variable_things locals w) (variables_things (locals ++ w.name ∷ []) vs) (variable_things ((locals ++ w.name ∷ []) ++ map variable_name vs) v))
    ∙ ap (λ ls. (variable_things locals w ++ variables_things (locals ++ w.name ∷ []) vs) ++ variable_things ls v) (append_assoc locals (w.name ∷ []) (map variable_name vs))

pub variables_more : (names : Names) (vs : List Variable) (v : Variable) (a b : Option Broken)
    → ((locals : List Name) → a ≡ told_of names (variables_things locals vs)) → ((locals : List Name) → b ≡ told_of names (variable_things locals v))
    → (locals : List Name) → sooner a b ≡ told_of names (variables_things locals (vs ++ v ∷ []))
variables_more names vs v a b h k locals =
    ap (λ o. sooner o b) (h locals) ∙ ap (sooner (told_of names (variables_things locals vs))) (k (locals ++ map variable_name vs))
    ∙ sym (ap (told_of names) (variables_append locals vs v) ∙ of_append names (variables_things locals vs) (variable_things (locals ++ map variable_name vs) v))

-- one more statement
all_behind : Bool → List Name → List Statement → List Name
all_behind shared locals [] = locals
all_behind shared locals (s ∷ ss) = all_behind shared (behind shared locals s) ss

list_append : (shared : Bool) (locals : List Name) (ss : List Statement) (s : Statement)
    → list_things shared locals (ss ++ s ∷ []) ≡ list_things shared locals ss ++ statement_things (all_behind shared locals ss) s
unfolding all_behind
list_append shared locals [] s = append-nil (statement_things locals s)
list_append shared locals (t ∷ ss) s =
    ap (λ ts. statement_things locals t ++ ts) (list_append shared (behind shared locals t) ss s)
    ∙ sym (append_assoc (statement_things locals t) (list_things shared (behind shared locals t) ss) (statement_things (all_behind shared (behind shared locals t) ss) s))

pub parts_more : (names : Names) (ss : List Statement) (s : Statement) (a b : Option Broken)
    → ((shared : Bool) (locals : List Name) → a ≡ told_of names (list_things shared locals ss))
    → ((locals : List Name) → b ≡ told_of names (statement_things locals s))
    → (shared : Bool) (locals : List Name) → sooner a b ≡ told_of names (list_things shared locals (ss ++ s ∷ []))
parts_more names ss s a b h k shared locals =
    ap (λ o. sooner o b) (h shared locals) ∙ ap (sooner (told_of names (list_things shared locals ss))) (k (all_behind shared locals ss))
    ∙ sym (ap (told_of names) (list_append shared locals ss s) ∙ of_append names (list_things shared locals ss) (statement_things (all_behind shared locals ss) s))

-- what a statement is, and what it is made of
abbrev kind_in : Statement-F Statement → StatementKind
kind_in (Statement-F.Node place what own values parts) = what

abbrev locals_in : Statement-F Statement → List Variable
locals_in (Statement-F.Node place what own values parts) = own

abbrev values_in : Statement-F Statement → List Value
values_in (Statement-F.Node place what own values parts) = values

abbrev inner_in : Statement-F Statement → List Statement
inner_in (Statement-F.Node place what own values parts) = parts

abbrev pub statement_kind : Statement → StatementKind
statement_kind s = kind_in (out-Statement s)

abbrev pub statement_locals : Statement → List Variable
statement_locals s = locals_in (out-Statement s)

abbrev pub statement_values : Statement → List Value
statement_values s = values_in (out-Statement s)

abbrev pub statement_parts : Statement → List Statement
statement_parts s = inner_in (out-Statement s)

list_of_row : (n : _) (row : Row_of-Statement n) → list_among row ≡ items-the_row-Statement n row
list_of_row n end_of-Statement = refl
list_of_row n (more_of-Statement s ss) = ap (λ ts. s ∷ ts) (list_of_row _ ss)

things_of_row : (n : _) (row : Row_of-Statement n) (shared : Bool) (locals : List Name) → parts_things shared locals row ≡ list_things shared locals (items-the_row-Statement n row)
things_of_row n end_of-Statement shared locals = refl
things_of_row n (more_of-Statement s ss) shared locals = ap (λ ts. statement_things locals s ++ ts) (things_of_row _ ss shared (behind shared locals s))

abbrev statement_row : Statement → (n : Count) × Row_of-Statement n
statement_row (statement.Node' place what own values _ row) = (_, row)

parts_of_node : (p : Place) (what : StatementKind) (own : List Variable) (vs : List Value) (ss : List Statement) → parts_of (statements.Node p what own vs ss) ≡ ss
parts_of_node p what own vs ss =
    let row = statement_row (statements.Node p what own vs ss) in
    list_of_row row.0 row.1 ∙ items_hidden-the_row-Statement-0 ss

parts_of_rolled : (w : Statement-F Statement) → parts_of (roll-Statement w) ≡ inner_in w
unfolding roll-Statement denote.Hole.Carrier.roll
parts_of_rolled (Statement-F.Node p what own vs ss) = parts_of_node p what own vs ss

pub parts_are : (s : Statement) → statement_parts s ≡ parts_of s
parts_are s = sym (ap parts_of (sym (roll-out-Statement s)) ∙ parts_of_rolled (out-Statement s))

-- what stands in a statement of these parts
abbrev made_of : List Name → StatementKind → List Variable → List Value → List Statement → List Thing
made_of locals what own vs ss = scopes_of (shares what) ss ++ (variables_things locals own ++ (flat_map value_things vs ++ list_things (shares what) locals ss))

things_of_statement_node : (locals : List Name) (p : Place) (what : StatementKind) (own : List Variable) (vs : List Value) (ss : List Statement)
    → statement_things locals (statements.Node p what own vs ss) ≡ made_of locals what own vs ss
things_of_statement_node locals p what own vs ss =
    let row = statement_row (statements.Node p what own vs ss) in
    ap (λ xs. scopes_of (shares what) xs ++ (variables_things locals own ++ (flat_map value_things vs ++ parts_things (shares what) locals row.1))) (parts_of_node p what own vs ss)
    ∙ ap (λ ts. scopes_of (shares what) ss ++ (variables_things locals own ++ (flat_map value_things vs ++ ts)))
    (things_of_row row.0 row.1 (shares what) locals ∙ ap (list_things (shares what) locals) (items_hidden-the_row-Statement-0 ss))

things_of_statement_rolled : (locals : List Name) (w : Statement-F Statement) → statement_things locals (roll-Statement w) ≡ made_of locals (kind_in w) (locals_in w) (values_in w) (inner_in w)
unfolding roll-Statement denote.Hole.Carrier.roll
things_of_statement_rolled locals (Statement-F.Node p what own vs ss) =
    things_of_statement_node locals p what own vs ss

things_of_statement : (s : Statement) (locals : List Name) → statement_things locals s ≡ made_of locals (statement_kind s) (statement_locals s) (statement_values s) (statement_parts s)
things_of_statement s locals = ap (statement_things locals) (sym (roll-out-Statement s)) ∙ things_of_statement_rolled locals (out-Statement s)

pub at_statement : (names : Names) (s : Statement) (shared : Bool) (own : List Variable) (vs : List Value) (ss us : List Statement) (r a b c d : Option Broken)
    → shared ≡ shares (statement_kind s) → own ≡ statement_locals s → vs ≡ statement_values s → ss ≡ statement_parts s → us ≡ statement_parts s
    → ((n : Names) → a ≡ told_of n (scopes_of shared ss))
    → ((locals : List Name) → b ≡ told_of names (variables_things locals own))
    → c ≡ told_of names (flat_map value_things vs)
    → ((shared : Bool) (locals : List Name) → d ≡ told_of names (list_things shared locals us))
    → r ≡ sooner a (sooner b (sooner c d))
    → (locals : List Name) → r ≡ told_of names (statement_things locals s)
at_statement names s shared own vs ss us r a b c d e1 e2 e3 e4 e5 h k l m t locals =
    let xs = scopes_of (shares (statement_kind s)) (statement_parts s) in
    let ys = variables_things locals (statement_locals s) in
    let zs = flat_map value_things (statement_values s) in
    let ws = list_things (shares (statement_kind s)) locals (statement_parts s) in
    t ∙ ap (λ x. sooner x (sooner b (sooner c d))) (h names ∙ ap (λ (w : Bool). told_of names (scopes_of w ss)) e1 ∙ ap (λ zz. told_of names (scopes_of (shares (statement_kind s)) zz)) e4)
    ∙ ap (sooner (told_of names xs)) (
    ap (λ x. sooner x (sooner c d)) (k locals ∙ ap (λ zz. told_of names (variables_things locals zz)) e2)
    ∙ ap (sooner (told_of names ys)) (
    ap (λ x. sooner x d) (l ∙ ap (λ zz. told_of names (flat_map value_things zz)) e3)
    ∙ ap (sooner (told_of names zs)) (m (shares (statement_kind s)) locals ∙ ap (λ zz. told_of names (list_things (shares (statement_kind s)) locals zz)) e5)
    ∙ sym (of_append names zs ws))
    ∙ sym (of_append names ys (zs ++ ws)))
    ∙ sym (of_append names xs (ys ++ (zs ++ ws)))
    ∙ sym (ap (told_of names) (things_of_statement s locals))

pub params_more : (names : Names) (qs : List Param) (q : Param) (a b : Option Broken)
    → ((locals : List Name) → a ≡ told_of names (variables_things locals (map param_variable qs))) → ((locals : List Name) → b ≡ told_of names (variable_things locals q.variable))
    → (locals : List Name) → sooner a b ≡ told_of names (variables_things locals (map param_variable (qs ++ q ∷ [])))
params_more names qs q a b h k locals =
    variables_more names (map param_variable qs) q.variable a b h k locals
    ∙ ap (λ vs. told_of names (variables_things locals vs)) (sym (map-append param_variable qs (q ∷ [])))

-- five stretches of things, one behind another
five : (names : Names) (ts us vs ws xs : List Thing) (r a b c d e : Option Broken)
    → a ≡ told_of names ts → b ≡ told_of names us → c ≡ told_of names vs → d ≡ told_of names ws → e ≡ told_of names xs
    → r ≡ sooner a (sooner b (sooner c (sooner d e))) → r ≡ told_of names (ts ++ (us ++ (vs ++ (ws ++ xs))))
five names ts us vs ws xs r a b c d e h k l m n s =
    s ∙ ap (λ x. sooner x (sooner b (sooner c (sooner d e)))) h
    ∙ ap (sooner (told_of names ts)) (
    ap (λ x. sooner x (sooner c (sooner d e))) k
    ∙ ap (sooner (told_of names us)) (
    ap (λ x. sooner x (sooner d e)) l
    ∙ ap (sooner (told_of names vs)) (
    ap (λ x. sooner x e) m ∙ ap (sooner (told_of names ws)) n ∙ sym (of_append names ws xs))
    ∙ sym (of_append names vs (ws ++ xs)))
    ∙ sym (of_append names us (vs ++ (ws ++ xs))))
    ∙ sym (of_append names ts (us ++ (vs ++ (ws ++ xs))))

pub whole_function : (names : Names) (f : Function) (parts : List Statement) (r a b c d e : Option Broken)
    → parts ≡ body_parts f.body
    → a ≡ told_of names (thing.function f ∷ []) → b ≡ told_of names (result_things f.result)
    → ((locals : List Name) → c ≡ told_of names (variables_things locals (map param_variable f.params)))
    → ((n : Names) → d ≡ told_of n (thing.scope (map variable_named (map param_variable f.params) ++ flat_map own_names (body_parts f.body)) ∷ []))
    → ((shared : Bool) (locals : List Name) → e ≡ told_of names (list_things shared locals parts))
    → r ≡ sooner a (sooner b (sooner c (sooner d e))) → r ≡ told_of names (function_things f)
whole_function names f parts r a b c d e p h k l m n s =
    five names (thing.function f ∷ []) (result_things f.result) (variables_things [] (map param_variable f.params))
    (thing.scope (map variable_named (map param_variable f.params) ++ flat_map own_names (body_parts f.body)) ∷ [])
    (list_things true (map variable_name (map param_variable f.params)) (body_parts f.body))
    r a b c d e h k (l []) (m names)
    (n true (map variable_name (map param_variable f.params)) ∙ ap (λ ss. told_of names (list_things true (map variable_name (map param_variable f.params)) ss)) p) s

pub at_names : {E : Type 0} (names : Names) (ns ms : List Named) (r : Result (Option Broken) E) → ns ≡ ms
    → IfOk r (λ b. (n : Names) → b ≡ told_of n (thing.scope ns ∷ [])) → IfOk r (λ b. b ≡ told_of names (thing.scope ms ∷ []))
at_names names ns ms (Ok b) e h = h names ∙ ap (λ xs. told_of names (thing.scope xs ∷ [])) e
at_names names ns ms (Err x) e h = h

pub whole_class : (names : Names) (c : Class) (r a b : Option Broken)
    → a ≡ told_of names (thing.scope (map (member_named names) c.members) ∷ []) → b ≡ told_of names (flat_map member_things c.members)
    → r ≡ sooner a b → r ≡ told_of names (class_things names c)
whole_class names c r a b h k s =
    s ∙ ap (λ x. sooner x b) h ∙ ap (sooner (told_of names (thing.scope (map (member_named names) c.members) ∷ []))) k
    ∙ sym (of_append names (thing.scope (map (member_named names) c.members) ∷ []) (flat_map member_things c.members))

pub whole_program : (names : Names) (s : Syntax) (r p a b : Option Broken)
    → p ≡ told_of names (thing.program s ∷ []) → a ≡ told_of names (thing.scope (flat_map (item_named names) s.items) ∷ []) → b ≡ told_of names (flat_map (item_things names) s.items)
    → r ≡ sooner p (sooner a b) → r ≡ told_of names (things_of names s)
whole_program names s r p a b g h k t =
    let ps = thing.program s ∷ [] in
    let ss = thing.scope (flat_map (item_named names) s.items) ∷ [] in
    let is = flat_map (item_things names) s.items in
    t ∙ ap (λ x. sooner x (sooner a b)) g
    ∙ ap (sooner (told_of names ps)) (ap (λ x. sooner x b) h ∙ ap (sooner (told_of names ss)) k ∙ sym (of_append names ss is))
    ∙ sym (of_append names ps (ss ++ is))
