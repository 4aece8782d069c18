-- What is told of things by a rule, in parts.
use Rattle.std.proofs.Common.{◌≡◌, Bool, true, false, List, [], ◌∷◌, ◌++◌, map, length, take, Option, Some, None, refl, sym, ap, ◌∙◌}
use Rattle.std.specs.List.{flat_map}
use Rattle.std.proofs.lemmas.Grind.{flat_map-append}
use Rattle.std.proofs.lemmas.List.{append-nil, append_assoc, map-append}
use Rattle.mql_syntax.specs.declared.value.TypeUse.{TypeUse}
use Rattle.mql_syntax.specs.declared.kind.Place.{Place}
use Rattle.mql_syntax.specs.declared.kind.StatementKind.{StatementKind}
use Rattle.mql_syntax.specs.declared.value.Operation.{Operation}
use Rattle.mql_syntax.specs.declared.value.Value as value
use Rattle.mql_syntax.specs.declared.value.Value.{Value, out-Value, roll-Value, roll-out-Value, Row_of-Value, end_of-Value, more_of-Value, items-the_row-Value, items_hidden-the_row-Value-0}
use Rattle.mql_syntax.specs.declared.value.Value.TheOpen.{Value-F}
use Rattle.mql_syntax.specs.declared.value.Value.TheVariants as values
use Rattle.mql_syntax.specs.declared.statement.Statement as statement
use Rattle.mql_syntax.specs.declared.statement.Statement.{Statement, out-Statement, roll-Statement, roll-out-Statement, Row_of-Statement, end_of-Statement, more_of-Statement, items-the_row-Statement, items_hidden-the_row-Statement-0}
use Rattle.mql_syntax.specs.declared.statement.Statement.TheOpen.{Statement-F}
use Rattle.mql_syntax.specs.declared.statement.Statement.TheVariants as statements
use Rattle.mql_syntax.specs.declared.declaration.Variable.{Variable}
use Rattle.mql_syntax.specs.declared.declaration.Function.{Function}
use Rattle.mql_syntax.specs.declared.declaration.Param.{Param}
use mathlib.Core.Former.{Count}
use denote.Hole.Carrier.{roll}
use Rattle.mql_names.specs.declared.fault.Broken.{Broken}
use Rattle.mql_names.specs.Faults.{told, sooner}
use Rattle.mql_names.specs.Scopes.{Name}
use Rattle.mql_names.specs.Things.{variable_name, local_names, param_variable, shares, behind, body_parts}
use Rattle.mql_names.proofs.Faults.{told_append}
use Rattle.mql_walk.specs.Things.{Thing, told_by, value_things, row_things, dimension_things, start_things, variable_things, variables_things, statement_things, parts_things, list_things, all_behind, result_things, function_things}
use Rattle.mql_walk.specs.Things as thing

abbrev pub Rule : Type 0
Rule = Thing → List Broken

pub of_append : (rule : Rule) (xs ys : List Thing) → told_by rule (xs ++ ys) ≡ sooner (told_by rule xs) (told_by rule ys)
of_append rule xs ys = ap told (flat_map-append rule xs ys) ∙ told_append (flat_map rule xs) (flat_map rule ys)

pub one_thing : (rule : Rule) (t : Thing) → told_by rule (t ∷ []) ≡ told (rule t)
one_thing rule t = ap told (append-nil (rule t))

pub at_type : (rule : Rule) (t : TypeUse) (r : Option Broken) → r ≡ told (rule (thing.type t)) → r ≡ told_by rule (thing.type t ∷ [])
at_type rule t r h = h ∙ sym (one_thing rule (thing.type t))

-- a thing, and what stands in it
pub behind_one : (rule : Rule) (t : Thing) (ts : List Thing) (r a b : Option Broken) → a ≡ told (rule t) → b ≡ told_by rule ts → r ≡ sooner a b → r ≡ told_by rule (t ∷ ts)
behind_one rule t ts r a b h k s =
    s ∙ ap (λ x. sooner x b) (h ∙ sym (one_thing rule t)) ∙ ap (sooner (told_by rule (t ∷ []))) k ∙ sym (of_append rule (t ∷ []) ts)

-- one stretch behind another
pub behind_all : (rule : Rule) (ts us : List Thing) (r a b : Option Broken) → a ≡ told_by rule ts → b ≡ told_by rule us → r ≡ sooner a b → r ≡ told_by rule (ts ++ us)
behind_all rule ts us r a b h k s =
    s ∙ ap (λ x. sooner x b) h ∙ ap (sooner (told_by rule ts)) k ∙ sym (of_append rule ts us)

-- one more of a list
pub each_more : {A : Type 0} (rule : Rule) (g : A → List Thing) (xs : List A) (x : A) (a b : Option Broken)
    → a ≡ told_by rule (flat_map g xs) → b ≡ told_by rule (g x) → sooner a b ≡ told_by rule (flat_map g (xs ++ x ∷ []))
each_more rule g xs x a b h k =
    behind_all rule (flat_map g xs) (g x) (sooner a b) a b h k refl
    ∙ ap (told_by rule) (sym (flat_map-append g xs (x ∷ []) ∙ ap (λ ys. flat_map g xs ++ ys) (append-nil (g x))))

pub types_more : (rule : Rule) (xs : List TypeUse) (x : TypeUse) (a b : Option Broken)
    → a ≡ told_by rule (map thing.type xs) → b ≡ told_by rule (thing.type x ∷ []) → sooner a b ≡ told_by rule (map thing.type (xs ++ x ∷ []))
types_more rule xs x a b h k =
    behind_all rule (map thing.type xs) (thing.type x ∷ []) (sooner a b) a b h k refl
    ∙ ap (told_by rule) (sym (map-append thing.type xs (x ∷ [])))

list_of_values : (n : _) (locals : List Name) (row : Row_of-Value n) → row_things locals row ≡ flat_map (value_things locals) (items-the_row-Value n row)
list_of_values n locals end_of-Value = refl
list_of_values n locals (more_of-Value v vs) = ap (λ ts. value_things locals v ++ ts) (list_of_values _ locals vs)

-- what a value is made of
abbrev place_in : Value-F Value → Place
place_in (Value-F.Node place what types parts) = place

abbrev what_in : Value-F Value → Operation
what_in (Value-F.Node place what types parts) = what

abbrev types_in : Value-F Value → List TypeUse
types_in (Value-F.Node place what types parts) = types

abbrev parts_in : Value-F Value → List Value
parts_in (Value-F.Node place what types parts) = parts

abbrev pub value_place : Value → Place
value_place v = place_in (out-Value v)

abbrev pub value_what : Value → Operation
value_what v = what_in (out-Value v)

abbrev pub value_types : Value → List TypeUse
value_types v = types_in (out-Value v)

abbrev pub value_parts : Value → List Value
value_parts v = parts_in (out-Value v)

abbrev value_row : Value → (n : Count) × Row_of-Value n
value_row (value.Node' place what types _ row) = (_, row)

abbrev made_value : List Name → Place → Operation → List TypeUse → List Value → List Thing
made_value locals p o types parts = thing.value locals p o ∷ (map thing.type types ++ flat_map (value_things locals) parts)

things_of_node : (locals : List Name) (p : Place) (o : Operation) (types : List TypeUse) (parts : List Value)
    → value_things locals (values.Node p o types parts) ≡ made_value locals p o types parts
things_of_node locals p o types parts =
    let row = value_row (values.Node p o types parts) in
    ap (λ ts. thing.value locals p o ∷ (map thing.type types ++ ts)) (list_of_values row.0 locals row.1 ∙ ap (flat_map (value_things locals)) (items_hidden-the_row-Value-0 parts))

things_of_rolled : (locals : List Name) (w : Value-F Value) → value_things locals (roll-Value w) ≡ made_value locals (place_in w) (what_in w) (types_in w) (parts_in w)
unfolding roll-Value denote.Hole.Carrier.roll
things_of_rolled locals (Value-F.Node p o types parts) = things_of_node locals p o types parts

things_of_value : (locals : List Name) (v : Value) → value_things locals v ≡ made_value locals (value_place v) (value_what v) (value_types v) (value_parts v)
things_of_value locals v = ap (value_things locals) (sym (roll-out-Value v)) ∙ things_of_rolled locals (out-Value v)

pub at_value : (rule : Rule) (locals : List Name) (v : Value) (p : Place) (o : Operation) (types : List TypeUse) (parts : List Value) (r a b c : Option Broken)
    → p ≡ value_place v → o ≡ value_what v → types ≡ value_types v → parts ≡ value_parts v
    → a ≡ told (rule (thing.value locals p o)) → b ≡ told_by rule (map thing.type types) → c ≡ told_by rule (flat_map (value_things locals) parts)
    → r ≡ sooner a (sooner b c) → r ≡ told_by rule (value_things locals v)
at_value rule locals v p o types parts r a b c e1 e2 e3 e4 h k l s =
    behind_one rule (thing.value locals p o) (map thing.type types ++ flat_map (value_things locals) parts) r a (sooner b c)
    h (behind_all rule (map thing.type types) (flat_map (value_things locals) parts) (sooner b c) b c k l refl) s
    ∙ ap (told_by rule) (
    ap (λ x. made_value locals x o types parts) e1 ∙ ap (λ x. made_value locals (value_place v) x types parts) e2
    ∙ ap (λ x. made_value locals (value_place v) (value_what v) x parts) e3 ∙ ap (made_value locals (value_place v) (value_what v) (value_types v)) e4
    ∙ sym (things_of_value locals v))

pub whole_variable : (rule : Rule) (locals : List Name) (v : Variable) (r a b c d : Option Broken)
    → a ≡ told_by rule (thing.type v.of ∷ []) → b ≡ told (rule (thing.variable locals v))
    → c ≡ told_by rule (flat_map (dimension_things locals) v.dimensions) → d ≡ told_by rule (start_things locals v.start)
    → r ≡ sooner a (sooner b (sooner c d)) → r ≡ told_by rule (variable_things locals v)
whole_variable rule locals v r a b c d h k l m s =
    behind_all rule (thing.type v.of ∷ []) (thing.variable locals v ∷ (flat_map (dimension_things locals) v.dimensions ++ start_things locals v.start)) r a (sooner b (sooner c d)) h
    (behind_one rule (thing.variable locals v) (flat_map (dimension_things locals) v.dimensions ++ start_things locals v.start) (sooner b (sooner c d)) b (sooner c d) k
    (behind_all rule (flat_map (dimension_things locals) v.dimensions) (start_things locals v.start) (sooner c d) c d l m refl) refl) s

-- one more variable
variables_append : (locals : List Name) (vs : List Variable) (v : Variable)
    → variables_things locals (vs ++ v ∷ []) ≡ variables_things locals vs ++ variable_things (locals ++ map variable_name vs) v
variables_append locals [] v = append-nil (variable_things locals v) ∙ ap (λ ls. variable_things ls v) (sym (append-nil locals))
variables_append locals (w ∷ vs) v =
    ap (λ ts. variable_things locals w ++ ts) (variables_append (locals ++ w.name ∷ []) vs v)
    ∙ sym (append_assoc (variable_things locals w) (variables_things (locals ++ w.name ∷ []) vs) (variable_things ((locals ++ w.name ∷ []) ++ map variable_name vs) v))
    ∙ ap (λ ls. (variable_things locals w ++ variables_things (locals ++ w.name ∷ []) vs) ++ variable_things ls v) (append_assoc locals (w.name ∷ []) (map variable_name vs))

pub variables_more : (rule : Rule) (locals inner : List Name) (vs : List Variable) (v : Variable) (a b : Option Broken)
    → inner ≡ locals ++ map variable_name vs → a ≡ told_by rule (variables_things locals vs) → b ≡ told_by rule (variable_things inner v)
    → sooner a b ≡ told_by rule (variables_things locals (vs ++ v ∷ []))
variables_more rule locals inner vs v a b e h k =
    behind_all rule (variables_things locals vs) (variable_things (locals ++ map variable_name vs) v) (sooner a b) a b h (k ∙ ap (λ ls. told_by rule (variable_things ls v)) e) refl
    ∙ ap (told_by rule) (sym (variables_append locals vs v))

pub names_more : (locals : List Name) (vs : List Variable) (v : Variable)
    → (locals ++ map variable_name vs) ++ variable_name v ∷ [] ≡ locals ++ map variable_name (vs ++ v ∷ [])
names_more locals vs v = append_assoc locals (map variable_name vs) (variable_name v ∷ []) ∙ ap (λ xs. locals ++ xs) (sym (map-append variable_name vs (v ∷ [])))

pub params_more : (rule : Rule) (inner : List Name) (qs : List Param) (q : Param) (a b : Option Broken)
    → inner ≡ map variable_name (map param_variable qs) → a ≡ told_by rule (variables_things [] (map param_variable qs)) → b ≡ told_by rule (variable_things inner q.variable)
    → sooner a b ≡ told_by rule (variables_things [] (map param_variable (qs ++ q ∷ [])))
params_more rule inner qs q a b e h k =
    variables_more rule [] inner (map param_variable qs) q.variable a b e h k
    ∙ ap (λ vs. told_by rule (variables_things [] vs)) (sym (map-append param_variable qs (q ∷ [])))

pub param_names_more : (qs : List Param) (q : Param)
    → map variable_name (map param_variable qs) ++ variable_name (param_variable q) ∷ [] ≡ map variable_name (map param_variable (qs ++ q ∷ []))
param_names_more qs q =
    names_more [] (map param_variable qs) q.variable ∙ ap (map variable_name) (sym (map-append param_variable qs (q ∷ [])))

-- one more statement
list_append : (shared : Bool) (locals : List Name) (ss : List Statement) (s : Statement)
    → list_things shared locals (ss ++ s ∷ []) ≡ list_things shared locals ss ++ statement_things (all_behind shared locals ss) s
list_append shared locals [] s = append-nil (statement_things locals s)
list_append shared locals (t ∷ ss) s =
    ap (λ ts. statement_things locals t ++ ts) (list_append shared (behind shared locals t) ss s)
    ∙ sym (append_assoc (statement_things locals t) (list_things shared (behind shared locals t) ss) (statement_things (all_behind shared (behind shared locals t) ss) s))

pub parts_more : (rule : Rule) (shared : Bool) (locals inner : List Name) (ss : List Statement) (s : Statement) (a b : Option Broken)
    → inner ≡ all_behind shared locals ss → a ≡ told_by rule (list_things shared locals ss) → b ≡ told_by rule (statement_things inner s)
    → sooner a b ≡ told_by rule (list_things shared locals (ss ++ s ∷ []))
parts_more rule shared locals inner ss s a b e h k =
    behind_all rule (list_things shared locals ss) (statement_things (all_behind shared locals ss) s) (sooner a b) a b h (k ∙ ap (λ ls. told_by rule (statement_things ls s)) e) refl
    ∙ ap (told_by rule) (sym (list_append shared locals ss s))

pub behind_more : (shared : Bool) (locals : List Name) (ss : List Statement) (s : Statement) → behind shared (all_behind shared locals ss) s ≡ all_behind shared locals (ss ++ s ∷ [])
behind_more shared locals [] s = refl
behind_more shared locals (t ∷ ss) s = behind_more shared (behind shared locals t) ss s

-- behind a list the names in force before it are the first
abbrev added : Bool → Statement → List Name
added true s = local_names s
added false s = []

added_behind : (shared : Bool) (locals : List Name) (s : Statement) → behind shared locals s ≡ locals ++ added shared s
added_behind true locals s = refl
added_behind false locals s = sym (append-nil locals)

all_added : (shared : Bool) (locals : List Name) (ss : List Statement) → all_behind shared locals ss ≡ locals ++ flat_map (added shared) ss
all_added shared locals [] = sym (append-nil locals)
all_added shared locals (s ∷ ss) =
    all_added shared (behind shared locals s) ss ∙ ap (λ ls. ls ++ flat_map (added shared) ss) (added_behind shared locals s)
    ∙ append_assoc locals (added shared s) (flat_map (added shared) ss)

take_all : (xs ys : List Name) → take (length xs) (xs ++ ys) ≡ xs
take_all [] ys = refl
take_all (x ∷ xs) ys = ap (λ zs. x ∷ zs) (take_all xs ys)

pub front_stays : (shared : Bool) (locals : List Name) (ss : List Statement) → take (length locals) (all_behind shared locals ss) ≡ locals
front_stays shared locals ss = ap (take (length locals)) (all_added shared locals ss) ∙ take_all locals (flat_map (added shared) ss)

pub front_of_variables : (locals : List Name) (vs : List Variable) → take (length locals) (locals ++ map variable_name vs) ≡ locals
front_of_variables locals vs = take_all locals (map variable_name vs)

-- what a statement is, and what it is made of
abbrev s_place_in : Statement-F Statement → Place
s_place_in (Statement-F.Node place what own values parts) = place

abbrev kind_in : Statement-F Statement → StatementKind
kind_in (Statement-F.Node place what own values parts) = what

abbrev locals_in : Statement-F Statement → List Variable
locals_in (Statement-F.Node place what own values parts) = own

abbrev values_in : Statement-F Statement → List Value
values_in (Statement-F.Node place what own values parts) = values

abbrev inner_in : Statement-F Statement → List Statement
inner_in (Statement-F.Node place what own values parts) = parts

abbrev pub statement_place : Statement → Place
statement_place s = s_place_in (out-Statement s)

abbrev pub statement_kind : Statement → StatementKind
statement_kind s = kind_in (out-Statement s)

abbrev pub statement_locals : Statement → List Variable
statement_locals s = locals_in (out-Statement s)

abbrev pub statement_values : Statement → List Value
statement_values s = values_in (out-Statement s)

abbrev pub statement_parts : Statement → List Statement
statement_parts s = inner_in (out-Statement s)

things_of_row : (n : _) (row : Row_of-Statement n) (shared : Bool) (locals : List Name) → parts_things shared locals row ≡ list_things shared locals (items-the_row-Statement n row)
things_of_row n end_of-Statement shared locals = refl
things_of_row n (more_of-Statement s ss) shared locals = ap (λ ts. statement_things locals s ++ ts) (things_of_row _ ss shared (behind shared locals s))

abbrev statement_row : Statement → (n : Count) × Row_of-Statement n
statement_row (statement.Node' place what own values _ row) = (_, row)

abbrev made_of : List Name → Place → StatementKind → List Variable → List Value → List Statement → List Thing
made_of locals p what own vs ss = thing.statement p what ∷ (variables_things locals own ++ (flat_map (value_things locals) vs ++ list_things (shares what) locals ss))

things_of_statement_node : (locals : List Name) (p : Place) (what : StatementKind) (own : List Variable) (vs : List Value) (ss : List Statement)
    → statement_things locals (statements.Node p what own vs ss) ≡ made_of locals p what own vs ss
things_of_statement_node locals p what own vs ss =
    let row = statement_row (statements.Node p what own vs ss) in
    ap (λ ts. thing.statement p what ∷ (variables_things locals own ++ (flat_map (value_things locals) vs ++ ts)))
    (things_of_row row.0 row.1 (shares what) locals ∙ ap (list_things (shares what) locals) (items_hidden-the_row-Statement-0 ss))

things_of_statement_rolled : (locals : List Name) (w : Statement-F Statement)
    → statement_things locals (roll-Statement w) ≡ made_of locals (s_place_in w) (kind_in w) (locals_in w) (values_in w) (inner_in w)
unfolding roll-Statement denote.Hole.Carrier.roll
things_of_statement_rolled locals (Statement-F.Node p what own vs ss) = things_of_statement_node locals p what own vs ss

pub things_of_statement : (s : Statement) (locals : List Name)
    → statement_things locals s ≡ made_of locals (statement_place s) (statement_kind s) (statement_locals s) (statement_values s) (statement_parts s)
things_of_statement s locals = ap (statement_things locals) (sym (roll-out-Statement s)) ∙ things_of_statement_rolled locals (out-Statement s)

pub at_statement : (rule : Rule) (locals : List Name) (s : Statement) (p : Place) (what : StatementKind) (shared : Bool) (own : List Variable) (vs : List Value) (ss : List Statement) (r a b c d : Option Broken)
    → p ≡ statement_place s → what ≡ statement_kind s → shared ≡ shares what → own ≡ statement_locals s → vs ≡ statement_values s → ss ≡ statement_parts s
    → a ≡ told (rule (thing.statement p what)) → b ≡ told_by rule (variables_things locals own) → c ≡ told_by rule (flat_map (value_things locals) vs)
    → d ≡ told_by rule (list_things shared locals ss) → r ≡ sooner a (sooner b (sooner c d)) → r ≡ told_by rule (statement_things locals s)
at_statement rule locals s p what shared own vs ss r a b c d e1 e2 e3 e4 e5 e6 h k l m t =
    let d1 = m ∙ ap (λ (w : Bool). told_by rule (list_things w locals ss)) e3 in
    behind_one rule (thing.statement p what) (variables_things locals own ++ (flat_map (value_things locals) vs ++ list_things (shares what) locals ss)) r a (sooner b (sooner c d)) h
    (behind_all rule (variables_things locals own) (flat_map (value_things locals) vs ++ list_things (shares what) locals ss) (sooner b (sooner c d)) b (sooner c d) k
    (behind_all rule (flat_map (value_things locals) vs) (list_things (shares what) locals ss) (sooner c d) c d l d1 refl) refl) t
    ∙ ap (told_by rule) (
    ap (λ x. made_of locals x what own vs ss) e1 ∙ ap (λ x. made_of locals (statement_place s) x own vs ss) e2
    ∙ ap (λ x. made_of locals (statement_place s) (statement_kind s) x vs ss) e4 ∙ ap (λ x. made_of locals (statement_place s) (statement_kind s) (statement_locals s) x ss) e5
    ∙ ap (made_of locals (statement_place s) (statement_kind s) (statement_locals s) (statement_values s)) e6
    ∙ sym (things_of_statement s locals))

pub whole_function : (rule : Rule) (f : Function) (locals : List Name) (ss : List Statement) (r a b c d : Option Broken)
    → a ≡ told (rule (thing.function f)) → b ≡ told_by rule (result_things f.result)
    → c ≡ told_by rule (variables_things [] (map param_variable f.params)) → locals ≡ map variable_name (map param_variable f.params) → ss ≡ body_parts f.body
    → d ≡ told_by rule (list_things true locals ss) → r ≡ sooner a (sooner b (sooner c d)) → r ≡ told_by rule (function_things f)
whole_function rule f locals ss r a b c d h k l e1 e2 m t =
    let vs = map param_variable f.params in
    let d1 = m ∙ ap (λ ls. told_by rule (list_things true ls ss)) e1 ∙ ap (λ xs. told_by rule (list_things true (map variable_name vs) xs)) e2 in
    behind_one rule (thing.function f) (result_things f.result ++ (variables_things [] vs ++ list_things true (map variable_name vs) (body_parts f.body))) r a (sooner b (sooner c d)) h
    (behind_all rule (result_things f.result) (variables_things [] vs ++ list_things true (map variable_name vs) (body_parts f.body)) (sooner b (sooner c d)) b (sooner c d) k
    (behind_all rule (variables_things [] vs) (list_things true (map variable_name vs) (body_parts f.body)) (sooner c d) c d l d1 refl) refl) t
