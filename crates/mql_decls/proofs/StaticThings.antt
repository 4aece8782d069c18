-- The static variables among what is written in a function.
use Rattle.std.proofs.Common.{◌≡◌, ℕ, Bool, true, List, [], ◌∷◌, ◌++◌, map, Option, Some, None, refl, sym, ap, ◌∙◌}
use Rattle.std.specs.List.{flat_map}
use Rattle.std.proofs.lemmas.Grind.{flat_map-append}
use Rattle.std.proofs.lemmas.List.{append-nil, append_assoc}
use Rattle.mql_syntax.specs.declared.value.TypeUse.{TypeUse}
use Rattle.mql_syntax.specs.declared.value.Value.{Value, Node', Row_of-Value, end_of-Value, more_of-Value}
use Rattle.mql_syntax.specs.declared.statement.Statement.{Statement}
use Rattle.mql_syntax.specs.declared.declaration.Dimension.{Dimension}
use Rattle.mql_syntax.specs.declared.declaration.Dimension.TheVariants.{Open, Size}
use Rattle.mql_syntax.specs.declared.declaration.Start.{Start}
use Rattle.mql_syntax.specs.declared.declaration.Start.TheVariants as start
use Rattle.mql_syntax.specs.declared.declaration.Variable.{Variable}
use Rattle.mql_syntax.specs.declared.declaration.Param.{Param}
use Rattle.mql_syntax.specs.declared.declaration.Function.{Function}
use Rattle.mql_names.specs.Scopes.{Name}
use Rattle.mql_names.specs.Types.{Names}
use Rattle.mql_names.specs.Things.{variable_name, param_variable, shares, behind, body_parts}
use Rattle.mql_walk.specs.Things.{Thing, value_things, row_things, dimension_things, start_things, variable_things, variables_things, statement_things, list_things, all_behind, result_things, function_things}
use Rattle.mql_walk.specs.Things as thing
use Rattle.mql_walk.proofs.Joined.{things_of_statement, statement_kind, statement_locals, statement_values, statement_parts}
use Rattle.mql_sizes.specs.Members.{Values}
use Rattle.mql_decls.specs.declared.forms.StaticForm.{StaticForm}
use Rattle.mql_decls.specs.Declarations.{static_in}

-- the names of variables and of parameters, one after another
pub name_more : (vs rest : List Variable) (v : Variable) (locals inner all : List Name) → vs ≡ v ∷ rest → inner ≡ locals ++ variable_name v ∷ []
    → locals ++ map variable_name vs ≡ all → inner ++ map variable_name rest ≡ all
name_more vs rest v locals inner all e m done =
    ap (λ xs. xs ++ map variable_name rest) m ∙ append_assoc locals (variable_name v ∷ []) (map variable_name rest)
    ∙ ap (λ xs. locals ++ map variable_name xs) (sym e) ∙ done

pub names_done : (vs : List Variable) (locals all : List Name) → vs ≡ [] → locals ++ map variable_name vs ≡ all → locals ≡ all
names_done vs locals all e done = sym (append-nil locals) ∙ ap (λ xs. locals ++ map variable_name xs) (sym e) ∙ done

pub behind_more : (shared : Bool) (ss rest : List Statement) (s : Statement) (locals inner all : List Name) → ss ≡ s ∷ rest → inner ≡ behind shared locals s
    → all_behind shared locals ss ≡ all → all_behind shared inner rest ≡ all
behind_more shared ss rest s locals inner all e m done =
    ap (λ ls. all_behind shared ls rest) m ∙ ap (all_behind shared locals) (sym e) ∙ done

module _ (names : Names) (values : Values) (n : ℕ) (key : Name) where
  abbrev found_in : Thing → List StaticForm
  found_in = static_in names values n key

  abbrev among : List Thing → List StaticForm
  among ts = flat_map found_in ts

  -- a stretch with none is left out
  none_before : (xs ys : List Thing) → among xs ≡ [] → among (xs ++ ys) ≡ among ys
  none_before xs ys h = flat_map-append found_in xs ys ∙ ap (λ zs. zs ++ among ys) h

  none_in_types : (ts : List TypeUse) → among (map thing.type ts) ≡ []
  none_in_types [] = refl
  none_in_types (t ∷ ts) = none_in_types ts

  mutual
    none_in_value : (locals : List Name) (v : Value) → among (value_things locals v) ≡ []
    none_in_value locals (Node' place what types m row) =
        none_before (map thing.type types) (row_things locals row) (none_in_types types) ∙ none_in_row locals row

    none_in_row : (locals : List Name) {m : _} (row : Row_of-Value m) → among (row_things locals row) ≡ []
    none_in_row locals end_of-Value = refl
    none_in_row locals (more_of-Value v vs) =
        none_before (value_things locals v) (row_things locals vs) (none_in_value locals v) ∙ none_in_row locals vs

  none_in_values : (locals : List Name) (vs : List Value) → among (flat_map (value_things locals) vs) ≡ []
  none_in_values locals [] = refl
  none_in_values locals (v ∷ vs) =
      none_before (value_things locals v) (flat_map (value_things locals) vs) (none_in_value locals v) ∙ none_in_values locals vs

  none_in_dimension : (locals : List Name) (d : Dimension) → among (dimension_things locals d) ≡ []
  none_in_dimension locals Open = refl
  none_in_dimension locals (Size v) = none_in_value locals v

  none_in_dimensions : (locals : List Name) (ds : List Dimension) → among (flat_map (dimension_things locals) ds) ≡ []
  none_in_dimensions locals [] = refl
  none_in_dimensions locals (d ∷ ds) =
      none_before (dimension_things locals d) (flat_map (dimension_things locals) ds) (none_in_dimension locals d) ∙ none_in_dimensions locals ds

  none_in_start : (locals : List Name) (s : Start) → among (start_things locals s) ≡ []
  none_in_start locals start.Zero = refl
  none_in_start locals (start.Value v) = none_in_value locals v
  none_in_start locals (start.Arguments vs) = none_in_values locals vs

  none_in_result : (o : Option TypeUse) → among (result_things o) ≡ []
  none_in_result None = refl
  none_in_result (Some t) = refl

  at_variable : (locals : List Name) (v : Variable) → among (variable_things locals v) ≡ found_in (thing.variable locals v)
  at_variable locals v =
      ap (λ xs. found_in (thing.variable locals v) ++ xs)
      (none_before (flat_map (dimension_things locals) v.dimensions) (start_things locals v.start) (none_in_dimensions locals v.dimensions) ∙ none_in_start locals v.start)
      ∙ append-nil (found_in (thing.variable locals v))

  variables_first : (locals : List Name) (v : Variable) (vs : List Variable)
      → among (variables_things locals (v ∷ vs)) ≡ found_in (thing.variable locals v) ++ among (variables_things (locals ++ v.name ∷ []) vs)
  variables_first locals v vs =
      flat_map-append found_in (variable_things locals v) (variables_things (locals ++ v.name ∷ []) vs)
      ∙ ap (λ xs. xs ++ among (variables_things (locals ++ v.name ∷ []) vs)) (at_variable locals v)

  -- one more variable
  pub variable_more : (vs rest : List Variable) (v : Variable) (locals inner : List Name) (found new all : List StaticForm)
      → vs ≡ v ∷ rest → new ≡ found ++ found_in (thing.variable locals v) → inner ≡ locals ++ v.name ∷ []
      → found ++ among (variables_things locals vs) ≡ all → new ++ among (variables_things inner rest) ≡ all
  variable_more vs rest v locals inner found new all e k m done =
      ap (λ xs. xs ++ among (variables_things inner rest)) k
      ∙ append_assoc found (found_in (thing.variable locals v)) (among (variables_things inner rest))
      ∙ ap (λ ls. found ++ (found_in (thing.variable locals v) ++ among (variables_things ls rest))) m
      ∙ ap (λ xs. found ++ xs) (sym (variables_first locals v rest))
      ∙ ap (λ xs. found ++ among (variables_things locals xs)) (sym e) ∙ done

  -- one more statement
  pub statement_more : (shared : Bool) (ss rest : List Statement) (s : Statement) (locals inner : List Name) (found new all : List StaticForm)
      → ss ≡ s ∷ rest → new ≡ found ++ among (statement_things locals s) → inner ≡ behind shared locals s
      → found ++ among (list_things shared locals ss) ≡ all → new ++ among (list_things shared inner rest) ≡ all
  statement_more shared ss rest s locals inner found new all e k m done =
      ap (λ xs. xs ++ among (list_things shared inner rest)) k
      ∙ append_assoc found (among (statement_things locals s)) (among (list_things shared inner rest))
      ∙ ap (λ ls. found ++ (among (statement_things locals s) ++ among (list_things shared ls rest))) m
      ∙ ap (λ xs. found ++ xs) (sym (flat_map-append found_in (statement_things locals s) (list_things shared (behind shared locals s) rest)))
      ∙ ap (λ xs. found ++ among (list_things shared locals xs)) (sym e) ∙ done

  pub variables_done : (vs : List Variable) (locals : List Name) (found all : List StaticForm) → vs ≡ [] → found ++ among (variables_things locals vs) ≡ all → found ≡ all
  variables_done vs locals found all e done = sym (append-nil found) ∙ ap (λ xs. found ++ among (variables_things locals xs)) (sym e) ∙ done

  pub statements_done : (shared : Bool) (ss : List Statement) (locals : List Name) (found all : List StaticForm) → ss ≡ [] → found ++ among (list_things shared locals ss) ≡ all → found ≡ all
  statements_done shared ss locals found all e done = sym (append-nil found) ∙ ap (λ xs. found ++ among (list_things shared locals xs)) (sym e) ∙ done

  -- the static variables of a statement: its own, and those of its parts
  in_statement : (locals : List Name) (s : Statement)
      → among (statement_things locals s) ≡ among (variables_things locals (statement_locals s)) ++ among (list_things (shares (statement_kind s)) locals (statement_parts s))
  in_statement locals s =
      let own = variables_things locals (statement_locals s) in
      let inner = flat_map (value_things locals) (statement_values s) in
      let rest = list_things (shares (statement_kind s)) locals (statement_parts s) in
      ap among (things_of_statement s locals)
      ∙ flat_map-append found_in own (inner ++ rest)
      ∙ ap (λ xs. among own ++ xs) (none_before inner rest (none_in_values locals (statement_values s)))

  in_function : (f : Function)
      → among (function_things f) ≡ among (variables_things [] (map param_variable f.params)) ++ among (list_things true (map variable_name (map param_variable f.params)) (body_parts f.body))
  in_function f =
      let own = variables_things [] (map param_variable f.params) in
      let rest = list_things true (map variable_name (map param_variable f.params)) (body_parts f.body) in
      none_before (result_things f.result) (own ++ rest) (none_in_result f.result) ∙ flat_map-append found_in own rest

  pub whole_statement : (s : Statement) (locals ls : List Name) (found own all : List StaticForm) (vs : List Variable) (shared : Bool) (ss : List Statement)
      → vs ≡ statement_locals s → shared ≡ shares (statement_kind s) → ls ≡ locals → ss ≡ statement_parts s
      → own ≡ found ++ among (variables_things locals vs) → all ≡ own ++ among (list_things shared ls ss) → all ≡ found ++ among (statement_things locals s)
  whole_statement s locals ls found own all vs shared ss e1 e2 e3 e4 h k =
      k ∙ ap (λ xs. xs ++ among (list_things shared ls ss)) h
      ∙ append_assoc found (among (variables_things locals vs)) (among (list_things shared ls ss))
      ∙ ap (λ xs. found ++ (among (variables_things locals xs) ++ among (list_things shared ls ss))) e1
      ∙ ap (λ b. found ++ (among (variables_things locals (statement_locals s)) ++ among (list_things b ls ss))) e2
      ∙ ap (λ xs. found ++ (among (variables_things locals (statement_locals s)) ++ among (list_things (shares (statement_kind s)) xs ss))) e3
      ∙ ap (λ xs. found ++ (among (variables_things locals (statement_locals s)) ++ among (list_things (shares (statement_kind s)) locals xs))) e4
      ∙ ap (λ xs. found ++ xs) (sym (in_statement locals s))

  pub whole_function : (f : Function) (locals : List Name) (found own all : List StaticForm) (qs : List Param) (ss : List Statement)
      → qs ≡ f.params → locals ≡ map variable_name (map param_variable qs) → ss ≡ body_parts f.body
      → own ≡ found ++ among (variables_things [] (map param_variable qs)) → all ≡ own ++ among (list_things true locals ss) → all ≡ found ++ among (function_things f)
  whole_function f locals found own all qs ss e1 e2 e3 h k =
      k ∙ ap (λ xs. xs ++ among (list_things true locals ss)) h
      ∙ append_assoc found (among (variables_things [] (map param_variable qs))) (among (list_things true locals ss))
      ∙ ap (λ xs. found ++ (among (variables_things [] (map param_variable qs)) ++ among (list_things true xs ss))) e2
      ∙ ap (λ xs. found ++ (among (variables_things [] (map param_variable xs)) ++ among (list_things true (map variable_name (map param_variable xs)) ss))) e1
      ∙ ap (λ xs. found ++ (among (variables_things [] (map param_variable f.params)) ++ among (list_things true (map variable_name (map param_variable f.params)) xs))) e3
      ∙ ap (λ xs. found ++ xs) (sym (in_function f))
