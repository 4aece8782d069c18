-- The named parts of statements are there on all parts that their forms have.
use Rattle.std.proofs.Common.{◌≡◌, ℕ, Bool, true, false, List, [], ◌∷◌, map, take, drop, Option, Some, None, is_some, refl, sym, ap, subst, ◌∙◌, ◌⊎◌, inl, inr, if◌then◌else◌}
use Rattle.std.specs.Prelude.{option_map}
use Rattle.mql_forms.specs.Numbers.{form_number}
use Rattle.mql_forms.specs.declared.form.Form.TheVariants as form
use Rattle.mql_grammar.specs.Expression.{Expression, nothing, either, seq, many, part, Matches}
use Rattle.mql_grammar.specs.Expressions.{a, a_token, args, expr, expression_of, local_or_list, local_variables, more_variables, pointed, pointed_alone, maybe, in_order}
use Rattle.mql_grammar.specs.Forms.{Head}
use Rattle.mql_grammar.specs.Numbers.{class_number}
use Rattle.mql_grammar.specs.declared.token_class.Class.{Class}
use Rattle.mql_grammar.specs.declared.token_class.Class.TheVariants as class
use Rattle.mql_grammar.proofs.Derivatives.{MatchesAll, firsts_all}
use Rattle.mql_views.specs.Parts.{Part}
use Rattle.mql_views.specs.Laws.{heads, IsSeen}
use Rattle.mql_views.specs.Cuts.{on, is, run, must, next, last, sign, ended, up_to, all_to}
use Rattle.mql_views.specs.Declarations.{variables, variables_typed, local_words, type_words, type_forms}
use Rattle.mql_views.specs.Statements.{tested, if_of, if_end, while_of, do_of, Simple, Values, Locals, local_or_values, simple, at_most_one, for_end, for_of, switch_of, return_of, delete_of}
use Rattle.mql_views.proofs.Stands.{Stands, flat, flattened, all_of, single, within, edges_away, sign_stands, must_stands, next_stands, last_stands, last_on_stands, map_stands, ended_stands, none_stands, cons_stands, same_stands, some_stands, all_to_map, all_to_stands, up_to_stands, either_stands, maybe_stands, flat_stands, seq_stands, run_stands, cut_single, cut_row, single_part, front_within, on_on, on_map, map_some, nothing_left}
use Rattle.mql_views.proofs.ValueForms.{seen_by}

-- "(" test ")"
tested_inner : {B : Type 0} (k : Part × List Part → Option B) (t : Part × List Part)
    → on (option_map (λ zs. (t.0, zs)) (sign (class.CloseParen ∷ []) t.1)) k ≡ on (sign (class.CloseParen ∷ []) t.1) (λ zs. k (t.0, zs))
tested_inner k t = on_map (λ zs. (t.0, zs)) (sign (class.CloseParen ∷ []) t.1) k

tested_middle : {B : Type 0} (k : Part × List Part → Option B) (ys : List Part)
    → on (on (next ys) (λ t. option_map (λ zs. (t.0, zs)) (sign (class.CloseParen ∷ []) t.1))) k ≡ on (next ys) (λ t. on (sign (class.CloseParen ∷ []) t.1) (λ zs. k (t.0, zs)))
tested_middle k ys = on_on (next ys) (λ t. option_map (λ zs. (t.0, zs)) (sign (class.CloseParen ∷ []) t.1)) k ∙ (λ i. on (next ys) (λ t. tested_inner k t i))

tested_outer : {B : Type 0} (k : Part × List Part → Option B) (xs : List Part)
    → on (tested xs) k ≡ on (sign (class.OpenParen ∷ []) xs) (λ ys. on (next ys) (λ t. on (sign (class.CloseParen ∷ []) t.1) (λ zs. k (t.0, zs))))
unfolding tested
tested_outer k xs =
    on_on (sign (class.OpenParen ∷ []) xs) (λ ys. on (next ys) (λ t. option_map (λ zs. (t.0, zs)) (sign (class.CloseParen ∷ []) t.1))) k
    ∙ (λ i. on (sign (class.OpenParen ∷ []) xs) (λ ys. tested_middle k ys i))

pub tested_stands : {B : Type 0} (e : Expression) (k : Part × List Part → Option B) (es : List Expression) → single e ≡ true → ((t : Part) → Stands (λ zs. k (t, zs)) es)
    → Stands (λ xs. on (tested xs) k) (a class.OpenParen ∷ e ∷ a class.CloseParen ∷ es)
unfolding class_number
tested_stands e k es h st = same_stands _ _ _ (tested_outer k)
    (sign_stands _ _ _ _ refl (next_stands e _ _ h (λ t. sign_stands _ _ _ _ refl (st t))))

pub while_seen : IsSeen form.While while_of
unfolding while_of expression_of class_number form_number
while_seen = seen_by form.While while_of (sign_stands _ _ _ _ refl (tested_stands _ _ _ refl (λ t. last_stands _ _ refl)))

pub do_seen : IsSeen form.Do do_of
unfolding do_of expression_of class_number form_number
do_seen = seen_by form.Do do_of (sign_stands _ _ _ _ refl (next_stands _ _ _ refl (λ s. sign_stands _ _ _ _ refl (tested_stands _ _ _ refl (λ t. sign_stands _ _ _ _ refl (ended_stands _))))))

pub switch_seen : IsSeen form.Switch switch_of
unfolding switch_of expression_of class_number form_number
switch_seen = seen_by form.Switch switch_of (sign_stands _ _ _ _ refl (tested_stands _ _ _ refl (λ t. sign_stands _ _ _ _ refl (all_to_map _ _ _ refl))))

pub delete_seen : IsSeen form.Delete delete_of
unfolding delete_of expression_of class_number form_number
delete_seen = seen_by form.Delete delete_of (sign_stands _ _ _ _ refl (next_stands _ _ _ refl (λ v. sign_stands _ _ _ _ refl (ended_stands _))))

if_none : (t s : Part) → Stands (if_end t s) []
unfolding if_end
if_none t s = none_stands _ refl

if_else : (t s : Part) (e : Expression) → single e ≡ true → Stands (if_end t s) (a class.Else ∷ e ∷ [])
unfolding if_end class_number
if_else t s e h =
    cons_stands (if_end t s) (λ xs. on (sign (class.Else ∷ []) xs) (λ ys. option_map (λ e. record { test = t; chosen = s; other = Some e }) (last ys))) _ refl (λ x xs. refl)
    (sign_stands _ _ _ _ refl (last_stands e _ h))

pub if_seen : IsSeen form.If if_of
unfolding if_of expression_of class_number form_number
if_seen = seen_by form.If if_of (sign_stands _ _ _ _ refl (tested_stands _ _ _ refl (λ t. next_stands _ _ _ refl (λ s. maybe_stands _ _ _ (if_none t s) (if_else t s _ refl)))))

-- a value or none
one_or_none : (e : Expression) → single e ≡ true → (ys : List Part) → Matches (either nothing e) (heads ys) → is_some (at_most_one ys) ≡ true
unfolding at_most_one
one_or_none e h ys (inl m) = ap (λ ys. is_some (at_most_one ys)) (nothing_left ys m)
one_or_none e h ys (inr m) = ap (λ ys. is_some (at_most_one ys)) (single_part e h ys m).1

pub return_seen : IsSeen form.Return return_of
unfolding return_of expression_of class_number form_number
return_seen = seen_by form.Return return_of (sign_stands _ _ _ _ refl (all_to_stands _ _ _ refl (one_or_none expr refl)))

-- {word} type var .., whatever is behind the type
type_then : (ws : List Part) (ds gs : List ℕ) (es : List Expression) → within ds (map class_number type_words) ≡ true → within gs (map form_number type_forms) ≡ true
    → Stands (variables_typed ws) (part ds gs ∷ es)
unfolding variables_typed
type_then ws ds gs es h i = must_stands type_words type_forms ds gs _ es h i (λ t. some_stands _ _)

-- the words, and such a type
pub variables_stand : (words : List Class) (ds : List ℕ) (es : List Expression) → within ds (map class_number words) ≡ true → edges_away (map class_number words) [] (firsts_all es) ≡ true
    → ((ws : List Part) → Stands (variables_typed ws) es) → Stands (variables words) (many (part ds []) ∷ es)
unfolding variables
variables_stand words ds es h d st = run_stands words ds (λ p. variables_typed p.0 p.1) es h d st

pub pointed_then : (ws : List Part) (es : List Expression) → Stands (variables_typed ws) (pointed ∷ es)
unfolding class_number form_number
pointed_then ws es = either_stands _ _ _ _ (flat_stands _ _ _ (type_then ws _ _ _ refl refl)) (flat_stands _ _ _ (type_then ws _ _ _ refl refl))

pub pointed_alone_then : (ws : List Part) (es : List Expression) → Stands (variables_typed ws) (pointed_alone ∷ es)
unfolding class_number form_number
pointed_alone_then ws es = either_stands _ _ _ _ (flat_stands _ _ _ (type_then ws _ _ _ refl refl)) (flat_stands _ _ _ (type_then ws _ _ _ refl refl))

local_then : Stands (variables local_words) (flat (in_order (many (a_token (class.Static ∷ class.Const ∷ [])) ∷ local_variables ∷ [])) [])
unfolding class_number form_number
local_then = variables_stand local_words _ _ refl refl (λ ws. pointed_then ws _)

-- variables are seen, or values are
seen_choice : (b : Bool) (v : Simple) (o : Option Simple) → is_some o ≡ true → is_some (if b then Some v else o) ≡ true
seen_choice true v o h = refl
seen_choice false v o h = h

local_or : (xs : List Part) → is_some (variables local_words xs) ≡ true → is_some (local_or_values xs) ≡ true
unfolding local_or_values
local_or [] h = refl
local_or (x ∷ []) h = refl
local_or (x ∷ y ∷ xs) h = seen_choice (is (class.Comma ∷ []) [] y) (Values (x ∷ y ∷ xs)) _ (map_some Locals (variables local_words (x ∷ y ∷ xs)) ∙ h)

abbrev pub commas : Expression
commas = many (in_order (a class.Comma ∷ expr ∷ []))

values_then : (xs : List Part) → MatchesAll (expr ∷ commas ∷ []) (heads xs) → is_some (local_or_values xs) ≡ true
unfolding local_or_values class_number form_number
values_then xs m =
    let r = cut_single expr (commas ∷ []) refl xs m in
    ap (λ xs. is_some (local_or_values xs)) r.2 ∙ rest r.0 r.1 r.3
  where
    rest : (y : Part) (zs : List Part) → MatchesAll (commas ∷ []) (heads zs) → is_some (local_or_values (y ∷ zs)) ≡ true
    rest y [] m = refl
    rest y (z ∷ zs) m = ap (λ (b : Bool). is_some (if b then Some (Values (y ∷ z ∷ zs)) else option_map Locals (variables local_words (y ∷ z ∷ zs)))) (front_within (class.Comma ∷ []) [] (commas ∷ []) refl z zs m)

local_all : Stands local_or_values (local_or_list ∷ [])
local_all = either_stands _ _ _ _
    (flat_stands _ _ _ (record { there = λ xs m. local_or xs (local_then.there xs m) }))
    (flat_stands _ _ _ (record { there = values_then }))

local_list : (ys : List Part) → Matches local_or_list (heads ys) → is_some (local_or_values ys) ≡ true
local_list ys m = local_all.there ys (all_of local_or_list (heads ys) m)

local_maybe : (ys : List Part) → Matches (maybe local_or_list) (heads ys) → is_some (local_or_values ys) ≡ true
unfolding local_or_values
local_maybe ys (inl m) = ap (λ ys. is_some (local_or_values ys)) (nothing_left ys m)
local_maybe ys (inr m) = local_list ys m

pub simple_seen : IsSeen form.Simple simple
unfolding simple expression_of class_number form_number
simple_seen = seen_by form.Simple simple (all_to_stands _ local_or_list _ refl local_list)

on_some : {A B : Type 0} (o : Option A) (k : A → Option B) → is_some o ≡ true → ((x : A) → is_some (k x) ≡ true) → is_some (on o k) ≡ true
on_some None k h all = h
on_some (Some x) k h all = all x

for_ended : (start test step : List Part) (body : Part) → is_some (local_or_values start) ≡ true → is_some (at_most_one test) ≡ true → is_some (for_end start test step body) ≡ true
unfolding for_end
for_ended start test step body h i = on_some (local_or_values start) _ h (λ s. map_some _ (at_most_one test) ∙ i)

pub for_seen : IsSeen form.For for_of
unfolding for_of expression_of class_number form_number
for_seen = seen_by form.For for_of (sign_stands _ _ _ _ refl (sign_stands _ _ _ _ refl
    (up_to_stands _ (maybe local_or_list) _ _ refl (λ start ms.
    up_to_stands _ (maybe expr) _ _ refl (λ test mt.
    up_to_stands _ (maybe args) _ _ refl (λ step mp.
    last_on_stands _ _ refl (λ body. for_ended start test step body (local_maybe start ms) (one_or_none expr refl test mt))))))))
