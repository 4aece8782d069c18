-- Statements by what they are made of, and what closes in them.
use Rattle.std.proofs.Common.{◌≡◌, ◌≤◌, ◌<◌, ◌-◌, ◌+◌, ℕ, Bool, true, false, ◌||◌, ◌&&◌, List, [], ◌∷◌, ◌++◌, length, map, take, slice_index_or, refl, sym, ap, ◌∙◌, arith, zero, suc}
use Rattle.std.proofs.Math.Nat.{not-suc-le-zero}
use Rattle.std.proofs.Math.Seq.{take-length}
use Rattle.std.proofs.lemmas.List.{take_more}
use Rattle.mql_syntax.specs.declared.kind.Place.{Place}
use Rattle.mql_syntax.specs.declared.kind.StatementKind.{StatementKind}
use Rattle.mql_syntax.specs.declared.declaration.Variable.{Variable}
use Rattle.mql_syntax.specs.declared.value.Value.{Value}
use Rattle.mql_syntax.specs.declared.statement.Statement as statement
use Rattle.mql_syntax.specs.declared.statement.Statement.{Statement, out-Statement, roll-Statement, roll-out-Statement, Row_of-Statement, end_of-Statement, more_of-Statement, items-the_row-Statement, items_hidden-the_row-Statement-0}
use Rattle.mql_syntax.specs.declared.statement.Statement.TheOpen.{Statement-F}
use Rattle.mql_syntax.specs.declared.statement.Statement.TheVariants as statements
use mathlib.Core.Former.{Count}
use denote.Hole.Carrier.{roll}
use Rattle.mql_statements.specs.Closing.{some, last_one, both, breaking, has_break, breaks_in, closing, closes, closed_in}

-- what a statement is, and what it is made of
abbrev kind_in : Statement-F Statement → StatementKind
kind_in (Statement-F.Node place what own values parts) = what

abbrev values_in : Statement-F Statement → List Value
values_in (Statement-F.Node place what own values parts) = values

abbrev inner_in : Statement-F Statement → List Statement
inner_in (Statement-F.Node place what own values parts) = parts

abbrev pub statement_kind : Statement → StatementKind
statement_kind s = kind_in (out-Statement s)

abbrev pub statement_values : Statement → List Value
statement_values s = values_in (out-Statement s)

abbrev pub statement_parts : Statement → List Statement
statement_parts s = inner_in (out-Statement s)

abbrev statement_row : Statement → (n : Count) × Row_of-Statement n
statement_row (statement.Node' place what own values _ row) = (_, row)

-- breaks
breaks_row : (n : _) (row : Row_of-Statement n) → breaks_in row ≡ map has_break (items-the_row-Statement n row)
breaks_row n end_of-Statement = refl
breaks_row n (more_of-Statement s ss) = ap (λ bs. has_break s ∷ bs) (breaks_row _ ss)

breaks_parts : (p : Place) (what : StatementKind) (own : List Variable) (vs : List Value) (ss : List Statement) →
    breaks_in (statement_row (statements.Node p what own vs ss)).1 ≡ map has_break ss
breaks_parts p what own vs ss =
    let row = statement_row (statements.Node p what own vs ss) in
    breaks_row row.0 row.1 ∙ ap (map has_break) (items_hidden-the_row-Statement-0 ss)

breaks_rolled : (w : Statement-F Statement) → has_break (roll-Statement w) ≡ breaking (kind_in w) (map has_break (inner_in w))
unfolding roll-Statement denote.Hole.Carrier.roll
breaks_rolled (Statement-F.Node p what own vs ss) = ap (breaking what) (breaks_parts p what own vs ss)

breaks_of : (s : Statement) → has_break s ≡ breaking (statement_kind s) (map has_break (statement_parts s))
breaks_of s = ap has_break (sym (roll-out-Statement s)) ∙ breaks_rolled (out-Statement s)

pub breaks_at : (s : Statement) (what : StatementKind) (parts : List Statement) (r : Bool) →
    what ≡ statement_kind s → parts ≡ statement_parts s → r ≡ breaking what (map has_break parts) → r ≡ has_break s
breaks_at s what parts r e1 e2 h =
    h ∙ ap (λ k. breaking k (map has_break parts)) e1 ∙ ap (λ ss. breaking (statement_kind s) (map has_break ss)) e2
    ∙ sym (breaks_of s)

-- what closes
closed_row : (n : _) (row : Row_of-Statement n) → closed_in row ≡ map closes (items-the_row-Statement n row)
closed_row n end_of-Statement = refl
closed_row n (more_of-Statement s ss) = ap (λ bs. closes s ∷ bs) (closed_row _ ss)

closed_parts : (p : Place) (what : StatementKind) (own : List Variable) (vs : List Value) (ss : List Statement) →
    closed_in (statement_row (statements.Node p what own vs ss)).1 ≡ map closes ss
closed_parts p what own vs ss =
    let row = statement_row (statements.Node p what own vs ss) in
    closed_row row.0 row.1 ∙ ap (map closes) (items_hidden-the_row-Statement-0 ss)

closes_rolled : (w : Statement-F Statement) →
    closes (roll-Statement w) ≡ closing (kind_in w) (values_in w) (map has_break (inner_in w)) (map closes (inner_in w))
unfolding roll-Statement denote.Hole.Carrier.roll
closes_rolled (Statement-F.Node p what own vs ss) =
    ap (λ bs. closing what vs bs (closed_in (statement_row (statements.Node p what own vs ss)).1)) (breaks_parts p what own vs ss)
    ∙ ap (closing what vs (map has_break ss)) (closed_parts p what own vs ss)

closes_of : (s : Statement) → closes s ≡
    closing (statement_kind s) (statement_values s) (map has_break (statement_parts s)) (map closes (statement_parts s))
closes_of s = ap closes (sym (roll-out-Statement s)) ∙ closes_rolled (out-Statement s)

pub closes_at : (s : Statement) (what : StatementKind) (values : List Value) (parts : List Statement) (r : Bool) →
    what ≡ statement_kind s → values ≡ statement_values s → parts ≡ statement_parts s →
    r ≡ closing what values (map has_break parts) (map closes parts) → r ≡ closes s
closes_at s what values parts r e1 e2 e3 h =
    h ∙ ap (λ k. closing k values (map has_break parts) (map closes parts)) e1
    ∙ ap (λ vs. closing (statement_kind s) vs (map has_break parts) (map closes parts)) e2
    ∙ ap (λ ss. closing (statement_kind s) (statement_values s) (map has_break ss) (map closes ss)) e3
    ∙ sym (closes_of s)

-- lists of statements
or_assoc : (a b c : Bool) → (a || b) || c ≡ a || (b || c)
or_assoc true b c = refl
or_assoc false b c = refl

or_false : (b : Bool) → b || false ≡ b
or_false true = refl
or_false false = refl

some_more : (f : Statement → Bool) (ss : List Statement) (s : Statement) →
    some (map f (ss ++ s ∷ [])) ≡ some (map f ss) || f s
some_more f [] s = or_false (f s)
some_more f (t ∷ ss) s = ap (λ b. f t || b) (some_more f ss s) ∙ sym (or_assoc (f t) (some (map f ss)) (f s))

pub some_step : (f : Statement → Bool) (ss : List Statement) (i : ℕ) (s : Statement) → i < length ss →
    s ≡ slice_index_or ss i s → some (map f (take (i + 1) ss)) ≡ some (map f (take i ss)) || f s
some_step f ss i s l e =
    ap (λ xs. some (map f xs)) (take_more ss i s l ∙ ap (λ x. take i ss ++ x ∷ []) (sym e)) ∙ some_more f (take i ss) s

last_more : (f : Statement → Bool) (ss : List Statement) (s : Statement) → last_one (map f (ss ++ s ∷ [])) ≡ f s
last_more f [] s = refl
last_more f (t ∷ []) s = refl
last_more f (t ∷ u ∷ ss) s = last_more f (u ∷ ss) s

all_but_last : {A : Type 0} (x : A) (xs : List A) (y : A) → y ≡ slice_index_or (x ∷ xs) (length (x ∷ xs) - 1) y →
    x ∷ xs ≡ take (length (x ∷ xs) - 1) (x ∷ xs) ++ y ∷ []
all_but_last x xs y e =
    let l : length xs < length (x ∷ xs) = omega arith in
    let n : length (x ∷ xs) - 1 ≡ length xs = omega arith in
    let m : length xs + 1 ≡ length (x ∷ xs) = omega arith in
    sym (take-length (x ∷ xs)) ∙ ap (λ k. take k (x ∷ xs)) (sym m) ∙ take_more (x ∷ xs) (length xs) y l
    ∙ ap (λ k. take k (x ∷ xs) ++ slice_index_or (x ∷ xs) k y ∷ []) (sym n)
    ∙ ap (λ z. take (length (x ∷ xs) - 1) (x ∷ xs) ++ z ∷ []) (sym e)

pub last_of : (f : Statement → Bool) (ss : List Statement) (s : Statement) → 1 ≤ length ss →
    s ≡ slice_index_or ss (length ss - 1) s → last_one (map f ss) ≡ f s
last_of f [] s l e = let z : 1 ≤ zero = omega (arith, l) in elim (not-suc-le-zero z) [ ]
last_of f (t ∷ ss) s l e =
    ap (λ xs. last_one (map f xs)) (all_but_last t ss s e) ∙ last_more f (take (length (t ∷ ss) - 1) (t ∷ ss)) s

pub both_of : (f : Statement → Bool) (ss : List Statement) (s t : Statement) → 2 ≤ length ss →
    s ≡ slice_index_or ss 0 s → t ≡ slice_index_or ss (length ss - 1) t → both (map f ss) ≡ (f s && f t)
both_of f [] s t l a b = let z : 1 ≤ zero = omega (arith, l) in elim (not-suc-le-zero z) [ ]
both_of f (u ∷ []) s t l a b = let z : 1 ≤ zero = omega (arith, l) in elim (not-suc-le-zero z) [ ]
both_of f (u ∷ v ∷ ss) s t l a b =
    let n : length (u ∷ v ∷ ss) - 1 ≡ suc (length (v ∷ ss) - 1) = omega (arith, l) in
    let c : t ≡ slice_index_or (v ∷ ss) (length (v ∷ ss) - 1) t = b ∙ ap (λ k. slice_index_or (u ∷ v ∷ ss) k t) n in
    ap (λ x. f x && last_one (map f (v ∷ ss))) (sym a) ∙ ap (λ x. f s && x) (last_of f (v ∷ ss) t (omega (arith, l)) c)
