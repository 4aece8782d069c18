-- The walk over statements, in parts.
use Rattle.std.proofs.Common.{◌≡◌, ℕ, ◌+◌, Bool, true, false, List, [], ◌∷◌, ◌++◌, length, take, drop, slice_index_or, zero, ◌≤◌, map, Result, IfOk, refl, sym, ap, subst, ◌∙◌, arith, if◌then◌else◌, length-append, append-nil, append_assoc}
use Rattle.std.proofs.Math.Nat.{not-suc-le-zero}
use Rattle.std.proofs.Math.Seq.{take-append_seam}
use Rattle.std.specs.List.{flat_map}
use Rattle.mql_meaning.specs.declared.types.VarType.{VarType}
use Rattle.mql_syntax.specs.declared.kind.Place.{Place}
use Rattle.mql_syntax.specs.declared.kind.StatementKind.{StatementKind}
use Rattle.mql_syntax.specs.declared.kind.StatementKind.TheVariants as kind
use Rattle.mql_syntax.specs.declared.value.Value.{Value}
use Rattle.mql_syntax.specs.declared.declaration.Variable.{Variable}
use Rattle.mql_syntax.specs.declared.statement.Statement as statement
use Rattle.mql_syntax.specs.declared.statement.Statement.{Statement, out-Statement, roll-Statement, roll-out-Statement, Row_of-Statement, end_of-Statement, more_of-Statement, items-the_row-Statement, items_hidden-the_row-Statement-0}
use Rattle.mql_syntax.specs.declared.statement.Statement.TheOpen.{Statement-F}
use Rattle.mql_syntax.specs.declared.statement.Statement.TheVariants as statements
use mathlib.Core.Former.{Count}
use denote.Hole.Carrier.{roll}
use Rattle.mql_scope.specs.declared.context.Known.{Known}
use Rattle.mql_scope.specs.Contexts.{Context}
use Rattle.mql_expressions.specs.declared.findings.Found.{Found}
use Rattle.mql_expressions.specs.Values.{found_all, infos_in, broken_in, used_in, kept_by}
use Rattle.mql_statements.specs.declared.told.Told.{Told}
use Rattle.mql_statement_walk.specs.declared.walk.Head.{Head}
use Rattle.mql_statements.specs.Told.{nothing_told, then_told, joined, behind_told}
use Rattle.mql_statement_walk.specs.Walk.{all_kept, kept_in, behind_values, in_loop, in_switch, inner_context, is_for, Parts, with_parts, for_with, told_of, told, told_row, for_parts, told_all}
use Rattle.mql_statements.specs.Told.{in_force}
use Rattle.mql_starts.specs.Declarations.{declares_all}
use Rattle.mql_typed_statements.specs.Statements.{shares, place_of, own_scope, told_by}
use Rattle.mql_statement_walk.specs.Lists.{told_part, told_list, behind_all, declared_in, parts_of, for_parts_of, head_of, after}

-- parts as a list
list_of_row : (n : _) (c : Context) (b : Bool) (row : Row_of-Statement n)
    → told_row c b row ≡ told_list c b (items-the_row-Statement n row)
list_of_row n c b end_of-Statement = refl
list_of_row n c true (more_of-Statement s ss) =
    ap (λ ts. told c s ∷ ts) (list_of_row _ (behind_told (told c s) c) true ss)
list_of_row n c false (more_of-Statement s ss) =
    let t = told_part c false s in ap (λ ts. t ∷ ts) (list_of_row _ (behind_told t c) false ss)

for_of_row : (n : _) (c : Context) (vs : List Value) (row : Row_of-Statement n)
    → for_parts c vs row ≡ for_parts_of c vs (items-the_row-Statement n row)
for_of_row n c vs end_of-Statement = refl
for_of_row n c vs (more_of-Statement s ss) =
    let begin = told c s in
    let fs = found_all (behind_told begin c) vs in
    ap (for_with begin fs) (list_of_row _ (in_loop (behind_values fs (behind_told begin c))) false ss)

-- what a statement is made of
abbrev place_in : Statement-F Statement → Place
place_in (Statement-F.Node place what own values parts) = place

abbrev kind_in : Statement-F Statement → StatementKind
kind_in (Statement-F.Node place what own values parts) = what

abbrev own_in : Statement-F Statement → List Variable
own_in (Statement-F.Node place what own values parts) = own

abbrev values_in : Statement-F Statement → List Value
values_in (Statement-F.Node place what own values parts) = values

abbrev inner_in : Statement-F Statement → List Statement
inner_in (Statement-F.Node place what own values parts) = parts

abbrev pub statement_place : Statement → Place
statement_place s = place_in (out-Statement s)

abbrev pub statement_kind : Statement → StatementKind
statement_kind s = kind_in (out-Statement s)

abbrev pub statement_own : Statement → List Variable
statement_own s = own_in (out-Statement s)

abbrev pub statement_values : Statement → List Value
statement_values s = values_in (out-Statement s)

abbrev pub statement_parts : Statement → List Statement
statement_parts s = inner_in (out-Statement s)

abbrev statement_row : Statement → (n : Count) × Row_of-Statement n
statement_row (statement.Node' place what own values _ row) = (_, row)

-- a `for` or another statement
abbrev either_of : Context → Place → StatementKind → List Value → Parts → Parts → Told
either_of c p what vs x y = told_of c p what vs (if is_for what then x else y)

abbrev made_of : Context → Place → StatementKind → List Variable → List Value → List Statement → Told
made_of c p what own vs ss = either_of c p what vs (for_parts_of c vs ss) (parts_of c what own vs ss)

abbrev parts_in_row : Context → StatementKind → List Variable → List Value → List Told → Parts
parts_in_row c what own vs ts = with_parts (declares_all c own) (found_all (behind_told (declares_all c own) c) vs) ts

abbrev inner_of : Context → StatementKind → List Variable → List Value → Context
inner_of c what own vs =
    let t = declares_all c own in
    inner_context what (behind_values (found_all (behind_told t c) vs) (behind_told t c))

told_in_row : (n : _) (c : Context) (p : Place) (what : StatementKind) (own : List Variable) (vs : List Value)
    (row : Row_of-Statement n)
    → either_of c p what vs (for_parts c vs row)
    (parts_in_row c what own vs (told_row (inner_of c what own vs) (shares what) row))
    ≡ made_of c p what own vs (items-the_row-Statement n row)
told_in_row n c p what own vs row =
    ap (λ x. either_of c p what vs x (parts_in_row c what own vs (told_row (inner_of c what own vs) (shares what) row)))
    (for_of_row n c vs row)
    ∙ ap (λ ts. either_of c p what vs (for_parts_of c vs (items-the_row-Statement n row)) (parts_in_row c what own vs ts))
    (list_of_row n (inner_of c what own vs) (shares what) row)

told_of_node : (c : Context) (p : Place) (what : StatementKind) (own : List Variable) (vs : List Value)
    (ss : List Statement) → told c (statements.Node p what own vs ss) ≡ made_of c p what own vs ss
told_of_node c p what own vs ss =
    let row = statement_row (statements.Node p what own vs ss) in
    told_in_row row.0 c p what own vs row.1 ∙ ap (made_of c p what own vs) (items_hidden-the_row-Statement-0 ss)

told_of_rolled : (c : Context) (w : Statement-F Statement)
    → told c (roll-Statement w) ≡ made_of c (place_in w) (kind_in w) (own_in w) (values_in w) (inner_in w)
unfolding roll-Statement denote.Hole.Carrier.roll
told_of_rolled c (Statement-F.Node p what own vs ss) = told_of_node c p what own vs ss

told_of_statement : (c : Context) (s : Statement) → told c s
    ≡ made_of c (statement_place s) (statement_kind s) (statement_own s) (statement_values s) (statement_parts s)
told_of_statement c s = ap (told c) (sym (roll-out-Statement s)) ∙ told_of_rolled c (out-Statement s)

-- what a statement is told, from what it has
pub at_statement : (c : Context) (s : Statement) (p : Place) (what : StatementKind) (own : List Variable)
    (vs : List Value) (ss : List Statement)
    → p ≡ statement_place s → what ≡ statement_kind s → own ≡ statement_own s → vs ≡ statement_values s
    → ss ≡ statement_parts s → made_of c p what own vs ss ≡ told c s
at_statement c s p what own vs ss e1 e2 e3 e4 e5 =
    ap (λ q. made_of c q what own vs ss) e1
    ∙ ap (λ q. made_of c (statement_place s) q own vs ss) e2
    ∙ ap (λ q. made_of c (statement_place s) (statement_kind s) q vs ss) e3
    ∙ ap (λ q. made_of c (statement_place s) (statement_kind s) (statement_own s) q ss) e4
    ∙ ap (made_of c (statement_place s) (statement_kind s) (statement_own s) (statement_values s)) e5
    ∙ sym (told_of_statement c s)

pub of_for : (c : Context) (p : Place) (what : StatementKind) (own : List Variable) (vs : List Value)
    (ss : List Statement) → is_for what ≡ true → told_of c p what vs (for_parts_of c vs ss) ≡ made_of c p what own vs ss
of_for c p what own vs ss e = ap (λ (b : Bool). told_of c p what vs (if b then for_parts_of c vs ss else parts_of c what own vs ss)) (sym e)

pub of_other : (c : Context) (p : Place) (what : StatementKind) (own : List Variable) (vs : List Value)
    (ss : List Statement) → is_for what ≡ false → told_of c p what vs (parts_of c what own vs ss) ≡ made_of c p what own vs ss
of_other c p what own vs ss e = ap (λ (b : Bool). told_of c p what vs (if b then for_parts_of c vs ss else parts_of c what own vs ss)) (sym e)

-- one more of a list
pub list_more : (c : Context) (b : Bool) (ss : List Statement) (s : Statement)
    → told_list c b (ss ++ s ∷ []) ≡ told_list c b ss ++ told_part (behind_all c (told_list c b ss)) b s ∷ []
list_more c b [] s = refl
list_more c b (r ∷ ss) s =
    let t = told_part c b r in ap (λ ts. t ∷ ts) (list_more (behind_told t c) b ss s)

pub behind_more : (c : Context) (ts : List Told) (t : Told)
    → behind_all c (ts ++ t ∷ []) ≡ behind_told t (behind_all c ts)
behind_more c [] t = refl
behind_more c (r ∷ ts) t = behind_more (behind_told r c) ts t

pub declared_more : (ts : List Told) (t : Told) → declared_in (ts ++ t ∷ []) ≡ declared_in ts ++ t.declared
declared_more [] t = append-nil t.declared
declared_more (r ∷ ts) t =
    ap (λ ks. r.declared ++ ks) (declared_more ts t) ∙ sym (append_assoc r.declared (declared_in ts) t.declared)

pub kept_more : (ts : List Told) (t : Told) → kept_in (ts ++ t ∷ []) ≡ kept_in ts ++ t.kept
kept_more [] t = append-nil t.kept
kept_more (r ∷ ts) t = ap (λ ks. r.kept ++ ks) (kept_more ts t) ∙ sym (append_assoc r.kept (kept_in ts) t.kept)

-- the turn of the loop over parts
pub context_step : (c at next : Context) (ks back : List Known) (ts us : List Told) (t : Told)
    → in_force at ks ≡ behind_all c ts → next ≡ after (length t.kept) (length t.statics) at → back ≡ ks ++ t.declared
    → us ≡ ts ++ t ∷ [] → in_force next back ≡ behind_all c us
context_step c at next ks back ts us t e h k l =
    ap (λ (d : Context). in_force d back) h
    ∙ ap (λ (xs : List Known). in_force (after (length t.kept) (length t.statics) at) xs) k
    ∙ ap (behind_told t) e ∙ sym (behind_more c ts t) ∙ ap (behind_all c) (sym l)

pub list_step : (c at : Context) (b : Bool) (ks : List Known) (ss : List Statement) (s : Statement)
    (ts us : List Told) (t : Told)
    → in_force at ks ≡ behind_all c ts → ts ≡ told_list c b ss → t ≡ told_part (in_force at ks) b s
    → us ≡ ts ++ t ∷ [] → us ≡ told_list c b (ss ++ s ∷ [])
list_step c at b ks ss s ts us t e h k l =
    l ∙ ap (λ (x : Told). ts ++ x ∷ []) (k ∙ ap (λ (d : Context). told_part d b s) e)
    ∙ ap (λ (xs : List Told). xs ++ told_part (behind_all c xs) b s ∷ []) h ∙ sym (list_more c b ss s)

pub known_step : (ls ks back : List Known) (ts us : List Told) (t : Told)
    → ks ≡ ls ++ declared_in ts → back ≡ ks ++ t.declared → us ≡ ts ++ t ∷ [] → back ≡ ls ++ declared_in us
known_step ls ks back ts us t e h l =
    h ∙ ap (λ (xs : List Known). xs ++ t.declared) e ∙ append_assoc ls (declared_in ts) t.declared
    ∙ ap (λ (xs : List Known). ls ++ xs) (sym (declared_more ts t) ∙ ap declared_in (sym l))

-- a scope's statements are its parts, one after another
pub all_joined : (c : Context) (ss : List Statement) → joined (told_list c true ss) ≡ told_all c ss
all_joined c [] = refl
all_joined c (s ∷ ss) = ap (then_told (told c s)) (all_joined (behind_told (told c s) c) ss)

-- the locals that values take
pub kept_of : (fs : List Found) → flat_map kept_by (infos_in fs) ≡ all_kept fs
kept_of [] = refl
kept_of (f ∷ fs) = ap (λ ts. kept_by f.info ++ ts) (kept_of fs)

-- where the same variables are in force
pub inner_in_force : (what : StatementKind) (c : Context) (ks : List Known)
    → in_force (inner_context what c) ks ≡ inner_context what (in_force c ks)
inner_in_force kind.While c ks = refl
inner_in_force kind.Do c ks = refl
inner_in_force (kind.For tested) c ks = refl
inner_in_force kind.Switch c ks = refl
inner_in_force kind.Block c ks = refl
inner_in_force kind.Empty c ks = refl
inner_in_force kind.Declaration c ks = refl
inner_in_force kind.Evaluation c ks = refl
inner_in_force kind.If c ks = refl
inner_in_force kind.Case c ks = refl
inner_in_force kind.Default c ks = refl
inner_in_force kind.Break c ks = refl
inner_in_force kind.Continue c ks = refl
inner_in_force kind.Return c ks = refl
inner_in_force kind.Delete c ks = refl

-- behind what a statement has before its parts
behind_one : (c : Context) (n : ℕ) (ks : List Known) (t : Told) (fs : List Found) → n ≡ length (t.kept ++ all_kept fs)
    → in_force (after n (length t.statics) c) (ks ++ t.declared) ≡ behind_values fs (behind_told t (in_force c ks))
behind_one c n ks t fs e =
    let m : n ≡ length t.kept + length (all_kept fs) = e ∙ length-append t.kept (all_kept fs) in
    let h : c.next + n ≡ c.next + length t.kept + length (all_kept fs) = omega (arith, m) in
    let k : c.statics + length t.statics ≡ c.statics + length t.statics + 0 = omega arith in
    ap (λ (i : ℕ). record c { next = i; locals = ks ++ t.declared; statics = c.statics + length t.statics }) h
    ∙ ap (λ (xs : List Known). record c { next = c.next + length t.kept + length (all_kept fs); locals = xs; statics = c.statics + length t.statics }) (sym (append-nil (ks ++ t.declared)))
    ∙ ap (λ (i : ℕ). record c { next = c.next + length t.kept + length (all_kept fs); locals = (ks ++ t.declared) ++ []; statics = i }) k

pub behind_head : (c d : Context) (n : ℕ) (ks all : List Known) (t : Told) (fs : List Found)
    → n ≡ length (t.kept ++ all_kept fs) → d ≡ after n (length t.statics) c → all ≡ ks ++ t.declared
    → in_force d all ≡ behind_values fs (behind_told t (in_force c ks))
behind_head c d n ks all t fs e h k =
    ap (λ (x : Context). in_force x all) h ∙ ap (λ (xs : List Known). in_force (after n (length t.statics) c) xs) k
    ∙ behind_one c n ks t fs e

pub found_behind : (c d : Context) (ks all : List Known) (t : Told) (vs : List Value)
    → d ≡ after (length t.kept) (length t.statics) c → all ≡ ks ++ t.declared
    → found_all (in_force d all) vs ≡ found_all (behind_told t (in_force c ks)) vs
found_behind c d ks all t vs h k =
    ap (λ (x : Context). found_all (in_force x all) vs) h
    ∙ ap (λ (xs : List Known). found_all (in_force (after (length t.kept) (length t.statics) c) xs) vs) k

-- the context behind a head
behind_its_head : (c d : Context) (ks all : List Known) (t : Told) (fs : List Found) (h : Head)
    → h ≡ head_of t fs → d ≡ after (length h.kept) (length h.variables.statics) c → all ≡ ks ++ t.declared
    → in_force d all ≡ behind_values fs (behind_told t (in_force c ks))
behind_its_head c d ks all t fs h e k l =
    behind_head c d (length (t.kept ++ all_kept fs)) ks all t fs refl
    (k ∙ ap (λ (x : Head). after (length x.kept) (length x.variables.statics) c) e) l

-- what is told of a head and of parts
told_of_head : (c : Context) (p : Place) (what : StatementKind) (vs : List Value) (t : Told) (fs : List Found)
    (ts : List Told)
    → told_by c p what vs t (infos_in fs) (broken_in fs) (used_in fs) ts ((t.kept ++ all_kept fs) ++ kept_in ts)
    ≡ told_of c p what vs (with_parts t fs ts)
told_of_head c p what vs t fs ts =
    ap (told_by c p what vs t (infos_in fs) (broken_in fs) (used_in fs) ts)
    (append_assoc t.kept (all_kept fs) (kept_in ts))

for_of_head : (c : Context) (p : Place) (what : StatementKind) (vs : List Value) (t : Told) (fs : List Found)
    (ts : List Told)
    → told_by c p what vs nothing_told (infos_in fs) (broken_in fs) (used_in fs) (t ∷ ts)
    ((t.kept ++ all_kept fs) ++ kept_in ts)
    ≡ told_of c p what vs (for_with t fs ts)
for_of_head c p what vs t fs ts =
    ap (told_by c p what vs nothing_told (infos_in fs) (broken_in fs) (used_in fs) (t ∷ ts))
    (append_assoc t.kept (all_kept fs) (kept_in ts))

-- a statement that is no `for`, behind what it declares
abbrev node_behind : Context → Place → StatementKind → List Value → List Statement → Told → Told
node_behind c p what vs ss t =
    let fs = found_all (behind_told t c) vs in
    told_of c p what vs (with_parts t fs (told_list (inner_context what (behind_values fs (behind_told t c))) (shares what) ss))

pub node_told : (c d a : Context) (p : Place) (what : StatementKind) (own : List Variable) (vs : List Value)
    (ss : List Statement) (ks all known ls : List Known) (t : Told) (h : Head) (b : Bool) (ts : List Told) (r : Told)
    → t ≡ declares_all (in_force c ks) own → all ≡ ks ++ t.declared → known ≡ all
    → h ≡ head_of t (found_all (in_force (after (length t.kept) (length t.statics) c) known) vs)
    → d ≡ after (length h.kept) (length h.variables.statics) c → a ≡ inner_context what d → b ≡ shares what
    → ts ≡ told_list (in_force a all) b ss → ls ≡ ks
    → r ≡ told_by (in_force c ls) p what vs h.variables h.values.infos h.values.broken h.values.used ts
    (h.kept ++ kept_in ts)
    → r ≡ told_of (in_force c ks) p what vs (parts_of (in_force c ks) what own vs ss)
node_told c d a p what own vs ss ks all known ls t h b ts r e1 e2 e0 e3 e4 e5 e6 e7 e8 e9 =
    let x = in_force c ks in
    let fs = found_all (behind_told t x) vs in
    let h1 : h ≡ head_of t fs = e3 ∙ ap (head_of t) (found_behind c (after (length t.kept) (length t.statics) c) ks known t vs refl (e0 ∙ e2)) in
    let h2 : in_force a all ≡ inner_context what (behind_values fs (behind_told t x)) =
    ap (λ (y : Context). in_force y all) e5 ∙ inner_in_force what d all
    ∙ ap (inner_context what) (behind_its_head c d ks all t fs h h1 e4 e2) in
    let h3 : ts ≡ told_list (inner_context what (behind_values fs (behind_told t x))) (shares what) ss =
    e7 ∙ ap (λ (y : Context). told_list y b ss) h2
    ∙ ap (λ (y : Bool). told_list (inner_context what (behind_values fs (behind_told t x))) y ss) e6 in
    e9 ∙ ap (λ (ys : List Known). told_by (in_force c ys) p what vs h.variables h.values.infos h.values.broken h.values.used ts (h.kept ++ kept_in ts)) e8
    ∙ ap (λ (y : Head). told_by x p what vs y.variables y.values.infos y.values.broken y.values.used ts (y.kept ++ kept_in ts)) h1
    ∙ told_of_head x p what vs t fs ts
    ∙ ap (λ (ys : List Told). told_of x p what vs (with_parts t fs ys)) h3
    ∙ ap (node_behind x p what vs ss) e1

-- a `for` behind what it begins with
abbrev for_behind : Context → Place → StatementKind → List Value → List Statement → Told → Told
for_behind c p what vs ss t =
    let fs = found_all (behind_told t c) vs in
    told_of c p what vs (for_with t fs (told_list (in_loop (behind_values fs (behind_told t c))) false ss))

pub for_told : (c d a : Context) (p : Place) (what : StatementKind) (vs : List Value) (s : Statement)
    (ss parts : List Statement) (ks all known ls : List Known) (t : Told) (h : Head) (ts : List Told) (r : Told)
    → parts ≡ s ∷ ss → t ≡ told (in_force c ks) s → all ≡ ks ++ t.declared → known ≡ all
    → h ≡ head_of t (found_all (in_force (after (length t.kept) (length t.statics) c) known) vs)
    → d ≡ after (length h.kept) (length h.variables.statics) c → a ≡ in_loop d
    → ts ≡ told_list (in_force a all) false ss → ls ≡ ks
    → r ≡ told_by (in_force c ls) p what vs nothing_told h.values.infos h.values.broken h.values.used
    (h.variables ∷ ts) (h.kept ++ kept_in ts)
    → r ≡ told_of (in_force c ks) p what vs (for_parts_of (in_force c ks) vs parts)
for_told c d a p what vs s ss parts ks all known ls t h ts r e e1 e2 e0 e3 e4 e5 e7 e8 e9 =
    let x = in_force c ks in
    let fs = found_all (behind_told t x) vs in
    let h1 : h ≡ head_of t fs = e3 ∙ ap (head_of t) (found_behind c (after (length t.kept) (length t.statics) c) ks known t vs refl (e0 ∙ e2)) in
    let h2 : in_force a all ≡ in_loop (behind_values fs (behind_told t x)) =
    ap (λ (y : Context). in_force y all) e5 ∙ ap in_loop (behind_its_head c d ks all t fs h h1 e4 e2) in
    let h3 : ts ≡ told_list (in_loop (behind_values fs (behind_told t x))) false ss =
    e7 ∙ ap (λ (y : Context). told_list y false ss) h2 in
    e9 ∙ ap (λ (ys : List Known). told_by (in_force c ys) p what vs nothing_told h.values.infos h.values.broken h.values.used (h.variables ∷ ts) (h.kept ++ kept_in ts)) e8
    ∙ ap (λ (y : Head). told_by x p what vs nothing_told y.values.infos y.values.broken y.values.used (y.variables ∷ ts) (y.kept ++ kept_in ts)) h1
    ∙ for_of_head x p what vs t fs ts
    ∙ ap (λ (ys : List Told). told_of x p what vs (for_with t fs ys)) h3
    ∙ ap (for_behind x p what vs ss) e1
    ∙ ap (λ (ys : List Statement). told_of x p what vs (for_parts_of x vs ys)) (sym e)

-- what stays in force
pub front : (ks all more : List Known) (n : ℕ) → n ≡ length ks → all ≡ ks ++ more → take n all ≡ ks
front ks all more n e h =
    ap (λ (k : ℕ). take k all) e ∙ ap (take (length ks)) h ∙ take-append_seam ks more

pub stays : (ks all more ls ds : List Known) (n : ℕ) → ls ≡ take n all → n ≡ length ks → all ≡ ks ++ more → ds ≡ []
    → ls ≡ ks ++ ds
stays ks all more ls ds n e h k l =
    e ∙ front ks all more n h k ∙ sym (append-nil ks) ∙ ap (λ (xs : List Known). ks ++ xs) (sym l)

-- a part that is a scope of its own
pub part_alone : (c : Context) (b : Bool) (s : Statement) (line n : ℕ) (t r : Told)
    → b ≡ false → line ≡ c.program.line (place_of s) → n ≡ c.next → t ≡ told c s → r ≡ own_scope line n t
    → r ≡ told_part c b s
part_alone c b s line n t r e h k l m =
    m ∙ ap (λ (i : ℕ). own_scope i n t) h ∙ ap (λ (i : ℕ). own_scope (c.program.line (place_of s)) i t) k
    ∙ ap (own_scope (c.program.line (place_of s)) c.next) l ∙ ap (λ (d : Bool). told_part c d s) (sym e)

-- the same of a call that may fail
pub whole_for : {A E : Type 0} (r : Result A E) (f : A → Told) (c : Context) (s : Statement) (p : Place)
    (what : StatementKind) (vs : List Value) (ss : List Statement)
    → p ≡ statement_place s → what ≡ statement_kind s → vs ≡ statement_values s → ss ≡ statement_parts s
    → is_for what ≡ true → IfOk r (λ y. f y ≡ told_of c p what vs (for_parts_of c vs ss))
    → IfOk r (λ y. f y ≡ told c s)
whole_for r f c s p what vs ss e1 e2 e4 e5 b h =
    subst (λ (t : Told). IfOk r (λ y. f y ≡ t))
    (of_for c p what (statement_own s) vs ss b ∙ at_statement c s p what (statement_own s) vs ss e1 e2 refl e4 e5) h

pub whole_other : {A E : Type 0} (r : Result A E) (f : A → Told) (c : Context) (s : Statement) (p : Place)
    (what : StatementKind) (own : List Variable) (vs : List Value) (ss : List Statement)
    → p ≡ statement_place s → what ≡ statement_kind s → own ≡ statement_own s → vs ≡ statement_values s
    → ss ≡ statement_parts s → is_for what ≡ false
    → IfOk r (λ y. f y ≡ told_of c p what vs (parts_of c what own vs ss)) → IfOk r (λ y. f y ≡ told c s)
whole_other r f c s p what own vs ss e1 e2 e3 e4 e5 b h =
    subst (λ (t : Told). IfOk r (λ y. f y ≡ t))
    (of_other c p what own vs ss b ∙ at_statement c s p what own vs ss e1 e2 e3 e4 e5) h

-- a list by its first item
pub first_of : {A : Type 0} (x : A) (xs : List A) → 1 ≤ length xs → x ≡ slice_index_or xs 0 x → xs ≡ x ∷ drop 1 xs
first_of x [] l e = let z : 1 ≤ zero = omega (arith, l) in elim (not-suc-le-zero z) [ ]
first_of x (y ∷ ys) l e = ap (λ z. z ∷ ys) (sym e)
