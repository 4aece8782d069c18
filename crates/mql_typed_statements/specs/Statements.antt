-- What statements are typed (MQL5 Reference, Language Basics, Operators).
use Rattle.std.specs.Prelude.{ℕ, zero, ◌+◌, ℤ, pos, Bool, true, false, suc, List, [], ◌∷◌, ◌++◌, length, drop, Option, Some, None, if◌then◌else◌}
use Rattle.fx8.specs.declared.int_kind.IntKind.{IntKind}
use Rattle.fx8.specs.declared.int_kind.IntKind.TheVariants as int_kind
use Rattle.fx8.specs.Integers.{wrapped}
use Rattle.mql_mean.specs.declared.value.Value.TheVariants as value
use Rattle.mql_mean.specs.declared.value.Value as constant
use Rattle.mql_meaning.specs.declared.types.VarType.{VarType}
use Rattle.mql_meaning.specs.declared.types.Sort.TheVariants as sort
use Rattle.mql_meaning.specs.declared.tree.Expression.{Expression}
use Rattle.mql_meaning.specs.declared.tree.Expression.TheVariants as expression
use Rattle.mql_meaning.specs.declared.tree.Statement as typed
use Rattle.mql_meaning.specs.declared.tree.Statement.TheVariants as made
use Rattle.mql_meaning.specs.Places.{number_of}
use Rattle.mql_syntax.specs.declared.kind.Place.{Place}
use Rattle.mql_syntax.specs.declared.kind.StatementKind.{StatementKind}
use Rattle.mql_syntax.specs.declared.kind.StatementKind.TheVariants as kind
use Rattle.mql_syntax.specs.declared.value.Value.{Value}
use Rattle.mql_syntax.specs.declared.statement.Statement.{Statement, Node'}
use Rattle.mql_names.specs.declared.fault.Broken.{Broken}
use Rattle.mql_types.specs.declared.types.Base.{Base}
use Rattle.mql_scope.specs.declared.context.Known.{Known}
use Rattle.mql_typed.specs.declared.info.Info.{Info}
use Rattle.mql_scope.specs.Contexts.{Program, Context}
use Rattle.mql_typed.specs.Typed.{value_base, value_of, into_sort, converted, condition}
use Rattle.mql_calls.specs.Nodes.{nth}
use Rattle.mql_expressions.specs.Values.{innermost, broken_at}
use Rattle.mql_statements.specs.declared.told.LabelValue.{LabelValue}
use Rattle.mql_statements.specs.declared.told.LabelValue.TheVariants.{Default, NoConstant, Number}
use Rattle.mql_statements.specs.declared.told.Label.{Label}
use Rattle.mql_statements.specs.declared.told.Told.{Told}
use Rattle.mql_typed_statements.specs.declared.made.Inner.{Inner}
use Rattle.mql_statements.specs.Told.{nothing_told, evaluated, has_declared, joined}
use Rattle.mql_statements.specs.Rules.{switch_kind, lowest}

-- the locals of a scope begin anew, where it declares any
abbrev pub anew : ℕ → ℕ → Told → typed.Statement
anew line first t = made.Reset line first (first + length t.kept)

abbrev pub beginning : ℕ → ℕ → Told → List typed.Statement
beginning line first t = if has_declared t.declared then anew line first t ∷ [] else []

-- statements behind what begins anew; where anything does, in a block
abbrev pub any_begin : List typed.Statement → Bool
any_begin [] = false
any_begin (s ∷ ss) = true

abbrev pub in_block : ℕ → List typed.Statement → List typed.Statement → List typed.Statement
in_block line begins ss = if any_begin begins then made.Block line (begins ++ ss) [] ∷ [] else ss

-- a statement that is a scope
abbrev pub scope_statements : ℕ → ℕ → Told → List typed.Statement
scope_statements line first t = in_block line (beginning line first t) t.typed

-- the typed values of a statement
abbrev pub typed_value : (Info → Expression) → Option Info → List Expression
typed_value f None = []
typed_value f (Some i) = f i ∷ []

abbrev pub typed_values : List (Option Info) → List Expression
typed_values [] = []
typed_values (i ∷ is) = typed_value (λ j. j.typed) i ++ typed_values is

abbrev pub always : Expression
always = expression.Constant (value.Num int_kind.Bool (pos 1))

abbrev pub test_of : Option Info → Expression
test_of None = always
test_of (Some i) = condition i

-- a loop of a test, its step and its body
abbrev pub looped : ℕ → Bool → Expression → List Expression → List typed.Statement → typed.Statement
looped line first test step body = made.Loop line first test step body

-- a test, if there is one, and the values of the step
abbrev pub for_test : Bool → List (Option Info) → Expression
for_test true is = test_of (nth 0 is)
for_test false is = always

abbrev pub for_step : Bool → List (Option Info) → List Expression
for_step true is = typed_values (drop 1 is)
for_step false is = typed_values is

abbrev pub for_loop : ℕ → Bool → List (Option Info) → List typed.Statement → typed.Statement
for_loop line tested is body = looped line false (for_test tested is) (for_step tested is) body

-- `switch`: its value and its labels are taken into one kind
abbrev pub label_value : IntKind → LabelValue → List constant.Value
label_value k (Number x) = value.Num k (wrapped k x) ∷ []
label_value k _ = []

abbrev pub label_values : IntKind → List Label → List constant.Value
label_values k [] = []
label_values k (l ∷ ls) = label_value k l.label ++ label_values k ls

abbrev pub label_place : LabelValue → ℕ → List ℕ
label_place (Number x) n = n ∷ []
label_place _ n = []

abbrev pub label_places : List Label → List ℕ
label_places [] = []
label_places (l ∷ ls) = label_place l.label l.before ++ label_places ls

-- the place of `default`, or the end
abbrev pub default_at : LabelValue → ℕ → ℕ → ℕ
default_at Default n other = n
default_at _ n other = other

abbrev pub default_place : ℕ → List Label → ℕ
default_place end [] = end
default_place end (l ∷ ls) = default_at l.label l.before (default_place end ls)

abbrev pub switched_of : ℕ → IntKind → Expression → List Label → List typed.Statement → typed.Statement
switched_of line k e ls ss =
    made.Switch line e (label_values k ls) (label_places ls) (default_place (length ss) ls) ss

abbrev pub switched : ℕ → Option Info → List Label → List typed.Statement → List typed.Statement
switched line None ls ss = []
switched line (Some i) ls ss =
    let k = switch_kind (value_base i) in switched_of line k (into_sort (sort.Number k) i) ls ss ∷ []

-- `return`
abbrev pub returned : Option Base → Option Info → List Expression
returned (Some b) (Some i) = converted b i ∷ []
returned _ _ = []

-- `delete`
abbrev pub deleted : Option Info → List Expression
deleted i = typed_value (λ j. expression.Delete (value_of j ∷ [])) i

-- a label's number
abbrev pub number_label : Option ℤ → LabelValue
number_label None = NoConstant
number_label (Some x) = Number x

abbrev pub label_number : Option constant.Value → LabelValue
label_number None = NoConstant
label_number (Some v) = number_label (number_of v)

abbrev pub label_told : Program → List Known → List Value → LabelValue
label_told p ks [] = NoConstant
label_told p ks (v ∷ vs) = label_number (p.constant ks v)

abbrev pub a_label : LabelValue → List Label
a_label x = record { label = x; before = 0 } ∷ []

-- statements whose parts share one scope
abbrev pub shares : StatementKind → Bool
shares kind.Block = true
shares kind.Switch = true
shares _ = false

abbrev pub nth_told : ℕ → List Told → Told
nth_told n [] = nothing_told
nth_told zero (t ∷ ts) = t
nth_told (suc n) (t ∷ ts) = nth_told n ts

-- the labels of the scope that parts share: those of a `switch` are its own
abbrev pub labels_for : StatementKind → List Label → List Label
labels_for kind.Switch ls = ls
labels_for _ ls = []

-- what the parts of a statement are, from the number of its first local on: parts that share a scope, and a first
-- and a second part
abbrev pub shared_inner : StatementKind → ℕ → ℕ → Told → Inner
shared_inner what line first t =
    record { begins = beginning line first t; typed = t.typed; second = []; labels = labels_for what t.labels }

abbrev pub single_inner : ℕ → ℕ → Told → Told → Inner
single_inner line first t u =
    record { begins = beginning line first t; typed = t.typed; second = u.typed; labels = [] }

abbrev pub inner_of : StatementKind → ℕ → ℕ → List Told → Inner
inner_of what line first ts =
    if shares what then shared_inner what line first (joined ts)
    else single_inner line first (nth_told 0 ts) (nth_told 1 ts)

-- the typed statements of a statement: of its declared variables, its values and its parts. (The first part of a
-- `for` is what it begins with, and the second is its body.)
abbrev pub statements :
    StatementKind → ℕ → Option Base → List (Option Info) → List typed.Statement → Inner → List typed.Statement
statements kind.Block line result is own x = made.Block line (x.begins ++ x.typed) [] ∷ []
statements kind.Empty line result is own x = []
statements kind.Declaration line result is own x = own
statements kind.Evaluation line result is own x = evaluated line (typed_values is)
statements kind.If line result is own x = made.If line (test_of (nth 0 is)) x.typed x.second ∷ []
statements kind.While line result is own x = looped line false (test_of (nth 0 is)) [] x.typed ∷ []
statements kind.Do line result is own x = looped line true (test_of (nth 0 is)) [] x.typed ∷ []
statements (kind.For tested) line result is own x =
    in_block line x.begins (x.typed ++ for_loop line tested is x.second ∷ [])
statements kind.Switch line result is own x = in_block line x.begins (switched line (nth 0 is) x.labels x.typed)
statements kind.Case line result is own x = []
statements kind.Default line result is own x = []
statements kind.Break line result is own x = made.Break line ∷ []
statements kind.Continue line result is own x = made.Continue line ∷ []
statements kind.Return line result is own x = made.Return line (returned result (nth 0 is)) ∷ []
statements kind.Delete line result is own x = evaluated line (deleted (nth 0 is))

-- a part that is a scope of its own
abbrev pub own_scope : ℕ → ℕ → Told → Told
own_scope line first t = record t { typed = scope_statements line first t; declared = [] }

abbrev pub place_of : Statement → Place
place_of (Node' place what locals values m row) = place

-- the label that a statement is
abbrev pub label_of : Program → List Known → StatementKind → List Value → List Label
label_of p ks kind.Case vs = a_label (label_told p ks vs)
label_of p ks kind.Default vs = a_label Default
label_of p ks _ vs = []

-- what a statement is told, of its declared variables, what its values tell, the rules broken in them and the
-- functions that they use, its parts, and the locals that all these take
abbrev pub told_by :
    Context → Place → StatementKind → List Value → Told → List (Option Info) → List Broken → List ℕ → List Told
    → List VarType → Told
told_by c place what vs own is below calls ts kept =
    let x = inner_of what (c.program.line place) c.next ts in
    record {
      typed = statements what (c.program.line place) c.result is own.typed x;
      kept = kept;
      declared = own.declared;
      statics = own.statics ++ (joined ts).statics;
      labels = label_of c.program c.locals what vs;
      broken = innermost place (own.broken ++ (below ++ ((joined ts).broken
          ++ broken_at place (lowest c what is x.labels))));
      used = own.used ++ (calls ++ (joined ts).used);
    }
