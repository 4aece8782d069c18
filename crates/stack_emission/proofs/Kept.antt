-- Code keeps standing while more is known.
use Rattle.std.proofs.Common.{ℕ, ◌==◌, not, Bool, true, false, List, [], ◌∷◌}
use Rattle.mql_mean.specs.declared.value.Value.{Value}
use Rattle.mql_meaning.specs.declared.tree.Callee.{Callee}
use Rattle.mql_meaning.specs.declared.tree.Callee.TheVariants as callee
use Rattle.mql_meaning.specs.declared.tree.Expression.{Expression, Constant, Apply', Choose', Call', Native', Make', Delete', After', Named', Row_of-Expression, end_of-Expression, more_of-Expression}
use Rattle.mql_meaning.specs.Expressions.{is_void}
use Rattle.stack_code.specs.declared.code.Instruction.{Instruction}
use Rattle.stack_code.specs.Machine.{operands_of}
use Rattle.stack_follows.specs.Spans.{Listing, ◌▷◌, WithLabel, One, Label, Push, StuckIf, LetGo}
use Rattle.stack_follows.specs.Expressions.{is_short, count, Equals, JoinAt, CallAt, NamesAt, ExpressionAt, PartsAt, ChoiceAt, PickAt, AllLetGo, OperandAt}
use Rattle.mql_meaning.specs.declared.tree.Function.{Function}
use Rattle.stack_emission.specs.Draft.{Coding, ◌then◌, with_label, one, label, push, stuck_if, let_go, expression, operand, operands, all_let_go, first, second, call, equals, join, names}

-- all that is known of one code holds of another
pub record Kept (here there : Listing) : Type 0 where
  pub instructions : (place : ℕ) (i : Instruction) → here.instruction_at place i → there.instruction_at place i
  pub labels : (label place : ℕ) → here.label_at label place → there.label_at label place
  pub constants : (number : ℕ) (v : Value) → here.constant_at number v → there.constant_at number v
  pub functions : (k operands : ℕ) (gives : Bool) → here.function_at k operands gives → there.function_at k operands gives

-- what stands keeps standing
pub seq_map : {A A' B B' : ℕ → ℕ → Type 0} (a b : ℕ) → ((a b : ℕ) → A a b → A' a b) → ((a b : ℕ) → B a b → B' a b) → (A ▷ B) a b → (A' ▷ B') a b
seq_map a b f g s = record { mid = s.mid; first = f a s.mid s.first; rest = g s.mid b s.rest }

pub with_map : {A A' : ℕ → ℕ → ℕ → Type 0} (a b : ℕ) → ((l a b : ℕ) → A l a b → A' l a b) → WithLabel A a b → WithLabel A' a b
with_map a b f s = record { label = s.label; is = f s.label a b s.is }

module _ (here there : Listing) (k : Kept here there) where
  pub one_kept : (i : Instruction) (a b : ℕ) → One here i a b → One there i a b
  one_kept i a b s = record { at = k.instructions a i s.at; next = s.next }

  pub label_kept : (l a b : ℕ) → Label here l a b → Label there l a b
  label_kept l a b s = record { at = k.labels l b s.at; same = s.same }

  pub push_kept : (v : Value) (a b : ℕ) → Push here v a b → Push there v a b
  push_kept v a b s = record { number = s.number; is = k.constants s.number v s.is; one = one_kept _ a b s.one }

  pub stuck_kept : (t : Bool) (a b : ℕ) → StuckIf here t a b → StuckIf there t a b
  stuck_kept true a b s = seq_map a b (push_kept _) (one_kept _) s
  stuck_kept false a b s = s

  pub go_kept : (t : Bool) (a b : ℕ) → LetGo here t a b → LetGo there t a b
  go_kept true a b s = s
  go_kept false a b s = one_kept _ a b s

  pub equals_kept : (v : Value) (a b : ℕ) → Equals here v a b → Equals there v a b
  equals_kept v a b s = record { kind = s.kind; is_number = s.is_number; is = seq_map a b (push_kept v) (one_kept _) s.is }

  pub join_kept : (t : Bool) (before : List ℕ) (a b : ℕ) → JoinAt here t before a b → JoinAt there t before a b
  join_kept true before a b s = one_kept _ a b s
  join_kept false before a b s = push_kept _ a b s

  pub call_kept : (f : Callee) (gives : Bool) (n a b : ℕ) → CallAt here f gives n a b → CallAt there f gives n a b
  call_kept (callee.Direct f) gives n a b s = record { takes = k.functions f n gives s.takes; one = one_kept _ a b s.one }
  call_kept (callee.Virtual class signature) gives n a b s = absurd s

  pub names_kept : (before : List ℕ) (out : ℕ) (vs : List Value) (ss : List (List ℕ)) (a b : ℕ) → NamesAt here before out vs ss a b → NamesAt there before out vs ss a b
  names_kept before out (v ∷ vs) (s ∷ ss) a b t =
      with_map a b (λ next a b. seq_map a b (one_kept _) λ a b. seq_map a b (equals_kept v) λ a b. seq_map a b (one_kept _) λ a b. seq_map a b (one_kept _) λ a b. seq_map a b (one_kept _) λ a b. seq_map a b (push_kept _) λ a b. seq_map a b (one_kept _) λ a b. seq_map a b (label_kept next) (names_kept before out vs ss)) t
  names_kept before out [] ss a b t = seq_map a b (one_kept _) (join_kept (is_short before) before) t
  names_kept before out (v ∷ vs) [] a b t = seq_map a b (one_kept _) (join_kept (is_short before) before) t

  mutual
    pub expression_kept : (e : Expression) (a b : ℕ) → ExpressionAt here e a b → ExpressionAt there e a b
    expression_kept (Constant v) a b s = push_kept v a b s
    expression_kept (Apply' o p parts) a b s = seq_map a b (row_kept parts) (λ a b. seq_map a b (stuck_kept (not (count parts == operands_of o))) (one_kept _)) s
    expression_kept (Choose' p parts) a b s = choice_kept parts a b s
    expression_kept (Call' f gives p parts) a b s = seq_map a b (row_kept parts) (call_kept f gives (count parts)) s
    expression_kept (Native' f p parts) a b s = seq_map a b (row_kept parts) (one_kept _) s
    expression_kept (Make' class c p parts) a b s = absurd s
    expression_kept (Delete' p parts) a b s = absurd s
    expression_kept (After' p before q last) a b s = seq_map a b (all_go_kept before) (pick_kept true last) s
    expression_kept (Named' texts labels before p parts) a b s =
        with_map a b (λ out a b. seq_map a b (push_kept _) λ a b. seq_map a b (pick_kept true parts) λ a b. seq_map a b (names_kept before out labels texts) (label_kept out)) s

    pub row_kept : {m : _} (es : Row_of-Expression m) (a b : ℕ) → PartsAt here es a b → PartsAt there es a b
    row_kept end_of-Expression a b s = s
    row_kept (more_of-Expression e es) a b s = seq_map a b (λ a b. seq_map a b (expression_kept e) (stuck_kept (is_void e))) (row_kept es) s

    pub choice_kept : {m : _} (es : Row_of-Expression m) (a b : ℕ) → ChoiceAt here es a b → ChoiceAt there es a b
    choice_kept end_of-Expression a b s = stuck_kept true a b s
    choice_kept (more_of-Expression c es) a b s =
        with_map a b (λ other a b. with_map a b λ out a b. seq_map a b (λ a b. seq_map a b (expression_kept c) (stuck_kept (is_void c))) λ a b. seq_map a b (one_kept _) λ a b. seq_map a b (pick_kept true es) λ a b. seq_map a b (one_kept _) λ a b. seq_map a b (label_kept other) λ a b. seq_map a b (pick_kept false es) (label_kept out)) s

    pub pick_kept : {m : _} (t : Bool) (es : Row_of-Expression m) (a b : ℕ) → PickAt here t es a b → PickAt there t es a b
    pick_kept t end_of-Expression a b s = stuck_kept true a b s
    pick_kept true (more_of-Expression e es) a b s = seq_map a b (expression_kept e) (stuck_kept (is_void e)) s
    pick_kept false (more_of-Expression e es) a b s = pick_kept true es a b s

    pub all_go_kept : {m : _} (es : Row_of-Expression m) (a b : ℕ) → AllLetGo here es a b → AllLetGo there es a b
    all_go_kept end_of-Expression a b s = s
    all_go_kept (more_of-Expression e es) a b s = seq_map a b (λ a b. seq_map a b (expression_kept e) (go_kept (is_void e))) (all_go_kept es) s

  pub operand_kept : (e : Expression) (a b : ℕ) → OperandAt here e a b → OperandAt there e a b
  operand_kept e a b s = seq_map a b (expression_kept e) (stuck_kept (is_void e)) s

-- code that keeps standing
abbrev pub Stays : Coding → Type 1
Stays A = (functions : List Function) (here there : Listing) → Kept here there → (a b : ℕ) → A functions here a b → A functions there a b

pub then_stays : (A B : Coding) → Stays A → Stays B → Stays (A then B)
then_stays A B f g functions here there k a b s = seq_map a b (f functions here there k) (g functions here there k) s

pub with_stays : (A : ℕ → Coding) → ((l : ℕ) → Stays (A l)) → Stays (with_label A)
with_stays A f functions here there k a b s = with_map a b (λ l. f l functions here there k) s

pub one_stays : (i : Instruction) → Stays (one i)
one_stays i functions here there k a b s = one_kept here there k i a b s

pub label_stays : (l : ℕ) → Stays (label l)
label_stays l functions here there k a b s = label_kept here there k l a b s

pub push_stays : (v : Value) → Stays (push v)
push_stays v functions here there k a b s = push_kept here there k v a b s

pub stuck_stays : (t : Bool) → Stays (stuck_if t)
stuck_stays t functions here there k a b s = stuck_kept here there k t a b s

pub go_stays : (t : Bool) → Stays (let_go t)
go_stays t functions here there k a b s = go_kept here there k t a b s

pub expression_stays : (e : Expression) → Stays (expression e)
expression_stays e functions here there k a b s = λ h. expression_kept here there k e a b (s h)

pub operand_stays : (e : Expression) → Stays (operand e)
operand_stays e = then_stays (expression e) (stuck_if (is_void e)) (expression_stays e) (stuck_stays (is_void e))

pub operands_stay : (es : List Expression) → Stays (operands es)
operands_stay [] functions here there k a b s = s
operands_stay (e ∷ es) functions here there k a b s = then_stays (operand e) (operands es) (operand_stays e) (operands_stay es) functions here there k a b s

pub all_go_stay : (es : List Expression) → Stays (all_let_go es)
all_go_stay [] functions here there k a b s = s
all_go_stay (e ∷ es) functions here there k a b s = then_stays (expression e then let_go (is_void e)) (all_let_go es) (then_stays (expression e) (let_go (is_void e)) (expression_stays e) (go_stays (is_void e))) (all_go_stay es) functions here there k a b s

pub first_stays : (es : List Expression) → Stays (first es)
first_stays [] functions here there k a b s = stuck_kept here there k true a b s
first_stays (e ∷ es) functions here there k a b s = operand_stays e functions here there k a b s

pub second_stays : (es : List Expression) → Stays (second es)
second_stays [] functions here there k a b s = stuck_kept here there k true a b s
second_stays (e ∷ es) functions here there k a b s = first_stays es functions here there k a b s

pub equals_stays : (v : Value) → Stays (equals v)
equals_stays v functions here there k a b s = λ h. equals_kept here there k v a b (s h)

pub call_stays : (f : Callee) (gives : Bool) (n : ℕ) → Stays (call f gives n)
call_stays f gives n functions here there k a b s = λ h. call_kept here there k f gives n a b (s h)

pub join_stays : (t : Bool) (before : List ℕ) → Stays (join t before)
join_stays t before functions here there k a b s = join_kept here there k t before a b s

pub names_stay : (before : List ℕ) (out : ℕ) (vs : List Value) (ss : List (List ℕ)) → Stays (names before out vs ss)
names_stay before out (v ∷ vs) (s ∷ ss) functions here there k a b t =
    with_map a b (λ next a b. seq_map a b (one_kept here there k _) λ a b. seq_map a b (equals_stays v functions here there k) λ a b. seq_map a b (one_kept here there k _) λ a b. seq_map a b (one_kept here there k _) λ a b. seq_map a b (one_kept here there k _) λ a b. seq_map a b (push_kept here there k _) λ a b. seq_map a b (one_kept here there k _) λ a b. seq_map a b (label_kept here there k next) (names_stay before out vs ss functions here there k)) t
names_stay before out [] ss functions here there k a b t = seq_map a b (one_kept here there k _) (join_kept here there k (is_short before) before) t
names_stay before out (v ∷ vs) [] functions here there k a b t = seq_map a b (one_kept here there k _) (join_kept here there k (is_short before) before) t
