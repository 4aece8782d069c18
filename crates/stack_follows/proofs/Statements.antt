-- The machine does what statements do, whatever the code of a cleanup is.
use Rattle.std.proofs.Common.{◌≡◌, ℕ, zero, suc, ◌+◌, ◌-◌, ◌==◌, not, Bool, true, false, List, [], ◌∷◌, Some, None, refl, sym, ap, ◌∙◌, subst, arith}
use Rattle.std.specs.Prelude.{nat_le, is_some, take, drop}
use Rattle.std.proofs.lemmas.Bool.{eq-eqb, le-leb}
use Rattle.mql_mean.specs.declared.value.Value.{Value}
use Rattle.mql_meaning.specs.declared.store.Store.{Store}
use Rattle.mql_meaning.specs.declared.types.VarType.{VarType}
use Rattle.mql_meaning.specs.declared.tree.Cleanup.{Cleanup}
use Rattle.mql_meaning.specs.declared.tree.Expression.{Expression}
use Rattle.mql_meaning.specs.declared.tree.Statement.{Statement, Evaluate, Reset, Return, Break, Continue, If', Loop', Switch', Block', Row_of-Statement, end_of-Statement, more_of-Statement}
use Rattle.mql_meaning.specs.Changes.{Stuck, Out, Done, after, give}
use Rattle.mql_meaning.specs.Runs.{World, Res, Go, End, Act, bind, ◌>>=◌, ◌>>◌, pure, halt, in_run, change, choose}
use Rattle.mql_meaning.specs.Places.{set_line}
use Rattle.mql_meaning.specs.Frames.{reset, leave}
use Rattle.mql_meaning.specs.Operands.{Operand, Val, At}
use Rattle.mql_meaning.specs.Natives.{void_value}
use Rattle.mql_meaning.specs.Expressions.{Call, is_void, operand_of}
use Rattle.mql_meaning.specs.Statements.{Flow, Next as NextFlow, Broke, Continued, Gave, on_next, on_turn, after_switch, round, turns, cleans, closes, leads, does, does_row, does_from, does_all}
use Rattle.mql_meaning.specs.Means.{given}
use Rattle.stack_code.specs.declared.code.Code.{Code}
use Rattle.stack_code.specs.declared.code.FunctionCode.{FunctionCode}
use Rattle.stack_code.specs.declared.code.Instruction.TheVariants as instruction
use Rattle.stack_code.specs.Machine.{Back, Next, On, Halt, land, Taken, beside, function_at, locals_of, label_at, goes, branch, goes_back, returned, returns, Comes}
use Rattle.stack_follows.specs.Spans.{Listing, Span, One, Jump, Unless, Label, StuckIf}
use Rattle.stack_follows.specs.Expressions.{OperandAt}
use Rattle.stack_follows.specs.Stands.{Exits, inside, listing, Line, CleanupsAt, ExitAt, BlockAt, FirstAt, TestsAt, LabelIf, LabelsAt, LabelsAtEnd, StatementAt, StatementsAt, CasesAt, BodyAt}
use Rattle.stack_follows.proofs.Steps.{Runs, Does, then_comes, stays, then_does, next_does, from_does, to_does, pure_does, choose_does, fewer, one_comes, effect_does, effect_comes, jump_comes, jump_to, moves, line_does, spend_does, spent_does, unless_void, stuck_comes, stuck_does, let_go_comes}
use Rattle.stack_follows.proofs.Expressions.{gives_in, CallDoes, equals_does, expression_does, operand_does, test_does, lets_go_does}

-- a place and its label in a list of places and a list of labels
data In (place l : ℕ) : List ℕ → List ℕ → Type 0 where
  First : (places ls : List ℕ) → In place l (place ∷ places) (l ∷ ls)
  Later : (p m : ℕ) (places ls : List ℕ) → In place l places ls → In place l (p ∷ places) (m ∷ ls)

-- within so many steps, the code of cleanups does what they do
abbrev pub CleanupsDo : Code → ℕ → (Cleanup → Span) → ℕ → Call → List Back → Type 0
CleanupsDo code k CleanupAt d call backs = (c : Cleanup) (pc pc' : ℕ) (ops : List Operand) → CleanupAt c pc pc' → Does code d (On k pc ops backs) (cleans code.classes call c) (λ _. On k pc' ops backs)

module _ (code : Code) (k : ℕ) (CleanupAt : Cleanup → Span) (backs : List Back) (gives : Bool) where
  abbrev here : Listing
  here = listing code k

  -- where a statement leads: on, or to one of its exits
  abbrev pub ends : ℕ → Exits → List Operand → Flow → ℕ → World → Next
  ends pc' exits ops NextFlow = On k pc' ops backs
  ends pc' exits ops Broke = goes (label_at code k exits.to_break) k ops backs
  ends pc' exits ops Continued = goes (label_at code k exits.to_continue) k ops backs
  ends pc' exits ops (Gave x) = goes (label_at code k exits.to_return) k (unless_void (not gives) x ops) backs

  at_label : {l p place : ℕ} (ops : List Operand) → Label here l p place → (n : ℕ) (w : World) → Comes code (goes (label_at code k l) k ops backs n w) (On k place ops backs n w)
  at_label ops at n w = stays (ap (λ o. goes o k ops backs n w) at.at)

  stays_at : {place : ℕ} (l : ℕ) (ops : List Operand) → label_at code k l ≡ Some place → (n : ℕ) (w : World) → Comes code (goes (label_at code k l) k ops backs n w) (On k place ops backs n w)
  stays_at l ops e n w = stays (ap (λ o. goes o k ops backs n w) e)

  -- labels take no room
  label_if : (b : Bool) (l : ℕ) {pc pc' : ℕ} → LabelIf here CleanupAt gives b l pc pc' → pc ≡ pc'
  label_if true l at = at.same
  label_if false l at = at

  labels_same : (i : ℕ) (places ls : List ℕ) {pc pc' : ℕ} → LabelsAt here CleanupAt gives i places ls pc pc' → pc ≡ pc'
  labels_same i [] ls at = at
  labels_same i (p ∷ places) [] at = at
  labels_same i (p ∷ places) (l ∷ ls) at = label_if (p == i) l at.first ∙ labels_same i places ls at.rest

  end_labels_same : (i : ℕ) (places ls : List ℕ) {pc pc' : ℕ} → LabelsAtEnd here CleanupAt gives i places ls pc pc' → pc ≡ pc'
  end_labels_same i [] ls at = at
  end_labels_same i (p ∷ places) [] at = at
  end_labels_same i (p ∷ places) (l ∷ ls) at = label_if (nat_le i p) l at.first ∙ end_labels_same i places ls at.rest

  -- where the label of a place stands
  stands_if : (b : Bool) (l pc pc' : ℕ) → LabelIf here CleanupAt gives b l pc pc' → b ≡ true → label_at code k l ≡ Some pc'
  stands_if true l pc pc' at e = at.at
  stands_if false l pc pc' at e = absurd (subst (λ t. elim t as (λ _. Type 0) [ true ↦ ⊥ | false ↦ Unit {0} ]) e (tt {0}))

  label_stands : (i place l : ℕ) (places ls : List ℕ) (pc pc' : ℕ) → In place l places ls → LabelsAt here CleanupAt gives i places ls pc pc' → (place == i) ≡ true → label_at code k l ≡ Some pc'
  label_stands i place l places ls pc pc' (First rest more) at e = stands_if (place == i) l pc at.mid at.first e ∙ ap (λ q. Some q) (labels_same i rest more at.rest)
  label_stands i place l places ls pc pc' (Later p m rest more q) at e = label_stands i place l rest more at.mid pc' q at.rest e

  end_label_stands : (i place l : ℕ) (places ls : List ℕ) (pc pc' : ℕ) → In place l places ls → LabelsAtEnd here CleanupAt gives i places ls pc pc' → nat_le i place ≡ true → label_at code k l ≡ Some pc'
  end_label_stands i place l places ls pc pc' (First rest more) at e = stands_if (nat_le i place) l pc at.mid at.first e ∙ ap (λ q. Some q) (end_labels_same i rest more at.rest)
  end_label_stands i place l places ls pc pc' (Later p m rest more q) at e = end_label_stands i place l rest more at.mid pc' q at.rest e

  -- what follows where a statement leads on, and where it leads out
  rest_does : {d : ℕ} {mid pc' : ℕ} (exits : Exits) (ops : List Operand) (part : Act Flow) (f : Flow) → Does code d (On k mid ops backs) part (ends pc' exits ops) → Does code d (ends mid exits ops f) (on_next f part) (ends pc' exits ops)
  rest_does exits ops part NextFlow s = s
  rest_does exits ops part Broke s = pure_does _ (λ n w. stays refl)
  rest_does exits ops part Continued s = pure_does _ (λ n w. stays refl)
  rest_does exits ops part (Gave x) s = pure_does _ (λ n w. stays refl)

  -- the place where it leads on is moved
  ends_at : {p pc' : ℕ} (exits : Exits) (ops : List Operand) → ((n : ℕ) (w : World) → Comes code (On k p ops backs n w) (On k pc' ops backs n w)) → (f : Flow) (n : ℕ) (w : World) → Comes code (ends p exits ops f n w) (ends pc' exits ops f n w)
  ends_at exits ops c NextFlow n w = c n w
  ends_at exits ops c Broke n w = stays refl
  ends_at exits ops c Continued n w = stays refl
  ends_at exits ops c (Gave x) n w = stays refl

  choice_first : {d : ℕ} {A : Type 0} {from : ℕ → World → Next} {to : A → ℕ → World → Next} {a : Act A} (b : Act A) → Does code d from a to → Does code d from (choose true a b) to
  unfolding choose
  choice_first b s = record { runs = s.runs }

  choice_second : {d : ℕ} {A : Type 0} {from : ℕ → World → Next} {to : A → ℕ → World → Next} (a : Act A) {b : Act A} → Does code d from b to → Does code d from (choose false a b) to
  unfolding choose
  choice_second a s = record { runs = s.runs }

  -- a part after what is given at once, after one of two, and after two
  pure_then : {d : ℕ} {A B : Type 0} {from : ℕ → World → Next} {to : B → ℕ → World → Next} {a : A} (part : A → Act B) → Does code d from (part a) to → Does code d from (pure a >>= part) to
  unfolding pure ◌>>=◌
  pure_then part s = record { runs = s.runs }

  choice_then : {d : ℕ} {A B : Type 0} {yes other : ℕ → World → Next} {to : B → ℕ → World → Next} (p q : Act A) (part : A → Act B) (b : Bool) → Does code d yes (p >>= part) to → Does code d other (q >>= part) to → Does code d (λ n w. branch b (yes n w) (other n w)) (choose b p q >>= part) to
  unfolding choose ◌>>=◌
  choice_then p q part true s t = record { runs = s.runs }
  choice_then p q part false s t = record { runs = t.runs }

  bind_bind : {A B C : Type 0} (r : Res A) (g : A → Act B) (h : B → Act C) → bind r (λ a n w. bind (g a n w) h) ≡ bind (bind r g) h
  bind_bind (Go a n w) g h = refl
  bind_bind (End e n w) g h = refl

  associated : {d : ℕ} {A B C : Type 0} {from : ℕ → World → Next} {to : C → ℕ → World → Next} (p : Act A) (g : A → Act B) (h : B → Act C) → Does code d from (p >>= λ a. g a >>= h) to → Does code d from (p >>= g >>= h) to
  unfolding ◌>>=◌
  associated {from} {to} p g h s = record { runs = λ n w le. subst (λ r. Runs code n (from n w) r to) (bind_bind (p n w) g h) (s.runs n w le) }

  -- the end of a function's body, and its return
  stuck_then : {d : ℕ} {A B : Type 0} {from : ℕ → World → Next} {to : B → ℕ → World → Next} (part : A → Act B) → ((n : ℕ) (w : World) → Comes code (from n w) (Halt Stuck n w)) → Does code d from (halt Stuck >>= part) to
  unfolding halt ◌>>=◌
  stuck_then part c = record { runs = λ n w le. record { comes = c n w; within = tt } }

  return_comes : {ret p : ℕ} {f : FunctionCode} {o : Out (Taken Value)} (on : List Operand) (n : ℕ) (w : World) → One here instruction.Return ret p → function_at code k ≡ Some f → returned (is_some f.result) on w.store ≡ o → Comes code (On k ret on backs n w) (land (in_run (after o (λ t store. after (leave store) (λ _. give t))) n w) (λ t. goes_back backs (is_some f.result) t.it t.rest))
  unfolding change
  return_comes {f} on n w at ef er = one_comes at
      (ap (λ o. returns o on backs n w) ef
      ∙ ap (λ o. land (in_run (after o (λ t store. after (leave store) (λ _. give t))) n w) (λ (t : Taken Value). goes_back backs (is_some f.result) t.it t.rest)) er)

  return_does : {d ret p : ℕ} {f : FunctionCode} {ops : List Operand} (v : Value) (on : List Operand) → One here instruction.Return ret p → function_at code k ≡ Some f → ((store : Store) → returned (is_some f.result) on store ≡ Done (beside v ops) store) → Does code d (On k ret on backs) (change leave >> pure v) (λ v. goes_back backs (gives_in (function_at code k)) v ops)
  unfolding change pure ◌>>◌
  return_does {f} {ops} v on at ef er = record {
    runs = λ n w le. record {
      comes = then_comes (return_comes on n w at ef (er w.store)) (stays (ap (λ o. land ((change leave >> pure v) n w) (λ v. goes_back backs (gives_in o) v ops)) (sym ef)));
      within = omega arith;
    };
  }

  pub given_does : {d ret p_ret p1 p2 : ℕ} {f : FunctionCode} (nowhere p_end : ℕ) (ops : List Operand) (g : Bool) (flow : Flow) → g ≡ gives → function_at code k ≡ Some f → is_some f.result ≡ g → label_at code k nowhere ≡ None → StuckIf here g p_end p1 → Label here ret p1 p_ret → One here instruction.Return p_ret p2 → Does code d (ends p_end (record { to_break = nowhere; to_continue = nowhere; to_return = ret }) ops flow) (given g flow >>= λ v. change leave >> pure v) (λ v. goes_back backs (gives_in (function_at code k)) v ops)
  given_does nowhere p_end ops true NextFlow eg ef er out st ret at = stuck_then _ (stuck_comes st)
  given_does nowhere p_end ops false NextFlow eg ef er out st ret at = pure_then _ (from_does (moves (st ∙ ret.same)) (return_does void_value ops at ef (λ store. ap (λ g. returned g ops store) er)))
  given_does nowhere p_end ops true Broke eg ef er out st ret at = stuck_then _ (λ n w. stays (ap (λ o. goes o k ops backs n w) out))
  given_does nowhere p_end ops false Broke eg ef er out st ret at = stuck_then _ (λ n w. stays (ap (λ o. goes o k ops backs n w) out))
  given_does nowhere p_end ops true Continued eg ef er out st ret at = stuck_then _ (λ n w. stays (ap (λ o. goes o k ops backs n w) out))
  given_does nowhere p_end ops false Continued eg ef er out st ret at = stuck_then _ (λ n w. stays (ap (λ o. goes o k ops backs n w) out))
  given_does {p_ret} nowhere p_end ops true (Gave (Val v)) eg ef er out st ret at =
      pure_then _ (from_does (λ n w. then_comes (at_label _ ret n w) (stays (ap (λ g. On k p_ret (unless_void (not g) (Val v) ops) backs n w) (sym eg))))
      (return_does v (Val v ∷ ops) at ef (λ store. ap (λ g. returned g (Val v ∷ ops) store) er)))
  given_does {p_ret} nowhere p_end ops true (Gave (At p)) eg ef er out st ret at =
      stuck_then _ (λ n w. then_comes (then_comes (at_label _ ret n w) (stays (ap (λ g. On k p_ret (unless_void (not g) (At p) ops) backs n w) (sym eg))))
      (return_comes (At p ∷ ops) n w at ef (ap (λ g. returned g (At p ∷ ops) w.store) er)))
  given_does {p_ret} nowhere p_end ops false (Gave x) eg ef er out st ret at =
      pure_then _ (from_does (λ n w. then_comes (at_label _ ret n w) (stays (ap (λ g. On k p_ret (unless_void (not g) x ops) backs n w) (sym eg))))
      (return_does void_value ops at ef (λ store. ap (λ g. returned g ops store) er)))

  module _ (call : Call) (d : ℕ) (call_does : CallDoes code d call) (cleanups_do : CleanupsDo code k CleanupAt d call backs) (locals : List VarType) (same_locals : locals_of (function_at code k) ≡ locals) where
    -- the cleanups of a list, and on to a label
    closes_does : (line : ℕ) (cs : List Cleanup) {pc pc' : ℕ} {ops : List Operand} → CleanupsAt here CleanupAt gives line cs pc pc' → Does code d (On k pc ops backs) (closes code.classes call line cs) (λ _. On k pc' ops backs)
    closes_does line [] at = pure_does _ (moves at)
    closes_does line (c ∷ cs) at = then_does (line_does at.first) (λ _. then_does (cleanups_do c _ _ _ at.rest.first) (λ _. closes_does line cs at.rest.rest))

    exit_does : (line : ℕ) (cs : List Cleanup) {to pc pc' : ℕ} {ops : List Operand} {from : ℕ → World → Next} {h : Flow → ℕ → World → Next} (f : Flow) → ExitAt here CleanupAt gives line cs to pc pc' → ((n : ℕ) (w : World) → Comes code (from n w) (On k pc ops backs n w)) → ((n : ℕ) (w : World) → Comes code (goes (label_at code k to) k ops backs n w) (h f n w)) → Does code d from (closes code.classes call line cs >> pure f) h
    exit_does line cs f at begin end = from_does begin (next_does (closes_does line cs at.first) (λ _. pure_does f (λ n w. then_comes (jump_comes at.rest n w) (end n w))))

    -- a block
    block_does : (line : ℕ) (cs : List Cleanup) (body : Exits → Span) (part : Act Flow) (exits : Exits) {pc pc' : ℕ} {ops : List Operand} → BlockAt here CleanupAt gives line cs body exits pc pc' → ((exits : Exits) (pc pc' : ℕ) → body exits pc pc' → Does code d (On k pc ops backs) part (ends pc' exits ops)) → Does code d (On k pc ops backs) (part >>= λ f. closes code.classes call line cs >> pure f) (ends pc' exits ops)
    block_does line [] body part exits {pc} {pc'} at body_does = then_does (body_does exits pc pc' at) (λ f. next_does (pure_does tt (λ n w. stays refl)) (λ _. pure_does f (λ n w. stays refl)))
    block_does line (c ∷ cs) body part exits {pc} {pc'} {ops} at body_does =
        let a1 = at.is.is.is.is in let a2 = a1.rest in let a3 = a2.rest in let a4 = a3.rest in let a5 = a4.rest in let a6 = a5.rest in let a7 = a6.rest in let a8 = a7.rest in
        then_does (body_does (record { to_break = at.label; to_continue = at.is.label; to_return = at.is.is.label }) pc a1.mid a1.first) (λ f. leave_by f a1.mid a2.first a3.first a4.first a5.first a6.first a7.first a8.first a8.rest)
      where
        leave_by : (f : Flow) {break continue return out p2 p3 p4 p5 p6 p7 p8 : ℕ} (p1 : ℕ) → ExitAt here CleanupAt gives line (c ∷ cs) out p1 p2 → Label here break p2 p3 → ExitAt here CleanupAt gives line (c ∷ cs) exits.to_break p3 p4 → Label here continue p4 p5 → ExitAt here CleanupAt gives line (c ∷ cs) exits.to_continue p5 p6 → Label here return p6 p7 → ExitAt here CleanupAt gives line (c ∷ cs) exits.to_return p7 p8 → Label here out p8 pc' → Does code d (ends p1 (record { to_break = break; to_continue = continue; to_return = return }) ops f) (closes code.classes call line (c ∷ cs) >> pure f) (ends pc' exits ops)
        leave_by NextFlow p1 x1 l2 x2 l3 x3 l4 x4 l5 = exit_does line (c ∷ cs) NextFlow x1 (λ n w. stays refl) (at_label ops l5)
        leave_by Broke p1 x1 l2 x2 l3 x3 l4 x4 l5 = exit_does line (c ∷ cs) Broke x2 (at_label ops l2) (λ n w. stays refl)
        leave_by Continued p1 x1 l2 x2 l3 x3 l4 x4 l5 = exit_does line (c ∷ cs) Continued x3 (at_label ops l3) (λ n w. stays refl)
        leave_by (Gave x) p1 x1 l2 x2 l3 x3 l4 x4 l5 = exit_does line (c ∷ cs) (Gave x) x4 (at_label (unless_void (not gives) x ops) l4) (λ n w. stays refl)

    -- from a loop's body to its next turn
    round_does : {t line top next out p_top p_in p_next p1 p2 p3 p5 p6 p7 pc' : ℕ} (exits : Exits) (ops : List Operand) {step : Act (Unit {0})} {body again : Act Flow} → Label here top p5 p_top → Label here next p6 p_next → Label here out p7 pc' → Line here CleanupAt gives line p_next p1 → Does code t (On k p1 ops backs) step (λ _. On k p2 ops backs) → Jump here top p2 p3 → Does code t (On k p_in ops backs) body (ends p_next (inside out next exits) ops) → Does code t (On k p_top ops backs) again (ends pc' exits ops) → Does code t (On k p_in ops backs) (round line step body again) (ends pc' exits ops)
    round_does {t} {line} {top} {next} {out} {p_next} {pc'} exits ops {step} {again} at_top at_next at_out ln step_does jump body_does again_does = then_does body_does turn
      where
        on : Does code t (On k p_next ops backs) (change (set_line line) >>= λ _. step >>= λ _. again) (ends pc' exits ops)
        on = then_does (line_does ln) (λ _. then_does step_does (λ _. from_does (jump_to jump at_top.at) again_does))

        turn : (f : Flow) → Does code t (ends p_next (inside out next exits) ops f) (on_turn f (change (set_line line) >>= λ _. step >>= λ _. again)) (ends pc' exits ops)
        turn NextFlow = on
        turn Broke = pure_does _ (at_label ops at_out)
        turn Continued = from_does (at_label ops at_next) on
        turn (Gave x) = pure_does _ (λ n w. stays refl)

    -- a loop, from its test on
    turns_does : (t : ℕ) {line top next out p_top p0 p_in p_next p1 p2 p3 p5 p6 p7 pc' : ℕ} (exits : Exits) (ops : List Operand) {test : Act Bool} {step : Act (Unit {0})} {body : Act Flow} → Label here top p5 p_top → Label here next p6 p_next → Label here out p7 pc' → One here instruction.Step p_top p0 → Does code t (On k p0 ops backs) test (λ b n w. branch b (On k p_in ops backs n w) (On k pc' ops backs n w)) → Line here CleanupAt gives line p_next p1 → Does code t (On k p1 ops backs) step (λ _. On k p2 ops backs) → Jump here top p2 p3 → Does code t (On k p_in ops backs) body (ends p_next (inside out next exits) ops) → Does code t (On k p_top ops backs) (turns t line test step body) (ends pc' exits ops)
    turns_does zero exits ops at_top at_next at_out sp tested ln steps jump turned = spent_does _ sp
    turns_does (suc t) exits ops at_top at_next at_out sp tested ln steps jump turned =
        spend_does sp (then_does (fewer tested) (λ b. choose_does b
        (round_does exits ops at_top at_next at_out ln (fewer steps) jump (fewer turned)
        (turns_does t exits ops at_top at_next at_out sp (fewer tested) ln (fewer steps) jump (fewer turned)))
        (pure_does _ (λ n w. stays refl))))

    -- a `do` loop begins with its body
    first_does : (first : Bool) {inner pc q p p_in p_top : ℕ} {ops : List Operand} {a b : Act Flow} {to : Flow → ℕ → World → Next} → FirstAt here CleanupAt gives first inner pc q → q ≡ p_top → Label here inner p p_in → Does code d (On k p_in ops backs) a to → Does code d (On k p_top ops backs) b to → Does code d (On k pc ops backs) (choose first a b) to
    first_does true at same at_inner s t = choice_first _ (from_does (jump_to at at_inner.at) s)
    first_does false at same at_inner s t = choice_second _ (from_does (moves (at ∙ same)) t)

    -- `return` with no value, and with one, in a function that gives one or none
    bare_return : (g : Bool) {to pc mid pc' : ℕ} {ops : List Operand} {h : Flow → ℕ → World → Next} → StuckIf here g pc mid → Jump here to mid pc' → ((n : ℕ) (w : World) → Comes code (goes (label_at code k to) k (unless_void (not g) (Val void_value) ops) backs n w) (h (Gave (Val void_value)) n w)) → Does code d (On k pc ops backs) (choose g (halt Stuck) (pure (Gave (Val void_value)))) h
    bare_return true st jump end = choice_first _ (stuck_does st)
    bare_return false st jump end = choice_second _ (pure_does _ (λ n w. then_comes (moves st n w) (then_comes (jump_comes jump n w) (end n w))))

    value_return : (g : Bool) (e : Expression) {to pc mid p2 pc' : ℕ} {ops : List Operand} {h : Flow → ℕ → World → Next} → StuckIf here (not g) pc mid → OperandAt here e mid p2 → Jump here to p2 pc' → ((x : Operand) (n : ℕ) (w : World) → Comes code (goes (label_at code k to) k (unless_void (not g) x ops) backs n w) (h (Gave x) n w)) → Does code d (On k pc ops backs) (choose g (operand_of code.classes call e >>= λ x. pure (Gave x)) (halt Stuck)) h
    value_return false e st at jump end = choice_second _ (stuck_does st)
    value_return true e st at jump end = choice_first _ (from_does (moves st) (then_does (operand_does code k call d call_does backs e at) (λ x. pure_does _ (λ n w. then_comes (jump_comes jump n w) (end x n w)))))

    -- the tests of a switch lead to a label of the place that they lead to
    tests_does : (x : Operand) (ks : List Value) (places ls : List ℕ) (other default : ℕ) {pc : ℕ} (pc' : ℕ) {ops : List Operand} {part : ℕ → Act Flow} {h : Flow → ℕ → World → Next} → TestsAt here CleanupAt gives ks places ls default pc pc' → ((place l : ℕ) → In place l (other ∷ places) (default ∷ ls) → Does code d (λ n w. goes (label_at code k l) k ops backs n w) (part place) h) → Does code d (On k pc (x ∷ ops) backs) (leads code.classes call x ks places other >>= part) h
    tests_does x [] places ls other default pc' at led = pure_then _ (from_does (effect_comes at.first (λ store. refl)) (from_does (jump_comes at.rest) (led other default (First places ls))))
    tests_does x (number ∷ ks) [] ls other default pc' at led = pure_then _ (from_does (effect_comes at.first (λ store. refl)) (from_does (jump_comes at.rest) (led other default (First [] ls))))
    tests_does x (number ∷ ks) (place ∷ places) [] other default pc' at led = absurd at
    tests_does x (number ∷ ks) (place ∷ places) (l ∷ ls) other default pc' {ops} at led =
        let a1 = at.is in let a2 = a1.rest in let a3 = a2.rest in let a4 = a3.rest in let a5 = a4.rest in let a6 = a5.rest in
        associated _ _ _ (then_does (equals_does code k call d call_does backs x number ops a1.first a2.first a3.first a6.first.at)
        (λ b. choice_then _ _ _ b
        (from_does (effect_comes {new = ops} a4.first (λ store. refl)) (from_does (jump_comes a5.first) (pure_then _ (led place l (Later other default (place ∷ places) (l ∷ ls) (First places ls))))))
        (tests_does x ks places ls other default pc' a6.rest (λ p m q. led p m (later place l places ls q)))))
      where
        later : (place l : ℕ) (places ls : List ℕ) {p m : ℕ} → In p m (other ∷ places) (default ∷ ls) → In p m (other ∷ place ∷ places) (default ∷ l ∷ ls)
        later place l places ls (First rest more) = First (place ∷ places) (l ∷ ls)
        later place l places ls (Later o e rest more q) = Later other default (place ∷ places) (l ∷ ls) (Later place l places ls q)

    -- the code of a loop, with the labels that take no room left out
    unless_at : {l pc mid pc' : ℕ} → Unless here l pc mid → mid ≡ pc' → Unless here l pc pc'
    unless_at {l} {pc} at e = subst (λ q. Unless here l pc q) e at

    -- after a switch's body
    switched_does : {t p out pc' : ℕ} (exits : Exits) (ops : List Operand) (f : Flow) → Label here out p pc' → Does code t (ends pc' (record exits { to_break = out }) ops f) (pure (after_switch f)) (ends pc' exits ops)
    switched_does exits ops NextFlow e = pure_does _ (λ n w. stays refl)
    switched_does exits ops Broke e = pure_does _ (at_label ops e)
    switched_does exits ops Continued e = pure_does _ (λ n w. stays refl)
    switched_does exits ops (Gave x) e = pure_does _ (λ n w. stays refl)

    mutual
      statement_does : (s : Statement) (exits : Exits) {pc pc' : ℕ} {ops : List Operand} → StatementAt here CleanupAt gives s exits pc pc' → Does code d (On k pc ops backs) (does code.classes call d locals gives s) (ends pc' exits ops)
      statement_does (Evaluate line e) exits at =
          then_does (line_does at.first) (λ _. then_does (expression_does code k call d call_does backs e at.rest.first) (λ x. pure_does _ (let_go_comes (is_void e) x at.rest.rest)))
      statement_does (Reset line a b) exits {ops} at =
          then_does (line_does at.first) (λ _. then_does
          (effect_does (reset code.classes a (take (b - a) (drop a locals))) (λ _. ops) at.rest (λ store. ap (λ ts. after (reset code.classes a (take (b - a) (drop a ts)) store) (λ _. give ops)) same_locals))
          (λ _. pure_does _ (λ n w. stays refl)))
      statement_does (Return line []) exits at = then_does (line_does at.first) (λ _. bare_return gives at.rest.first at.rest.rest (λ n w. stays refl))
      statement_does (Return line (e ∷ es)) exits at = then_does (line_does at.first) (λ _. value_return gives e at.rest.first at.rest.rest.first at.rest.rest.rest (λ x n w. stays refl))
      statement_does (Break line) exits at = then_does (line_does at.first) (λ _. pure_does _ (jump_comes at.rest))
      statement_does (Continue line) exits at = then_does (line_does at.first) (λ _. pure_does _ (jump_comes at.rest))
      statement_does (If' line e p first q second) exits {ops} at =
          let a1 = at.is.is in let a2 = a1.rest in let a3 = a2.rest in let a4 = a3.rest in let a5 = a4.rest in let a6 = a5.rest in let a7 = a6.rest in
          then_does (line_does a1.first) (λ _. then_does (test_does code k call d call_does backs e a2.first a3.first a6.first.at)
          (λ b. choose_does b
          (to_does (ends_at exits ops (jump_to a5.first a7.rest.at)) (statements_do first exits a4.first))
          (to_does (ends_at exits ops (moves a7.rest.same)) (statements_do second exits a7.first))))
      statement_does (Loop' line first e step q body) exits {ops} at =
          let a1 = at.is.is.is.is in let a2 = a1.rest in let a3 = a2.rest in let a4 = a3.rest in let a5 = a4.rest in let a6 = a5.rest in let a7 = a6.rest in let a8 = a7.rest in let a9 = a8.rest in let a10 = a9.rest in let a11 = a10.rest in let a12 = a11.rest in
          let in_body = to_does (ends_at (inside at.is.is.is.label at.is.is.label exits) ops (moves a9.first.same)) (statements_do body (inside at.is.is.is.label at.is.is.label exits) a8.first) in
          let step_does = lets_go_does code k call d call_does backs step a11.first in
          let turn = turns_does d exits ops a3.first a9.first a12.rest a4.first (test_does code k call d call_does backs e a5.first (unless_at a6.first a7.first.same) a12.rest.at) a10.first step_does a12.first in_body in
          then_does (line_does a1.first) (λ _. first_does first a2.first a3.first.same a7.first
          (round_does exits ops a3.first a9.first a12.rest a10.first step_does a12.first in_body turn) turn)
      statement_does (Switch' line e labels places other p body) exits {ops} at =
          let a1 = at.is.is.is in let a2 = a1.rest in let a3 = a2.rest in let a4 = a3.rest in
          then_does (line_does a1.first) (λ _. then_does (operand_does code k call d call_does backs e a2.first)
          (λ x. tests_does x labels places at.is.is.labels other at.is.label a3.mid a3.first
          (λ place l q. then_does (case_does body 0 place l (other ∷ places) (at.is.label ∷ at.is.is.labels) (record exits { to_break = at.label }) a3.mid a4.first q place (omega arith))
          (λ f. from_does (ends_at (record exits { to_break = at.label }) ops (moves a4.rest.same) f) (switched_does exits ops f a4.rest)))))
      statement_does (Block' line p body cleanups) exits at =
          then_does (line_does at.first) (λ _. block_does line cleanups (StatementsAt here CleanupAt gives body) (does_row code.classes call d locals gives body) _ at.rest (λ exits pc pc' at. statements_do body exits at))

      statements_do : {m : _} (ss : Row_of-Statement m) (exits : Exits) {pc pc' : ℕ} {ops : List Operand} → StatementsAt here CleanupAt gives ss exits pc pc' → Does code d (On k pc ops backs) (does_row code.classes call d locals gives ss) (ends pc' exits ops)
      statements_do end_of-Statement exits at = pure_does _ (moves at)
      statements_do (more_of-Statement s rest) exits {ops} at = then_does (statement_does s exits at.first) (λ f. rest_does exits ops _ f (statements_do rest exits at.rest))

      -- a switch's body, from the statement of a number on
      cases_do : {m : _} (ss : Row_of-Statement m) (i : ℕ) (places ls : List ℕ) (exits : Exits) {pc pc' : ℕ} {ops : List Operand} → CasesAt here CleanupAt gives i places ls ss exits pc pc' → Does code d (On k pc ops backs) (does_row code.classes call d locals gives ss) (ends pc' exits ops)
      cases_do end_of-Statement i places ls exits at = pure_does _ (moves (end_labels_same i places ls at))
      cases_do (more_of-Statement s rest) i places ls exits {ops} at =
          from_does (moves (labels_same i places ls at.first)) (then_does (statement_does s exits at.rest.first) (λ f. rest_does exits ops _ f (cases_do rest (i + 1) places ls exits at.rest.rest)))

      -- from the label of a place on, which is so many statements behind
      case_does : {m : _} (ss : Row_of-Statement m) (i place l : ℕ) (places ls : List ℕ) (exits : Exits) (pc : ℕ) {pc' : ℕ} {ops : List Operand} → CasesAt here CleanupAt gives i places ls ss exits pc pc' → In place l places ls → (j : ℕ) → place ≡ i + j → Does code d (λ n w. goes (label_at code k l) k ops backs n w) (does_from code.classes call d locals gives j ss) (ends pc' exits ops)
      case_does end_of-Statement i place l places ls exits pc {pc'} {ops} at q j e = pure_does _ (stays_at l ops (end_label_stands i place l places ls pc pc' q at (le-leb i place (omega (arith, e)))))
      case_does (more_of-Statement s rest) i place l places ls exits pc {ops} at q zero e =
          from_does (stays_at l ops (label_stands i place l places ls pc at.mid q at.first (eq-eqb place i (omega (arith, e)))))
          (then_does (statement_does s exits at.rest.first) (λ f. rest_does exits ops _ f (cases_do rest (i + 1) places ls exits at.rest.rest)))
      case_does (more_of-Statement s rest) i place l places ls exits pc at q (suc j) e = case_does rest (i + 1) place l places ls exits at.rest.mid at.rest.rest q j (omega (arith, e))

    -- the statements of a function's body
    pub body_does : (ss : List Statement) (exits : Exits) {pc pc' : ℕ} {ops : List Operand} → BodyAt here CleanupAt gives ss exits pc pc' → Does code d (On k pc ops backs) (does_all code.classes call d locals gives ss) (ends pc' exits ops)
    body_does [] exits at = pure_does _ (moves at)
    body_does (s ∷ rest) exits {ops} at = then_does (statement_does s exits at.first) (λ f. rest_does exits ops _ f (body_does rest exits at.rest))
