-- What is taken from the tokens that are left, one by one.
use Rattle.std.proofs.Common.{◌≡◌, ℕ, suc, ◌+◌, Bool, true, false, cond, List, [], ◌∷◌, ◌++◌, take, drop, refl, sym, ap, subst, ◌∙◌, arith, append_assoc, append-nil, Option, Some, None}
use Rattle.std.specs.Prelude.{slice_get}
use Rattle.mql_tree.specs.declared.token.Span.{Span}
use Rattle.mql_tree.specs.declared.token.Token as token
use Rattle.mql_preproc.specs.declared.part.Line.{Line}
use Rattle.mql_preproc.specs.Parts.{begins_directive, is_line_end, run_len, line_len}
use Rattle.mql_preproc.specs.Taking.{TakesNext, TakesLine}

-- a run, of which some is taken
pub record RunTaken (line_before : ℕ) (rest run : List (token.Token × Span)) (whole_run whole_rest : List (token.Token × Span)) : Type 0 where
  pub run_is : run ++ take (run_len line_before rest) rest ≡ whole_run
  pub rest_is : drop (run_len line_before rest) rest ≡ whole_rest

one_taken : (n : ℕ) (t : token.Token × Span) (ts : List (token.Token × Span)) → begins_directive n t ≡ false → run_len n (t ∷ ts) ≡ suc (run_len t.1.line ts)
one_taken n t ts b = (let e : run_len n (t ∷ ts) ≡ run_len t.1.line ts + 1 = ap (λ (x : Bool). cond x 0 (run_len t.1.line ts + 1)) b in omega (arith, e))

pub run_on : (n : ℕ) (old new run run' whole_run whole_rest : List (token.Token × Span)) (t : token.Token × Span) → RunTaken n old run whole_run whole_rest → TakesNext n old new (Some t) → run' ≡ run ++ t ∷ [] → RunTaken t.1.line new run' whole_run whole_rest
run_on n old new run run' whole_run whole_rest t r h e =
    let f : RunTaken n (t ∷ new) run whole_run whole_rest = subst (λ (x : List (token.Token × Span)). RunTaken n x run whole_run whole_rest) h.0 r in
    let c = one_taken n t new h.1 in
    record {
      run_is =
          ap (λ (x : List (token.Token × Span)). x ++ take (run_len t.1.line new) new) e ∙ append_assoc run (t ∷ []) (take (run_len t.1.line new) new)
          ∙ ap (λ (k : ℕ). run ++ take k (t ∷ new)) (sym c) ∙ f.run_is;
      rest_is = ap (λ (k : ℕ). drop k (t ∷ new)) (sym c) ∙ f.rest_is;
    }

pub run_begins : (n : ℕ) (first : token.Token × Span) (old run : List (token.Token × Span)) → run ≡ first ∷ [] → RunTaken n old run (first ∷ take (run_len n old) old) (drop (run_len n old) old)
run_begins n first old run e = record { run_is = ap (λ (x : List (token.Token × Span)). x ++ take (run_len n old) old) e; rest_is = refl }

pub run_ends : (n : ℕ) (old run whole_run whole_rest : List (token.Token × Span)) → RunTaken n old run whole_run whole_rest → run_len n old ≡ 0 → (run ≡ whole_run) × (old ≡ whole_rest)
run_ends n old run whole_run whole_rest r e =
    (sym (append-nil run) ∙ ap (λ (k : ℕ). run ++ take k old) (sym e) ∙ r.run_is, ap (λ (k : ℕ). drop k old) (sym e) ∙ r.rest_is)

-- a line, of which some is taken
pub record LineTaken (whole tokens rest : List (token.Token × Span)) : Type 0 where
  pub whole_is : whole ≡ tokens ++ rest
  pub tokens_are : tokens ++ take (line_len rest) rest ≡ take (line_len whole) whole
  pub rest_is : drop (line_len rest + 1) rest ≡ drop (line_len whole + 1) whole

pub line_begins : (whole tokens : List (token.Token × Span)) → tokens ≡ [] → LineTaken whole tokens whole
line_begins whole tokens e = record {
  whole_is = ap (λ (x : List (token.Token × Span)). x ++ whole) (sym e);
  tokens_are = ap (λ (x : List (token.Token × Span)). x ++ take (line_len whole) whole) e;
  rest_is = refl;
}

line_goes_on : (t : token.Token × Span) (ts : List (token.Token × Span)) → is_line_end t.0 ≡ false → line_len (t ∷ ts) ≡ suc (line_len ts)
line_goes_on t ts b = (let e : line_len (t ∷ ts) ≡ line_len ts + 1 = ap (λ (x : Bool). cond x 0 (line_len ts + 1)) b in omega (arith, e))

pub line_on : (whole tokens tokens' old new : List (token.Token × Span)) (t : token.Token × Span) → LineTaken whole tokens old → old ≡ t ∷ new → is_line_end t.0 ≡ false → tokens' ≡ tokens ++ t ∷ [] → LineTaken whole tokens' new
line_on whole tokens tokens' old new t l o b e =
    let f : LineTaken whole tokens (t ∷ new) = subst (LineTaken whole tokens) o l in
    let c = line_goes_on t new b in
    record {
      whole_is = f.whole_is ∙ sym (append_assoc tokens (t ∷ []) new) ∙ ap (λ (x : List (token.Token × Span)). x ++ new) (sym e);
      tokens_are =
          ap (λ (x : List (token.Token × Span)). x ++ take (line_len new) new) e ∙ append_assoc tokens (t ∷ []) (take (line_len new) new)
          ∙ ap (λ (k : ℕ). tokens ++ take k (t ∷ new)) (sym c) ∙ f.tokens_are;
      rest_is = ap (λ (k : ℕ). drop k (t ∷ new)) (let d : suc (line_len new + 1) ≡ line_len (t ∷ new) + 1 = omega (arith, c) in d) ∙ f.rest_is;
    }

pub line_ends : (whole tokens old new : List (token.Token × Span)) (t : token.Token × Span) (line : Line) → LineTaken whole tokens old → old ≡ t ∷ new → is_line_end t.0 ≡ true → line ≡ record { tokens = tokens; end = Some t } → TakesLine whole new line
line_ends whole tokens old new t line l o b e =
    let f : LineTaken whole tokens (t ∷ new) = subst (LineTaken whole tokens) o l in
    let c : line_len (t ∷ new) ≡ 0 = ap (λ (x : Bool). cond x 0 (line_len new + 1)) b in
    subst (TakesLine whole new) (sym e)
    (record {
      tokens = sym (append-nil tokens) ∙ ap (λ (k : ℕ). tokens ++ take k (t ∷ new)) (sym c) ∙ f.tokens_are;
      rest = ap (λ (k : ℕ). drop (k + 1) (t ∷ new)) (sym c) ∙ f.rest_is;
      whole = f.whole_is;
    })

pub line_open : (whole tokens old new : List (token.Token × Span)) (line : Line) → LineTaken whole tokens old → old ≡ [] → new ≡ [] → line ≡ record { tokens = tokens; end = None } → TakesLine whole new line
line_open whole tokens old new line l o n e =
    let f : LineTaken whole tokens [] = subst (LineTaken whole tokens) o l in
    subst (λ (x : List (token.Token × Span)). TakesLine whole x line) (sym n)
    (subst (TakesLine whole []) (sym e)
    (record { tokens = sym (append-nil tokens) ∙ f.tokens_are; rest = f.rest_is; whole = f.whole_is }))

-- the first of what is left, as the code finds it
pub none_left : (n : ℕ) (ts : List (token.Token × Span)) → None ≡ slice_get ts 0 → run_len n ts ≡ 0
none_left n [] e = refl
none_left n (t ∷ ts) e = absurd (let f : ◌≡◌ {A = Option (token.Token × Span)} None (Some t) = e in cc)

pub directive_next : (n : ℕ) (t : token.Token × Span) (ts : List (token.Token × Span)) → Some t ≡ slice_get ts 0 → true ≡ begins_directive n t → run_len n ts ≡ 0
directive_next n t [] e b = absurd (let f : ◌≡◌ {A = Option (token.Token × Span)} (Some t) None = e in cc)
directive_next n t (u ∷ us) e b =
    let f : t ≡ u = (let g : Some t ≡ Some u = e in cc) in
    subst (λ (x : token.Token × Span). cond (begins_directive n x) 0 (run_len x.1.line us + 1) ≡ 0) f (ap (λ (x : Bool). cond x 0 (run_len t.1.line us + 1)) (sym b))
