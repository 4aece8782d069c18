-- Functions whose code stands spend steps.
use Rattle.std.proofs.Common.{◌≡◌, ℕ, ◌≤◌, is_some, length, Option, Some, None, refl, sym, ap, ◌∙◌, subst, arith}
use Rattle.std.specs.Prelude.{slice_get}
use Rattle.std.proofs.lemmas.Option.{slice_get_within}
use Rattle.mql_meaning.specs.Changes.{then_some}
use Rattle.mql_meaning.specs.declared.tree.Function.{Function}
use Rattle.stack_code.specs.declared.code.Code.{Code}
use Rattle.stack_code.specs.declared.code.FunctionCode.{FunctionCode}
use Rattle.stack_code.specs.declared.code.Instruction.{Instruction}
use Rattle.stack_code.specs.declared.code.Instruction.TheVariants as instruction
use Rattle.stack_code.specs.Machine.{function_at, fetch, label_at, place_of}
use Rattle.stack_code.specs.Paced.{jumps_to, PacedFunction}
use Rattle.stack_follows.specs.Spans.{Listing}
use Rattle.stack_follows.specs.Stands.{Exits, FunctionAt, listing}
use Rattle.stack_follows.proofs.Pace.{Exact, Leads, Pace, leads_less, label_leads, label_paces, both, plain_paces, stuck_paces}
use Rattle.stack_follows.proofs.PaceStatements.{Away, body_paces}

none_some : (B : Type 0) (y : B) (P : Type 0) → None ≡ Some y → P
none_some B y P e = absurd (subst (λ (o : Option B). elim o as (λ _. Type 0) [ None ↦ Unit {0} | Some x ↦ ⊥ ]) e (tt {0}))

some_same : (B : Type 0) (o : Option B) (x y : B) → o ≡ Some x → o ≡ Some y → x ≡ y
some_same B o x y e f = ap (λ (o : Option B). elim o as (λ _. B) [ None ↦ x | Some z ↦ z ]) (sym e ∙ f)

-- what a value rests on
apart : (A B : Type 0) (o : Option A) (f : A → Option B) (y : B) (P : Type 0) → then_some o f ≡ Some y → ((x : A) → o ≡ Some x → f x ≡ Some y → P) → P
apart A B None f y P e g = none_some B y P e
apart A B (Some x) f y P e g = g x refl e

-- a function's places and labels are exact
listing_exact : (code : Code) (k : ℕ) → Exact (listing code k)
listing_exact code k = record {
  instruction = λ place i j e f. some_same Instruction (fetch code k place) i j e f;
  label = λ l p q e f. some_same ℕ (label_at code k l) p q e f;
}

-- where the exits of a function's body lead
abbrev outward : ℕ → ℕ → Exits
outward nowhere return = record { to_break = nowhere; to_continue = nowhere; to_return = return }

function_paces : (here : Listing) (exact : Exact here) (f : Function) (nowhere a b : ℕ) → ((place : ℕ) → Leads here nowhere place) → FunctionAt here f nowhere a b → Pace here a b
function_paces here exact f nowhere a b leads t =
    let return = t.label in
    let r0 = t.is in let r1 = r0.rest in let r2 = r1.rest in let r3 = r2.rest in
    let last = both here exact r2.mid r3.mid b (label_paces here exact return r2.mid r3.mid r3.first) (plain_paces here exact _ r3.mid b refl r3.rest) in
    let stuck = stuck_paces here exact (is_some f.result) r1.mid r2.mid r2.first in
    let le = stuck.onward in
    let same = r3.first.same in
    let exit : Away here exact (is_some f.result) (outward nowhere return) r1.mid = record {
      breaks = leads r1.mid;
      continues = leads r1.mid;
      returns = leads_less here exact return r1.mid r3.mid (omega (arith, le, same)) (label_leads here exact return r2.mid r3.mid r3.first);
    } in
    let body = body_paces here exact (is_some f.result) f.body (outward nowhere return) r0.mid r1.mid exit r1.first in
    both here exact a r0.mid b (plain_paces here exact _ a r0.mid refl r0.first) (both here exact r0.mid r1.mid b body (both here exact r1.mid r2.mid b stuck last))

module _ (code : Code) (k : ℕ) (c : FunctionCode) (is : function_at code k ≡ Some c) where
  fetched : (place : ℕ) → fetch code k place ≡ slice_get c.instructions place
  fetched place = ap (λ o. then_some o (λ (c : FunctionCode). slice_get c.instructions place)) is

  labelled : (l : ℕ) → label_at code k l ≡ then_some (slice_get c.labels l) place_of
  labelled l = ap (λ o. then_some o (λ (c : FunctionCode). then_some (slice_get c.labels l) place_of)) is

  -- a function whose code is no longer than its stretch paces
  pub function_paced : (f : Function) (nowhere end : ℕ) → label_at code k nowhere ≡ None → end ≡ length c.instructions → FunctionAt (listing code k) f nowhere 0 end → PacedFunction c
  function_paced f nowhere end none long t =
      let pace = function_paces (listing code k) (listing_exact code k) f nowhere 0 end (λ place to at. none_some ℕ to (place ≤ to) (sym none ∙ at)) t in
      record {
        begins = sym (fetched 0) ∙ t.is.first.at;
        jumps = λ place to jump le.
            apart Instruction ℕ (slice_get c.instructions place) (λ i. then_some (jumps_to i) (λ l. then_some (slice_get c.labels l) place_of)) to (slice_get c.instructions to ≡ Some instruction.Step) jump λ i at rest.
            apart ℕ ℕ (jumps_to i) (λ l. then_some (slice_get c.labels l) place_of) to (slice_get c.instructions to ≡ Some instruction.Step) rest λ l leads is_to.
            let within = slice_get_within c.instructions place i at in
            sym (fetched to) ∙ pace.each place (omega arith) (omega (arith, within, long)) i l to (fetched place ∙ at) leads (labelled l ∙ is_to) le;
      }
