-- Plans that have one end over given contents: where one has Done, nothing is refused.
use Rattle.std.proofs.Common.{◌≡◌, ℕ, Bool, true, false, List, [], length, Option, Some, None, sym, subst, ◌∙◌}
use Rattle.std.specs.Prelude.{nat_lt}
use Rattle.std.specs.Bool.{MatchBool}
use Rattle.tester_io.specs.Outside.{Contents, FilesSeen, SinkSeen, Rose}
use Rattle.tester_answer.specs.declared.status.Status.{Status}
use Rattle.tester_answer.specs.declared.status.Status.TheVariants.{Done, Usage, Source, Settings, Prices, CodeFile, Grid, Absent, ReadFault, WriteFault, TooLarge, OutOfMemory}
use Rattle.tester_answer.specs.Answer.{Plan, Reads, Finds, AfterReading, Gives, OneEnd, refusal, refuses}
use Rattle.tester_answer.specs.Clauses.{Refused, UsageRefused, HasDone, IsDoneOrMemory, Completes}

refusal_one : (status : Status) (held : Contents) (s s' : Status) (text text' : List ℕ) (after after' : Contents) → refusal status held s text after → refusal status held s' text' after' → (s ≡ s') × (text ≡ text') × (after ≡ after')
refusal_one status held s s' text text' after after' g g' = (g.0 ∙ sym g'.0, g.1 ∙ sym g'.1, g.2 ∙ sym g'.2)

pub refuses_one : (status : Status) → OneEnd (refuses status)
refuses_one status held s s' text text' after after' g g' = refusal_one status held s s' text text' after after' g g'

module _ (name : List ℕ) (limit : ℕ) (next : List ℕ → Plan) (each : (bytes : List ℕ) → OneEnd (next bytes)) where
  after_one : (o : Option (List ℕ)) (held : Contents) (s s' : Status) (text text' : List ℕ) (after after' : Contents) → AfterReading name limit (λ bytes. Gives (next bytes)) o held s text after → AfterReading name limit (λ bytes. Gives (next bytes)) o held s' text' after' → (s ≡ s') × (text ≡ text') × (after ≡ after')
  after_one None held s s' text text' after after' g g' = (g.0 ∙ sym g'.0, g.1 ∙ sym g'.1, g.2 ∙ sym g'.2)
  after_one (Some bytes) held s s' text text' after after' g g' = of_test (nat_lt limit (length bytes)) g g'
    where
      of_test : (b : Bool) → MatchBool b (refusal (TooLarge name) held s text after) (Gives (next bytes) held s text after) → MatchBool b (refusal (TooLarge name) held s' text' after') (Gives (next bytes) held s' text' after') → (s ≡ s') × (text ≡ text') × (after ≡ after')
      of_test true g g' = (g.0 ∙ sym g'.0, g.1 ∙ sym g'.1, g.2 ∙ sym g'.2)
      of_test false g g' = each bytes held s s' text text' after after' g g'

  pub reads_one : OneEnd (Reads name limit next)
  reads_one held s s' text text' after after' g g' = after_one (held name) held s s' text text' after after' g g'

pub finds_one : (A : Type 0) (is : A → Type 0) (next : A → Plan) → ((a b : A) → is a → is b → a ≡ b) → ((a : A) → OneEnd (next a)) → OneEnd (Finds A is next)
finds_one A is next alone each held s s' text text' after after' (a, h, g) (b, k, g') =
    each a held s s' text text' after after' g (subst (λ b. Gives (next b) held s' text' after') (sym (alone a b h k)) g')

module _ (plan : Plan) (one : OneEnd plan) (held : Contents) (has : HasDone plan held) where
  -- the plan has no refusal
  no_refusal : (status : Status) → (status ≡ Done → ⊥) → Gives plan held status [] held → ⊥
  no_refusal status apart g = apart (one held status Done [] has.0 held has.1 g has.2).0

  pub done_or_memory : (before now : FilesSeen) (status : Status) → before.told ≡ Some held → (Rose before.read_faults now.read_faults → ⊥) → Refused (UsageRefused plan) plan before now status → IsDoneOrMemory status
  done_or_memory before now Done is quiet r = tt
  done_or_memory before now (Usage rule) is quiet r = absurd (no_refusal (Usage rule) (λ e. cc) (r held))
  done_or_memory before now (Source fault) is quiet r = absurd (no_refusal (Source fault) (λ e. cc) (r held is))
  done_or_memory before now (Settings rule key) is quiet r = absurd (no_refusal (Settings rule key) (λ e. cc) (r held is))
  done_or_memory before now (Prices file row rule) is quiet r = absurd (no_refusal (Prices file row rule) (λ e. cc) (r held is))
  done_or_memory before now (CodeFile rule place) is quiet r = absurd (no_refusal (CodeFile rule place) (λ e. cc) (r held is))
  done_or_memory before now (Grid rule input) is quiet r = absurd (no_refusal (Grid rule input) (λ e. cc) (r held is))
  done_or_memory before now (Absent name) is quiet r = absurd (no_refusal (Absent name) (λ e. cc) (r.1 held is))
  done_or_memory before now (ReadFault name) is quiet r = absurd (quiet r.0)
  done_or_memory before now WriteFault is quiet r = absurd r
  done_or_memory before now (TooLarge name) is quiet r = absurd (no_refusal (TooLarge name) (λ e. cc) (r.1 held is))
  done_or_memory before now OutOfMemory is quiet r = tt

-- a refusal completes nothing where the plan has Done
pub refused_completes : (plan : Plan) → OneEnd plan → (before now : FilesSeen) (sink_before sink_now : SinkSeen) (status : Status) → Refused (UsageRefused plan) plan before now status → Completes plan before now sink_before sink_now status
refused_completes plan one before now sink_before sink_now status r held is has quiet =
    done_or_memory plan one held has before now status is quiet.read r
