-- The loop over the quotes.
use Rattle.std.proofs.Common.{◌≡◌, arith, ℕ, zero, suc, ℤ, pos, negsuc, refl, List, [], ◌∷◌, sym, subst, Bool, true, false, Option, Some, None}
use Rattle.std.specs.Prelude.{◌==◌}
use Rattle.std.proofs.lemmas.Bool.Decides.{nat_tests}
use Rattle.std.specs.Bool.{MatchBool}
use Rattle.fx8.specs.Integers.{is_zero}
use Rattle.market_types.specs.declared.quote.Quote.{Quote}
use Rattle.tester_pass.specs.declared.result.PassEnd.{PassEnd}
use Rattle.tester_pass.specs.declared.result.PassEnd.TheVariants as end
use Rattle.tester_pass.specs.declared.result.PassResult.{PassResult}
use Rattle.tester_pass.specs.Pass.{Trial, Stage, Works, Rest, Last, Quits, Finishes, Proceeds, Answered, ends_here}

when_true : (P Q : Type 0) (b : Bool) → b ≡ true → P → MatchBool b P Q
when_true P Q true e p = p
when_true P Q false e p = cc

when_false : (P Q : Type 0) (b : Bool) → b ≡ false → Q → MatchBool b P Q
when_false P Q false e q = q
when_false P Q true e q = cc

-- the pass ends at a quote
pub ends_now : (x : Trial) (left more : List Quote) (quote : Quote) (s t : Stage) (h : Option PassEnd) (e : PassEnd)
    (r : PassResult) → left ≡ quote ∷ more → Works x quote s h t → h ≡ Some e → r ≡ ends_here e t → Rest x left s r
ends_now x left more quote s t h e r is works ends comes =
    subst (λ q. Rest x q s r) (sym is) (Some e, t, subst (λ h. Works x quote s h t) ends works, comes)

-- removal was asked for
pub removed_now : (x : Trial) (left more : List Quote) (quote : Quote) (s t : Stage) (h : Option PassEnd)
    (r : PassResult) → left ≡ quote ∷ more → Works x quote s h t → h ≡ None → t.state.removal ≡ true →
    Last (Finishes x (pos 0)) end.Removed t r → Rest x left s r
removed_now x left more quote s t h r is works none removal last =
    subst (λ q. Rest x q s r) (sym is) (
      None,
      t,
      subst (λ h. Works x quote s h t) none works,
      when_true _ (Rest x more t r) t.state.removal removal last,
    )

-- the pass goes on
pub goes_on : (x : Trial) (left more : List Quote) (quote : Quote) (s t : Stage) (h : Option PassEnd)
    (r : PassResult) → left ≡ quote ∷ more → Works x quote s h t → h ≡ None → t.state.removal ≡ false →
    Rest x more t r → Rest x left s r
goes_on x left more quote s t h r is works none stays rest =
    subst (λ q. Rest x q s r) (sym is) (
      None,
      t,
      subst (λ h. Works x quote s h t) none works,
      when_false (Last (Finishes x (pos 0)) end.Removed t r) _ t.state.removal stays rest,
    )

-- all quotes were taken
pub all_taken : (x : Trial) (left : List Quote) (s : Stage) (r : PassResult) → left ≡ [] →
    Last (Finishes x (pos 1)) end.Completed s r → Rest x left s r
all_taken x left s r none last = subst (λ q. Rest x q s r) (sym none) last

-- OnInit answered another number than 0
above_zero : (n : ℕ) → suc n == 0 ≡ false
above_zero n = grind (arith, nat_tests)

not_zero : (n : ℤ) → (n ≡ pos 0 → ⊥) → is_zero n ≡ false
not_zero (pos zero) h = absurd (h refl)
not_zero (pos (suc n)) h = above_zero n
not_zero (negsuc n) h = refl

pub failed : (x : Trial) (quotes : List Quote) (answer : ℤ) (s : Stage) (r : PassResult) → (answer ≡ pos 0 → ⊥) →
    Last (Quits x (pos 8)) (end.InitFailed answer) s r → Answered x quotes answer s r
failed x quotes answer s r h last =
    when_false (Proceeds x (Rest x quotes) s r) _ (is_zero answer) (not_zero answer h) last
