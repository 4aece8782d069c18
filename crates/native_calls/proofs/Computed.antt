-- What is computed, with the counts of the cells that are lent.
use Rattle.std.proofs.Common.{◌≡◌, ℕ, List, map, sym, ap, ◌∙◌}
use Rattle.natives.specs.declared.native.Native.{Native}
use Rattle.mql_meaning.specs.declared.store.Store.{Store}
use Rattle.mql_meaning.specs.Changes.{Out, Ended, Done, Over, after, give}
use Rattle.mql_meaning.specs.Cells.{weight}
use Rattle.mql_meaning.specs.Natives.{Argument, NativeDone, computes}
use Rattle.native_calls.specs.declared.outcome.Outcome.{Outcome}
use Rattle.native_calls.specs.Lent.{cells_in}
use Rattle.native_calls.specs.Outcomes.{computed, of_done}

-- what is computed, with counts
abbrev counted : NativeDone → List ℕ → Store → Out Outcome
counted d ns s = Done (record { value = d.value; news = d.outs; counts = ns; out_of_range = d.out_of_range }) s

pub gives : (f : Native) (args : List Argument) (d : NativeDone) (counts : List ℕ) (s : Store) →
    counts ≡ map weight (cells_in args) → computes f args s ≡ Done d s →
    computed f args s
    ≡ Done (record { value = d.value; news = d.outs; counts = counts; out_of_range = d.out_of_range }) s
gives f args d counts s e h =
    ap (λ (o : Out NativeDone). after o (λ d. give (of_done (cells_in args) d))) h
    ∙ ap (λ (ns : List ℕ). counted d ns s) (sym e)

pub ends : (f : Native) (args : List Argument) (why : Ended) (s : Store) →
    computes f args s ≡ Over why s → computed f args s ≡ Over why s
ends f args why s h = ap (λ (o : Out NativeDone). after o (λ d. give (of_done (cells_in args) d))) h
