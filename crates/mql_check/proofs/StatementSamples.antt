-- Statements, typed by hand.
use Rattle.std.proofs.Common.{◌≡◌, ℕ, pos, true, false, List, [], ◌∷◌, refl}
use Rattle.std.specs.Prelude.{codes}
use Rattle.fx8.specs.declared.int_kind.IntKind.TheVariants as kind
use Rattle.mql_mean.specs.declared.value.Value.TheVariants as value
use Rattle.mql_meaning.specs.declared.tree.Expression.TheVariants as e
use Rattle.mql_meaning.specs.declared.tree.Statement.TheVariants as s
use Rattle.mql_syntax.specs.declared.kind.StatementKind.TheVariants as stating
use Rattle.mql_syntax.specs.declared.statement.Statement.{Statement}
use Rattle.mql_syntax.specs.declared.statement.Statement.TheBlock as StatementRow
use Rattle.mql_syntax.specs.declared.value.Value.TheBlock as ValueRow
use Rattle.mql_statements.specs.Closing.{closes}
use Rattle.mql_check.proofs.Words.{name, number, truth, statement, read, tells, breaks}

-- while(true) {} closes; with a `break` it does not; one with a `break` in a loop in it does
forever : List Statement → Statement
forever ss = statement 1 stating.While (truth 1 true ∷ []) (statement 2 stating.Block [] ss ∷ [])

ends : Statement
ends = statement 3 stating.Break [] []

never_ends : closes (forever []) ≡ true
unfolding forever StatementRow.hidden-the_row-Statement-0 ValueRow.hidden-the_row-Value-0 denote.Hole.Carrier.hidden
never_ends = refl

may_end : closes (forever (ends ∷ [])) ≡ false
unfolding forever ends StatementRow.hidden-the_row-Statement-0 ValueRow.hidden-the_row-Value-0 denote.Hole.Carrier.hidden
may_end = refl

inner_ends : closes (forever (forever (ends ∷ []) ∷ [])) ≡ true
unfolding forever ends StatementRow.hidden-the_row-Statement-0 ValueRow.hidden-the_row-Value-0 denote.Hole.Carrier.hidden
inner_ends = refl

-- break outside: 21; within a loop it is one; return 1 in a void function: 22; if(s): 17
break_outside : (tells ends).broken ≡ breaks 21 3
unfolding tells ends
break_outside = refl

loops : (tells (forever (ends ∷ []))).typed
    ≡ s.Loop 1 false (e.Constant (value.Num kind.Bool (pos 1))) [] (s.Block 2 (s.Break 3 ∷ []) [] ∷ []) ∷ []
unfolding tells forever ends
loops = refl

returns : (tells (statement 1 stating.Return (number 1 1 ∷ []) [])).broken ≡ breaks 22 1
unfolding tells
returns = refl

tests : (tells (statement 1 stating.If (name 1 (codes "s") ∷ []) (statement 2 stating.Empty [] [] ∷ []))).broken ≡ breaks 17 1
unfolding tells
tests = refl

-- switch(i) { case 1: ; default: break; case 1: ; }: 20; without the second 1 it has its places
label : ℕ → Statement
label x = statement 1 stating.Case (number 1 x ∷ []) []

other : Statement
other = statement 1 stating.Default [] []

switches : List Statement → Statement
switches ss = statement 1 stating.Switch (name 1 (codes "i") ∷ []) ss

repeated : (tells (switches (label 1 ∷ other ∷ ends ∷ label 1 ∷ []))).broken ≡ breaks 20 1
unfolding tells switches label other ends
repeated = refl

leads : (tells (switches (label 1 ∷ ends ∷ other ∷ ends ∷ label 2 ∷ []))).typed
    ≡ s.Switch 1 (read 0) (value.Num kind.Int (pos 1) ∷ value.Num kind.Int (pos 2) ∷ []) (0 ∷ 2 ∷ []) 1 (s.Break 3 ∷ s.Break 3 ∷ []) ∷ []
unfolding tells switches label other ends
leads = refl

-- case s: is no constant: 19
no_constant : (tells (switches (statement 1 stating.Case (name 1 (codes "s") ∷ []) [] ∷ []))).broken ≡ breaks 19 1
unfolding tells switches
no_constant = refl
