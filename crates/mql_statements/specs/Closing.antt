-- Where the end of a function can be reached (MQL5 Reference, Language Basics, Operators, return): it cannot where
-- the last statement closes.
use Rattle.std.specs.Prelude.{Bool, true, false, not, ◌&&◌, ◌||◌, List, [], ◌∷◌}
use Rattle.mql_syntax.specs.declared.kind.StatementKind.{StatementKind}
use Rattle.mql_syntax.specs.declared.kind.StatementKind.TheVariants as kind
use Rattle.mql_syntax.specs.declared.value.Operation.{Operation}
use Rattle.mql_syntax.specs.declared.value.Operation.TheVariants as operation
use Rattle.mql_syntax.specs.declared.value.Value.{Value}
use Rattle.mql_syntax.specs.declared.value.Value as syntax
use Rattle.mql_syntax.specs.declared.statement.Statement.{Statement, Node', Row_of-Statement, end_of-Statement, more_of-Statement}

abbrev pub is_true : Operation → Bool
is_true (operation.Bool b) = b
is_true _ = false

-- the literal `true`
abbrev pub is_literal_true : Value → Bool
is_literal_true (syntax.Node' place what types m row) = is_true what

abbrev pub first_true : List Value → Bool
first_true [] = false
first_true (v ∷ vs) = is_literal_true v

-- a loop's test is absent or the literal `true`
abbrev pub goes_on : StatementKind → List Value → Bool
goes_on kind.While vs = first_true vs
goes_on kind.Do vs = first_true vs
goes_on (kind.For tested) vs = not tested || first_true vs
goes_on _ vs = false

-- a `break` in the parts of a statement belongs to what stands around it: loops and switches keep theirs
abbrev pub passes_breaks : StatementKind → Bool
passes_breaks kind.Block = true
passes_breaks kind.If = true
passes_breaks _ = false

abbrev pub is_break : StatementKind → Bool
is_break kind.Break = true
is_break _ = false

-- some statement, the last one, and both branches of an `if`
abbrev pub some : List Bool → Bool
some [] = false
some (b ∷ bs) = b || some bs

abbrev pub last_one : List Bool → Bool
last_one [] = false
last_one (b ∷ []) = b
last_one (b ∷ c ∷ bs) = last_one (c ∷ bs)

abbrev pub both : List Bool → Bool
both [] = false
both (b ∷ bs) = b && last_one bs

-- a statement breaks what stands around it
abbrev pub breaking : StatementKind → List Bool → Bool
breaking what parts = is_break what || (passes_breaks what && some parts)

abbrev mutual
  pub has_break : Statement → Bool
  has_break (Node' place what locals values m row) = breaking what (breaks_in row)

  pub breaks_in : {m : _} → Row_of-Statement m → List Bool
  breaks_in end_of-Statement = []
  breaks_in (more_of-Statement s ss) = has_break s ∷ breaks_in ss

-- how a statement closes: by itself, where both branches close, where its last part does, as a loop
abbrev pub is_return : StatementKind → Bool
is_return kind.Return = true
is_return _ = false

abbrev pub is_if : StatementKind → Bool
is_if kind.If = true
is_if _ = false

abbrev pub is_block : StatementKind → Bool
is_block kind.Block = true
is_block _ = false

abbrev pub closing : StatementKind → List Value → List Bool → List Bool → Bool
closing what values breaks closed =
    is_return what
    || ((is_if what && both closed) || ((is_block what && last_one closed) || (goes_on what values && not (some breaks))))

abbrev mutual
  pub closes : Statement → Bool
  closes (Node' place what locals values m row) = closing what values (breaks_in row) (closed_in row)

  pub closed_in : {m : _} → Row_of-Statement m → List Bool
  closed_in end_of-Statement = []
  closed_in (more_of-Statement s ss) = closes s ∷ closed_in ss
