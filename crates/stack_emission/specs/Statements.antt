-- The code of statements in the making.
use Rattle.std.specs.Prelude.{ℕ, ◌+◌, min, not, Bool, true, false, List, [], ◌∷◌, length}
use Rattle.mql_mean.specs.declared.value.Value.{Value}
use Rattle.mql_meaning.specs.declared.tree.Expression.{Expression}
use Rattle.mql_meaning.specs.declared.tree.Statement.{Statement}
use Rattle.mql_meaning.specs.Expressions.{is_void}
use Rattle.stack_code.specs.declared.code.Effect.TheVariants as effect
use Rattle.stack_code.specs.declared.code.Instruction.TheVariants as instruction
use Rattle.stack_follows.specs.Stands.{CleanupAt, StatementAt, inside, Exits as Leads}
use Rattle.stack_emission.specs.declared.statements.Exits.{Exits}
use Rattle.stack_emission.specs.HasCode.{statement_has_code}
use Rattle.stack_emission.specs.Draft.{Coding, WhereBuilt, ◌then◌, with_label, no_instruction, one, label, jump, unless, plain, stuck_if, equals, operand, all_let_go, expression, let_go}

-- the labels to which a statement's exits lead
abbrev pub leads : Exits → Leads
leads exits =
    record { to_break = exits.to_break; to_continue = exits.to_continue; to_return = exits.to_return }

-- a line is put in force
abbrev pub line_at : ℕ → Coding
line_at line = plain (effect.Line line)

-- a statement of a function that gives a value or none
abbrev pub statement : Bool → Statement → Leads → Coding
statement gives s exits functions here =
    WhereBuilt (statement_has_code functions s) (StatementAt here CleanupAt gives s exits)

-- statements in order
abbrev pub statements : Bool → List Statement → Leads → Coding
statements gives [] exits = no_instruction
statements gives (s ∷ ss) exits = statement gives s exits then statements gives ss exits

-- a value is given back, or none
abbrev pub given : Bool → List Expression → Coding
given gives [] = stuck_if gives
given gives (e ∷ es) = stuck_if (not gives) then operand e

-- an expression whose value is let go
abbrev pub evaluated : ℕ → Expression → Coding
evaluated line e = line_at line then expression e then let_go (is_void e)

-- locals begin anew
abbrev pub restarted : ℕ → ℕ → ℕ → Coding
restarted line from to = line_at line then plain (effect.Reset from to)

-- a function is left with a value or none, and a loop or a switch
abbrev pub returned : Bool → ℕ → List Expression → ℕ → Coding
returned gives line es to = line_at line then given gives es then jump to

abbrev pub left : ℕ → ℕ → Coding
left line to = line_at line then jump to

-- `do` begins with its body
abbrev pub begun : Bool → ℕ → Coding
begun true inner = jump inner
begun false inner = no_instruction

-- a condition, and what is done where it holds, and where it does not
abbrev pub branches : ℕ → Expression → Coding → Coding → Coding
branches line e held failed =
    with_label λ other. with_label λ out. (line_at line then operand e) then unless other
    then held then jump out then label other then failed then label out

-- a loop
abbrev pub loop : ℕ → Bool → Expression → List Expression → (Leads → Coding) → Leads → Coding
loop line first e step body exits =
    with_label λ top. with_label λ inner. with_label λ next. with_label λ out. line_at line
    then begun first inner then label top then one instruction.Step then operand e then unless out
    then label inner then body (inside out next exits)
    then label next then line_at line then all_let_go step then jump top then label out

-- the exits of a switch's body
abbrev pub breaking : ℕ → Leads → Leads
breaking out exits = record exits { to_break = out }

-- the label of a place in a switch's body, whose statements have labels in a row, and then its end
abbrev pub label_of : ℕ → ℕ → ℕ → ℕ
label_of first end place = first + min place end

-- where no label fits
abbrev pub otherwise : ℕ → Coding
otherwise default = plain effect.Drop then jump default

-- the tests of a switch, whose number is on top, by the labels of the places
abbrev pub tests : (ℕ → ℕ) → List Value → List ℕ → ℕ → Coding
tests to (k ∷ ks) (place ∷ places) default =
    with_label λ next. plain effect.Twice then equals k then unless next
    then plain effect.Drop then jump (to place) then label next then tests to ks places default
tests to _ _ default = otherwise default

-- statements, each behind a label of its own
abbrev pub cases : Bool → ℕ → List Statement → Leads → Coding
cases gives first [] exits = no_instruction
cases gives first (s ∷ ss) exits =
    (label first then statement gives s exits) then cases gives (first + 1) ss exits

-- the body of a switch, with a label at its end
abbrev pub all_cases : Bool → ℕ → List Statement → Leads → Coding
all_cases gives first body exits = cases gives first body exits then label (first + length body)

-- a switch
abbrev pub switched : ℕ → Expression → List Value → List ℕ → ℕ → Bool → List Statement → Leads → Coding
switched line e labels places other gives body exits =
    with_label λ out. with_label λ first. line_at line then operand e
    then tests (label_of first (length body)) labels places (label_of first (length body) other)
    then all_cases gives first body (breaking out exits) then label out
