-- The named parts of statements (MQL5 Reference, Operators).
use Rattle.std.specs.Prelude.{List, [], ◌∷◌, Option, Some, None, option_map, if◌then◌else◌}
use Rattle.mql_grammar.specs.declared.token_class.Class.TheVariants as class
use Rattle.mql_views.specs.Parts.{Part}
use Rattle.mql_views.specs.Cuts.{on, is, next, last, sign, ended, up_to, all_to}
use Rattle.mql_views.specs.Declarations.{Variables, variables}

-- "(" test ")": the test, and the parts behind
unfoldable pub tested : List Part → Option (Part × List Part)
tested xs =
    on (sign (class.OpenParen ∷ []) xs) (λ ys. on (next ys) (λ t.
    option_map (λ zs. (t.0, zs)) (sign (class.CloseParen ∷ []) t.1)))

-- "if" "(" expr ")" stmt ["else" stmt]
pub record If : Type 0 where
  pub test : Part
  pub chosen : Part
  pub other : Option Part

unfoldable pub if_end : Part → Part → List Part → Option If
if_end t s [] = Some (record { test = t; chosen = s; other = None })
if_end t s (x ∷ xs) =
    on (sign (class.Else ∷ []) (x ∷ xs)) (λ ys.
    option_map (λ e. record { test = t; chosen = s; other = Some e }) (last ys))

unfoldable pub if_of : List Part → Option If
if_of xs =
    on (sign (class.If ∷ []) xs) (λ ys. on (tested ys) (λ t. on (next t.1) (λ s. if_end t.0 s.0 s.1)))

-- a test and the statement that is repeated: "while" "(" expr ")" stmt
unfoldable pub while_of : List Part → Option (Part × Part)
while_of xs =
    on (sign (class.While ∷ []) xs) (λ ys. on (tested ys) (λ t. option_map (λ s. (t.0, s)) (last t.1)))

-- "do" stmt "while" "(" expr ")" ";"
unfoldable pub do_of : List Part → Option (Part × Part)
do_of xs =
    on (sign (class.Do ∷ []) xs) (λ ys. on (next ys) (λ s. on (sign (class.While ∷ []) s.1) (λ zs.
    on (tested zs) (λ t. on (sign (class.Semicolon ∷ []) t.1) (ended (t.0, s.0))))))

-- variables, or values with their commas
pub data Simple : Type 0 where
  Locals : Variables → Simple
  Values : List Part → Simple

unfoldable pub local_or_values : List Part → Option Simple
local_or_values [] = Some (Values [])
local_or_values (x ∷ []) = Some (Values (x ∷ []))
local_or_values (x ∷ y ∷ xs) =
    if is (class.Comma ∷ []) [] y then Some (Values (x ∷ y ∷ xs))
    else option_map Locals (variables (class.Static ∷ class.Const ∷ []) (x ∷ y ∷ xs))

-- local ";" or list ";"
unfoldable pub simple : List Part → Option Simple
simple xs = on (all_to class.Semicolon xs) local_or_values

-- "for" "(" [local | list] ";" [expr] ";" [list] ")" stmt
pub record For : Type 0 where
  pub start : Simple
  pub test : Option Part
  pub step : List Part
  pub body : Part

-- a value or none
unfoldable pub at_most_one : List Part → Option (Option Part)
at_most_one [] = Some None
at_most_one (x ∷ []) = Some (Some x)
at_most_one (x ∷ y ∷ xs) = None

unfoldable pub for_end : List Part → List Part → List Part → Part → Option For
for_end start test step body =
    on (local_or_values start) (λ s.
    option_map (λ t. record { start = s; test = t; step = step; body = body })
    (at_most_one test))

unfoldable pub for_of : List Part → Option For
for_of xs =
    on (sign (class.For ∷ []) xs) (λ xs. on (sign (class.OpenParen ∷ []) xs) (λ xs.
    on (up_to class.Semicolon xs) (λ start. on (up_to class.Semicolon start.1) (λ test.
    on (up_to class.CloseParen test.1) (λ step. on (last step.1) (for_end start.0 test.0 step.0))))))

-- "switch" "(" expr ")" "{" {"case" expr ":" | "default" ":" | stmt} "}"
pub record Switch : Type 0 where
  pub value : Part
  pub body : List Part

unfoldable pub switch_of : List Part → Option Switch
switch_of xs =
    on (sign (class.Switch ∷ []) xs) (λ ys. on (tested ys) (λ t. on (sign (class.OpenBrace ∷ []) t.1) (λ zs.
    option_map (λ body. record { value = t.0; body = body }) (all_to class.CloseBrace zs))))

-- "return" [expr] ";"
unfoldable pub return_of : List Part → Option (Option Part)
return_of xs = on (sign (class.Return ∷ []) xs) (λ ys. on (all_to class.Semicolon ys) at_most_one)

-- "delete" expr ";"
unfoldable pub delete_of : List Part → Option Part
delete_of xs =
    on (sign (class.Delete ∷ []) xs) (λ ys. on (next ys) (λ v.
    on (sign (class.Semicolon ∷ []) v.1) (ended v.0)))
