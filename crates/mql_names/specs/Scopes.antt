-- The names of a scope (MQL5 Reference, Variables, Visibility Scope; Functions, Function Overloading).
use Rattle.std.specs.Prelude.{ℕ, Bool, false, ◌||◌, List, [], ◌∷◌, ◌++◌, Some, None, bytes_eq}
use Rattle.mql_names.specs.declared.fault.Broken.{Broken}
use Rattle.mql_names.specs.declared.scope.Named.{Named}
use Rattle.mql_names.specs.Faults.{break_if}

abbrev pub Name : Type 0
Name = List ℕ

abbrev pub is_among : Name → List Name → Bool
is_among x [] = false
is_among x (y ∷ ys) = bytes_eq y x || is_among x ys

-- the names of what was declared; those of what is no function; functions by their forms
abbrev pub all_names : List Named → List Name
all_names [] = []
all_names (n ∷ ns) = n.name ∷ all_names ns

abbrev pub plain_names : List Named → List Name
plain_names [] = []
plain_names (n ∷ ns) = elim (n.form) [ None ↦ n.name ∷ plain_names ns | Some f ↦ plain_names ns ]

abbrev pub forms : List Named → List Name
forms [] = []
forms (n ∷ ns) = elim (n.form) [ None ↦ forms ns | Some f ↦ f ∷ forms ns ]

-- a name is taken by what was declared before it: functions have one name where the types of their parameters
-- differ, and where one of them is only announced
abbrev pub is_taken : List Named → Named → Bool
is_taken before n =
    elim (n.form) [
      | None ↦ is_among n.name (all_names before)
      | Some f ↦ is_among n.name (plain_names before) || is_among f (forms before)
    ]

-- 1 a name is declared twice in its scope (functions: with equal parameter types)
abbrev pub repeated : List Named → List Named → List Broken
repeated before [] = []
repeated before (n ∷ ns) = break_if (is_taken before n) 1 n.place ++ repeated (before ++ n ∷ []) ns
