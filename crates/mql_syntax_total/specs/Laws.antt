-- What is proved of reading: nothing of a tree of the parser is not read.
use Rattle.std.specs.Prelude.{◌≡◌, ℕ, suc, true, List, Some, Ok, is_some}
use Rattle.mql_parse.specs.Classes.{classes_of}
use Rattle.mql_parse.specs.Parsed.{IsParsed}
use Rattle.mql_tree.specs.declared.token.Span.{Span}
use Rattle.mql_tree.specs.declared.token.Token.{Token}
use Rattle.mql_tree.specs.declared.token.Tree.{Tree}
use Rattle.mql_views.specs.Declarations.{Typed}
use Rattle.mql_views.specs.Parts.{Part}
use Rattle.mql_syntax.specs.Leaves.{part_from, inner}
use Rattle.mql_syntax.specs.declared.declaration.Syntax.{Syntax}
use Rattle.mql_syntax.specs.declared.kind.Place.{Place}
use Rattle.mql_syntax.specs.Types.{type_use}
use Rattle.mql_syntax.specs.Values.{value}
use Rattle.mql_syntax_read.specs.Items.{program}
use Rattle.mql_syntax_read.specs.Statements.{statement}
use Rattle.mql_syntax_total.specs.Formed.{Every, IsFormed, is_type, is_value, is_statement, is_item}

-- the parts of a tree that the parser answers are items, or `;` alone, and are formed
abbrev pub ItemsAreFormed : Type 0
ItemsAreFormed = (tokens : List (Token × Span)) (t : Tree) → IsParsed tokens (Ok t) →
    Every (λ p. (is_item p ≡ true) × IsFormed tokens 200 p)
    (inner (classes_of tokens) (part_from (classes_of tokens) 0 0 t))

-- the parts of a formed part are formed, and one less deep
abbrev pub PartsAreFormed : Type 0
PartsAreFormed = (tokens : List (Token × Span)) (n : ℕ) (p : Part) → IsFormed tokens (suc n) p →
    Every (IsFormed tokens n) (inner (classes_of tokens) p)

-- a formed part is read as a type where a type may stand
abbrev pub TypesAreRead : Type 0
TypesAreRead = (tokens : List (Token × Span)) (n : ℕ) (place : Place) (t : Typed) →
    IsFormed tokens n t.type → is_type t.type ≡ true →
    is_some (type_use tokens (classes_of tokens) n place t) ≡ true

-- as a value where a value may stand
abbrev pub ValuesAreRead : Type 0
ValuesAreRead = (tokens : List (Token × Span)) (n : ℕ) (place : Place) (p : Part) →
    IsFormed tokens n p → is_value p ≡ true →
    is_some (value tokens (classes_of tokens) n place p) ≡ true

-- and as a statement where a statement may stand
abbrev pub StatementsAreRead : Type 0
StatementsAreRead = (tokens : List (Token × Span)) (n : ℕ) (place : Place) (p : Part) →
    IsFormed tokens n p → is_statement p ≡ true →
    is_some (statement tokens (classes_of tokens) n place p) ≡ true

-- each tree that the parser answers is read as a program
abbrev pub ProgramsAreRead : Type 0
ProgramsAreRead = (tokens : List (Token × Span)) (t : Tree) → IsParsed tokens (Ok t) →
    is_some (program tokens (classes_of tokens) 200 t) ≡ true

-- the syntax of the program of a tree
abbrev pub IsSyntax : List (Token × Span) → Tree → Syntax → Type 0
IsSyntax tokens t syntax = program tokens (classes_of tokens) 200 t ≡ Some syntax
