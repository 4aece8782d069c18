-- What is read of trees of the parser.
use Rattle.std.proofs.Common.{◌≡◌, ◌∙◌, true, false, List, [], ◌∷◌, None, Ok, is_some, refl, sym, ap, subst}
use Rattle.mql_parse.specs.Parsed.{IsParsed}
use Rattle.mql_forms.specs.Numbers.{form_number}
use Rattle.mql_grammar.specs.Numbers.{class_number}
use Rattle.mql_parse.specs.Classes.{classes_of}
use Rattle.mql_tree.specs.declared.token.Span.{Span}
use Rattle.mql_tree.specs.declared.token.Token.{Token}
use Rattle.mql_tree.specs.declared.token.Tree.{Tree, out-Tree}
use Rattle.mql_tree.specs.declared.token.Tree.TheOpen.{Tree-F}
use Rattle.mql_views.specs.Cuts.{is}
use Rattle.mql_views.specs.Parts.{Part}
use Rattle.mql_syntax.specs.Leaves.{parts_in, inner}
use Rattle.mql_syntax.specs.Values.{value}
use Rattle.mql_syntax.specs.Types.{type_use}
use Rattle.mql_syntax_read.specs.Statements.{statement}
use Rattle.mql_syntax_total.specs.Formed.{Every, IsFormed, is_item}
use Rattle.mql_syntax_total.specs.Laws.{ItemsAreFormed, PartsAreFormed, ValuesAreRead, TypesAreRead, StatementsAreRead, ProgramsAreRead}
use Rattle.mql_syntax_total.proofs.Gives.{false_true, has_some, Among}
use Rattle.mql_syntax_total.proofs.Parsed.{item_cs, item_fs, parsed_parts}
use Rattle.mql_syntax_read.specs.Items.{program}
use Rattle.mql_syntax_total.proofs.Programs.{program_is_read}
use Rattle.mql_syntax_total.proofs.Statements.{statement_read}
use Rattle.mql_syntax_total.proofs.Trees.{inner_formed}
use Rattle.mql_syntax_total.proofs.Types.{type_read}
use Rattle.mql_syntax_total.proofs.Values.{value_read}

items_both : (tokens : List (Token × Span)) (xs : List Part) → Every (IsFormed tokens 200) xs → Every (Among item_cs item_fs) xs → Every (λ p. (is_item p ≡ true) × IsFormed tokens 200 p) xs
unfolding is class_number form_number
items_both tokens [] g h = tt
items_both tokens (x ∷ xs) g h = ((h.0, g.0), items_both tokens xs g.1 h.1)

pub items_are_formed : ItemsAreFormed
items_are_formed tokens t p = let r = parsed_parts tokens t p in items_both tokens _ r.4 r.5

pub parts_formed : PartsAreFormed
unfolding inner
parts_formed tokens n p is = go (out-Tree p.tree) refl
  where
    go : (x : Tree-F Tree) → out-Tree p.tree ≡ x → Every (IsFormed tokens n) (parts_in (classes_of tokens) p.at (out-Tree p.tree))
    go (Tree-F.Leaf k) e = subst (λ x. Every (IsFormed tokens n) (parts_in (classes_of tokens) p.at x)) (sym e) tt
    go (Tree-F.Node f ts) e = (inner_formed tokens n p f ts is e).1

pub types_are_read : TypesAreRead
unfolding is class_number form_number
types_are_read tokens n place t f h = has_some (λ x. Unit {0}) (type_use tokens (classes_of tokens) n place t) (type_read tokens n place t (f, h))

pub values_are_read : ValuesAreRead
unfolding is class_number form_number
values_are_read tokens n place p f h = has_some (λ x. Unit {0}) (value tokens (classes_of tokens) n place p) (value_read tokens n place p (f, h))

pub statements_are_read : StatementsAreRead
unfolding is class_number form_number
statements_are_read tokens n place p f h = has_some (λ x. Unit {0}) (statement tokens (classes_of tokens) n place p) (statement_read tokens n place p (f, h))

pub programs_are_read : ProgramsAreRead
programs_are_read tokens t p = has_some (λ x. Unit {0}) (program tokens (classes_of tokens) 200 t) (program_is_read tokens t p)

-- nothing of a tree of the parser is not read
pub never_nothing : (tokens : List (Token × Span)) (t : Tree) → IsParsed tokens (Ok t) → program tokens (classes_of tokens) 200 t ≡ None → ⊥
never_nothing tokens t p e = let h = programs_are_read tokens t p in let k : is_some (program tokens (classes_of tokens) 200 t) ≡ false = ap is_some e in false_true (sym k ∙ h)
