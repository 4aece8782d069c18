-- Names and values that are alike at each name are the same.
use Rattle.std.proofs.Common.{◌≡◌, List, ap, ◌∙◌}
use mathlib.Core.Path.{fun_ext}
use Rattle.mql_syntax.specs.declared.declaration.Item.{Item}
use Rattle.mql_names.specs.Types.{Names}
use Rattle.mql_sizes.specs.Members.{Values}
use Rattle.mql_scope.specs.Contexts.{Text}
use Rattle.mql_names.specs.Meanings.{names_of}
use Rattle.mql_values.specs.Sources.{Tokens, IsSourceOf, values_of, given_in, given_of}

pub given_is : (items : List Item) (names : Names) (values : Values) (tokens : Tokens) (files : List Text)
    → IsSourceOf items names values → given_in names values tokens files ≡ given_of items tokens files
unfolding given_of
given_is items names values tokens files s =
    ap (λ (n : Names). given_in n values tokens files) (fun_ext s.names_are)
    ∙ ap (λ (v : Values). given_in (names_of items) v tokens files) (fun_ext s.values_are)
