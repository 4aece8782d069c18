-- Which name and which sign a token is.
use Rattle.std.specs.Prelude.{ℕ, Bool, false, List, Option, Some, None}
use Rattle.mql_spelling.specs.declared.sign.Sign.{Sign}
use Rattle.mql_spelling.specs.Signs.{same_sign}
use Rattle.mql_tree.specs.declared.token.Token.{Token}
use Rattle.mql_tree.specs.declared.token.Token.TheVariants as tokens

-- the name or reserved word that a token is
abbrev pub name_of : Token → Option (List ℕ)
name_of (tokens.Name name) = Some name
name_of other = None

-- a token is that sign
abbrev pub is_sign : Sign → Token → Bool
is_sign sign (tokens.Sign own) = same_sign own sign
is_sign sign other = false
