-- The document that the bytes of a file are, by the grammar of TOML 1.1 as the crate `toml` defines it.
use Rattle.std.specs.Prelude.{◌≡◌, ℕ, List, Some, None, IsUtf8}
use Rattle.toml.specs.Data.{Members}
use Rattle.toml.specs.Parse.{parse_document}

-- the bytes are UTF-8, and TOML for this table
pub record IsDocument (bytes : List ℕ) (table : Members) : Type 0 where
  pub utf8 : IsUtf8 bytes
  pub parsed : parse_document bytes ≡ Some table

-- the bytes are no TOML
abbrev pub IsNoDocument : List ℕ → Type 0
IsNoDocument bytes = IsUtf8 bytes → parse_document bytes ≡ None
