-- The limits of a program's sources (own).
use Rattle.std.specs.Prelude.{ℕ}

-- a text has at most so many 16-bit units
abbrev pub most_units : ℕ
most_units = 1048576

-- a program has at most so many tokens, before strings are joined
abbrev pub most_tokens : ℕ
most_tokens = 400000

-- a program has at most so many files, the entry counted
abbrev pub most_files : ℕ
most_files = 512

-- a file stands at most so deep; the entry stands at 1
abbrev pub most_depth : ℕ
most_depth = 32
