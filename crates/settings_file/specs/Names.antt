-- The full names under which the keys of a settings file are told. Own.
use Rattle.std.specs.Prelude.{ℕ, List, ◌++◌, codes}
use Rattle.std.specs.Fmt.{decimal}

-- the symbol at a place, and what the names of its keys begin with
abbrev pub symbol_name : ℕ → List ℕ
symbol_name i = codes "symbol." ++ decimal i

abbrev pub symbol_prefix : ℕ → List ℕ
symbol_prefix i = symbol_name i ++ codes "."

-- the value of an input
abbrev pub input_name : List ℕ → List ℕ
input_name name = codes "inputs." ++ name

-- the range of an input, and what the names of its keys begin with
abbrev pub range_name : List ℕ → List ℕ
range_name name = codes "optimise." ++ name

abbrev pub range_prefix : List ℕ → List ℕ
range_prefix name = range_name name ++ codes "."
