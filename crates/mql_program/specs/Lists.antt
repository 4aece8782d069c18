-- Lists of what is lent. (No definition for readers.)
use Rattle.std.specs.Prelude.{List, map}
use Rattle.std.specs.Borrow.{Bor}

abbrev pub lent : {A : Type 0} → Bor A → A
lent b = b.now

abbrev pub all_lent : {A : Type 0} → List (Bor A) → List A
all_lent bs = map lent bs
