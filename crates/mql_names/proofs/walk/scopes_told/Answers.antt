use Rattle.std.proofs.Common.{◌≡◌, Bool, sym, subst, IfOk}
use Rattle.mql_names.specs.Types.{Names}
use Rattle.mql_names.specs.Things.{scopes_of}
use Rattle.mql_names.specs.Rules.{told_of}
use Rattle.mql_names.proofs.walk.scopes_told.Goals as goal

pub returns-then-shared : goal.returns-then-shared
returns-then-shared c =
    subst (λ (s : Bool). IfOk c.one_scope_told.result (λ b. (names : Names) → b ≡ told_of names (scopes_of s c.args.parts.now))) (sym c.if-shared.true) c.one_scope_told.ensures
