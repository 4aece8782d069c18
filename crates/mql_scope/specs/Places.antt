-- A place in a function as the code holds it.
use Rattle.mql_scope.specs.declared.here.Here.{Here}
use Rattle.mql_scope.specs.Contexts.{Program, Context}

-- the context at a place, where it is said which program it is in
abbrev pub context_at : {P : Type 0} → (P → Program) → Here P → Context
context_at program h =
    record {
      program = program h.program.now;
      function = h.function.now;
      result = h.result;
      breaks = h.breaks;
      continues = h.continues;
      locals = h.locals.now;
      next = h.next;
      statics = h.statics;
    }
