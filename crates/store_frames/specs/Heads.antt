-- What a call looks at of a function.
use Rattle.std.specs.Prelude.{[], None}
use Rattle.mql_meaning.specs.declared.tree.Function.{Function}
use Rattle.store_frames.specs.declared.head.Head.{Head}

-- the function of these parts, which has no name, no result and no body; a call looks at none of these
abbrev pub headed : Head → Function
headed h =
    record {
      name = [];
      class = h.class;
      makes = h.makes;
      lent = h.lent.now;
      locals = h.locals.now;
      result = None;
      body = [];
    }
