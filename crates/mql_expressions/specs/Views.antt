-- A node as the code holds it.
use Rattle.std.specs.Prelude.{List, Option, option_map}
use Rattle.mql_typed.specs.declared.info.Info.{Info}
use Rattle.mql_calls.specs.Nodes.{Node}
use Rattle.mql_expressions.specs.declared.node.Site.{Site}
use Rattle.mql_expressions.specs.declared.node.NodeView.{NodeView}

abbrev pub node_of : NodeView → Node
node_of n =
    record {
      place = n.place;
      what = n.what.now;
      types = n.types.now;
      called = option_map (λ x. x.now) n.called;
      parts = n.parts.now;
    }

abbrev pub node_at : Site → List (Option Info) → Node
node_at s parts =
    record {
      place = s.place;
      what = s.what.now;
      types = s.types.now;
      called = option_map (λ x. x.now) s.called;
      parts = parts;
    }
