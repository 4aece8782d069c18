use Rattle.std.proofs.Common.{ap, not, ◌∙◌}
use Rattle.std.specs.List.{flat_map}
use Rattle.mql_names.specs.Maps.{meaning}
use Rattle.mql_names.specs.Faults.{break_if, told}
use Rattle.mql_names.specs.Events.{some_event}
use Rattle.mql_names.specs.Rules.{event_breaks}
use Rattle.mql_names.proofs.Joined.{at_program}
use Rattle.mql_names.proofs.rules.program_told.Goals as goal

pub returns : goal.returns
returns c =
    let h = c.events_told.ensures ∙ ap (λ xs. told (flat_map (event_breaks (meaning c.args.names.now)) xs)) c.as_slice.ensures in
    let e = c.some_event.ensures ∙ ap some_event c.as_slice-2.ensures in
    let k = c.break_if.ensures ∙ ap (λ b. told (break_if (not b) 16 c.args.syntax.now.place)) e in
    at_program (meaning c.args.names.now) c.args.syntax.now c.sooner.result c.events_told.result c.break_if.result h k c.sooner.ensures
