use Rattle.std.proofs.Common.{◌≡◌, ℕ, ◌<◌, ◌++◌, [], ◌∷◌, subst, rules}
use Rattle.desk.proofs.FiringLists.{between_goes}
use Rattle.desk.proofs.fired.push_earlier.Goals as goal

pub loop-stop-preserved : goal.loop-stop-preserved
loop-stop-preserved c =
    let e : c.loop-stop.rest.now ≡ c.in-Some.stop.now ∷ c.in-Some.others.now = search rules in
    let p : c.push.new.self.items ≡ c.loop-stop.out.items ++ c.in-Some.stop.now ∷ [] = search rules in
    between_goes c.args.ticket c.args.out.now.items c.loop-stop.out.items c.push.new.self.items c.args.stops.now c.loop-stop.rest.now c.in-Some.others.now c.in-Some.stop.now c.loop-stop.invariant e
    (subst (λ (n : ℕ). n < c.args.ticket) c.ticket.ensures c.if-ticket.false) p
