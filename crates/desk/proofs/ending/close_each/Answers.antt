use Rattle.std.proofs.Common.{◌≡◌, ◌∷◌, ℤ, false, to_z, of_z, w64, subst, rules}
use Rattle.std.proofs.lemmas.Int.{to_z-of_z}
use Rattle.account.specs.declared.deal.DealReason.TheVariants as reason
use Rattle.account.proofs.Amounts.{nothing_left}
use Rattle.desk.specs.Effect.{acts, closing_of}
use Rattle.desk.specs.Runs.{Runs, after_run}
use Rattle.desk.proofs.Ended.{so_far, acts_stop, acts_end, closing_like}
use Rattle.desk.proofs.ending.close_each.Goals as goal

pub returns-then-is_err : goal.returns-then-is_err
returns-then-is_err g c =
    let b = c.args.books.now in
    let time : ℤ = to_z w64 (of_z w64 c.args.time_ms) in
    let t : time ≡ c.args.time_ms = to_z-of_z w64 c.args.time_ms c.ranges.time_ms in
    let l : c.loop-ticket.rest.now ≡ c.in-Some.ticket.now ∷ c.in-Some.others.now = search rules in
    subst (λ (z : ℤ). Runs b (acts (closing_of b.quoted.spec b.quoted.prices z reason.Client) (so_far b) c.args.tickets.now) c.close_position-done.result c.close_position-done.new.books) t
    (acts_stop (closing_of b.quoted.spec b.quoted.prices time reason.Client) c.loop-ticket.books b c.close_position-done.new.books c.in-Some.ticket.now c.loop-ticket.rest.now c.in-Some.others.now _ c.close_position-done.result
    l c.loop-ticket.invariant.run c.loop-ticket.invariant.like (search rules)
    (closing_like c.loop-ticket.books b c.close_position-done.new.books time reason.Client c.in-Some.ticket.now c.close_position-done.result c.loop-ticket.invariant.like c.close_position-done.ensures))

pub returns : goal.returns
returns g c =
    let b = c.args.books.now in
    let time : ℤ = to_z w64 (of_z w64 c.args.time_ms) in
    let t : time ≡ c.args.time_ms = to_z-of_z w64 c.args.time_ms c.ranges.time_ms in
    subst (λ (z : ℤ). ((acts (closing_of b.quoted.spec b.quoted.prices z reason.Client) (so_far b) c.args.tickets.now).full ≡ false) × (c.loop-ticket.books ≡ after_run (acts (closing_of b.quoted.spec b.quoted.prices z reason.Client) (so_far b) c.args.tickets.now) b)) t
    (acts_end (closing_of b.quoted.spec b.quoted.prices time reason.Client) c.loop-ticket.books b c.loop-ticket.rest.now _ tt (nothing_left c.loop-ticket.rest.now (search rules)) c.loop-ticket.invariant.run c.loop-ticket.invariant.like)
