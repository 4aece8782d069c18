use Rattle.std.proofs.Common.{◌≡◌, ◌∙◌, Some, None, ℤ, to_z, of_z, w64, sym, subst, refl, rules}
use Rattle.std.proofs.lemmas.Int.{to_z-of_z}
use Rattle.account.specs.Keyed.{item}
use Rattle.account.specs.Positions.{position_ticket, open_positions}
use Rattle.desk.specs.Effect.{closing_fill}
use Rattle.desk.proofs.Closed.{none_runs, fillable, closing_runs}
use Rattle.desk.proofs.closing.close_position.Goals as goal

pub returns-in_default-found : goal.returns-in_default-found
returns-in_default-found g c =
    let n : c.in-Ok.found ≡ None = search rules in
    let t : to_z w64 (of_z w64 c.args.time_ms) ≡ c.args.time_ms = to_z-of_z w64 c.args.time_ms c.ranges.time_ms in
    let f = subst (λ (z : ℤ). c.in-Ok.found ≡ closing_fill c.args.books.now.quoted z c.args.reason (item position_ticket c.args.ticket (open_positions c.args.books.now.quoted.events))) t c.in-Ok.ensures in
    none_runs c.args.books.now c.args.books.now c.args.time_ms c.args.reason c.args.ticket tt c.is_sound.ensures.sound (sym f ∙ n) refl

pub fill_run-requires-clause-fill : goal.fill_run-requires-clause-fill
fill_run-requires-clause-fill g c =
    let n : c.in-Ok.found ≡ Some c.in-Some.fill = search rules in
    let t : to_z w64 (of_z w64 c.args.time_ms) ≡ c.args.time_ms = to_z-of_z w64 c.args.time_ms c.ranges.time_ms in
    let f = subst (λ (z : ℤ). c.in-Ok.found ≡ closing_fill c.args.books.now.quoted z c.args.reason (item position_ticket c.args.ticket (open_positions c.args.books.now.quoted.events))) t c.in-Ok.ensures in
    fillable c.args.books.now.quoted c.args.time_ms c.args.reason c.args.ticket c.in-Some.fill c.is_sound.ensures.quoted c.is_sound.ensures.sound (sym f ∙ n)

pub returns : goal.returns
returns g c =
    let n : c.in-Ok.found ≡ Some c.in-Some.fill = search rules in
    let t : to_z w64 (of_z w64 c.args.time_ms) ≡ c.args.time_ms = to_z-of_z w64 c.args.time_ms c.ranges.time_ms in
    let f = subst (λ (z : ℤ). c.in-Ok.found ≡ closing_fill c.args.books.now.quoted z c.args.reason (item position_ticket c.args.ticket (open_positions c.args.books.now.quoted.events))) t c.in-Ok.ensures in
    closing_runs c.args.books.now c.fill_run.new.books c.args.time_ms c.args.reason c.args.ticket c.in-Some.fill c.fill_run.result (sym f ∙ n)
    (fillable c.args.books.now.quoted c.args.time_ms c.args.reason c.args.ticket c.in-Some.fill c.is_sound.ensures.quoted c.is_sound.ensures.sound (sym f ∙ n)) c.fill_run.ensures
