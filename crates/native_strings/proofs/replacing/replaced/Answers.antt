use Rattle.std.proofs.Common.{◌≡◌, ◌≤◌, ◌+◌, ◌++◌, List, ℕ, true, false, length, drop, ap, ◌∙◌, arith}
use Rattle.mql_meaning.specs.StringFunctions.{replaced}
use Rattle.native_strings.proofs.Replaced.{holds, fits_behind, changed_text, changed_count, kept_text, kept_count, ended_text, ended_count}
use Rattle.native_strings.proofs.replacing.replaced.Goals as goal

pub loop-place-preserved-then-begins : goal.loop-place-preserved-then-begins
loop-place-preserved-then-begins c =
    let part = c.args.part.now in
    let by = c.args.by.now in
    let text = c.args.text.now in
    let place = c.loop-place.place in
    let e = holds part text c.behind.result.now place c.begins.result true c.behind.ensures c.begins.ensures.value c.if-begins.true in
    let fits : length part ≤ length c.behind.result.now = c.begins.ensures.fits c.if-begins.true in
    record {
      text =
          ap (λ (xs : List ℕ). xs ++ (replaced part by 0 (drop (place + length part) text)).text) c.in_ok-extend_from_slice.ensures.ok
          ∙ changed_text c.loop-place.out part by text (replaced part by 0 text).text place c.requires e c.loop-place.invariant.text;
      count = changed_count c.loop-place.count (replaced part by 0 text).count part by text place c.requires e c.loop-place.invariant.count;
      few = omega (arith, c.loop-place.invariant.few, c.requires);
      within = fits_behind part text c.behind.result.now place c.behind.ensures fits c.loop-place.invariant.within;
    }

pub loop-place-preserved : goal.loop-place-preserved
loop-place-preserved c =
    let part = c.args.part.now in
    let by = c.args.by.now in
    let text = c.args.text.now in
    let place = c.loop-place.place in
    let e = holds part text c.behind.result.now place c.begins.result false c.behind.ensures c.begins.ensures.value c.if-begins.false in
    record {
      text =
          ap (λ (xs : List ℕ). xs ++ (replaced part by 0 (drop (place + 1) text)).text) c.in_ok-push.ensures.ok
          ∙ kept_text c.loop-place.out part by text (replaced part by 0 text).text place c.loop-place-test.true e c.loop-place.invariant.text;
      count = kept_count c.loop-place.count (replaced part by 0 text).count part by text place c.loop-place-test.true e c.loop-place.invariant.count;
      few = omega (arith, c.loop-place.invariant.few);
      within = omega (arith, c.loop-place-test.true);
    }

pub returns-clause-count : goal.returns-clause-count
returns-clause-count c =
    ended_count c.loop-place.count (replaced c.args.part.now c.args.by.now 0 c.args.text.now).count c.args.part.now c.args.by.now
    c.args.text.now c.loop-place.place c.loop-place-test.false c.loop-place.invariant.count

pub returns-clause-text : goal.returns-clause-text
returns-clause-text c =
    ended_text c.loop-place.out c.args.part.now c.args.by.now c.args.text.now (replaced c.args.part.now c.args.by.now 0 c.args.text.now).text
    c.loop-place.place c.loop-place-test.false c.loop-place.invariant.text
