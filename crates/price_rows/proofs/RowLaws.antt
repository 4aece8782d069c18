-- How the rows of records follow one another.
use Rattle.std.proofs.Common.{◌≡◌, ℕ, ◌+◌, ◌-◌, ◌≤◌, List, [], ◌∷◌, ◌++◌, length, Some, None, Option, Ok, Err, refl, sym, ap, ◌∙◌, arith, append_assoc, append-nil, subst, length-append, true, suc}
use Rattle.std.specs.Prelude.{All, IfSome}
use Rattle.std.specs.List.{slice_get}
use Rattle.std.proofs.lemmas.Bool.{and_parts, and_from}
use Rattle.std.proofs.lemmas.Option.{slice_get_within, get_or_from_slice_get}
use Rattle.std.proofs.lemmas.List.Elements.{All-push}
use Rattle.market_types.specs.declared.bar.Bar.{Bar}
use Rattle.market_types.specs.declared.tick.Tick.{Tick}
use Rattle.market_types.specs.Ordered.{IsBar, AreBars, is_rising, IsTick, AreTicks, is_timed}
use Rattle.price_rows.specs.Files.{Judge, Judged, rows_from, after_row}
use Rattle.price_rows.specs.Rows.{is_later, is_in_time}

-- rows before an answer
abbrev pub after_rows : {R : Type 0} → List R → Judged R → Judged R
after_rows rows (Ok more) = Ok (rows ++ more)
after_rows rows (Err fault) = Err fault

pub after_none : {R : Type 0} (a : Judged R) → a ≡ after_rows [] a
after_none (Ok rows) = refl
after_none (Err fault) = refl

after_push : {R : Type 0} (rows : List R) (row : R) (a : Judged R) → after_rows rows (after_row row a) ≡ after_rows (rows ++ (row ∷ [])) a
after_push rows row (Ok more) = ap Ok (sym (append_assoc rows (row ∷ []) more))
after_push rows row (Err fault) = refl

-- the last of rows
abbrev pub last_of : {R : Type 0} → List R → Option R
last_of rows = slice_get rows (length rows - 1)

get_last : {R : Type 0} (rows : List R) (row : R) → slice_get (rows ++ (row ∷ [])) (length rows) ≡ Some row
get_last [] row = refl
get_last (a ∷ rows) row = get_last rows row

one_longer : {R : Type 0} (rows : List R) (row : R) → length (rows ++ (row ∷ [])) - 1 ≡ length rows
one_longer rows row = omega (arith, length-append rows (row ∷ []))

last_push : {R : Type 0} (rows : List R) (row : R) → last_of (rows ++ (row ∷ [])) ≡ Some row
last_push rows row = ap (λ n. slice_get (rows ++ (row ∷ [])) n) (one_longer rows row) ∙ get_last rows row

-- the last of more than one row
last_cons : {R : Type 0} (a b : R) (rows : List R) → last_of (b ∷ rows) ≡ last_of (a ∷ b ∷ rows)
last_cons a b rows =
    let here : length (b ∷ rows) - 1 ≡ length rows = omega arith in
    let there : length (a ∷ b ∷ rows) - 1 ≡ suc (length rows) = omega arith in
    ap (slice_get (b ∷ rows)) here ∙ sym (ap (slice_get (a ∷ b ∷ rows)) there)

-- the last of rows keeps what each of them keeps
by_last : {R : Type 0} (P : R → Type 0) (rows : List R) (o : Option R) → All P rows → last_of rows ≡ o → IfSome o P
by_last P rows None all e = tt
by_last P rows (Some row) all e =
    let within = slice_get_within rows (length rows - 1) row e in
    subst P (get_or_from_slice_get rows (length rows - 1) row row e) (all (length rows - 1) row within)

pub last_keeps : {R : Type 0} (P : R → Type 0) (rows : List R) (before : Option R) → All P rows → before ≡ last_of rows → IfSome before P
last_keeps P rows before all e = by_last P rows before all (sym e)

module _ {R : Type 0} (judge : Judge R) where
  at_end : (n : ℕ) (rows : List R) (before : Option R) → after_rows rows (rows_from judge n before []) ≡ Ok rows
  unfolding rows_from
  at_end n rows before = ap Ok (append-nil rows)

  at_fault : (n : ℕ) (rows : List R) (before : Option R) (fields : List (List ℕ)) (more : List (List (List ℕ))) (rule : ℕ)
      → judge n before fields ≡ Err rule → after_rows rows (rows_from judge n before (fields ∷ more)) ≡ Err (n, rule)
  unfolding rows_from
  at_fault n rows before fields more rule e = rw e refl

  at_good : (n : ℕ) (rows : List R) (before : Option R) (fields : List (List ℕ)) (more : List (List (List ℕ))) (row : R)
      → judge n before fields ≡ Ok row
      → after_rows rows (rows_from judge n before (fields ∷ more)) ≡ after_rows (rows ++ (row ∷ [])) (rows_from judge (n + 1) (last_of (rows ++ (row ∷ []))) more)
  unfolding rows_from
  at_good n rows before fields more row e = rw (e, last_push rows row) (after_push rows row (rows_from judge (n + 1) (Some row) more))

  -- one row more
  pub step_good : (first : Judged R) (n : ℕ) (rows all : List R) (records more : List (List (List ℕ))) (fields : List (List ℕ)) (before : Option R) (row : R)
      → first ≡ after_rows rows (rows_from judge n (last_of rows) records) → records ≡ fields ∷ more → before ≡ last_of rows
      → Ok row ≡ judge n before fields → all ≡ rows ++ (row ∷ []) → first ≡ after_rows all (rows_from judge (n + 1) (last_of all) more)
  step_good first n rows all records more fields before row e r b j a =
      let one : judge n (last_of rows) fields ≡ Ok row = sym (subst (λ x. Ok row ≡ judge n x fields) b j) in
      e ∙ ap (λ x. after_rows rows (rows_from judge n (last_of rows) x)) r ∙ at_good n rows (last_of rows) fields more row one
      ∙ ap (λ x. after_rows x (rows_from judge (n + 1) (last_of x) more)) (sym a)

  -- a row that breaks a rule
  pub step_fault : (first : Judged R) (n : ℕ) (rows : List R) (records more : List (List (List ℕ))) (fields : List (List ℕ)) (before : Option R) (rule : ℕ)
      → first ≡ after_rows rows (rows_from judge n (last_of rows) records) → records ≡ fields ∷ more → before ≡ last_of rows
      → Err rule ≡ judge n before fields → first ≡ Err (n, rule)
  step_fault first n rows records more fields before rule e r b j =
      let one : judge n (last_of rows) fields ≡ Err rule = sym (subst (λ x. Err rule ≡ judge n x fields) b j) in
      e ∙ ap (λ x. after_rows rows (rows_from judge n (last_of rows) x)) r ∙ at_fault n rows (last_of rows) fields more rule one

  -- no row more
  pub step_end : (first : Judged R) (n : ℕ) (rows : List R) (records : List (List (List ℕ)))
      → first ≡ after_rows rows (rows_from judge n (last_of rows) records) → records ≡ [] → first ≡ Ok rows
  step_end first n rows records e r = e ∙ ap (λ x. after_rows rows (rows_from judge n (last_of rows) x)) r ∙ at_end n rows (last_of rows)

-- a bar behind bars whose times rise
rising_push : (bars : List Bar) (bar : Bar) → is_rising bars ≡ true → is_later (last_of bars) bar.time ≡ true → is_rising (bars ++ (bar ∷ [])) ≡ true
rising_push [] bar r l = refl
rising_push (b ∷ []) bar r l = rw l refl
rising_push (b ∷ n ∷ more) bar r l = let up = and_parts _ _ r in and_from _ _ up.0 (rising_push (n ∷ more) bar up.1 (subst (λ o. is_later o bar.time ≡ true) (sym (last_cons b n more)) l))

-- a tick behind ticks whose times do not fall
timed_push : (ticks : List Tick) (tick : Tick) → is_timed ticks ≡ true → is_in_time (last_of ticks) tick.time_ms ≡ true → is_timed (ticks ++ (tick ∷ [])) ≡ true
timed_push [] tick r l = refl
timed_push (b ∷ []) tick r l = rw l refl
timed_push (b ∷ n ∷ more) tick r l = let up = and_parts _ _ r in and_from _ _ up.0 (timed_push (n ∷ more) tick up.1 (subst (λ o. is_in_time o tick.time_ms ≡ true) (sym (last_cons b n more)) l))

longer : {R : Type 0} (rows : List R) (row : R) (n : ℕ) → n ≡ length rows + 2 → n ≤ 4000001 → length (rows ++ (row ∷ [])) ≤ 4000000
longer rows row n e few = omega (arith, e, length-append rows (row ∷ []))

pub bars_push : (bars all : List Bar) (before : Option Bar) (bar : Bar) (n : ℕ) → AreBars bars → n ≡ length bars + 2 → n ≤ 4000001 → before ≡ last_of bars
    → IsBar bar → is_later before bar.time ≡ true → all ≡ bars ++ (bar ∷ []) → AreBars all
bars_push bars all before bar n are count few b is later a =
    subst AreBars (sym a) (record {
      ranges = All-push IsBar bars bar are.ranges is;
      rising = rising_push bars bar are.rising (subst (λ o. is_later o bar.time ≡ true) b later);
      few = longer bars bar n count few;
    })

pub ticks_push : (ticks all : List Tick) (before : Option Tick) (tick : Tick) (n : ℕ) → AreTicks ticks → n ≡ length ticks + 2 → n ≤ 4000001 → before ≡ last_of ticks
    → IsTick tick → is_in_time before tick.time_ms ≡ true → all ≡ ticks ++ (tick ∷ []) → AreTicks all
ticks_push ticks all before tick n are count few b is in_time a =
    subst AreTicks (sym a) (record {
      ranges = All-push IsTick ticks tick are.ranges is;
      timed = timed_push ticks tick are.timed (subst (λ o. is_in_time o tick.time_ms ≡ true) b in_time);
      few = longer ticks tick n count few;
    })

pub count_push : {R : Type 0} (rows all : List R) (row : R) (n : ℕ) → n ≡ length rows + 2 → all ≡ rows ++ (row ∷ []) → n + 1 ≡ length all + 2
count_push rows all row n e a = omega (arith, e, ap length a, length-append rows (row ∷ []))

pub no_bars : AreBars []
no_bars = record { ranges = λ k d small. absurd (omega (arith, small)); rising = refl; few = omega arith }

pub no_ticks : AreTicks []
no_ticks = record { ranges = λ k d small. absurd (omega (arith, small)); timed = refl; few = omega arith }
