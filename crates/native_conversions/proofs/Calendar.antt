-- One step of the search for a month and for a year.
use Rattle.std.proofs.Common.{◌≡◌, ℕ, suc, ◌+◌, ◌-◌, ◌<◌, ◌≤◌, Bool, true, false, sym, ap, ◌∙◌, arith}
use Rattle.std.specs.Prelude.{nat_lt, pos, ℤ, List, unsigned_abs}
use Rattle.jiff_core.specs.Calendar.{days_in_month, days_in_year}
use Rattle.mql_meaning.specs.Changes.{either}
use Rattle.mql_meaning.specs.Dates.{Date, in_month, in_year, has_date, moment_text}
use Rattle.mql_meaning.specs.Texts.{time_text, whole_text}

below : (a b : ℕ) → a < b → nat_lt a b ≡ true
below a b h = grind arith

above : (a b : ℕ) → b ≤ a → nat_lt a b ≡ false
above a b h = grind arith

left_is : (left : ℕ) → 0 < left → left ≡ suc (left - 1)
left_is left h = omega (arith, h)

abbrev pick : Bool → Date → Date → Date
pick b x y = elim b [ true ↦ x | false ↦ y ]

abbrev day_in : (year of_year month rest : ℕ) → Date
day_in year of_year month rest = record { year = year; month = month; day = rest + 1; day_of_year = of_year }

month_step : (left year of_year month rest : ℕ) (b : Bool) → 0 < left → nat_lt rest (days_in_month (pos year) month) ≡ b
    → in_month left year of_year month rest
    ≡ pick b (day_in year of_year month rest) (in_month (left - 1) year of_year (month + 1) (rest - days_in_month (pos year) month))
month_step left year of_year month rest b h e =
    ap (λ (n : ℕ). in_month n year of_year month rest) (left_is left h)
    ∙ ap (λ (t : Bool). pick t (day_in year of_year month rest) (in_month (left - 1) year of_year (month + 1) (rest - days_in_month (pos year) month))) e

pub month_here : (left year of_year month rest : ℕ) → 0 < left → rest < days_in_month (pos year) month
    → in_month left year of_year month rest ≡ record { year = year; month = month; day = rest + 1; day_of_year = of_year }
month_here left year of_year month rest h d = month_step left year of_year month rest true h (below rest (days_in_month (pos year) month) d)

pub month_next : (left year of_year month rest : ℕ) → 0 < left → days_in_month (pos year) month ≤ rest
    → in_month (left - 1) year of_year (month + 1) (rest - days_in_month (pos year) month) ≡ in_month left year of_year month rest
month_next left year of_year month rest h d =
    sym (month_step left year of_year month rest false h (above rest (days_in_month (pos year) month) d))

pub month_end : (left year of_year month rest : ℕ) → left ≤ 0
    → in_month left year of_year month rest ≡ record { year = year; month = month; day = rest + 1; day_of_year = of_year }
month_end left year of_year month rest h = let none : left ≡ 0 = omega (arith, h) in ap (λ (n : ℕ). in_month n year of_year month rest) none

year_step : (left year rest : ℕ) (b : Bool) → 0 < left → nat_lt rest (days_in_year (pos year)) ≡ b
    → in_year left year rest ≡ pick b (in_month 11 year rest 1 rest) (in_year (left - 1) (year + 1) (rest - days_in_year (pos year)))
year_step left year rest b h e =
    ap (λ (n : ℕ). in_year n year rest) (left_is left h)
    ∙ ap (λ (t : Bool). pick t (in_month 11 year rest 1 rest) (in_year (left - 1) (year + 1) (rest - days_in_year (pos year)))) e

pub year_here : (left year rest : ℕ) → 0 < left → rest < days_in_year (pos year) → in_year left year rest ≡ in_month 11 year rest 1 rest
year_here left year rest h d = year_step left year rest true h (below rest (days_in_year (pos year)) d)

pub year_next : (left year rest : ℕ) → 0 < left → days_in_year (pos year) ≤ rest
    → in_year (left - 1) (year + 1) (rest - days_in_year (pos year)) ≡ in_year left year rest
year_next left year rest h d = sym (year_step left year rest false h (above rest (days_in_year (pos year)) d))

pub year_end : (left year rest : ℕ) → left ≤ 0 → in_year left year rest ≡ in_month 11 year rest 1 rest
year_end left year rest h = let none : left ≡ 0 = omega (arith, h) in ap (λ (n : ℕ). in_year n year rest) none

-- the text of a second that has a date
pub at_date : (t : ℤ) (u : ℕ) → has_date t ≡ true → u ≡ unsigned_abs t → moment_text u ≡ time_text t
at_date t u d e =
    ap moment_text e ∙ sym (ap (λ (b : Bool). either b (moment_text (unsigned_abs t)) (whole_text t)) d)
