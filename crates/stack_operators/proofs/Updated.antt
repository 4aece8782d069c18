-- A place that is read once, gets its new value, and gives one.
use Rattle.std.proofs.Common.{◌≡◌, pos, Option, Some, None, refl, sym, ap, ◌∙◌, subst}
use Rattle.std.specs.Prelude.{MatchOption, Result}
use Rattle.fx8.specs.declared.int_kind.IntKind.TheVariants as kind
use Rattle.fx8.specs.declared.int_operator.IntOperator.{IntOperator}
use Rattle.fx8.specs.declared.int_operator.IntOperator.TheVariants as op
use Rattle.mql_mean.specs.declared.value.Value.{Value}
use Rattle.mql_mean.specs.declared.value.Value.TheVariants as value
use Rattle.mql_meaning.specs.declared.operator.Bump.{Bump}
use Rattle.mql_meaning.specs.declared.operator.Bump.TheVariants as bump
use Rattle.mql_meaning.specs.declared.place.Place.{Place}
use Rattle.mql_meaning.specs.declared.store.Store.{Store}
use Rattle.mql_meaning.specs.declared.types.Sort.{Sort}
use Rattle.mql_meaning.specs.Changes.{Change, ◌>>=◌, Out, Done, Over, Ended, after, give, the}
use Rattle.mql_meaning.specs.Operators.{sort_of, convert, binary, bump_sort, Update, update, bumped, bump_at}
use Rattle.mql_meaning.specs.Places.{read, write}
use Rattle.native_conversions.specs.Conversions.{converted}
use Rattle.native_conversions.proofs.Laws.{conversion_gives}
use Rattle.store_cells.specs.declared.fault.Fault.{Fault}
use Rattle.store_cells.specs.Changes.{Leads}
use Rattle.stack_operators.specs.Steps.{bumped_from, counted, keeps, renewed, updated}

-- what is given, of an old value and a new one
abbrev Pick : Type 0
Pick = Value → Value → Value

abbrev both : Value → Value → Update
both old new = record { old = old; new = new }

abbrev gives : Pick → Update → Change Value
gives pick u = give (pick u.old u.new)

-- the end of an assignment
abbrev put_in : Place → Value → Value → Change Update
put_in p old new = write new p >>= λ _. give (both old new)

abbrev kept : Pick → Place → Value → Value → Change Value
kept pick p old new = keeps new (pick old new) p

written : (pick : Pick) (old new : Value) (out : Out (Unit {0})) →
    after (after out (λ _. give (both old new))) (gives pick) ≡ after out (λ _. give (pick old new))
written pick old new (Done u s) = refl
written pick old new (Over e s) = refl

taken_back : (pick : Pick) (p : Place) (old : Value) (out : Out Value) →
    after (after out (put_in p old)) (gives pick) ≡ after out (kept pick p old)
taken_back pick p old (Done new s) = written pick old new (write new p s)
taken_back pick p old (Over e s) = refl

worked_out : (pick : Pick) (p : Place) (old : Value) (own : Sort) (out : Out Value) →
    after (after out (λ z. convert own z >>= put_in p old)) (gives pick)
    ≡ after (after out (λ z. convert own z)) (kept pick p old)
worked_out pick p old own (Done z s) = taken_back pick p old (convert own z s)
worked_out pick p old own (Over e s) = refl

taken_in : (pick : Pick) (o : IntOperator) (t : Sort) (y : Value) (p : Place) (old : Value) (own : Sort) (out : Out Value) →
    after (after out (λ x. binary o t x y >>= λ z. convert own z >>= put_in p old)) (gives pick)
    ≡ after (after out (λ x. binary o t x y >>= λ z. convert own z)) (kept pick p old)
taken_in pick o t y p old own (Done x s) = worked_out pick p old own (binary o t x y s)
taken_in pick o t y p old own (Over e s) = refl

sorted : (pick : Pick) (o : IntOperator) (t : Sort) (y : Value) (p : Place) (old : Value) (out : Out Sort) →
    after (after out (λ own. convert t old >>= λ x. binary o t x y >>= λ z. convert own z >>= put_in p old)) (gives pick)
    ≡ after (after out (λ own. convert t old >>= λ x. binary o t x y >>= λ z. convert own z)) (kept pick p old)
sorted pick o t y p old (Done own s) = taken_in pick o t y p old own (convert t old s)
sorted pick o t y p old (Over e s) = refl

from_read : (pick : Pick) (o : IntOperator) (t : Sort) (y : Value) (p : Place) (out : Out Value) →
    after (after out (λ old. the (sort_of old) >>= λ own. convert t old >>= λ x. binary o t x y >>= λ z. convert own z >>= put_in p old)) (gives pick)
    ≡ after out (λ old. renewed o t y old >>= kept pick p old)
from_read pick o t y p (Done old s) = sorted pick o t y p old (the (sort_of old) s)
from_read pick o t y p (Over e s) = refl

-- an update reads, works out the new value, and puts it in
pub update_is : (o : IntOperator) (t : Sort) (y : Value) (p : Place) (store : Store) →
    updated o t y p store ≡ (read p >>= λ old. renewed o t y old >>= λ new. keeps new new p) store
update_is o t y p store = from_read (λ old new. new) o t y p (read p store)

update_from : (pick : Pick) (o : IntOperator) (t : Sort) (y : Value) (p : Place) (store : Store) (old : Value) →
    read p store ≡ Done old store →
    after (update o t y p store) (gives pick) ≡ after (renewed o t y old store) (kept pick p old)
update_from pick o t y p store old e =
    from_read pick o t y p (read p store) ∙ ap (λ (out : Out Value). after out (λ old. renewed o t y old >>= kept pick p old)) e

-- the value of 1
abbrev one : Value
one = value.Num kind.Int (pos 1)

abbrev Settles : Store → Out Value → Option Value → Type 0
Settles s out found = MatchOption found ((e : Ended) × (out ≡ Over e s)) (λ v. out ≡ Done v s)

one_converted : (pick : Pick) (o : IntOperator) (t : Sort) (p : Place) (store : Store) (old : Value) (out : Out Value) (found : Option Value) →
    read p store ≡ Done old store → Settles store out found →
    after (after out (λ y. update o t y p)) (gives pick) ≡ after (after out (λ y. renewed o t y old)) (kept pick p old)
one_converted pick o t p store old out None e (end, is) =
    ap (λ (x : Out Value). after (after x (λ y. update o t y p)) (gives pick)) is
    ∙ ap (λ (x : Out Value). after (after x (λ y. renewed o t y old)) (kept pick p old)) (sym is)
one_converted pick o t p store old out (Some y) e is =
    ap (λ (x : Out Value). after (after x (λ y. update o t y p)) (gives pick)) is
    ∙ update_from pick o t y p store old e
    ∙ ap (λ (x : Out Value). after (after x (λ y. renewed o t y old)) (kept pick p old)) (sym is)

one_more : (pick : Pick) (o : IntOperator) (p : Place) (store : Store) (old : Value) (own : Option Sort) →
    read p store ≡ Done old store →
    after (after (the own store) (λ own. convert (bump_sort own) one >>= λ y. update o (bump_sort own) y p)) (gives pick)
    ≡ after (after (the own store) (λ own. convert (bump_sort own) one >>= λ y. renewed o (bump_sort own) y old)) (kept pick p old)
one_more pick o p store old None e = refl
one_more pick o p store old (Some own) e =
    one_converted pick o (bump_sort own) p store old (convert (bump_sort own) one store)
    (converted (bump_sort own) one) e (conversion_gives (bump_sort own) one store)

bumped_is : (pick : Pick) (o : IntOperator) (p : Place) (store : Store) (old : Value) → read p store ≡ Done old store →
    after (bumped o p store) (gives pick) ≡ after (counted o old store) (kept pick p old)
bumped_is pick o p store old e =
    ap (λ (out : Out Value). after (after out (λ old. the (sort_of old) >>= λ own. convert (bump_sort own) one >>= λ y. update o (bump_sort own) y p)) (gives pick)) e
    ∙ one_more pick o p store old (sort_of old) e

-- 1 more or less is worked out of the value that was read, put in, and one of both is given
bump_is : (b : Bump) (p : Place) (store : Store) (old : Value) → read p store ≡ Done old store →
    bump_at b p store ≡ bumped_from b old p store
bump_is bump.MoreFirst p store old e = bumped_is (λ old new. new) op.Add p store old e
bump_is bump.LessFirst p store old e = bumped_is (λ old new. new) op.Subtract p store old e
bump_is bump.MoreAfter p store old e = bumped_is (λ old new. old) op.Add p store old e
bump_is bump.LessAfter p store old e = bumped_is (λ old new. old) op.Subtract p store old e

pub bump_gives : (b : Bump) (p : Place) (store new : Store) (old : Value) (r : Result Value Fault) →
    read p store ≡ Done old store → Leads (bumped_from b old p store) r new → Leads (bump_at b p store) r new
bump_gives b p store new old r e h =
    subst (λ (out : Out Value). Leads out r new) (sym (bump_is b p store old e)) h

-- where the place is not read, it does not go on
pub bump_fails : (b : Bump) (p : Place) (store : Store) (end : Ended) → read p store ≡ Over end store →
    bump_at b p store ≡ Over end store
bump_fails bump.MoreFirst p store end e = rw e refl
bump_fails bump.LessFirst p store end e = rw e refl
bump_fails bump.MoreAfter p store end e = rw e refl
bump_fails bump.LessAfter p store end e = rw e refl
