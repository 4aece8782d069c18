-- A native function spends no step.
use Rattle.std.proofs.Common.{◌≡◌, ℕ, List, [], ◌∷◌, Bool, true, false, Option, Some, None, refl, subst}
use Rattle.mql_mean.specs.declared.value.Value.{Value}
use Rattle.mql_mean.specs.declared.host.HostCall.{HostCall}
use Rattle.mql_mean.specs.Answer.{Answer, Replied, Refused}
use Rattle.natives.specs.declared.native.Native.{Native}
use Rattle.natives.specs.declared.native.Native.TheVariants as natives
use Rattle.mql_meaning.specs.declared.cell.Cell.{Cell}
use Rattle.mql_meaning.specs.declared.place.Place.{Place}
use Rattle.mql_meaning.specs.Changes.{Ended, Out, Done, Over, Change}
use Rattle.mql_meaning.specs.Runs.{World, Res, Go, End, Act, bind, ◌>>=◌, ◌>>◌, pure, halt, in_run, change, choose}
use Rattle.mql_meaning.specs.Operands.{Operand}
use Rattle.mql_meaning.specs.Natives.{NativeDone}
use Rattle.mql_meaning.specs.References.{put_at}
use Rattle.mql_meaning.specs.Calls.{fits, replied, answered, ask, tells, asks, calls_native, runs_native, does_native}

-- what goes on has so many steps left
abbrev pub Kept : {A : Type 0} → ℕ → Res A → Type 0
Kept n (Go a m w) = m ≡ n
Kept n (End e m w) = Unit {0}

-- a part of a program spends no step
pub record Keeps {A : Type 0} (f : Act A) : Type 0 where
  pub is : (n : ℕ) (w : World) → Kept n (f n w)

bind_kept : {A B : Type 0} (r : Res A) (g : A → Act B) (n : ℕ) → Kept n r → ((a : A) → Keeps (g a)) → Kept n (bind r g)
bind_kept (Go a m w) g n e k = subst (λ (j : ℕ). Kept j (g a m w)) e ((k a).is m w)
bind_kept (End x m w) g n e k = tt

bind_keeps : {A B : Type 0} {f : Act A} {g : A → Act B} → Keeps f → ((a : A) → Keeps (g a)) → Keeps (f >>= g)
unfolding ◌>>=◌
bind_keeps {f} {g} kf kg = record { is = λ n w. bind_kept (f n w) g n (kf.is n w) kg }

then_keeps : {A B : Type 0} {f : Act A} {g : Act B} → Keeps f → Keeps g → Keeps (f >> g)
unfolding ◌>>◌
then_keeps {f} {g} kf kg = record { is = λ n w. bind_kept (f n w) (λ _. g) n (kf.is n w) (λ _. kg) }

pure_keeps : {A : Type 0} (a : A) → Keeps (pure a)
unfolding pure
pure_keeps a = record { is = λ n w. refl }

halt_keeps : {A : Type 0} (e : Ended) → Keeps {A = A} (halt e)
unfolding halt
halt_keeps e = record { is = λ n w. tt }

out_kept : {A : Type 0} (o : Out A) (n : ℕ) (w : World) → Kept n (in_run o n w)
out_kept (Done a store) n w = refl
out_kept (Over e store) n w = tt

change_keeps : {A : Type 0} (f : Change A) → Keeps (change f)
unfolding change
change_keeps f = record { is = λ n w. out_kept (f w.store) n w }

choose_keeps : {A : Type 0} (b : Bool) {f g : Act A} → Keeps f → Keeps g → Keeps (choose b f g)
unfolding choose
choose_keeps true kf kg = record { is = kf.is }
choose_keeps false kf kg = record { is = kg.is }

replied_keeps : (new : Option (List Cell)) (v : Value) (ps : List Place) (cs : List Cell) → Keeps (replied new v ps cs)
replied_keeps None v ps cs = halt_keeps _
replied_keeps (Some new) v ps cs = bind_keeps (change_keeps (put_at ps cs new)) (λ _. pure_keeps v)

answered_kept : (f : Option Native) (c : HostCall) (ps : List Place) (cs : List Cell) (answers : List Answer) (n : ℕ) (w : World) →
    Kept n (answered f c ps cs answers n w)
answered_kept f c ps cs [] n w = tt
answered_kept f c ps cs (Replied r ∷ answers) n w = (replied_keeps (fits f r cs) r.value ps cs).is n _
answered_kept f c ps cs (Refused kind ∷ answers) n w = tt

ask_keeps : (f : Option Native) (c : HostCall) (ps : List Place) (cs : List Cell) → Keeps (ask f c ps cs)
unfolding ask
ask_keeps f c ps cs = record { is = λ n w. answered_kept f c ps cs w.answers n w }

tells_keeps : (b : Bool) → Keeps (tells b)
tells_keeps true = then_keeps (ask_keeps _ _ _ _) (pure_keeps tt)
tells_keeps false = pure_keeps tt

does_native_keeps : (ps : List Place) (cs : List Cell) (f : Change NativeDone) → Keeps (does_native ps cs f)
does_native_keeps ps cs f = bind_keeps (change_keeps f) (λ d. then_keeps (change_keeps (put_at ps cs d.outs)) (then_keeps (tells_keeps d.out_of_range) (pure_keeps d.value)))

runs_native_keeps : (f : Native) (xs : List Operand) → Keeps (runs_native f xs)
runs_native_keeps f xs = bind_keeps (change_keeps _) (λ cs. choose_keeps (asks f) (ask_keeps _ _ _ _) (does_native_keeps _ cs _))

pub calls_native_keeps : (f : Native) (xs : List Operand) → Keeps (calls_native f xs)
calls_native_keeps natives.GetPointer xs = change_keeps _
calls_native_keeps natives.CheckPointer xs = change_keeps _
calls_native_keeps f xs = runs_native_keeps f xs
