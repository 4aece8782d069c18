-- A call of a native function leaves no more steps than it finds.
use Rattle.std.proofs.Common.{ℕ, Bool, true, false, List, [], ◌∷◌, Option, Some, None, arith}
use Rattle.mql_mean.specs.declared.value.Value.{Value}
use Rattle.mql_mean.specs.declared.host.HostCall.{HostCall}
use Rattle.mql_mean.specs.Answer.{Answer, Replied, Refused}
use Rattle.natives.specs.declared.native.Native.{Native}
use Rattle.natives.specs.declared.native.Native.TheVariants as natives
use Rattle.mql_meaning.specs.declared.cell.Cell.{Cell}
use Rattle.mql_meaning.specs.declared.place.Place.{Place}
use Rattle.mql_meaning.specs.Changes.{Ended, Stopped, Change}
use Rattle.mql_meaning.specs.Runs.{World, Res, Go, End, Act, bind, ◌>>=◌, ◌>>◌, pure, halt, change, choose}
use Rattle.mql_meaning.specs.Operands.{Operand}
use Rattle.mql_meaning.specs.Natives.{NativeDone}
use Rattle.mql_meaning.specs.References.{put_at}
use Rattle.mql_meaning.specs.Calls.{fits, replied, ask, answered, tells, asks, calls_native, runs_native, does_native}
use Rattle.stack_follows.proofs.Steps.{Within, within_more, within_change, Spares}

within_bind : {A B : Type 0} (n : ℕ) (r : Res A) (g : A → Act B) → Within n r → ((a : A) → Spares (g a)) → Within n (bind r g)
within_bind n (Go a j w) g h s = within_more j n (g a j w) h ((s a).is j w)
within_bind n (End e j w) g h s = tt

bind_spares : {A B : Type 0} {f : Act A} {g : A → Act B} → Spares f → ((a : A) → Spares (g a)) → Spares (f >>= g)
unfolding ◌>>=◌
bind_spares {f} {g} s t = record { is = λ n w. within_bind n (f n w) g (s.is n w) t }

then_spares : {A B : Type 0} {f : Act A} {g : Act B} → Spares f → Spares g → Spares (f >> g)
unfolding ◌>>◌
then_spares {f} {g} s t = record { is = λ n w. within_bind n (f n w) (λ _. g) (s.is n w) (λ _. t) }

pure_spares : {A : Type 0} (a : A) → Spares (pure a)
unfolding pure
pure_spares a = record { is = λ n w. omega arith }

halt_spares : {A : Type 0} (e : Ended) → Spares {A = A} (halt e)
unfolding halt
halt_spares e = record { is = λ n w. tt }

change_spares : {A : Type 0} (f : Change A) → Spares (change f)
unfolding change
change_spares f = record { is = λ n w. within_change n w (f w.store) }

choose_spares : {A : Type 0} (b : Bool) {f g : Act A} → Spares f → Spares g → Spares (choose b f g)
unfolding choose
choose_spares true s t = record { is = s.is }
choose_spares false s t = record { is = t.is }

replied_spares : (new : Option (List Cell)) (v : Value) (ps : List Place) (cs : List Cell) → Spares (replied new v ps cs)
replied_spares None v ps cs = halt_spares Stopped
replied_spares (Some new) v ps cs = bind_spares (change_spares (put_at ps cs new)) (λ _. pure_spares v)

within_answered : (f : Option Native) (c : HostCall) (ps : List Place) (cs : List Cell) (answers : List Answer) (n : ℕ) (w : World) → Within n (answered f c ps cs answers n w)
within_answered f c ps cs [] n w = tt
within_answered f c ps cs (Replied r ∷ answers) n w = (replied_spares (fits f r cs) r.value ps cs).is n _
within_answered f c ps cs (Refused kind ∷ answers) n w = tt

ask_spares : (f : Option Native) (c : HostCall) (ps : List Place) (cs : List Cell) → Spares (ask f c ps cs)
unfolding ask
ask_spares f c ps cs = record { is = λ n w. within_answered f c ps cs w.answers n w }

tells_spares : (b : Bool) → Spares (tells b)
tells_spares true = then_spares (ask_spares _ _ _ _) (pure_spares tt)
tells_spares false = pure_spares tt

does_native_spares : (ps : List Place) (cs : List Cell) (f : Change NativeDone) → Spares (does_native ps cs f)
does_native_spares ps cs f = bind_spares (change_spares f) (λ d. then_spares (change_spares (put_at ps cs d.outs)) (then_spares (tells_spares d.out_of_range) (pure_spares d.value)))

runs_native_spares : (f : Native) (xs : List Operand) → Spares (runs_native f xs)
runs_native_spares f xs = bind_spares (change_spares _) (λ cs. choose_spares (asks f) (ask_spares _ _ _ _) (does_native_spares _ cs _))

pub native_spares : (f : Native) (xs : List Operand) → Spares (calls_native f xs)
native_spares natives.GetPointer xs = change_spares _
native_spares natives.CheckPointer xs = change_spares _
native_spares f xs = runs_native_spares f xs
