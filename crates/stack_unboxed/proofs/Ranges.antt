-- Numbers in the range of their kind.
use Rattle.std.proofs.Common.{◌≡◌, zero, suc, Bool, true, false, Option, Some, None, Ok, refl, sym, ap, ◌∙◌, subst, arith}
use Rattle.std.specs.Prelude.{ℤ, pos, negsuc, ◌+ℤ◌, ◌-ℤ◌, ◌*ℤ◌, ◌<ℤ◌, int_rem, int_lt, int_le, not}
use Rattle.std.proofs.lemmas.Int.{ints}
use Rattle.fx8.specs.declared.int_kind.IntKind.{IntKind}
use Rattle.fx8.specs.declared.int_kind.IntKind.TheVariants as kind
use Rattle.fx8.specs.declared.int_operator.IntOperator.{IntOperator}
use Rattle.fx8.specs.declared.int_operator.IntOperator.TheVariants as op
use Rattle.fx8.specs.Integers.{InRange, wrapped, truth, is_zero, is_bool}
use Rattle.fx8.specs.Operators.{exact}
use Rattle.fx8.proofs.KindLaws.{wrapped_alone}
use Rattle.stack_unboxed.specs.Unboxed.{Computes, Is}

zero_or_one : (x : ℤ) → InRange kind.Bool x → x ≡ wrapped kind.Bool x
unfolding wrapped
zero_or_one (pos zero) h = refl
zero_or_one (pos (suc zero)) h = refl
zero_or_one (pos (suc (suc n))) h = absurd (omega (arith, ints, h.to))
zero_or_one (negsuc n) h = absurd (omega (arith, ints, h.from))

itself : (k : IntKind) (x : ℤ) → is_bool k ≡ false → InRange k x → x ≡ wrapped k x
itself k x h r = wrapped_alone k x x h r (pos 0, omega (arith, ints))

pub same_in : (k : IntKind) (x : ℤ) → InRange k x → x ≡ wrapped k x
same_in kind.Bool x h = zero_or_one x h
same_in kind.Char x h = itself kind.Char x refl h
same_in kind.Uchar x h = itself kind.Uchar x refl h
same_in kind.Short x h = itself kind.Short x refl h
same_in kind.Ushort x h = itself kind.Ushort x refl h
same_in kind.Int x h = itself kind.Int x refl h
same_in kind.Uint x h = itself kind.Uint x refl h
same_in kind.Long x h = itself kind.Long x refl h
same_in kind.Ulong x h = itself kind.Ulong x refl h
same_in kind.Datetime x h = itself kind.Datetime x refl h
same_in kind.Color x h = itself kind.Color x refl h

truth_there : (k : IntKind) (b : Bool) → InRange k (truth b)
truth_there kind.Bool true = record { from = omega (arith, ints); to = omega (arith, ints) }
truth_there kind.Bool false = record { from = omega (arith, ints); to = omega (arith, ints) }
truth_there kind.Char true = record { from = omega (arith, ints); to = omega (arith, ints) }
truth_there kind.Char false = record { from = omega (arith, ints); to = omega (arith, ints) }
truth_there kind.Uchar true = record { from = omega (arith, ints); to = omega (arith, ints) }
truth_there kind.Uchar false = record { from = omega (arith, ints); to = omega (arith, ints) }
truth_there kind.Short true = record { from = omega (arith, ints); to = omega (arith, ints) }
truth_there kind.Short false = record { from = omega (arith, ints); to = omega (arith, ints) }
truth_there kind.Ushort true = record { from = omega (arith, ints); to = omega (arith, ints) }
truth_there kind.Ushort false = record { from = omega (arith, ints); to = omega (arith, ints) }
truth_there kind.Int true = record { from = omega (arith, ints); to = omega (arith, ints) }
truth_there kind.Int false = record { from = omega (arith, ints); to = omega (arith, ints) }
truth_there kind.Uint true = record { from = omega (arith, ints); to = omega (arith, ints) }
truth_there kind.Uint false = record { from = omega (arith, ints); to = omega (arith, ints) }
truth_there kind.Long true = record { from = omega (arith, ints); to = omega (arith, ints) }
truth_there kind.Long false = record { from = omega (arith, ints); to = omega (arith, ints) }
truth_there kind.Ulong true = record { from = omega (arith, ints); to = omega (arith, ints) }
truth_there kind.Ulong false = record { from = omega (arith, ints); to = omega (arith, ints) }
truth_there kind.Datetime true = record { from = omega (arith, ints); to = omega (arith, ints) }
truth_there kind.Datetime false = record { from = omega (arith, ints); to = omega (arith, ints) }
truth_there kind.Color true = record { from = omega (arith, ints); to = omega (arith, ints) }
truth_there kind.Color false = record { from = omega (arith, ints); to = omega (arith, ints) }

pub truth_in : (k : IntKind) (b : Bool) → truth b ≡ wrapped k (truth b)
truth_in k b = same_in k (truth b) (truth_there k b)

pub left_over : (r : Option ℤ) (k : IntKind) (x y rest : ℤ) → pos 0 <ℤ y → rest ≡ int_rem x y → Is r (wrapped k rest) →
    Computes r op.Remainder k x y
unfolding exact
left_over None k x y rest some e h = tt
left_over (Some z) k x (pos zero) rest some e h = absurd (omega (arith, ints, some))
left_over (Some z) k x (pos (suc n)) rest some e h =
    let not_zero : is_zero (pos (suc n)) ≡ false = grind arith in
    rw not_zero (ap Ok (ap (wrapped k) (sym e) ∙ sym h))
left_over (Some z) k x (negsuc n) rest some e h = absurd (omega (arith, ints, some))

pub taken_in : (r : Option ℤ) (o : IntOperator) (k : IntKind) (x y : ℤ) → InRange k x → InRange k y →
    Computes r o k x y → Computes r o k (wrapped k x) (wrapped k y)
taken_in r o k x y p q h =
    subst (λ (a : ℤ). Computes r o k a (wrapped k y)) (same_in k x p)
    (subst (λ (b : ℤ). Computes r o k x b) (same_in k y q) h)

pub added : (r : Option ℤ) (k : IntKind) (x y : ℤ) (s : ℤ) → s ≡ x +ℤ y → Is r (wrapped k (s)) → Computes r op.Add k x y
unfolding exact
added None k x y s e h = tt
added (Some z) k x y s e h = ap Ok (ap (λ (s : ℤ). wrapped k (s)) (sym e) ∙ sym h)

pub subtracted : (r : Option ℤ) (k : IntKind) (x y : ℤ) (s : ℤ) → s ≡ x -ℤ y → Is r (wrapped k (s)) → Computes r op.Subtract k x y
unfolding exact
subtracted None k x y s e h = tt
subtracted (Some z) k x y s e h = ap Ok (ap (λ (s : ℤ). wrapped k (s)) (sym e) ∙ sym h)

pub multiplied : (r : Option ℤ) (k : IntKind) (x y : ℤ) (s : ℤ) → s ≡ x *ℤ y → Is r (wrapped k (s)) → Computes r op.Multiply k x y
unfolding exact
multiplied None k x y s e h = tt
multiplied (Some z) k x y s e h = ap Ok (ap (λ (s : ℤ). wrapped k (s)) (sym e) ∙ sym h)

pub less : (r : Option ℤ) (k : IntKind) (x y : ℤ) (b : Bool) → b ≡ int_lt x y → Is r (wrapped k (truth b)) → Computes r op.Less k x y
unfolding exact
less None k x y b e h = tt
less (Some z) k x y b e h = ap Ok (ap (λ (b : Bool). wrapped k (truth b)) (sym e) ∙ sym h)

pub at_most : (r : Option ℤ) (k : IntKind) (x y : ℤ) (b : Bool) → b ≡ int_le x y → Is r (wrapped k (truth b)) → Computes r op.LessOrEqual k x y
unfolding exact
at_most None k x y b e h = tt
at_most (Some z) k x y b e h = ap Ok (ap (λ (b : Bool). wrapped k (truth b)) (sym e) ∙ sym h)

pub greater : (r : Option ℤ) (k : IntKind) (x y : ℤ) (b : Bool) → b ≡ int_lt y x → Is r (wrapped k (truth b)) → Computes r op.Greater k x y
unfolding exact
greater None k x y b e h = tt
greater (Some z) k x y b e h = ap Ok (ap (λ (b : Bool). wrapped k (truth b)) (sym e) ∙ sym h)

pub at_least : (r : Option ℤ) (k : IntKind) (x y : ℤ) (b : Bool) → b ≡ int_le y x → Is r (wrapped k (truth b)) → Computes r op.GreaterOrEqual k x y
unfolding exact
at_least None k x y b e h = tt
at_least (Some z) k x y b e h = ap Ok (ap (λ (b : Bool). wrapped k (truth b)) (sym e) ∙ sym h)

pub equal : (r : Option ℤ) (k : IntKind) (x y : ℤ) (b : Bool) → b ≡ is_zero (x -ℤ y) → Is r (wrapped k (truth b)) → Computes r op.Equal k x y
unfolding exact
equal None k x y b e h = tt
equal (Some z) k x y b e h = ap Ok (ap (λ (b : Bool). wrapped k (truth b)) (sym e) ∙ sym h)

pub other : (r : Option ℤ) (k : IntKind) (x y : ℤ) (b : Bool) → b ≡ is_zero (x -ℤ y) → Is r (wrapped k (truth (not b))) → Computes r op.NotEqual k x y
unfolding exact
other None k x y b e h = tt
other (Some z) k x y b e h = ap Ok (ap (λ (b : Bool). wrapped k (truth (not b))) (sym e) ∙ sym h)
