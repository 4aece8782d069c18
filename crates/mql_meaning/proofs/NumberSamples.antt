-- Programs of numbers, worked out by hand, and computed.
use Rattle.std.proofs.Common.{◌≡◌, pos, negsuc, [], ◌∷◌, refl}
use Rattle.std.specs.Prelude.{codes}
use Rattle.fx8.specs.declared.int_kind.IntKind.TheVariants as kind
use Rattle.fx8.specs.declared.int_operator.IntOperator.TheVariants as op
use Rattle.mql_mean.specs.declared.error.ErrorKind.TheVariants as error
use Rattle.mql_meaning.specs.declared.types.Base.TheVariants as base
use Rattle.mql_meaning.specs.declared.types.Sort.TheVariants as sort
use Rattle.mql_meaning.specs.declared.operator.Operator.TheVariants as o
use Rattle.mql_meaning.specs.declared.operator.Bump.TheVariants as bump
use Rattle.mql_meaning.specs.declared.operator.UnaryOperator.TheVariants as un
use Rattle.mql_meaning.specs.declared.tree.Checked.{Checked}
use Rattle.mql_meaning.specs.Changes.{Failed}
use Rattle.mql_meaning.proofs.Programs.{int, num, dbl, on1, on2, loc, var, binary, binary_d, convert, set, print, of_type, ints, body, tells, done, run}

-- 2147483647 + 1; char c = 200; char 100 + char 100; -7 / 2; -7 % 2; 1 << 33
integers : Checked
integers = body (of_type (base.Number kind.Char) ∷ []) (
    print 1 (binary op.Add (int (pos 2147483647)) (int (pos 1)) ∷ []) ∷
    set 2 (loc 0) (convert (sort.Number kind.Char) (int (pos 200))) ∷
    print 2 (var 0 ∷ []) ∷
    set 3 (loc 0) (convert (sort.Number kind.Char) (int (pos 100))) ∷
    print 3 (binary op.Add (var 0) (var 0) ∷ []) ∷
    print 4 (binary op.Divide (on1 (o.Unary un.Minus (sort.Number kind.Int)) (int (pos 7))) (int (pos 2)) ∷ []) ∷
    print 5 (binary op.Remainder (int (negsuc 6)) (int (pos 2)) ∷ []) ∷
    print 6 (binary op.ShiftLeft (int (pos 1)) (int (pos 33)) ∷ []) ∷ [])

integers_run : run integers 9 ≡ tells done (codes "-2147483648" ∷ codes "-56" ∷ codes "200" ∷ codes "-3" ∷ codes "-1" ∷ codes "2" ∷ [])
unfolding run integers
integers_run = refl

-- 7 / 0 and 7 % 0 end at their line
divided : Checked
divided = body (ints ∷ []) (
    print 3 (int (pos 7) ∷ []) ∷
    print 4 (binary op.Remainder (int (pos 7)) (var 0) ∷ []) ∷ [])

divided_runs : run divided 9 ≡ tells (Failed error.ZeroDivide 4) (codes "7" ∷ [])
unfolding run divided
divided_runs = refl

-- 0.00000001 * 0.5, -0.00000001 * 0.5, and the greatest double + 0.00000001 at line 3
fixed : Checked
fixed = body [] (
    print 1 (binary_d op.Multiply (dbl (pos 1)) (dbl (pos 50000000)) ∷ []) ∷
    print 2 (binary_d op.Multiply (dbl (negsuc 0)) (dbl (pos 50000000)) ∷ []) ∷
    print 3 (binary_d op.Add (dbl (pos 9223372036854775807)) (dbl (pos 1)) ∷ []) ∷ [])

fixed_runs : run fixed 9 ≡ tells (Failed error.FixedOverflow 3) (codes "0.00000001" ∷ codes "-0.00000001" ∷ [])
unfolding run fixed
fixed_runs = refl

-- 1.0 / 0.0 at line 2
fixed_zero : Checked
fixed_zero = body [] (print 2 (binary_d op.Divide (dbl (pos 100000000)) (dbl (pos 0)) ∷ []) ∷ [])

fixed_zero_runs : run fixed_zero 9 ≡ tells (Failed error.ZeroDivide 2) []
unfolding run fixed_zero
fixed_zero_runs = refl

-- 2.0 / 3.0 is rounded half away; -1.5 < 1.0; -1 as uint is above 1 as uint
compared : Checked
compared = body [] (
    print 1 (binary_d op.Divide (dbl (pos 200000000)) (dbl (pos 300000000)) ∷ []) ∷
    print 2 (binary_d op.Less (dbl (negsuc 149999999)) (dbl (pos 100000000)) ∷ []) ∷
    print 3 (on2 (o.Binary op.Less (sort.Number kind.Uint)) (int (negsuc 0)) (num kind.Uint (pos 1)) ∷ []) ∷ [])

compared_runs : run compared 9 ≡ tells done (codes "0.66666667" ∷ codes "true" ∷ codes "false" ∷ [])
unfolding run compared
compared_runs = refl

-- (int)-1.5; (bool)0.5, which is truncated first; (bool)2; (double)3; (uchar)-1; 5000000000 as an int
converted : Checked
converted = body [] (
    print 1 (convert (sort.Number kind.Int) (dbl (negsuc 149999999)) ∷ []) ∷
    print 2 (convert (sort.Number kind.Bool) (dbl (pos 50000000)) ∷ []) ∷
    print 3 (convert (sort.Number kind.Bool) (int (pos 2)) ∷ []) ∷
    print 4 (convert sort.Double (int (pos 3)) ∷ []) ∷
    print 5 (convert (sort.Number kind.Uchar) (int (negsuc 0)) ∷ []) ∷
    print 6 (convert (sort.Number kind.Int) (num kind.Long (pos 5000000000)) ∷ []) ∷ [])

converted_runs : run converted 9 ≡ tells done (codes "-1" ∷ codes "false" ∷ codes "true" ∷ codes "3.0" ∷ codes "255" ∷ codes "705032704" ∷ [])
unfolding run converted
converted_runs = refl

-- a long past a double's range becomes none
converted_past : Checked
converted_past = body [] (print 5 (convert sort.Double (num kind.Long (pos 92233720369)) ∷ []) ∷ [])

converted_past_runs : run converted_past 9 ≡ tells (Failed error.FixedOverflow 5) []
unfolding run converted_past
converted_past_runs = refl

-- char c = 100; c += 100; c++ gives the old value, --c the new one; c *= 1.5 goes by double and is truncated
updated : Checked
updated = body (of_type (base.Number kind.Char) ∷ []) (
    set 1 (loc 0) (convert (sort.Number kind.Char) (int (pos 100))) ∷
    print 2 (on2 (o.Update op.Add (sort.Number kind.Int)) (int (pos 100)) (loc 0) ∷ []) ∷
    print 3 (on1 (o.Bump bump.MoreAfter) (loc 0) ∷ var 0 ∷ []) ∷
    print 4 (on1 (o.Bump bump.LessFirst) (loc 0) ∷ []) ∷
    print 5 (on2 (o.Update op.Multiply sort.Double) (dbl (pos 150000000)) (loc 0) ∷ []) ∷ [])

updated_runs : run updated 9 ≡ tells done (codes "-56" ∷ codes "-56-55" ∷ codes "-56" ∷ codes "-84" ∷ [])
unfolding run updated
updated_runs = refl

-- ~5, !5, 6 & 3, 6 | 3, 6 ^ 3, -8 >> 1
bits : Checked
bits = body [] (
    print 1 (on1 (o.Unary un.Complement (sort.Number kind.Int)) (int (pos 5)) ∷ []) ∷
    print 1 (on1 (o.Unary un.Not (sort.Number kind.Int)) (int (pos 5)) ∷ []) ∷
    print 1 (binary op.BitAnd (int (pos 6)) (int (pos 3)) ∷ []) ∷
    print 1 (binary op.BitOr (int (pos 6)) (int (pos 3)) ∷ []) ∷
    print 1 (binary op.BitXor (int (pos 6)) (int (pos 3)) ∷ []) ∷
    print 1 (binary op.ShiftRight (int (negsuc 7)) (int (pos 1)) ∷ []) ∷ [])

bits_run : run bits 9 ≡ tells done (codes "-6" ∷ codes "false" ∷ codes "2" ∷ codes "7" ∷ codes "5" ∷ codes "-4" ∷ [])
unfolding run bits
bits_run = refl
