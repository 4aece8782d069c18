-- What is asked of parts that all tell something.
use Rattle.std.proofs.Common.{◌≡◌, ℕ, zero, suc, Bool, true, false, not, ◌&&◌, ◌||◌, List, [], ◌∷◌, ◌++◌, Option, Some, None, is_some, slice_get, refl, ap, ◌∙◌, ◌<◌, length, arith}
use Rattle.std.proofs.lemmas.List.{append-nil}
use Rattle.natives.specs.declared.native.Native.{Native}
use Rattle.natives.specs.declared.signature.Parameter.{Parameter}
use Rattle.natives.specs.Signatures.{signature}
use Rattle.mql_meaning.specs.declared.tree.Expression.{Expression}
use Rattle.mql_types.specs.declared.types.Base.{Base}
use Rattle.mql_typed.specs.declared.info.Info.{Info}
use Rattle.mql_calls.specs.Nodes.{passes, nth, prepended, told}
use Rattle.mql_calls.specs.NativeCalls.{takes_native, wrong_arguments, sets_series, is_other_array, flags_no_line, is_lent_fixed, lends_fixed, native_parts}

-- items, and those behind them if there are any
abbrev pub behind : {A : Type 0} → List A → Option (List A) → Option (List A)
behind is None = None
behind is (Some rest) = Some (is ++ rest)

-- what is there, if it tells something
abbrev pub flat : Option (Option Info) → Option Info
flat None = None
flat (Some i) = i

pub nth_part : (n : ℕ) (parts : List (Option Info)) → nth n parts ≡ flat (slice_get parts n)
nth_part n [] = refl
nth_part zero (i ∷ is) = refl
nth_part (suc n) (i ∷ is) = nth_part n is

pub wrong_in : (f : Native) (is : Option (List Info))
    → passes (wrong_arguments f) is ≡ (is_some is && not (passes (takes_native (signature f).parameters None) is))
wrong_in f None = refl
wrong_in f (Some is) = refl

pub wrong_where_told : (f : Native) (parts : List (Option Info))
    → passes (wrong_arguments f) (told parts)
    ≡ (is_some (told parts) && not (passes (takes_native (signature f).parameters None) (told parts)))
wrong_where_told f parts = wrong_in f (told parts)

and_false : (b : Bool) → false ≡ (b && false)
and_false true = refl
and_false false = refl

and_true : (b : Bool) → b ≡ (b && true)
and_true true = refl
and_true false = refl

pub flags_in : (f : Native) (i : Option Info) (is : Option (List Info))
    → passes (flags_no_line f) (prepended i is)
    ≡ (passes (λ i. sets_series f && is_other_array i) i && is_some is)
flags_in f None is = refl
flags_in f (Some i) None = and_false (sets_series f && is_other_array i)
flags_in f (Some i) (Some is) = and_true (sets_series f && is_other_array i)

pub flags_first : (f : Native) (i : Option Info) (parts : List (Option Info))
    → passes (flags_no_line f) (prepended i (told parts))
    ≡ (passes (λ i. sets_series f && is_other_array i) i && is_some (told parts))
flags_first f i parts = flags_in f i (told parts)

-- with no parameters nothing is handed over
no_parameters : (numbers : Base) (before : Option Base) (is : List Info) → native_parts [] numbers before is ≡ []
no_parameters numbers before [] = refl
no_parameters numbers before (i ∷ is) = refl

pub no_parameters_left : (parts : List Expression) (qs : List Parameter) (numbers : Base) (before : Option Base) (is : List Info)
    → length qs < 1 → parts ++ native_parts qs numbers before is ≡ parts
no_parameters_left parts [] numbers before is h =
    ap (λ more. parts ++ more) (no_parameters numbers before is) ∙ append-nil parts
no_parameters_left parts (q ∷ qs) numbers before is h = absurd (omega arith)

-- a constant that is lent, where all parts tell something
pub lent_here : (q : Parameter) (qs : List Parameter) (i : Info) (is : Option (List Info))
    → is_some (prepended (Some i) is) ≡ true → is_lent_fixed q i ≡ true
    → passes (lends_fixed (q ∷ qs)) (prepended (Some i) is) ≡ true
lent_here q qs i None h k = h
lent_here q qs i (Some is) h k = ap (λ b. b || lends_fixed qs is) k

pub lent_later : (q : Parameter) (qs : List Parameter) (i : Info) (is : Option (List Info)) → is_lent_fixed q i ≡ false
    → passes (lends_fixed (q ∷ qs)) (prepended (Some i) is) ≡ passes (lends_fixed qs) is
lent_later q qs i None k = refl
lent_later q qs i (Some is) k = ap (λ b. b || lends_fixed qs is) k

pub none_lent : (is : Option (List Info)) → passes (lends_fixed []) is ≡ false
none_lent None = refl
none_lent (Some []) = refl
none_lent (Some (i ∷ is)) = refl

pub nothing_lent : (qs : List Parameter) (parts : List (Option Info)) → length parts < 1
    → passes (lends_fixed qs) (told parts) ≡ false
nothing_lent [] [] h = refl
nothing_lent (q ∷ qs) [] h = refl
nothing_lent qs (i ∷ parts) h = absurd (omega arith)
