-- How variables begin is of their types; calls begin and end; globals and inputs begin.
use denote.Hole.Carrier.{out}
use Rattle.std.proofs.Common.{◌≡◌, ℕ, pos, zero, suc, ◌≤◌, true, false, List, [], ◌∷◌, length, map, Some, None, refl, sym, ◌∙◌, subst, arith}
use Rattle.std.specs.Prelude.{◌==◌, slice_get, replicate}
use Rattle.std.proofs.lemmas.Bool.{eqb-true}
use Rattle.mql_mean.specs.declared.value.Value.{out-Value}
use Rattle.mql_mean.specs.declared.value.Value.TheVariants as value
use Rattle.mql_meaning.specs.declared.cell.Cell.TheVariants as cell
use Rattle.mql_meaning.specs.declared.tree.Class.{Class}
use Rattle.mql_meaning.specs.declared.types.Base.{Base}
use Rattle.mql_meaning.specs.declared.types.Base.TheVariants as base
use Rattle.mql_meaning.specs.declared.types.VarType.{VarType}
use Rattle.mql_meaning.specs.Cells.{array, zero_base, zero_of, fields_of}
use Rattle.mql_meaning.specs.Objects.{class_in}
use Rattle.stack_validity.specs.Types.{type_of, OfDepth, Layer, CellOf}
use Rattle.stack_validity.specs.Valid.{Below, Nesting}
use Rattle.stack_validity.proofs.Values.{some_same, none_some, one_of, mapped, length_mapped}
use Rattle.stack_validity.proofs.Cells.{out_array, out_structure}
use Rattle.stack_validity.proofs.Stores.{by_test}

replicated : {A : Type 0} (n : ℕ) (x y : A) (i : ℕ) → slice_get (replicate n x) i ≡ Some y → x ≡ y
replicated zero x y i e = absurd (none_some e)
replicated (suc n) x y zero e = some_same e
replicated (suc n) x y (suc i) e = replicated n x y i e

length_replicated : {A : Type 0} (n : ℕ) (x : A) → length (replicate n x) ≡ n
length_replicated zero x = refl
length_replicated (suc n) x = let r = length_replicated n x in omega (arith, r)

pub below_more : (height : ℕ → ℕ) (m n : ℕ) (b : Base) → m ≤ n → Below height m b → Below height n b
below_more height m n (base.Number k) le h = tt
below_more height m n base.Double le h = tt
below_more height m n base.String le h = tt
below_more height m n (base.Pointer k) le h = tt
below_more height m n (base.Structure k) le h = omega (arith, le, h)
below_more height m n (base.Object k) le h = h

-- no object stands in a variable of the language that has code
pub no_object : (height : ℕ → ℕ) (n : ℕ) (b : Base) (ns : List ℕ) → Below height n b → class_in b ns ≡ None
no_object height n (base.Number k) ns h = refl
no_object height n base.Double ns h = refl
no_object height n base.String ns h = refl
no_object height n (base.Pointer k) ns h = refl
no_object height n (base.Structure k) ns h = refl
no_object height n (base.Object k) ns h = absurd h

module _ (classes : List Class) (nesting : Nesting classes) where
  number_begins : (k : _) → CellOf classes (type_of (base.Number k) []) (cell.One (value.Num k (pos 0)))
  unfolding out-Value denote.Hole.Carrier.out
  number_begins k = one_of classes (type_of (base.Number k) []) (value.Num k (pos 0)) refl

  double_begins : CellOf classes (type_of base.Double []) (cell.One (value.Dbl (pos 0)))
  unfolding out-Value denote.Hole.Carrier.out
  double_begins = one_of classes (type_of base.Double []) (value.Dbl (pos 0)) refl

  string_begins : CellOf classes (type_of base.String []) (cell.One (value.Str []))
  unfolding out-Value denote.Hole.Carrier.out
  string_begins = one_of classes (type_of base.String []) (value.Str []) refl

  pointer_begins : (k : ℕ) → CellOf classes (type_of (base.Pointer k) []) (cell.One (value.Ptr 0))
  unfolding out-Value denote.Hole.Carrier.out
  pointer_begins k = one_of classes (type_of (base.Pointer k) []) (value.Ptr 0) refl

  begins : (depth deep : ℕ) (b : Base) (ns : List ℕ) → Below nesting.height deep b → OfDepth classes depth (type_of b ns) (array (zero_base deep classes b) ns)
  begins zero deep b ns h = tt
  begins (suc depth) deep (base.Number k) [] h = (number_begins k).down_to (suc depth)
  begins (suc depth) deep base.Double [] h = double_begins.down_to (suc depth)
  begins (suc depth) deep base.String [] h = string_begins.down_to (suc depth)
  begins (suc depth) deep (base.Pointer k) [] h = (pointer_begins k).down_to (suc depth)
  begins (suc depth) zero (base.Structure k) [] h = absurd (omega (arith, h))
  begins (suc depth) (suc deep) (base.Structure k) [] h =
      subst (Layer classes (OfDepth classes depth) (type_of (base.Structure k) []))
      (sym (out_structure (map (λ (t : VarType). array (zero_base deep classes t.base) t.dimensions) (fields_of (slice_get classes k))))) (record {
        top = length_mapped (λ (t : VarType). array (zero_base deep classes t.base) t.dimensions) (fields_of (slice_get classes k));
        items = λ i u c e is.
            let m = mapped (λ (t : VarType). array (zero_base deep classes t.base) t.dimensions) (fields_of (slice_get classes k)) i c is in
            let same : m.from ≡ u = some_same (sym m.there ∙ e) in
            subst (λ u. OfDepth classes depth u c) same (subst (OfDepth classes depth m.from) m.is
            (begins depth deep m.from.base m.from.dimensions
            (below_more nesting.height (nesting.height k) deep m.from.base (omega (arith, h)) (nesting.fields k i m.from m.there))));
        begins = λ u c e is. absurd (none_some is);
      })
  begins (suc depth) deep (base.Object k) [] h = absurd h
  begins (suc depth) deep b (zero ∷ ns) h =
      subst (Layer classes (OfDepth classes depth) (type_of b (zero ∷ ns))) (sym (out_array true false (array (zero_base deep classes b) ns ∷ []) [])) (record {
        top = record { changes = by_test (zero == 0) (λ e. sym e) (λ e. absurd cc); begin = array (zero_base deep classes b) ns; begins = refl; size = λ e. absurd cc };
        items = λ i u c e is. absurd (none_some is);
        begins = λ u c e is. subst (λ u. OfDepth classes depth u c) (some_same e) (subst (OfDepth classes depth (type_of b ns)) (some_same is) (begins depth deep b ns h));
      })
  begins (suc depth) deep b (suc n ∷ ns) h =
      subst (Layer classes (OfDepth classes depth) (type_of b (suc n ∷ ns))) (sym (out_array false false (array (zero_base deep classes b) ns ∷ []) (replicate (suc n) (array (zero_base deep classes b) ns)))) (record {
        top = record {
          changes = by_test (suc n == 0) (λ e. let z = eqb-true (suc n) 0 e in absurd (omega (arith, z))) (λ e. sym e);
          begin = array (zero_base deep classes b) ns;
          begins = refl;
          size = λ e. length_replicated (suc n) (array (zero_base deep classes b) ns);
        };
        items = λ i u c e is. subst (λ u. OfDepth classes depth u c) (some_same e)
            (subst (OfDepth classes depth (type_of b ns)) (replicated (suc n) (array (zero_base deep classes b) ns) c i is) (begins depth deep b ns h));
        begins = λ u c e is. subst (λ u. OfDepth classes depth u c) (some_same e) (subst (OfDepth classes depth (type_of b ns)) (some_same is) (begins depth deep b ns h));
      })

  -- a variable begins as its type says
  pub zero_fits : (t : VarType) → Below nesting.height (length classes) t.base → CellOf classes t (zero_of classes t)
  zero_fits t h = record { down_to = λ depth. begins depth (length classes) t.base t.dimensions h }
