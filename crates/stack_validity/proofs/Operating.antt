-- Operators on operands of the kinds that they take are never stuck, and give one of the kind that they give.
use denote.Hole.Carrier.{out}
use Rattle.std.proofs.Common.{◌≡◌, ℕ, ℤ, pos, negsuc, ◌-◌, ◌<◌, Bool, true, false, List, [], ◌∷◌, ◌++◌, length, Some, refl, sym, ap, ◌∙◌, subst, arith}
use Rattle.std.specs.Prelude.{◌==◌, nat_lt, slice_get}
use Rattle.std.proofs.lemmas.Bool.{eqb-true, eq-eqb}
use Rattle.fx8.specs.declared.int_kind.IntKind.TheVariants as kind
use Rattle.fx8.specs.declared.int_operator.IntOperator.{IntOperator}
use Rattle.fx8.specs.declared.int_operator.IntOperator.TheVariants as op
use Rattle.mql_mean.specs.declared.value.Value.{Value, out-Value}
use Rattle.mql_mean.specs.declared.value.Value.TheVariants as value
use Rattle.mql_mean.specs.declared.error.ErrorKind.TheVariants.{ArrayRange}
use Rattle.mql_meaning.specs.declared.cell.Cell.{Cell, out-Cell}
use Rattle.mql_meaning.specs.declared.cell.Cell.TheOpen.{Cell-F}
use Rattle.mql_meaning.specs.declared.operator.Bump.{Bump}
use Rattle.mql_meaning.specs.declared.operator.Bump.TheVariants as bump
use Rattle.mql_meaning.specs.declared.place.Place.{Place}
use Rattle.mql_meaning.specs.declared.place.Root.{Root}
use Rattle.mql_meaning.specs.declared.place.Root.TheVariants as root
use Rattle.mql_meaning.specs.declared.store.Store.{Store}
use Rattle.mql_meaning.specs.declared.store.Slot.{Slot}
use Rattle.mql_meaning.specs.declared.store.Slot.TheVariants.{Own, Lent}
use Rattle.mql_meaning.specs.declared.types.Base.{Base}
use Rattle.mql_meaning.specs.declared.types.Sort.{Sort}
use Rattle.mql_meaning.specs.declared.types.Sort.TheVariants as sort
use Rattle.mql_meaning.specs.declared.types.VarType.{VarType}
use Rattle.mql_meaning.specs.Changes.{Change, after, ◌>>=◌, give, the, top, then_some, either}
use Rattle.mql_meaning.specs.Cells.{told, put}
use Rattle.mql_meaning.specs.Places.{locals_of, depth, slot_place, local_place, read, write, index, element_place, field_place, position, number_of}
use Rattle.mql_meaning.specs.Operands.{Operand, Val, At, a_value, a_place, none, on_one, on_two}
use Rattle.mql_meaning.specs.Operators.{sort_of, convert, Update, update, bump_sort, bumped, bump_at}
use Rattle.stack_code.specs.declared.code.Code.{Code}
use Rattle.stack_code.specs.declared.code.FunctionCode.{FunctionCode}
use Rattle.stack_code.specs.declared.code.OperandType.{OperandType}
use Rattle.stack_validity.specs.Types.{type_of, type_sort, part_type, OfSort, Layer, CellOf, ValueOf}
use Rattle.stack_validity.specs.Fits.{is_lent, call_at, own_type, local_type, root_type, PlaceOf, OperandOf, OperandsOf, SlotOf, CallFits, FramesFit, StoreFits, Safe}
use Rattle.stack_validity.specs.Rules.{works_on, result_sort, converts, suits, is_counted, Suits, NoKind, OneKind, TwoKinds, LocalRule, GlobalRule, FieldRule, IndexRule, ReadRule, KeepRule, UpdateRule, BumpRule, UnaryRule, BinaryRule, ConvertRule, Applies}
use Rattle.stack_validity.specs.Rules as rules
use Rattle.stack_validity.proofs.Values.{none_some, found}
use Rattle.stack_validity.proofs.Lists.{more_length, more_last}
use Rattle.stack_validity.proofs.Cells.{layer_of}
use Rattle.stack_validity.proofs.Keeps.{sort_value, told_value}
use Rattle.stack_validity.proofs.Parts.{Looks, type_on}
use Rattle.stack_validity.proofs.Stores.{by_test, frames_length, give_safe, then_safe, next_safe, the_safe, fail_safe, must_safe, cell_safe, replace_safe}
use Rattle.stack_validity.proofs.Computing.{value_sort, has_part, binary_safe, convert_safe}

true_false : {A : Type 0} → true ≡ false → A
true_false e = absurd cc

-- a call's number is below those of the calls that it makes
pub call_within : (calls : List FunctionCode) (f : ℕ) (c : FunctionCode) → call_at calls f ≡ Some c → f < length calls
call_within [] f c e = absurd (none_some e)
call_within (d ∷ callers) f c e = by_test (f == length callers)
    (λ b. let n = eqb-true f (length callers) b in omega (arith, n))
    (λ b. let r = call_within callers f c (sym (ap (λ b. either b (Some d) (call_at callers f)) b) ∙ e) in omega (arith, r))

pub call_more : (calls : List FunctionCode) (d : FunctionCode) (f : ℕ) (c : FunctionCode) → call_at calls f ≡ Some c → call_at (d ∷ calls) f ≡ Some c
call_more calls d f c e = by_test (f == length calls)
    (λ b. let n = eqb-true f (length calls) b in let w = call_within calls f c e in absurd (omega (arith, n, w)))
    (λ b. ap (λ b. either b (Some d) (call_at calls f)) b ∙ e)

module _ (code : Code) where
  root_more : (calls : List FunctionCode) (d : FunctionCode) (r : Root) (t : VarType) → root_type code.globals calls r ≡ Some t → root_type code.globals (d ∷ calls) r ≡ Some t
  root_more calls d (root.Global g) t e = e
  root_more calls d (root.Local f l) t e =
      let w = found (call_at calls f) (local_type l) t e in
      ap (λ o. then_some o (local_type l)) (call_more calls d f w.it w.is) ∙ w.on
  root_more calls d (root.Object serial) t e = absurd (none_some e)

  -- a place of a caller is one of the call
  pub place_more : (calls : List FunctionCode) (d : FunctionCode) (t : VarType) (p : Place) → PlaceOf code calls t p → PlaceOf code (d ∷ calls) t p
  place_more calls d t p k = record { root = k.root; there = root_more calls d p.root k.root k.there; leads = k.leads }

  -- the place of a part
  pub field_typed : (calls : List FunctionCode) (t u : VarType) (p : Place) (i : ℕ) → PlaceOf code calls t p → part_type code.classes t i ≡ Some u → PlaceOf code calls u (field_place i p)
  field_typed calls t u p i k e = record {
    root = k.root;
    there = k.there;
    leads = type_on code.classes k.root t p.path (i ∷ []) k.leads ∙ ap (λ o. then_some o (λ u. Some u)) e;
  }

  -- the frame in force
  pub top_is : (c : FunctionCode) (callers : List FunctionCode) (store : Store) (h : CallFits code (FramesFit code callers) callers c store.frames) → top store ≡ Some h.frame
  top_is c callers store h =
      ap (λ fs. slice_get fs (length fs - 1)) h.are
      ∙ ap (slice_get (h.outer ++ h.frame ∷ [])) (let n = more_length h.outer h.frame in let m : length (h.outer ++ h.frame ∷ []) - 1 ≡ length h.outer = omega (arith, n) in m)
      ∙ more_last h.outer h.frame

  pub depth_is : (c : FunctionCode) (callers : List FunctionCode) (store : Store) (h : CallFits code (FramesFit code callers) callers c store.frames) → depth store ≡ length callers
  depth_is c callers store h =
      let n = frames_length code (c ∷ callers) store.frames h in
      omega (arith, n)

  -- a local's place
  pub local_looks : (c : FunctionCode) (callers : List FunctionCode) (l : ℕ) (t : VarType) (store : Store) → StoreFits code (c ∷ callers) store → slice_get c.locals l ≡ Some t → Looks (PlaceOf code (c ∷ callers) t) store (local_place l store)
  local_looks c callers l t store h e =
      let x = h.frames.locals l t e in
      subst (λ o. Looks (PlaceOf code (c ∷ callers) t) store (after (the (slice_get (locals_of o) l) store) (λ slot. give (slot_place slot (depth store) l)))) (sym (top_is c callers store h.frames))
      (subst (λ o. Looks (PlaceOf code (c ∷ callers) t) store (after (the o store) (λ slot. give (slot_place slot (depth store) l)))) (sym x.there)
      (by_slot x.slot (is_lent c.lent l) refl x.fits, refl))
    where
      same : (depth store == length callers) ≡ true
      same = eq-eqb (depth store) (length callers) (depth_is c callers store h.frames)

      by_slot : (s : Slot) (b : Bool) → is_lent c.lent l ≡ b → SlotOf code callers b t s → PlaceOf code (c ∷ callers) t (slot_place s (depth store) l)
      by_slot (Own d) false is f = record {
        root = t;
        there = ap (λ b. then_some (either b (Some c) (call_at callers (depth store))) (local_type l)) same ∙ ap (λ b. own_type b (slice_get c.locals l)) is ∙ e;
        leads = refl;
      }
      by_slot (Own d) true is f = absurd f
      by_slot (Lent p) false is f = absurd f
      by_slot (Lent p) true is f = place_more callers c t p f

module _ (code : Code) (AtEnd : Store → Type 0) (calls : List FunctionCode) (to_end : (store : Store) → StoreFits code calls store → AtEnd store) where
  abbrev S : {A : Type 0} → (A → Type 0) → Change A → Type 0
  S P f = Safe AtEnd (StoreFits code calls) (StoreFits code calls) P f

  pub read_safe : (t : VarType) (p : Place) → PlaceOf code calls t p → S (ValueOf code.classes t) (read p)
  read_safe t p k = then_safe code AtEnd (cell_safe code AtEnd calls to_end t p k) (λ c h. give_safe code AtEnd (told c) (told_value code.classes t c h))

  pub write_safe : (t : VarType) (v : Value) (p : Place) → ValueOf code.classes t v → PlaceOf code calls t p → S (λ _. Unit {0}) (write v p)
  write_safe t v p h k =
      then_safe code AtEnd (cell_safe code AtEnd calls to_end t p k) (λ old g.
      let n = h.taken old g in
      then_safe code AtEnd (the_safe code AtEnd {P = CellOf code.classes t} (put old v) n.new n.is n.fits) (λ new f.
      replace_safe code AtEnd calls to_end t p old new k f))

  pub of_type : (t : VarType) (s : Sort) (v : Value) → type_sort t ≡ Some s → sort_of v ≡ Some s → ValueOf code.classes t v
  of_type t s v e h = sort_value code.classes t v (subst (λ o. OfSort o v) (sym e) h)

  suits_self : (s : Sort) → suits s s ≡ true
  suits_self (sort.Number k) = refl
  suits_self sort.Double = refl
  suits_self sort.String = refl
  suits_self sort.Pointer = refl

  abbrev pub Updates : VarType → Update → Type 0
  Updates t u = ValueOf code.classes t u.old × ValueOf code.classes t u.new

  pub update_safe : (o : IntOperator) (s own a : Sort) (t : VarType) (v : Value) (p : Place) → type_sort t ≡ Some own → converts own s ≡ true → works_on o s ≡ true → converts (result_sort o s) own ≡ true
      → suits s a ≡ true → sort_of v ≡ Some a → PlaceOf code calls t p → S (Updates t) (update o s v p)
  update_safe o s own a t v p ts into works back sa ha k =
      then_safe code AtEnd (read_safe t p k) (λ old h.
      let e = value_sort code.classes t own old h ts in
      then_safe code AtEnd (the_safe code AtEnd {P = λ o. own ≡ o} (sort_of old) own e refl) (λ o' q.
      then_safe code AtEnd (convert_safe code AtEnd (StoreFits code calls) to_end s own old into e) (λ x hx.
      then_safe code AtEnd (binary_safe code AtEnd (StoreFits code calls) to_end o s s a x v works (suits_self s) sa hx ha) (λ z hz.
      then_safe code AtEnd (convert_safe code AtEnd (StoreFits code calls) to_end o' (result_sort o s) z (subst (λ w. converts (result_sort o s) w ≡ true) q back) hz) (λ new hn.
      let n = of_type t own new ts (subst (λ w. sort_of new ≡ Some w) (sym q) hn) in
      next_safe code AtEnd (write_safe t new p n k) (give_safe code AtEnd (record { old = old; new = new }) (h, n)))))))

  -- what `++` and `--` ask of their sort
  record Bumps (o : IntOperator) (own : Sort) : Type 0 where
    one : converts (sort.Number kind.Int) (bump_sort own) ≡ true
    into : converts own (bump_sort own) ≡ true
    works : works_on o (bump_sort own) ≡ true
    back : converts (result_sort o (bump_sort own)) own ≡ true

  bumps_add : (own : Sort) → is_counted own ≡ true → Bumps op.Add own
  bumps_add (sort.Number kind.Bool) e = record { one = refl; into = refl; works = refl; back = refl }
  bumps_add (sort.Number kind.Char) e = record { one = refl; into = refl; works = refl; back = refl }
  bumps_add (sort.Number kind.Uchar) e = record { one = refl; into = refl; works = refl; back = refl }
  bumps_add (sort.Number kind.Short) e = record { one = refl; into = refl; works = refl; back = refl }
  bumps_add (sort.Number kind.Ushort) e = record { one = refl; into = refl; works = refl; back = refl }
  bumps_add (sort.Number kind.Int) e = record { one = refl; into = refl; works = refl; back = refl }
  bumps_add (sort.Number kind.Uint) e = record { one = refl; into = refl; works = refl; back = refl }
  bumps_add (sort.Number kind.Long) e = record { one = refl; into = refl; works = refl; back = refl }
  bumps_add (sort.Number kind.Ulong) e = record { one = refl; into = refl; works = refl; back = refl }
  bumps_add (sort.Number kind.Datetime) e = record { one = refl; into = refl; works = refl; back = refl }
  bumps_add (sort.Number kind.Color) e = record { one = refl; into = refl; works = refl; back = refl }
  bumps_add sort.Double e = record { one = refl; into = refl; works = refl; back = refl }
  bumps_add sort.String e = absurd cc
  bumps_add sort.Pointer e = absurd cc

  bumps_subtract : (own : Sort) → is_counted own ≡ true → Bumps op.Subtract own
  bumps_subtract (sort.Number kind.Bool) e = record { one = refl; into = refl; works = refl; back = refl }
  bumps_subtract (sort.Number kind.Char) e = record { one = refl; into = refl; works = refl; back = refl }
  bumps_subtract (sort.Number kind.Uchar) e = record { one = refl; into = refl; works = refl; back = refl }
  bumps_subtract (sort.Number kind.Short) e = record { one = refl; into = refl; works = refl; back = refl }
  bumps_subtract (sort.Number kind.Ushort) e = record { one = refl; into = refl; works = refl; back = refl }
  bumps_subtract (sort.Number kind.Int) e = record { one = refl; into = refl; works = refl; back = refl }
  bumps_subtract (sort.Number kind.Uint) e = record { one = refl; into = refl; works = refl; back = refl }
  bumps_subtract (sort.Number kind.Long) e = record { one = refl; into = refl; works = refl; back = refl }
  bumps_subtract (sort.Number kind.Ulong) e = record { one = refl; into = refl; works = refl; back = refl }
  bumps_subtract (sort.Number kind.Datetime) e = record { one = refl; into = refl; works = refl; back = refl }
  bumps_subtract (sort.Number kind.Color) e = record { one = refl; into = refl; works = refl; back = refl }
  bumps_subtract sort.Double e = record { one = refl; into = refl; works = refl; back = refl }
  bumps_subtract sort.String e = absurd cc
  bumps_subtract sort.Pointer e = absurd cc

  one_sort : sort_of (value.Num kind.Int (pos 1)) ≡ Some (sort.Number kind.Int)
  unfolding out-Value denote.Hole.Carrier.out
  one_sort = refl

  bumped_safe : (o : IntOperator) (own : Sort) (t : VarType) (p : Place) → Bumps o own → type_sort t ≡ Some own → PlaceOf code calls t p → S (Updates t) (bumped o p)
  bumped_safe o own t p b ts k =
      then_safe code AtEnd (read_safe t p k) (λ old h.
      then_safe code AtEnd (the_safe code AtEnd {P = λ o. own ≡ o} (sort_of old) own (value_sort code.classes t own old h ts) refl) (λ own' q.
      subst (λ w. S (Updates t) (convert (bump_sort w) (value.Num kind.Int (pos 1)) >>= λ y. update o (bump_sort w) y p)) q
      (then_safe code AtEnd (convert_safe code AtEnd (StoreFits code calls) to_end (bump_sort own) (sort.Number kind.Int) (value.Num kind.Int (pos 1)) b.one one_sort) (λ y hy.
      update_safe o (bump_sort own) own (bump_sort own) t y p ts b.into b.works b.back (suits_self (bump_sort own)) hy k))))

  pub bump_safe : (u : Bump) (own : Sort) (t : VarType) (p : Place) → is_counted own ≡ true → type_sort t ≡ Some own → PlaceOf code calls t p → S (ValueOf code.classes t) (bump_at u p)
  bump_safe bump.MoreFirst own t p e ts k = then_safe code AtEnd (bumped_safe op.Add own t p (bumps_add own e) ts k) (λ u h. give_safe code AtEnd u.new h.1)
  bump_safe bump.LessFirst own t p e ts k = then_safe code AtEnd (bumped_safe op.Subtract own t p (bumps_subtract own e) ts k) (λ u h. give_safe code AtEnd u.new h.1)
  bump_safe bump.MoreAfter own t p e ts k = then_safe code AtEnd (bumped_safe op.Add own t p (bumps_add own e) ts k) (λ u h. give_safe code AtEnd u.old h.0)
  bump_safe bump.LessAfter own t p e ts k = then_safe code AtEnd (bumped_safe op.Subtract own t p (bumps_subtract own e) ts k) (λ u h. give_safe code AtEnd u.old h.0)

  -- the place of an element
  element_safe : (b : Base) (n : ℕ) (ns : List ℕ) (x : Cell-F Cell) (i : ℤ) (p : Place) → Layer code.classes (CellOf code.classes) (type_of b (n ∷ ns)) x → PlaceOf code calls (type_of b (n ∷ ns)) p
      → S (PlaceOf code calls (type_of b ns)) (element_place x i p)
  element_safe b n ns (Cell-F.One v) i p l k = absurd l.top
  element_safe b n ns (Cell-F.Structure cs) i p l k = absurd l.top
  element_safe b n ns (Cell-F.Array dynamic series unit cs) (pos i) p l k =
      next_safe code AtEnd (must_safe code AtEnd (StoreFits code calls) to_end (nat_lt i (length cs)) ArrayRange)
      (give_safe code AtEnd (field_place (position series (length cs) i) p) (field_typed code calls (type_of b (n ∷ ns)) (type_of b ns) p (position series (length cs) i) k refl))
  element_safe b n ns (Cell-F.Array dynamic series unit cs) (negsuc i) p l k = fail_safe code AtEnd (StoreFits code calls) to_end ArrayRange

  pub index_safe : (b : Base) (n : ℕ) (ns : List ℕ) (a : Sort) (p : Place) (v : Value) → suits (sort.Number kind.Int) a ≡ true → sort_of v ≡ Some a → PlaceOf code calls (type_of b (n ∷ ns)) p → S (PlaceOf code calls (type_of b ns)) (index p v)
  index_safe b n ns a p v sa ha k =
      let z = has_part (sort.Number kind.Int) a v sa ha in
      then_safe code AtEnd (the_safe code AtEnd {P = λ _. Unit {0}} (number_of v) z.0 z.1 (tt {0})) (λ i u.
      then_safe code AtEnd (cell_safe code AtEnd calls to_end (type_of b (n ∷ ns)) p k) (λ c h.
      element_safe b n ns (out-Cell c) i p (layer_of code.classes (type_of b (n ∷ ns)) c h) k))

  -- operands as values and places
  pub value_safe : (k : OperandType) (x : Operand) → k.place ≡ false → OperandOf code calls k x → S (ValueOf code.classes k.of) (a_value x)
  value_safe k (Val v) e h = give_safe code AtEnd v h.1
  value_safe k (At p) e h = true_false (sym h.0 ∙ e)

  pub place_safe : (k : OperandType) (x : Operand) → k.place ≡ true → OperandOf code calls k x → S (PlaceOf code calls k.of) (a_place x)
  place_safe k (Val v) e h = true_false (sym e ∙ h.0)
  place_safe k (At p) e h = give_safe code AtEnd p h.1

  -- the arguments of an operator, all of which are there
  abbrev pub ArgumentsOf : List OperandType → List Operand → Type 0
  ArgumentsOf ks xs = OperandsOf code calls (λ rest. rest ≡ []) ks xs

  pub none_safe : {P : Type 0} {A : Type 0} {Q : A → Type 0} (f : Change A) (ks : List OperandType) (xs : List Operand) → NoKind P ks → ArgumentsOf ks xs → (P → S Q f) → S Q (none f xs)
  none_safe {Q} f [] xs r h k = subst (λ xs. S Q (none f xs)) (sym h) (k r)
  none_safe f (y ∷ ks) xs r h k = absurd r

  pub one_safe : {P : OperandType → Type 0} {A : Type 0} {Q : A → Type 0} (f : Operand → Change A) (ks : List OperandType) (xs : List Operand) → OneKind P ks → ArgumentsOf ks xs
      → ((k : OperandType) (x : Operand) → P k → OperandOf code calls k x → S Q (f x)) → S Q (on_one f xs)
  one_safe f [] xs r h k = absurd r
  one_safe f (y ∷ []) [] r h k = absurd h
  one_safe {Q} f (y ∷ []) (x ∷ xs) r h k = subst (λ xs. S Q (on_one f (x ∷ xs))) (sym h.1) (k y x r h.0)
  one_safe f (y ∷ z ∷ ks) xs r h k = absurd r

  pub two_safe : {P : OperandType → OperandType → Type 0} {A : Type 0} {Q : A → Type 0} (f : Operand → Operand → Change A) (ks : List OperandType) (xs : List Operand) → TwoKinds P ks → ArgumentsOf ks xs
      → ((k j : OperandType) (x y : Operand) → P k j → OperandOf code calls k x → OperandOf code calls j y → S Q (f x y)) → S Q (on_two f xs)
  two_safe f [] xs r h k = absurd r
  two_safe f (y ∷ []) xs r h k = absurd r
  two_safe f (y ∷ z ∷ []) [] r h k = absurd h
  two_safe f (y ∷ z ∷ []) (x ∷ []) r h k = absurd h.1
  two_safe {Q} f (y ∷ z ∷ []) (x ∷ w ∷ xs) r h k = subst (λ xs. S Q (on_two f (x ∷ w ∷ xs))) (sym h.1.1) (k y z x w r h.0 h.1.0)
  two_safe f (y ∷ z ∷ k' ∷ ks) xs r h k = absurd r

  pub placed : (y : OperandType) (t : VarType) {f : Change Place} → y.place ≡ true → y.of ≡ t → S (PlaceOf code calls t) f → S (OperandOf code calls y) (f >>= λ p. give (At p))
  placed y t e o s = then_safe code AtEnd s (λ p h. give_safe code AtEnd (At p) (e, subst (λ t. PlaceOf code calls t p) (sym o) h))

  pub valued : (y : OperandType) (t : VarType) {f : Change Value} → y.place ≡ false → y.of ≡ t → S (ValueOf code.classes t) f → S (OperandOf code calls y) (f >>= λ v. give (Val v))
  valued y t e o s = then_safe code AtEnd s (λ v h. give_safe code AtEnd (Val v) (e, subst (λ t. ValueOf code.classes t v) (sym o) h))

  pub sorted : (y : OperandType) (s : Sort) {f : Change Value} → rules.OfSort s y → S (λ v. sort_of v ≡ Some s) f → S (OperandOf code calls y) (f >>= λ v. give (Val v))
  sorted y s r h = then_safe code AtEnd h (λ v e. give_safe code AtEnd (Val v) (r.value, of_type y.of s v r.sort e))
