-- Stores that fit the code: what is looked up at places is of its type, and what is put there keeps the store so.
use Rattle.std.proofs.Common.{◌≡◌, ℕ, ◌-◌, ◌+◌, Bool, true, false, List, [], ◌∷◌, ◌++◌, length, Option, Some, refl, sym, ap, ◌∙◌, subst, arith}
use Rattle.std.specs.Prelude.{◌==◌, nat_le, slice_get}
use Rattle.std.proofs.lemmas.Bool.{eqb-true, eq-eqb}
use Rattle.mql_mean.specs.declared.error.ErrorKind.{ErrorKind}
use Rattle.mql_mean.specs.declared.error.ErrorKind.TheVariants.{CellsExhausted}
use Rattle.mql_meaning.specs.declared.cell.Cell.{Cell}
use Rattle.mql_meaning.specs.declared.place.Place.{Place}
use Rattle.mql_meaning.specs.declared.place.Root.{Root}
use Rattle.mql_meaning.specs.declared.place.Root.TheVariants as root
use Rattle.mql_meaning.specs.declared.store.Store.{Store}
use Rattle.mql_meaning.specs.declared.store.Frame.{Frame}
use Rattle.mql_meaning.specs.declared.store.Slot.{Slot}
use Rattle.mql_meaning.specs.declared.store.Slot.TheVariants.{Own, Lent}
use Rattle.mql_meaning.specs.declared.types.VarType.{VarType}
use Rattle.mql_meaning.specs.Changes.{Out, Done, Over, Change, after, ◌>>=◌, ◌>>◌, give, the, fail, must, then_some, either}
use Rattle.mql_meaning.specs.Places.{part, own, locals_of, base_cell, cell_at, changed, with_part, with_own, set_base, most_cells, counts, replace}
use Rattle.mql_meaning.specs.Cells.{weight}
use Rattle.stack_code.specs.declared.code.Code.{Code}
use Rattle.stack_code.specs.declared.code.FunctionCode.{FunctionCode}
use Rattle.stack_validity.specs.Types.{CellOf}
use Rattle.stack_validity.specs.Fits.{is_lent, call_at, own_type, local_type, root_type, PlaceOf, SlotOf, LocalFits, FramesFit, StoreFits, Leaves, Safe}
use Rattle.stack_validity.proofs.Values.{some_same, none_some, found}
use Rattle.stack_validity.proofs.Lists.{changed_stays, more_length, more_last, more_other, more_changed_last, more_changed_other}
use Rattle.stack_validity.proofs.Parts.{Looks, looks_on, part_looks, with_part_fits}

-- a test that decides
pub by_test : {A : Type 0} (b : Bool) → (b ≡ true → A) → (b ≡ false → A) → A
by_test true f g = f refl
by_test false f g = g refl

module _ (code : Code) where
  pub frames_length : (calls : List FunctionCode) (frames : List Frame) → FramesFit code calls frames → length frames ≡ length calls
  frames_length [] frames h = ap length h
  frames_length (c ∷ callers) frames h = let r = frames_length callers h.outer h.rest in ap length h.are ∙ more_length h.outer h.frame ∙ (omega (arith, r))

  -- the frame of a call
  pub record FrameOf (frames : List Frame) (f : ℕ) (c : FunctionCode) : Type 0 where
    pub frame : Frame
    pub there : slice_get frames f ≡ Some frame
    pub callers : List FunctionCode
    pub locals : (l : ℕ) (t : VarType) → slice_get c.locals l ≡ Some t → LocalFits code callers c frame.locals l t

  pub frame_of : (calls : List FunctionCode) (frames : List Frame) (f : ℕ) (c : FunctionCode) → FramesFit code calls frames → call_at calls f ≡ Some c → FrameOf frames f c
  frame_of [] frames f c h e = absurd (none_some e)
  frame_of (d ∷ callers) frames f c h e = by_test (f == length callers)
      (λ t. innermost t (some_same (sym (ap (λ b. either b (Some d) (call_at callers f)) t) ∙ e)))
      (λ t. let r = frame_of callers h.outer f c h.rest (sym (ap (λ b. either b (Some d) (call_at callers f)) t) ∙ e) in
      record {
        frame = r.frame;
        there = ap (λ fs. slice_get fs f) h.are ∙ more_other h.outer h.frame r.frame f r.there;
        callers = r.callers;
        locals = r.locals;
      })
    where
      innermost : (f == length callers) ≡ true → d ≡ c → FrameOf frames f c
      innermost t s = record {
        frame = h.frame;
        there = ap (λ fs. slice_get fs f) h.are ∙ ap (slice_get (h.outer ++ h.frame ∷ [])) (eqb-true f (length callers) t ∙ sym (frames_length callers h.outer h.rest)) ∙ more_last h.outer h.frame;
        callers = callers;
        locals = subst (λ c. (l : ℕ) (u : VarType) → slice_get c.locals l ≡ Some u → LocalFits code callers c h.frame.locals l u) s h.locals;
      }

  -- a local of its own
  pub record OwnType (l : ℕ) (c : FunctionCode) (t : VarType) : Type 0 where
    pub own : is_lent c.lent l ≡ false
    pub is : slice_get c.locals l ≡ Some t

  pub own_is : (l : ℕ) (c : FunctionCode) (t : VarType) → local_type l c ≡ Some t → OwnType l c t
  own_is l c t e = by_test (is_lent c.lent l)
      (λ b. absurd (none_some (sym (ap (λ b. own_type b (slice_get c.locals l)) b) ∙ e)))
      (λ b. record { own = b; is = sym (ap (λ b. own_type b (slice_get c.locals l)) b) ∙ e })

  own_cell : (callers : List FunctionCode) (t : VarType) (s : Slot) → SlotOf code callers false t s → (d : Cell) × (own s ≡ Some d) × CellOf code.classes t d
  own_cell callers t (Own d) h = (d, refl, h)
  own_cell callers t (Lent p) h = absurd h

  -- what stands at a root
  pub base_looks : (calls : List FunctionCode) (r : Root) (t : VarType) (store : Store) → StoreFits code calls store → root_type code.globals calls r ≡ Some t → Looks (CellOf code.classes t) store (base_cell r store)
  base_looks calls (root.Global g) t store h e =
      let x = h.globals g t e in subst (λ o. Looks (CellOf code.classes t) store (the o store)) (sym x.there) (x.fits, refl)
  base_looks calls (root.Local f l) t store h e =
      let c = found (call_at calls f) (local_type l) t e in
      let w = own_is l c.it t c.on in
      let fr = frame_of calls store.frames f c.it h.frames c.is in
      let x = fr.locals l t w.is in
      let d = own_cell fr.callers t x.slot (subst (λ b. SlotOf code fr.callers b t x.slot) w.own x.fits) in
      subst (λ o. Looks (CellOf code.classes t) store (the (then_some (slice_get (locals_of o) l) own) store)) (sym fr.there)
      (subst (λ o. Looks (CellOf code.classes t) store (the (then_some o own) store)) (sym x.there)
      (subst (λ o. Looks (CellOf code.classes t) store (the o store)) (sym d.1) (d.2, refl)))
  base_looks calls (root.Object serial) t store h e = absurd (none_some e)

  pub cell_looks : (calls : List FunctionCode) (t : VarType) (p : Place) (store : Store) → StoreFits code calls store → PlaceOf code calls t p → Looks (CellOf code.classes t) store (cell_at p store)
  cell_looks calls t p store h k =
      looks_on (CellOf code.classes k.root) (CellOf code.classes t) store (base_cell p.root store) (part p.path)
      (base_looks calls p.root k.root store h k.there)
      (λ c g. part_looks code.classes p.path k.root t c store g k.leads)

  -- frames, where a local of one of them is changed
  module _ (l : ℕ) (t : VarType) (go : Cell → Cell) (kept : (c : Cell) → CellOf code.classes t c → CellOf code.classes t (go c)) where
    slot_kept : (callers : List FunctionCode) (c : FunctionCode) → OwnType l c t → (s : Slot)
        → ((u : VarType) → slice_get c.locals l ≡ Some u → SlotOf code callers (is_lent c.lent l) u s)
        → (u : VarType) → slice_get c.locals l ≡ Some u → SlotOf code callers (is_lent c.lent l) u (with_own go s)
    slot_kept callers c w (Own d) h u e =
        subst (λ u. SlotOf code callers (is_lent c.lent l) u (Own (go d))) (some_same (sym w.is ∙ e))
        (subst (λ b. SlotOf code callers b t (Own (go d))) (sym w.own) (kept d (subst (λ b. SlotOf code callers b t (Own d)) w.own (h t w.is))))
    slot_kept callers c w (Lent p) h u e = h u e

    locals_kept : (callers : List FunctionCode) (c : FunctionCode) (slots : List Slot) → OwnType l c t → ((j : ℕ) (u : VarType) → slice_get c.locals j ≡ Some u → LocalFits code callers c slots j u)
        → (j : ℕ) (u : VarType) → slice_get c.locals j ≡ Some u → LocalFits code callers c (changed slots l (with_own go)) j u
    locals_kept callers c slots w h j u e =
        let x = h j u e in
        let r = changed_stays (λ j s. (u : VarType) → slice_get c.locals j ≡ Some u → SlotOf code callers (is_lent c.lent j) u s)
        slots l (with_own go) (slot_kept callers c w) j x.slot x.there
        (λ v f. subst (λ v. SlotOf code callers (is_lent c.lent j) v x.slot) (some_same (sym e ∙ f)) x.fits) in
        record { slot = r.item; there = r.there; fits = r.has u e }

    pub frames_kept : (calls : List FunctionCode) (frames : List Frame) (f : ℕ) (c : FunctionCode) → FramesFit code calls frames → call_at calls f ≡ Some c → OwnType l c t
        → FramesFit code calls (changed frames f (λ (fr : Frame). record fr { locals = changed fr.locals l (with_own go) }))
    frames_kept [] frames f c h e w = absurd (none_some e)
    frames_kept (d ∷ callers) frames f c h e w = by_test (f == length callers)
        (λ b. innermost b (some_same (sym (ap (λ b. either b (Some d) (call_at callers f)) b) ∙ e)))
        (λ b. record {
          outer = changed h.outer f (λ (fr : Frame). record fr { locals = changed fr.locals l (with_own go) });
          frame = h.frame;
          are = ap (λ fs. changed fs f (λ (fr : Frame). record fr { locals = changed fr.locals l (with_own go) })) h.are
              ∙ more_changed_other h.outer h.frame f (λ (fr : Frame). record fr { locals = changed fr.locals l (with_own go) }) (other b);
          locals = h.locals;
          rest = frames_kept callers h.outer f c h.rest (sym (ap (λ b. either b (Some d) (call_at callers f)) b) ∙ e) w;
        })
      where
        other : (f == length callers) ≡ false → f ≡ length h.outer → ⊥
        other b e = absurd (let g = sym (eq-eqb f (length callers) (e ∙ frames_length callers h.outer h.rest)) ∙ b in let x : true ≡ false = g in cc)

        innermost : (f == length callers) ≡ true → d ≡ c → FramesFit code (d ∷ callers) (changed frames f (λ (fr : Frame). record fr { locals = changed fr.locals l (with_own go) }))
        innermost b s = record {
          outer = h.outer;
          frame = record h.frame { locals = changed h.frame.locals l (with_own go) };
          are = ap (λ fs. changed fs f (λ (fr : Frame). record fr { locals = changed fr.locals l (with_own go) })) h.are
              ∙ ap (λ n. changed (h.outer ++ h.frame ∷ []) n (λ (fr : Frame). record fr { locals = changed fr.locals l (with_own go) })) (eqb-true f (length callers) b ∙ sym (frames_length callers h.outer h.rest))
              ∙ more_changed_last h.outer h.frame (λ (fr : Frame). record fr { locals = changed fr.locals l (with_own go) });
          locals = locals_kept callers d h.frame.locals (subst (λ c. OwnType l c t) (sym s) w) h.locals;
          rest = h.rest;
        }

  -- a store, where what stands at a root is changed
  pub base_kept : (calls : List FunctionCode) (r : Root) (t : VarType) (go : Cell → Cell) (store : Store) → StoreFits code calls store → root_type code.globals calls r ≡ Some t
      → ((c : Cell) → CellOf code.classes t c → CellOf code.classes t (go c)) → StoreFits code calls (set_base r go store)
  base_kept calls (root.Global g) t go store h e k = record {
    globals = λ j u f. let x = h.globals j u f in
        let r = changed_stays (λ j c. (u : VarType) → slice_get code.globals j ≡ Some u → CellOf code.classes u c) store.globals g go
        (λ c q u f. subst (λ u. CellOf code.classes u (go c)) (some_same (sym e ∙ f)) (k c (q t e)))
        j x.cell x.there (λ v q. subst (λ v. CellOf code.classes v x.cell) (some_same (sym f ∙ q)) x.fits) in
        record { cell = r.item; there = r.there; fits = r.has u f };
    frames = h.frames;
    inputs = h.inputs;
  }
  base_kept calls (root.Local f l) t go store h e k =
      let c = found (call_at calls f) (local_type l) t e in record {
        globals = h.globals;
        frames = frames_kept l t go k calls store.frames f c.it h.frames c.is (own_is l c.it t c.on);
        inputs = h.inputs;
      }
  base_kept calls (root.Object serial) t go store h e k = absurd (none_some e)

  -- changes that are never stuck, while these calls are in force
  module _ (AtEnd : Store → Type 0) where
    pub give_safe : {A : Type 0} {J : Store → Type 0} {P : A → Type 0} (a : A) → P a → Safe AtEnd J J P (give a)
    give_safe a p = record { from = λ store h. (p, h) }

    pub leaves_on : {A B : Type 0} (J K : Store → Type 0) (P : A → Type 0) (Q : B → Type 0) (o : Out A) (g : A → Change B) → Leaves AtEnd J P o → ((a : A) → P a → Safe AtEnd J K Q (g a)) → Leaves AtEnd K Q (after o g)
    leaves_on J K P Q (Done a store) g h k = (k a h.0).from store h.1
    leaves_on J K P Q (Over e store) g h k = h

    pub then_safe : {A B : Type 0} {I J K : Store → Type 0} {P : A → Type 0} {Q : B → Type 0} {f : Change A} {g : A → Change B} → Safe AtEnd I J P f → ((a : A) → P a → Safe AtEnd J K Q (g a)) → Safe AtEnd I K Q (f >>= g)
    then_safe {I} {J} {K} {P} {Q} {f} {g} s k = record { from = λ store h. leaves_on J K P Q (f store) g (s.from store h) k }

    pub next_safe : {A B : Type 0} {I J K : Store → Type 0} {P : A → Type 0} {Q : B → Type 0} {f : Change A} {g : Change B} → Safe AtEnd I J P f → Safe AtEnd J K Q g → Safe AtEnd I K Q (f >> g)
    next_safe {I} {J} {K} {P} {Q} {f} {g} s k = record { from = λ store h. leaves_on J K P Q (f store) (λ _. g) (s.from store h) (λ a p. k) }

    pub the_safe : {A : Type 0} {J : Store → Type 0} {P : A → Type 0} (o : Option A) (a : A) → o ≡ Some a → P a → Safe AtEnd J J P (the o)
    the_safe {J} {P} o a e p = record { from = λ store h. subst (λ o. Leaves AtEnd J P (the o store)) (sym e) (p, h) }

    module _ (J : Store → Type 0) (to_end : (store : Store) → J store → AtEnd store) where
      pub fail_safe : {A : Type 0} {P : A → Type 0} (kind : ErrorKind) → Safe AtEnd J J P (fail kind)
      fail_safe kind = record { from = λ store h. (tt, to_end store h) }

      pub must_safe : (b : Bool) (kind : ErrorKind) → Safe AtEnd J J (λ _. Unit {0}) (must b kind)
      must_safe true kind = record { from = λ store h. (tt, h) }
      must_safe false kind = record { from = λ store h. (tt, to_end store h) }

      leaves_look : {A : Type 0} (P : A → Type 0) (store : Store) (o : Out A) → J store → Looks P store o → Leaves AtEnd J P o
      leaves_look P store (Done a new) h k = (k.0, subst J (sym k.1) h)
      leaves_look P store (Over e new) h k = (k.0, to_end new (subst J (sym k.1) h))

      pub look_safe : {A : Type 0} {P : A → Type 0} {f : Change A} → ((store : Store) → J store → Looks P store (f store)) → Safe AtEnd J J P f
      look_safe {P} {f} k = record { from = λ store h. leaves_look P store (f store) h (k store h) }

  module _ (AtEnd : Store → Type 0) (calls : List FunctionCode) (to_end : (store : Store) → StoreFits code calls store → AtEnd store) where
    -- the cells in use are another number
    counts_leaves : (n : ℕ) (store : Store) (b : Bool) → StoreFits code calls store
        → Leaves AtEnd (StoreFits code calls) (λ _. Unit {0}) (after (must b CellsExhausted store) (λ _ s. Done (tt {0}) (record s { cells = n })))
    counts_leaves n store true h = (tt, record { globals = h.globals; frames = h.frames; inputs = h.inputs })
    counts_leaves n store false h = (tt, to_end store h)

    pub counts_safe : (n : ℕ) → Safe AtEnd (StoreFits code calls) (StoreFits code calls) (λ _. Unit {0}) (counts n)
    counts_safe n = record { from = λ store h. counts_leaves n store (nat_le n most_cells) h }

    pub cell_safe : (t : VarType) (p : Place) → PlaceOf code calls t p → Safe AtEnd (StoreFits code calls) (StoreFits code calls) (CellOf code.classes t) (cell_at p)
    cell_safe t p k = look_safe AtEnd (StoreFits code calls) to_end (λ store h. cell_looks calls t p store h k)

    -- a cell of its type is put at a place
    pub replace_safe : (t : VarType) (p : Place) (old new : Cell) → PlaceOf code calls t p → CellOf code.classes t new → Safe AtEnd (StoreFits code calls) (StoreFits code calls) (λ _. Unit {0}) (replace p old new)
    replace_safe t p old new k h = record {
      from = λ store g. leaves_on AtEnd (StoreFits code calls) (StoreFits code calls) (λ _. Unit {0}) (λ _. Unit {0})
          (counts (store.cells - weight old + weight new) store) (λ _ counted. Done (tt {0}) (set_base p.root (with_part p.path new) counted))
          ((counts_safe (store.cells - weight old + weight new)).from store g)
          (λ a q. record {
            from = λ counted g. (
              tt,
              base_kept calls p.root k.root (with_part p.path new) counted g k.there
                  (λ c f. with_part_fits code.classes p.path k.root t c new f k.leads h),
            );
          });
    }
