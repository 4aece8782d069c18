-- Calls begin and end, locals begin anew, and so do globals and inputs: none of it is stuck.
use denote.Hole.Carrier.{out, roll}
use Rattle.std.proofs.Common.{◌≡◌, ℕ, zero, suc, ◌-◌, ◌+◌, Bool, true, false, List, [], ◌∷◌, ◌++◌, length, map, take, drop, Option, Some, None, refl, sym, ap, ◌∙◌, subst, arith}
use Rattle.std.specs.Prelude.{◌==◌, nat_le, nat_lt, slice_get, is_some}
use Rattle.std.proofs.lemmas.Bool.{eqb-true}
use Rattle.mql_mean.specs.declared.value.Value.{Value, out-Value, roll-Value, roll-out-Value}
use Rattle.mql_mean.specs.declared.value.Value.TheVariants as value
use Rattle.mql_mean.specs.declared.value.Value.TheOpen.{Value-F}
use Rattle.mql_mean.specs.declared.error.ErrorKind.TheVariants.{StackOverflow, CellsExhausted}
use Rattle.mql_meaning.specs.declared.place.Place.{Place}
use Rattle.mql_meaning.specs.declared.store.Store.{Store}
use Rattle.mql_meaning.specs.declared.store.SetInput.{SetInput}
use Rattle.mql_meaning.specs.declared.store.Slot.{Slot}
use Rattle.mql_meaning.specs.declared.store.Slot.TheVariants.{Own, Lent}
use Rattle.mql_meaning.specs.declared.tree.Input.{Input}
use Rattle.mql_meaning.specs.declared.types.VarType.{VarType}
use Rattle.mql_meaning.specs.Changes.{Done, Change, after, ◌>>◌, give, must, then_some, either}
use Rattle.mql_meaning.specs.Cells.{total, zero_of}
use Rattle.mql_meaning.specs.Objects.{object_class, for_variable, for_all, new_object}
use Rattle.mql_meaning.specs.Operands.{Operand, Val, At, literal_at, most_units}
use Rattle.mql_meaning.specs.Places.{most_cells, counts}
use Rattle.mql_meaning.specs.Frames.{most_frames, slots, held, new_frame, enter_with, enter_by, enter, leave, reset_one, reset, global_place, input_value, write_inputs, begin}
use Rattle.stack_code.specs.declared.code.Code.{Code}
use Rattle.stack_code.specs.declared.code.FunctionCode.{FunctionCode}
use Rattle.stack_code.specs.declared.code.OperandType.{OperandType}
use Rattle.stack_code.specs.Machine.{head_of, program_of}
use Rattle.stack_validity.specs.Types.{CellOf, ValueOf}
use Rattle.stack_validity.specs.Fits.{is_lent, PlaceOf, SlotOf, FramesFit, InputsFit, StoreFits, Leaves, Safe}
use Rattle.stack_validity.specs.Rules.{Passes, ResetRule}
use Rattle.stack_validity.specs.Valid.{Below, Nesting, InputFits}
use Rattle.stack_validity.proofs.Values.{some_same, none_some}
use Rattle.stack_validity.proofs.Lists.{more_length, more_taken}
use Rattle.stack_validity.proofs.Stores.{by_test, give_safe, then_safe, next_safe, the_safe, must_safe, look_safe, leaves_on, counts_safe, cell_safe, replace_safe}
use Rattle.stack_validity.proofs.Operating.{local_looks, write_safe, ArgumentsOf}
use Rattle.stack_validity.proofs.Beginnings.{no_object, zero_fits}

-- locals from a number on
abbrev From : List VarType → ℕ → List VarType → Type 0
From locals i [] = Unit {0}
From locals i (t ∷ ts) = (slice_get locals i ≡ Some t) × From locals (i + 1) ts

from_all : (locals : List VarType) (n i : ℕ) (ts : List VarType) → ((j : ℕ) (t : VarType) → slice_get ts j ≡ Some t → slice_get locals (i + j) ≡ Some t) → From locals i (take n ts)
from_all locals zero i ts h = tt
from_all locals (suc n) i [] h = tt
from_all locals (suc n) i (t ∷ ts) h = (
  let e : i + 0 ≡ i = omega arith in sym (ap (slice_get locals) e) ∙ h 0 t refl,
  from_all locals n (i + 1) ts (λ j u is. let e : i + 1 + j ≡ i + suc j = omega arith in ap (slice_get locals) e ∙ h (suc j) u is),
)

dropped : (xs : List VarType) (a j : ℕ) (t : VarType) → slice_get (drop a xs) j ≡ Some t → slice_get xs (a + j) ≡ Some t
dropped xs zero j t e = let n : 0 + j ≡ j = omega arith in ap (slice_get xs) n ∙ e
dropped [] (suc a) j t e = absurd (none_some e)
dropped (x ∷ xs) (suc a) j t e = let n : suc a + j ≡ suc (a + j) = omega arith in ap (slice_get (x ∷ xs)) n ∙ dropped xs a j t e

module _ (code : Code) (nesting : Nesting code.classes) (AtEnd : Store → Type 0) where
  module _ (c : FunctionCode) (callers : List FunctionCode) (known : (l : ℕ) (t : VarType) → slice_get c.locals l ≡ Some t → Below nesting.height (length code.classes) t.base)
      (to_end : (store : Store) → StoreFits code (c ∷ callers) store → AtEnd store) where
    abbrev S : {A : Type 0} → (A → Type 0) → Change A → Type 0
    S P f = Safe AtEnd (StoreFits code (c ∷ callers)) (StoreFits code (c ∷ callers)) P f

    no_variable : (make : ℕ → Change ℕ) (o : Option ℕ) (p : Place) → o ≡ None → S (λ _. Unit {0}) (for_variable make o p)
    no_variable make o p e = subst (λ o. S (λ _. Unit {0}) (for_variable make o p)) (sym e) (give_safe code AtEnd (tt {0}) (tt {0}))

    reset_one_safe : (t : VarType) (p : Place) → Below nesting.height (length code.classes) t.base → PlaceOf code (c ∷ callers) t p → S (λ _. Unit {0}) (reset_one code.classes t p)
    reset_one_safe t p b k =
        then_safe code AtEnd (cell_safe code AtEnd (c ∷ callers) to_end t p k) (λ old h.
        next_safe code AtEnd (replace_safe code AtEnd (c ∷ callers) to_end t p old (zero_of code.classes t) k (zero_fits code.classes nesting t b))
        (no_variable (new_object code.classes true) (object_class t) p (no_object nesting.height (length code.classes) t.base t.dimensions b)))

    reset_from : (i : ℕ) (ts : List VarType) → From c.locals i ts → S (λ _. Unit {0}) (reset code.classes i ts)
    reset_from i [] h = give_safe code AtEnd (tt {0}) (tt {0})
    reset_from i (t ∷ ts) h =
        then_safe code AtEnd (look_safe code AtEnd (StoreFits code (c ∷ callers)) to_end (λ store g. local_looks code c callers i t store g h.0)) (λ p k.
        then_safe code AtEnd (reset_one_safe t p (known i t h.0) k) (λ _ u. reset_from (i + 1) ts h.1))

    -- locals begin anew
    pub reset_safe : (a b : ℕ) → ResetRule c a b → S (λ _. Unit {0}) (reset code.classes a (take (b - a) (drop a c.locals)))
    reset_safe a b r = reset_from a (take (b - a) (drop a c.locals)) (from_all c.locals (b - a) a (drop a c.locals) (λ j t e. dropped c.locals a j t e))

    -- a call ends
    pub leave_safe : Safe AtEnd (StoreFits code (c ∷ callers)) (StoreFits code callers) (λ _. Unit {0}) leave
    leave_safe = record {
      from = λ store h. (
        tt,
        record {
          globals = h.globals;
          frames = subst (FramesFit code callers)
              (sym (ap (λ fs. take (length fs - 1) fs) h.frames.are
              ∙ ap (λ n. take n (h.frames.outer ++ h.frames.frame ∷ [])) (let n = more_length h.frames.outer h.frames.frame in let m : length (h.frames.outer ++ h.frames.frame ∷ []) - 1 ≡ length h.frames.outer = omega (arith, n) in m)
              ∙ more_taken h.frames.outer h.frames.frame)) h.frames.rest;
          inputs = h.inputs;
        },
      );
    }

  module _ (calls : List FunctionCode) (to_end : (store : Store) → StoreFits code calls store → AtEnd store) where
    -- the locals of a call, over those that its caller lends
    record Slots (lent : List Bool) (ts : List VarType) (xs : List Operand) : Type 0 where
      slots_are : List Slot
      is : slots (map (zero_of code.classes) ts) lent xs ≡ Some slots_are
      fit : (l : ℕ) (t : VarType) → slice_get ts l ≡ Some t → (s : Slot) × (slice_get slots_are l ≡ Some s) × SlotOf code calls (is_lent lent l) t s

    slot_first : (lent : List Bool) (t : VarType) (ts : List VarType) (s : Slot) (ss : List Slot) → SlotOf code calls (is_lent lent 0) t s
        → ((l : ℕ) (u : VarType) → slice_get ts l ≡ Some u → (s : Slot) × (slice_get ss l ≡ Some s) × SlotOf code calls (is_lent lent (suc l)) u s)
        → (l : ℕ) (u : VarType) → slice_get (t ∷ ts) l ≡ Some u → (v : Slot) × (slice_get (s ∷ ss) l ≡ Some v) × SlotOf code calls (is_lent lent l) u v
    slot_first lent t ts s ss f h zero u e = (s, refl, subst (λ u. SlotOf code calls (is_lent lent 0) u s) (some_same e) f)
    slot_first lent t ts s ss f h (suc l) u e = h l u e

    slots_fit : (ts : List VarType) (lent : List Bool) (ks : List OperandType) (xs : List Operand) → ((l : ℕ) (t : VarType) → slice_get ts l ≡ Some t → CellOf code.classes t (zero_of code.classes t))
        → Passes ts lent ks → ArgumentsOf code AtEnd calls to_end ks xs → Slots lent ts xs
    slots_fit [] [] [] [] z r h = record { slots_are = []; is = refl; fit = λ l t e. absurd (none_some e) }
    slots_fit [] [] [] (x ∷ xs) z r h = absurd (let e : (x ∷ xs) ≡ [] = h in cc)
    slots_fit (t ∷ ts) [] [] [] z r h =
        let s = slots_fit ts [] [] [] (λ l. z (suc l)) r h in record {
          slots_are = Own (zero_of code.classes t) ∷ s.slots_are;
          is = ap (λ o. then_some o (λ ss. Some (Own (zero_of code.classes t) ∷ ss))) s.is;
          fit = slot_first [] t ts (Own (zero_of code.classes t)) s.slots_are (z 0 t refl) s.fit;
        }
    slots_fit (t ∷ ts) [] [] (x ∷ xs) z r h = absurd (let e : (x ∷ xs) ≡ [] = h in cc)
    slots_fit [] [] (k ∷ ks) xs z r h = absurd r
    slots_fit (t ∷ ts) [] (k ∷ ks) xs z r h = absurd r
    slots_fit [] (l ∷ ls) ks xs z r h = absurd r
    slots_fit (t ∷ ts) (l ∷ ls) [] xs z r h = absurd r
    slots_fit (t ∷ ts) (l ∷ ls) (k ∷ ks) [] z r h = absurd h
    slots_fit (t ∷ ts) (true ∷ ls) (k ∷ ks) (Val v ∷ xs) z r h = absurd (let e = sym h.0.0 ∙ r.0 in let f : false ≡ true = e in cc)
    slots_fit (t ∷ ts) (true ∷ ls) (k ∷ ks) (At p ∷ xs) z r h =
        let s = slots_fit ts ls ks xs (λ l. z (suc l)) r.2 h.1 in record {
          slots_are = Lent p ∷ s.slots_are;
          is = ap (λ o. then_some o (λ ss. Some (Lent p ∷ ss))) s.is;
          fit = slot_first (true ∷ ls) t ts (Lent p) s.slots_are (subst (λ t. PlaceOf code calls t p) r.1 h.0.1) s.fit;
        }
    slots_fit (t ∷ ts) (false ∷ ls) (k ∷ ks) (Val v ∷ xs) z r h =
        let s = slots_fit ts ls ks xs (λ l. z (suc l)) r.2 h.1 in
        let n = (subst (λ t. ValueOf code.classes t v) r.1 h.0.1).taken (zero_of code.classes t) (z 0 t refl) in record {
          slots_are = Own n.new ∷ s.slots_are;
          is = ap (λ o. then_some o (λ d. then_some (slots (map (zero_of code.classes) ts) ls xs) (λ ss. Some (Own d ∷ ss)))) n.is
              ∙ ap (λ o. then_some o (λ ss. Some (Own n.new ∷ ss))) s.is;
          fit = slot_first (false ∷ ls) t ts (Own n.new) s.slots_are n.fits s.fit;
        }
    slots_fit (t ∷ ts) (false ∷ ls) (k ∷ ks) (At p ∷ xs) z r h = absurd (let e = sym h.0.0 ∙ r.0 in let f : true ≡ false = e in cc)

    -- a call begins
    module _ (callee : FunctionCode) (known : (l : ℕ) (t : VarType) → slice_get callee.locals l ≡ Some t → Below nesting.height (length code.classes) t.base) where
      frame_more : (ss : List Slot) (store : Store) → ((l : ℕ) (t : VarType) → slice_get callee.locals l ≡ Some t → (s : Slot) × (slice_get ss l ≡ Some s) × SlotOf code calls (is_lent callee.lent l) t s)
          → StoreFits code calls store → StoreFits code (callee ∷ calls) (record store { frames = store.frames ++ new_frame (head_of callee) None ss ∷ [] })
      frame_more ss store f h = record {
        globals = h.globals;
        frames = record {
          outer = store.frames;
          frame = new_frame (head_of callee) None ss;
          are = refl;
          locals = λ l t e. let x = f l t e in record { slot = x.0; there = x.1; fits = x.2 };
          rest = h.frames;
        };
        inputs = h.inputs;
      }

      enter_with_safe : (ks : List OperandType) (xs : List Operand) → Passes callee.locals callee.lent ks → ArgumentsOf code AtEnd calls to_end ks xs
          → Safe AtEnd (StoreFits code calls) (StoreFits code (callee ∷ calls)) (λ _. Unit {0}) (enter_with code.classes (head_of callee) None xs)
      enter_with_safe ks xs r h =
          let s = slots_fit callee.locals callee.lent ks xs (λ l t e. zero_fits code.classes nesting t (known l t e)) r h in
          then_safe code AtEnd (the_safe code AtEnd {P = λ ss. (l : ℕ) (t : VarType) → slice_get callee.locals l ≡ Some t → (s : Slot) × (slice_get ss l ≡ Some s) × SlotOf code calls (is_lent callee.lent l) t s}
          (slots (map (zero_of code.classes) callee.locals) callee.lent xs) s.slots_are s.is s.fit) (λ ss f.
          record {
            from = λ store g. leaves_on code AtEnd (StoreFits code calls) (StoreFits code (callee ∷ calls)) (λ _. Unit {0}) (λ _. Unit {0})
                (counts (store.cells + held ss) store) (λ _ counted. Done (tt {0}) (record counted { frames = counted.frames ++ new_frame (head_of callee) None ss ∷ [] }))
                ((counts_safe code AtEnd calls to_end (store.cells + held ss)).from store g)
                (λ _ u. record { from = λ counted g. (tt, frame_more ss counted f g) });
          })

      pub enter_safe : (ks : List OperandType) (xs : List Operand) → callee.class ≡ None → Passes callee.locals callee.lent ks → ArgumentsOf code AtEnd calls to_end ks xs
          → Safe AtEnd (StoreFits code calls) (StoreFits code (callee ∷ calls)) (λ _. Unit {0}) (enter code.classes (head_of callee) xs)
      enter_safe ks xs e r h = record {
        from = λ store g. leaves_on code AtEnd (StoreFits code calls) (StoreFits code (callee ∷ calls)) (λ _. Unit {0}) (λ _. Unit {0})
            (must (nat_lt (length store.frames) most_frames) StackOverflow store) (λ _. enter_by (is_some callee.class) code.classes (head_of callee) xs)
            ((must_safe code AtEnd (StoreFits code calls) to_end (nat_lt (length store.frames) most_frames) StackOverflow).from store g)
            (λ _ u. subst (λ o. Safe AtEnd (StoreFits code calls) (StoreFits code (callee ∷ calls)) (λ _. Unit {0}) (enter_by (is_some o) code.classes (head_of callee) xs)) (sym e)
            (enter_with_safe ks xs r h));
      }

    -- inputs get their values
    text_gives : (t : VarType) (v : Value) (s : List ℕ) → v ≡ value.Str s → ValueOf code.classes t v → (b : Bool) → (store : Store) → StoreFits code calls store
        → Leaves AtEnd (StoreFits code calls) (ValueOf code.classes t) (after (must b CellsExhausted store) (λ _. give (value.Str s)))
    text_gives t v s e h true store g = (subst (ValueOf code.classes t) e h, g)
    text_gives t v s e h false store g = (tt, to_end store g)

    string_from : (v : Value) (s : List ℕ) → out-Value v ≡ Value-F.Str s → v ≡ value.Str s
    unfolding roll-Value denote.Hole.Carrier.roll
    string_from v s e = sym (roll-out-Value v) ∙ ap roll-Value e

    literal_by : (t : VarType) (v : Value) (x : Value-F Value) → out-Value v ≡ x → ValueOf code.classes t v → Safe AtEnd (StoreFits code calls) (StoreFits code calls) (ValueOf code.classes t) (literal_at x v)
    literal_by t v (Value-F.Num k z) e h = give_safe code AtEnd v h
    literal_by t v (Value-F.Dbl z) e h = give_safe code AtEnd v h
    literal_by t v (Value-F.Str s) e h = record { from = λ store g. text_gives t v s (string_from v s e) h (nat_le (length s) most_units) store g }
    literal_by t v (Value-F.Ptr p) e h = give_safe code AtEnd v h
    literal_by t v (Value-F.Arr vs) e h = give_safe code AtEnd v h
    literal_by t v (Value-F.Rec vs) e h = give_safe code AtEnd v h

    input_value_fits : (set : List SetInput) (input : Input) (f : InputFits code input) → InputsFit code set → ValueOf code.classes f.of (input_value set input)
    input_value_fits [] input f h = f.fits
    input_value_fits (s ∷ set) input f h = by_test (s.global == input.global)
        (λ e. subst (λ b. ValueOf code.classes f.of (either b s.value (input_value set input))) (sym e)
        (h 0 s f.of refl (let n = eqb-true s.global input.global e in ap (slice_get code.globals) n ∙ f.there)))
        (λ e. subst (λ b. ValueOf code.classes f.of (either b s.value (input_value set input))) (sym e)
        (input_value_fits set input f (λ i. h (suc i))))

    pub inputs_safe : (set : List SetInput) (inputs : List Input) → InputsFit code set → ((i : ℕ) (input : Input) → slice_get inputs i ≡ Some input → InputFits code input)
        → Safe AtEnd (StoreFits code calls) (StoreFits code calls) (λ _. Unit {0}) (write_inputs set inputs)
    inputs_safe set [] h k = give_safe code AtEnd (tt {0}) (tt {0})
    inputs_safe set (input ∷ inputs) h k =
        let f = k 0 input refl in
        then_safe code AtEnd (literal_by f.of (input_value set input) (out-Value (input_value set input)) refl (input_value_fits set input f h)) (λ v g.
        then_safe code AtEnd (write_safe code AtEnd calls to_end f.of v (global_place input.global) g (record { root = f.of; there = f.there; leads = refl })) (λ _ u.
        inputs_safe set inputs h (λ i. k (suc i))))

  -- globals and inputs begin, over frames and inputs that fit
  pub record Opens (calls : List FunctionCode) (store : Store) : Type 0 where
    pub frames : FramesFit code calls store.frames
    pub inputs : InputsFit code store.inputs

  mapped_there : (ts : List VarType) (g : ℕ) (t : VarType) → slice_get ts g ≡ Some t → slice_get (map (zero_of code.classes) ts) g ≡ Some (zero_of code.classes t)
  mapped_there [] g t e = absurd (none_some e)
  mapped_there (u ∷ ts) zero t e = ap (λ o. then_some o (λ t. Some (zero_of code.classes t))) e
  mapped_there (u ∷ ts) (suc g) t e = mapped_there ts g t e

  module _ (calls : List FunctionCode) (to_end : (store : Store) → StoreFits code calls store → AtEnd store) (Before : Store → Type 0)
      (opens : (store : Store) → Before store → Opens calls store) (opens_end : (store : Store) → Before store → AtEnd store)
      (counted : (n : ℕ) (store : Store) → Before store → Before (record store { cells = n }))
      (known : (g : ℕ) (t : VarType) → slice_get code.globals g ≡ Some t → Below nesting.height (length code.classes) t.base)
      (inputs : (i : ℕ) (input : Input) → slice_get code.inputs i ≡ Some input → InputFits code input) where
    no_objects : (make : ℕ → Change ℕ) (place : ℕ → Place) (i : ℕ) (ts : List VarType) → ((g : ℕ) (t : VarType) → slice_get ts g ≡ Some t → Below nesting.height (length code.classes) t.base)
        → Safe AtEnd (StoreFits code calls) (StoreFits code calls) (λ _. Unit {0}) (for_all make place i ts)
    no_objects make place i [] h = give_safe code AtEnd (tt {0}) (tt {0})
    no_objects make place i (t ∷ ts) h =
        then_safe code AtEnd
        (subst (λ o. Safe AtEnd (StoreFits code calls) (StoreFits code calls) (λ _. Unit {0}) (for_variable make o (place i))) (sym (no_object nesting.height (length code.classes) t.base t.dimensions (h 0 t refl)))
        (give_safe code AtEnd (tt {0}) (tt {0})))
        (λ _ u. no_objects make place (i + 1) ts (λ g. h (suc g)))

    opens_counts : (n : ℕ) (store : Store) (b : Bool) → Before store → Leaves AtEnd Before (λ _. Unit {0}) (after (must b CellsExhausted store) (λ _ s. Done (tt {0}) (record s { cells = n })))
    opens_counts n store true h = (tt, counted n store h)
    opens_counts n store false h = (tt, opens_end store h)

    globals_begin : (store : Store) → Opens calls store → StoreFits code calls (record store { globals = map (zero_of code.classes) code.globals })
    globals_begin store h = record {
      globals = λ g t e. record { cell = zero_of code.classes t; there = mapped_there code.globals g t e; fits = zero_fits code.classes nesting t (known g t e) };
      frames = h.frames;
      inputs = h.inputs;
    }

    pub begin_safe : Safe AtEnd Before (StoreFits code calls) (λ _. Unit {0}) (begin (program_of code))
    begin_safe = record {
      from = λ store h. leaves_on code AtEnd Before (StoreFits code calls) (λ _. Unit {0}) (λ _. Unit {0})
          (counts (store.cells + total (map (zero_of code.classes) code.globals)) store)
          (λ _ store. (for_all (new_object code.classes true) global_place 0 code.globals >> write_inputs store.inputs code.inputs) (record store { globals = map (zero_of code.classes) code.globals }))
          (opens_counts (store.cells + total (map (zero_of code.classes) code.globals)) store (nat_le (store.cells + total (map (zero_of code.classes) code.globals)) most_cells) h)
          (λ _ u. record {
            from = λ store g.
                (next_safe code AtEnd (no_objects (new_object code.classes true) global_place 0 code.globals known)
                (inputs_safe calls to_end store.inputs code.inputs (opens store g).inputs inputs)).from
                (record store { globals = map (zero_of code.classes) code.globals }) (globals_begin store (opens store g));
          });
    }
