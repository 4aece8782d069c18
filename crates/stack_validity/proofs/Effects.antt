-- Effects on operands of the kinds that they take are never stuck, and leave those of the kinds that they give.
use Rattle.std.proofs.Common.{◌≡◌, ℕ, zero, suc, ◌-◌, true, List, [], ◌∷◌, ◌++◌, take, drop, Option, Some, refl, sym, ap, ◌∙◌, subst}
use Rattle.std.specs.Prelude.{slice_get}
use Rattle.mql_mean.specs.declared.value.Value.{Value, out-Value}
use Rattle.mql_mean.specs.declared.value.Value.TheOpen.{Value-F}
use Rattle.mql_meaning.specs.declared.operator.Operator.{Operator}
use Rattle.mql_meaning.specs.declared.operator.Operator.TheVariants as operator
use Rattle.mql_meaning.specs.declared.place.Root.TheVariants as root
use Rattle.mql_meaning.specs.declared.store.Store.{Store}
use Rattle.mql_meaning.specs.declared.store.Frame.{Frame}
use Rattle.mql_meaning.specs.declared.types.Sort.{Sort}
use Rattle.mql_meaning.specs.Changes.{Done, Change, after, ◌>>=◌, give, the}
use Rattle.mql_meaning.specs.Places.{depth, changed, set_line, field_place, at_root}
use Rattle.mql_meaning.specs.Operands.{Operand, Val, At, a_value, literal_at}
use Rattle.mql_meaning.specs.Operators.{sort_at, sort_of}
use Rattle.mql_meaning.specs.Apply.{apply}
use Rattle.mql_meaning.specs.Frames.{reset}
use Rattle.stack_code.specs.declared.code.Code.{Code}
use Rattle.stack_code.specs.declared.code.FunctionCode.{FunctionCode}
use Rattle.stack_code.specs.declared.code.OperandType.{OperandType}
use Rattle.stack_code.specs.declared.code.Effect.{Effect}
use Rattle.stack_code.specs.declared.code.Effect.TheVariants as effect
use Rattle.stack_code.specs.Machine.{Taken, beside, takes, taking, operands_of, writes, copies, then_below, then_upon, does_effect}
use Rattle.stack_validity.specs.Types.{type_of, ValueOf}
use Rattle.stack_validity.specs.Fits.{PlaceOf, OperandOf, OperandsOf, StoreFits, Leaves, Safe}
use Rattle.stack_validity.specs.Rules.{suits, Suits, OneKind, TwoKinds, Taking, Applies, ConstantRule, Pushes, WriteRule, CopyRule, ResetRule, Changes}
use Rattle.stack_validity.proofs.Values.{some_same, none_some}
use Rattle.stack_validity.proofs.Lists.{more_changed_last}
use Rattle.stack_validity.proofs.Stores.{frames_length, give_safe, then_safe, the_safe, look_safe}
use Rattle.stack_validity.proofs.Computing.{value_sort, text_safe, unary_safe, binary_safe, convert_safe}
use Rattle.stack_validity.proofs.Operating.{field_typed, top_is, depth_is, local_looks, read_safe, write_safe, update_safe, bump_safe, index_safe, value_safe, place_safe, ArgumentsOf, none_safe, one_safe, two_safe, placed, valued, sorted}

module _ (code : Code) (AtEnd : Store → Type 0) (c : FunctionCode) (callers : List FunctionCode) (to_end : (store : Store) → StoreFits code (c ∷ callers) store → AtEnd store) where
  abbrev calls : List FunctionCode
  calls = c ∷ callers

  abbrev S : {A : Type 0} → (A → Type 0) → Change A → Type 0
  S P f = Safe AtEnd (StoreFits code calls) (StoreFits code calls) P f

  -- a value of the sort that is asked for
  suited_safe : {A : Type 0} {Q : A → Type 0} (s : Sort) (k : OperandType) (x : Operand) (f : Value → Change A) → Suits s k → OperandOf code calls k x
      → ((a : Sort) (v : Value) → suits s a ≡ true → sort_of v ≡ Some a → S Q (f v)) → S Q (a_value x >>= f)
  suited_safe s k x f r h g =
      then_safe code AtEnd (value_safe code AtEnd calls to_end k x r.of.value h) (λ v w.
      g r.sort v r.suits (value_sort code.classes k.of r.sort v w r.of.sort))

  -- an operator
  pub apply_safe : (o : Operator) (ks : List OperandType) (xs : List Operand) (y : OperandType) → Applies code c o ks y → ArgumentsOf code AtEnd calls to_end ks xs → S (OperandOf code calls y) (apply code.classes o xs)
  apply_safe (operator.Local l) ks xs y r h =
      none_safe code AtEnd calls to_end _ ks xs r h (λ r. placed code AtEnd calls to_end y y.of r.place refl
      (look_safe code AtEnd (StoreFits code calls) to_end (λ store g. local_looks code c callers l y.of store g r.there)))
  apply_safe (operator.Global g) ks xs y r h =
      none_safe code AtEnd calls to_end _ ks xs r h (λ r. give_safe code AtEnd (At (at_root (root.Global g))) (r.place, record { root = y.of; there = r.there; leads = refl }))
  apply_safe operator.This ks xs y r h = absurd r
  apply_safe (operator.Field i) ks xs y r h =
      one_safe code AtEnd calls to_end _ ks xs r h (λ k x r h.
      then_safe code AtEnd (place_safe code AtEnd calls to_end k x r.structure h) (λ p g.
      give_safe code AtEnd (At (field_place i p)) (r.place, field_typed code calls k.of y.of p i g r.field)))
  apply_safe operator.Index ks xs y r h =
      two_safe code AtEnd calls to_end _ ks xs r h (λ k j x z r hx hz.
      then_safe code AtEnd (place_safe code AtEnd calls to_end k x r.array hx) (λ p g.
      suited_safe _ j z _ r.number hz (λ a v sa ha.
      placed code AtEnd calls to_end y (type_of k.of.base r.sizes) r.element.place r.element.of
      (index_safe code AtEnd calls to_end k.of.base r.size r.sizes a p v sa ha (subst (λ ns. PlaceOf code calls (type_of k.of.base ns) p) r.dimensions g)))))
  apply_safe operator.Object ks xs y r h = absurd r
  apply_safe operator.Read ks xs y r h =
      one_safe code AtEnd calls to_end _ ks xs r h (λ k x r h.
      then_safe code AtEnd (place_safe code AtEnd calls to_end k x r.place h) (λ p g.
      valued code AtEnd calls to_end y k.of r.value.value r.value.of (read_safe code AtEnd calls to_end k.of p g)))
  apply_safe operator.PointerOf ks xs y r h = absurd r
  apply_safe operator.Keep ks xs y r h =
      two_safe code AtEnd calls to_end _ ks xs r h (λ k j x z r hx hz.
      then_safe code AtEnd (value_safe code AtEnd calls to_end k x r.value hx) (λ v w.
      then_safe code AtEnd (place_safe code AtEnd calls to_end j z r.place.place hz) (λ p g.
      then_safe code AtEnd (write_safe code AtEnd calls to_end k.of v p w (subst (λ t. PlaceOf code calls t p) r.place.of g)) (λ _ u.
      give_safe code AtEnd (Val v) (r.kept.value, subst (λ t. ValueOf code.classes t v) (sym r.kept.of) w)))))
  apply_safe (operator.Update o s) ks xs y r h =
      two_safe code AtEnd calls to_end _ ks xs r h (λ k j x z r hx hz.
      suited_safe s k x _ r.value hx (λ a v sa ha.
      then_safe code AtEnd (place_safe code AtEnd calls to_end j z r.place hz) (λ p g.
      then_safe code AtEnd (update_safe code AtEnd calls to_end o s r.own a j.of v p r.of r.into r.works r.back sa ha g) (λ u w.
      give_safe code AtEnd (Val u.new) (r.updated.value, subst (λ t. ValueOf code.classes t u.new) (sym r.updated.of) w.1)))))
  apply_safe (operator.Bump b) ks xs y r h =
      one_safe code AtEnd calls to_end _ ks xs r h (λ k x r h.
      then_safe code AtEnd (place_safe code AtEnd calls to_end k x r.place h) (λ p g.
      valued code AtEnd calls to_end y k.of r.bumped.value r.bumped.of (bump_safe code AtEnd calls to_end b r.own k.of p r.counted r.of g)))
  apply_safe (operator.Unary u s) ks xs y r h =
      one_safe code AtEnd calls to_end _ ks xs r h (λ k x r h.
      suited_safe s k x _ r.value h (λ a v sa ha.
      sorted code AtEnd calls to_end y _ r.result (unary_safe code AtEnd (StoreFits code calls) to_end u s a v r.works sa ha)))
  apply_safe (operator.Binary o s) ks xs y r h =
      two_safe code AtEnd calls to_end _ ks xs r h (λ k j x z r hx hz.
      suited_safe s k x _ r.first hx (λ a v sa ha.
      suited_safe s j z _ r.second hz (λ b w sb hb.
      sorted code AtEnd calls to_end y _ r.result (binary_safe code AtEnd (StoreFits code calls) to_end o s a b v w r.works sa sb ha hb))))
  apply_safe (operator.Convert s) ks xs y r h =
      one_safe code AtEnd calls to_end _ ks xs r h (λ k x r h.
      then_safe code AtEnd (value_safe code AtEnd calls to_end k x r.value.value h) (λ v w.
      sorted code AtEnd calls to_end y s r.result (convert_safe code AtEnd (StoreFits code calls) to_end s r.from v r.into (value_sort code.classes k.of r.from v w r.value.sort))))
  apply_safe (operator.Cast class strict) ks xs y r h = absurd r

  -- operands that are taken
  pub record Split (P : List OperandType → List OperandType → Type 0) (Rest : List Operand → Type 0) (t : Taken (List Operand)) : Type 0 where
    pub args : List OperandType
    pub below : List OperandType
    pub rule : P args below
    pub taken : ArgumentsOf code AtEnd calls to_end args t.it
    pub left : OperandsOf code calls Rest below t.rest

  take_split : (P : List OperandType → List OperandType → Type 0) (Rest : List Operand → Type 0) (n : ℕ) (ks js : List OperandType) (ops xs : List Operand) → Taking n ks js P → OperandsOf code calls Rest ks ops → ArgumentsOf code AtEnd calls to_end js xs
      → (t : Taken (List Operand)) × (takes n ops xs ≡ Some t) × Split P Rest t
  take_split P Rest zero ks js ops xs r h g = (beside xs ops, refl, record { args = js; below = ks; rule = r; taken = g; left = h })
  take_split P Rest (suc n) [] js ops xs r h g = absurd r
  take_split P Rest (suc n) (k ∷ ks) js [] xs r h g = absurd h
  take_split P Rest (suc n) (k ∷ ks) js (x ∷ ops) xs r h g = take_split P Rest n ks (k ∷ js) ops (x ∷ xs) r h.1 (h.0, g)

  pub taking_safe : (P : List OperandType → List OperandType → Type 0) (Rest : List Operand → Type 0) (n : ℕ) (ks : List OperandType) (ops : List Operand) → Taking n ks [] P → OperandsOf code calls Rest ks ops → S (Split P Rest) (taking n ops)
  taking_safe P Rest n ks ops r h =
      let s = take_split P Rest n ks [] ops [] r h refl in
      the_safe code AtEnd (takes n ops []) s.0 s.1 s.2

  -- a literal
  literal_safe : (s : Sort) (v : Value) (x : Value-F Value) → sort_at x ≡ Some s → sort_of v ≡ Some s → S (λ w. sort_of w ≡ Some s) (literal_at x v)
  literal_safe s v (Value-F.Num k z) e h = give_safe code AtEnd v h
  literal_safe s v (Value-F.Dbl z) e h = give_safe code AtEnd v h
  literal_safe s v (Value-F.Str u) e h = subst (λ s. S (λ w. sort_of w ≡ Some s) (literal_at (Value-F.Str u) v)) (some_same e) (text_safe code AtEnd (StoreFits code calls) to_end u)
  literal_safe s v (Value-F.Ptr p) e h = give_safe code AtEnd v h
  literal_safe s v (Value-F.Arr vs) e h = absurd (none_some e)
  literal_safe s v (Value-F.Rec vs) e h = absurd (none_some e)

  -- operands after an effect
  abbrev pub Left : (List Operand → Type 0) → List OperandType → List Operand → Type 0
  Left Rest ks ops = OperandsOf code calls Rest ks ops

  pushed : (Rest : List Operand → Type 0) (P : OperandType → Type 0) (below after : List OperandType) (rest : List Operand) {f : Change Operand} → (r : Pushes P below after) → Left Rest below rest
      → S (OperandOf code calls r.kind) f → S (Left Rest after) (then_upon f rest)
  pushed Rest P below after rest r h s =
      then_safe code AtEnd s (λ x g. give_safe code AtEnd (x ∷ rest) (subst (λ ks. Left Rest ks (x ∷ rest)) (sym r.above) (g, h)))

  kept : (Rest : List Operand → Type 0) (below after : List OperandType) (rest : List Operand) {f : Change (Unit {0})} → after ≡ below → Left Rest below rest
      → S (λ _. Unit {0}) f → S (Left Rest after) (then_below f rest)
  kept Rest below after rest e h s =
      then_safe code AtEnd s (λ _ u. give_safe code AtEnd rest (subst (λ ks. Left Rest ks rest) (sym e) h))

  writes_safe : (ks : List OperandType) (xs : List Operand) → TwoKinds WriteRule ks → ArgumentsOf code AtEnd calls to_end ks xs → S (λ _. Unit {0}) (writes xs)
  writes_safe ks xs r h = two_safe code AtEnd calls to_end _ ks xs r h (λ k j x z r hx hz.
      then_safe code AtEnd (value_safe code AtEnd calls to_end k x r.value hx) (λ v w.
      then_safe code AtEnd (place_safe code AtEnd calls to_end j z r.place.place hz) (λ p g.
      write_safe code AtEnd calls to_end k.of v p w (subst (λ t. PlaceOf code calls t p) r.place.of g))))

  copies_safe : (ks : List OperandType) (xs : List Operand) → TwoKinds CopyRule ks → ArgumentsOf code AtEnd calls to_end ks xs → S (λ _. Unit {0}) (copies xs)
  copies_safe ks xs r h = two_safe code AtEnd calls to_end _ ks xs r h (λ k j x z r hx hz.
      then_safe code AtEnd (place_safe code AtEnd calls to_end k x r.place hx) (λ p f.
      then_safe code AtEnd (place_safe code AtEnd calls to_end j z r.target.place hz) (λ q g.
      then_safe code AtEnd (read_safe code AtEnd calls to_end k.of p f) (λ v w.
      write_safe code AtEnd calls to_end k.of v q w (subst (λ t. PlaceOf code calls t q) r.target.of g)))))

  -- a line is put in force
  line_leaves : (line : ℕ) (store : Store) → StoreFits code calls store → Leaves AtEnd (StoreFits code calls) (λ _. Unit {0}) (set_line line store)
  line_leaves line store h =
      subst (λ (o : Option Frame). Leaves AtEnd (StoreFits code calls) (λ _. Unit {0}) (after (the o store) (λ _ s. Done (tt {0}) (record store { frames = changed store.frames (depth store) (λ (f : Frame). record f { line = line }) }))))
      (sym (top_is code c callers store h.frames)) (
        tt,
        record {
          globals = h.globals;
          frames = record {
            outer = h.frames.outer;
            frame = record h.frames.frame { line = line };
            are = ap (λ fs. changed fs (depth store) (λ (f : Frame). record f { line = line })) h.frames.are
                ∙ ap (λ n. changed (h.frames.outer ++ h.frames.frame ∷ []) n (λ (f : Frame). record f { line = line })) (depth_is code c callers store h.frames ∙ sym (frames_length code callers h.frames.outer h.frames.rest))
                ∙ more_changed_last h.frames.outer h.frames.frame (λ (f : Frame). record f { line = line });
            locals = h.frames.locals;
            rest = h.frames.rest;
          };
          inputs = h.inputs;
        },
      )

  -- an effect but Reset
  pub line_safe : (line : ℕ) → S (λ _. Unit {0}) (set_line line)
  line_safe line = record { from = line_leaves line }

  module _ (reset_safe : (a b : ℕ) → ResetRule c a b → S (λ _. Unit {0}) (reset code.classes a (take (b - a) (drop a c.locals)))) where
    pub effect_safe : (Rest : List Operand → Type 0) (e : Effect) (ks after : List OperandType) (ops : List Operand) → Changes code c e ks after → Left Rest ks ops → S (Left Rest after) (does_effect code c.locals e ops)
    effect_safe Rest (effect.Constant k) ks after ops r h =
        then_safe code AtEnd (the_safe code AtEnd {P = λ v. r.rule.value ≡ v} (slice_get code.constants k) r.rule.value r.rule.there refl) (λ v q.
        pushed Rest (ConstantRule code k) ks after ops r h
        (let s = subst (λ v. sort_of v ≡ Some r.rule.sort) q r.rule.is in
        sorted code AtEnd calls to_end r.kind r.rule.sort r.rule.of (literal_safe r.rule.sort v (out-Value v) s s)))
    effect_safe Rest (effect.Apply o) ks after ops r h =
        then_safe code AtEnd (taking_safe (λ xs rest. Pushes (Applies code c o xs) rest after) Rest (operands_of o) ks ops r h) (λ t s.
        pushed Rest (Applies code c o s.args) s.below after t.rest s.rule s.left (apply_safe o s.args t.it s.rule.kind s.rule.rule s.taken))
    effect_safe Rest effect.Write ks after ops r h =
        then_safe code AtEnd (taking_safe (λ xs rest. TwoKinds WriteRule xs × (after ≡ rest)) Rest 2 ks ops r h) (λ t s.
        kept Rest s.below after t.rest s.rule.1 s.left (writes_safe s.args t.it s.rule.0 s.taken))
    effect_safe Rest effect.Copy ks after ops r h =
        then_safe code AtEnd (taking_safe (λ xs rest. TwoKinds CopyRule xs × (after ≡ rest)) Rest 2 ks ops r h) (λ t s.
        kept Rest s.below after t.rest s.rule.1 s.left (copies_safe s.args t.it s.rule.0 s.taken))
    effect_safe Rest effect.Drop ks after ops r h =
        then_safe code AtEnd (taking_safe (λ xs rest. after ≡ rest) Rest 1 ks ops r h) (λ t s.
        give_safe code AtEnd t.rest (subst (λ ks. Left Rest ks t.rest) (sym s.rule) s.left))
    effect_safe Rest effect.Twice ks after ops r h =
        then_safe code AtEnd (taking_safe (λ xs rest. OneKind (λ x. after ≡ x ∷ ks) xs) Rest 1 ks ops r h) (λ t s.
        then_safe code AtEnd (one_safe code AtEnd calls to_end {Q = λ x. Left Rest after (x ∷ ops)} give s.args t.it s.rule s.taken
        (λ k x e g. give_safe code AtEnd x (subst (λ ks. Left Rest ks (x ∷ ops)) (sym e) (g, h))))
        (λ x g. give_safe code AtEnd (x ∷ ops) g))
    effect_safe Rest (effect.Line line) ks after ops r h = kept Rest ks after ops r h (line_safe line)
    effect_safe Rest (effect.Reset a b) ks after ops r h = kept Rest ks after ops r.1 h (reset_safe a b r.0)
