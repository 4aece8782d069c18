-- The field of a name, of a structure whose fields have different names.
use Rattle.std.proofs.Common.{◌≡◌, ℕ, zero, suc, Bool, true, false, cond, not, ◌&&◌, List, [], ◌∷◌, Option, Some, None, is_some, slice_get, refl, ap, ◌∙◌, sym, ◌↔◌, bytes_eq}
use Rattle.std.proofs.lemmas.Slice.Eq.{bytes_eq-Decides}
use Rattle.natives.specs.declared.types.SimpleType.{SimpleType}
use Rattle.natives.specs.declared.types.Structure.{Structure}
use Rattle.natives.specs.declared.types.Structure.TheVariants as structures
use Rattle.natives.specs.declared.field.Field.{Field}
use Rattle.natives.specs.Structures.{field_spelling, fields_of, field_kind, HasField}

told : (fs : List Field) (us : List ℕ) (k : SimpleType) → field_kind fs us ≡ Some k → HasField fs us k
told [] us k h = absurd (let q : ◌≡◌ {A = Option SimpleType} None (Some k) = h in cc)
told (f ∷ fs) us k h =
    (elim (bytes_eq us (field_spelling f.name)) as (λ (v : Bool). bytes_eq us (field_spelling f.name) ≡ v → cond v (Some f.kind) (field_kind fs us) ≡ Some k → HasField (f ∷ fs) us k) [
      | true ↦ λ e g. record { place = 0; field = f; there = refl; spelled = (bytes_eq-Decides us (field_spelling f.name)).0 e; typed = (let q : f.kind ≡ k = cc in q) }
      | false ↦ λ e g. let r = told fs us k g in record { place = suc r.place; field = r.field; there = r.there; spelled = r.spelled; typed = r.typed }
    ]) refl h

-- the names of some fields differ
abbrev differ : List Field → Bool
differ [] = true
differ (f ∷ fs) = not (is_some (field_kind fs (field_spelling f.name))) && differ fs

alone : (structure : Structure) → differ (fields_of structure) ≡ true
unfolding fields_of field_spelling
alone structures.MqlTradeRequest = refl
alone structures.MqlTradeResult = refl
alone structures.MqlTick = refl
alone structures.MqlRates = refl
alone structures.MqlDateTime = refl

and_both : (a b : Bool) → (a && b) ≡ true → (a ≡ true) × (b ≡ true)
and_both true b h = (refl, h)
and_both false b h = absurd (let q : false ≡ true = h in cc)

tells : (fs : List Field) (p : ℕ) (f : Field) (us : List ℕ) → differ fs ≡ true → slice_get fs p ≡ Some f → us ≡ field_spelling f.name → field_kind fs us ≡ Some f.kind
tells [] p f us d h e = absurd (let q : ◌≡◌ {A = Option Field} None (Some f) = h in cc)
tells (g ∷ fs) zero f us d h e =
    let same : g ≡ f = cc in
    let is = (bytes_eq-Decides us (field_spelling g.name)).1 (e ∙ ap (λ (x : Field). field_spelling x.name) (sym same)) in
    ap (λ (b : Bool). cond b (Some g.kind) (field_kind fs us)) is ∙ ap (λ (x : Field). Some x.kind) same
tells (g ∷ fs) (suc p) f us d h e =
    let two = and_both (not (is_some (field_kind fs (field_spelling g.name)))) (differ fs) d in
    let r = tells fs p f us two.1 h e in
    (elim (bytes_eq us (field_spelling g.name)) as (λ (v : Bool). bytes_eq us (field_spelling g.name) ≡ v → cond v (Some g.kind) (field_kind fs us) ≡ Some f.kind) [
      | true ↦ λ b.
          let x : field_kind fs (field_spelling g.name) ≡ Some f.kind = ap (field_kind fs) (sym ((bytes_eq-Decides us (field_spelling g.name)).0 b)) ∙ r in
          let y : false ≡ true = ap (λ (o : Option SimpleType). not (is_some o)) (sym x) ∙ two.0 in absurd (let q : false ≡ true = y in cc)
      | false ↦ λ b. r
    ]) refl

-- a structure's field of a name has a type exactly where one of its fields has this name and this type
pub by_field : (s : Structure) (us : List ℕ) (k : SimpleType) → (field_kind (fields_of s) us ≡ Some k) ↔ HasField (fields_of s) us k
by_field s us k = (told (fields_of s) us k, λ r. tells (fields_of s) r.place r.field us (alone s) r.there r.spelled ∙ ap Some r.typed)
