-- The code of a whole program.
use Rattle.std.proofs.Common.{◌≡◌, ℕ, zero, suc, is_some, Bool, true, List, [], ◌∷◌, length, Option, Some, None, refl, sym, ap, ◌∙◌, subst, arith}
use Rattle.std.specs.Prelude.{slice_get}
use Rattle.std.proofs.lemmas.Option.{slice_get_past}
use Rattle.mql_mean.specs.declared.value.Value.{Value}
use Rattle.mql_meaning.specs.Changes.{then_some}
use Rattle.mql_meaning.specs.declared.tree.Checked.{Checked}
use Rattle.mql_meaning.specs.declared.tree.Function.{Function}
use Rattle.mql_meaning.specs.declared.tree.Statement.{Statement}
use Rattle.stack_code.specs.declared.code.Code.{Code}
use Rattle.stack_code.specs.declared.code.FunctionCode.{FunctionCode}
use Rattle.stack_code.specs.Machine.{place_of, function_at, label_at, arguments_of, head_of}
use Rattle.stack_code.specs.Paced.{PacedFunction, Paced}
use Rattle.stack_follows.specs.Spans.{Listing}
use Rattle.stack_follows.specs.Stands.{CleanupAt, BodyAt, FunctionAt, Takes, listing, CodeOf, Coded, Stands, Exits}
use Rattle.stack_follows.proofs.PaceFunctions.{function_paced}
use Rattle.stack_emission.specs.declared.functions.Functions.{Functions}
use Rattle.stack_emission.specs.HasCode.{statement_has_code, body_has_code, bodies_have_code, has_code}
use Rattle.stack_emission.specs.Draft.{IsCalled}
use Rattle.stack_emission.specs.Lowers.{BuiltWhereItHasCode}
use Rattle.stack_emission.specs.Statements.{statements}
use Rattle.stack_emission.specs.Functions.{nowhere, outermost, whole_body, placed, listing_of, Written, EachWritten, AllWritten}
use Rattle.stack_emission.proofs.Kept.{Kept, seq_map, with_map}
use Rattle.stack_emission.proofs.Rows.{and_left, and_right}
use Rattle.stack_emission.proofs.FunctionEmits.{body_stays, placed_length}

-- a body by its list
body_stands : (fs : List Function) (here : Listing) (gives : Bool) (ss : List Statement) (exits : Exits) (a b : ℕ) → body_has_code fs ss ≡ true → statements gives ss exits fs here a b → BodyAt here CleanupAt gives ss exits a b
body_stands fs here gives [] exits a b h t = t
body_stands fs here gives (s ∷ ss) exits a b h t = seq_map a b (λ a b t. t (and_left (statement_has_code fs s) _ h)) (λ a b t. body_stands fs here gives ss exits a b (and_right (statement_has_code fs s) _ h) t) t

function_stands : (fs : List Function) (here : Listing) (f : Function) (a b : ℕ) → body_has_code fs f.body ≡ true → whole_body (is_some f.result) f.body fs here a b → FunctionAt here f nowhere a b
function_stands fs here f a b h t = with_map a b (λ return a b. seq_map a b (λ a b t. t) λ a b. seq_map a b (λ a b t. body_stands fs here (is_some f.result) f.body (outermost return) a b h t) (λ a b t. t)) t

-- the functions of a number, in the tree and in the code
abbrev PairAt : List Function → List Value → Option Function → Option FunctionCode → Type 0
PairAt fs constants None None = Unit {0}
PairAt fs constants (Some f) (Some c) = Written fs constants f c
PairAt fs constants _ _ = ⊥

pair_at : (fs : List Function) (constants : List Value) (gs : List Function) (cs : List FunctionCode) (k : ℕ) → EachWritten fs constants gs cs → PairAt fs constants (slice_get gs k) (slice_get cs k)
pair_at fs constants [] [] k h = tt
pair_at fs constants (g ∷ gs) (c ∷ cs) zero h = h.0
pair_at fs constants (g ∷ gs) (c ∷ cs) (suc k) h = pair_at fs constants gs cs k h.1
pair_at fs constants [] (c ∷ cs) k h = absurd h
pair_at fs constants (g ∷ gs) [] k h = absurd h

has_body : (fs gs : List Function) (k : ℕ) (f : Function) → bodies_have_code fs gs ≡ true → slice_get gs k ≡ Some f → body_has_code fs f.body ≡ true
has_body fs [] k f h e = absurd (subst (λ (o : Option Function). elim o as (λ _. Type 0) [ None ↦ Unit {0} | Some x ↦ ⊥ ]) e (tt {0}))
has_body fs (g ∷ gs) zero f h e = subst (λ (o : Option Function). elim o as (λ _. Type 0) [ None ↦ Unit {0} | Some x ↦ body_has_code fs x.body ≡ true ]) e (and_left (body_has_code fs g.body) _ h)
has_body fs (g ∷ gs) (suc k) f h e = has_body fs gs k f (and_right (body_has_code fs g.body) _ h) e

module _ (fs : List Function) (code : Code) (all : EachWritten fs code.constants fs code.functions) where
  is_taken : (k n : ℕ) (gives : Bool) → IsCalled fs k n gives → Takes code k n gives
  is_taken k n gives i = taken (slice_get fs k) (slice_get code.functions k) refl refl (pair_at fs code.constants fs code.functions k all)
    where
      written : (c : FunctionCode) → slice_get code.functions k ≡ Some c → Written fs code.constants i.function c → Takes code k n gives
      written c e w = record {
        function = c;
        is = e;
        takes = ap arguments_of w.finished ∙ i.takes;
        result = ap (λ (c : FunctionCode). is_some c.result) w.finished ∙ i.result;
      }

      taken : (o : Option Function) (q : Option FunctionCode) → slice_get fs k ≡ o → slice_get code.functions k ≡ q → PairAt fs code.constants o q → Takes code k n gives
      taken o None e d p = absurd (subst (λ o. PairAt fs code.constants o None) (sym e ∙ i.is) p)
      taken o (Some c) e d p = written c d (subst (λ o. PairAt fs code.constants o (Some c)) (sym e ∙ i.is) p)

  known : (k : ℕ) (c : FunctionCode) → slice_get code.functions k ≡ Some c → Kept (listing_of fs code.constants c) (listing code k)
  known k c e = record {
    instructions = λ place i h. ap (λ o. then_some o (λ (c : FunctionCode). slice_get c.instructions place)) e ∙ h;
    labels = λ l place h. ap (λ o. then_some o (λ (c : FunctionCode). then_some (slice_get c.labels l) place_of)) e ∙ h;
    constants = λ number v h. h;
    functions = is_taken;
  }

  leads_nowhere : (k : ℕ) (f : Function) (c : FunctionCode) → slice_get code.functions k ≡ Some c → Written fs code.constants f c → label_at code k nowhere ≡ None
  leads_nowhere k f c e w = ap (λ o. then_some o (λ (c : FunctionCode). then_some (slice_get c.labels nowhere) place_of)) e ∙ ap (λ (c : FunctionCode). then_some (slice_get c.labels nowhere) place_of) w.finished ∙ ap (λ o. then_some o place_of) (slice_get_past (placed w.labels) nowhere (let few = w.few in omega (arith, few, placed_length w.labels)))

  body_is : (k : ℕ) (f : Function) (c : FunctionCode) → slice_get code.functions k ≡ Some c → body_has_code fs f.body ≡ true → (w : Written fs code.constants f c) → FunctionAt (listing code k) f nowhere 0 (length w.instructions)
  body_is k f c e h w = function_stands fs (listing code k) f 0 (length w.instructions) h (body_stays (is_some f.result) f.body fs (listing_of fs code.constants c) (listing code k) (known k c e) 0 (length w.instructions) w.is)

  code_of : (k : ℕ) (f : Function) (c : FunctionCode) → slice_get code.functions k ≡ Some c → body_has_code fs f.body ≡ true → Written fs code.constants f c → CodeOf code k f c
  code_of k f c e h w = record {
    head = ap head_of w.finished;
    nowhere = nowhere;
    is_nowhere = leads_nowhere k f c e w;
    end = length w.instructions;
    is = body_is k f c e h w;
  }

  coded : (k : ℕ) → bodies_have_code fs fs ≡ true → Coded code k (slice_get fs k) (function_at code k)
  coded k h = of_pair (slice_get fs k) (slice_get code.functions k) refl refl (pair_at fs code.constants fs code.functions k all)
    where
      of_pair : (o : Option Function) (q : Option FunctionCode) → slice_get fs k ≡ o → slice_get code.functions k ≡ q → PairAt fs code.constants o q → Coded code k o q
      of_pair None None d e p = tt
      of_pair (Some f) (Some c) d e p = code_of k f c e (has_body fs fs k f h d) p
      of_pair None (Some c) d e p = absurd p
      of_pair (Some f) None d e p = absurd p

  paces : (k : ℕ) (c : FunctionCode) → bodies_have_code fs fs ≡ true → function_at code k ≡ Some c → PacedFunction c
  paces k c h e = of_function (slice_get fs k) refl (subst (λ q. PairAt fs code.constants (slice_get fs k) q) e (pair_at fs code.constants fs code.functions k all))
    where
      of_function : (o : Option Function) → slice_get fs k ≡ o → PairAt fs code.constants o (Some c) → PacedFunction c
      of_function None d w = absurd w
      of_function (Some f) d w = function_paced code k c e f nowhere (length w.instructions) (leads_nowhere k f c e w) (sym (ap (λ (c : FunctionCode). length c.instructions) w.finished)) (body_is k f c e (has_body fs fs k f h d) w)

stands : (p : Checked) (w : Functions) → AllWritten p.functions w → has_code p ≡ true → Stands p (record { constants = w.constants; classes = p.classes; globals = p.globals; inputs = p.inputs; functions = w.functions; entries = p.entries })
stands p w all h =
    let code : Code = record { constants = w.constants; classes = p.classes; globals = p.globals; inputs = p.inputs; functions = w.functions; entries = p.entries } in
    record { tables = refl; functions = λ k. coded p.functions code (all p.functions) k h }

paced : (p : Checked) (w : Functions) → AllWritten p.functions w → has_code p ≡ true → Paced (record { constants = w.constants; classes = p.classes; globals = p.globals; inputs = p.inputs; functions = w.functions; entries = p.entries })
paced p w all h =
    let code : Code = record { constants = w.constants; classes = p.classes; globals = p.globals; inputs = p.inputs; functions = w.functions; entries = p.entries } in
    record { functions = λ k c e. paces p.functions code (all p.functions) k c h e }

pub built : (p : Checked) (w : Functions) → AllWritten p.functions w → BuiltWhereItHasCode p (record { constants = w.constants; classes = p.classes; globals = p.globals; inputs = p.inputs; functions = w.functions; entries = p.entries })
built p w all h = (stands p w all h, paced p w all h)
