-- Variables and functions of items, one item after another.
use Rattle.std.proofs.Common.{◌≡◌, ◌+◌, ℕ, List, [], ◌∷◌, ◌++◌, length, Option, refl, sym, ap, ◌∙◌, arith, append-nil, append_assoc, length-append}
use Rattle.std.specs.List.{flat_map}
use Rattle.std.proofs.lemmas.Grind.{flat_map-append}
use Rattle.mql_meaning.specs.declared.tree.Input.{Input}
use Rattle.mql_syntax.specs.declared.declaration.Variable.{Variable}
use Rattle.mql_syntax.specs.declared.declaration.Function.{Function}
use Rattle.mql_syntax.specs.declared.declaration.Item.{Item}
use Rattle.mql_names.specs.declared.fault.Broken.{Broken}
use Rattle.mql_names.specs.Faults.{sooner, told, break_if}
use Rattle.mql_names.proofs.Faults.{told_append, sooner_assoc}
use Rattle.mql_scope.specs.Contexts.{Program}
use Rattle.mql_program.specs.Programs.{Given, variables_in, functions_in, defined_functions}
use Rattle.mql_check.specs.declared.globals.Beginning.{Beginning}
use Rattle.mql_check.specs.declared.bodies.Bodies.{Bodies}
use Rattle.mql_check.specs.Globals.{global_begun, global_of, nothing_begins, then_begins, globals_begin}
use Rattle.mql_check.specs.Functions.{body_told, body_of, no_bodies, then_bodies, bodies}
use Rattle.mql_check.specs.Made.{inputs_from, input_at}
use Rattle.mql_check.specs.Programs.{is_used, unmet_from}

-- what global variables begin with
pub begins_end : (a : Beginning) → then_begins a nothing_begins ≡ a
begins_end a = simp append-nil refl

begins_assoc : (a b c : Beginning) → then_begins a (then_begins b c) ≡ then_begins (then_begins a b) c
begins_assoc a b c = simp append_assoc refl

pub one_begins : (p : Program) (next n : ℕ) (v : Variable)
    → globals_begin p next n (v ∷ []) ≡ global_of p v (global_begun p next n v)
one_begins p next n v = begins_end (global_of p v (global_begun p next n v))

begins_at : (p : Program) (j k m n : ℕ) (vs : List Variable) → j ≡ k → m ≡ n
    → globals_begin p j m vs ≡ globals_begin p k n vs
begins_at p j k m n vs e f = ap (λ i. globals_begin p i m vs) e ∙ ap (λ i. globals_begin p k i vs) f

begins_append : (p : Program) (next n : ℕ) (vs ws : List Variable)
    → globals_begin p next n (vs ++ ws)
    ≡ then_begins (globals_begin p next n vs)
    (globals_begin p (next + length (globals_begin p next n vs).kept) (n + length vs) ws)
begins_append p next n [] ws =
    let e : next ≡ next + 0 = omega arith in
    let f : n ≡ n + 0 = omega arith in
    begins_at p next (next + 0) n (n + 0) ws e f
begins_append p next n (v ∷ vs) ws =
    let b = global_of p v (global_begun p next n v) in
    let c = globals_begin p (next + length b.kept) (n + 1) vs in
    let e : next + length b.kept + length c.kept ≡ next + length (b.kept ++ c.kept) = omega (arith, length-append b.kept c.kept) in
    let f : n + 1 + length vs ≡ n + length (v ∷ vs) = omega arith in
    ap (then_begins b) (begins_append p (next + length b.kept) (n + 1) vs ws)
    ∙ begins_assoc b c (globals_begin p (next + length b.kept + length c.kept) (n + 1 + length vs) ws)
    ∙ ap (then_begins (then_begins b c)) (begins_at p _ _ _ _ ws e f)

-- one item more
flat_more : {A B : Type 0} (f : A → List B) (xs : List A) (x : A) → flat_map f (xs ++ x ∷ []) ≡ flat_map f xs ++ f x
flat_more f xs x = flat_map-append f xs (x ∷ []) ∙ ap (λ ys. flat_map f xs ++ ys) (append-nil (f x))

pub begins_step : (p : Program) (xs : List Item) (i : Item) (all one new : Beginning) (next n : ℕ)
    → all ≡ globals_begin p 0 0 (flat_map variables_in xs)
    → next ≡ length all.kept
    → n ≡ length (flat_map variables_in xs)
    → one ≡ globals_begin p next n (variables_in i)
    → new ≡ then_begins all one
    → new ≡ globals_begin p 0 0 (flat_map variables_in (xs ++ i ∷ []))
begins_step p xs i all one new next n e f g h k =
    let a = globals_begin p 0 0 (flat_map variables_in xs) in
    let x : length a.kept ≡ 0 + length a.kept = omega arith in
    let y : length (flat_map variables_in xs) ≡ 0 + length (flat_map variables_in xs) = omega arith in
    let from : next ≡ 0 + length a.kept = f ∙ ap (λ (b : Beginning). length b.kept) e ∙ x in
    k
    ∙ ap (λ b. then_begins b one) e
    ∙ ap (then_begins a) (h ∙ begins_at p _ _ _ _ (variables_in i) from (g ∙ y))
    ∙ sym (begins_append p 0 0 (flat_map variables_in xs) (variables_in i))
    ∙ ap (globals_begin p 0 0) (sym (flat_more variables_in xs i))

pub locals_step : (all one new : Beginning) (next taken next1 : ℕ)
    → next ≡ length all.kept → taken ≡ length one.kept → next1 ≡ next + taken → new ≡ then_begins all one
    → next1 ≡ length new.kept
locals_step all one new next taken next1 e f g h =
    let k : length (all.kept ++ one.kept) ≡ length all.kept + length one.kept = length-append all.kept one.kept in
    let x : next1 ≡ length (all.kept ++ one.kept) = omega (arith, e, f, g, k) in
    x ∙ sym (ap (λ (b : Beginning). length b.kept) h)

pub numbers_step : (xs : List Item) (i : Item) (n more n1 : ℕ)
    → n ≡ length (flat_map variables_in xs) → more ≡ length (variables_in i) → n1 ≡ n + more
    → n1 ≡ length (flat_map variables_in (xs ++ i ∷ []))
numbers_step xs i n more n1 e f g =
    let k : length (flat_map variables_in xs ++ variables_in i) ≡ length (flat_map variables_in xs) + length (variables_in i) = length-append (flat_map variables_in xs) (variables_in i) in
    let x : n1 ≡ length (flat_map variables_in xs ++ variables_in i) = omega (arith, e, f, g, k) in
    x ∙ ap length (sym (flat_more variables_in xs i))

-- functions
pub bodies_end : (a : Bodies) → then_bodies a no_bodies ≡ a
bodies_end a = simp append-nil refl

bodies_assoc : (a b c : Bodies) → then_bodies a (then_bodies b c) ≡ then_bodies (then_bodies a b) c
bodies_assoc a b c = simp append_assoc refl

pub one_body : (p : Program) (statics : ℕ) (f : Function)
    → bodies p statics (f ∷ []) ≡ body_of p f (body_told p statics f)
one_body p statics f = bodies_end (body_of p f (body_told p statics f))

bodies_append : (p : Program) (n : ℕ) (fs gs : List Function)
    → bodies p n (fs ++ gs) ≡ then_bodies (bodies p n fs) (bodies p (n + length (bodies p n fs).statics) gs)
bodies_append p n [] gs =
    let e : n ≡ n + 0 = omega arith in
    ap (λ i. bodies p i gs) e
bodies_append p n (f ∷ fs) gs =
    let b = body_of p f (body_told p n f) in
    let c = bodies p (n + length b.statics) fs in
    let e : n + length b.statics + length c.statics ≡ n + length (b.statics ++ c.statics) = omega (arith, length-append b.statics c.statics) in
    ap (then_bodies b) (bodies_append p (n + length b.statics) fs gs)
    ∙ bodies_assoc b c (bodies p (n + length b.statics + length c.statics) gs)
    ∙ ap (λ i. then_bodies (then_bodies b c) (bodies p i gs)) e

pub bodies_step : (p : Program) (first : ℕ) (xs : List Item) (i : Item) (all one new : Bodies) (n : ℕ)
    → all ≡ bodies p first (defined_functions xs)
    → n ≡ first + length all.statics
    → one ≡ bodies p n (functions_in i)
    → new ≡ then_bodies all one
    → new ≡ bodies p first (defined_functions (xs ++ i ∷ []))
bodies_step p first xs i all one new n e f g h =
    let a = bodies p first (defined_functions xs) in
    let from : n ≡ first + length a.statics = f ∙ ap (λ (b : Bodies). first + length b.statics) e in
    h
    ∙ ap (λ b. then_bodies b one) e
    ∙ ap (then_bodies a) (g ∙ ap (λ k. bodies p k (functions_in i)) from)
    ∙ sym (bodies_append p first (defined_functions xs) (functions_in i))
    ∙ ap (bodies p first) (sym (flat_more functions_in xs i))

pub statics_step : (first : ℕ) (all one new : Bodies) (n taken n1 : ℕ)
    → n ≡ first + length all.statics → taken ≡ length one.statics → n1 ≡ n + taken → new ≡ then_bodies all one
    → n1 ≡ first + length new.statics
statics_step first all one new n taken n1 e f g h =
    let k : length (all.statics ++ one.statics) ≡ length all.statics + length one.statics = length-append all.statics one.statics in
    let x : n1 ≡ first + length (all.statics ++ one.statics) = omega (arith, e, f, g, k) in
    x ∙ sym (ap (λ (b : Bodies). first + length b.statics) h)

-- inputs
inputs_append : (g : Given) (p : Program) (n : ℕ) (vs ws : List Variable)
    → inputs_from g p n (vs ++ ws) ≡ inputs_from g p n vs ++ inputs_from g p (n + length vs) ws
inputs_append g p n [] ws =
    let e : n ≡ n + 0 = omega arith in
    ap (λ i. inputs_from g p i ws) e
inputs_append g p n (v ∷ vs) ws =
    let f : n + 1 + length vs ≡ n + length (v ∷ vs) = omega arith in
    ap (λ r. input_at g p n v ++ r) (inputs_append g p (n + 1) vs ws)
    ∙ ap (λ i. input_at g p n v ++ (inputs_from g p (n + 1) vs ++ inputs_from g p i ws)) f
    ∙ sym (append_assoc (input_at g p n v) (inputs_from g p (n + 1) vs) (inputs_from g p (n + length (v ∷ vs)) ws))

pub inputs_step : (g : Given) (p : Program) (xs : List Item) (i : Item) (all one new : List Input) (n : ℕ)
    → all ≡ inputs_from g p 0 (flat_map variables_in xs)
    → n ≡ length (flat_map variables_in xs)
    → one ≡ inputs_from g p n (variables_in i)
    → new ≡ all ++ one
    → new ≡ inputs_from g p 0 (flat_map variables_in (xs ++ i ∷ []))
inputs_step g p xs i all one new n e f h k =
    let y : length (flat_map variables_in xs) ≡ 0 + length (flat_map variables_in xs) = omega arith in
    k
    ∙ ap (λ b. b ++ one) e
    ∙ ap (λ b. inputs_from g p 0 (flat_map variables_in xs) ++ b) (h ∙ ap (λ m. inputs_from g p m (variables_in i)) (f ∙ y))
    ∙ sym (inputs_append g p 0 (flat_map variables_in xs) (variables_in i))
    ∙ ap (inputs_from g p 0) (sym (flat_more variables_in xs i))

-- functions without a body
pub unmet_more : (used : List ℕ) (n : ℕ) (f : Function) (fs : List Function) (all one : Option Broken)
    → one ≡ told (break_if (is_used used n f) 9 f.place)
    → sooner (sooner all one) (told (unmet_from used (n + 1) fs)) ≡ sooner all (told (unmet_from used n (f ∷ fs)))
unmet_more used n f fs all one e =
    sooner_assoc all one (told (unmet_from used (n + 1) fs))
    ∙ ap (λ o. sooner all (sooner o (told (unmet_from used (n + 1) fs)))) e
    ∙ ap (sooner all) (sym (told_append (break_if (is_used used n f) 9 f.place) (unmet_from used (n + 1) fs)))
