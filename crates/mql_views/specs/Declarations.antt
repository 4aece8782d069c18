-- The named parts of declarations (MQL5 Reference, Variables, Functions, Enumerations, Structures, Classes
-- and Interfaces).
use Rattle.std.specs.Prelude.{ℕ, Bool, true, false, ◌&&◌, List, [], ◌∷◌, ◌++◌, Option, Some, None, take, drop, option_map, if◌then◌else◌, is_some}
use Rattle.mql_forms.specs.declared.form.Form.{Form}
use Rattle.mql_forms.specs.declared.form.Form.TheVariants as form
use Rattle.mql_grammar.specs.Expressions.{names}
use Rattle.mql_grammar.specs.declared.token_class.Class.{Class}
use Rattle.mql_grammar.specs.declared.token_class.Class.TheVariants as class
use Rattle.mql_views.specs.Parts.{Part}
use Rattle.mql_views.specs.Cuts.{on, is, run, until, split, must, next, last, sign, ended, may, may_be, up_to, all_to, piece_end}
use Rattle.mql_views.specs.Values.{stars}

-- the words of a function, and those of variables
abbrev pub function_words : List Class
function_words = class.Virtual ∷ class.Static ∷ class.Const ∷ []

abbrev pub store_words : List Class
store_words = class.Input ∷ class.StaticInput ∷ class.Static ∷ class.Const ∷ []

abbrev pub local_words : List Class
local_words = class.Static ∷ class.Const ∷ []

-- a type: its name, or a template with its arguments
abbrev pub type_words : List Class
type_words = class.TypeName ∷ class.SimpleType ∷ class.Void ∷ []

abbrev pub type_forms : List Form
type_forms = form.GenericType ∷ []

abbrev pub references : List Class
references = class.Ampersand ∷ class.Reference ∷ []

-- type ["*"]
pub record Typed : Type 0 where
  pub type : Part
  pub pointer : Bool

-- [type ["*"]] before a name: there is one where behind it stands no `::` and no `(`
unfoldable pub is_typed : List Part → Bool
is_typed [] = false
is_typed (t ∷ []) = false
is_typed (t ∷ s ∷ xs) = is type_words type_forms t && is (class.Tilde ∷ stars ++ names) [] s

unfoldable pub typed_front : List Part → Option Typed × List Part
typed_front [] = (None, [])
typed_front (t ∷ xs) = let s = may stars xs in (Some (record { type = t; pointer = s.0 }), s.1)

unfoldable pub typed : List Part → Option Typed × List Part
typed xs = if is_typed xs then typed_front xs else (None, xs)

-- type ["*"], among the arguments of a template: all of these parts
unfoldable pub type_argument : List Part → Option Typed
type_argument xs =
    on (must type_words type_forms xs) (λ t.
    let p = may stars t.1 in
    ended (record { type = t.0; pointer = p.0 }) p.1)

-- [NAME "::"]
unfoldable pub scoped : List Part → Option Part × List Part
scoped [] = (None, [])
scoped (n ∷ []) = (None, n ∷ [])
scoped (n ∷ d ∷ xs) = if is (class.DoubleColon ∷ []) [] d then (Some n, xs) else (None, n ∷ d ∷ xs)

-- ["=" expr], to the end
unfoldable pub preset_of : List Part → Option (Option Part)
preset_of [] = Some None
preset_of (e ∷ xs) = on (sign (class.Assign ∷ []) (e ∷ xs)) (λ ys. option_map (λ v. Some v) (last ys))

-- param = ["const"] type ["*"] ["&"] NAME {"[" [expr] "]"} ["=" expr]
pub record Param : Type 0 where
  pub constant : Bool
  pub typed : Typed
  pub reference : Bool
  pub name : Part
  pub dimensions : List Part
  pub preset : Option Part

-- behind the name: the dimensions with their brackets, and the default
unfoldable pub param_end : Bool → Typed → Bool → Part → List Part → Option Param
param_end c t r n xs =
    let k = until (class.Assign ∷ []) [] xs in
    option_map (λ e. record {
      constant = c;
      typed = t;
      reference = r;
      name = n;
      dimensions = take k xs;
      preset = e;
    })
    (preset_of (drop k xs))

unfoldable pub param_typed : Bool → Part → List Part → Option Param
param_typed c t xs =
    let p = may stars xs in
    let r = may references p.1 in
    on (must names [] r.1) (λ n. param_end c (record { type = t; pointer = p.0 }) r.0 n.0 n.1)

-- a parameter: all of these parts
unfoldable pub param : List Part → Option Param
param xs =
    let c = may (class.Const ∷ []) xs in
    on (must type_words type_forms c.1) (λ t. param_typed c.0 t.0 t.1)

unfoldable pub is_param : List Part → Bool
is_param xs = is_some (param xs)

-- each piece between commas is a parameter; there are at most as many pieces as parts in the first list
unfoldable pub are_params : List Part → List Part → Bool
are_params [] xs = false
are_params (z ∷ zs) xs =
    let k = piece_end false xs in
    if is_param (take k xs) then elim (drop k xs) [ [] ↦ true | c ∷ ys ↦ are_params zs ys ] else false

-- params = ["void" | param {"," param}]
unfoldable pub params_stand : List Part → Bool
params_stand [] = true
params_stand (v ∷ []) = is (class.Void ∷ []) [] v
params_stand (v ∷ w ∷ xs) = are_params (v ∷ w ∷ xs) (v ∷ w ∷ xs)

-- what a function has behind its head: a block, nothing, or `= 0`
pub data Body : Type 0 where
  Block : Part → Body
  Declared : Body
  Pure : Body

-- func = {"virtual" | "static" | "const"} [type ["*"]] [NAME "::"] ["~"] NAME
-- "(" params ")" [":" base {"," base}] ["override"] (block | ";" | "=" "0" ";")
pub record Function : Type 0 where
  pub words : List Part
  pub result : Option Typed
  pub scope : Option Part
  pub destructor : Bool
  pub name : Part
  pub params : List Part
  pub bases : List Part
  pub overrides : Bool
  pub body : Body

-- what stands before the parentheses of a function
pub record Title : Type 0 where
  pub words : List Part
  pub result : Option Typed
  pub scope : Option Part
  pub destructor : Bool
  pub name : Part

-- [":" base {"," base}]: up to what stands behind them
unfoldable pub bases_cut : List Part → List Part × List Part
bases_cut [] = ([], [])
bases_cut (c ∷ xs) =
    if is (class.Colon ∷ []) [] c
    then split (until (class.Override ∷ class.Semicolon ∷ class.Assign ∷ []) (form.Block ∷ []) xs) xs
    else ([], c ∷ xs)

-- block | ";" | "=" "0" ";"
unfoldable pub lone_body : Part → Option Body
lone_body b =
    if is [] (form.Block ∷ []) b then Some (Block b)
    else if is (class.Semicolon ∷ []) [] b then Some Declared
    else None

unfoldable pub body_of : List Part → Option Body
body_of [] = None
body_of (b ∷ []) = lone_body b
body_of (e ∷ z ∷ xs) =
    on (sign (class.Assign ∷ []) (e ∷ z ∷ xs)) (λ ys. on (sign (class.Zero ∷ []) ys) (λ zs.
    on (sign (class.Semicolon ∷ []) zs) (ended Pure)))

unfoldable pub function_end : Title → List Part → List Part → Option Function
function_end t ps xs =
    let b = bases_cut xs in
    let o = may (class.Override ∷ []) b.1 in
    option_map (λ body. record {
      words = t.words;
      result = t.result;
      scope = t.scope;
      destructor = t.destructor;
      name = t.name;
      params = ps;
      bases = b.0;
      overrides = o.0;
      body = body;
    }) (body_of o.1)

unfoldable pub function_params : Title → List Part → Option Function
function_params t xs =
    on (up_to class.CloseParen xs) (λ p. if params_stand p.0 then function_end t p.0 p.1 else None)

unfoldable pub function_named : List Part → Option Typed → Option Part → Bool → List Part → Option Function
function_named ws t s d xs =
    on (must names [] xs) (λ n. on (sign (class.OpenParen ∷ []) n.1)
    (function_params (record { words = ws; result = t; scope = s; destructor = d; name = n.0 })))

unfoldable pub function_typed : List Part → Option Typed → List Part → Option Function
function_typed ws t xs =
    let s = scoped xs in
    let d = may (class.Tilde ∷ []) s.1 in
    function_named ws t s.0 d.0 d.1

unfoldable pub function_worded : List Part → List Part → Option Function
function_worded ws xs = let t = typed xs in function_typed ws t.0 t.1

-- a function: all of these parts
unfoldable pub function : List Part → Option Function
function xs = let w = run function_words xs in function_worded (take w xs) (drop w xs)

-- what a variable begins with: nothing, a value, or the arguments of a constructor with their commas
pub data Start : Type 0 where
  Zero : Start
  Value : Part → Start
  Arguments : List Part → Start

-- ["=" init | "(" [args] ")"], to the end
unfoldable pub start_of : List Part → Option Start
start_of [] = Some Zero
start_of (e ∷ xs) =
    if is (class.Assign ∷ []) [] e then option_map Value (last xs)
    else on (sign (class.OpenParen ∷ []) (e ∷ xs)) (λ ys. option_map Arguments (all_to class.CloseParen ys))

-- var = ["*"] [NAME "::"] NAME {"[" [expr] "]"} ["=" init | "(" [args] ")"]
pub record Variable : Type 0 where
  pub pointer : Bool
  pub scope : Option Part
  pub name : Part
  pub dimensions : List Part
  pub start : Start

unfoldable pub variable_end : Bool → Option Part → Part → List Part → Option Variable
variable_end p s n xs =
    let k = until (class.Assign ∷ class.OpenParen ∷ []) [] xs in
    option_map (λ e. record { pointer = p; scope = s; name = n; dimensions = take k xs; start = e })
    (start_of (drop k xs))

-- a variable: all of these parts
unfoldable pub variable : List Part → Option Variable
variable xs =
    let p = may stars xs in
    let s = scoped p.1 in
    on (must names [] s.1) (λ n. variable_end p.0 s.0 n.0 n.1)

-- variables of a type, with the words before it, and with their commas
pub record Variables : Type 0 where
  pub words : List Part
  pub type : Part
  pub items : List Part

-- {word} type var {"," var}, to the end
unfoldable pub variables_typed : List Part → List Part → Option Variables
variables_typed ws xs =
    on (must type_words type_forms xs) (λ t. Some (record { words = ws; type = t.0; items = t.1 }))

unfoldable pub variables : List Class → List Part → Option Variables
variables words xs = let w = run words xs in variables_typed (take w xs) (drop w xs)

-- NAME ["=" expr]
pub record Enumerator : Type 0 where
  pub name : Part
  pub value : Option Part

unfoldable pub enumerator : List Part → Option Enumerator
enumerator xs =
    on (must names [] xs) (λ n. option_map (λ e. record { name = n.0; value = e }) (preset_of n.1))

-- enum = "enum" NAME "{" NAME ["=" expr] {"," NAME ["=" expr]} [","] "}" ";"
pub record Enumeration : Type 0 where
  pub name : Part
  pub values : List Part

-- what stands in braces with a `;` behind them
unfoldable pub braced : List Part → Option (List Part)
braced xs =
    on (sign (class.OpenBrace ∷ []) xs) (λ ys. on (up_to class.CloseBrace ys) (λ p.
    on (sign (class.Semicolon ∷ []) p.1) (ended p.0)))

unfoldable pub enumeration : List Part → Option Enumeration
enumeration xs =
    on (sign (class.Enum ∷ []) xs) (λ ys. on (must names [] ys) (λ n.
    option_map (λ vs. record { name = n.0; values = vs }) (braced n.1)))

-- [access] NAME [targs]
pub record Parent : Type 0 where
  pub access : Option Part
  pub type : Part

-- class = kind NAME ";" | kind NAME [":" [access] NAME [targs]] "{" {member} "}" ";"
pub record Class' : Type 0 where
  pub kind : Part
  pub name : Part
  pub parent : Option Parent
  pub members : Option (List Part)

unfoldable pub parent_behind : Option Part × List Part → Option (Option Parent × List Part)
parent_behind a =
    option_map (λ t. (Some (record { access = a.0; type = t.0 }), t.1))
    (must names (form.GenericType ∷ form.GenericFunction ∷ []) a.1)

unfoldable pub parent_cut : List Part → Option (Option Parent × List Part)
parent_cut [] = Some (None, [])
parent_cut (c ∷ xs) =
    if is (class.Colon ∷ []) [] c then parent_behind (may_be (class.Access ∷ []) xs)
    else Some (None, c ∷ xs)

unfoldable pub class_end : Part → Part → List Part → Option Class'
class_end k n xs =
    on (parent_cut xs) (λ p.
    option_map (λ ms. record { kind = k; name = n; parent = p.0; members = Some ms }) (braced p.1))

unfoldable pub class_behind : Part → Part → List Part → Option Class'
class_behind k n [] = None
class_behind k n (x ∷ xs) =
    if is (class.Semicolon ∷ []) [] x then Some (record { kind = k; name = n; parent = None; members = None })
    else class_end k n (x ∷ xs)

unfoldable pub class_of : List Part → Option Class'
class_of xs = on (must (class.Kind ∷ []) [] xs) (λ k. on (must names [] k.1) (λ n. class_behind k.0 n.0 n.1))
