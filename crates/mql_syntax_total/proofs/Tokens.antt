-- Which tokens have which classes.
use Rattle.std.proofs.Common.{◌≡◌, ℕ, zero, suc, ◌==◌, Bool, true, false, ◌&&◌, List, [], ◌∷◌, Option, Some, None, refl, sym, ap, subst, ◌∙◌, if◌then◌else◌, not, is_some}
use Rattle.std.specs.Prelude.{get_or, slice_get, unwrap_or}
use Rattle.std.proofs.lemmas.Bool.{eqb-true}
use Rattle.fx8.specs.declared.int_kind.IntKind.{IntKind}
use Rattle.fx8.specs.declared.int_kind.IntKind.TheVariants as kind
use Rattle.mql_spelling.specs.ReservedWords.{reserved_word}
use Rattle.mql_spelling.specs.declared.reserved.ReservedWord.{ReservedWord}
use Rattle.mql_spelling.specs.declared.reserved.ReservedWord.TheVariants as words
use Rattle.mql_spelling.specs.declared.sign.Sign.{Sign}
use Rattle.mql_spelling.specs.declared.sign.Sign.TheVariants as signs
use Rattle.mql_tree.specs.TokenSorts.{name_of}
use Rattle.mql_tree.specs.declared.token.Span.{Span}
use Rattle.mql_tree.specs.declared.token.Token.{Token}
use Rattle.mql_tree.specs.declared.token.Token.TheVariants as token
use Rattle.mql_grammar.specs.Numbers.{class_number}
use Rattle.mql_grammar.specs.Table.{listed, both}
use Rattle.mql_grammar.specs.declared.token_class.Class.{Class}
use Rattle.mql_grammar.specs.declared.token_class.Class.TheVariants as class
use Rattle.mql_parse.specs.Classes.{Context, is_type, is_group, is_typename, plain_name_class, behind_dot, name_class, opens_arguments, is_generic, less_class, is_pointer, is_reference, around, int_class, token_class, after, classes_from}
use Rattle.mql_parse.specs.Spots.{same}
use Rattle.mql_parse.specs.Words.{class_of_word, class_of_name, word_class, is_supplied, sign_class}
use Rattle.mql_views.proofs.Stands.{apart, away, within, inside, both_two}
use Rattle.mql_syntax.specs.Leaves.{sign_of}
use Rattle.mql_syntax_read.specs.Classes.{access_of, kind_of}
use Rattle.mql_syntax_read.specs.Items.{text_of}
use Rattle.mql_syntax.specs.Values.{binary_of, assignment_of, unary_of, step_of, word_value, token_value}
use Rattle.mql_syntax_total.proofs.Gives.{false_true, Has, and_false}

abbrev pub Is : {A : Type 0} → Option A → Type 0
Is o = Has (λ x. Unit {0}) o

some_is : {A : Type 0} (o : Option A) → is_some o ≡ true → Is o
some_is None h = false_true h
some_is (Some x) h = tt

-- the token at a place, whose class is not that of the end mark
pub token_there : (x : Context) (ts : List (Token × Span)) (k : ℕ) → (listed (class_number (get_or (classes_from x ts) k class.EndMark)) (69 ∷ []) ≡ false)
    → (t : Token × Span) × (y : Context) × (rest : List (Token × Span)) × (slice_get ts k ≡ Some t) × (get_or (classes_from x ts) k class.EndMark ≡ token_class y t.0 rest)
unfolding class_number
token_there x [] k h = false_true (sym h)
token_there x (t ∷ ts) zero h = (t, x, ts, refl, refl)
token_there x (t ∷ ts) (suc k) h = token_there (after x t.0 (token_class x t.0 ts)) ts k h

-- the classes that a sign has only by what stands around it, and those of words and names
abbrev pub odd : List ℕ
odd = 35 ∷ 51 ∷ 55 ∷ 56 ∷ 61 ∷ []

abbrev pub low : List ℕ
low = 0 ∷ 1 ∷ 2 ∷ 3 ∷ 4 ∷ 5 ∷ 6 ∷ 7 ∷ 8 ∷ 9 ∷ 10 ∷ 11 ∷ 12 ∷ 13 ∷ 14 ∷ 15 ∷ 16 ∷ 17 ∷ 18 ∷ 19 ∷ 20 ∷ 21 ∷ 22 ∷ 23 ∷ 24 ∷ 25 ∷ 26 ∷ 27 ∷ 28 ∷ 29 ∷ 30 ∷ 31 ∷ 32 ∷ 33 ∷ 70 ∷ []

-- the classes that a name or a word may have
abbrev pub named : List ℕ
named = 0 ∷ 1 ∷ 2 ∷ 3 ∷ 4 ∷ 7 ∷ 8 ∷ 9 ∷ 10 ∷ 11 ∷ 12 ∷ 13 ∷ 14 ∷ 15 ∷ 16 ∷ 17 ∷ 18 ∷ 19 ∷ 20 ∷ 21 ∷ 22 ∷ 23 ∷ 24 ∷ 25 ∷ 26 ∷ 27 ∷ 28 ∷ 29 ∷ 30 ∷ 31 ∷ 32 ∷ 33 ∷ 70 ∷ []

abbrev pub values : List ℕ
values = 0 ∷ 1 ∷ 4 ∷ 5 ∷ 6 ∷ 8 ∷ []

same_listed : (c d : Class) (cs : List ℕ) → same c d ≡ true → listed (class_number d) cs ≡ true → listed (class_number c) cs ≡ true
same_listed c d cs e h = subst (λ n. listed n cs ≡ true) (sym (eqb-true (class_number c) (class_number d) e)) h

-- what is in two lists that share nothing
apart_both : {B : Type 0} (n : ℕ) (xs ys : List ℕ) → apart xs ys ≡ true → listed n xs ≡ true → listed n ys ≡ true → B
apart_both n xs ys h i j = false_true (sym (away n xs ys h i) ∙ j)

less_was : (x : Context) (rest : List (Token × Span)) (cs : List ℕ) → apart cs odd ≡ true → listed (class_number (less_class x rest)) cs ≡ true → listed (class_number class.Less) cs ≡ true
unfolding class_number
less_was x rest cs ap h = outer (opens_arguments x rest) (is_generic x.spot class.TypeName) (is_generic x.spot class.Name) h
  where
    outer : (a b c : Bool) → listed (class_number (if a then (if b then class.TypeLess else if c then class.FunctionLess else class.Less) else class.Less)) cs ≡ true → listed (class_number class.Less) cs ≡ true
    outer true true c h = apart_both 55 cs odd ap h refl
    outer true false true h = apart_both 56 cs odd ap h refl
    outer true false false h = h
    outer false b c h = h

around_was : (x : Context) (rest : List (Token × Span)) (c : Class) (cs : List ℕ) → apart cs odd ≡ true → listed (class_number (around x rest c)) cs ≡ true → listed (class_number c) cs ≡ true
unfolding around class_number
around_was x rest c cs ap h = go (same c class.Less) (same c class.OpenParen) (same c class.Star) (same c class.Ampersand) (same x.spot.before class.SimpleType) (is_pointer x.spot rest) (is_reference x.spot rest) refl refl refl refl h
  where
    go : (l o s m : Bool) (p q r : Bool) → same c class.Less ≡ l → same c class.OpenParen ≡ o → same c class.Star ≡ s → same c class.Ampersand ≡ m
        → listed (class_number (if l then less_class x rest else if o then (if p then class.ConversionParen else class.OpenParen) else if s then (if q then class.PointerStar else class.Star) else if m then (if r then class.Reference else class.Ampersand) else c)) cs ≡ true
        → listed (class_number c) cs ≡ true
    go true o s m p q r e f g i h = same_listed c class.Less cs e (less_was x rest cs ap h)
    go false true s m true q r e f g i h = apart_both 35 cs odd ap h refl
    go false true s m false q r e f g i h = same_listed c class.OpenParen cs f h
    go false false true m p true r e f g i h = apart_both 51 cs odd ap h refl
    go false false true m p false r e f g i h = same_listed c class.Star cs g h
    go false false false true p q true e f g i h = apart_both 61 cs odd ap h refl
    go false false false true p q false e f g i h = same_listed c class.Ampersand cs i h
    go false false false false p q r e f g i h = h

-- numbers and words
zero_or : (b : Bool) → listed (class_number (if b then class.Zero else class.Literal)) (4 ∷ 5 ∷ []) ≡ true
unfolding class_number
zero_or true = refl
zero_or false = refl

int_among : (v : ℕ) (k : IntKind) → listed (class_number (int_class v k)) (4 ∷ 5 ∷ []) ≡ true
unfolding class_number
int_among v kind.Bool = refl
int_among v kind.Char = refl
int_among v kind.Uchar = refl
int_among v kind.Short = refl
int_among v kind.Ushort = refl
int_among v kind.Int = zero_or (v == 0)
int_among v kind.Uint = refl
int_among v kind.Long = refl
int_among v kind.Ulong = refl
int_among v kind.Datetime = refl
int_among v kind.Color = refl

-- what holds of each word and of each sign, by one look at each
abbrev implies : Bool → Bool → Bool
implies true b = b
implies false b = true

implied : (a b : Bool) → implies a b ≡ true → a ≡ true → b ≡ true
implied true b h e = h
implied false b h e = false_true e

abbrev all_so : List Bool → Bool
all_so [] = true
all_so (b ∷ bs) = both b (λ _. all_so bs)

-- the fact at a place
at_place : (k : ℕ) (bs : List Bool) → all_so bs ≡ true → get_or bs k true ≡ true
at_place k [] h = refl
at_place zero (b ∷ bs) h = (both_two b (all_so bs) h).0
at_place (suc k) (b ∷ bs) h = at_place k bs (both_two b (all_so bs) h).1

abbrev word_facts : List ℕ → ReservedWord → List Bool
word_facts name w =
    let c = class_number (class_of_word w) in
    listed c named
    ∷ not (same (class_of_word w) class.TypeName)
    ∷ implies (listed c values) (is_some (word_value name (Some w)))
    ∷ implies (listed c (16 ∷ [])) (is_some (kind_of w))
    ∷ implies (listed c (17 ∷ [])) (is_some (access_of w)) ∷ []

words_checked : (name : List ℕ) (w : ReservedWord) → all_so (word_facts name w) ≡ true
unfolding class_of_word class_number word_value kind_of access_of
words_checked name words.Bool = refl
words_checked name words.Char = refl
words_checked name words.Uchar = refl
words_checked name words.Short = refl
words_checked name words.Ushort = refl
words_checked name words.Int = refl
words_checked name words.Uint = refl
words_checked name words.Long = refl
words_checked name words.Ulong = refl
words_checked name words.Datetime = refl
words_checked name words.Color = refl
words_checked name words.Double = refl
words_checked name words.String = refl
words_checked name words.Void = refl
words_checked name words.True = refl
words_checked name words.False = refl
words_checked name words.Null = refl
words_checked name words.This = refl
words_checked name words.Input = refl
words_checked name words.StaticInput = refl
words_checked name words.Static = refl
words_checked name words.Const = refl
words_checked name words.Template = refl
words_checked name words.Enum = refl
words_checked name words.Class = refl
words_checked name words.Struct = refl
words_checked name words.Interface = refl
words_checked name words.Public = refl
words_checked name words.Protected = refl
words_checked name words.Private = refl
words_checked name words.Virtual = refl
words_checked name words.Override = refl
words_checked name words.If = refl
words_checked name words.Else = refl
words_checked name words.While = refl
words_checked name words.Do = refl
words_checked name words.For = refl
words_checked name words.Switch = refl
words_checked name words.Case = refl
words_checked name words.Default = refl
words_checked name words.Break = refl
words_checked name words.Continue = refl
words_checked name words.Return = refl
words_checked name words.Delete = refl
words_checked name words.New = refl
words_checked name words.DynamicCast = refl
words_checked name words.Float = refl
words_checked name words.Union = refl
words_checked name words.Sizeof = refl
words_checked name words.Operator = refl
words_checked name words.Namespace = refl

abbrev pub unarys : List ℕ
unarys = 47 ∷ 48 ∷ 49 ∷ 50 ∷ 60 ∷ 68 ∷ []

abbrev pub binarys : List ℕ
binarys = 49 ∷ 50 ∷ 52 ∷ 53 ∷ 54 ∷ 57 ∷ 58 ∷ 59 ∷ 60 ∷ 62 ∷ 63 ∷ 64 ∷ 65 ∷ []

abbrev pub assignments : List ℕ
assignments = 66 ∷ 67 ∷ []

abbrev pub steps : List ℕ
steps = 68 ∷ []

abbrev sign_facts : Sign → List Bool
sign_facts s =
    let c = class_number (sign_class s) in
    implies (listed c low) (listed c (70 ∷ []))
    ∷ implies (listed c unarys) (is_some (unary_of s))
    ∷ implies (listed c binarys) (is_some (binary_of s))
    ∷ implies (listed c assignments) (is_some (assignment_of s))
    ∷ implies (listed c steps) (is_some (step_of s)) ∷ []

signs_checked : (s : Sign) → all_so (sign_facts s) ≡ true
unfolding sign_class class_number unary_of binary_of assignment_of step_of
signs_checked signs.ParenthesisOpen = refl
signs_checked signs.ParenthesisClose = refl
signs_checked signs.BracketOpen = refl
signs_checked signs.BracketClose = refl
signs_checked signs.BraceOpen = refl
signs_checked signs.BraceClose = refl
signs_checked signs.Semicolon = refl
signs_checked signs.Comma = refl
signs_checked signs.Dot = refl
signs_checked signs.Colon = refl
signs_checked signs.DoubleColon = refl
signs_checked signs.Question = refl
signs_checked signs.Tilde = refl
signs_checked signs.Not = refl
signs_checked signs.Plus = refl
signs_checked signs.Minus = refl
signs_checked signs.Star = refl
signs_checked signs.Slash = refl
signs_checked signs.Percent = refl
signs_checked signs.ShiftLeft = refl
signs_checked signs.ShiftRight = refl
signs_checked signs.Less = refl
signs_checked signs.LessOrEqual = refl
signs_checked signs.Greater = refl
signs_checked signs.GreaterOrEqual = refl
signs_checked signs.Equal = refl
signs_checked signs.NotEqual = refl
signs_checked signs.Ampersand = refl
signs_checked signs.Caret = refl
signs_checked signs.Bar = refl
signs_checked signs.And = refl
signs_checked signs.Or = refl
signs_checked signs.Assign = refl
signs_checked signs.PlusAssign = refl
signs_checked signs.MinusAssign = refl
signs_checked signs.StarAssign = refl
signs_checked signs.SlashAssign = refl
signs_checked signs.PercentAssign = refl
signs_checked signs.ShiftLeftAssign = refl
signs_checked signs.ShiftRightAssign = refl
signs_checked signs.AmpersandAssign = refl
signs_checked signs.CaretAssign = refl
signs_checked signs.BarAssign = refl
signs_checked signs.Increment = refl
signs_checked signs.Decrement = refl
signs_checked signs.Hash = refl

word_low : (w : ReservedWord) → listed (class_number (class_of_word w)) named ≡ true
word_low w = at_place 0 (word_facts [] w) (words_checked [] w)

not_so : (b : Bool) → not b ≡ true → b ≡ false
not_so true h = false_true h
not_so false h = refl

word_type : (w : ReservedWord) → same (class_of_word w) class.TypeName ≡ false
word_type w = not_so (same (class_of_word w) class.TypeName) (at_place 1 (word_facts [] w) (words_checked [] w))

-- a word stays one behind `.`
dot_keeps : (x : Context) (c : Class) → same c class.TypeName ≡ false → behind_dot x.spot c ≡ c
dot_keeps x c e = ap (λ b. if same x.spot.before class.Dot && b then class.Name else c) e ∙ ap (λ (b : Bool). if b then class.Name else c) (and_false (same x.spot.before class.Dot))

if_listed : (b : Bool) (c d : Class) (cs : List ℕ) → listed (class_number c) cs ≡ true → listed (class_number d) cs ≡ true → listed (class_number (if b then c else d)) cs ≡ true
if_listed true c d cs h i = h
if_listed false c d cs h i = i

dot_low : (x : Context) (c : Class) → listed (class_number c) named ≡ true → listed (class_number (behind_dot x.spot c)) named ≡ true
unfolding class_number
dot_low x c h = if_listed (same x.spot.before class.Dot && same c class.TypeName) class.Name c named refl h

plain_low : (x : Context) (name : List ℕ) → listed (class_number (plain_name_class (x.roles name) x.spot name)) named ≡ true
unfolding class_number
plain_low x name =
    if_listed (is_group x.spot.before name) class.Group _ named refl
    (if_listed (is_typename x.spot name) class.Typename _ named refl
    (if_listed (is_type x.spot (x.roles name)) class.TypeName class.Name named refl refl))

word_class_low : (x : Context) (name : List ℕ) (o : Option ReservedWord) → listed (class_number (unwrap_or (class_of_name name o) (plain_name_class (x.roles name) x.spot name))) named ≡ true
unfolding class_number
word_class_low x name (Some w) = word_low w
word_class_low x name None = go (is_supplied name)
  where
    go : (b : Bool) → listed (class_number (unwrap_or (if b then Some class.TypeName else None) (plain_name_class (x.roles name) x.spot name))) named ≡ true
    go true = refl
    go false = plain_low x name

pub name_named : (x : Context) (name : List ℕ) → listed (class_number (name_class (x.roles name) x.spot name)) named ≡ true
unfolding name_class word_class
name_named x name = dot_low x (unwrap_or (class_of_name name (reserved_word name)) (plain_name_class (x.roles name) x.spot name)) (word_class_low x name (reserved_word name))

name_low : (x : Context) (name : List ℕ) → listed (class_number (name_class (x.roles name) x.spot name)) low ≡ true
unfolding class_number
name_low x name = inside (class_number (name_class (x.roles name) x.spot name)) named low refl (name_named x name)

-- no sign has the class of a name or of a value
sign_not : (s : Sign) → listed (class_number (sign_class s)) low ≡ true → listed (class_number (sign_class s)) (70 ∷ []) ≡ true
sign_not s = implied (listed (class_number (sign_class s)) low) (listed (class_number (sign_class s)) (70 ∷ [])) (at_place 0 (sign_facts s) (signs_checked s))

-- a token of a name's class is a name
pub name_was : (x : Context) (t : Token) (rest : List (Token × Span)) → listed (class_number (token_class x t rest)) (0 ∷ 1 ∷ 2 ∷ 3 ∷ []) ≡ true → Is (name_of t)
unfolding class_number
name_was x (token.Name name) rest h = tt
name_was x (token.Int v k) rest h = apart_both (class_number (int_class v k)) (4 ∷ 5 ∷ []) (0 ∷ 1 ∷ 2 ∷ 3 ∷ []) refl (int_among v k) h
name_was x (token.Double v) rest h = false_true h
name_was x (token.Str text) rest h = false_true h
name_was x (token.Sign s) rest h = sign_no (around_was x rest (sign_class s) (0 ∷ 1 ∷ 2 ∷ 3 ∷ []) refl h)
  where
    sign_no : {B : Type 0} → listed (class_number (sign_class s)) (0 ∷ 1 ∷ 2 ∷ 3 ∷ []) ≡ true → B
    sign_no h = apart_both (class_number (sign_class s)) (0 ∷ 1 ∷ 2 ∷ 3 ∷ []) (70 ∷ []) refl h (sign_not s (inside (class_number (sign_class s)) (0 ∷ 1 ∷ 2 ∷ 3 ∷ []) low refl h))
name_was x (token.IncludeName name place) rest h = false_true h
name_was x token.LineEnd rest h = false_true h

word_was : (name : List ℕ) (w : ReservedWord) → listed (class_number (class_of_word w)) values ≡ true → Is (word_value name (Some w))
word_was name w h = some_is (word_value name (Some w)) (implied (listed (class_number (class_of_word w)) values) (is_some (word_value name (Some w))) (at_place 2 (word_facts name w) (words_checked name w)) h)

value_word : (x : Context) (name : List ℕ) (o : Option ReservedWord) → listed (class_number (behind_dot x.spot (unwrap_or (class_of_name name o) (plain_name_class (x.roles name) x.spot name)))) values ≡ true → Is (word_value name o)
unfolding word_value
value_word x name None h = tt
value_word x name (Some w) h = word_was name w (subst (λ c. listed (class_number c) values ≡ true) (dot_keeps x (class_of_word w) (word_type w)) h)

-- a token of a value's class is a value
pub value_was : (x : Context) (t : Token) (rest : List (Token × Span)) → listed (class_number (token_class x t rest)) values ≡ true → Is (token_value t)
unfolding class_number name_class word_class token_value
value_was x (token.Name name) rest h = value_word x name (reserved_word name) h
value_was x (token.Int v k) rest h = tt
value_was x (token.Double v) rest h = tt
value_was x (token.Str text) rest h = tt
value_was x (token.Sign s) rest h = sign_no (around_was x rest (sign_class s) values refl h)
  where
    sign_no : {B : Type 0} → listed (class_number (sign_class s)) values ≡ true → B
    sign_no h = apart_both (class_number (sign_class s)) values (70 ∷ []) refl h (sign_not s (inside (class_number (sign_class s)) values low refl h))
value_was x (token.IncludeName name place) rest h = false_true h
value_was x token.LineEnd rest h = false_true h

-- a token of an operator's class is a sign with that class
pub sign_was : (x : Context) (t : Token) (rest : List (Token × Span)) (cs : List ℕ) → apart cs odd ≡ true → apart low cs ≡ true → listed (class_number (token_class x t rest)) cs ≡ true → Has (λ s. listed (class_number (sign_class s)) cs ≡ true) (sign_of t)
unfolding class_number
sign_was x (token.Name name) rest cs o l h = apart_both (class_number (name_class (x.roles name) x.spot name)) low cs l (name_low x name) h
sign_was x (token.Int v k) rest cs o l h = apart_both (class_number (int_class v k)) low cs l (inside (class_number (int_class v k)) (4 ∷ 5 ∷ []) low refl (int_among v k)) h
sign_was x (token.Double v) rest cs o l h = apart_both 4 low cs l refl h
sign_was x (token.Str text) rest cs o l h = apart_both 6 low cs l refl h
sign_was x (token.Sign s) rest cs o l h = around_was x rest (sign_class s) cs o h
sign_was x (token.IncludeName name place) rest cs o l h = apart_both 70 low cs l refl h
sign_was x token.LineEnd rest cs o l h = apart_both 70 low cs l refl h

-- operators

pub unary_was : (s : Sign) → listed (class_number (sign_class s)) unarys ≡ true → Is (unary_of s)
unary_was s h = some_is (unary_of s) (implied (listed (class_number (sign_class s)) unarys) (is_some (unary_of s)) (at_place 1 (sign_facts s) (signs_checked s)) h)

pub binary_was : (s : Sign) → listed (class_number (sign_class s)) binarys ≡ true → Is (binary_of s)
binary_was s h = some_is (binary_of s) (implied (listed (class_number (sign_class s)) binarys) (is_some (binary_of s)) (at_place 2 (sign_facts s) (signs_checked s)) h)

pub assignment_was : (s : Sign) → listed (class_number (sign_class s)) assignments ≡ true → Is (assignment_of s)
assignment_was s h = some_is (assignment_of s) (implied (listed (class_number (sign_class s)) assignments) (is_some (assignment_of s)) (at_place 3 (sign_facts s) (signs_checked s)) h)

pub step_was : (s : Sign) → listed (class_number (sign_class s)) steps ≡ true → Is (step_of s)
step_was s h = some_is (step_of s) (implied (listed (class_number (sign_class s)) steps) (is_some (step_of s)) (at_place 4 (sign_facts s) (signs_checked s)) h)

-- a token of a word's class is that word
plain_only : (x : Context) (name : List ℕ) → listed (class_number (plain_name_class (x.roles name) x.spot name)) (0 ∷ 1 ∷ 7 ∷ 14 ∷ []) ≡ true
unfolding class_number
plain_only x name =
    if_listed (is_group x.spot.before name) class.Group _ (0 ∷ 1 ∷ 7 ∷ 14 ∷ []) refl
    (if_listed (is_typename x.spot name) class.Typename _ (0 ∷ 1 ∷ 7 ∷ 14 ∷ []) refl
    (if_listed (is_type x.spot (x.roles name)) class.TypeName class.Name (0 ∷ 1 ∷ 7 ∷ 14 ∷ []) refl refl))

none_only : (x : Context) (name : List ℕ) → listed (class_number (behind_dot x.spot (unwrap_or (class_of_name name None) (plain_name_class (x.roles name) x.spot name)))) (0 ∷ 1 ∷ 7 ∷ 14 ∷ []) ≡ true
unfolding class_number
none_only x name = dotted (unwrap_or (class_of_name name None) (plain_name_class (x.roles name) x.spot name)) (go (is_supplied name))
  where
    dotted : (c : Class) → listed (class_number c) (0 ∷ 1 ∷ 7 ∷ 14 ∷ []) ≡ true → listed (class_number (behind_dot x.spot c)) (0 ∷ 1 ∷ 7 ∷ 14 ∷ []) ≡ true
    dotted c h = if_listed (same x.spot.before class.Dot && same c class.TypeName) class.Name c (0 ∷ 1 ∷ 7 ∷ 14 ∷ []) refl h

    go : (b : Bool) → listed (class_number (unwrap_or (if b then Some class.TypeName else None) (plain_name_class (x.roles name) x.spot name))) (0 ∷ 1 ∷ 7 ∷ 14 ∷ []) ≡ true
    go true = refl
    go false = plain_only x name

abbrev pub WordOf : List ℕ → Option ReservedWord → Type 0
WordOf cs o = Has (λ w. listed (class_number (class_of_word w)) cs ≡ true) o

word_name : (x : Context) (name : List ℕ) (o : Option ReservedWord) (cs : List ℕ) → apart cs (0 ∷ 1 ∷ 7 ∷ 14 ∷ []) ≡ true
    → listed (class_number (behind_dot x.spot (unwrap_or (class_of_name name o) (plain_name_class (x.roles name) x.spot name)))) cs ≡ true → WordOf cs o
word_name x name None cs d h = apart_both (class_number (behind_dot x.spot (unwrap_or (class_of_name name None) (plain_name_class (x.roles name) x.spot name)))) cs (0 ∷ 1 ∷ 7 ∷ 14 ∷ []) d h (none_only x name)
word_name x name (Some w) cs d h = subst (λ c. listed (class_number c) cs ≡ true) (dot_keeps x (class_of_word w) (word_type w)) h

pub word_there : (x : Context) (t : Token) (rest : List (Token × Span)) (cs : List ℕ) → apart cs (0 ∷ 1 ∷ 7 ∷ 14 ∷ []) ≡ true → apart cs (4 ∷ 5 ∷ 6 ∷ []) ≡ true → apart cs (70 ∷ []) ≡ true → apart cs odd ≡ true → within cs low ≡ true
    → listed (class_number (token_class x t rest)) cs ≡ true → Has (λ n. WordOf cs (reserved_word n)) (name_of t)
unfolding class_number name_class word_class
word_there x (token.Name name) rest cs d e f o l h = word_name x name (reserved_word name) cs d h
word_there x (token.Int v k) rest cs d e f o l h = apart_both (class_number (int_class v k)) cs (4 ∷ 5 ∷ 6 ∷ []) e h (inside (class_number (int_class v k)) (4 ∷ 5 ∷ []) (4 ∷ 5 ∷ 6 ∷ []) refl (int_among v k))
word_there x (token.Double v) rest cs d e f o l h = apart_both 4 cs (4 ∷ 5 ∷ 6 ∷ []) e h refl
word_there x (token.Str text) rest cs d e f o l h = apart_both 6 cs (4 ∷ 5 ∷ 6 ∷ []) e h refl
word_there x (token.Sign s) rest cs d e f o l h =
    let i = around_was x rest (sign_class s) cs o h in
    apart_both (class_number (sign_class s)) cs (70 ∷ []) f i (sign_not s (inside (class_number (sign_class s)) cs low l i))
word_there x (token.IncludeName name place) rest cs d e f o l h = apart_both 70 cs (70 ∷ []) f h refl
word_there x token.LineEnd rest cs d e f o l h = apart_both 70 cs (70 ∷ []) f h refl

-- the kinds of classes, and who may reach members
pub kind_was : (w : ReservedWord) → listed (class_number (class_of_word w)) (16 ∷ []) ≡ true → Is (kind_of w)
kind_was w h = some_is (kind_of w) (implied (listed (class_number (class_of_word w)) (16 ∷ [])) (is_some (kind_of w)) (at_place 3 (word_facts [] w) (words_checked [] w)) h)

pub access_was : (w : ReservedWord) → listed (class_number (class_of_word w)) (17 ∷ []) ≡ true → Is (access_of w)
access_was w h = some_is (access_of w) (implied (listed (class_number (class_of_word w)) (17 ∷ [])) (is_some (access_of w)) (at_place 4 (word_facts [] w) (words_checked [] w)) h)

-- a token of a string's class is one
pub text_was : (x : Context) (t : Token) (rest : List (Token × Span)) → listed (class_number (token_class x t rest)) (6 ∷ []) ≡ true → Is (text_of t)
unfolding class_number
text_was x (token.Name name) rest h = apart_both (class_number (name_class (x.roles name) x.spot name)) (6 ∷ []) named refl h (name_named x name)
text_was x (token.Int v k) rest h = apart_both (class_number (int_class v k)) (6 ∷ []) (4 ∷ 5 ∷ []) refl h (int_among v k)
text_was x (token.Double v) rest h = false_true h
text_was x (token.Str text) rest h = tt
text_was x (token.Sign s) rest h =
    let i = around_was x rest (sign_class s) (6 ∷ []) refl h in
    apart_both (class_number (sign_class s)) (6 ∷ []) (70 ∷ []) refl i (sign_not s (inside (class_number (sign_class s)) (6 ∷ []) low refl i))
text_was x (token.IncludeName name place) rest h = false_true h
text_was x token.LineEnd rest h = false_true h
