-- What names of the program's own scope mean, and types (MQL5 Reference, Data Types). A type is known by what
-- it is and by its name, and by no place in a list.
use Rattle.std.specs.Prelude.{Bool, true, false, List, ◌++◌, flat_map, codes, Option, Some, None, if◌then◌else◌}
use Rattle.fx8.specs.declared.int_kind.IntKind.TheVariants as kind
use Rattle.mql_spelling.specs.declared.reserved.ReservedWord.{ReservedWord}
use Rattle.mql_spelling.specs.declared.reserved.ReservedWord.TheVariants as words
use Rattle.mql_spelling.specs.ReservedWords.{reserved_word}
use Rattle.natives.specs.declared.types.SimpleType.TheVariants as simple
use Rattle.natives.specs.declared.supplied.SuppliedType.{SuppliedType}
use Rattle.natives.specs.Structures.{supplied_named, structure_of}
use Rattle.mql_syntax.specs.declared.value.TypeUse.{TypeUse, Named'}
use Rattle.mql_syntax.specs.declared.kind.Place.{Place}
use Rattle.mql_syntax.specs.declared.declaration.Dimension.{Dimension}
use Rattle.mql_syntax.specs.declared.declaration.Param.{Param}
use Rattle.mql_syntax.specs.declared.declaration.Body.{Body}
use Rattle.mql_syntax.specs.declared.declaration.Body.TheVariants as body
use Rattle.mql_syntax.specs.declared.declaration.Function.{Function}
use Rattle.mql_names.specs.declared.types.Sort.{Sort}
use Rattle.mql_names.specs.declared.types.Sort.TheVariants as sort
use Rattle.mql_names.specs.declared.types.Meaning.{Meaning}
use Rattle.mql_names.specs.declared.types.Meaning.TheVariants as meaning
use Rattle.mql_names.specs.Scopes.{Name}

-- what each name of the program's own scope means
abbrev pub Names : Type 0
Names = Name → Option Meaning

-- the type of a reserved word
unfoldable pub word_sort : ReservedWord → Sort
word_sort words.Void = sort.Void
word_sort words.Bool = sort.Simple (simple.Integer kind.Bool)
word_sort words.Char = sort.Simple (simple.Integer kind.Char)
word_sort words.Uchar = sort.Simple (simple.Integer kind.Uchar)
word_sort words.Short = sort.Simple (simple.Integer kind.Short)
word_sort words.Ushort = sort.Simple (simple.Integer kind.Ushort)
word_sort words.Int = sort.Simple (simple.Integer kind.Int)
word_sort words.Uint = sort.Simple (simple.Integer kind.Uint)
word_sort words.Long = sort.Simple (simple.Integer kind.Long)
word_sort words.Ulong = sort.Simple (simple.Integer kind.Ulong)
word_sort words.Datetime = sort.Simple (simple.Integer kind.Datetime)
word_sort words.Color = sort.Simple (simple.Integer kind.Color)
word_sort words.Double = sort.Simple simple.Double
word_sort words.String = sort.Simple simple.String
word_sort _ = sort.Unknown

-- the type that a name of the program's own scope means
abbrev pub meaning_sort : Meaning → Sort
meaning_sort meaning.Structure = sort.Structure
meaning_sort meaning.Enumeration = sort.Enumeration
meaning_sort meaning.Member = sort.Unknown
meaning_sort meaning.Other = sort.Unknown

-- a supplied type is a structure, or another name of `int`
abbrev pub supplied_sort : Option SuppliedType → Sort
supplied_sort None = sort.Unknown
supplied_sort (Some s) =
    elim (structure_of s) [ None ↦ sort.Simple (simple.Integer kind.Int) | Some t ↦ sort.Structure ]

-- the program's own types hide supplied ones
unfoldable pub own_sort : Names → Name → Sort
own_sort names x = elim (names x) [ Some m ↦ meaning_sort m | None ↦ supplied_sort (supplied_named x) ]

unfoldable pub named_sort : Names → Name → Sort
named_sort names x = elim (reserved_word x) [ Some w ↦ word_sort w | None ↦ own_sort names x ]

-- the type that is written
abbrev pub type_sort : Names → TypeUse → Sort
type_sort names (Named' place x pointer m row) = named_sort names x

abbrev pub type_name : TypeUse → Name
type_name (Named' place x pointer m row) = x

abbrev pub type_place : TypeUse → Place
type_place (Named' place x pointer m row) = place

-- `int` has other names
abbrev pub key_of : Sort → Name → Name
key_of (sort.Simple (simple.Integer kind.Int)) x = codes "int"
key_of _ x = x

-- how a type is spelled: two types are one where they are spelled alike
unfoldable pub type_key : Names → TypeUse → Name
type_key names t = key_of (type_sort names t) (type_name t)

-- the type of a parameter: `const` and `&` are no part of it
abbrev pub bracket : Dimension → Name
bracket d = codes "[]"

abbrev pub brackets : List Dimension → Name
brackets ds = flat_map bracket ds

unfoldable pub param_key : Names → Param → Name
param_key names q = type_key names q.variable.of ++ brackets q.variable.dimensions ++ codes ","

abbrev pub param_keys : Names → List Param → Name
param_keys names qs = flat_map (param_key names) qs

abbrev pub is_defined : Body → Bool
is_defined (body.Block s) = true
is_defined body.Declared = false
is_defined body.Pure = false

-- how a function is spelled with the types of its parameters, and whether it is only announced
unfoldable pub form_of : Names → Function → Name
form_of names f =
    f.name ++ codes "(" ++ param_keys names f.params ++ (if is_defined f.body then codes ")" else codes ");")
