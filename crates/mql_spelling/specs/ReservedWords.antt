-- The reserved words of the language (MQL5 Reference, Language Basics, Reserved Words).
use Rattle.std.specs.Prelude.{ℕ, List, codes, Option}
use Rattle.mql_spelling.specs.declared.reserved.ReservedWord.{ReservedWord}
use Rattle.mql_spelling.specs.declared.reserved.ReservedWord.TheVariants as words
use Rattle.mql_spelling.specs.declared.reserved.TheConstants.{RESERVED_WORDS}
use Rattle.mql_spelling.specs.Spelled.{spelled_among}

-- how a reserved word is spelled
unfoldable pub word_spelling : ReservedWord → List ℕ
word_spelling words.Bool = codes "bool"
word_spelling words.Char = codes "char"
word_spelling words.Uchar = codes "uchar"
word_spelling words.Short = codes "short"
word_spelling words.Ushort = codes "ushort"
word_spelling words.Int = codes "int"
word_spelling words.Uint = codes "uint"
word_spelling words.Long = codes "long"
word_spelling words.Ulong = codes "ulong"
word_spelling words.Datetime = codes "datetime"
word_spelling words.Color = codes "color"
word_spelling words.Double = codes "double"
word_spelling words.String = codes "string"
word_spelling words.Void = codes "void"
word_spelling words.True = codes "true"
word_spelling words.False = codes "false"
word_spelling words.Null = codes "NULL"
word_spelling words.This = codes "this"
word_spelling words.Input = codes "input"
word_spelling words.StaticInput = codes "sinput"
word_spelling words.Static = codes "static"
word_spelling words.Const = codes "const"
word_spelling words.Template = codes "template"
word_spelling words.Enum = codes "enum"
word_spelling words.Class = codes "class"
word_spelling words.Struct = codes "struct"
word_spelling words.Interface = codes "interface"
word_spelling words.Public = codes "public"
word_spelling words.Protected = codes "protected"
word_spelling words.Private = codes "private"
word_spelling words.Virtual = codes "virtual"
word_spelling words.Override = codes "override"
word_spelling words.If = codes "if"
word_spelling words.Else = codes "else"
word_spelling words.While = codes "while"
word_spelling words.Do = codes "do"
word_spelling words.For = codes "for"
word_spelling words.Switch = codes "switch"
word_spelling words.Case = codes "case"
word_spelling words.Default = codes "default"
word_spelling words.Break = codes "break"
word_spelling words.Continue = codes "continue"
word_spelling words.Return = codes "return"
word_spelling words.Delete = codes "delete"
word_spelling words.New = codes "new"
word_spelling words.DynamicCast = codes "dynamic_cast"
word_spelling words.Float = codes "float"
word_spelling words.Union = codes "union"
word_spelling words.Sizeof = codes "sizeof"
word_spelling words.Operator = codes "operator"
word_spelling words.Namespace = codes "namespace"

-- the reserved word that is spelled so: of two words no spelling is one, and `RESERVED_WORDS` is each word
unfoldable pub reserved_word : List ℕ → Option ReservedWord
reserved_word name = spelled_among word_spelling RESERVED_WORDS name
