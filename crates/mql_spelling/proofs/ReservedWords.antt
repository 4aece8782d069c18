-- What a reserved word may be.
use Rattle.std.proofs.Common.{◌≡◌, ℕ, List, refl, ap, ◌∙◌, Some, ◌↔◌}
use Rattle.mql_spelling.specs.declared.reserved.ReservedWord.{ReservedWord}
use Rattle.mql_spelling.specs.declared.reserved.ReservedWord.TheVariants as words
use Rattle.mql_spelling.specs.declared.reserved.TheConstants.{RESERVED_WORDS}
use Rattle.mql_spelling.specs.ReservedWords.{word_spelling, reserved_word}
use Rattle.mql_spelling.proofs.Spelled.{found_by}

found : (word : ReservedWord) → reserved_word (word_spelling word) ≡ Some word
unfolding word_spelling reserved_word
found words.Bool = refl
found words.Char = refl
found words.Uchar = refl
found words.Short = refl
found words.Ushort = refl
found words.Int = refl
found words.Uint = refl
found words.Long = refl
found words.Ulong = refl
found words.Datetime = refl
found words.Color = refl
found words.Double = refl
found words.String = refl
found words.Void = refl
found words.True = refl
found words.False = refl
found words.Null = refl
found words.This = refl
found words.Input = refl
found words.StaticInput = refl
found words.Static = refl
found words.Const = refl
found words.Template = refl
found words.Enum = refl
found words.Class = refl
found words.Struct = refl
found words.Interface = refl
found words.Public = refl
found words.Protected = refl
found words.Private = refl
found words.Virtual = refl
found words.Override = refl
found words.If = refl
found words.Else = refl
found words.While = refl
found words.Do = refl
found words.For = refl
found words.Switch = refl
found words.Case = refl
found words.Default = refl
found words.Break = refl
found words.Continue = refl
found words.Return = refl
found words.Delete = refl
found words.New = refl
found words.DynamicCast = refl
found words.Float = refl
found words.Union = refl
found words.Sizeof = refl
found words.Operator = refl
found words.Namespace = refl

-- a name is a reserved word exactly where it is that word's spelling
pub by_spelling : (us : List ℕ) (word : ReservedWord) → (reserved_word us ≡ Some word) ↔ (us ≡ word_spelling word)
unfolding reserved_word
by_spelling us word = (found_by word_spelling RESERVED_WORDS us word, λ e. ap reserved_word e ∙ found word)
