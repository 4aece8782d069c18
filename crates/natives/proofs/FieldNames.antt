-- Each is found by its spelling.
use Rattle.std.proofs.Common.{◌≡◌, ℕ, List, refl, ap, ◌∙◌, Some, ◌↔◌}
use Rattle.natives.specs.declared.field.FieldName.{FieldName}
use Rattle.natives.specs.declared.field.FieldName.TheVariants as fields
use Rattle.natives.specs.declared.field.TheConstants.{FIELDS}
use Rattle.natives.specs.Structures.{field_spelling, field_named}
use Rattle.mql_spelling.proofs.Spelled.{found_by}

pub found : (field : FieldName) → field_named (field_spelling field) ≡ Some field
unfolding field_spelling field_named
found fields.Action = refl
found fields.Magic = refl
found fields.Order = refl
found fields.Symbol = refl
found fields.Volume = refl
found fields.Price = refl
found fields.Stoplimit = refl
found fields.Sl = refl
found fields.Tp = refl
found fields.Deviation = refl
found fields.Type = refl
found fields.TypeFilling = refl
found fields.TypeTime = refl
found fields.Expiration = refl
found fields.Comment = refl
found fields.Position = refl
found fields.PositionBy = refl
found fields.Retcode = refl
found fields.Deal = refl
found fields.Bid = refl
found fields.Ask = refl
found fields.RequestId = refl
found fields.RetcodeExternal = refl
found fields.Time = refl
found fields.Last = refl
found fields.TimeMsc = refl
found fields.Flags = refl
found fields.VolumeReal = refl
found fields.Open = refl
found fields.High = refl
found fields.Low = refl
found fields.Close = refl
found fields.TickVolume = refl
found fields.Spread = refl
found fields.RealVolume = refl
found fields.Year = refl
found fields.Mon = refl
found fields.Day = refl
found fields.Hour = refl
found fields.Min = refl
found fields.Sec = refl
found fields.DayOfWeek = refl
found fields.DayOfYear = refl

-- a text is the name of one exactly where it is its spelling
pub by_spelling : (us : List ℕ) (field : FieldName) → (field_named us ≡ Some field) ↔ (us ≡ field_spelling field)
unfolding field_named
by_spelling us field = (found_by field_spelling FIELDS us field, λ e. ap field_named e ∙ found field)
