-- The supplied types with their fields, and the predefined names (MQL5 Reference, Standard Constants,
-- Enumerations and Structures; Predefined Variables; Predefined Macro Substitutions).
use Rattle.std.specs.Prelude.{◌≡◌, ℕ, List, [], ◌∷◌, codes, Option, Some, None, slice_get, bytes_eq, if◌then◌else◌}
use Rattle.fx8.specs.declared.int_kind.IntKind.TheVariants as kind
use Rattle.natives.specs.declared.types.SimpleType.{SimpleType}
use Rattle.natives.specs.declared.types.SimpleType.TheVariants as simple
use Rattle.natives.specs.declared.types.Structure.{Structure}
use Rattle.natives.specs.declared.types.Structure.TheVariants as structures
use Rattle.natives.specs.declared.field.Field.{Field}
use Rattle.natives.specs.declared.field.FieldName.{FieldName}
use Rattle.natives.specs.declared.field.FieldName.TheVariants as fields
use Rattle.natives.specs.declared.field.TheConstants.{FIELDS}
use Rattle.natives.specs.declared.supplied.SuppliedType.{SuppliedType}
use Rattle.natives.specs.declared.supplied.SuppliedType.TheVariants as supplieds
use Rattle.natives.specs.declared.supplied.TheConstants.{SUPPLIEDS}
use Rattle.natives.specs.declared.predefined.Predefined.{Predefined}
use Rattle.natives.specs.declared.predefined.Predefined.TheVariants as predefineds
use Rattle.natives.specs.declared.predefined.TheConstants.{PREDEFINEDS}
use Rattle.mql_spelling.specs.Spelled.{spelled_among}

-- how it is spelled
unfoldable pub supplied_spelling : SuppliedType → List ℕ
-- structures
supplied_spelling supplieds.MqlTradeRequest = codes "MqlTradeRequest"
supplied_spelling supplieds.MqlTradeResult = codes "MqlTradeResult"
supplied_spelling supplieds.MqlTick = codes "MqlTick"
supplied_spelling supplieds.MqlRates = codes "MqlRates"
supplied_spelling supplieds.MqlDateTime = codes "MqlDateTime"
-- other names of `int`
supplied_spelling supplieds.EnumTimeframes = codes "ENUM_TIMEFRAMES"
supplied_spelling supplieds.EnumMaMethod = codes "ENUM_MA_METHOD"
supplied_spelling supplieds.EnumAppliedPrice = codes "ENUM_APPLIED_PRICE"
supplied_spelling supplieds.EnumTradeRequestActions = codes "ENUM_TRADE_REQUEST_ACTIONS"
supplied_spelling supplieds.EnumOrderType = codes "ENUM_ORDER_TYPE"
supplied_spelling supplieds.EnumOrderTypeFilling = codes "ENUM_ORDER_TYPE_FILLING"
supplied_spelling supplieds.EnumOrderTypeTime = codes "ENUM_ORDER_TYPE_TIME"
supplied_spelling supplieds.EnumPositionType = codes "ENUM_POSITION_TYPE"
supplied_spelling supplieds.EnumDealType = codes "ENUM_DEAL_TYPE"
supplied_spelling supplieds.EnumDealEntry = codes "ENUM_DEAL_ENTRY"

-- the one that is spelled so: of two no spelling is one, and `SUPPLIEDS` is each of them
unfoldable pub supplied_named : List ℕ → Option SuppliedType
supplied_named us = spelled_among supplied_spelling SUPPLIEDS us

-- the structure that a supplied type is; another name of `int` is none
abbrev pub structure_of : SuppliedType → Option Structure
structure_of supplieds.MqlTradeRequest = Some structures.MqlTradeRequest
structure_of supplieds.MqlTradeResult = Some structures.MqlTradeResult
structure_of supplieds.MqlTick = Some structures.MqlTick
structure_of supplieds.MqlRates = Some structures.MqlRates
structure_of supplieds.MqlDateTime = Some structures.MqlDateTime
structure_of _ = None

-- how it is spelled
unfoldable pub field_spelling : FieldName → List ℕ
-- Standard Constants, Enumerations and Structures
field_spelling fields.Action = codes "action"
field_spelling fields.Magic = codes "magic"
field_spelling fields.Order = codes "order"
field_spelling fields.Symbol = codes "symbol"
field_spelling fields.Volume = codes "volume"
field_spelling fields.Price = codes "price"
field_spelling fields.Stoplimit = codes "stoplimit"
field_spelling fields.Sl = codes "sl"
field_spelling fields.Tp = codes "tp"
field_spelling fields.Deviation = codes "deviation"
field_spelling fields.Type = codes "type"
field_spelling fields.TypeFilling = codes "type_filling"
field_spelling fields.TypeTime = codes "type_time"
field_spelling fields.Expiration = codes "expiration"
field_spelling fields.Comment = codes "comment"
field_spelling fields.Position = codes "position"
field_spelling fields.PositionBy = codes "position_by"
field_spelling fields.Retcode = codes "retcode"
field_spelling fields.Deal = codes "deal"
field_spelling fields.Bid = codes "bid"
field_spelling fields.Ask = codes "ask"
field_spelling fields.RequestId = codes "request_id"
field_spelling fields.RetcodeExternal = codes "retcode_external"
field_spelling fields.Time = codes "time"
field_spelling fields.Last = codes "last"
field_spelling fields.TimeMsc = codes "time_msc"
field_spelling fields.Flags = codes "flags"
field_spelling fields.VolumeReal = codes "volume_real"
field_spelling fields.Open = codes "open"
field_spelling fields.High = codes "high"
field_spelling fields.Low = codes "low"
field_spelling fields.Close = codes "close"
field_spelling fields.TickVolume = codes "tick_volume"
field_spelling fields.Spread = codes "spread"
field_spelling fields.RealVolume = codes "real_volume"
field_spelling fields.Year = codes "year"
field_spelling fields.Mon = codes "mon"
field_spelling fields.Day = codes "day"
field_spelling fields.Hour = codes "hour"
field_spelling fields.Min = codes "min"
field_spelling fields.Sec = codes "sec"
field_spelling fields.DayOfWeek = codes "day_of_week"
field_spelling fields.DayOfYear = codes "day_of_year"

-- the one that is spelled so: of two no spelling is one, and `FIELDS` is each of them
unfoldable pub field_named : List ℕ → Option FieldName
field_named us = spelled_among field_spelling FIELDS us

-- a field by its name and type
abbrev a_field : FieldName → SimpleType → Field
a_field n k = record { name = n; kind = k }

-- the fields of a structure, in order
unfoldable pub fields_of : Structure → List Field
fields_of structures.MqlTradeRequest =
    a_field fields.Action (simple.Integer kind.Int) ∷
    a_field fields.Magic (simple.Integer kind.Ulong) ∷
    a_field fields.Order (simple.Integer kind.Ulong) ∷
    a_field fields.Symbol simple.String ∷
    a_field fields.Volume simple.Double ∷
    a_field fields.Price simple.Double ∷
    a_field fields.Stoplimit simple.Double ∷
    a_field fields.Sl simple.Double ∷
    a_field fields.Tp simple.Double ∷
    a_field fields.Deviation (simple.Integer kind.Ulong) ∷
    a_field fields.Type (simple.Integer kind.Int) ∷
    a_field fields.TypeFilling (simple.Integer kind.Int) ∷
    a_field fields.TypeTime (simple.Integer kind.Int) ∷
    a_field fields.Expiration (simple.Integer kind.Datetime) ∷
    a_field fields.Comment simple.String ∷
    a_field fields.Position (simple.Integer kind.Ulong) ∷
    a_field fields.PositionBy (simple.Integer kind.Ulong) ∷
    []
fields_of structures.MqlTradeResult =
    a_field fields.Retcode (simple.Integer kind.Uint) ∷
    a_field fields.Deal (simple.Integer kind.Ulong) ∷
    a_field fields.Order (simple.Integer kind.Ulong) ∷
    a_field fields.Volume simple.Double ∷
    a_field fields.Price simple.Double ∷
    a_field fields.Bid simple.Double ∷
    a_field fields.Ask simple.Double ∷
    a_field fields.Comment simple.String ∷
    a_field fields.RequestId (simple.Integer kind.Uint) ∷
    a_field fields.RetcodeExternal (simple.Integer kind.Int) ∷
    []
fields_of structures.MqlTick =
    a_field fields.Time (simple.Integer kind.Datetime) ∷
    a_field fields.Bid simple.Double ∷
    a_field fields.Ask simple.Double ∷
    a_field fields.Last simple.Double ∷
    a_field fields.Volume (simple.Integer kind.Ulong) ∷
    a_field fields.TimeMsc (simple.Integer kind.Long) ∷
    a_field fields.Flags (simple.Integer kind.Uint) ∷
    a_field fields.VolumeReal simple.Double ∷
    []
fields_of structures.MqlRates =
    a_field fields.Time (simple.Integer kind.Datetime) ∷
    a_field fields.Open simple.Double ∷
    a_field fields.High simple.Double ∷
    a_field fields.Low simple.Double ∷
    a_field fields.Close simple.Double ∷
    a_field fields.TickVolume (simple.Integer kind.Long) ∷
    a_field fields.Spread (simple.Integer kind.Int) ∷
    a_field fields.RealVolume (simple.Integer kind.Long) ∷
    []
fields_of structures.MqlDateTime =
    a_field fields.Year (simple.Integer kind.Int) ∷
    a_field fields.Mon (simple.Integer kind.Int) ∷
    a_field fields.Day (simple.Integer kind.Int) ∷
    a_field fields.Hour (simple.Integer kind.Int) ∷
    a_field fields.Min (simple.Integer kind.Int) ∷
    a_field fields.Sec (simple.Integer kind.Int) ∷
    a_field fields.DayOfWeek (simple.Integer kind.Int) ∷
    a_field fields.DayOfYear (simple.Integer kind.Int) ∷
    []

-- the type of the first of some fields that has a name
abbrev pub field_kind : List Field → List ℕ → Option SimpleType
field_kind [] us = None
field_kind (f ∷ fs) us = if bytes_eq us (field_spelling f.name) then Some f.kind else field_kind fs us

-- some fields have one of this name and type
pub record HasField (fs : List Field) (us : List ℕ) (k : SimpleType) : Type 0 where
  pub place : ℕ
  pub field : Field
  pub there : slice_get fs place ≡ Some field
  pub spelled : us ≡ field_spelling field.name
  pub typed : field.kind ≡ k

-- how it is spelled
unfoldable pub predefined_spelling : Predefined → List ℕ
-- Predefined Variables; Macro Substitution
predefined_spelling predefineds.File = codes "__FILE__"
predefined_spelling predefineds.Line = codes "__LINE__"
predefined_spelling predefineds.Function = codes "__FUNCTION__"
predefined_spelling predefineds.Symbol = codes "_Symbol"
predefined_spelling predefineds.Period = codes "_Period"
predefined_spelling predefineds.Point = codes "_Point"
predefined_spelling predefineds.Digits = codes "_Digits"
predefined_spelling predefineds.Lasterror = codes "_LastError"

-- the one that is spelled so: of two no spelling is one, and `PREDEFINEDS` is each of them
unfoldable pub predefined_named : List ℕ → Option Predefined
predefined_named us = spelled_among predefined_spelling PREDEFINEDS us

-- the type of the value of a predefined name
abbrev pub predefined_kind : Predefined → SimpleType
predefined_kind predefineds.File = simple.String
predefined_kind predefineds.Line = (simple.Integer kind.Int)
predefined_kind predefineds.Function = simple.String
predefined_kind predefineds.Symbol = simple.String
predefined_kind predefineds.Period = (simple.Integer kind.Int)
predefined_kind predefineds.Point = simple.Double
predefined_kind predefineds.Digits = (simple.Integer kind.Int)
predefined_kind predefineds.Lasterror = (simple.Integer kind.Int)
