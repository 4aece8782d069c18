-- The named constants (MQL5 Reference, Standard Constants, Enumerations and Structures; the chapters stand
-- below). The numbers of the properties of accounts, symbols, positions, orders, deals and statistics are
-- their places in the lists (own).
use Rattle.std.specs.Prelude.{ℕ, ℤ, pos, negsuc, List, codes, Option}
use Rattle.fx8.specs.declared.int_kind.IntKind.TheVariants as kind
use Rattle.natives.specs.declared.types.ConstantValue.{ConstantValue}
use Rattle.natives.specs.declared.types.ConstantValue.TheVariants as constant
use Rattle.natives.specs.declared.constant.Constant.{Constant}
use Rattle.natives.specs.declared.constant.Constant.TheVariants as constants
use Rattle.natives.specs.declared.constant.TheConstants.{CONSTANTS}
use Rattle.mql_spelling.specs.Spelled.{spelled_among}

-- how it is spelled
unfoldable pub constant_spelling : Constant → List ℕ
-- Conversion Functions, TimeToString: what of a time is written
constant_spelling constants.TimeDate = codes "TIME_DATE"
constant_spelling constants.TimeMinutes = codes "TIME_MINUTES"
constant_spelling constants.TimeSeconds = codes "TIME_SECONDS"
-- Codes of the checkup functions, MQLInfoInteger
constant_spelling constants.MqlTester = codes "MQL_TESTER"
constant_spelling constants.MqlOptimization = codes "MQL_OPTIMIZATION"
-- Testing Statistics
constant_spelling constants.StatInitialDeposit = codes "STAT_INITIAL_DEPOSIT"
constant_spelling constants.StatProfit = codes "STAT_PROFIT"
constant_spelling constants.StatGrossProfit = codes "STAT_GROSS_PROFIT"
constant_spelling constants.StatGrossLoss = codes "STAT_GROSS_LOSS"
constant_spelling constants.StatDeals = codes "STAT_DEALS"
constant_spelling constants.StatTrades = codes "STAT_TRADES"
constant_spelling constants.StatProfitTrades = codes "STAT_PROFIT_TRADES"
constant_spelling constants.StatLossTrades = codes "STAT_LOSS_TRADES"
constant_spelling constants.StatBalanceDd = codes "STAT_BALANCE_DD"
constant_spelling constants.StatEquityDd = codes "STAT_EQUITY_DD"
-- Account Properties: double, integer, string
constant_spelling constants.AccountBalance = codes "ACCOUNT_BALANCE"
constant_spelling constants.AccountProfit = codes "ACCOUNT_PROFIT"
constant_spelling constants.AccountEquity = codes "ACCOUNT_EQUITY"
constant_spelling constants.AccountMargin = codes "ACCOUNT_MARGIN"
constant_spelling constants.AccountMarginFree = codes "ACCOUNT_MARGIN_FREE"
constant_spelling constants.AccountMarginLevel = codes "ACCOUNT_MARGIN_LEVEL"
constant_spelling constants.AccountLeverage = codes "ACCOUNT_LEVERAGE"
constant_spelling constants.AccountMarginMode = codes "ACCOUNT_MARGIN_MODE"
constant_spelling constants.AccountCurrency = codes "ACCOUNT_CURRENCY"
-- Symbol Properties: double, integer
constant_spelling constants.SymbolBid = codes "SYMBOL_BID"
constant_spelling constants.SymbolAsk = codes "SYMBOL_ASK"
constant_spelling constants.SymbolLast = codes "SYMBOL_LAST"
constant_spelling constants.SymbolPoint = codes "SYMBOL_POINT"
constant_spelling constants.SymbolTradeTickSize = codes "SYMBOL_TRADE_TICK_SIZE"
constant_spelling constants.SymbolTradeTickValue = codes "SYMBOL_TRADE_TICK_VALUE"
constant_spelling constants.SymbolTradeContractSize = codes "SYMBOL_TRADE_CONTRACT_SIZE"
constant_spelling constants.SymbolVolumeMin = codes "SYMBOL_VOLUME_MIN"
constant_spelling constants.SymbolVolumeMax = codes "SYMBOL_VOLUME_MAX"
constant_spelling constants.SymbolVolumeStep = codes "SYMBOL_VOLUME_STEP"
constant_spelling constants.SymbolDigits = codes "SYMBOL_DIGITS"
constant_spelling constants.SymbolSpread = codes "SYMBOL_SPREAD"
constant_spelling constants.SymbolTradeStopsLevel = codes "SYMBOL_TRADE_STOPS_LEVEL"
-- Position Properties: double, integer, string
constant_spelling constants.PositionVolume = codes "POSITION_VOLUME"
constant_spelling constants.PositionPriceOpen = codes "POSITION_PRICE_OPEN"
constant_spelling constants.PositionPriceCurrent = codes "POSITION_PRICE_CURRENT"
constant_spelling constants.PositionSl = codes "POSITION_SL"
constant_spelling constants.PositionTp = codes "POSITION_TP"
constant_spelling constants.PositionProfit = codes "POSITION_PROFIT"
constant_spelling constants.PositionSwap = codes "POSITION_SWAP"
constant_spelling constants.PositionTicket = codes "POSITION_TICKET"
constant_spelling constants.PositionType = codes "POSITION_TYPE"
constant_spelling constants.PositionMagic = codes "POSITION_MAGIC"
constant_spelling constants.PositionIdentifier = codes "POSITION_IDENTIFIER"
constant_spelling constants.PositionTime = codes "POSITION_TIME"
constant_spelling constants.PositionSymbol = codes "POSITION_SYMBOL"
constant_spelling constants.PositionComment = codes "POSITION_COMMENT"
constant_spelling constants.PositionTypeBuy = codes "POSITION_TYPE_BUY"
constant_spelling constants.PositionTypeSell = codes "POSITION_TYPE_SELL"
-- Order Properties: double, integer, string
constant_spelling constants.OrderVolumeCurrent = codes "ORDER_VOLUME_CURRENT"
constant_spelling constants.OrderPriceOpen = codes "ORDER_PRICE_OPEN"
constant_spelling constants.OrderSl = codes "ORDER_SL"
constant_spelling constants.OrderTp = codes "ORDER_TP"
constant_spelling constants.OrderPriceStoplimit = codes "ORDER_PRICE_STOPLIMIT"
constant_spelling constants.OrderTicket = codes "ORDER_TICKET"
constant_spelling constants.OrderType = codes "ORDER_TYPE"
constant_spelling constants.OrderMagic = codes "ORDER_MAGIC"
constant_spelling constants.OrderTimeSetup = codes "ORDER_TIME_SETUP"
constant_spelling constants.OrderTimeExpiration = codes "ORDER_TIME_EXPIRATION"
constant_spelling constants.OrderTypeTime = codes "ORDER_TYPE_TIME"
constant_spelling constants.OrderSymbol = codes "ORDER_SYMBOL"
constant_spelling constants.OrderComment = codes "ORDER_COMMENT"
constant_spelling constants.OrderTypeBuy = codes "ORDER_TYPE_BUY"
constant_spelling constants.OrderTypeSell = codes "ORDER_TYPE_SELL"
constant_spelling constants.OrderTypeBuyLimit = codes "ORDER_TYPE_BUY_LIMIT"
constant_spelling constants.OrderTypeSellLimit = codes "ORDER_TYPE_SELL_LIMIT"
constant_spelling constants.OrderTypeBuyStop = codes "ORDER_TYPE_BUY_STOP"
constant_spelling constants.OrderTypeSellStop = codes "ORDER_TYPE_SELL_STOP"
constant_spelling constants.OrderTypeBuyStopLimit = codes "ORDER_TYPE_BUY_STOP_LIMIT"
constant_spelling constants.OrderTypeSellStopLimit = codes "ORDER_TYPE_SELL_STOP_LIMIT"
constant_spelling constants.OrderTypeCloseBy = codes "ORDER_TYPE_CLOSE_BY"
constant_spelling constants.OrderFillingFok = codes "ORDER_FILLING_FOK"
constant_spelling constants.OrderFillingIoc = codes "ORDER_FILLING_IOC"
constant_spelling constants.OrderFillingReturn = codes "ORDER_FILLING_RETURN"
constant_spelling constants.OrderTimeGtc = codes "ORDER_TIME_GTC"
constant_spelling constants.OrderTimeDay = codes "ORDER_TIME_DAY"
constant_spelling constants.OrderTimeSpecified = codes "ORDER_TIME_SPECIFIED"
constant_spelling constants.OrderTimeSpecifiedDay = codes "ORDER_TIME_SPECIFIED_DAY"
-- Deal Properties: double, integer, string
constant_spelling constants.DealVolume = codes "DEAL_VOLUME"
constant_spelling constants.DealPrice = codes "DEAL_PRICE"
constant_spelling constants.DealProfit = codes "DEAL_PROFIT"
constant_spelling constants.DealSwap = codes "DEAL_SWAP"
constant_spelling constants.DealCommission = codes "DEAL_COMMISSION"
constant_spelling constants.DealTicket = codes "DEAL_TICKET"
constant_spelling constants.DealOrder = codes "DEAL_ORDER"
constant_spelling constants.DealTime = codes "DEAL_TIME"
constant_spelling constants.DealType = codes "DEAL_TYPE"
constant_spelling constants.DealEntry = codes "DEAL_ENTRY"
constant_spelling constants.DealMagic = codes "DEAL_MAGIC"
constant_spelling constants.DealPositionId = codes "DEAL_POSITION_ID"
constant_spelling constants.DealReason = codes "DEAL_REASON"
constant_spelling constants.DealSymbol = codes "DEAL_SYMBOL"
constant_spelling constants.DealComment = codes "DEAL_COMMENT"
constant_spelling constants.DealTypeBuy = codes "DEAL_TYPE_BUY"
constant_spelling constants.DealTypeSell = codes "DEAL_TYPE_SELL"
constant_spelling constants.DealTypeBalance = codes "DEAL_TYPE_BALANCE"
constant_spelling constants.DealEntryIn = codes "DEAL_ENTRY_IN"
constant_spelling constants.DealEntryOut = codes "DEAL_ENTRY_OUT"
constant_spelling constants.DealEntryInout = codes "DEAL_ENTRY_INOUT"
constant_spelling constants.DealEntryOutBy = codes "DEAL_ENTRY_OUT_BY"
-- Trade Operation Types
constant_spelling constants.TradeActionDeal = codes "TRADE_ACTION_DEAL"
constant_spelling constants.TradeActionPending = codes "TRADE_ACTION_PENDING"
constant_spelling constants.TradeActionSltp = codes "TRADE_ACTION_SLTP"
constant_spelling constants.TradeActionModify = codes "TRADE_ACTION_MODIFY"
constant_spelling constants.TradeActionRemove = codes "TRADE_ACTION_REMOVE"
constant_spelling constants.TradeActionCloseBy = codes "TRADE_ACTION_CLOSE_BY"
-- Return Codes of the Trade Server
constant_spelling constants.TradeRetcodePlaced = codes "TRADE_RETCODE_PLACED"
constant_spelling constants.TradeRetcodeDone = codes "TRADE_RETCODE_DONE"
constant_spelling constants.TradeRetcodeInvalid = codes "TRADE_RETCODE_INVALID"
constant_spelling constants.TradeRetcodeInvalidVolume = codes "TRADE_RETCODE_INVALID_VOLUME"
constant_spelling constants.TradeRetcodeInvalidPrice = codes "TRADE_RETCODE_INVALID_PRICE"
constant_spelling constants.TradeRetcodeInvalidStops = codes "TRADE_RETCODE_INVALID_STOPS"
constant_spelling constants.TradeRetcodeNoMoney = codes "TRADE_RETCODE_NO_MONEY"
constant_spelling constants.TradeRetcodePriceOff = codes "TRADE_RETCODE_PRICE_OFF"
constant_spelling constants.TradeRetcodeInvalidExpiration = codes "TRADE_RETCODE_INVALID_EXPIRATION"
constant_spelling constants.TradeRetcodeNoChanges = codes "TRADE_RETCODE_NO_CHANGES"
constant_spelling constants.TradeRetcodeInvalidFill = codes "TRADE_RETCODE_INVALID_FILL"
constant_spelling constants.TradeRetcodeLimitOrders = codes "TRADE_RETCODE_LIMIT_ORDERS"
constant_spelling constants.TradeRetcodeInvalidOrder = codes "TRADE_RETCODE_INVALID_ORDER"
constant_spelling constants.TradeRetcodePositionClosed = codes "TRADE_RETCODE_POSITION_CLOSED"
constant_spelling constants.TradeRetcodeInvalidCloseVolume = codes "TRADE_RETCODE_INVALID_CLOSE_VOLUME"
-- Chart Timeframes
constant_spelling constants.PeriodCurrent = codes "PERIOD_CURRENT"
constant_spelling constants.PeriodM1 = codes "PERIOD_M1"
constant_spelling constants.PeriodM5 = codes "PERIOD_M5"
constant_spelling constants.PeriodM15 = codes "PERIOD_M15"
constant_spelling constants.PeriodM30 = codes "PERIOD_M30"
constant_spelling constants.PeriodH1 = codes "PERIOD_H1"
constant_spelling constants.PeriodH4 = codes "PERIOD_H4"
constant_spelling constants.PeriodD1 = codes "PERIOD_D1"
-- Price Constants; Smoothing Methods
constant_spelling constants.PriceClose = codes "PRICE_CLOSE"
constant_spelling constants.PriceOpen = codes "PRICE_OPEN"
constant_spelling constants.PriceHigh = codes "PRICE_HIGH"
constant_spelling constants.PriceLow = codes "PRICE_LOW"
constant_spelling constants.PriceMedian = codes "PRICE_MEDIAN"
constant_spelling constants.PriceTypical = codes "PRICE_TYPICAL"
constant_spelling constants.PriceWeighted = codes "PRICE_WEIGHTED"
constant_spelling constants.ModeSma = codes "MODE_SMA"
constant_spelling constants.ModeEma = codes "MODE_EMA"
constant_spelling constants.ModeSmma = codes "MODE_SMMA"
constant_spelling constants.ModeLwma = codes "MODE_LWMA"
-- Program Running, OnInit; Uninitialization Reason Codes
constant_spelling constants.InitSucceeded = codes "INIT_SUCCEEDED"
constant_spelling constants.InitFailed = codes "INIT_FAILED"
constant_spelling constants.InitParametersIncorrect = codes "INIT_PARAMETERS_INCORRECT"
constant_spelling constants.InitAgentNotSuitable = codes "INIT_AGENT_NOT_SUITABLE"
constant_spelling constants.ReasonProgram = codes "REASON_PROGRAM"
constant_spelling constants.ReasonRemove = codes "REASON_REMOVE"
constant_spelling constants.ReasonInitfailed = codes "REASON_INITFAILED"
-- Other Constants
constant_spelling constants.InvalidHandle = codes "INVALID_HANDLE"
constant_spelling constants.WholeArray = codes "WHOLE_ARRAY"
-- Numerical Type Constants; Other Constants
constant_spelling constants.IntMin = codes "INT_MIN"
constant_spelling constants.IntMax = codes "INT_MAX"
constant_spelling constants.UintMax = codes "UINT_MAX"
constant_spelling constants.LongMin = codes "LONG_MIN"
constant_spelling constants.LongMax = codes "LONG_MAX"
constant_spelling constants.UlongMax = codes "ULONG_MAX"
constant_spelling constants.DblMax = codes "DBL_MAX"
constant_spelling constants.EmptyValue = codes "EMPTY_VALUE"
-- Web Colors
constant_spelling constants.ClrBlack = codes "clrBlack"
constant_spelling constants.ClrWhite = codes "clrWhite"
constant_spelling constants.ClrRed = codes "clrRed"
constant_spelling constants.ClrGreen = codes "clrGreen"
constant_spelling constants.ClrBlue = codes "clrBlue"
constant_spelling constants.ClrYellow = codes "clrYellow"

-- the one that is spelled so: of two no spelling is one, and `CONSTANTS` is each of them
unfoldable pub constant_named : List ℕ → Option Constant
constant_named us = spelled_among constant_spelling CONSTANTS us

-- values by their types; a double is told by its count of 10^-8
abbrev int : ℤ → ConstantValue
int = constant.Integer kind.Int

abbrev uint : ℤ → ConstantValue
uint = constant.Integer kind.Uint

abbrev long : ℤ → ConstantValue
long = constant.Integer kind.Long

abbrev ulong : ℤ → ConstantValue
ulong = constant.Integer kind.Ulong

abbrev color : ℤ → ConstantValue
color = constant.Integer kind.Color

abbrev double : ℤ → ConstantValue
double = constant.Double

-- the value of a constant; a color is red + 256 green + 65536 blue
unfoldable pub constant_value : Constant → ConstantValue
-- Conversion Functions, TimeToString: what of a time is written
constant_value constants.TimeDate = int (pos 1)
constant_value constants.TimeMinutes = int (pos 2)
constant_value constants.TimeSeconds = int (pos 4)
-- Codes of the checkup functions, MQLInfoInteger
constant_value constants.MqlTester = int (pos 0)
constant_value constants.MqlOptimization = int (pos 1)
-- Testing Statistics
constant_value constants.StatInitialDeposit = int (pos 0)
constant_value constants.StatProfit = int (pos 1)
constant_value constants.StatGrossProfit = int (pos 2)
constant_value constants.StatGrossLoss = int (pos 3)
constant_value constants.StatDeals = int (pos 4)
constant_value constants.StatTrades = int (pos 5)
constant_value constants.StatProfitTrades = int (pos 6)
constant_value constants.StatLossTrades = int (pos 7)
constant_value constants.StatBalanceDd = int (pos 8)
constant_value constants.StatEquityDd = int (pos 9)
-- Account Properties: double, integer, string
constant_value constants.AccountBalance = int (pos 0)
constant_value constants.AccountProfit = int (pos 1)
constant_value constants.AccountEquity = int (pos 2)
constant_value constants.AccountMargin = int (pos 3)
constant_value constants.AccountMarginFree = int (pos 4)
constant_value constants.AccountMarginLevel = int (pos 5)
constant_value constants.AccountLeverage = int (pos 0)
constant_value constants.AccountMarginMode = int (pos 1)
constant_value constants.AccountCurrency = int (pos 0)
-- Symbol Properties: double, integer
constant_value constants.SymbolBid = int (pos 0)
constant_value constants.SymbolAsk = int (pos 1)
constant_value constants.SymbolLast = int (pos 2)
constant_value constants.SymbolPoint = int (pos 3)
constant_value constants.SymbolTradeTickSize = int (pos 4)
constant_value constants.SymbolTradeTickValue = int (pos 5)
constant_value constants.SymbolTradeContractSize = int (pos 6)
constant_value constants.SymbolVolumeMin = int (pos 7)
constant_value constants.SymbolVolumeMax = int (pos 8)
constant_value constants.SymbolVolumeStep = int (pos 9)
constant_value constants.SymbolDigits = int (pos 0)
constant_value constants.SymbolSpread = int (pos 1)
constant_value constants.SymbolTradeStopsLevel = int (pos 2)
-- Position Properties: double, integer, string
constant_value constants.PositionVolume = int (pos 0)
constant_value constants.PositionPriceOpen = int (pos 1)
constant_value constants.PositionPriceCurrent = int (pos 2)
constant_value constants.PositionSl = int (pos 3)
constant_value constants.PositionTp = int (pos 4)
constant_value constants.PositionProfit = int (pos 5)
constant_value constants.PositionSwap = int (pos 6)
constant_value constants.PositionTicket = int (pos 0)
constant_value constants.PositionType = int (pos 1)
constant_value constants.PositionMagic = int (pos 2)
constant_value constants.PositionIdentifier = int (pos 3)
constant_value constants.PositionTime = int (pos 4)
constant_value constants.PositionSymbol = int (pos 0)
constant_value constants.PositionComment = int (pos 1)
constant_value constants.PositionTypeBuy = int (pos 0)
constant_value constants.PositionTypeSell = int (pos 1)
-- Order Properties: double, integer, string
constant_value constants.OrderVolumeCurrent = int (pos 0)
constant_value constants.OrderPriceOpen = int (pos 1)
constant_value constants.OrderSl = int (pos 2)
constant_value constants.OrderTp = int (pos 3)
constant_value constants.OrderPriceStoplimit = int (pos 4)
constant_value constants.OrderTicket = int (pos 0)
constant_value constants.OrderType = int (pos 1)
constant_value constants.OrderMagic = int (pos 2)
constant_value constants.OrderTimeSetup = int (pos 3)
constant_value constants.OrderTimeExpiration = int (pos 4)
constant_value constants.OrderTypeTime = int (pos 5)
constant_value constants.OrderSymbol = int (pos 0)
constant_value constants.OrderComment = int (pos 1)
constant_value constants.OrderTypeBuy = int (pos 0)
constant_value constants.OrderTypeSell = int (pos 1)
constant_value constants.OrderTypeBuyLimit = int (pos 2)
constant_value constants.OrderTypeSellLimit = int (pos 3)
constant_value constants.OrderTypeBuyStop = int (pos 4)
constant_value constants.OrderTypeSellStop = int (pos 5)
constant_value constants.OrderTypeBuyStopLimit = int (pos 6)
constant_value constants.OrderTypeSellStopLimit = int (pos 7)
constant_value constants.OrderTypeCloseBy = int (pos 8)
constant_value constants.OrderFillingFok = int (pos 0)
constant_value constants.OrderFillingIoc = int (pos 1)
constant_value constants.OrderFillingReturn = int (pos 2)
constant_value constants.OrderTimeGtc = int (pos 0)
constant_value constants.OrderTimeDay = int (pos 1)
constant_value constants.OrderTimeSpecified = int (pos 2)
constant_value constants.OrderTimeSpecifiedDay = int (pos 3)
-- Deal Properties: double, integer, string
constant_value constants.DealVolume = int (pos 0)
constant_value constants.DealPrice = int (pos 1)
constant_value constants.DealProfit = int (pos 2)
constant_value constants.DealSwap = int (pos 3)
constant_value constants.DealCommission = int (pos 4)
constant_value constants.DealTicket = int (pos 0)
constant_value constants.DealOrder = int (pos 1)
constant_value constants.DealTime = int (pos 2)
constant_value constants.DealType = int (pos 3)
constant_value constants.DealEntry = int (pos 4)
constant_value constants.DealMagic = int (pos 5)
constant_value constants.DealPositionId = int (pos 6)
constant_value constants.DealReason = int (pos 7)
constant_value constants.DealSymbol = int (pos 0)
constant_value constants.DealComment = int (pos 1)
constant_value constants.DealTypeBuy = int (pos 0)
constant_value constants.DealTypeSell = int (pos 1)
constant_value constants.DealTypeBalance = int (pos 2)
constant_value constants.DealEntryIn = int (pos 0)
constant_value constants.DealEntryOut = int (pos 1)
constant_value constants.DealEntryInout = int (pos 2)
constant_value constants.DealEntryOutBy = int (pos 3)
-- Trade Operation Types
constant_value constants.TradeActionDeal = int (pos 1)
constant_value constants.TradeActionPending = int (pos 5)
constant_value constants.TradeActionSltp = int (pos 6)
constant_value constants.TradeActionModify = int (pos 7)
constant_value constants.TradeActionRemove = int (pos 8)
constant_value constants.TradeActionCloseBy = int (pos 10)
-- Return Codes of the Trade Server
constant_value constants.TradeRetcodePlaced = int (pos 10008)
constant_value constants.TradeRetcodeDone = int (pos 10009)
constant_value constants.TradeRetcodeInvalid = int (pos 10013)
constant_value constants.TradeRetcodeInvalidVolume = int (pos 10014)
constant_value constants.TradeRetcodeInvalidPrice = int (pos 10015)
constant_value constants.TradeRetcodeInvalidStops = int (pos 10016)
constant_value constants.TradeRetcodeNoMoney = int (pos 10019)
constant_value constants.TradeRetcodePriceOff = int (pos 10021)
constant_value constants.TradeRetcodeInvalidExpiration = int (pos 10022)
constant_value constants.TradeRetcodeNoChanges = int (pos 10025)
constant_value constants.TradeRetcodeInvalidFill = int (pos 10030)
constant_value constants.TradeRetcodeLimitOrders = int (pos 10033)
constant_value constants.TradeRetcodeInvalidOrder = int (pos 10035)
constant_value constants.TradeRetcodePositionClosed = int (pos 10036)
constant_value constants.TradeRetcodeInvalidCloseVolume = int (pos 10038)
-- Chart Timeframes
constant_value constants.PeriodCurrent = int (pos 0)
constant_value constants.PeriodM1 = int (pos 1)
constant_value constants.PeriodM5 = int (pos 5)
constant_value constants.PeriodM15 = int (pos 15)
constant_value constants.PeriodM30 = int (pos 30)
constant_value constants.PeriodH1 = int (pos 16385)
constant_value constants.PeriodH4 = int (pos 16388)
constant_value constants.PeriodD1 = int (pos 16408)
-- Price Constants; Smoothing Methods
constant_value constants.PriceClose = int (pos 1)
constant_value constants.PriceOpen = int (pos 2)
constant_value constants.PriceHigh = int (pos 3)
constant_value constants.PriceLow = int (pos 4)
constant_value constants.PriceMedian = int (pos 5)
constant_value constants.PriceTypical = int (pos 6)
constant_value constants.PriceWeighted = int (pos 7)
constant_value constants.ModeSma = int (pos 0)
constant_value constants.ModeEma = int (pos 1)
constant_value constants.ModeSmma = int (pos 2)
constant_value constants.ModeLwma = int (pos 3)
-- Program Running, OnInit; Uninitialization Reason Codes
constant_value constants.InitSucceeded = int (pos 0)
constant_value constants.InitFailed = int (pos 1)
constant_value constants.InitParametersIncorrect = int (pos 2)
constant_value constants.InitAgentNotSuitable = int (pos 3)
constant_value constants.ReasonProgram = int (pos 0)
constant_value constants.ReasonRemove = int (pos 1)
constant_value constants.ReasonInitfailed = int (pos 8)
-- Other Constants
constant_value constants.InvalidHandle = int (negsuc 0)
constant_value constants.WholeArray = int (negsuc 0)
-- Numerical Type Constants; Other Constants
constant_value constants.IntMin = int (negsuc 2147483647)
constant_value constants.IntMax = int (pos 2147483647)
constant_value constants.UintMax = uint (pos 4294967295)
constant_value constants.LongMin = long (negsuc 9223372036854775807)
constant_value constants.LongMax = long (pos 9223372036854775807)
constant_value constants.UlongMax = ulong (pos 18446744073709551615)
constant_value constants.DblMax = double (pos 9223372036854775807)
constant_value constants.EmptyValue = double (pos 9223372036854775807)
-- Web Colors
constant_value constants.ClrBlack = color (pos 0)
constant_value constants.ClrWhite = color (pos 16777215)
constant_value constants.ClrRed = color (pos 255)
constant_value constants.ClrGreen = color (pos 32768)
constant_value constants.ClrBlue = color (pos 16711680)
constant_value constants.ClrYellow = color (pos 65535)
