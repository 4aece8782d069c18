-- The line of a quote. Own, with MQL5 Reference, structure MqlTick.
use Rattle.std.specs.Prelude.{◌≡◌, ℕ, Bool, true, false, List, [], ◌∷◌, ◌++◌, codes, Option, Some, option_map, slice_get}
use Rattle.fx8.specs.Decimals.{text_of}
use Rattle.market_types.specs.declared.quote.Quote.{Quote}
use Rattle.market_data.specs.declared.market.Listed.{Listed}
use Rattle.market_data.specs.Markets.{Listing}
use Rattle.report.specs.Times.{IsTimeText}

-- a quote that the expert sees is loud
abbrev pub loudness : Bool → List ℕ
loudness true = codes "loud"
loudness false = codes "silent"

-- Bid, Ask, last price and volume, each after a blank
unfoldable pub prices_text : Quote → List ℕ
prices_text quote =
    32 ∷ text_of quote.bid ++ 32 ∷ text_of quote.ask ++ 32 ∷ text_of quote.last ++ 32 ∷ text_of quote.volume

-- the line of a quote: its time, the symbol, the prices, and whether it is loud, with blanks between them
pub record IsQuoteLine (name : List ℕ) (quote : Quote) (line : List ℕ) : Type 0 where
  pub time : List ℕ
  pub is_time : IsTimeText quote.time_ms time
  pub is : line ≡ time ++ (32 ∷ name ++ (prices_text quote ++ (32 ∷ loudness quote.loud ++ 10 ∷ [])))

-- the name of a symbol of a market
abbrev pub name_in : Listing → ℕ → Option (List ℕ)
name_in market symbol = option_map (λ (l : Listed). l.spec.name) (slice_get market.listed symbol)

-- the line of a quote of a market, which names the quote's symbol
pub record IsLineIn (market : Listing) (quote : Quote) (line : List ℕ) : Type 0 where
  pub name : List ℕ
  pub named : name_in market quote.symbol ≡ Some name
  pub is : IsQuoteLine name quote line

-- the lines of quotes of a market, one after another
abbrev pub AreQuoteLines : Listing → List Quote → List ℕ → Type 0
AreQuoteLines market [] text = text ≡ []
AreQuoteLines market (quote ∷ more) text =
    (line rest : List ℕ) × IsLineIn market quote line × AreQuoteLines market more rest × (text ≡ line ++ rest)
