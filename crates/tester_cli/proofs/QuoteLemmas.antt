-- The symbol of the market of `quick`, and the report over its quotes.
use Rattle.std.proofs.Common.{◌≡◌, ℕ, List, [], ◌∷◌, arith, subst}
use Rattle.std.specs.Prelude.{codes}
use Rattle.std.proofs.lemmas.List.Elements.{All-cons}
use Rattle.mql_meaning.specs.declared.tree.Checked.{Checked}
use Rattle.mql_meaning.specs.declared.store.SetInput.{SetInput}
use Rattle.stack_code.specs.declared.code.Code.{Code}
use Rattle.stack_follows.specs.Stands.{Stands}
use Rattle.market_types.specs.declared.bar.Bar.{Bar}
use Rattle.market_types.specs.declared.quote.Quote.{Quote}
use Rattle.market_types.specs.Ranges.{IsSymbolName, IsNameCharacter}
use Rattle.tester_pass.specs.declared.result.PassResult.{PassResult}
use Rattle.tester_pass.specs.Pass.{Passes, of_code, of_source}
use Rattle.tester_cli.specs.Report.{IsReport}
use Rattle.tester_cli.specs.Commands.{opening_quotes, Reports}

letters : IsSymbolName (codes "SYMBOL")
letters = record {
  some = omega arith;
  few = omega arith;
  characters =
      All-cons IsNameCharacter 83 (89 ∷ 77 ∷ 66 ∷ 79 ∷ 76 ∷ []) (omega arith, omega arith)
      (All-cons IsNameCharacter 89 (77 ∷ 66 ∷ 79 ∷ 76 ∷ []) (omega arith, omega arith)
      (All-cons IsNameCharacter 77 (66 ∷ 79 ∷ 76 ∷ []) (omega arith, omega arith)
      (All-cons IsNameCharacter 66 (79 ∷ 76 ∷ []) (omega arith, omega arith)
      (All-cons IsNameCharacter 79 (76 ∷ []) (omega arith, omega arith)
      (All-cons IsNameCharacter 76 [] (omega arith, omega arith) (λ k d small. absurd (omega (arith, small))))))));
}

-- the symbol of `quick` has a name
pub symbol_name : (name : List ℕ) → name ≡ codes "SYMBOL" → IsSymbolName name
symbol_name name e = rw e letters

-- the report of a pass over the quotes of the bars, of code that passes as a source
pub reports_over : (checked : Checked) (code : Code) (bars : List Bar) (quotes : List Quote) (set : List SetInput) (result : PassResult) (text : List ℕ)
    → ((p : Checked) (c : Code) → Stands p c → (set : List SetInput) (qs : List Quote) (r : PassResult) → Passes (of_code c) set qs r → Passes (of_source p) set qs r)
    → Stands checked code → quotes ≡ opening_quotes bars → set ≡ [] → Passes (of_code code) set quotes result → IsReport result text → Reports checked bars text
reports_over checked code bars quotes set result text same stands e none passes is =
    record {
      result = result;
      passes = subst (λ (q : List Quote). Passes (of_source checked) [] q result) e
          (subst (λ (l : List SetInput). Passes (of_source checked) l quotes result) none (same checked code stands set quotes result passes));
      is_report = is;
    }
