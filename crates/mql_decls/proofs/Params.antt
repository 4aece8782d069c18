-- Parameters one after another.
use Rattle.std.proofs.Common.{◌≡◌, List, [], ◌∷◌, ◌++◌, sym, ap, ◌∙◌}
use Rattle.std.proofs.lemmas.List.{append-nil, append_assoc}
use Rattle.mql_syntax.specs.declared.declaration.Param.{Param}
use Rattle.mql_names.specs.Scopes.{Name}
use Rattle.mql_names.specs.Types.{Names}
use Rattle.mql_sizes.specs.Members.{Values}
use Rattle.mql_decls.specs.declared.forms.ParamForm.{ParamForm}
use Rattle.mql_decls.specs.Declarations.{param_form, params_from}

pub one_more : (names : Names) (values : Values) (qs rest : List Param) (q : Param) (locals inner : List Name) (found new all : List ParamForm)
    → qs ≡ q ∷ rest → new ≡ found ++ param_form names values locals q ∷ [] → inner ≡ locals ++ q.variable.name ∷ []
    → found ++ params_from names values locals qs ≡ all → new ++ params_from names values inner rest ≡ all
one_more names values qs rest q locals inner found new all e k m done =
    ap (λ xs. xs ++ params_from names values inner rest) k
    ∙ append_assoc found (param_form names values locals q ∷ []) (params_from names values inner rest)
    ∙ ap (λ ls. found ++ param_form names values locals q ∷ params_from names values ls rest) m
    ∙ ap (λ xs. found ++ params_from names values locals xs) (sym e) ∙ done

pub all_done : (names : Names) (values : Values) (qs : List Param) (locals : List Name) (found all : List ParamForm)
    → qs ≡ [] → found ++ params_from names values locals qs ≡ all → found ≡ all
all_done names values qs locals found all e done =
    sym (append-nil found) ∙ ap (λ xs. found ++ params_from names values locals xs) (sym e) ∙ done
