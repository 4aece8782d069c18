use Rattle.std.proofs.Common.{◌≡◌, List, ◌++◌, arith, sym, ap, ◌∙◌, append_assoc, append-nil}
use Rattle.std.proofs.lemmas.Grind.{common_steps}
use Rattle.mql_scope.specs.declared.context.Known.{Known}
use Rattle.mql_scope.specs.Places.{context_at}
use Rattle.mql_statements.specs.declared.told.Told.{Told}
use Rattle.mql_statements.specs.Told.{then_told, behind_told}
use Rattle.mql_starts.specs.Declarations.{declares, declares_all}
use Rattle.mql_statements.specs.Told.{in_force}
use Rattle.mql_starts.proofs.Declarations.{all_begins, all_more}
use Rattle.mql_starts.proofs.declaring.declares_all.Goals as goal

pub loop-v-init : goal.loop-v-init
loop-v-init g c =
    let d = in_force (context_at g.P.ProgramFacts.program c.args.here.now) c.args.locals in
    record {
      known = sym (append-nil c.args.locals) ∙ ap (λ (t : Told). c.args.locals ++ t.declared) (sym c.nothing_told-all.ensures);
      left = ap (λ (t : Told). then_told t (declares_all (behind_told t d) c.args.variables.now)) c.nothing_told-all.ensures
          ∙ all_begins d c.args.variables.now;
    }

pub loop-v-preserved : goal.loop-v-preserved
loop-v-preserved g c =
    let x = context_at g.P.ProgramFacts.program c.args.here.now in
    let all = c.loop-v.all in
    let known : c.as_slice.result.now ≡ c.loop-v.known = grind (arith, common_steps) in
    let declared : c.as_slice-in-loop-v.result.now ≡ c.in_ok-t.t.declared = grind (arith, common_steps) in
    let told = c.in_ok-t.ensures ∙ ap (λ (ks : List Known). declares (in_force (behind_told all x) ks) c.v-item.result) known in
    record {
      known = c.in_ok-known.ensures ∙ ap (λ (ks : List Known). ks ++ c.as_slice-in-loop-v.result.now) c.loop-v.invariant.known
          ∙ append_assoc c.args.locals all.declared c.as_slice-in-loop-v.result.now
          ∙ ap (λ (ks : List Known). c.args.locals ++ (all.declared ++ ks)) declared
          ∙ ap (λ (t : Told). c.args.locals ++ t.declared) (sym c.in_ok-all.ensures);
      left = all_more x c.args.locals c.loop-v.known c.args.variables.now c.loop-v.v-index c.v-item.result all c.in_ok-t.t c.in_ok-all.all
          c.loop-v-test.true c.v-item.is c.loop-v.invariant.known told c.in_ok-all.ensures ∙ c.loop-v.invariant.left;
    }
