use Rattle.std.proofs.Common.{◌≡◌, ℕ, arith, sym, ap, ◌∙◌, ◌+◌, ◌++◌, [], ◌∷◌, map, take, drop}
use Rattle.std.specs.List.{flat_map}
use Rattle.std.proofs.lemmas.List.{drop_all}
use Rattle.std.proofs.lemmas.Grind.{common_steps}
use Rattle.mql_names.specs.Maps.{meaning}
use Rattle.mql_names.specs.Things.{variable_name, param_variable, shares, behind}
use Rattle.mql_walk.specs.Things.{variables_things, list_things, all_behind}
use Rattle.mql_walk.specs.Things as thing
use Rattle.mql_walk.proofs.Joined.{front_stays, front_of_variables, statement_kind, statement_locals, statement_parts}
use Rattle.mql_sizes.specs.Maps.{value_at}
use Rattle.mql_sizes.proofs.Held.{from_place}
use Rattle.mql_decls.specs.Declarations as spec
use Rattle.mql_decls.specs.Makes.{finding}
use Rattle.mql_decls.proofs.StaticThings.{name_more, names_done, behind_more, variable_more, statement_more, variables_done, statements_done, whole_statement, whole_function}
use Rattle.mql_decls.proofs.statics.+statics.Goals as goal

pub with_each-loop-s-preserved : goal.with_each-loop-s-preserved
with_each-loop-s-preserved t c =
    let f = c.args.finder.now in
    let ss = c.args.parts.now in
    let n = c.loop-s.s-index in
    let s = c.s-item.result in
    let e = from_place ss n s c.loop-s-test.true c.s-item.is in
    let m = c.in_ok-inner.ensures ∙ ap (λ ls. behind c.args.shared ls s) c.in_ok-more.ensures.1 in (
      statement_more (meaning f.maker.now.names.now) (value_at f.maker.now.values.now) f.item f.key.now c.args.shared (drop n ss) (drop (n + 1) ss) s c.loop-s.inner c.in_ok-inner.inner c.loop-s.found c.in_ok-more.more _
          e c.in_ok-more.ensures.0 m c.loop-s.invariant.0,
      behind_more c.args.shared (drop n ss) (drop (n + 1) ss) s c.loop-s.inner c.in_ok-inner.inner _ e m c.loop-s.invariant.1,
    )

pub with_each-returns : goal.with_each-returns
with_each-returns t c =
    let f = c.args.finder.now in
    let e = drop_all c.loop-s.s-index c.args.parts.now c.loop-s-test.false in (
      statements_done (meaning f.maker.now.names.now) (value_at f.maker.now.values.now) f.item f.key.now c.args.shared _ c.loop-s.inner c.loop-s.found _ e c.loop-s.invariant.0,
      ap (all_behind c.args.shared c.loop-s.inner) (sym e) ∙ c.loop-s.invariant.1,
    )

pub with_parts-returns : goal.with_parts-returns
with_parts-returns t c = (
  c.in_ok-new.ensures.0,
  c.truncate.ensures ∙ ap (λ (n : ℕ). take n c.in_ok-new.behind) c.len-count.ensures ∙ ap (take _) c.in_ok-new.ensures.1 ∙ front_stays c.args.shared c.args.locals c.args.parts.now,
)

pub with_statement-returns : goal.with_statement-returns
with_statement-returns t c =
    let f = c.args.finder.now in
    let s = c.args.s.now in
    let e1 : c.as_slice.result.now ≡ statement_locals s = grind (arith, common_steps) in
    let e2 : c.shares.result ≡ shares (statement_kind s) = grind (arith, common_steps) in
    let e4 : c.as_slice-2.result.now ≡ statement_parts s = grind (arith, common_steps) in
    let own = c.in_ok-own.ensures in
    let all = c.in_ok-all.ensures in (
      whole_statement (meaning f.maker.now.names.now) (value_at f.maker.now.values.now) f.item f.key.now s c.args.locals c.in_ok-own.locals c.args.found c.in_ok-own.own c.in_ok-all.all
          c.as_slice.result.now c.shares.result c.as_slice-2.result.now e1 e2 own.1 e4 own.0 all.0,
      all.1 ∙ own.1,
    )
