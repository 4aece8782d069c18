use Rattle.std.proofs.lemmas.Result.{err_from_is_err_and}
use Rattle.std.proofs.Common.{◌∙◌}
use Rattle.tester_sources.specs.Judging.{tree_plan}
use Rattle.tester_sources.proofs.JudgeLemmas.{tree_refused}
use Rattle.tester_cli.specs.Commands.{check_tree}
use Rattle.tester_cli.proofs.RunLemmas.{sources_refused, behind_refused, check_given, check_refused}
use Rattle.tester_cli.proofs.check.check.Goals as goal

pub returns-in_err-sources-clause-refused : goal.returns-in_err-sources-clause-refused
returns-in_err-sources-clause-refused g c =
    let p = err_from_is_err_and c.from_residual-in_err-sources.result c.from_residual-in_err-sources.ensures.1 in
    let r = rw c.in_ok-name.ensures at c.in_err-sources.ensures.refused in
    rw (p.1, p.2)
    (sources_refused c.args.entry.now (tree_plan c.args.entry.now (check_tree c.args.entry.now)) (g.F.Files.seen c.args.files.now)
    (g.F.Files.seen c.read_sources.new.files)
    _ r)

pub returns-in_err-tree-clause-refused : goal.returns-in_err-tree-clause-refused
returns-in_err-tree-clause-refused g c =
    let p = err_from_is_err_and c.from_residual-in_err-tree.result c.from_residual-in_err-tree.ensures.1 in
    let turns = rw c.in_ok-name.ensures at c.in_ok-sources.ensures.read in
    let makes = rw c.in_ok-name.ensures at c.in_ok-sources.ensures.tokens in
    let refused = rw c.in_ok-name.ensures at c.in_err-tree.ensures.refused in
    let now = (g.F.Files.seen c.read_sources.new.files) in
    rw (p.1, p.2)
    (behind_refused c.args.entry.now c.in_ok-sources.sources c.in_ok-sources.tokens (tree_plan c.args.entry.now (check_tree c.args.entry.now)) (g.F.Files.seen c.args.files.now) now now
    _ turns c.in_ok-sources.ensures.few makes c.in_ok-sources.ensures.only_read
    (tree_refused c.args.entry.now c.in_ok-sources.sources c.in_ok-sources.tokens (check_tree c.args.entry.now) now now _ refused))

pub returns-clause-ready : goal.returns-clause-ready
returns-clause-ready g c =
    let turns = rw c.in_ok-name.ensures at c.in_ok-sources.ensures.read in
    let makes = rw c.in_ok-name.ensures at c.in_ok-sources.ensures.tokens in
    check_given c.args.entry.now c.in_ok-sources.sources c.in_ok-sources.tokens c.in_ok-tree.tree (g.F.Files.seen c.args.files.now).told c.in_ok-text.text turns c.in_ok-sources.ensures.few makes c.in_ok-tree.ensures.tree c.in_ok-judge_rules.ensures.kept (c.in_ok-text.ensures ∙ c.as_slice.ensures)

pub returns-in_err-judge_rules-clause-refused : goal.returns-in_err-judge_rules-clause-refused
returns-in_err-judge_rules-clause-refused g c =
    let p = err_from_is_err_and c.from_residual-in_err-judge_rules.result c.from_residual-in_err-judge_rules.ensures.1 in
    let turns = rw c.in_ok-name.ensures at c.in_ok-sources.ensures.read in
    let makes = rw c.in_ok-name.ensures at c.in_ok-sources.ensures.tokens in
    let refused = rw c.in_ok-name.ensures at c.in_err-judge_rules.ensures.refused in
    let now = (g.F.Files.seen c.read_sources.new.files) in
    rw (p.1, p.2)
    (behind_refused c.args.entry.now c.in_ok-sources.sources c.in_ok-sources.tokens (tree_plan c.args.entry.now (check_tree c.args.entry.now)) (g.F.Files.seen c.args.files.now) now now
    _ turns c.in_ok-sources.ensures.few makes c.in_ok-sources.ensures.only_read
    (check_refused c.args.entry.now c.in_ok-sources.sources c.in_ok-sources.tokens c.in_ok-tree.tree now now _ c.in_ok-tree.ensures.tree refused))
