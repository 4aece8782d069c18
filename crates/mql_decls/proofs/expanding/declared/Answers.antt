use Rattle.std.proofs.Common.{◌∙◌, sym, ap}
use Rattle.mql_decls.proofs.Joined.{made}
use Rattle.mql_decls.proofs.expanding.declared.Goals as goal

pub returns : goal.returns
returns c =
    let r = c.in_ok-enumerations.ensures in
    made c.args.syntax.now c.as_slice-items.result.now c.in_ok-names.names c.in_ok-enumerations.values c.in_ok-enumerations.enumerations
    c.in_ok-structures.structures c.in_ok-functions.functions c.in_ok-globals.globals c.in_ok-statics.statics
    c.as_slice-items.ensures c.in_ok-names.ensures r.0 r.1 c.in_ok-structures.ensures c.in_ok-functions.ensures c.in_ok-globals.ensures c.in_ok-statics.ensures
