use Rattle.std.proofs.Common.{◌≡◌, None, sym, subst}
use Rattle.settings_file.specs.Symbols.{odd_volumes_from}
use Rattle.settings_file.proofs.Judged.{all_specs}
use Rattle.settings_file.proofs.judging.judged.Goals as goal

pub returns-in-None-clause-range : goal.returns-in-None-clause-range
returns-in-None-clause-range c =
    all_specs 0 c.args.symbols (subst (λ x. odd_volumes_from 0 x ≡ None) c.as_slice-2.ensures (sym c.in-None.ensures)) c.requires
