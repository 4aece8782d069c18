-- The arguments of ArrayCopy as the code has them.
use Rattle.std.specs.Prelude.{List, [], ◌∷◌}
use Rattle.mql_meaning.specs.Natives.{Argument}
use Rattle.store_places.specs.Seen.{seen}
use Rattle.native_arguments.specs.Arguments.{shown}
use Rattle.native_array_functions.specs.declared.copy_arguments.CopyArguments.{CopyArguments}
use Rattle.native_array_functions.specs.declared.copy_arguments.FiveArguments.{FiveArguments}
use Rattle.native_array_functions.specs.Reading.{CopyRead}

abbrev pub copy_read : CopyArguments → CopyRead
copy_read r =
    record { target = seen r.target; source = seen r.source; at = r.at; start = r.start; count = r.count }

abbrev pub five_shown : FiveArguments → List Argument
five_shown t = shown t.first ∷ shown t.second ∷ shown t.third ∷ shown t.fourth ∷ shown t.fifth ∷ []
