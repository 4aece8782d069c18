-- What a maker of forms knows. (No definition for readers.)
use Rattle.std.specs.Prelude.{List}
use Rattle.mql_names.specs.Types.{Names}
use Rattle.mql_names.specs.Maps.{meaning}
use Rattle.mql_walk.specs.Things.{Thing}
use Rattle.mql_sizes.specs.Members.{Values}
use Rattle.mql_sizes.specs.Maps.{value_at}
use Rattle.mql_decls.specs.declared.maker.Maker.{Maker}
use Rattle.mql_decls.specs.declared.maker.Finder.{Finder}
use Rattle.mql_decls.specs.declared.forms.StaticForm.{StaticForm}
use Rattle.mql_decls.specs.Declarations.{static_in}

-- a definition, where names and members of enumerations mean what a maker knows
abbrev pub knowing : {A : Type 0} → Maker → (Names → Values → A) → A
knowing m declares = declares (meaning m.names.now) (value_at m.values.now)

-- the static variables that a finder finds
abbrev pub finding : Finder → Thing → List StaticForm
finding f = knowing f.maker.now static_in f.item f.key.now
