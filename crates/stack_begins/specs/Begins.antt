-- Parts of the beginning of a program.
use Rattle.std.specs.Prelude.{ℕ, ◌+◌, true, List, [], None}
use Rattle.mql_mean.specs.declared.value.Value.{Value}
use Rattle.mql_meaning.specs.declared.cell.Cell.{Cell}
use Rattle.mql_meaning.specs.declared.store.SetInput.{SetInput}
use Rattle.mql_meaning.specs.declared.tree.Checked.{Checked}
use Rattle.mql_meaning.specs.declared.tree.Class.{Class}
use Rattle.mql_meaning.specs.declared.tree.Input.{Input}
use Rattle.mql_meaning.specs.declared.types.VarType.{VarType}
use Rattle.mql_meaning.specs.Changes.{Change, ◌>>=◌, ◌>>◌, the_store}
use Rattle.mql_meaning.specs.Cells.{total}
use Rattle.mql_meaning.specs.Places.{counts, write}
use Rattle.mql_meaning.specs.Objects.{for_all, new_object}
use Rattle.mql_meaning.specs.Operands.{literal}
use Rattle.mql_meaning.specs.Frames.{global_place, write_inputs}

-- a program of these parts, which has no functions; its beginning looks at none
abbrev pub program : List Class → List VarType → List Input → Checked
program classes globals inputs =
    record {
      classes = classes;
      functions = [];
      globals = globals;
      inputs = inputs;
      entries =
          record {
            start = None;
            init = None;
            tick = None;
            trade = None;
            tester = None;
            deinit = None;
            stop = None;
          };
    }

-- the cells of variables are counted
abbrev pub counts_more : List Cell → Change (Unit {0})
counts_more cells = the_store >>= λ before. counts (before.cells + total cells)

-- an input gets a value
abbrev pub sets_input : Value → ℕ → Change (Unit {0})
sets_input value global = literal value >>= λ v. write v (global_place global)

-- globals of object type get their objects, and inputs their values, of which these were set
abbrev pub fills : Checked → List SetInput → Change (Unit {0})
fills p set = for_all (new_object p.classes true) global_place 0 p.globals >> write_inputs set p.inputs
