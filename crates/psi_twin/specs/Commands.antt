-- The command that shows what a receiver's columns hide.
use Rattle.std.specs.Prelude.{List, [], ◌∷◌, codes, false}
use Rattle.psi_words.specs.Words.{Forms, alone, is_name, is_output}
use Rattle.psi_walk.specs.Command.{Command}
use Rattle.psi_twin.specs.Twin.{twin_tree}
use Rattle.psi_twin.specs.TwinPromises.{TwinPromise}

-- the words after `twin`: both item files, both deal files, and the two files that are written, of which each is no
-- file before it
abbrev pub twin_forms : Forms
twin_forms = record {
  needed = alone is_name ∷ alone is_name ∷ alone is_name ∷ alone is_name ∷ is_output 1 5 ∷ is_output 1 6 ∷ [];
  optional = [];
}

abbrev pub command_twin : Command
command_twin = record {
  name = codes "twin";
  forms = twin_forms;
  steps = λ words. twin_tree;
  both_ends = false;
  promise = TwinPromise;
}

-- all of them
abbrev pub twin_commands : List Command
twin_commands = command_twin ∷ []
