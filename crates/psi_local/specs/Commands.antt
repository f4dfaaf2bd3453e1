-- The commands that run both ends of a session in one run, and the one that makes lists for them.
use Rattle.std.specs.Prelude.{List, [], ◌∷◌, codes, true, false}
use Rattle.psi_words.specs.Words.{Forms, alone, are_sizes, is_count, is_name, is_output, is_seed, is_session, is_shared}
use Rattle.psi_walk.specs.Command.{Command}
use Rattle.psi_local.specs.Local.{local_tree}
use Rattle.psi_local.specs.LocalPromises.{LocalPromise}
use Rattle.psi_local.specs.Make.{MakePromise, make_tree}
use Rattle.psi_local.specs.Trial.{trial_tree}
use Rattle.psi_local.specs.TrialPromises.{TrialPromise}

-- the words after `local`: the receiver's file, the sender's file, the seed, the session and the sizes; and, where it
-- is there, the record, which is neither file
abbrev pub local_forms : Forms
local_forms = record {
  needed = alone is_name ∷ alone is_name ∷ alone is_seed ∷ alone is_session ∷ alone are_sizes ∷ [];
  optional = is_output 1 3 ∷ [];
}

-- the words after `make`: the number of items, of those in both files, the number of the files, and the two files
abbrev pub make_forms : Forms
make_forms = record {
  needed = alone is_count ∷ is_shared ∷ alone is_session ∷ alone is_name ∷ is_output 4 5 ∷ [];
  optional = [];
}

-- the words after `trial`: the number of items, of those in both files, and the seed
abbrev pub trial_forms : Forms
trial_forms = record { needed = alone is_count ∷ is_shared ∷ alone is_seed ∷ []; optional = [] }

abbrev pub command_local : Command
command_local = record {
  name = codes "local";
  forms = local_forms;
  steps = local_tree;
  both_ends = true;
  promise = LocalPromise;
}

abbrev pub command_make : Command
command_make = record {
  name = codes "make";
  forms = make_forms;
  steps = make_tree;
  both_ends = false;
  promise = λ known words before end. MakePromise words before end;
}

abbrev pub command_trial : Command
command_trial = record {
  name = codes "trial";
  forms = trial_forms;
  steps = trial_tree;
  both_ends = true;
  promise = λ known words before end. TrialPromise words before end;
}

-- all of them
abbrev pub local_commands : List Command
local_commands = command_local ∷ command_make ∷ command_trial ∷ []
