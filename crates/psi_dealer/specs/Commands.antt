-- The commands that write deal files.
use Rattle.std.specs.Prelude.{List, [], ◌∷◌, codes, false}
use Rattle.psi_words.specs.Words.{Forms, alone, are_sizes, is_name, is_output, is_seed, is_session}
use Rattle.psi_walk.specs.Command.{Command}
use Rattle.psi_dealer.specs.Deal.{DealPromise, deal_tree}
use Rattle.psi_dealer.specs.Renew.{renew_tree}
use Rattle.psi_dealer.specs.RenewPromises.{RenewPromise}

-- the words after `deal`: the seed, the session, the sizes, the receiver's file and the sender's file
abbrev pub deal_forms : Forms
deal_forms = record {
  needed = alone is_seed ∷ alone is_session ∷ alone are_sizes ∷ alone is_name ∷ is_output 4 5 ∷ [];
  optional = [];
}

-- the words after `renew`: the deal file of version 1, and the one of version 2, which is another file
abbrev pub renew_forms : Forms
renew_forms = record { needed = alone is_name ∷ is_output 1 2 ∷ []; optional = [] }

abbrev pub command_deal : Command
command_deal = record {
  name = codes "deal";
  forms = deal_forms;
  steps = deal_tree;
  both_ends = false;
  promise = λ known words before end. DealPromise words before end;
}

abbrev pub command_renew : Command
command_renew = record {
  name = codes "renew";
  forms = renew_forms;
  steps = λ words. renew_tree;
  both_ends = false;
  promise = RenewPromise;
}

-- all of them
abbrev pub dealer_commands : List Command
dealer_commands = command_deal ∷ command_renew ∷ []
