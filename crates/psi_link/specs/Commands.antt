-- The commands of both ends of a session over a link.
use Rattle.std.specs.Prelude.{List, [], ◌∷◌, codes, false}
use Rattle.psi_words.specs.Words.{Forms, alone, is_name, is_output}
use Rattle.psi_walk.specs.Command.{Command}
use Rattle.psi_link.specs.HidingPromises.{ReceivePromise}
use Rattle.psi_link.specs.Receive.{receive_tree}
use Rattle.psi_link.specs.Send.{send_tree}
use Rattle.psi_link.specs.SendPromises.{SendPromise}

-- the words after `send`: the address, the sender's file, the sender's deal file
abbrev pub send_forms : Forms
send_forms = record { needed = alone is_name ∷ alone is_name ∷ alone is_name ∷ []; optional = [] }

-- the words after `receive`: the address, the receiver's file, its deal file, and the record, which is neither
abbrev pub receive_forms : Forms
receive_forms = record { needed = alone is_name ∷ alone is_name ∷ alone is_name ∷ is_output 2 4 ∷ []; optional = [] }

abbrev pub command_send : Command
command_send = record {
  name = codes "send";
  forms = send_forms;
  steps = send_tree;
  both_ends = false;
  promise = SendPromise;
}

abbrev pub command_receive : Command
command_receive = record {
  name = codes "receive";
  forms = receive_forms;
  steps = receive_tree;
  both_ends = false;
  promise = ReceivePromise;
}

-- all of them
abbrev pub link_commands : List Command
link_commands = command_send ∷ command_receive ∷ []
