-- All that `receive` promises.
use Rattle.std.proofs.Common.{ℕ, List, false}
use Rattle.psi_base.specs.Outside.{Known, Outside}
use Rattle.psi_link.specs.HidingPromises.{ReceivePromise}
use Rattle.psi_link.specs.Receive.{receive_rest, receive_tree, shows_and_keeps}
use Rattle.psi_walk.specs.Placing.{placing_of}
use Rattle.psi_walk.specs.Tree.{End, places}
use Rattle.psi_walk.specs.Walk.{Runs}
use Rattle.psi_walk.proofs.Left.{follows_leaves}
use Rattle.psi_walk.proofs.Wired.{MayBeWired, ends_wired, items_wired, receiver_wired, runs_unwired}
use Rattle.psi_link.proofs.HidingLaws.{answered_hidden}
use Rattle.psi_link.proofs.HonestLaws.{found_common}
use Rattle.psi_link.proofs.ReceiveLaws.{receive_answers, receive_serves}
use Rattle.psi_walk.specs.Command.{Keeps}
use Rattle.psi_link.specs.Commands.{command_receive}

receive_unwired : (words : List (List ℕ)) → MayBeWired false (receive_tree words)
unfolding MayBeWired
receive_unwired words =
    items_wired false 2 _ (λ xs. receiver_wired false 3 (λ deal. places 2 (placing_of deal xs) (λ slots. receive_rest words xs deal slots))
    (λ deal slots taken. ends_wired false (shows_and_keeps xs deal slots taken)))

receive_promise : (known : Known) (words : List (List ℕ)) (before : Outside) (end : End) → Runs known words (receive_tree words) before end → ReceivePromise known words before end
receive_promise known words before end h =
    let answers = receive_answers known words before end h in
    record {
      answers = answers;
      finds = λ done. found_common known words before end (follows_leaves known words false (receive_tree words) before end done h);
      hides = answered_hidden known words before end.placed end.status end.left answers;
      serves = receive_serves known words before end h;
    }

pub receive_keeps : (known : Known) (words : List (List ℕ)) (before : Outside) (end : End) → Runs known words (receive_tree words) before end
    → Keeps command_receive known words before end
receive_keeps known words before end h = record { promise = receive_promise known words before end h; wire = runs_unwired known words (receive_tree words) before end (receive_unwired words) h }
