-- The promise of `make` in its own words.
use Rattle.std.proofs.Common.{ℕ, List, false, ap}
use Rattle.psi_base.specs.Outside.{Known, Outside}
use Rattle.psi_walk.specs.Tree.{End}
use Rattle.psi_local.specs.Make.{MakePromise, make_tree}
use Rattle.psi_walk.specs.Walk.{Runs}
use Rattle.psi_walk.proofs.Left.{follows_leaves}
use Rattle.psi_walk.proofs.Wired.{ends_wired, runs_unwired}
use Rattle.psi_walk.specs.Command.{Keeps}
use Rattle.psi_local.specs.Commands.{command_make}

make_promise : (known : Known) (words : List (List ℕ)) (before : Outside) (end : End) → Runs known words (make_tree words) before end → MakePromise words before end
make_promise known words before end h = record {
  writes = λ done. ap (λ (e : End). e.left) (follows_leaves known words false (make_tree words) before end done h);
}

pub make_keeps : (known : Known) (words : List (List ℕ)) (before : Outside) (end : End) → Runs known words (make_tree words) before end
    → Keeps command_make known words before end
make_keeps known words before end h = record { promise = make_promise known words before end h; wire = runs_unwired known words (make_tree words) before end (ends_wired false _) h }
