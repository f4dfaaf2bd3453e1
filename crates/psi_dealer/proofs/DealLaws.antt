-- The promise of `deal` in its own words.
use Rattle.std.proofs.Common.{ℕ, List, false, ap}
use Rattle.psi_base.specs.Outside.{Known, Outside}
use Rattle.psi_dealer.specs.Deal.{DealPromise, deal_tree}
use Rattle.psi_walk.specs.Tree.{End}
use Rattle.psi_walk.specs.Walk.{Runs}
use Rattle.psi_walk.proofs.Left.{follows_leaves}
use Rattle.psi_walk.proofs.Wired.{ends_wired, runs_unwired}
use Rattle.psi_walk.proofs.WordDeals.{named_pair}
use Rattle.psi_walk.specs.Command.{Keeps}
use Rattle.psi_dealer.specs.Commands.{command_deal}

deal_promise : (known : Known) (words : List (List ℕ)) (before : Outside) (end : End) → Runs known words (deal_tree words) before end → DealPromise words before end
deal_promise known words before end h = record {
  writes = λ done. record { pair = named_pair words 1; left = ap (λ (e : End). e.left) (follows_leaves known words false (deal_tree words) before end done h) };
}

pub deal_keeps : (known : Known) (words : List (List ℕ)) (before : Outside) (end : End) → Runs known words (deal_tree words) before end
    → Keeps command_deal known words before end
deal_keeps known words before end h = record { promise = deal_promise known words before end h; wire = runs_unwired known words (deal_tree words) before end (ends_wired false _) h }
