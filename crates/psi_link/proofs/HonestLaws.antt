-- What `receive` prints for an honest peer.
use Rattle.std.proofs.Common.{◌≡◌, ℕ, List, length, map, Contains, sym, ap, subst}
use Rattle.psi_spec.specs.Deals.{ReceiverDeal, SenderDeal, IsReceiverDeal}
use Rattle.psi_spec.specs.Hits.{hit_items, receiver_side}
use Rattle.psi_spec.specs.Limits.{bins_for}
use Rattle.psi_spec.specs.Meeting.{placed_of, shown}
use Rattle.psi_spec.specs.Placement.{Slot, IsPlacementOf}
use Rattle.psi_spec.specs.SessionLaws.{pair_setup}
use Rattle.psi_spec.specs.Texts.{lines_text}
use Rattle.psi_spec.proofs.Dealing.{length-placement}
use Rattle.psi_spec.proofs.Finding.{pairs_find_shown}
use Rattle.psi_spec.proofs.Placing.{items_of-placed_of}
use Rattle.psi_base.specs.Outside.{Known, Outside}
use Rattle.psi_receiver.specs.Laws.{IsStreamFor}
use Rattle.psi_receiver.proofs.Hearing.{width_of}
use Rattle.psi_link.specs.ReceivePromises.{IsHonest, ShowsCommonItems, hit_lines, FoundCommon}
use Rattle.psi_walk.specs.Tree.{End}
use Rattle.psi_link.proofs.ReceiveLaws.{receive_leaves}
use Rattle.psi_walk.proofs.JudgedFiles.{receiver_deal_of}
use Rattle.psi_link.specs.Receive.{receive_tree}
use Rattle.psi_walk.specs.Promises.{Leaves}

-- the items that are hit in an honest peer's lists are those that are shown
finds_common : (deal : ReceiverDeal) (xs : List (List ℕ)) (slots : List Slot) (count : ℕ) (lists : List (List (List ℕ))) (taken : List ℕ) → IsReceiverDeal deal
    → IsPlacementOf deal.stash deal.key (bins_for (length xs)) xs slots → IsStreamFor deal count lists taken
    → (sender : SenderDeal) (ys : List (List ℕ)) → IsHonest deal xs slots sender ys taken
    → ShowsCommonItems deal xs slots sender ys (hit_lines xs deal slots lists)
finds_common deal xs slots count lists taken is placement stream sender ys honest =
    let finds = pairs_find_shown deal sender xs ys slots honest.pair is.count honest.choice placement in
    let long : length xs ≡ length slots = length-placement deal.stash deal.key (bins_for (length xs)) xs slots placement in
    let items : map (λ p. p.item) (placed_of xs slots) ≡ xs = items_of-placed_of xs slots long in
    let same : hit_items (receiver_side deal xs slots) lists ≡ shown (pair_setup deal sender xs slots) ys =
    finds.read count lists honest.few (width_of deal is) (subst (IsStreamFor deal count lists) honest.stream stream) in
    record {
      printed = ap lines_text same;
      common = λ item own other. finds.shows.common item (subst (λ (all : List (List ℕ)). Contains all item) (sym items) own) other;
      others = finds.shows.others;
    }

pub found_common : (known : Known) (words : List (List ℕ)) (before : Outside) (end : End) → Leaves known words (receive_tree words) before end
    → FoundCommon known words before end.placed end.left
found_common known words before end h =
    let session = receive_leaves known words before end h in
    let stream = session.fact in
    record {
      xs = session.xs;
      deal = session.deal;
      slots = session.slots;
      x_file = session.x_file;
      r_file = session.r_file;
      placement = session.placement;
      picked = session.picked;
      carried = session.carried;
      taken = stream.taken;
      were_taken = stream.were_taken;
      lines = hit_lines session.xs session.deal session.slots stream.lists;
      left = stream.fact;
      honest = finds_common session.deal session.xs session.slots stream.count stream.lists stream.taken (receiver_deal_of known words before 3 session.deal session.r_file)
          session.placement stream.stream;
    }
