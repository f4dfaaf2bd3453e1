-- What the other end may tell of a receiver's list from what it sends, and all that `receive` promises.
use Rattle.std.specs.Prelude.{◌≡◌, ◌⊎◌, ◌++◌, ℕ, List, option_map, take, Some}
use Rattle.psi_spec.specs.Deals.{ReceiverDeal}
use Rattle.psi_spec.specs.Meeting.{placed_of}
use Rattle.psi_spec.specs.Placement.{Slot}
use Rattle.psi_base.specs.Outside.{Known, Outside}
use Rattle.psi_receiver.specs.Laws.{own_stream}
use Rattle.psi_walk.specs.JudgedFiles.{HasItems, HasReceiverDeal}
use Rattle.psi_walk.specs.Placing.{slots_with}
use Rattle.psi_walk.specs.Tree.{End}
use Rattle.psi_walk.specs.Hiding.{HidesList}
use Rattle.psi_link.specs.ReceivePromises.{FoundCommon, ReceiveAnswers, ReceiveServes}
use Rattle.psi_texts.specs.declared.status.Status.TheVariants.{Done}

-- what was sent is a front of the one stream of this end's items, in the slots that are picked for them, over the
-- columns of its deal; and that stream hides which list of this size it is
pub record SentHidden (known : Known) (words : List (List ℕ)) (before after : Outside) : Type 0 where
  pub xs : List (List ℕ)
  pub deal : ReceiverDeal
  pub slots : List Slot
  pub x_file : HasItems known words before 2 xs
  pub r_file : HasReceiverDeal known words before 3 deal
  pub picked : slots_with deal xs ≡ Some slots
  pub count : ℕ
  pub sent : after.outgoing
      ≡ option_map (λ gone. gone ++ take count (own_stream deal (placed_of xs slots))) before.outgoing
  pub hidden : HidesList deal xs slots

-- it sent nothing, or so
abbrev pub SendsHidden : Known → List (List ℕ) → Outside → Outside → Type 0
SendsHidden known words before after =
    (after.outgoing ≡ before.outgoing) ⊎ SentHidden known words before after

-- all that `receive` promises: it answers so; where it is done it printed the common items of an honest peer; however
-- it ends, what it sent hides its list; and it serves an honest peer
pub record ReceivePromise (known : Known) (words : List (List ℕ)) (before : Outside) (end : End) : Type 0 where
  pub answers : ReceiveAnswers known words before end.placed end.status end.left
  pub finds : end.status ≡ Done → FoundCommon known words before end.placed end.left
  pub hides : SendsHidden known words before end.left
  pub serves : ReceiveServes words before end
