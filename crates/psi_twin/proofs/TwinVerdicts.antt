-- What the judgement of the deals and of the sizes says, and what both placed sets hide.
use Rattle.std.proofs.Common.{◌≡◌, ◌≢◌, ◌∙◌, ℕ, Bool, true, false, nat_eq, if◌then◌else◌, List, length, Option, Some, None, Ok, Err, refl, sym, ap, subst}
use Rattle.std.specs.declared.result.Result.{Result}
use Rattle.std.proofs.lemmas.Bool.{eqb-true, eq-eqb, true≢false}
use Rattle.psi_spec.specs.ColumnSets.{AreColumnSets}
use Rattle.psi_spec.specs.Deals.{ReceiverDeal, SenderDeal, ArePair, IsReceiverDeal, IsSenderDeal}
use Rattle.psi_spec.specs.HidingLaws.{HidesSet}
use Rattle.psi_spec.specs.Limits.{rows_for}
use Rattle.psi_spec.specs.Placement.{Slot}
use Rattle.psi_spec.specs.Streams.{receiver_stream}
use Rattle.psi_spec.proofs.DealtColumns.{dealt_sets_are}
use Rattle.psi_spec.proofs.Hiding.{sets_are_hidden}
use Rattle.psi_deal.specs.Differences.{first_difference}
use Rattle.psi_deal.specs.declared.errors.DealField.{DealField}
use Rattle.psi_deal.proofs.Differing.{none_from_pair, pair_from_none}
use Rattle.psi_twin.specs.Twin.{pair_in, twins_in}
use Rattle.psi_twin.specs.TwinPromises.{AreTwins, IsPlacedWith, Twins, changed_columns, dealt_columns, first_set, second_set}
use Rattle.psi_texts.specs.declared.status.Status.{Status}
use Rattle.psi_texts.specs.declared.status.Status.TheVariants as status
use Rattle.psi_walk.proofs.Placings.{length-placed_with}

-- ---- the judgement

-- both numbers of items, where they differ
abbrev pub DifferSizes : Twins → ℕ → ℕ → Type 0
DifferSizes t first second = ArePair t.receiver t.sender × (first ≡ length t.xs) × (second ≡ length t.others) × (first ≢ second)

-- what the judgement says of lists and deals
abbrev pub Says : Twins → Result (Unit {0}) Status → Type 0
Says t (Ok x) = AreTwins t
Says t (Err (status.DealsDiffer field)) = first_difference t.receiver t.sender ≡ Some field
Says t (Err (status.SizesDiffer first second)) = DifferSizes t first second
Says t (Err _) = ⊥

pub twins_say : (t : Twins) → IsReceiverDeal t.receiver → IsSenderDeal t.sender → Says t (twins_in t.receiver t.sender t.xs t.others)
unfolding twins_in
twins_say t receiver sender = by_field (first_difference t.receiver t.sender) refl
  where
    by_sizes : ArePair t.receiver t.sender → (b : Bool) → nat_eq (length t.xs) (length t.others) ≡ b
        → Says t (if b then Ok tt else Err (status.SizesDiffer (length t.xs) (length t.others)))
    by_sizes pair true e = record { pair = pair; sizes = sym (eqb-true (length t.xs) (length t.others) e) }
    by_sizes pair false e = (pair, refl, refl, λ same. true≢false (sym (eq-eqb (length t.xs) (length t.others) same) ∙ e))

    by_field : (o : Option DealField) → first_difference t.receiver t.sender ≡ o → Says t (pair_in (length t.xs) (length t.others) o)
    by_field None none = by_sizes (pair_from_none t.receiver t.sender (receiver.count ∙ sym sender.count) none) (nat_eq (length t.xs) (length t.others)) refl
    by_field (Some field) some = some

-- a pair of deals and lists of one number of items are judged to be so
pub twins_ready : (receiver : ReceiverDeal) (sender : SenderDeal) (xs others : List (List ℕ)) → ArePair receiver sender → length others ≡ length xs
    → twins_in receiver sender xs others ≡ Ok tt
unfolding twins_in
twins_ready receiver sender xs others pair sizes =
    ap (pair_in (length xs) (length others)) (none_from_pair receiver sender pair)
    ∙ ap (λ (b : Bool). if b then Ok tt else Err (status.SizesDiffer (length xs) (length others))) (eq-eqb (length xs) (length others) (sym sizes))

-- ---- placed sets

-- so both placed lists have one number
same_count : (t : Twins) (slots others : List Slot) → AreTwins t → IsPlacedWith t.receiver t.xs slots → IsPlacedWith t.receiver t.others others
    → length (second_set t others) ≡ length (first_set t slots)
same_count t slots others is first second =
    length-placed_with t.receiver t.others others second ∙ (is.sizes ∙ sym (length-placed_with t.receiver t.xs slots first))

-- over all columns the change between them hides which of them the receiver has
pub twins_hide : (t : Twins) (slots others : List Slot) → AreTwins t → IsPlacedWith t.receiver t.xs slots → IsPlacedWith t.receiver t.others others
    → HidesSet t.receiver t.sender.choice (first_set t slots) (second_set t others)
twins_hide t slots others is first second =
    sets_are_hidden t.receiver t.sender.choice (first_set t slots) (second_set t others) (same_count t slots others is first second)

-- and over the dealt ones the second has the stream of the first
pub same_stream : (t : Twins) (slots others : List Slot) → IsReceiverDeal t.receiver → AreTwins t → IsPlacedWith t.receiver t.xs slots → IsPlacedWith t.receiver t.others others
    → receiver_stream t.receiver (second_set t others) (changed_columns t slots others) ≡ receiver_stream t.receiver (first_set t slots) (dealt_columns t)
same_stream t slots others deal is first second =
    let are : AreColumnSets (rows_for t.receiver.stash (length (first_set t slots))) (dealt_columns t) =
    subst (λ (n : ℕ). AreColumnSets (rows_for t.receiver.stash n) (dealt_columns t)) (sym (length-placed_with t.receiver t.xs slots first))
    (dealt_sets_are t.receiver (rows_for t.receiver.stash (length t.xs)) deal.count) in
    ((twins_hide t slots others is first second).over_all (dealt_columns t) are).sent
