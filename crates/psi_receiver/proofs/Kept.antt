-- What a receiver's end keeps goes on.
use Rattle.std.proofs.Common.{◌≡◌, ◌+◌, ◌<◌, ◌∙◌, ℕ, List, [], Some, length, get_or, sym, ap, subst, arith}
use Rattle.std.specs.List.{slice_get}
use Rattle.std.proofs.lemmas.List.{length-map}
use Rattle.std.proofs.lemmas.Option.{slice_get-get_or}
use Rattle.psi_spec.specs.Deals.{ReceiverDeal}
use Rattle.psi_spec.specs.Frames.{Frame}
use Rattle.psi_spec.specs.Hits.{list_of_slot}
use Rattle.psi_spec.specs.Limits.{bins_for}
use Rattle.psi_frames.specs.Script.{over}
use Rattle.psi_receiver.specs.Marking.{is_among}
use Rattle.psi_receiver.specs.Own.{AreMarked, AreShownFor, Marked, tags_for}
use Rattle.psi_receiver.specs.Running.{HasFound, KeptSince, ReceiverState, slots_of, state_of}

-- items that are shown by marks are those whose own tag is among the tags of the list of their slot
shown_for : (s : ReceiverState) (frames : List Frame) → HasFound s → AreMarked s.deal.tag_length frames s.lists → AreShownFor s.deal (slots_of s) frames s.shown
shown_for s frames found marks i slot at =
    let list : ℕ = list_of_slot (bins_for (length (slots_of s))) slot in
    let long : length (slots_of s) ≡ length s.placed = length-map s.placed (λ p. p.slot) in
    let low : list < 3 + s.deal.stash = subst (λ (n : ℕ). list_of_slot (bins_for n) slot < 3 + s.deal.stash) (sym long) (found.places i slot at) in
    let nothing : Marked = record { tags = []; hits = [] } in
    let many = found.many in
    let m : Marked = get_or s.lists list nothing in
    let there : slice_get s.lists list ≡ Some m = slice_get-get_or s.lists list nothing (omega (arith, low, many)) in
    let by = found.found i slot m at there in
    by.as_marked ∙ marks list m there by.place by.within ∙ ap (is_among (tags_for s.deal.tag_length list frames)) by.same

-- the deal and the items stay, and the marks are those of the frames
pub kept_on : (first s s' s'' : ReceiverState) (before frames : List Frame) → KeptSince first s before → s'.deal ≡ s.deal → s'.placed ≡ s.placed → AreMarked s.deal.tag_length frames s'.lists
    → s''.deal ≡ s'.deal → s''.placed ≡ s'.placed → s''.lists ≡ s'.lists → ((state_of s'').next ≡ over → HasFound s'') → KeptSince first s'' frames
kept_on first s s' s'' before frames kept deal placed marks deal' placed' lists' found = record {
  deal = deal' ∙ deal ∙ kept.deal;
  placed = placed' ∙ placed ∙ kept.placed;
  marks =
      subst (λ (d : ReceiverDeal). AreMarked d.tag_length frames s''.lists) (sym (deal' ∙ deal))
      (subst (λ (lists : List Marked). AreMarked s.deal.tag_length frames lists) (sym lists') marks);
  found = found;
  shown = λ done.
      shown_for s'' frames (found done)
      (subst (λ (d : ReceiverDeal). AreMarked d.tag_length frames s''.lists) (sym (deal' ∙ deal))
      (subst (λ (lists : List Marked). AreMarked s.deal.tag_length frames lists) (sym lists') marks));
}
