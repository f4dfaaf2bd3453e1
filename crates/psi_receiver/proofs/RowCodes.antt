-- The codes of placed items in their rows, and what is sent of them.
use Rattle.std.proofs.Common.{◌≡◌, ◌+◌, ◌<◌, ◌≤◌, ℕ, List, [], length, map, take, drop, set, get_or, nat_eq, slice_get, Some, sym, ap, ap₂, subst, ◌∙◌, arith}
use Rattle.std.specs.Simd.Lanes.{zip2}
use Rattle.std.proofs.lemmas.List.{length-take-le, length-drop, get_or-drop, get_or-take, length-map}
use Rattle.std.proofs.lemmas.Option.{get_or_from_slice_get}
use Rattle.std.proofs.lemmas.Slice.Zip.{AllZip-long}
use Rattle.std.specs.List.{IsDistinct}
use Rattle.std.proofs.Math.ListN.{get_or-map}
use Rattle.std.proofs.lemmas.Option.{slice_get_within}
use Rattle.std.proofs.lemmas.Simd.{get_or-zip2}
use Rattle.psi_spec.specs.Deals.{ReceiverDeal}
use Rattle.psi_spec.specs.Formulas.{code, item_digest}
use Rattle.psi_spec.specs.Meeting.{Placed, placed_of}
use Rattle.psi_spec.specs.Limits.{bins_for, rows_for}
use Rattle.psi_spec.specs.Placement.{Slot, MayHave, IsPlacementOf, candidates_of}
use Rattle.psi_spec.specs.ColumnSets.{masked_columns}
use Rattle.psi_spec.specs.Matrices.{Matrix}
use Rattle.psi_spec.specs.Sessions.{dealt_masked}
use Rattle.psi_spec.specs.Streams.{dealt_sets, row_words}
use Rattle.psi_spec.proofs.Placing.{AreApart, get_or-placed_of, length-placed_of, placement_within, slots_of-placed_of}
use Rattle.psi_spec.proofs.RowWords.{row_words-more}
use Rattle.psi_receiver.specs.Slots.{AreSlotsFor}
use Rattle.psi_receiver.proofs.Gathering.{row_within}

-- ---- codes in their rows

module _ (key : List ℕ) (items : List (List ℕ)) (slots : List Slot) where
  -- the word that is made for an item of a part is its code at its slot
  pub code_made : (at count i : ℕ) (slot : Slot) (indices : List ℕ) (digests words : List (List ℕ)) (word : List ℕ) → length slots ≡ length items
      → i < count → at + count ≤ length items → digests ≡ map item_digest items → indices ≡ map (λ slot. slot.index) (take count (drop at slots))
      → words ≡ zip2 (code key) indices (take count (drop at digests)) → slice_get slots (at + i) ≡ Some slot → word ≡ get_or words i word
      → word ≡ code key slot.index (item_digest (get_or items (at + i) []))
  code_made at count i slot indices digests words word many l within digests_are indices_are words_are there is =
      let part : List Slot = take count (drop at slots) in
      let long : length part ≡ count = length-take-le count (drop at slots) (omega (arith, length-drop at slots)) in
      let longs : length (take count (drop at digests)) ≡ count =
      length-take-le count (drop at digests) (omega (arith, length-drop at digests, ap length digests_are, length-map items item_digest)) in
      let slot_is : get_or part i slot ≡ slot =
      get_or-take count (drop at slots) i slot l ∙ (get_or-drop at slots i slot ∙ get_or_from_slice_get slots (at + i) slot slot there) in
      let index : get_or indices i slot.index ≡ slot.index =
      ap (λ (all : List ℕ). get_or all i slot.index) indices_are ∙ (get_or-map (λ (slot : Slot). slot.index) part i slot ∙ ap (λ (s : Slot). s.index) slot_is) in
      let digest : get_or (take count (drop at digests)) i (item_digest []) ≡ item_digest (get_or items (at + i) []) =
      get_or-take count (drop at digests) i (item_digest []) l
      ∙ (get_or-drop at digests i (item_digest [])
      ∙ (ap (λ (all : List (List ℕ)). get_or all (at + i) (item_digest [])) digests_are ∙ get_or-map item_digest items (at + i) [])) in
      is ∙ (ap (λ (all : List (List ℕ)). get_or all i word) words_are
      ∙ (get_or-zip2 (code key) indices (take count (drop at digests)) i slot.index (item_digest []) word
      (omega (arith, ap length indices_are, length-map part (λ (slot : Slot). slot.index))) (omega arith)
      ∙ ap₂ (code key) index digest))

  -- one more code in its row
  pub code_put : (rows j : ℕ) (slot : Slot) (words : List (List ℕ)) (word : List ℕ) → AreSlotsFor (length items) rows slots
      → slice_get slots j ≡ Some slot → word ≡ code key slot.index (item_digest (get_or items j []))
      → words ≡ row_words key (take j (placed_of items slots)) rows
      → set words slot.row word ≡ row_words key (take (j + 1) (placed_of items slots)) rows
  code_put rows j slot words word are there is before =
      let long : length items ≡ length slots = sym are.many in
      let within : j < length slots = slice_get_within slots j slot there in
      let here : Placed = record { item = get_or items j []; slot = slot } in
      let placed : get_or (placed_of items slots) j here ≡ here =
      get_or-placed_of items slots j [] slot here (omega arith) within
      ∙ ap (λ (s : Slot). record { item = get_or items j []; slot = s }) (get_or_from_slice_get slots j slot slot there) in
      let apart : AreApart (placed_of items slots) =
      subst (λ (all : List Slot). IsDistinct nat_eq (map (λ slot. slot.row) all)) (sym (slots_of-placed_of items slots long)) are.apart in
      let low : (get_or (placed_of items slots) j here).slot.row < rows =
      subst (λ (p : Placed). p.slot.row < rows) (sym placed) (row_within rows j slots slot are.within there) in
      ap₂ (λ (all : List (List ℕ)) (w : List ℕ). set all slot.row w) before is
      ∙ sym (row_words-more key (placed_of items slots) j here rows apart (omega (arith, length-placed_of items slots long)) low
      ∙ ap (λ (p : Placed). set (row_words key (take j (placed_of items slots)) rows) p.slot.row (code key p.slot.index (item_digest p.item))) placed)

-- ---- placements

-- the slots of a placement are within its rows, and apart
pub placed_slots : (stash : ℕ) (key : List ℕ) (items : List (List ℕ)) (slots : List Slot) → IsPlacementOf stash key (bins_for (length items)) items slots
    → AreSlotsFor (length items) (rows_for stash (length items)) slots
placed_slots stash key items slots placement = record {
  many = AllZip-long (MayHave stash (bins_for (length items))) (map (candidates_of key (bins_for (length items))) items) slots placement.each
      ∙ length-map items (candidates_of key (bins_for (length items)));
  within = placement_within stash key (bins_for (length items)) items slots (omega arith) placement;
  apart = placement.apart;
}

-- what hides the words of a placement's rows is what a receiver sends over its deal
pub sent_of_words : (deal : ReceiverDeal) (items : List (List ℕ)) (slots : List Slot) (key : List ℕ) (words : List (List ℕ)) (rows : ℕ) (sent : Matrix)
    → length slots ≡ length items → key ≡ deal.key → words ≡ row_words key (placed_of items slots) rows → length words ≡ rows
    → rows ≡ rows_for deal.stash (length items) → sent ≡ record { rows = length words; columns = masked_columns words (dealt_sets deal (length words)) }
    → sent ≡ record { rows = rows_for deal.stash (length items); columns = dealt_masked deal (placed_of items slots) }
sent_of_words deal items slots key words rows sent many key_is words_are count rows_are is =
    let placed : List Placed = placed_of items slots in
    let all : rows ≡ rows_for deal.stash (length placed) = rows_are ∙ ap (rows_for deal.stash) (sym (length-placed_of items slots (sym many))) in
    let long : length words ≡ rows_for deal.stash (length placed) = count ∙ all in
    let made : words ≡ row_words deal.key placed (rows_for deal.stash (length placed)) = words_are ∙ (λ i. row_words (key_is i) placed (all i)) in
    let rows_is : length words ≡ rows_for deal.stash (length items) = count ∙ rows_are in
    is ∙ (λ i. record { rows = rows_is i; columns = masked_columns (made i) (dealt_sets deal (long i)) })
