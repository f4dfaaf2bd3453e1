-- The tags of a list, as they are made, and the frames that are left of an answer.
use Rattle.std.specs.Prelude.{◌≡◌, ◌≤◌, ◌<◌, ◌+◌, ◌-◌, ℕ, All, List, ◌++◌, length, map, slice_index, slice_index_or, [], nat_lt, if◌then◌else◌}
use Rattle.std.specs.List.{range_with_len}
use Rattle.std.specs.Simd.Lanes.{zip2}
use Rattle.psi_spec.specs.Bits.{xor, both}
use Rattle.psi_spec.specs.Formulas.{code, padded_tag}
use Rattle.psi_spec.specs.Deals.{SenderDeal}
use Rattle.psi_spec.specs.Streams.{layouts, block_frame, blocks_for, lists_frames}
use Rattle.psi_spec.specs.TagLists.{SenderSide, tag_list}
use Rattle.psi_sender.specs.declared.hashes.Hashes.{Hashes}

-- the word of a row that was opened, with the bits flipped that the choice word and a code share
abbrev pub flipped_word : List ℕ → List (List ℕ) → ℕ → List ℕ → List ℕ
flipped_word choice opened row item_code = xor (slice_index_or opened row []) (both choice item_code)

-- its tag, padded
abbrev pub word_tag : SenderDeal → List (List ℕ) → ℕ → List ℕ → List ℕ
word_tag deal opened row item_code =
    padded_tag deal.key deal.tag_length row (flipped_word deal.choice opened row item_code)

-- the tags of items with these bins and digests in one of the lists 0 to 2
abbrev pub bin_list : SenderDeal → List (List ℕ) → ℕ → List (List ℕ) → List (List ℕ) → List (List ℕ)
bin_list deal opened list bins digests =
    zip2 (word_tag deal opened) (map (λ three. slice_index three list) bins) (map (code deal.key (list + 1)) digests)

-- the tags of items with these hashes in a list
abbrev pub made_list : SenderDeal → List (List ℕ) → ℕ → Hashes → ℕ → List (List ℕ)
made_list deal opened bins hashes list =
    if nat_lt list 3 then bin_list deal opened list hashes.bins.items hashes.digests.items
    else map (word_tag deal opened (bins + (list - 3))) hashes.codes.items

-- hashes serve for so many items in a list: their bins, or the list's row of the stash, are rows that were opened
pub record AreFor (hashes : Hashes) (opened : List (List ℕ)) (bins list count : ℕ) : Type 0 where
  pub digests : list < 3 → length hashes.digests.items ≡ count
  pub candidates : list < 3 → length hashes.bins.items ≡ count
  pub within : list < 3 → All (λ three. All (λ row. row < length opened) three) hashes.bins.items
  pub codes : 3 ≤ list → length hashes.codes.items ≡ count
  pub stash : 3 ≤ list → bins + (list - 3) < length opened

-- the frames of an answer from this block of this list on
unfoldable pub answer_from : ℕ → SenderSide → List (List ℕ) → ℕ → ℕ → List ℕ
answer_from stash s ys list block =
    layouts (map (block_frame list (tag_list s ys list)) (range_with_len block (blocks_for (length ys) - block)))
    ++ layouts (lists_frames (list + 1) (map (tag_list s ys) (range_with_len (list + 1) (2 + stash - list))))
