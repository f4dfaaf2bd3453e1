-- A common item meets itself, and what is shown shares its tag with the item that it names.
use Rattle.std.proofs.Common.{◌≡◌, ℕ, suc, zero, true, false, cond, List, length, map, Contains, nat_eq, refl, sym, ap, ◌∙◌, subst, arith}
use Rattle.std.specs.List.{list_any}
use Rattle.std.proofs.lemmas.Bool.{ne_eqb}
use Rattle.psi_spec.specs.Bits.{xor, both}
use Rattle.psi_spec.specs.Formulas.{item_digest, code, bin, tag}
use Rattle.psi_spec.specs.Columns.{row_of}
use Rattle.psi_spec.specs.Placement.{Slot, MayHave, candidates_of}
use Rattle.psi_spec.specs.Meeting.{Placed, Setup, IsSetup, row_word, own_tag, peer_tag, peer_row, meets, is_shown, shown_placed, shown, SharesTag, ShowsCommon}
use Rattle.psi_spec.proofs.Xor.{xor_masked_self}
use Rattle.psi_spec.proofs.Packing.{length-row_of}
use Rattle.psi_spec.proofs.Sizes.{length-code}
use Rattle.psi_spec.proofs.Tags.{same_from_bytes_eq, bytes_eq-same}
use Rattle.psi_spec.proofs.Lists.{Contains-from_map, Contains-map, Contains-filter, Contains-from_filter, list_any-from_passing, find-from_list_any}
use Rattle.psi_spec.proofs.Placing.{row_word_of_placed, bin_of_slot, may_have_of_placed}

-- an item that may have a slot is compared at the slot's row
pub peer_row_of_own : (stash : ℕ) (s : Setup) (item : List ℕ) (slot : Slot) → MayHave stash s.bins (candidates_of s.key s.bins item) slot → peer_row s slot item ≡ slot.row
peer_row_of_own stash s item slot may = by_index slot.index refl
  where
    by_index : (index : ℕ) → index ≡ slot.index → cond (nat_eq index 0) slot.row (bin s.key s.bins index (item_digest item)) ≡ slot.row
    by_index zero e = refl
    by_index (suc i) e =
        let never : nat_eq (suc i) 0 ≡ false = ne_eqb (suc i) 0 (λ h. omega arith) in
        rw never (ap (λ (n : ℕ). bin s.key s.bins n (item_digest item)) e ∙ bin_of_slot stash s.key s.bins item slot may (omega arith))

-- the peer tag of an item's own code at its row is the own tag
pub peer_tag_of_own : (stash : ℕ) (s : Setup) (p : Placed) → IsSetup stash s → Contains s.placed p → peer_tag s p.slot.index p.slot.row p.item ≡ own_tag s p.slot
unfolding own_tag peer_tag
peer_tag_of_own stash s p is_setup within =
    let c : List ℕ = code s.key p.slot.index (item_digest p.item) in
    let word : row_word s.key s.placed p.slot.row ≡ c = row_word_of_placed s.key s.placed p is_setup.placed.apart within in
    let long : length (row_of s.columns p.slot.row) ≡ 64 = length-row_of 64 s.columns p.slot.row is_setup.columns in
    ap (λ (w : List ℕ). tag s.key s.tag_length p.slot.row (xor (row_of s.columns p.slot.row) (both s.choice (xor w c)))) word
    ∙ ap (tag s.key s.tag_length p.slot.row) (xor_masked_self 64 (row_of s.columns p.slot.row) s.choice c long is_setup.choice (length-code s.key p.slot.index (item_digest p.item)))

-- a placed item meets itself
pub meets_itself : (stash : ℕ) (s : Setup) (p : Placed) → IsSetup stash s → Contains s.placed p → meets s p.slot p.item ≡ true
unfolding meets
meets_itself stash s p is_setup within =
    let row : peer_row s p.slot p.item ≡ p.slot.row = peer_row_of_own stash s p.item p.slot (may_have_of_placed stash s.key s.bins s.placed p is_setup.placed.each within) in
    bytes_eq-same (own_tag s p.slot) (peer_tag s p.slot.index (peer_row s p.slot p.item) p.item)
    (sym (ap (λ (j : ℕ). peer_tag s p.slot.index j p.item) row ∙ peer_tag_of_own stash s p is_setup within))

-- an item that meets shares its tag
pub same_tag_from_meets : (s : Setup) (slot : Slot) (y : List ℕ) → meets s slot y ≡ true → own_tag s slot ≡ peer_tag s slot.index (peer_row s slot y) y
unfolding meets
same_tag_from_meets s slot y h = same_from_bytes_eq (own_tag s slot) (peer_tag s slot.index (peer_row s slot y) y) h

-- a placed item that the sender has too is shown
pub common_is_shown : (stash : ℕ) (s : Setup) (ys : List (List ℕ)) (p : Placed) → IsSetup stash s → Contains s.placed p → Contains ys p.item → Contains (shown_placed s ys) p
common_is_shown stash s ys p is_setup within common =
    Contains-filter (is_shown s ys) s.placed p within (list_any-from_passing (meets s p.slot) ys p.item common (meets_itself stash s p is_setup within))

pub common_item_is_shown : (stash : ℕ) (s : Setup) (ys : List (List ℕ)) (x : List ℕ) → IsSetup stash s → Contains (map (λ p. p.item) s.placed) x → Contains ys x → Contains (shown s ys) x
unfolding shown
common_item_is_shown stash s ys x is_setup placed common =
    let found = Contains-from_map (λ (p : Placed). p.item) s.placed x placed in
    let p : Placed = found.0 in
    subst (Contains (map (λ (p : Placed). p.item) (shown_placed s ys))) found.2
    (Contains-map (λ (p : Placed). p.item) (shown_placed s ys) p (common_is_shown stash s ys p is_setup found.1 (subst (Contains ys) (sym found.2) common)))

-- a shown item names an item of the sender, and shares its tag with it
pub shown_shares_tag : (s : Setup) (ys : List (List ℕ)) (p : Placed) → Contains (shown_placed s ys) p → SharesTag s ys p
shown_shares_tag s ys p h =
    let passes : list_any (meets s p.slot) ys ≡ true = (Contains-from_filter (is_shown s ys) s.placed p h).1 in
    let found = find-from_list_any (meets s p.slot) ys passes in
    (found.0, found.1, found.2, same_tag_from_meets s p.slot found.0 found.3)

-- what is shown
pub shows_common : (stash : ℕ) (s : Setup) (ys : List (List ℕ)) → IsSetup stash s → ShowsCommon s ys
shows_common stash s ys is_setup = record {
  common = λ x. common_item_is_shown stash s ys x is_setup;
  others = shown_shares_tag s ys;
}
