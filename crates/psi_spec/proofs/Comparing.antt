-- Whether a placed item meets some item of the sender, as a program compares it: padded tags, and lists of them for each index and row.
use Rattle.std.proofs.Common.{◌≡◌, ◌<◌, ℕ, Bool, true, false, cond, List, length, map, nat_eq, sym, ap, ◌∙◌, arith, eq-eqb}
use Rattle.std.specs.List.{list_any}
use Rattle.std.specs.Str.{bytes_eq}
use Rattle.std.proofs.lemmas.Bool.{ne_eqb}
use Rattle.psi_spec.specs.Bits.{xor, both}
use Rattle.psi_spec.specs.Formulas.{item_digest, code, bin, padded_tag}
use Rattle.psi_spec.specs.Columns.{row_of}
use Rattle.psi_spec.specs.Placement.{Slot}
use Rattle.psi_spec.specs.Meeting.{Setup, IsSetup, row_word, own_tag, peer_tag, peer_row, meets}
use Rattle.psi_spec.proofs.Xor.{opened, length-xor, length-both}
use Rattle.psi_spec.proofs.Lists.{list_any-map, list_any_agree}
use Rattle.psi_spec.proofs.Packing.{length-row_of}
use Rattle.psi_spec.proofs.Sizes.{length-code}
use Rattle.psi_spec.proofs.Tags.{bytes_eq-padded_tag}
use Rattle.psi_spec.proofs.Placing.{length-row_word}

-- ---- words

-- the word of a peer tag
abbrev pub peer_word : Setup → ℕ → ℕ → List ℕ → List ℕ
peer_word s index row y = xor (row_of s.columns row) (both s.choice (xor (row_word s.key s.placed row) (code s.key index (item_digest y))))

-- the sender's row: what it hides of the row's word is hidden under its choice
abbrev pub sender_row : Setup → ℕ → List ℕ
sender_row s row = xor (row_of s.columns row) (both s.choice (row_word s.key s.placed row))

-- a code that is put into the sender's row gives the word of the peer tag
pub peer_word_opened : (s : Setup) (index row : ℕ) (y : List ℕ) → xor (sender_row s row) (both s.choice (code s.key index (item_digest y))) ≡ peer_word s index row y
peer_word_opened s index row y = opened (row_of s.columns row) s.choice (row_word s.key s.placed row) (code s.key index (item_digest y))

pub length-own_row : (stash : ℕ) (s : Setup) (row : ℕ) → IsSetup stash s → length (row_of s.columns row) ≡ 64
length-own_row stash s row is_setup = length-row_of 64 s.columns row is_setup.columns

pub length-sender_row : (stash : ℕ) (s : Setup) (row : ℕ) → IsSetup stash s → length (sender_row s row) ≡ 64
length-sender_row stash s row is_setup =
    length-xor 64 (row_of s.columns row) (both s.choice (row_word s.key s.placed row)) (length-own_row stash s row is_setup) (length-both 64 s.choice (row_word s.key s.placed row) is_setup.choice (length-row_word s.key s.placed row))

pub length-peer_word : (stash : ℕ) (s : Setup) (index row : ℕ) (y : List ℕ) → IsSetup stash s → length (peer_word s index row y) ≡ 64
length-peer_word stash s index row y is_setup =
    let c : List ℕ = code s.key index (item_digest y) in
    let long : length c ≡ 64 = length-code s.key index (item_digest y) in
    let hidden : List ℕ = xor (row_word s.key s.placed row) c in
    length-xor 64 (row_of s.columns row) (both s.choice hidden) (length-own_row stash s row is_setup)
    (length-both 64 s.choice hidden is_setup.choice (length-xor 64 (row_word s.key s.placed row) c (length-row_word s.key s.placed row) long))

-- ---- padded tags

abbrev pub padded_own_tag : Setup → Slot → List ℕ
padded_own_tag s slot = padded_tag s.key s.tag_length slot.row (row_of s.columns slot.row)

abbrev pub padded_peer_tag : Setup → ℕ → ℕ → List ℕ → List ℕ
padded_peer_tag s index row y = padded_tag s.key s.tag_length row (peer_word s index row y)

-- to compare the padded tags is to compare the tags
pub meets_by_padded_tags : (s : Setup) (slot : Slot) (y : List ℕ) → meets s slot y ≡ bytes_eq (padded_own_tag s slot) (padded_peer_tag s slot.index (peer_row s slot y) y)
unfolding meets own_tag peer_tag
meets_by_padded_tags s slot y =
    let row : ℕ = peer_row s slot y in
    sym (bytes_eq-padded_tag s.key s.tag_length slot.row row (row_of s.columns slot.row) (peer_word s slot.index row y))

-- ---- lists of tags

-- the padded peer tags of the sender's items at an index from 1 to 3, each at its own bin
abbrev pub bin_tags : Setup → ℕ → List (List ℕ) → List (List ℕ)
bin_tags s index ys = map (λ y. padded_peer_tag s index (bin s.key s.bins index (item_digest y)) y) ys

-- the padded peer tags of the sender's items at a row of the stash
abbrev pub stash_tags : Setup → ℕ → List (List ℕ) → List (List ℕ)
stash_tags s row ys = map (padded_peer_tag s 0 row) ys

pub meets_in_bin : (s : Setup) (slot : Slot) (ys : List (List ℕ)) → 0 < slot.index → list_any (meets s slot) ys ≡ list_any (bytes_eq (padded_own_tag s slot)) (bin_tags s slot.index ys)
meets_in_bin s slot ys l =
    let of_bin : nat_eq slot.index 0 ≡ false = ne_eqb slot.index 0 (λ h. omega arith) in
    list_any_agree (meets s slot) (λ y. bytes_eq (padded_own_tag s slot) (padded_peer_tag s slot.index (bin s.key s.bins slot.index (item_digest y)) y)) ys
    (λ y. meets_by_padded_tags s slot y ∙ ap (λ (b : Bool). bytes_eq (padded_own_tag s slot) (padded_peer_tag s slot.index (cond b slot.row (bin s.key s.bins slot.index (item_digest y))) y)) of_bin)
    ∙ sym (list_any-map (bytes_eq (padded_own_tag s slot)) (λ y. padded_peer_tag s slot.index (bin s.key s.bins slot.index (item_digest y)) y) ys)

pub meets_in_stash : (s : Setup) (slot : Slot) (ys : List (List ℕ)) → slot.index ≡ 0 → list_any (meets s slot) ys ≡ list_any (bytes_eq (padded_own_tag s slot)) (stash_tags s slot.row ys)
meets_in_stash s slot ys e =
    let of_stash : nat_eq slot.index 0 ≡ true = eq-eqb slot.index 0 e in
    list_any_agree (meets s slot) (λ y. bytes_eq (padded_own_tag s slot) (padded_peer_tag s 0 slot.row y)) ys
    (λ y. meets_by_padded_tags s slot y
    ∙ (ap (λ (b : Bool). bytes_eq (padded_own_tag s slot) (padded_peer_tag s slot.index (cond b slot.row (bin s.key s.bins slot.index (item_digest y))) y)) of_stash
    ∙ ap (λ (i : ℕ). bytes_eq (padded_own_tag s slot) (padded_peer_tag s i slot.row y)) e))
    ∙ sym (list_any-map (bytes_eq (padded_own_tag s slot)) (padded_peer_tag s 0 slot.row) ys)
