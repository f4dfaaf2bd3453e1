-- The tags of hashed items, and those of the setup.
use Rattle.std.proofs.Common.{◌≡◌, ◌+◌, ◌-◌, ◌<◌, ◌≤◌, ◌∙◌, ℕ, zero, suc, Bool, true, false, cond, List, [], length, get_or, nat_lt, slice_index, All, sym, ap, ap₂, subst, refl, arith}
use Rattle.std.proofs.lemmas.Bool.{ltb-true}
use Rattle.std.proofs.lemmas.List.Elements.{All-from_recursion}
use Rattle.psi_spec.specs.Columns.{row_of}
use Rattle.psi_spec.specs.Formulas.{bin, code, item_digest, padded, padded_tag}
use Rattle.psi_spec.specs.Meeting.{Setup, own_tag, peer_tag, placed_of, row_word}
use Rattle.psi_spec.specs.Placement.{Slot}
use Rattle.psi_spec.proofs.Placing.{bin-lt}
use Rattle.psi_oprf.specs.Candidates.{digest_candidates}
use Rattle.psi_spec.proofs.RowWords.{get_or-row_words, length-row_words}
use Rattle.psi_audit.specs.Naming.{AreRowsOf, IsHashed, hashed_tag, listed_peer_tag, rows_in, setup_in, word_tag}
use Rattle.psi_audit.specs.declared.inputs.Inputs.{Inputs}
use Rattle.psi_audit.specs.declared.peer.PeerItem.{PeerItem}
use Rattle.psi_audit.specs.declared.rows.SessionRows.{SessionRows}

pub words_count : (i : Inputs) (rows : SessionRows) → AreRowsOf i rows → length rows.words ≡ rows_in i
words_count i rows are = ap length are.words ∙ length-row_words i.receiver.now.key (placed_of i.own.now i.placement.now) (rows_in i)

pub word_at : (i : Inputs) (rows : SessionRows) (row : ℕ) → AreRowsOf i rows → row < rows_in i → get_or rows.words row [] ≡ row_word (setup_in i).key (setup_in i).placed row
word_at i rows row are l = ap (λ (ws : List (List ℕ)). get_or ws row []) are.words ∙ get_or-row_words i.receiver.now.key (placed_of i.own.now i.placement.now) (rows_in i) row l

-- a tag of a code is a peer tag, padded
word_padded : (s : Setup) (index row : ℕ) (y : List ℕ) → word_tag s row (code s.key index (item_digest y)) ≡ padded s.tag_length (peer_tag s index row y)
unfolding peer_tag padded_tag
word_padded s index row y = refl

pub own_padded : (s : Setup) (slot : Slot) → padded_tag s.key s.tag_length slot.row (row_of s.columns slot.row) ≡ padded s.tag_length (own_tag s slot)
unfolding own_tag padded_tag
own_padded s slot = refl

-- the bin of a list
bin_at : (key : List ℕ) (bins list : ℕ) (digest : List ℕ) → list < 3 → slice_index (digest_candidates key bins digest) list ≡ bin key bins (list + 1) digest
bin_at key bins zero digest l = refl
bin_at key bins (suc zero) digest l = refl
bin_at key bins (suc (suc zero)) digest l = refl
bin_at key bins (suc (suc (suc list))) digest l = absurd (omega arith)

-- the tag of a hashed item is that of the item
pub hashed_is : (s : Setup) (list : ℕ) (y : List ℕ) (h : PeerItem) → IsHashed s.key s.bins y h → hashed_tag s list h ≡ listed_peer_tag s list y
hashed_is s list y h is = by_case (nat_lt list 3) refl
  where
    own : ℕ
    own = bin s.key s.bins (list + 1) (item_digest y)

    by_case : (b : Bool) → nat_lt list 3 ≡ b
        → cond b (word_tag s (slice_index h.bins list) (code s.key (list + 1) h.digest)) (word_tag s (s.bins + (list - 3)) h.stash_code)
        ≡ padded s.tag_length (cond b (peer_tag s (list + 1) own y) (peer_tag s 0 (s.bins + (list - 3)) y))
    by_case true e =
        let low : list < 3 = ltb-true list 3 e in
        ap₂ (λ (row : ℕ) (d : List ℕ). word_tag s row (code s.key (list + 1) d)) (ap (λ (bs : List ℕ). slice_index bs list) is.bins_are ∙ bin_at s.key s.bins list (item_digest y) low) is.digest
        ∙ word_padded s (list + 1) own y
    by_case false e = ap (word_tag s (s.bins + (list - 3))) is.stash_code ∙ word_padded s 0 (s.bins + (list - 3)) y

-- the bins of a hashed item are bins
pub bins_low : (key : List ℕ) (bins n : ℕ) (digest bs : List ℕ) → bins ≡ n → 1 ≤ bins → bs ≡ digest_candidates key bins digest → All (λ row. row < n) bs
bins_low key bins n digest bs e some is =
    subst (λ (m : ℕ). All (λ row. row < m) bs) e
    (subst (λ (xs : List ℕ). All (λ row. row < bins) xs) (sym is)
    (All-from_recursion (λ row. row < bins) (digest_candidates key bins digest) (bin-lt key bins 1 digest some, (bin-lt key bins 2 digest some, (bin-lt key bins 3 digest some, tt)))))
