-- What the receiver finds in the sender's lists: the items that are shown.
use Rattle.std.proofs.Common.{◌≡◌, ◌+◌, ◌-◌, ◌<◌, ◌≤◌, inl, inr, ℕ, Bool, true, false, cond, List, [], length, map, get_or, Contains, nat_eq, ltb, sym, ap, ap₂, ◌∙◌, subst, arith, eq-eqb}
use Rattle.std.specs.List.{list_any}
use Rattle.std.specs.Str.{bytes_eq}
use Rattle.std.proofs.lemmas.Bool.{ne_eqb, lt-ltb, le-ltb}
use Rattle.std.proofs.lemmas.List.FromFn.{get_or-map-range_with_len}
use Rattle.std.proofs.lemmas.List.Sorted.{list_any-IsPermutation}
use Rattle.psi_spec.specs.Limits.{limit_items, bins_for, rows_for}
use Rattle.psi_spec.specs.Bits.{xor, both, IsWord}
use Rattle.psi_spec.specs.Formulas.{item_digest, code, bin, tag}
use Rattle.psi_spec.specs.Columns.{row_of}
use Rattle.psi_spec.specs.Matrices.{AreColumns}
use Rattle.psi_spec.specs.ColumnSets.{ColumnSets, AreColumnSets, masked_columns, chosen_columns}
use Rattle.psi_spec.specs.Deals.{ReceiverDeal, SenderDeal, ArePair, zero_columns, one_columns, sender_columns}
use Rattle.psi_spec.specs.Placement.{Slot, IsPlacementOf, MayHave, candidates_of}
use Rattle.psi_spec.specs.Meeting.{Placed, placed_of, row_word, Setup, IsSetup, own_tag, peer_tag, peer_row, meets, is_shown, shown}
use Rattle.psi_spec.specs.Rising.{rising}
use Rattle.psi_spec.specs.TagLists.{SenderSide, opened_row, sent_tag, tag_in_list, tag_list, tag_lists}
use Rattle.psi_spec.specs.Streams.{row_words, dealt_sets, sender_side, sender_stream, IsSenderStream}
use Rattle.psi_spec.specs.Hits.{ReceiverSide, list_of_slot, is_hit, hit_items, receiver_side}
use Rattle.psi_spec.specs.Sessions.{dealt_masked}
use Rattle.psi_spec.specs.SessionLaws.{finder_of, sets_of, setup_words, opener_of, SetupsHitShown, pair_setup, pair_lists, PairsFindShown}
use Rattle.psi_spec.proofs.Lists.{list_any-map, list_any_agree, filter_agree}
use Rattle.psi_spec.proofs.Placing.{length-placed_of, may_have_of_placed, bin-lt, slot_within}
use Rattle.psi_spec.proofs.Comparing.{peer_word_opened}
use Rattle.psi_spec.proofs.Meeting.{shows_common}
use Rattle.psi_spec.proofs.Dealing.{length-placement, placed_setup}
use Rattle.psi_spec.proofs.Rising.{rising_moves}
use Rattle.psi_spec.proofs.DealtColumns.{dealt_sets_are, are_columns, sender_columns_of_pair}
use Rattle.psi_spec.proofs.Telling.{sender_streams_tell}
use Rattle.psi_spec.proofs.RowWords.{IsWord-row_word, length-row_words, get_or-row_words}
use Rattle.psi_spec.proofs.Forming.{sender_streams_are_well_formed}
use Rattle.psi_spec.proofs.Opening.{row_opened}

-- ---- tags of lists

-- in a list of a row of the stash
tag_in_stash_list : (o : SenderSide) (list row : ℕ) (y : List ℕ) → 3 ≤ list → o.bins + (list - 3) ≡ row
    → tag_in_list o list y ≡ sent_tag o 0 row y
tag_in_stash_list o list row y l e =
    let past : ltb list 3 ≡ false = le-ltb list 3 l in
    rw past (ap (λ (r : ℕ). sent_tag o 0 r y) e)

-- in a list of an index of bins
tag_in_bin_list : (o : SenderSide) (list index : ℕ) (y : List ℕ) → list < 3 → list + 1 ≡ index
    → tag_in_list o list y ≡ sent_tag o index (bin o.key o.bins index (item_digest y)) y
tag_in_bin_list o list index y l e =
    let within : ltb list 3 ≡ true = lt-ltb list 3 l in
    rw within (ap (λ (i : ℕ). sent_tag o i (bin o.key o.bins i (item_digest y)) y) e)

module _ (stash : ℕ) (s : Setup) (ones : List (List ℕ)) (is_setup : IsSetup stash s) (some : 0 < s.bins)
    (are_z : AreColumns (s.bins + stash) s.columns) (are_o : AreColumns (s.bins + stash) ones) where
  abbrev opener : SenderSide
  opener = opener_of stash s ones

  -- the row that the sender opens is the zero columns' row, xor what the choice word and the row's word share
  row_is : (row : ℕ) → row < s.bins + stash
      → opener.opened row ≡ xor (row_of s.columns row) (both s.choice (row_word s.key s.placed row))
  row_is row l =
      let words : List (List ℕ) = setup_words stash s in
      let count : length words ≡ s.bins + stash = length-row_words s.key s.placed (s.bins + stash) in
      let word : get_or words row [] ≡ row_word s.key s.placed row =
      get_or-row_words s.key s.placed (s.bins + stash) row l in
      row_opened s.choice (sets_of s ones) words row is_setup.choice
      (subst (λ (n : ℕ). AreColumns n s.columns) (sym count) are_z)
      (subst (λ (n : ℕ). AreColumns n ones) (sym count) are_o)
      (subst IsWord (sym word) (IsWord-row_word s.key s.placed row))
      ∙ ap (λ (w : List ℕ). xor (row_of s.columns row) (both s.choice w)) word

  -- the sender's tag is the peer tag
  sent_is_peer : (index row : ℕ) (y : List ℕ) → row < s.bins + stash
      → sent_tag opener index row y ≡ peer_tag s index row y
  unfolding sent_tag peer_tag
  sent_is_peer index row y l =
      ap (λ (q : List ℕ). tag s.key s.tag_length row (xor q (both s.choice (code s.key index (item_digest y)))))
      (row_is row l)
      ∙ ap (tag s.key s.tag_length row) (peer_word_opened s index row y)

  -- the tag of an item in a slot's list is the peer tag that the slot is compared with
  listed_is_peer : (item : List ℕ) (slot : Slot) (y : List ℕ)
      → MayHave stash s.bins (candidates_of s.key s.bins item) slot
      → tag_in_list opener (list_of_slot s.bins slot) y ≡ peer_tag s slot.index (peer_row s slot y) y
  listed_is_peer item slot y (inl h) =
      let low : s.bins ≤ slot.row = h.1 in
      let none : nat_eq slot.index 0 ≡ true = eq-eqb slot.index 0 h.0 in
      let own_bin : ℕ = bin s.key s.bins slot.index (item_digest y) in
      ap (λ (b : Bool). tag_in_list opener (cond b (3 + (slot.row - s.bins)) (slot.index - 1)) y) none
      ∙ (tag_in_stash_list opener (3 + (slot.row - s.bins)) slot.row y (omega arith) (omega arith)
      ∙ (sent_is_peer 0 slot.row y h.2
      ∙ (ap (λ (i : ℕ). peer_tag s i slot.row y) (sym h.0)
      ∙ ap (λ (b : Bool). peer_tag s slot.index (cond b slot.row own_bin) y) (sym none))))
  listed_is_peer item slot y (inr h) =
      let positive : 0 < slot.index = h.0 in
      let few : slot.index ≤ 3 = (slot_within stash s.key s.bins item slot some (inr h)).1 in
      let other : nat_eq slot.index 0 ≡ false = ne_eqb slot.index 0 (λ e. omega arith) in
      let own_bin : ℕ = bin s.key s.bins slot.index (item_digest y) in
      let low : own_bin < s.bins = bin-lt s.key s.bins slot.index (item_digest y) some in
      ap (λ (b : Bool). tag_in_list opener (cond b (3 + (slot.row - s.bins)) (slot.index - 1)) y) other
      ∙ (tag_in_bin_list opener (slot.index - 1) slot.index y (omega arith) (omega arith)
      ∙ (sent_is_peer slot.index own_bin y (omega arith)
      ∙ ap (λ (b : Bool). peer_tag s slot.index (cond b slot.row own_bin) y) (sym other)))

  -- a slot's list is one of the lists
  list_within : (item : List ℕ) (slot : Slot) → MayHave stash s.bins (candidates_of s.key s.bins item) slot
      → list_of_slot s.bins slot < 3 + stash
  list_within item slot (inl h) =
      let high : slot.row < s.bins + stash = h.2 in
      let low : s.bins ≤ slot.row = h.1 in
      let none : nat_eq slot.index 0 ≡ true = eq-eqb slot.index 0 h.0 in
      rw none (omega arith)
  list_within item slot (inr h) =
      let positive : 0 < slot.index = h.0 in
      let few : slot.index ≤ 3 = (slot_within stash s.key s.bins item slot some (inr h)).1 in
      let other : nat_eq slot.index 0 ≡ false = ne_eqb slot.index 0 (λ e. omega arith) in
      rw other (omega arith)

  -- a placed item is hit where it is shown
  hit_is_shown : (ys : List (List ℕ)) (p : Placed) → Contains s.placed p
      → is_hit (finder_of s) (tag_lists stash opener ys) p ≡ is_shown s ys p
  unfolding is_hit tag_lists tag_list meets own_tag
  hit_is_shown ys p within =
      let own : List ℕ = tag s.key s.tag_length p.slot.row (row_of s.columns p.slot.row) in
      let list : ℕ = list_of_slot s.bins p.slot in
      let tags : List (List ℕ) = map (tag_in_list opener list) ys in
      let may : MayHave stash s.bins (candidates_of s.key s.bins p.item) p.slot =
      may_have_of_placed stash s.key s.bins s.placed p is_setup.placed.each within in
      ap (list_any (bytes_eq own))
      (get_or-map-range_with_len (tag_list opener ys) 0 (3 + stash) list list [] (list_within p.item p.slot may)
      (omega arith))
      ∙ (sym (list_any-IsPermutation (bytes_eq own) tags (rising tags) (rising_moves tags))
      ∙ (list_any-map (bytes_eq own) (tag_in_list opener list) ys
      ∙ list_any_agree (λ y. bytes_eq own (tag_in_list opener list y)) (meets s p.slot) ys
      (λ y. ap (bytes_eq own) (listed_is_peer p.item p.slot y may))))

pub setups_hit_shown : SetupsHitShown
unfolding hit_items shown
setups_hit_shown stash s ones ys is_setup some are_z are_o =
    ap (map (λ (p : Placed). p.item))
    (filter_agree (is_hit (finder_of s) (tag_lists stash (opener_of stash s ones) ys)) (is_shown s ys) s.placed
    (hit_is_shown stash s ones is_setup some are_z are_o ys))

-- ---- a pair of deals

-- what the sender of a pair has is what the setup's sender has
sides_agree : (receiver : ReceiverDeal) (sender : SenderDeal) (xs : List (List ℕ)) (slots : List Slot)
    → ArePair receiver sender → length xs ≡ length slots
    → sender_side sender (length xs) (dealt_masked receiver (placed_of xs slots))
    ≡ opener_of receiver.stash (pair_setup receiver sender xs slots)
    (one_columns receiver (rows_for receiver.stash (length xs)))
sides_agree receiver sender xs slots pair l =
    let placed : List Placed = placed_of xs slots in
    let rows : ℕ = rows_for receiver.stash (length xs) in
    let sets : ColumnSets = dealt_sets receiver rows in
    let count : length placed ≡ length xs = length-placed_of xs slots l in
    let chosen : sender_columns sender (rows_for sender.stash (length xs)) ≡ chosen_columns sender.choice sets =
    ap (λ (n : ℕ). sender_columns sender (rows_for n (length xs))) (sym pair.stash)
    ∙ sender_columns_of_pair receiver sender rows pair in
    let masked : dealt_masked receiver placed ≡ masked_columns (row_words receiver.key placed rows) sets =
    ap
    (λ (n : ℕ). masked_columns (row_words receiver.key placed (rows_for receiver.stash n))
    (dealt_sets receiver (rows_for receiver.stash n))) count in
    let opened : opened_row sender.choice (sender_columns sender (rows_for sender.stash (length xs)))
    (dealt_masked receiver placed)
    ≡ opened_row sender.choice (chosen_columns sender.choice sets)
    (masked_columns (row_words receiver.key placed rows) sets) =
    ap₂ (λ (a b : List (List ℕ)). opened_row sender.choice a b) chosen masked in
    let key : receiver.key ≡ sender.key = pair.key in
    let tag_length : receiver.tag_length ≡ sender.tag_length = pair.tag_length in
    cc

-- the lists that are read from the sender's stream of a pair are those that it made
read_lists : (receiver : ReceiverDeal) (sender : SenderDeal) (n : ℕ) (sent ys : List (List ℕ)) (count : ℕ)
    (lists : List (List (List ℕ))) → ArePair receiver sender → length ys ≤ limit_items → receiver.tag_length ≤ 16
    → IsSenderStream receiver.stash receiver.id receiver.session receiver.tag_length count lists
    (sender_stream sender n sent ys)
    → lists ≡ tag_lists sender.stash (sender_side sender n sent) ys
read_lists receiver sender n sent ys count lists pair few short reads =
    let stream : List ℕ = sender_stream sender n sent ys in
    let made_lists : List (List (List ℕ)) = tag_lists sender.stash (sender_side sender n sent) ys in
    let same_stash : IsSenderStream sender.stash receiver.id receiver.session receiver.tag_length count lists stream =
    subst (λ (k : ℕ). IsSenderStream k receiver.id receiver.session receiver.tag_length count lists stream) pair.stash
    reads in
    let same_id : IsSenderStream sender.stash sender.id receiver.session receiver.tag_length count lists stream =
    subst (λ (id : List ℕ). IsSenderStream sender.stash id receiver.session receiver.tag_length count lists stream)
    pair.id same_stash in
    let same_session : IsSenderStream sender.stash sender.id sender.session receiver.tag_length count lists stream =
    subst (λ (k : ℕ). IsSenderStream sender.stash sender.id k receiver.tag_length count lists stream) pair.session
    same_id in
    let same_length : IsSenderStream sender.stash sender.id sender.session sender.tag_length count lists stream =
    subst (λ (k : ℕ). IsSenderStream sender.stash sender.id sender.session k count lists stream) pair.tag_length
    same_session in
    let made : IsSenderStream sender.stash sender.id sender.session sender.tag_length (length ys) made_lists stream =
    sender_streams_are_well_formed sender n sent ys few (subst (λ (k : ℕ). k ≤ 16) pair.tag_length short) in
    (sender_streams_tell sender.stash sender.id sender.session sender.tag_length count (length ys) lists made_lists
    stream same_length made).1

pub pairs_find_shown : PairsFindShown
pairs_find_shown receiver sender xs ys slots pair seeds choice placement =
    let setup : Setup = pair_setup receiver sender xs slots in
    let rows : ℕ = rows_for receiver.stash (length xs) in
    let ones : List (List ℕ) = one_columns receiver rows in
    let sent : List (List ℕ) = dealt_masked receiver (placed_of xs slots) in
    let side : ReceiverSide = receiver_side receiver xs slots in
    let is_setup : IsSetup receiver.stash setup =
    placed_setup receiver.stash receiver sender xs slots seeds choice placement in
    let long : length xs ≡ length slots =
    length-placement receiver.stash receiver.key (bins_for (length xs)) xs slots placement in
    let are : AreColumnSets rows (dealt_sets receiver rows) = dealt_sets_are receiver rows seeds in
    let hit : hit_items side (pair_lists receiver sender xs slots ys) ≡ shown setup ys =
    ap (λ (n : ℕ). hit_items side (tag_lists n (sender_side sender (length xs) sent) ys)) (sym pair.stash)
    ∙ (ap (λ (o : SenderSide). hit_items side (tag_lists receiver.stash o ys))
    (sides_agree receiver sender xs slots pair long)
    ∙ setups_hit_shown receiver.stash setup ones ys is_setup (omega arith)
    (are_columns rows (zero_columns receiver rows) are.zeros) (are_columns rows ones are.ones)) in
    record {
      hit = hit;
      read = λ count lists few short reads.
          ap (hit_items side) (read_lists receiver sender (length xs) sent ys count lists pair few short reads) ∙ hit;
      shows = shows_common receiver.stash setup ys is_setup;
    }

-- of each of the receiver's items whether it is hit is whether it is shown
pub pair_hit_is_shown : (receiver : ReceiverDeal) (sender : SenderDeal) (xs ys : List (List ℕ)) (slots : List Slot)
    → ArePair receiver sender → length receiver.seeds ≡ 512 → length sender.choice ≡ 64
    → IsPlacementOf receiver.stash receiver.key (bins_for (length xs)) xs slots
    → (p : Placed) → Contains (placed_of xs slots) p
    → is_hit (receiver_side receiver xs slots) (pair_lists receiver sender xs slots ys) p
    ≡ is_shown (pair_setup receiver sender xs slots) ys p
pair_hit_is_shown receiver sender xs ys slots pair seeds choice placement p within =
    let setup : Setup = pair_setup receiver sender xs slots in
    let rows : ℕ = rows_for receiver.stash (length xs) in
    let ones : List (List ℕ) = one_columns receiver rows in
    let sent : List (List ℕ) = dealt_masked receiver (placed_of xs slots) in
    let side : ReceiverSide = receiver_side receiver xs slots in
    let is_setup : IsSetup receiver.stash setup =
    placed_setup receiver.stash receiver sender xs slots seeds choice placement in
    let long : length xs ≡ length slots =
    length-placement receiver.stash receiver.key (bins_for (length xs)) xs slots placement in
    let are : AreColumnSets rows (dealt_sets receiver rows) = dealt_sets_are receiver rows seeds in
    ap (λ (n : ℕ). is_hit side (tag_lists n (sender_side sender (length xs) sent) ys) p) (sym pair.stash)
    ∙ (ap (λ (o : SenderSide). is_hit side (tag_lists receiver.stash o ys) p)
    (sides_agree receiver sender xs slots pair long)
    ∙ hit_is_shown receiver.stash setup ones is_setup (omega arith)
    (are_columns rows (zero_columns receiver rows) are.zeros) (are_columns rows ones are.ones) ys p within)
