-- What both ends send is well formed: the masked columns are columns, and the lists rise and have a tag for each item.
use Rattle.std.proofs.Common.{◌≡◌, ◌+◌, ◌-◌, ◌<◌, ◌≤◌, ℕ, suc, zero, Bool, true, false, cond, List, [], ◌∷◌, length, map, get_or, ltb, refl, sym, ◌∙◌, subst, arith}
use Rattle.std.specs.List.{All, AllByRecursion, range_with_len}
use Rattle.std.proofs.lemmas.List.{length-map}
use Rattle.std.proofs.lemmas.List.Elements.{All-from_recursion, recursion_from_All}
use Rattle.std.proofs.lemmas.List.FromFn.{get_or-map-range_with_len, length-map-range_with_len}
use Rattle.psi_spec.specs.Limits.{rows_for}
use Rattle.psi_spec.specs.Bits.{xor, both}
use Rattle.psi_spec.specs.Formulas.{item_digest, code, bin}
use Rattle.psi_spec.specs.Columns.{column_bytes, row_of}
use Rattle.psi_spec.specs.Matrices.{IsColumn, IsColumnSet}
use Rattle.psi_spec.specs.ColumnSets.{ColumnSets, AreColumnSets, masked_from, masked_columns}
use Rattle.psi_spec.specs.Rising.{rising}
use Rattle.psi_spec.specs.TagLists.{SenderSide, sent_tag, tag_in_list, tag_list, tag_lists, IsTagList}
use Rattle.psi_spec.specs.Streams.{words_of, receiver_stream, sender_side, sender_stream}
use Rattle.psi_spec.specs.SessionLaws.{ReceiverStreamsAreWellFormed, SenderStreamsAreWellFormed}
use Rattle.psi_spec.proofs.Xor.{length-xor}
use Rattle.psi_spec.proofs.Packing.{AreBytes-row_of}
use Rattle.psi_spec.proofs.Bytes.{AreBytes-xor}
use Rattle.psi_spec.proofs.Sizes.{length-tag}
use Rattle.psi_spec.proofs.ColumnSets.{length-row_of_words, length-masked_columns}
use Rattle.psi_spec.proofs.Clean.{clean-xor, clean-row_of}
use Rattle.psi_spec.proofs.RowWords.{length-row_words}
use Rattle.psi_spec.proofs.Rising.{each-rising, length-rising, IsSorted-rising}

-- ---- columns

pub IsColumn-xor : (rows : ℕ) (a b : List ℕ) → IsColumn rows a → IsColumn rows b → IsColumn rows (xor a b)
IsColumn-xor rows a b is_a is_b = record {
  size = length-xor (column_bytes rows) a b is_a.size is_b.size;
  bytes = AreBytes-xor a b (is_a.size ∙ sym is_b.size) is_a.bytes is_b.bytes;
  padding = clean-xor rows a b (is_a.size ∙ sym is_b.size) is_a.padding is_b.padding;
}

-- a bit of each word makes a column
pub IsColumn-row_of : (words : List (List ℕ)) (c : ℕ) → IsColumn (length words) (row_of words c)
IsColumn-row_of words c = record {
  size = length-row_of_words words c;
  bytes = AreBytes-row_of words c;
  padding = clean-row_of (length words) words c (omega arith);
}

each_is_masked : (words : List (List ℕ)) (c : ℕ) (zeros ones : List (List ℕ))
    → AllByRecursion (IsColumn (length words)) zeros → AllByRecursion (IsColumn (length words)) ones
    → AllByRecursion (IsColumn (length words)) (masked_from words c zeros ones)
each_is_masked words c [] ones are_z are_o = tt
each_is_masked words c (z ∷ zeros) [] are_z are_o = tt
each_is_masked words c (z ∷ zeros) (o ∷ ones) are_z are_o = (
  IsColumn-xor (length words) (xor z o) (row_of words c) (IsColumn-xor (length words) z o are_z.0 are_o.0)
      (IsColumn-row_of words c),
  each_is_masked words (c + 1) zeros ones are_z.1 are_o.1,
)

-- what the receiver sends are columns
pub masked_columns_are : (words : List (List ℕ)) (sets : ColumnSets) → AreColumnSets (length words) sets
    → IsColumnSet (length words) (masked_columns words sets)
unfolding masked_columns
masked_columns_are words sets are =
    let n : ℕ = length words in
    record {
      count = length-masked_columns words sets (are.zeros.count ∙ sym are.ones.count) ∙ are.zeros.count;
      each = All-from_recursion (IsColumn n) (masked_from words 0 sets.zeros sets.ones)
          (each_is_masked words 0 sets.zeros sets.ones
          (recursion_from_All (IsColumn n) sets.zeros are.zeros.each)
          (recursion_from_All (IsColumn n) sets.ones are.ones.each));
    }

pub receiver_streams_are_well_formed : ReceiverStreamsAreWellFormed
unfolding receiver_stream
receiver_streams_are_well_formed deal placed sets few are =
    let rows : ℕ = rows_for deal.stash (length placed) in
    let count : length (words_of deal placed) ≡ rows = length-row_words deal.key placed rows in
    record {
      few = few;
      column_set = subst (λ (n : ℕ). IsColumnSet n (masked_columns (words_of deal placed) sets)) count
          (masked_columns_are (words_of deal placed) sets (subst (λ (n : ℕ). AreColumnSets n sets) (sym count) are));
      is = refl;
    }

-- ---- lists

pub length-sent_tag : (s : SenderSide) (index row : ℕ) (y : List ℕ) → s.tag_length ≤ 16
    → length (sent_tag s index row y) ≡ s.tag_length
unfolding sent_tag
length-sent_tag s index row y l =
    length-tag s.key s.tag_length row (xor (s.opened row) (both s.choice (code s.key index (item_digest y))))
    (omega arith)

pub length-tag_in_list : (s : SenderSide) (list : ℕ) (y : List ℕ) → s.tag_length ≤ 16
    → length (tag_in_list s list y) ≡ s.tag_length
length-tag_in_list s list y l = by_case (ltb list 3)
  where
    own_bin : ℕ
    own_bin = bin s.key s.bins (list + 1) (item_digest y)

    later : ℕ
    later = s.bins + (list - 3)

    by_case : (b : Bool) → length (cond b (sent_tag s (list + 1) own_bin y) (sent_tag s 0 later y)) ≡ s.tag_length
    by_case true = length-sent_tag s (list + 1) own_bin y l
    by_case false = length-sent_tag s 0 later y l

pub lengths_in_list : (s : SenderSide) (list : ℕ) (ys : List (List ℕ)) → s.tag_length ≤ 16
    → AllByRecursion (λ tag. length tag ≡ s.tag_length) (map (tag_in_list s list) ys)
lengths_in_list s list [] l = tt
lengths_in_list s list (y ∷ ys) l = (length-tag_in_list s list y l, lengths_in_list s list ys l)

pub tag_list_is : (s : SenderSide) (ys : List (List ℕ)) (list : ℕ) → s.tag_length ≤ 16
    → IsTagList s.tag_length (length ys) (tag_list s ys list)
unfolding tag_list
tag_list_is s ys list l = record {
  size = length-rising (map (tag_in_list s list) ys) ∙ length-map ys (tag_in_list s list);
  lengths =
      All-from_recursion (λ tag. length tag ≡ s.tag_length) (rising (map (tag_in_list s list) ys))
      (each-rising (λ tag. length tag ≡ s.tag_length) (map (tag_in_list s list) ys) (lengths_in_list s list ys l));
  rises = IsSorted-rising (map (tag_in_list s list) ys);
}

each_list_is : (s : SenderSide) (ys : List (List ℕ)) (a n : ℕ) → s.tag_length ≤ 16
    → AllByRecursion (IsTagList s.tag_length (length ys)) (map (tag_list s ys) (range_with_len a n))
each_list_is s ys a zero l = tt
each_list_is s ys a (suc n) l = (tag_list_is s ys a l, each_list_is s ys (a + 1) n l)

pub tag_lists_are : (stash : ℕ) (s : SenderSide) (ys : List (List ℕ)) → s.tag_length ≤ 16
    → All (IsTagList s.tag_length (length ys)) (tag_lists stash s ys)
unfolding tag_lists
tag_lists_are stash s ys l =
    All-from_recursion (IsTagList s.tag_length (length ys)) (map (tag_list s ys) (range_with_len 0 (3 + stash)))
    (each_list_is s ys 0 (3 + stash) l)

pub length-tag_lists : (stash : ℕ) (s : SenderSide) (ys : List (List ℕ)) → length (tag_lists stash s ys) ≡ 3 + stash
unfolding tag_lists
length-tag_lists stash s ys = length-map-range_with_len (tag_list s ys) 0 (3 + stash)

pub sender_streams_are_well_formed : SenderStreamsAreWellFormed
unfolding sender_stream
sender_streams_are_well_formed deal count sent ys few l = record {
  few = few;
  size = length-tag_lists deal.stash (sender_side deal count sent) ys;
  each = tag_lists_are deal.stash (sender_side deal count sent) ys l;
  is = refl;
}

-- ---- one list of all

pub get_or-tag_lists : (stash : ℕ) (s : SenderSide) (ys : List (List ℕ)) (list : ℕ) → list < 3 + stash
    → get_or (tag_lists stash s ys) list [] ≡ tag_list s ys list
unfolding tag_lists
get_or-tag_lists stash s ys list l =
    get_or-map-range_with_len (tag_list s ys) 0 (3 + stash) list list [] l (omega arith)
