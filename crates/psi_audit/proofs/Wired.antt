-- The bytes of a session are a wire.
use Rattle.std.proofs.Common.{◌≡◌, ◌+◌, ◌*◌, ◌^◌, ◌<◌, ◌≤◌, ◌∙◌, ℕ, List, [], ◌∷◌, ◌++◌, length, map, take, drop, All, append_assoc, length-take, sym, ap, subst, arith}
use Rattle.std.specs.List.{AllByRecursion, concat, flat_map, range_with_len}
use Rattle.std.proofs.lemmas.List.Elements.{All-drop, All-from_recursion, All-take, recursion_from_All}
use Rattle.std.proofs.lemmas.Nat.{mul-le}
use Rattle.psi_spec.specs.Deals.{ReceiverDeal, SenderDeal}
use Rattle.psi_spec.specs.Frames.{Frame, layout, receiver_hello, sender_hello, done_frame}
use Rattle.psi_spec.specs.Limits.{rows_for}
use Rattle.psi_spec.specs.Matrices.{IsColumn, IsColumnSet}
use Rattle.psi_spec.specs.Meeting.{Placed}
use Rattle.psi_spec.specs.Records.{IsWire}
use Rattle.psi_spec.specs.Sessions.{dealt_masked, session_bytes}
use Rattle.psi_spec.specs.Streams.{block_frame, block_of, blocks_for, column_frames, dealt_sets, layouts, list_frames, lists_frames, sender_side, words_of}
use Rattle.psi_spec.specs.TagLists.{IsTagList, tag_lists}
use Rattle.psi_spec.specs.ColumnSets.{AreColumnSets}
use Rattle.psi_spec.proofs.DealtColumns.{dealt_sets_are}
use Rattle.psi_spec.proofs.Forming.{masked_columns_are, tag_lists_are}
use Rattle.psi_spec.proofs.Records.{MayPrecede, wire_of_layouts}
use Rattle.psi_spec.proofs.RowWords.{length-row_words}
use Rattle.std.proofs.lemmas.Grind.{flat_map-append}
use Rattle.psi_spec.proofs.StreamSizes.{length-column_frame, length-joined, length-receiver_hello, length-sender_hello, length-tags_frame}
use Rattle.psi_spec.proofs.SessionMoves.{wire_is}

-- ---- they stand before the end

columns_precede : (rows c : ℕ) (us : List (List ℕ)) → rows < 2 ^ 34 → AllByRecursion (IsColumn rows) us → AllByRecursion MayPrecede (column_frames c us)
columns_precede rows c [] few all = tt
columns_precede rows c (u ∷ us) few all =
    let size = all.0.size in
    (record { short = omega (arith, length-column_frame c u, size); kind = tt }, columns_precede rows (c + 1) us few all.1)

joined_few : (g : ℕ) (tags : List (List ℕ)) (b : ℕ) → g ≤ 16 → All (λ tag. length tag ≡ g) tags → length (concat (block_of tags b)) ≤ 16384
joined_few g tags b few all =
    let part : List (List ℕ) = block_of tags b in
    let long : length (concat part) ≡ length part * g =
    length-joined g part (recursion_from_All (λ (tag : List ℕ). length tag ≡ g) part (All-take (λ (tag : List ℕ). length tag ≡ g) 1024 (drop (1024 * b) tags) (All-drop (λ (tag : List ℕ). length tag ≡ g) (1024 * b) tags all))) in
    let most = mul-le (length part) g 1024 16 (omega (arith, length-take_min 1024 (drop (1024 * b) tags))) few in
    omega (arith, long, most)
  where
    length-take_min : (n : ℕ) (xs : List (List ℕ)) → length (take n xs) ≤ n
    length-take_min n xs = omega (arith, length-take {A = List ℕ} n xs)

blocks_precede : (g list : ℕ) (tags : List (List ℕ)) (bs : List ℕ) → g ≤ 16 → All (λ tag. length tag ≡ g) tags → AllByRecursion MayPrecede (map (block_frame list tags) bs)
blocks_precede g list tags [] few all = tt
blocks_precede g list tags (b ∷ bs) few all =
    let joined = joined_few g tags b few all in
    (record { short = omega (arith, length-tags_frame list b (concat (block_of tags b)), joined); kind = tt }, blocks_precede g list tags bs few all)

all-append : (P : Frame → Type 0) (xs ys : List Frame) → AllByRecursion P xs → AllByRecursion P ys → AllByRecursion P (xs ++ ys)
all-append P [] ys h k = k
all-append P (x ∷ xs) ys h k = (h.0, all-append P xs ys h.1 k)

lists_precede : (g m list : ℕ) (lists : List (List (List ℕ))) → g ≤ 16 → AllByRecursion (IsTagList g m) lists → AllByRecursion MayPrecede (lists_frames list lists)
unfolding list_frames
lists_precede g m list [] few all = tt
lists_precede g m list (tags ∷ lists) few all =
    let blocks : List ℕ = range_with_len 0 (blocks_for (length tags)) in
    all-append MayPrecede (map (block_frame list tags) blocks) (lists_frames (list + 1) lists) (blocks_precede g list tags blocks few all.0.lengths) (lists_precede g m (list + 1) lists few all.1)

-- ---- the whole

pub session_is_wire : (receiver : ReceiverDeal) (sender : SenderDeal) (placed : List Placed) (ys : List (List ℕ)) → length receiver.id ≡ 16 → length sender.id ≡ 16 → length receiver.seeds ≡ 512
    → receiver.stash ≤ 16 → sender.tag_length ≤ 16 → length placed < 2 ^ 32 → IsWire (session_bytes receiver sender placed ys)
unfolding session_bytes
session_is_wire receiver sender placed ys own_id peer_id seeds stash tag_length few =
    let rows : ℕ = rows_for receiver.stash (length placed) in
    let columns : List (List ℕ) = dealt_masked receiver placed in
    let lists : List (List (List ℕ)) = tag_lists sender.stash (sender_side sender (length placed) columns) ys in
    let hello : Frame = receiver_hello receiver.id receiver.session (length placed) in
    let answer : Frame = sender_hello sender.id sender.session (length ys) in
    let h : List ℕ = layout hello in
    let k : List ℕ = layout answer in
    let cs : List Frame = column_frames 0 columns in
    let ls : List Frame = lists_frames 0 lists in
    let frames : List Frame = hello ∷ answer ∷ (cs ++ ls) in
    let count : length (words_of receiver placed) ≡ rows = length-row_words receiver.key placed rows in
    let set : IsColumnSet rows columns =
    subst (λ (n : ℕ). IsColumnSet n columns) count
    (masked_columns_are (words_of receiver placed) (dealt_sets receiver rows) (subst (λ (n : ℕ). AreColumnSets n (dealt_sets receiver rows)) (sym count) (dealt_sets_are receiver rows seeds))) in
    let precede : AllByRecursion MayPrecede frames = (
      record { short = omega (arith, length-receiver_hello receiver.id receiver.session (length placed) own_id); kind = tt },
      (
        record { short = omega (arith, length-sender_hello sender.id sender.session (length ys) peer_id); kind = tt },
        all-append MayPrecede cs ls (columns_precede rows 0 columns (omega arith) (recursion_from_All (IsColumn rows) columns set.each))
            (lists_precede sender.tag_length (length ys) 0 lists tag_length (recursion_from_All (IsTagList sender.tag_length (length ys)) lists (tag_lists_are sender.stash (sender_side sender (length placed) columns) ys tag_length))),
      ),
    ) in
    let sent : List ℕ = layouts cs in
    let tags : List ℕ = layouts ls in
    let end : List ℕ = layout done_frame in
    let joined : flat_map layout frames ++ end ≡ h ++ (k ++ (sent ++ (tags ++ end))) =
    ap (λ (rest : List ℕ). h ++ (k ++ rest) ++ end) (flat_map-append layout cs ls)
    ∙ append_assoc h (k ++ (sent ++ tags)) end
    ∙ ap (λ (rest : List ℕ). h ++ rest) (append_assoc k (sent ++ tags) end ∙ ap (λ (rest : List ℕ). k ++ rest) (append_assoc sent tags end)) in
    subst IsWire (joined ∙ sym (wire_is hello answer columns lists)) (wire_of_layouts frames (All-from_recursion MayPrecede frames precede))
