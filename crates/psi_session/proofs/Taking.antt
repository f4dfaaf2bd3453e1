-- What each end takes of the other with nothing sent between: the sender the columns, and the receiver all lists.
use Rattle.std.proofs.Common.{◌≡◌, ◌+◌, ℕ, zero, suc, List, [], ◌∷◌, ◌++◌, length, drop, take, refl, sym, ap, subst, arith, length-append, append_assoc}
use Rattle.std.specs.List.{AllByRecursion, concat}
use Rattle.std.proofs.lemmas.List.{append-nil}
use Rattle.psi_spec.specs.Bits.{bit_of}
use Rattle.psi_spec.specs.ColumnSets.{opened_column, opened_from}
use Rattle.psi_spec.specs.Deals.{SenderDeal}
use Rattle.psi_spec.specs.Frames.{Frame, layout, tags_frame, done_frame}
use Rattle.psi_spec.specs.Streams.{blocks_for, column_frames}
use Rattle.psi_spec.specs.TagLists.{IsTagList}
use Rattle.psi_frames.specs.Script.{AreAwaited, Script, over, sends}
use Rattle.psi_sender.specs.Script.{opens_columns}
use Rattle.psi_sender.proofs.Awaited.{column_list}
use Rattle.psi_receiver.specs.Script.{awaits_blocks, awaits_lists, floor_after, no_floor, tags_at}
use Rattle.psi_receiver.proofs.Awaited.{block_list, lists_list}
use Rattle.psi_session.proofs.ByTurns.{Takes}

-- ---- columns

-- the sender takes them, and its answer is then over the opened ones
pub columns_taken : (deal : SenderDeal) (ys : List (List ℕ)) (count : ℕ) (opened chosen us : List (List ℕ)) → length us ≡ length chosen
    → AreAwaited (opens_columns deal ys count opened chosen) (column_list (length opened) us)
    → Takes (column_frames (length opened) us) (opens_columns deal ys count opened chosen)
    (opens_columns deal ys count (opened ++ opened_from deal.choice (length opened) chosen us) [])
columns_taken deal ys count opened [] [] same due = ap (λ (xs : List (List ℕ)). opens_columns deal ys count xs []) (sym (append-nil opened))
columns_taken deal ys count opened [] (u ∷ us) same due = absurd (omega arith)
columns_taken deal ys count opened (column ∷ chosen) [] same due = absurd (omega arith)
columns_taken deal ys count opened (column ∷ chosen) (u ∷ us) same due =
    let x : List ℕ = opened_column (bit_of deal.choice (length opened)) column u in
    let next : List (List ℕ) = opened ++ x ∷ [] in
    let long : length next ≡ length opened + 1 = length-append opened (x ∷ []) in (
      due.0,
      subst (λ (xs : List (List ℕ)). Takes (column_frames (length opened + 1) us) (opens_columns deal ys count next chosen) (opens_columns deal ys count xs []))
          (append_assoc opened (x ∷ []) (opened_from deal.choice (length opened + 1) chosen us))
          (subst (λ (c : ℕ). Takes (column_frames c us) (opens_columns deal ys count next chosen) (opens_columns deal ys count (next ++ opened_from deal.choice c chosen us) [])) long
          (columns_taken deal ys count next chosen us (omega arith)
          (subst (λ (c : ℕ). AreAwaited (opens_columns deal ys count next chosen) (column_list c us)) (sym long) due.1))),
    )

-- ---- lists

blocks_taken : (width count list block left : ℕ) (floor : List ℕ) (rest end : Script) (tags : List (List ℕ)) (frames : List Frame)
    → AreAwaited (awaits_blocks width count list block left floor rest) (block_list list block left tags ++ frames)
    → (AreAwaited rest frames → Takes frames rest end)
    → Takes (block_list list block left tags ++ frames) (awaits_blocks width count list block left floor rest) end
blocks_taken width count list block zero floor rest end tags frames due later = later due
blocks_taken width count list block (suc left) floor rest end tags frames due later =
    let f : Frame = tags_frame list block (concat (take 1024 tags)) in (
      due.0,
      blocks_taken width count list (block + 1) left (floor_after width (tags_at count block) f) rest end (drop 1024 tags) frames due.1 later,
    )

-- the receiver takes the blocks of all lists, and sends its end then
pub lists_taken : (width count list left : ℕ) (lists : List (List (List ℕ))) → length lists ≡ left → AllByRecursion (IsTagList width count) lists
    → AreAwaited (awaits_lists width count list left) (lists_list list lists)
    → Takes (lists_list list lists) (awaits_lists width count list left) (sends (layout done_frame) over)
lists_taken width count list zero [] same each due = refl
lists_taken width count list zero (tags ∷ lists) same each due = absurd (omega arith)
lists_taken width count list (suc left) [] same each due = absurd (omega arith)
lists_taken width count list (suc left) (tags ∷ lists) same each due =
    let is : IsTagList width count tags = each.0 in
    let rest : Script = awaits_lists width count (list + 1) left in
    let behind : List Frame = lists_list (list + 1) lists in
    let end : Script = sends (layout done_frame) over in
    subst (λ (n : ℕ). Takes (block_list list 0 (blocks_for n) tags ++ behind) (awaits_blocks width count list 0 (blocks_for count) no_floor rest) end) (sym is.size)
    (blocks_taken width count list 0 (blocks_for count) no_floor rest end tags behind
    (subst (λ (n : ℕ). AreAwaited (awaits_blocks width count list 0 (blocks_for count) no_floor rest) (block_list list 0 (blocks_for n) tags ++ behind)) is.size due)
    (λ later. lists_taken width count (list + 1) left lists (omega arith) each.1 later))
