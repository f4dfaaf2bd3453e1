-- A sender takes a receiver's stream, and nothing else, and sends its own for it.
use Rattle.std.proofs.Common.{◌≡◌, ◌≤◌, ◌∙◌, ℕ, List, [], ◌∷◌, ◌++◌, length, refl, sym, ap, ap₂, subst, arith, append_assoc}
use Rattle.std.specs.List.{flat_map}
use Rattle.std.proofs.lemmas.Bool.Decides.{nat_tests}
use Rattle.std.proofs.lemmas.List.{append-nil}
use Rattle.std.proofs.lemmas.List.Elements.{All-from_recursion, recursion_from_All}
use Rattle.psi_spec.specs.Limits.{limit_items, rows_for}
use Rattle.psi_spec.specs.Matrices.{IsColumn, IsColumnSet}
use Rattle.psi_spec.specs.ColumnSets.{opened_columns}
use Rattle.psi_spec.specs.Deals.{SenderDeal, IsSenderDeal, sender_columns}
use Rattle.psi_spec.specs.Frames.{AreBytes, Frame, layout, receiver_hello, sender_hello, column_frame, tags_frame, values_frame, done_frame}
use Rattle.psi_spec.specs.Streams.{layouts, column_frames, columns_stream, sender_stream}
use Rattle.psi_spec.proofs.DealtColumns.{are_columns, sender_columns_are}
use Rattle.psi_spec.proofs.Opening.{opened_columns_answer}
use Rattle.psi_frames.specs.Dialogue.{good}
use Rattle.psi_frames.specs.declared.expect.Expect.TheVariants as expect
use Rattle.psi_frames.specs.Expected.{IsValid}
use Rattle.psi_frames.specs.Script.{AreAwaited, owed_for}
use Rattle.psi_frames.specs.Valid.{HasParts}
use Rattle.psi_frames.proofs.Parts.{valid_by_parts, valid_from_parts}
use Rattle.psi_frames.proofs.Readings.{owes_all, reads_awaited, reads_frames}
use Rattle.psi_sender.specs.Laws.{IsStreamFor, ServesNothingElse, ServesStreams, sender_dialogue}
use Rattle.psi_sender.specs.Script.{count_in, opens_columns, sender_script}
use Rattle.psi_sender.proofs.Awaited.{FewRows, WereColumns, column_list, column_list-bytes, columns_awaited, columns_owed, columns_read, bytes-left, bytes-right}

-- a deal and a count that is not too large give few enough rows
few_rows : (deal : SenderDeal) (count : ℕ) → IsSenderDeal deal → count ≤ limit_items → FewRows (rows_for deal.stash count)
few_rows deal count is few = let stash : deal.stash ≤ 16 = let h = is.stash in grind (arith, nat_tests) in omega (arith, stash, few)

-- the frames of a receiver's stream
stream_frames : SenderDeal → ℕ → List (List ℕ) → List Frame
stream_frames deal count columns = receiver_hello deal.id deal.session count ∷ column_list 0 columns

stream_bytes : (deal : SenderDeal) (count : ℕ) (columns : List (List ℕ))
    → columns_stream deal.id deal.session count columns ≡ flat_map layout (stream_frames deal count columns)
unfolding columns_stream stream_frames
stream_bytes deal count columns =
    append_assoc (layout (receiver_hello deal.id deal.session count)) (layouts (column_frames 0 columns)) (layout done_frame)
    ∙ ap (λ (xs : List ℕ). layout (receiver_hello deal.id deal.session count) ++ xs) (sym (column_list-bytes 0 columns))

stream_bytes_are : (deal : SenderDeal) (count : ℕ) (columns : List (List ℕ))
    → columns_stream deal.id deal.session count columns ≡ flat_map layout (receiver_hello deal.id deal.session count ∷ column_list 0 columns)
unfolding stream_frames
stream_bytes_are deal count columns = stream_bytes deal count columns

hello_valid : (deal : SenderDeal) (count : ℕ) → IsSenderDeal deal → count ≤ limit_items
    → IsValid (expect.ReceiverHello deal.id deal.session) (receiver_hello deal.id deal.session count)
hello_valid deal count is few =
    valid_from_parts (expect.ReceiverHello deal.id deal.session) (receiver_hello deal.id deal.session count) (omega arith)
    (record { id = is.id; session = is.session; count = omega (arith, few) })
    (record { deal_is = refl; session_is = refl; few = few })

chosen_set : (deal : SenderDeal) (count : ℕ) → IsSenderDeal deal → IsColumnSet (rows_for deal.stash count) (sender_columns deal (rows_for deal.stash count))
chosen_set deal count is = sender_columns_are deal (rows_for deal.stash count) is.count

stream_due : (deal : SenderDeal) (ys : List (List ℕ)) (count : ℕ) (columns : List (List ℕ)) → IsSenderDeal deal → count ≤ limit_items
    → IsColumnSet (rows_for deal.stash count) columns → AreAwaited (sender_script deal ys) (stream_frames deal count columns)
unfolding stream_frames
stream_due deal ys count columns is few set =
    let chosen : List (List ℕ) = sender_columns deal (rows_for deal.stash count) in (
      hello_valid deal count is few,
      columns_awaited deal ys count [] chosen columns (few_rows deal count is few) (recursion_from_All (IsColumn (rows_for deal.stash count)) columns set.each)
          (set.count ∙ sym (chosen_set deal count is).count) (omega (arith, set.count)),
    )

answered : (deal : SenderDeal) (ys : List (List ℕ)) (count : ℕ) (columns : List (List ℕ)) → IsSenderDeal deal
    → IsColumnSet (rows_for deal.stash count) columns → owed_for (sender_script deal ys) (stream_frames deal count columns) ≡ sender_stream deal count columns ys
unfolding stream_frames opened_columns
answered deal ys count columns is set =
    let chosen : List (List ℕ) = sender_columns deal (rows_for deal.stash count) in
    ap (λ (xs : List ℕ). layout (sender_hello deal.id deal.session (length ys)) ++ xs)
    (columns_owed deal ys count [] chosen columns (set.count ∙ sym (chosen_set deal count is).count))
    ∙ sym (opened_columns_answer deal count columns ys is.choice is.count (are_columns (rows_for deal.stash count) columns set))

pub serves_streams : ServesStreams
unfolding sender_dialogue
serves_streams deal ys count columns bytes is stream =
    let frames : List Frame = stream_frames deal count columns in
    let due = stream_due deal ys count columns is stream.few stream.column_set in
    let same : bytes ≡ flat_map layout frames = stream.is ∙ stream_bytes deal count columns in
    record {
      reads = λ more.
          reads_awaited (sender_script deal ys) frames bytes more (record { due = due; bytes = same });
      sends = subst (λ (xs : List ℕ). (sender_dialogue deal ys).owes xs ≡ sender_stream deal count columns ys) (sym same)
          (ap (sender_dialogue deal ys).owes (sym (append-nil (flat_map layout frames))) ∙ owes_all (sender_script deal ys) frames [] due
          ∙ answered deal ys count columns is stream.column_set);
    }

-- ---- nothing else

pub hello_read : (deal : SenderDeal) (f : Frame) → AreBytes (layout f) → IsValid (expect.ReceiverHello deal.id deal.session) f
    → (count : ℕ) × (f ≡ receiver_hello deal.id deal.session count) × (count ≤ limit_items)
hello_read deal f bytes valid = by_parts f ((valid_by_parts (expect.ReceiverHello deal.id deal.session) f bytes (omega arith)).0 valid).1
  where
    by_parts : (g : Frame) → HasParts (expect.ReceiverHello deal.id deal.session) g → (count : ℕ) × (g ≡ receiver_hello deal.id deal.session count) × (count ≤ limit_items)
    by_parts (receiver_hello id session count) parts = (
      count,
      ap (λ (i : List ℕ). receiver_hello i session count) parts.deal_is ∙ ap (λ (n : ℕ). receiver_hello deal.id n count) parts.session_is,
      parts.few,
    )
    by_parts (sender_hello id session count) parts = absurd parts
    by_parts (column_frame index u) parts = absurd parts
    by_parts (tags_frame list block tags) parts = absurd parts
    by_parts (values_frame block values) parts = absurd parts
    by_parts done_frame parts = absurd parts

-- the frames that a sender awaited are those of a receiver's stream
pub were_stream : (deal : SenderDeal) (ys : List (List ℕ)) (frames : List Frame) → IsSenderDeal deal → AreBytes (flat_map layout frames)
    → AreAwaited (sender_script deal ys) frames → (count : ℕ) × (columns : List (List ℕ)) × IsStreamFor deal count columns (flat_map layout frames)
were_stream deal ys [] is bytes due = absurd due
were_stream deal ys (f ∷ frames) is bytes due =
    let hello = hello_read deal f (bytes-left (layout f) (flat_map layout frames) bytes) due.0 in
    let count : ℕ = hello.0 in
    let chosen : List (List ℕ) = sender_columns deal (rows_for deal.stash count) in
    let later : AreAwaited (opens_columns deal ys count [] chosen) frames = subst (λ (g : Frame). AreAwaited (opens_columns deal ys (count_in g) [] (sender_columns deal (rows_for deal.stash (count_in g)))) frames) hello.1 due.1 in
    let rest : WereColumns (rows_for deal.stash count) 0 (length chosen) frames =
    columns_read deal ys count [] chosen frames (few_rows deal count is hello.2) (bytes-right (layout f) (flat_map layout frames) bytes) later in (
      count,
      rest.columns,
      record {
        few = hello.2;
        column_set = record {
          count = rest.many_are ∙ (chosen_set deal count is).count;
          each = All-from_recursion (IsColumn (rows_for deal.stash count)) rest.columns rest.each;
        };
        is = ap (flat_map layout) (ap₂ (λ (g : Frame) (gs : List Frame). g ∷ gs) hello.1 rest.frames_are) ∙ sym (stream_bytes_are deal count rest.columns);
      },
    )

pub serves_nothing_else : ServesNothingElse
unfolding sender_dialogue
serves_nothing_else deal ys bytes taken is small h =
    let stream = (reads_frames (sender_script deal ys) [] bytes (good taken) small).0 h in
    let front : AreBytes (flat_map layout stream.frames) = bytes-left (flat_map layout stream.frames) stream.rest (subst AreBytes stream.split small) in
    let found = were_stream deal ys stream.frames is front stream.due in
    (found.0, found.1, subst (IsStreamFor deal found.0 found.1) (sym stream.taken_is) found.2)
