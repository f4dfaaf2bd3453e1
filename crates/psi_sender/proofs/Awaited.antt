-- The frames that a sender awaits are those of a receiver's stream.
use Rattle.std.proofs.lemmas.Grind.{flat_map-append}
use Rattle.std.proofs.Common.{◌≡◌, ◌<◌, ◌≤◌, ◌+◌, ◌^◌, ◌∙◌, ℕ, suc, List, [], ◌∷◌, ◌++◌, length, refl, sym, ap, ap₂, subst, arith, append_assoc, length-append}
use Rattle.std.specs.Int.{w16, w32, to_be_bytes}
use Rattle.std.specs.List.{AllByRecursion, flat_map}
use Rattle.std.proofs.lemmas.List.{append-nil, take_at, get_or-append-add}
use Rattle.psi_spec.specs.Limits.{rows_for}
use Rattle.psi_spec.specs.Bits.{bit_of}
use Rattle.psi_spec.specs.Columns.{column_bytes, row_of}
use Rattle.psi_spec.specs.Matrices.{IsColumn}
use Rattle.psi_spec.specs.ColumnSets.{opened_column, opened_from}
use Rattle.psi_spec.specs.Deals.{SenderDeal}
use Rattle.psi_spec.specs.Frames.{AreBytes, Frame, layout, receiver_hello, sender_hello, column_frame, tags_frame, values_frame, done_frame}
use Rattle.psi_spec.specs.Streams.{layouts, column_frames, sender_answer}
use Rattle.psi_frames.specs.declared.expect.Expect.TheVariants as expect
use Rattle.psi_frames.specs.Expected.{IsValid}
use Rattle.psi_frames.specs.Script.{AreAwaited, owed_for}
use Rattle.psi_frames.specs.Valid.{HasParts}
use Rattle.psi_spec.proofs.Clean.{clean_from_padding, padding_from_clean}
use Rattle.psi_spec.proofs.Frames.{AreBytes-take}
use Rattle.psi_frames.proofs.Parts.{valid_by_parts, valid_from_parts}
use Rattle.psi_sender.specs.Script.{bytes_in, opens_columns}

-- the frames of columns from number c on, and of the end
abbrev pub column_list : ℕ → List (List ℕ) → List Frame
column_list c us = column_frames c us ++ done_frame ∷ []

pub column_list-bytes : (c : ℕ) (us : List (List ℕ)) → layouts (column_list c us) ≡ layouts (column_frames c us) ++ layout done_frame
column_list-bytes c us =
    flat_map-append layout (column_frames c us) (done_frame ∷ [])
    ∙ ap (λ (xs : List ℕ). layouts (column_frames c us) ++ xs) (append-nil (layout done_frame))

-- ---- bytes of parts

pub bytes-left : (a b : List ℕ) → AreBytes (a ++ b) → AreBytes a
bytes-left a b h = subst AreBytes (take_at a b (length a) refl) (AreBytes-take (length a) (a ++ b) h)

pub bytes-right : (a b : List ℕ) → AreBytes (a ++ b) → AreBytes b
bytes-right a b h = λ i. subst (λ (x : ℕ). x < 2 ^ 8) (get_or-append-add a b i 0) (h (length a + i))

-- ---- columns

-- the rows that a receiver's count gives are few enough for the length of a column's payload
abbrev pub FewRows : ℕ → Type 0
FewRows rows = 2 + column_bytes rows < 2 ^ 32

column_valid : (c rows : ℕ) (u : List ℕ) → c < 512 → FewRows rows → IsColumn rows u → IsValid (expect.Column c rows) (column_frame c u)
column_valid c rows u small few is =
    valid_from_parts (expect.Column c rows) (column_frame c u) few (omega arith)
    (record { index_is = refl; long = is.size; clean = padding_from_clean rows u is.bytes is.padding })

-- a sender awaits the frames of as many columns as it has, and of the end
pub columns_awaited : (deal : SenderDeal) (ys : List (List ℕ)) (count : ℕ) (opened chosen us : List (List ℕ))
    → FewRows (rows_for deal.stash count) → AllByRecursion (IsColumn (rows_for deal.stash count)) us → length us ≡ length chosen → length opened + length us ≤ 512
    → AreAwaited (opens_columns deal ys count opened chosen) (column_list (length opened) us)
columns_awaited deal ys count opened [] [] few each same within = (valid_from_parts expect.Done done_frame (omega arith) tt tt, tt)
columns_awaited deal ys count opened [] (u ∷ us) few each same within = absurd (omega arith)
columns_awaited deal ys count opened (column ∷ chosen) [] few each same within = absurd (omega arith)
columns_awaited deal ys count opened (column ∷ chosen) (u ∷ us) few each same within =
    let next : List (List ℕ) = opened ++ opened_column (bit_of deal.choice (length opened)) column u ∷ [] in
    let long : length next ≡ length opened + 1 = length-append opened (opened_column (bit_of deal.choice (length opened)) column u ∷ []) in (
      column_valid (length opened) (rows_for deal.stash count) u (omega arith) few each.0,
      subst (λ (c : ℕ). AreAwaited (opens_columns deal ys count next chosen) (column_list c us)) long
          (columns_awaited deal ys count next chosen us few each.1 (omega arith) (omega (arith, long))),
    )

-- what is owed for them are the lists over the rows of the opened columns
pub columns_owed : (deal : SenderDeal) (ys : List (List ℕ)) (count : ℕ) (opened chosen us : List (List ℕ)) → length us ≡ length chosen
    → owed_for (opens_columns deal ys count opened chosen) (column_list (length opened) us)
    ≡ sender_answer deal count (row_of (opened ++ opened_from deal.choice (length opened) chosen us)) ys
columns_owed deal ys count opened [] [] same =
    append-nil (sender_answer deal count (row_of opened) ys) ∙ ap (λ (xs : List (List ℕ)). sender_answer deal count (row_of xs) ys) (sym (append-nil opened))
columns_owed deal ys count opened [] (u ∷ us) same = absurd (omega arith)
columns_owed deal ys count opened (column ∷ chosen) [] same = absurd (omega arith)
columns_owed deal ys count opened (column ∷ chosen) (u ∷ us) same =
    let x : List ℕ = opened_column (bit_of deal.choice (length opened)) column u in
    let next : List (List ℕ) = opened ++ x ∷ [] in
    let long : length next ≡ length opened + 1 = length-append opened (x ∷ []) in
    subst (λ (c : ℕ). owed_for (opens_columns deal ys count next chosen) (column_list c us) ≡ sender_answer deal count (row_of (next ++ opened_from deal.choice c chosen us)) ys) long
    (columns_owed deal ys count next chosen us (omega arith))
    ∙ ap (λ (xs : List (List ℕ)). sender_answer deal count (row_of xs) ys) (append_assoc opened (x ∷ []) (opened_from deal.choice (length opened + 1) chosen us))

-- what a sender with these columns read: the frames of as many columns, and of the end
pub record WereColumns (rows c many : ℕ) (frames : List Frame) : Type 0 where
  pub columns : List (List ℕ)
  pub frames_are : frames ≡ column_list c columns
  pub many_are : length columns ≡ many
  pub each : AllByRecursion (IsColumn rows) columns

column_read : (c rows : ℕ) (f : Frame) → FewRows rows → AreBytes (layout f) → IsValid (expect.Column c rows) f
    → (u : List ℕ) × (f ≡ column_frame c u) × IsColumn rows u
column_read c rows f few bytes valid = by_parts f bytes ((valid_by_parts (expect.Column c rows) f bytes few).0 valid).1
  where
    by_parts : (g : Frame) → AreBytes (layout g) → HasParts (expect.Column c rows) g → (u : List ℕ) × (g ≡ column_frame c u) × IsColumn rows u
    by_parts (column_frame place u) bytes parts = (
      u,
      ap (λ (n : ℕ). column_frame n u) parts.index_is,
      record {
        size = parts.long;
        bytes = bytes-right (to_be_bytes w16 place) u (bytes-right (3 ∷ to_be_bytes w32 (length (to_be_bytes w16 place ++ u))) (to_be_bytes w16 place ++ u) bytes);
        padding = clean_from_padding rows u parts.long parts.clean;
      },
    )
    by_parts (receiver_hello id session count) bytes parts = absurd parts
    by_parts (sender_hello id session count) bytes parts = absurd parts
    by_parts (tags_frame list block tags) bytes parts = absurd parts
    by_parts (values_frame block values) bytes parts = absurd parts
    by_parts done_frame bytes parts = absurd parts

end_read : (f : Frame) → AreBytes (layout f) → IsValid expect.Done f → f ≡ done_frame
end_read f bytes valid = by_parts f ((valid_by_parts expect.Done f bytes (omega arith)).0 valid).1
  where
    by_parts : (g : Frame) → HasParts expect.Done g → g ≡ done_frame
    by_parts done_frame parts = refl
    by_parts (receiver_hello id session count) parts = absurd parts
    by_parts (sender_hello id session count) parts = absurd parts
    by_parts (column_frame index bytes) parts = absurd parts
    by_parts (tags_frame list block tags) parts = absurd parts
    by_parts (values_frame block values) parts = absurd parts

pub columns_read : (deal : SenderDeal) (ys : List (List ℕ)) (count : ℕ) (opened chosen : List (List ℕ)) (frames : List Frame)
    → FewRows (rows_for deal.stash count) → AreBytes (flat_map layout frames) → AreAwaited (opens_columns deal ys count opened chosen) frames
    → WereColumns (rows_for deal.stash count) (length opened) (length chosen) frames
columns_read deal ys count opened [] [] few bytes due = absurd due
columns_read deal ys count opened [] (f ∷ []) few bytes due =
    record { columns = []; frames_are = ap (λ (g : Frame). g ∷ []) (end_read f (bytes-left (layout f) [] bytes) due.0); many_are = refl; each = tt }
columns_read deal ys count opened [] (f ∷ g ∷ frames) few bytes due = absurd due.1
columns_read deal ys count opened (column ∷ chosen) [] few bytes due = absurd due
columns_read deal ys count opened (column ∷ chosen) (f ∷ frames) few bytes due =
    let c : ℕ = length opened in
    let x : List ℕ = opened_column (bit_of deal.choice c) column (bytes_in f) in
    let next : List (List ℕ) = opened ++ x ∷ [] in
    let long : length next ≡ c + 1 = length-append opened (x ∷ []) in
    let first = column_read c (rows_for deal.stash count) f few (bytes-left (layout f) (flat_map layout frames) bytes) due.0 in
    let rest = columns_read deal ys count next chosen frames few (bytes-right (layout f) (flat_map layout frames) bytes) due.1 in
    record {
      columns = first.0 ∷ rest.columns;
      frames_are = ap₂ (λ (g : Frame) (gs : List Frame). g ∷ gs) first.1 (rest.frames_are ∙ ap (λ (n : ℕ). column_list n rest.columns) long);
      many_are = ap suc rest.many_are;
      each = (first.2, rest.each);
    }
