-- Blocks of values: what their bytes spell, and which are right.
use Rattle.std.proofs.Common.{◌≡◌, ◌<◌, ◌≤◌, ◌+◌, ◌*◌, ◌^◌, ◌∙◌, ℕ, List, [], ◌∷◌, ◌++◌, length, take, drop, None, refl, sym, ap, arith, length-drop}
use Rattle.std.specs.Int.{w32, to_be_bytes, from_be_bytes}
use Rattle.std.proofs.lemmas.List.{take-append-drop, length-take-le}
use Rattle.std.proofs.lemmas.Nat.{be_bytes_4, from_be_bytes-to_be_bytes_4}
use Rattle.psi_spec.specs.Frames.{AreBytes, first_wrong}
use Rattle.psi_spec.proofs.Frames.{AreBytes-take, first_right, first_wrong-more}
use Rattle.psi_frames.specs.declared.reasons.Reason.TheVariants as reason
use Rattle.psi_frames.specs.Fields.{index_field, unjudged_field}
use Rattle.psi_frames.specs.Values.{AreValuesOf, values_fields}
use Rattle.psi_frames.proofs.Headers.{last_right, number_right, right_number, small_4}

-- the payload of values in which nothing is wrong
pub spelled_values : (block tags tag_length : ℕ) (bytes : List ℕ) → AreBytes bytes → length bytes ≡ 4 + tags * tag_length → first_wrong (values_fields block tags tag_length) bytes ≡ None
    → (to_be_bytes w32 block ++ drop 4 bytes ≡ bytes) × (block < 2 ^ 32) × AreValuesOf block tags tag_length block (drop 4 bytes)
spelled_values block tags tag_length bytes small long right =
    let four : 4 ≤ length bytes = omega (arith, long) in
    let at_block = first_right (index_field w32 block) (unjudged_field (tags * tag_length) ∷ []) bytes four right in
    let is_block : from_be_bytes w32 (take 4 bytes) ≡ block = right_number (λ found. reason.Index found block) block (from_be_bytes w32 (take 4 bytes)) at_block.0 in
    let bound = small_4 (take 4 bytes) (AreBytes-take 4 bytes small) in (
      ap (λ (xs : List ℕ). xs ++ drop 4 bytes) (be_bytes_4 (take 4 bytes) block (length-take-le 4 bytes four) (AreBytes-take 4 bytes small) (sym is_block)) ∙ take-append-drop 4 bytes,
      omega (arith, bound, is_block),
      record { block_is = refl; long = omega (arith, long, length-drop 4 bytes) },
    )

-- values with the expected parts are right
pub values_right : (block tags tag_length of_block : ℕ) (bytes : List ℕ) → of_block < 2 ^ 32 → AreValuesOf block tags tag_length of_block bytes
    → first_wrong (values_fields block tags tag_length) (to_be_bytes w32 of_block ++ bytes) ≡ None
values_right block tags tag_length of_block bytes small parts =
    let same : from_be_bytes w32 (to_be_bytes w32 of_block) ≡ block = from_be_bytes-to_be_bytes_4 of_block small ∙ parts.block_is in
    first_wrong-more (index_field w32 block) (unjudged_field (tags * tag_length) ∷ []) (to_be_bytes w32 of_block) bytes refl (number_right (λ found. reason.Index found block) block _ same)
    (last_right (unjudged_field (tags * tag_length)) bytes parts.long refl)

-- the block of values that are right is the expected one
pub values_of : (block tags tag_length of_block : ℕ) (bytes : List ℕ) → of_block < 2 ^ 32 → first_wrong (values_fields block tags tag_length) (to_be_bytes w32 of_block ++ bytes) ≡ None
    → block ≡ of_block
values_of block tags tag_length of_block bytes fits right =
    let at_block = first_right (index_field w32 block) (unjudged_field (tags * tag_length) ∷ []) (to_be_bytes w32 of_block ++ bytes) (omega arith) right in
    let is_block : from_be_bytes w32 (to_be_bytes w32 of_block) ≡ block = right_number (λ found. reason.Index found block) block _ at_block.0 in
    sym is_block ∙ from_be_bytes-to_be_bytes_4 of_block fits
