-- Blocks of tags: what their bytes spell, and which are right.
use Rattle.std.proofs.Common.{◌≡◌, ◌<◌, ◌≤◌, ◌+◌, ◌*◌, ◌^◌, ◌∙◌, ℕ, suc, List, [], ◌∷◌, ◌++◌, length, take, drop, Option, Some, None, option_map, refl, sym, ap, ap₂, arith, length-drop}
use Rattle.std.specs.Int.{w32, to_be_bytes, from_be_bytes}
use Rattle.std.proofs.lemmas.List.{take-append-drop, length-take-le, take_all}
use Rattle.std.proofs.lemmas.Nat.{be_bytes_4, from_be_bytes-to_be_bytes_4}
use Rattle.psi_spec.specs.Frames.{AreBytes, first_below, first_wrong, tags_of}
use Rattle.psi_spec.proofs.Frames.{AreBytes-take, first_right, first_wrong-more, order_by_sorting}
use Rattle.psi_frames.specs.declared.reasons.Reason.TheVariants as reason
use Rattle.psi_frames.specs.Fields.{index_field}
use Rattle.psi_frames.specs.Tags.{AreTagsOf, list_field, tags_field, tags_fields}
use Rattle.psi_frames.proofs.Headers.{last_right, number_right, right_number, small_4}

-- no place is named
unnamed : (at : Option ℕ) → option_map (λ (k : ℕ). reason.Order k) at ≡ None → at ≡ None
unnamed None e = refl
unnamed (Some at) e = absurd (cc)

-- the payload of tags in which nothing is wrong
pub spelled_tags : (list block tags width : ℕ) (floor bytes : List ℕ) → AreBytes bytes → length bytes ≡ 5 + tags * width → first_wrong (tags_fields list block tags width floor) bytes ≡ None
    → (list ∷ to_be_bytes w32 block ++ drop 5 bytes ≡ bytes) × (block < 2 ^ 32) × AreTagsOf list block tags width floor list block (drop 5 bytes)
spelled_tags list block tags width floor [] small long right = absurd (omega arith)
spelled_tags list block tags width floor (first ∷ rest) small long right =
    let at_list = first_right (list_field list) (index_field w32 block ∷ tags_field tags width floor ∷ []) (first ∷ rest) (omega arith) right in
    let is_list : first ≡ list = right_number (λ found. reason.List found list) list first at_list.0 in
    let small_rest : AreBytes rest = λ i. small (suc i) in
    let four : 4 ≤ length rest = omega (arith, long) in
    let at_block = first_right (index_field w32 block) (tags_field tags width floor ∷ []) rest four at_list.1 in
    let is_block : from_be_bytes w32 (take 4 rest) ≡ block = right_number (λ found. reason.Index found block) block (from_be_bytes w32 (take 4 rest)) at_block.0 in
    let size : length (drop 4 rest) ≡ tags * width = omega (arith, long, length-drop 4 rest) in
    let at_tags = first_right (tags_field tags width floor) [] (drop 4 rest) (omega (arith, size)) at_block.1 in
    let all : take (tags * width) (drop 4 rest) ≡ drop 4 rest = take_all (tags * width) (drop 4 rest) (omega (arith, size)) in
    let none : first_below (take width floor) (tags_of tags width (take (tags * width) (drop 4 rest))) ≡ None = unnamed _ at_tags.0 in
    let none_here : first_below (take width floor) (tags_of tags width (drop 4 rest)) ≡ None = sym (ap (λ (xs : List ℕ). first_below (take width floor) (tags_of tags width xs)) all) ∙ none in
    let bound = small_4 (take 4 rest) (AreBytes-take 4 rest small_rest) in (
      ap₂ (λ (l : ℕ) (xs : List ℕ). l ∷ xs ++ drop 4 rest) (sym is_list)
          (be_bytes_4 (take 4 rest) block (length-take-le 4 rest four) (AreBytes-take 4 rest small_rest) (sym is_block))
          ∙ ap (λ (xs : List ℕ). first ∷ xs) (take-append-drop 4 rest),
      omega (arith, bound, is_block),
      record { list_is = refl; block_is = refl; long = size; rising = (order_by_sorting (take width floor) (tags_of tags width (drop 4 rest))).0 none_here },
    )

-- tags with the expected parts are right
pub tags_right : (list block tags width : ℕ) (floor : List ℕ) (of_list of_block : ℕ) (bytes : List ℕ) → of_block < 2 ^ 32 → AreTagsOf list block tags width floor of_list of_block bytes
    → first_wrong (tags_fields list block tags width floor) (of_list ∷ to_be_bytes w32 of_block ++ bytes) ≡ None
tags_right list block tags width floor of_list of_block bytes small parts =
    let same : from_be_bytes w32 (to_be_bytes w32 of_block) ≡ block = from_be_bytes-to_be_bytes_4 of_block small ∙ parts.block_is in
    let none : first_below (take width floor) (tags_of tags width bytes) ≡ None = (order_by_sorting (take width floor) (tags_of tags width bytes)).1 parts.rising in
    let rising : (tags_field tags width floor).refuse bytes ≡ None = ap (option_map (λ (at : ℕ). reason.Order at)) none in
    first_wrong-more (list_field list) (index_field w32 block ∷ tags_field tags width floor ∷ []) (of_list ∷ []) (to_be_bytes w32 of_block ++ bytes) refl
    (number_right (λ found. reason.List found list) list of_list parts.list_is)
    (first_wrong-more (index_field w32 block) (tags_field tags width floor ∷ []) (to_be_bytes w32 of_block) bytes refl (number_right (λ found. reason.Index found block) block _ same)
    (last_right (tags_field tags width floor) bytes parts.long rising))

-- the list and the block of tags that are right are the expected ones
pub tags_in : (list block tags width : ℕ) (floor : List ℕ) (of_list of_block : ℕ) (bytes : List ℕ) → of_block < 2 ^ 32
    → first_wrong (tags_fields list block tags width floor) (of_list ∷ to_be_bytes w32 of_block ++ bytes) ≡ None → (list ≡ of_list) × (block ≡ of_block)
tags_in list block tags width floor of_list of_block bytes fits right =
    let rest : List ℕ = to_be_bytes w32 of_block ++ bytes in
    let at_list = first_right (list_field list) (index_field w32 block ∷ tags_field tags width floor ∷ []) (of_list ∷ rest) (omega arith) right in
    let at_block = first_right (index_field w32 block) (tags_field tags width floor ∷ []) rest (omega arith) at_list.1 in
    let is_list : of_list ≡ list = right_number (λ found. reason.List found list) list of_list at_list.0 in
    let is_block : from_be_bytes w32 (to_be_bytes w32 of_block) ≡ block = right_number (λ found. reason.Index found block) block _ at_block.0 in
    (sym is_list, sym is_block ∙ from_be_bytes-to_be_bytes_4 of_block fits)
