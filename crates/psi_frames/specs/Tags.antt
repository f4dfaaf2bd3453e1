-- Blocks of tags: their fields, and what they say.
use Rattle.std.specs.Prelude.{◌≡◌, ◌+◌, ◌*◌, ℕ, List, [], ◌∷◌, length, take, option_map}
use Rattle.std.specs.Cmp.Lexicographic.{slice_cmp}
use Rattle.std.specs.Int.{w8, w32}
use Rattle.std.specs.List.Sorted.{IsSorted}
use Rattle.std.specs.Ordering.{nat_cmp}
use Rattle.psi_spec.specs.Frames.{Field, first_below, tags_head, tags_of}
use Rattle.psi_spec.specs.Streams.{blocks_for}
use Rattle.psi_frames.specs.declared.reasons.Reason.{Reason}
use Rattle.psi_frames.specs.declared.reasons.Reason.TheVariants as reason
use Rattle.psi_frames.specs.Fields.{index_field, number_field, unless}

abbrev pub tags_kind : ℕ
tags_kind = 4

-- the length of its payload: a list, a block, and so many tags of this length
abbrev pub tags_length : ℕ → ℕ → ℕ
tags_length tags tag_length = 5 + tags * tag_length

abbrev pub list_field : ℕ → Field Reason
list_field wanted = number_field w8 (unless wanted (λ found. reason.List found wanted))

abbrev pub tags_field : ℕ → ℕ → List ℕ → Field Reason
tags_field tags tag_length floor = record {
  size = tags * tag_length;
  refuse = λ bytes.
      option_map (λ at. reason.Order at) (first_below (take tag_length floor) (tags_of tags tag_length bytes));
}

-- the fields of its payload
abbrev pub tags_fields : ℕ → ℕ → ℕ → ℕ → List ℕ → List (Field Reason)
tags_fields list block tags tag_length floor =
    list_field list ∷ index_field w32 block ∷ tags_field tags tag_length floor ∷ []

-- the bytes of the frames of so many lists, each of so many tags
abbrev pub lists_size : ℕ → ℕ → ℕ → ℕ
lists_size lists tag_length count = lists * (tags_head * blocks_for count + tag_length * count)

-- tags are so many of this length, of this block of this list, and rise from the floor on
pub record AreTagsOf (list block tags tag_length : ℕ) (floor : List ℕ) (of_list of_block : ℕ) (bytes : List ℕ)
    : Type 0 where
  pub list_is : of_list ≡ list
  pub block_is : of_block ≡ block
  pub long : length bytes ≡ tags * tag_length
  pub rising : IsSorted (slice_cmp nat_cmp) (take tag_length floor ∷ tags_of tags tag_length bytes)
