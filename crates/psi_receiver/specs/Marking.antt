-- Tags that are found among the tags of a block.
use Rattle.std.specs.Prelude.{◌≡◌, ◌≤◌, ◌<◌, ◌/◌, ◌*◌, ◌-◌, ℕ, Bool, true, false, not, List, [], length, map, count_by, slice_index_or, IsSorted}
use Rattle.std.specs.Cmp.Lexicographic.{slice_cmp}
use Rattle.std.specs.List.{list_any}
use Rattle.std.specs.Ordering.{nat_cmp}
use Rattle.std.specs.Str.{bytes_eq}
use Rattle.psi_spec.specs.Formulas.{padded}
use Rattle.psi_spec.specs.Frames.{is_below, tags_of}
use Rattle.psi_spec.specs.Streams.{block_tags}

-- how many tags of this length the bytes of a block have
abbrev pub tags_in : ℕ → List ℕ → ℕ
tags_in tag_length bytes = length bytes / tag_length

-- bytes are 1 to 1,024 whole tags of this length in rising order, and nothing else
pub record IsBlock (tag_length : ℕ) (bytes : List ℕ) : Type 0 where
  pub whole : length bytes ≡ tags_in tag_length bytes * tag_length
  pub some : 1 ≤ tags_in tag_length bytes
  pub few : tags_in tag_length bytes ≤ block_tags
  pub rises : IsSorted (slice_cmp nat_cmp) (tags_of (tags_in tag_length bytes) tag_length bytes)

-- the tags of a block, each padded
abbrev pub padded_tags : ℕ → List ℕ → List (List ℕ)
padded_tags tag_length bytes = map (padded tag_length) (tags_of (tags_in tag_length bytes) tag_length bytes)

-- the first and the last of them
abbrev pub first_in : ℕ → List ℕ → List ℕ
first_in tag_length bytes = slice_index_or (padded_tags tag_length bytes) 0 []

abbrev pub last_in : ℕ → List ℕ → List ℕ
last_in tag_length bytes = slice_index_or (padded_tags tag_length bytes) (tags_in tag_length bytes - 1) []

-- whether a tag is one of these
abbrev pub is_among : List (List ℕ) → List ℕ → Bool
is_among tags tag = list_any (bytes_eq tag) tags

-- how many of the own tags are not above a tag
abbrev pub not_above : List ℕ → List (List ℕ) → ℕ
not_above tag own = count_by (λ x. not (is_below tag x)) own

-- a place parts rising tags: those before it are not above this tag, and those from it on are
pub record PartsAt (tag : List ℕ) (own : List (List ℕ)) (at : ℕ) : Type 0 where
  pub within : at ≤ length own
  pub before : (i : ℕ) → i < at → is_below tag (slice_index_or own i []) ≡ false
  pub behind : (i : ℕ) → at ≤ i → i < length own → is_below tag (slice_index_or own i []) ≡ true
