-- Blocks of values, in the order of rows: their fields, and what they say.
use Rattle.std.specs.Prelude.{◌≡◌, ◌+◌, ◌*◌, ℕ, List, [], ◌∷◌, length}
use Rattle.std.specs.Int.{w32}
use Rattle.psi_spec.specs.Frames.{Field}
use Rattle.psi_frames.specs.declared.reasons.Reason.{Reason}
use Rattle.psi_frames.specs.Fields.{index_field, unjudged_field}

abbrev pub values_kind : ℕ
values_kind = 7

-- the length of its payload: a block, and so many tags of this length
abbrev pub values_length : ℕ → ℕ → ℕ
values_length tags tag_length = 4 + tags * tag_length

-- the fields of its payload; values may stand in any order
abbrev pub values_fields : ℕ → ℕ → ℕ → List (Field Reason)
values_fields block tags tag_length = index_field w32 block ∷ unjudged_field (tags * tag_length) ∷ []

-- values are so many tags of this length, of this block
pub record AreValuesOf (block tags tag_length of_block : ℕ) (bytes : List ℕ) : Type 0 where
  pub block_is : of_block ≡ block
  pub long : length bytes ≡ tags * tag_length
