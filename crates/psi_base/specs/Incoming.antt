-- The bytes that a link in memory still has to give, and the pieces that they come in.
use Rattle.std.specs.Prelude.{◌-◌, ◌++◌, ◌==◌, ℕ, List, [], ◌∷◌, length, min, take, drop, if◌then◌else◌}

-- the bytes that are still to come, and the lengths of the pieces that they come in; past the last of these the rest is
-- one piece
pub record Coming : Type 0 where
  pub bytes : List ℕ
  pub cuts : List ℕ

-- nothing is to come
abbrev pub no_coming : Coming
no_coming = record { bytes = []; cuts = [] }

-- the cuts without the pieces of no bytes at their front
abbrev pub without_empty : List ℕ → List ℕ
without_empty [] = []
without_empty (cut ∷ cuts) = if cut == 0 then without_empty cuts else cut ∷ cuts

-- how many of so many bytes are in the first piece
abbrev pub piece_len : List ℕ → ℕ → ℕ
piece_len [] left = left
piece_len (cut ∷ cuts) left = min cut left

-- the cuts after so many bytes of the first piece came
abbrev pub cuts_after : List ℕ → ℕ → List ℕ
cuts_after [] count = []
cuts_after (cut ∷ cuts) count = (cut - count) ∷ cuts

-- how many bytes come into a buffer of this length: as many as there are up to the end of the next piece
abbrev pub next_len : Coming → ℕ → ℕ
next_len coming room = min room (piece_len (without_empty coming.cuts) (length coming.bytes))

-- what is to come after so many bytes came
abbrev pub coming_after : Coming → ℕ → Coming
coming_after coming count =
    record { bytes = drop count coming.bytes; cuts = cuts_after (without_empty coming.cuts) count }

-- a buffer after so many bytes came into its front
abbrev pub buffer_after : Coming → ℕ → List ℕ → List ℕ
buffer_after coming count buffer = take count coming.bytes ++ drop count buffer
