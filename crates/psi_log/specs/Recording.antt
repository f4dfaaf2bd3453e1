-- Records that are written.
use Rattle.std.specs.Prelude.{ℕ, List}

-- a recorder: the bytes of the record so far, and how many may be added before memory is taken again
pub record RecorderState : Type 0 where
  pub bytes : List ℕ
  pub spare : ℕ
