-- The end of a session: a frame without a payload.
use Rattle.std.specs.Prelude.{ℕ}

abbrev pub done_kind : ℕ
done_kind = 5

-- the length of its payload
abbrev pub done_length : ℕ
done_length = 0
