-- The limits, and the numbers of bins and rows.
use Rattle.std.specs.Prelude.{ℕ, ◌+◌, ◌/◌}

-- the most items of a file
abbrev pub limit_items : ℕ
limit_items = 1048576

-- the most bytes of an item
abbrev pub line_limit : ℕ
line_limit = 256

-- the most bytes of a file that is read, but for the record of a session
abbrev pub file_limit : ℕ
file_limit = 33554432

-- the most bytes of the record of a session
abbrev pub record_limit : ℕ
record_limit = 536870912

-- the most bytes of a tag
abbrev pub tag_limit : ℕ
tag_limit = 16

-- the most rows of the stash
abbrev pub stash_limit : ℕ
stash_limit = 16

-- the rows of the stash where their number is not given
abbrev pub usual_stash : ℕ
usual_stash = 4

-- the bins for n items of the receiver
abbrev pub bins_for : ℕ → ℕ
bins_for n = n + n / 5 + 1

-- the rows for n items and this many stash rows
abbrev pub rows_for : ℕ → ℕ → ℕ
rows_for stash n = bins_for n + stash

-- the most rows of a table: those for the most items and the most stash rows
abbrev pub row_limit : ℕ
row_limit = 1258308

-- the most bytes of a frame: those of a column of the most rows
abbrev pub inbox_room : ℕ
inbox_room = 157296
