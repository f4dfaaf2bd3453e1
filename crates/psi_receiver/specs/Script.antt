-- What a receiver does, frame by frame.
use Rattle.std.specs.Prelude.{◌+◌, ◌-◌, ◌*◌, ℕ, List, [], length, replicate, min, slice_index_or, zero, suc}
use Rattle.psi_spec.specs.Deals.{ReceiverDeal}
use Rattle.psi_spec.specs.Formulas.{padded}
use Rattle.psi_spec.specs.Frames.{Frame, layout, receiver_hello, sender_hello, tags_frame, done_frame, tags_of}
use Rattle.psi_spec.specs.Meeting.{Placed}
use Rattle.psi_spec.specs.Streams.{layouts, block_tags, blocks_for, column_frames}
use Rattle.psi_spec.specs.Sessions.{dealt_masked}
use Rattle.psi_frames.specs.Script.{Script, over, sends, awaits}
use Rattle.psi_frames.specs.declared.expect.Expect.TheVariants as expect

-- the count of items that a sender's hello says
abbrev pub count_in : Frame → ℕ
count_in (sender_hello id session count) = count
count_in frame = 0

-- the joined tags of a frame
abbrev pub bytes_in : Frame → List ℕ
bytes_in (tags_frame list block bytes) = bytes
bytes_in frame = []

-- how many tags a block of a list of so many has
abbrev pub tags_at : ℕ → ℕ → ℕ
tags_at count block = min block_tags (count - block_tags * block)

-- the last of so many tags, padded: the next block rises from it
abbrev pub floor_after : ℕ → ℕ → Frame → List ℕ
floor_after tag_length tags frame =
    padded tag_length (slice_index_or (tags_of tags tag_length (bytes_in frame)) (tags - 1) [])

-- a list rises from zeros
abbrev pub no_floor : List ℕ
no_floor = replicate 16 0

-- so many blocks of a list of `count` tags are awaited, from this block on, each rising from the one before it
abbrev pub awaits_blocks : ℕ → ℕ → ℕ → ℕ → ℕ → List ℕ → Script → Script
awaits_blocks tag_length count list block zero floor rest = rest
awaits_blocks tag_length count list block (suc left) floor rest =
    awaits (expect.Tags list block (tags_at count block) tag_length floor)
    (λ frame.
    awaits_blocks tag_length count list (block + 1) left (floor_after tag_length (tags_at count block) frame) rest)

-- so many lists are awaited, from this number on, each in its blocks; after the last the end is sent
abbrev pub awaits_lists : ℕ → ℕ → ℕ → ℕ → Script
awaits_lists tag_length count list zero = sends (layout done_frame) over
awaits_lists tag_length count list (suc left) =
    awaits_blocks tag_length count list 0 (blocks_for count) no_floor (awaits_lists tag_length count (list + 1) left)

-- after the sender's hello: the columns are sent, and the lists of so many tags are awaited
abbrev pub answers_hello : ReceiverDeal → List Placed → ℕ → Script
answers_hello deal placed count =
    sends (layouts (column_frames 0 (dealt_masked deal placed))) (awaits_lists deal.tag_length count 0 (3 + deal.stash))

-- what a receiver with this deal and these items in their slots does
unfoldable pub receiver_script : ReceiverDeal → List Placed → Script
receiver_script deal placed =
    sends (layout (receiver_hello deal.id deal.session (length placed)))
    (awaits (expect.SenderHello deal.id deal.session) (λ hello. answers_hello deal placed (count_in hello)))
