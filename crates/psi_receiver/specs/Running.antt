-- The receiver's end as contracts see it: what is to be sent, what is done after that, and the marks of its own tags.
use Rattle.std.specs.Prelude.{◌≡◌, ◌+◌, ◌-◌, ◌<◌, ◌≤◌, ◌^◌, ℕ, Bool, true, false, List, [], ◌++◌, length, map, take, drop, slice_get, slice_set, slice_index_or, nat_lt, Some, IsSorted, ◌||◌, ⊤, if◌then◌else◌}
use Rattle.std.specs.Cmp.Lexicographic.{slice_cmp}
use Rattle.std.specs.Ordering.{nat_cmp}
use Rattle.psi_spec.specs.Limits.{limit_items, bins_for, rows_for}
use Rattle.psi_spec.specs.Columns.{column_bytes}
use Rattle.psi_spec.specs.Deals.{ReceiverDeal, IsReceiverDeal}
use Rattle.psi_spec.specs.Formulas.{padded}
use Rattle.psi_spec.specs.Frames.{Frame, layout, receiver_hello, done_frame, hello_size, column_head}
use Rattle.psi_spec.specs.Hits.{list_of_slot}
use Rattle.psi_spec.specs.Matrices.{IsMatrix}
use Rattle.psi_spec.specs.Meeting.{Placed, placed_of}
use Rattle.psi_spec.specs.Placement.{Slot, IsPlacementOf}
use Rattle.psi_spec.specs.Sessions.{dealt_masked}
use Rattle.psi_spec.specs.Streams.{layouts, blocks_for, column_frames}
use Rattle.psi_frames.specs.Script.{Script, EndState, awaits, over}
use Rattle.psi_frames.specs.declared.expect.Expect.TheVariants as expect
use Rattle.psi_receiver.specs.declared.memory.Memory.{Memory}
use Rattle.psi_receiver.specs.declared.own.OwnTags.{OwnTags}
use Rattle.psi_receiver.specs.declared.phase.Merge.{Merge}
use Rattle.psi_receiver.specs.declared.phase.Phase.{Phase}
use Rattle.psi_receiver.specs.declared.phase.Phase.TheVariants as phase
use Rattle.psi_receiver.specs.Marking.{is_among}
use Rattle.psi_receiver.specs.Own.{AreMarked, AreOwnTags, AreShownBy, AreShownFor, AreUnmarked, AreUnshown, IsMarkedList, IsMerging, Marked, marks_of, own_tags_in}
use Rattle.psi_receiver.specs.Script.{answers_hello, awaits_blocks, awaits_lists, count_in, no_floor}

-- ---- what is done

-- what is done once nothing is owed: the sender's hello is awaited; or its lists of so many tags, if there are any; or
-- this block of this list, whose tags rise from a floor, and all after it; or nothing, since the end is owed, or was
-- put into the outbox
pub data Stage : Type 0 where
  greets : Stage
  answers : ℕ → Stage
  merges : ℕ → ℕ → List ℕ → ℕ → Stage
  ends : Stage
  is_over : Stage

-- a receiver's end: its deal and items in their slots, the bytes in the outbox, those that are owed after them, what is
-- done after these, the own tags of each list with their marks, and of each item whether it is shown
pub record ReceiverState : Type 0 where
  pub deal : ReceiverDeal
  pub placed : List Placed
  pub pending : List ℕ
  pub rest : List ℕ
  pub stage : Stage
  pub lists : List Marked
  pub shown : List Bool

-- this block of a list is awaited, rising from a floor, and all that come after it
abbrev pub awaits_from : ReceiverDeal → ℕ → ℕ → List ℕ → ℕ → Script
awaits_from deal list block floor count =
    awaits_blocks deal.tag_length count list block (blocks_for count - block) floor
    (awaits_lists deal.tag_length count (list + 1) (2 + deal.stash - list))

-- what an end does once nothing is owed
abbrev pub next_of : ReceiverDeal → List Placed → Stage → Script
next_of deal placed greets =
    awaits (expect.SenderHello deal.id deal.session) (λ hello. answers_hello deal placed (count_in hello))
next_of deal placed (answers count) = if nat_lt 0 count then awaits_from deal 0 0 no_floor count else over
next_of deal placed (merges list block floor count) = awaits_from deal list block floor count
next_of deal placed ends = over
next_of deal placed is_over = over

-- whether no frame was taken yet
abbrev pub is_new_at : Stage → Bool
is_new_at greets = true
is_new_at stage = false

-- what an end owes and how it goes on
abbrev pub state_of : ReceiverState → EndState
state_of s = record { owes = s.pending ++ s.rest; next = next_of s.deal s.placed s.stage; is_new = is_new_at s.stage }

-- the slots of an end's items
abbrev pub slots_of : ReceiverState → List Slot
slots_of s = map (λ p. p.slot) s.placed

-- an end that took nothing yet: its hello is pending, and no own tag is marked
pub record IsNewReceiver (s : ReceiverState) : Type 0 where
  pub stage : s.stage ≡ greets
  pub pending : s.pending ≡ layout (receiver_hello s.deal.id s.deal.session (length s.placed))
  pub rest : s.rest ≡ []
  pub marks : AreUnmarked s.lists

-- where all was taken: each list has its own tags with a mark for each, and the items are shown by them
pub record HasFound (s : ReceiverState) : Type 0 where
  pub many : length s.lists ≡ 3 + s.deal.stash
  pub each : (list : ℕ) (m : Marked) → slice_get s.lists list ≡ Some m
      → IsMarkedList (own_tags_in s.deal (slots_of s) list) m
  pub places : (i : ℕ) (slot : Slot) → slice_get (slots_of s) i ≡ Some slot
      → list_of_slot (bins_for (length s.placed)) slot < 3 + s.deal.stash
  pub long : length s.shown ≡ length s.placed
  pub found : AreShownBy s.deal (slots_of s) s.lists s.shown

-- at all times an end tells of each item whether it is shown: none is while a frame is awaited, and then each is by the
-- mark of its own tag
pub record TellsShown (s : ReceiverState) : Type 0 where
  pub each : length s.shown ≡ length s.placed
  pub early : ¬ ((state_of s).next ≡ over) → AreUnshown s.shown
  pub found : (state_of s).next ≡ over → HasFound s

-- what an end keeps against an end that it was before, once it took these frames: that end's deal and items, marks of
-- its own tags by these frames, and, once no frame is awaited, its items shown by the marks: those whose own tag is in
-- the list of their slot
pub record KeptSince (first s : ReceiverState) (frames : List Frame) : Type 0 where
  pub deal : s.deal ≡ first.deal
  pub placed : s.placed ≡ first.placed
  pub marks : AreMarked s.deal.tag_length frames s.lists
  pub found : (state_of s).next ≡ over → HasFound s
  pub shown : (state_of s).next ≡ over → AreShownFor s.deal (slots_of s) frames s.shown

-- ---- its parts

-- the end, where there are no tags
abbrev pub end_for : ℕ → List ℕ
end_for count = if nat_lt 0 count then [] else layout done_frame

-- the bytes that are owed after those in the outbox
abbrev pub rest_in : List (List ℕ) → Phase → List ℕ
rest_in columns (phase.Columns next count) = layouts (column_frames next (drop next columns)) ++ end_for count
rest_in columns phase.Done = layout done_frame
rest_in columns p = []

-- what is done once nothing is owed
abbrev pub stage_in : Phase → Stage
stage_in phase.Hello = greets
stage_in (phase.Columns next count) = answers count
stage_in (phase.Tags m) = merges m.list m.block m.floor m.count
stage_in phase.Done = ends
stage_in phase.Over = is_over

-- an end of this memory, and how far it has come
abbrev pub running : ReceiverDeal → List (List ℕ) → List Slot → Memory → Phase → ReceiverState
running of_deal items slots memory p = record {
  deal = of_deal;
  placed = placed_of items slots;
  pending = memory.outbox.pending;
  rest = rest_in memory.sent.columns p;
  stage = stage_in p;
  lists = marks_of memory.own;
  shown = memory.shown.items;
}

-- the masked columns, own tags and marks are those of the placed items, there is a mark for each item, and the outbox
-- has room for a hello and for a column, which is spare where nothing is pending
pub record IsMemory (deal : ReceiverDeal) (items : List (List ℕ)) (slots : List Slot) (memory : Memory) : Type 0 where
  pub sent : memory.sent
      ≡ record { rows = rows_for deal.stash (length items); columns = dealt_masked deal (placed_of items slots) }
  pub columns : IsMatrix memory.sent
  pub own : AreOwnTags deal slots memory.own
  pub shown : length memory.shown.items ≡ length items
  pub hello_room : hello_size ≤ memory.outbox.room
  pub column_room : column_head + column_bytes memory.sent.rows ≤ memory.outbox.room
  pub spare : memory.outbox.pending ≡ [] → memory.outbox.spare ≡ memory.outbox.room

-- the own tags of a list can be merged from a place on: they rise, each has a mark, and a merge stands there
pub record IsMergeable (floor : List ℕ) (place : ℕ) (m : Marked) : Type 0 where
  pub rises : IsSorted (slice_cmp nat_cmp) m.tags
  pub few : length m.tags < 2 ^ 32
  pub long : length m.hits ≡ length m.tags
  pub merging : IsMerging floor place m

-- the marks of a list after these tags came: those that were, and those of the own tags among them
pub record GoesOn (came : List (List ℕ)) (m m' : Marked) : Type 0 where
  pub tags : m'.tags ≡ m.tags
  pub long : length m'.hits ≡ length m.hits
  pub hits : (i : ℕ) → i < length m.tags
      → slice_index_or m'.hits i false
      ≡ (slice_index_or m.hits i false || is_among came (slice_index_or m.tags i []))

-- of all lists the marks of this one go on
pub record IsMergedWith (came : List (List ℕ)) (list : ℕ) (lists lists' : List Marked) : Type 0 where
  pub marked : Marked
  pub set : lists' ≡ slice_set lists list marked
  pub on : (m : Marked) → slice_get lists list ≡ Some m → GoesOn came m marked

-- there is such a block, its floor is a padded tag, and the own tags of its list can be merged from there on
pub record IsAwaiting (deal : ReceiverDeal) (own : OwnTags) (merge : Merge) : Type 0 where
  pub lists : merge.list < 3 + deal.stash
  pub blocks : merge.block < blocks_for merge.count
  pub few : merge.count ≤ limit_items
  pub floor_long : length merge.floor ≡ 16
  pub floor_is : merge.floor ≡ padded deal.tag_length (take deal.tag_length merge.floor)
  pub merging : (m : Marked) → slice_get (marks_of own) merge.list ≡ Some m → IsMergeable merge.floor merge.from m

-- what stands in a phase
abbrev pub Stands : ReceiverDeal → List Slot → Memory → Phase → Type 0
Stands deal slots memory (phase.Columns next count) = (next < 512) × (count ≤ limit_items)
Stands deal slots memory (phase.Tags merge) = IsAwaiting deal memory.own merge
Stands deal slots memory p = ⊤

-- what is shown in a phase: nothing, and no own tag is marked, before tags are awaited; nothing while they are; and
-- then the items by their marks, at the latest when the end was put
abbrev pub ShowsIn : ReceiverDeal → List Slot → Memory → Phase → Type 0
ShowsIn deal slots memory (phase.Tags merge) = AreUnshown memory.shown.items
ShowsIn deal slots memory phase.Done =
    ¬ (memory.outbox.pending ≡ []) → AreShownBy deal slots (marks_of memory.own) memory.shown.items
ShowsIn deal slots memory phase.Over = AreShownBy deal slots (marks_of memory.own) memory.shown.items
ShowsIn deal slots memory p = AreUnmarked (marks_of memory.own) × AreUnshown memory.shown.items

-- what each session keeps
pub record IsSession (deal : ReceiverDeal) (items : List (List ℕ)) (slots : List Slot) (memory : Memory) (p : Phase)
    : Type 0 where
  pub few : length items ≤ limit_items
  pub dealt : IsReceiverDeal deal
  pub placed : IsPlacementOf deal.stash deal.key (bins_for (length items)) items slots
  pub holds : IsMemory deal items slots memory
  pub stands : Stands deal slots memory p
  pub shows : ShowsIn deal slots memory p
