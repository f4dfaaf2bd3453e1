-- A session as contracts see it: what is to be sent, and what is done after that.
use Rattle.std.specs.Prelude.{◌≡◌, ◌+◌, ◌*◌, ◌<◌, ◌≤◌, ℕ, true, false, List, [], ◌++◌, length, map, take, drop, slice_index_or, Option, Some, None}
use Rattle.psi_spec.specs.Limits.{limit_items, tag_limit, bins_for, rows_for}
use Rattle.psi_spec.specs.Columns.{row_of}
use Rattle.psi_spec.specs.Deals.{SenderDeal, sender_columns}
use Rattle.psi_spec.specs.Frames.{layout, sender_hello}
use Rattle.psi_spec.specs.Streams.{block_tags, blocks_for, side_of_rows}
use Rattle.psi_spec.specs.TagLists.{SenderSide, tag_list}
use Rattle.psi_frames.specs.Script.{Script, EndState, goes_on, over}
use Rattle.psi_frames.specs.declared.expect.Expect.{Expect}
use Rattle.psi_frames.specs.declared.expect.Expect.TheVariants as expect
use Rattle.psi_sender.specs.declared.memory.Memory.{Memory}
use Rattle.psi_sender.specs.declared.phase.Phase.{Phase}
use Rattle.psi_sender.specs.declared.phase.Phase.TheVariants as phase
use Rattle.psi_sender.specs.Script.{awaits_done, opens_columns, sender_script}
use Rattle.psi_sender.specs.Hashed.{AreHashes}
use Rattle.psi_sender.specs.Answering.{answer_from}

-- what is done once nothing is owed: columns are awaited, of which some are opened and the others are the chosen ones;
-- or the end is; or nothing is
pub data Stage : Type 0 where
  opens : List (List ℕ) → List (List ℕ) → Stage
  ends : Stage
  is_over : Stage

-- a session: the sender's deal and items, the receiver's count, the bytes in the outbox, those that are owed after
-- them, and what is done after these
pub record Running : Type 0 where
  pub deal : SenderDeal
  pub items : List (List ℕ)
  pub count : ℕ
  pub pending : List ℕ
  pub rest : List ℕ
  pub stage : Stage

-- what a session does once nothing is owed
abbrev pub next_of : SenderDeal → List (List ℕ) → ℕ → Stage → Script
next_of deal ys count (opens opened chosen) = opens_columns deal ys count opened chosen
next_of deal ys count ends = awaits_done
next_of deal ys count is_over = over

-- what tags are made with, over the rows of these columns
abbrev pub side_over : SenderDeal → ℕ → List (List ℕ) → SenderSide
side_over deal count columns = side_of_rows deal count (row_of columns)

-- the frames that are owed after what is pending
abbrev pub rest_in : ℕ → SenderSide → List (List ℕ) → Phase → List ℕ
rest_in stash s ys (phase.Tags list block) = answer_from stash s ys list block
rest_in stash s ys p = []

-- what is done once nothing is owed, where the columns before the one that is due are opened
abbrev pub stage_in : List (List ℕ) → Phase → Stage
stage_in columns (phase.Columns next) = opens (take next columns) (drop next columns)
stage_in columns phase.Over = is_over
stage_in columns p = ends

-- a session of this memory and how far it has come
abbrev pub running : SenderDeal → List (List ℕ) → ℕ → Memory → Phase → Running
running own ys n memory p = record {
  deal = own;
  items = ys;
  count = n;
  pending = memory.outbox.pending;
  rest = rest_in own.stash (side_over own n memory.columns.columns) ys p;
  stage = stage_in memory.columns.columns p;
}

-- the parts of a session's memory have their sizes, with tags as short as tags are, the items are hashed, and the room
-- of the outbox is spare where nothing is pending
pub record IsMemory (deal : SenderDeal) (ys : List (List ℕ)) (count : ℕ) (memory : Memory) : Type 0 where
  pub rows : memory.columns.rows ≡ rows_for deal.stash count
  pub opened : length memory.rows ≡ rows_for deal.stash count
  pub tag_length : deal.tag_length ≤ tag_limit
  pub hashes : AreHashes deal (bins_for count) ys memory.hashes
  pub tags : length memory.tags.items ≡ length ys
  pub block : length memory.block.items ≡ block_tags * deal.tag_length
  pub room : memory.outbox.room ≡ 10 + block_tags * deal.tag_length
  pub spare : memory.outbox.pending ≡ [] → memory.outbox.spare ≡ memory.outbox.room

-- what stands while lists are sent: there is such a frame, the rows are those of the opened columns, and the tags of a
-- list that was begun are made
pub record IsAnswering (deal : SenderDeal) (ys : List (List ℕ)) (count : ℕ) (memory : Memory) (list block : ℕ)
    : Type 0 where
  pub lists : list < 3 + deal.stash
  pub blocks : block < blocks_for (length ys)
  pub rows : (j : ℕ) → j < memory.columns.rows
      → slice_index_or memory.rows j [] ≡ row_of memory.columns.columns j
  pub made : 0 < block
      → map (λ tag. take deal.tag_length tag) memory.tags.items
      ≡ tag_list (side_over deal count memory.columns.columns) ys list

-- a session that begins: the sender's hello is pending
abbrev pub begun : SenderDeal → List (List ℕ) → ℕ → Running
begun own ys n = record {
  deal = own;
  items = ys;
  count = n;
  pending = layout (sender_hello own.id own.session (length ys));
  rest = [];
  stage = opens [] (sender_columns own (rows_for own.stash n));
}

-- what each session keeps
pub record IsSession (deal : SenderDeal) (ys : List (List ℕ)) (count : ℕ) (memory : Memory) (p : Phase)
    : Type 0 where
  pub few : count ≤ limit_items
  pub full : length memory.columns.columns ≡ 512
  pub holds : IsMemory deal ys count memory
  pub column : (c : ℕ) → p ≡ phase.Columns c → c < 512
  pub answering : (list block : ℕ) → p ≡ phase.Tags list block → IsAnswering deal ys count memory list block

-- all that a session owes
abbrev pub owed_by : Running → List ℕ
owed_by s = s.pending ++ s.rest

-- the sender's end in a session
abbrev pub mid_state : Running → EndState
mid_state s = record { owes = owed_by s; next = next_of s.deal s.items s.count s.stage; is_new = false }

-- the sender's end: its deal and items, and its session from the receiver's hello on
pub record SenderState : Type 0 where
  pub deal : SenderDeal
  pub items : List (List ℕ)
  pub session : Option Running

-- what it owes and how it goes on, before and in a session
abbrev pub state_in : SenderDeal → List (List ℕ) → Option Running → EndState
state_in deal ys None = goes_on true (sender_script deal ys)
state_in deal ys (Some s) = mid_state s

abbrev pub state_of : SenderState → EndState
state_of s = state_in s.deal s.items s.session

-- what lies in its outbox
abbrev pub front_in : Option Running → List ℕ
front_in None = []
front_in (Some s) = s.pending

abbrev pub front_of : SenderState → List ℕ
front_of s = front_in s.session

-- what is owed after that
abbrev pub rest_of : Option Running → List ℕ
rest_of None = []
rest_of (Some s) = s.rest

-- what the sender's end keeps: the frame that is due first is the receiver's hello of its deal, and where anything is
-- owed in a session, something is pending
pub record IsSender (deal : SenderDeal) (hello : Expect) (session : Option Running) : Type 0 where
  pub first : hello ≡ expect.ReceiverHello deal.id deal.session
  pub ready : front_in session ≡ [] → rest_of session ≡ []
