-- The transcript of a session in memory, and a session that was run whole.
use Rattle.std.specs.Prelude.{◌≡◌, ◌+◌, ◌*◌, ℕ, List, [], ◌∷◌, ◌++◌, Option, Some, None, length, nat_lt, option_map, if◌then◌else◌}
use Rattle.sha2.specs.Hashers.{Holds256}
use Rattle.psi_spec.specs.DealFiles.{sealed}
use Rattle.psi_spec.specs.Deals.{ReceiverDeal, SenderDeal}
use Rattle.psi_spec.specs.Frames.{hello_size, done_size}
use Rattle.psi_spec.specs.Limits.{rows_for}
use Rattle.psi_spec.specs.Meeting.{placed_of}
use Rattle.psi_spec.specs.Placement.{Slot}
use Rattle.psi_spec.specs.Records.{record_front}
use Rattle.psi_spec.specs.Sessions.{dealt_lists, session_bytes}
use Rattle.psi_frames.specs.Column.{columns_size}
use Rattle.psi_frames.specs.Tags.{lists_size}
use Rattle.psi_log.specs.Recording.{RecorderState}
use Rattle.psi_receiver.specs.Receiving.{hits_of}
use Rattle.psi_walk.specs.Tree.{Effect, puts}
use Rattle.psi_local.specs.declared.transcript.SessionTranscript.{SessionTranscript}
use Rattle.psi_local.specs.declared.playing.PlayedSession.{PlayedSession}

-- the bytes of a record, if there is one
abbrev pub log_of : Option RecorderState → Option (List ℕ)
log_of recorder = option_map (λ log. log.bytes) recorder

-- the front of the record of these slots, if there is a word for its file
abbrev pub front_for : List (List ℕ) → List Slot → Option (List ℕ)
front_for words slots = if nat_lt 6 (length words) then Some (record_front slots) else None

-- once these bytes passed, a transcript has them in its hash and in its record, behind what was there at first
pub record WentOn (first now : SessionTranscript) (bytes : List ℕ) : Type 0 where
  pub hash : (before : List ℕ) → Holds256 first.hasher before → Holds256 now.hasher (before ++ bytes)
  pub log : log_of now.log ≡ option_map (λ front. front ++ bytes) (log_of first.log)

-- the bytes of the stream of a receiver of so many items
abbrev pub receiver_stream_size : ReceiverDeal → ℕ → ℕ
receiver_stream_size deal own = hello_size + columns_size (rows_for deal.stash own) + done_size

-- the bytes of the stream of a sender of so many, over the other half of the deal
abbrev pub sender_stream_size : ReceiverDeal → ℕ → ℕ
sender_stream_size deal peer = hello_size + lists_size (3 + deal.stash) deal.tag_length peer

-- the session of two deals, of the receiver's items in their slots and the sender's items was run: the marks are those
-- of the items that are hit in the sender's lists, and the transcript took all its bytes, behind the front of a record
pub record IsPlayed (receiver : ReceiverDeal) (sender : SenderDeal) (xs : List (List ℕ)) (slots : List Slot)
    (ys : List (List ℕ)) (front : Option (List ℕ)) (played : PlayedSession) : Type 0 where
  pub shown : played.receiver.shown
      ≡ hits_of receiver (placed_of xs slots) (dealt_lists receiver sender (placed_of xs slots) ys)
  pub hash : Holds256 played.transcript.hasher (session_bytes receiver sender (placed_of xs slots) ys)
  pub log : log_of played.transcript.log
      ≡ option_map (λ start. start ++ session_bytes receiver sender (placed_of xs slots) ys) front

-- a record that is there is written, sealed, as the file of word 6
abbrev pub writes : Option RecorderState → List Effect
writes None = []
writes (Some log) = puts 6 (sealed log.bytes) ∷ []
