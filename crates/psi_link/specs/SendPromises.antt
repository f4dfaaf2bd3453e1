-- What callers read of `send`, in its own words.
use Rattle.std.specs.Prelude.{◌≡◌, ◌<◌, ◌≤◌, ◌⊎◌, ℕ, List, [], ◌++◌, length, Some, None, Err}
use Rattle.psi_spec.specs.DealFiles.{sender_bytes}
use Rattle.psi_spec.specs.Deals.{SenderDeal, IsSenderDeal}
use Rattle.psi_spec.specs.Items.{first_bad}
use Rattle.psi_spec.specs.Limits.{file_limit}
use Rattle.psi_spec.specs.Streams.{sender_stream}
use Rattle.psi_words.specs.Words.{word_at}
use Rattle.psi_base.specs.Outside.{Known, Outside, Files, LinkFailed, Rose, linked, opening}
use Rattle.psi_frames.specs.Dialogue.{CutOff, HeardBad, HeardShort, Talks, WereTaken, talked}
use Rattle.psi_frames.specs.declared.turns.EndFault.TheVariants as peer
use Rattle.psi_sender.specs.Laws.{IsStreamFor, sender_dialogue}
use Rattle.psi_walk.specs.JudgedFiles.{HasBadLine, HasBadSenderDeal, HasItems, HasSenderDeal}
use Rattle.psi_walk.specs.Promises.{IsCalm, IsDone, IsSilent, ReadFailed}
use Rattle.psi_walk.specs.Tree.{End}
use Rattle.psi_link.specs.Send.{receiver_link}
use Rattle.psi_texts.specs.declared.status.Status.{Status}
use Rattle.psi_texts.specs.declared.status.Status.TheVariants.{Done, BadItems, BadDeal, BadFrame, PeerEnded, FileFault, LinkFault, TooLong, NoMemory}
use Rattle.psi_walk.specs.Inputs.{AfterItems}

-- the outside with the link open to the first receiver that came to the address
abbrev pub listening : List (List ℕ) → Outside → Outside
listening words before = linked before (receiver_link words)

-- both files were read and judged, and a fact holds of the items and the deal
pub record WithFiles (known : Known) (words : List (List ℕ)) (before : Outside)
    (P : List (List ℕ) → SenderDeal → Type 0) : Type 0 where
  pub ys : List (List ℕ)
  pub deal : SenderDeal
  pub y_file : HasItems known words before 2 ys
  pub s_file : HasSenderDeal known words before 3 deal
  pub fact : P ys deal

-- a receiver's stream was taken, with a count and columns, the sender's stream for them was sent, and nothing else
-- changed
pub record Served (known : Known) (words : List (List ℕ)) (before : Outside) (ys : List (List ℕ)) (deal : SenderDeal)
    (after : Outside) : Type 0 where
  pub count : ℕ
  pub columns : List (List ℕ)
  pub taken : List ℕ
  pub stream : IsStreamFor deal count columns taken
  pub were_taken : WereTaken known before.incoming taken
  pub left : after ≡ talked (listening words before) (sender_stream deal count columns ys) taken

-- nothing was sent, or a refusal of the outside was counted
abbrev pub IsEarlyOrCounted : Outside → Outside → Type 0
IsEarlyOrCounted before after = (after.outgoing ≡ before.outgoing) ⊎ Rose before.refusals after.refusals

-- what `send` may answer, and what was taken and sent at each answer, in every world: its files are judged in order,
-- then the link is opened, and then the session is run
abbrev pub SendAnswers : Known → List (List ℕ) → Outside → Status → Outside → Type 0
SendAnswers known words before Done after =
    WithFiles known words before (λ ys deal. Served known words before ys deal after)
SendAnswers known words before (BadItems place fault) after =
    (place ≡ 2) × HasBadLine known words before 2 fault × IsSilent before after
SendAnswers known words before (BadDeal place fault) after =
    (place ≡ 3) × AfterItems known words before 2 × HasBadSenderDeal known words before 3 fault × IsSilent before after
SendAnswers known words before (FileFault place) after =
    ((place ≡ 2) ⊎ ((place ≡ 3) × AfterItems known words before 2)) × ReadFailed known words place
    × IsSilent before after
SendAnswers known words before (TooLong place taken) after =
    ((place ≡ 2) ⊎ ((place ≡ 3) × AfterItems known words before 2)) × (file_limit < taken) × IsSilent before after
SendAnswers known words before (BadFrame frame) after =
    WithFiles known words before
    (λ ys deal. HeardBad known (sender_dialogue deal ys) (listening words before) frame after)
SendAnswers known words before (PeerEnded offset) after =
    WithFiles known words before
    (λ ys deal. HeardShort known (sender_dialogue deal ys) (listening words before) offset after)
SendAnswers known words before LinkFault after =
    WithFiles known words before
    (λ ys deal. (known.fails (opening (receiver_link words)) × IsSilent before after)
    ⊎ CutOff known (sender_dialogue deal ys) (listening words before) (λ sent mid. LinkFailed mid after))
SendAnswers known words before NoMemory after =
    IsEarlyOrCounted before after
    × (IsSilent before after
    ⊎ WithFiles known words before
    (λ ys deal. IsSilent (listening words before) after
    ⊎ Talks known (sender_dialogue deal ys) (listening words before) (Err peer.NoMemory) after))
SendAnswers known words before _ after = ⊥

-- both files are there, of a list without a bad line and of a sender's deal, and the peer's bytes begin with a
-- receiver's stream for that deal
pub record CanServe (words : List (List ℕ)) (files : Files) (incoming : List ℕ) : Type 0 where
  pub y_bytes : List ℕ
  pub y_there : files (word_at words 2) ≡ Some y_bytes
  pub y_short : length y_bytes ≤ file_limit
  pub y_good : first_bad y_bytes ≡ None
  pub deal : SenderDeal
  pub deal_is : IsSenderDeal deal
  pub s_there : files (word_at words 3) ≡ Some (sender_bytes deal)
  pub count : ℕ
  pub columns : List (List ℕ)
  pub stream : List ℕ
  pub rest : List ℕ
  pub begins : incoming ≡ stream ++ rest
  pub honest : IsStreamFor deal count columns stream

-- then `send` is done in a calm world, or memory was wanting
abbrev pub SendServes : List (List ℕ) → Outside → End → Type 0
SendServes words before end =
    (files : Files) (incoming : List ℕ) → before.files ≡ Some files → before.incoming ≡ Some incoming
    → CanServe words files incoming → IsCalm before end.left → IsDone end.status

-- all that `send` promises: it answers so, places no set, and serves an honest peer
pub record SendPromise (known : Known) (words : List (List ℕ)) (before : Outside) (end : End) : Type 0 where
  pub answers : SendAnswers known words before end.status end.left
  pub places_none : end.placed ≡ []
  pub serves : SendServes words before end
