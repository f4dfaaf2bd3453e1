-- What callers read of `receive`, in its own words.
use Rattle.std.specs.Prelude.{◌≡◌, ◌<◌, ◌≤◌, ◌⊎◌, ℕ, List, [], ◌∷◌, ◌++◌, Contains, length, option_map, Some, None, Err}
use Rattle.psi_spec.specs.DealFiles.{receiver_bytes}
use Rattle.psi_spec.specs.Deals.{ReceiverDeal, SenderDeal, ArePair, IsReceiverDeal}
use Rattle.psi_spec.specs.Frames.{hello_size}
use Rattle.psi_spec.specs.Hits.{hit_items, receiver_side}
use Rattle.psi_spec.specs.Items.{first_bad, items_of}
use Rattle.psi_spec.specs.Limits.{bins_for, file_limit, limit_items}
use Rattle.psi_spec.specs.Meeting.{Placed, placed_of, SharesTag, shown, shown_placed}
use Rattle.psi_spec.specs.Placement.{Slot, IsPlacementOf}
use Rattle.psi_spec.specs.SessionLaws.{pair_setup}
use Rattle.psi_spec.specs.Sessions.{dealt_masked}
use Rattle.psi_spec.specs.Streams.{sender_stream}
use Rattle.psi_spec.specs.Texts.{lines_text}
use Rattle.psi_words.specs.Words.{word_at}
use Rattle.psi_base.specs.Outside.{Known, Outside, Files, LinkFailed, Rose, linked, opening, printed_too, written}
use Rattle.psi_frames.specs.Dialogue.{CutOff, HeardBad, HeardShort, Talks, WereTaken, talked}
use Rattle.psi_frames.specs.declared.turns.EndFault.TheVariants as peer
use Rattle.psi_receiver.specs.Laws.{IsStreamFor, own_stream, receiver_dialogue}
use Rattle.psi_walk.specs.JudgedFiles.{HasBadLine, HasBadReceiverDeal, HasItems, HasReceiverDeal}
use Rattle.psi_walk.specs.Promises.{IsCalm, IsDone, IsSilent, ReadFailed, WriteFailed}
use Rattle.psi_link.specs.Receive.{sender_link, session_record}
use Rattle.psi_walk.specs.Placing.{slots_with, IsCrowdedSet}
use Rattle.psi_walk.specs.Tree.{End}
use Rattle.psi_texts.specs.declared.status.Status.{Status}
use Rattle.psi_texts.specs.declared.status.Status.TheVariants.{Done, BadItems, BadDeal, NoPlacement, BadFrame, PeerEnded, FileFault, LinkFault, PrintFault, TooLong, NoMemory}
use Rattle.psi_walk.specs.Inputs.{AfterItems}

-- both files were read and judged, and a fact holds of the items and the deal
pub record WithSet (known : Known) (words : List (List ℕ)) (before : Outside)
    (P : List (List ℕ) → ReceiverDeal → Type 0) : Type 0 where
  pub xs : List (List ℕ)
  pub deal : ReceiverDeal
  pub x_file : HasItems known words before 2 xs
  pub r_file : HasReceiverDeal known words before 3 deal
  pub fact : P xs deal

-- both files were read and judged, the items got the slots that are picked for them, which are a placement, the outcome
-- carries it and no other, and a fact holds of the items, the deal and the slots
pub record WithPlacement (known : Known) (words : List (List ℕ)) (before : Outside) (placed : List (List Slot))
    (P : List (List ℕ) → ReceiverDeal → List Slot → Type 0) : Type 0 where
  pub xs : List (List ℕ)
  pub deal : ReceiverDeal
  pub slots : List Slot
  pub x_file : HasItems known words before 2 xs
  pub r_file : HasReceiverDeal known words before 3 deal
  pub placement : IsPlacementOf deal.stash deal.key (bins_for (length xs)) xs slots
  pub picked : slots_with deal xs ≡ Some slots
  pub carried : placed ≡ slots ∷ []
  pub fact : P xs deal slots

-- a sender's stream for the deal was taken, with a count and lists, and a fact holds of the lists and the stream
pub record WithStream (known : Known) (before : Outside) (deal : ReceiverDeal)
    (P : List (List (List ℕ)) → List ℕ → Type 0) : Type 0 where
  pub count : ℕ
  pub lists : List (List (List ℕ))
  pub taken : List ℕ
  pub stream : IsStreamFor deal count lists taken
  pub were_taken : WereTaken known before.incoming taken
  pub fact : P lists taken

-- the outside with the link open to the sender
abbrev pub connected : List (List ℕ) → Outside → Outside
connected words before = linked before (sender_link words)

-- the outside once a sender's stream was taken, and the receiver's own was sent
abbrev pub exchanged
    : List (List ℕ) → Outside → List (List ℕ) → ReceiverDeal → List Slot → List ℕ → Outside
exchanged words before xs deal slots taken =
    talked (connected words before) (own_stream deal (placed_of xs slots)) taken

-- the items that are hit in a sender's lists, a line each
abbrev pub hit_lines : List (List ℕ) → ReceiverDeal → List Slot → List (List (List ℕ)) → List ℕ
hit_lines xs deal slots lists = lines_text (hit_items (receiver_side deal xs slots) lists)

-- the whole session was run: the outside is then as in a fact, by the outside once it was, the lines and the record
abbrev pub AfterSession
    : Known → List (List ℕ) → Outside → List (List Slot) → (Outside → List ℕ → List ℕ → Type 0) → Type 0
AfterSession known words before placed P =
    WithPlacement known words before placed
    (λ xs deal slots. WithStream known before deal
    (λ lists taken. P (exchanged words before xs deal slots taken) (hit_lines xs deal slots lists)
    (session_record xs deal slots taken)))

-- no more was sent than a hello has, or a refusal of the outside was counted
abbrev pub IsAtHelloOrCounted : Outside → Outside → Type 0
IsAtHelloOrCounted before after =
    ((sent : List ℕ) × (length sent ≤ hello_size) × (after.outgoing ≡ option_map (λ gone. gone ++ sent) before.outgoing))
    ⊎ Rose before.refusals after.refusals

-- nothing was sent or taken, and nothing placed
abbrev pub IsUnplaced : Outside → List (List Slot) → Outside → Type 0
IsUnplaced before placed after = IsSilent before after × (placed ≡ [])

-- what `receive` may answer, and what was taken and sent at each answer, in every world: its files are judged in order,
-- then the items are placed, the link is opened, the session is run, the lines are printed, and the record is written
abbrev pub ReceiveAnswers : Known → List (List ℕ) → Outside → List (List Slot) → Status → Outside → Type 0
ReceiveAnswers known words before placed Done after =
    AfterSession known words before placed
    (λ mid lines file. after ≡ written (printed_too mid lines) (word_at words 4) file)
ReceiveAnswers known words before placed (BadItems place fault) after =
    (place ≡ 2) × HasBadLine known words before 2 fault × IsUnplaced before placed after
ReceiveAnswers known words before placed (BadDeal place fault) after =
    (place ≡ 3) × AfterItems known words before 2 × HasBadReceiverDeal known words before 3 fault
    × IsUnplaced before placed after
ReceiveAnswers known words before placed (NoPlacement place items touched) after =
    (place ≡ 2) × WithSet known words before (IsCrowdedSet items touched) × IsUnplaced before placed after
ReceiveAnswers known words before placed (FileFault place) after =
    (((place ≡ 2) ⊎ ((place ≡ 3) × AfterItems known words before 2)) × ReadFailed known words place
    × IsUnplaced before placed after)
    ⊎ ((place ≡ 4) × WriteFailed known words place
    × AfterSession known words before placed (λ mid lines file. IsSilent mid after))
ReceiveAnswers known words before placed (TooLong place taken) after =
    ((place ≡ 2) ⊎ ((place ≡ 3) × AfterItems known words before 2)) × (file_limit < taken)
    × IsUnplaced before placed after
ReceiveAnswers known words before placed (BadFrame frame) after =
    WithPlacement known words before placed
    (λ xs deal slots. HeardBad known (receiver_dialogue deal (placed_of xs slots)) (connected words before) frame after)
ReceiveAnswers known words before placed (PeerEnded offset) after =
    WithPlacement known words before placed
    (λ xs deal slots.
    HeardShort known (receiver_dialogue deal (placed_of xs slots)) (connected words before) offset after)
ReceiveAnswers known words before placed LinkFault after =
    WithPlacement known words before placed
    (λ xs deal slots. (known.fails (opening (sender_link words)) × IsSilent before after)
    ⊎ CutOff known (receiver_dialogue deal (placed_of xs slots)) (connected words before)
    (λ sent mid. LinkFailed mid after))
ReceiveAnswers known words before placed PrintFault after =
    AfterSession known words before placed (λ mid lines file. IsSilent mid after)
ReceiveAnswers known words before placed NoMemory after =
    IsAtHelloOrCounted before after
    × (IsUnplaced before placed after
    ⊎ (WithPlacement known words before placed
    (λ xs deal slots. IsSilent before after ⊎ (IsSilent (connected words before) after
    ⊎ Talks known (receiver_dialogue deal (placed_of xs slots)) (connected words before) (Err peer.NoMemory) after))
    ⊎ AfterSession known words before placed (λ mid lines file. IsSilent mid after)))
ReceiveAnswers known words before placed _ after = ⊥

-- both files are there, of a list without a bad line and of a receiver's deal, the items have a placement, and the
-- peer's bytes begin with a sender's stream for that deal
pub record CanReceive (words : List (List ℕ)) (files : Files) (incoming : List ℕ) : Type 0 where
  pub x_bytes : List ℕ
  pub x_there : files (word_at words 2) ≡ Some x_bytes
  pub x_short : length x_bytes ≤ file_limit
  pub x_good : first_bad x_bytes ≡ None
  pub deal : ReceiverDeal
  pub deal_is : IsReceiverDeal deal
  pub r_there : files (word_at words 3) ≡ Some (receiver_bytes deal)
  pub slots : List Slot
  pub placement
      : IsPlacementOf deal.stash deal.key (bins_for (length (items_of x_bytes))) (items_of x_bytes) slots
  pub count : ℕ
  pub lists : List (List (List ℕ))
  pub stream : List ℕ
  pub rest : List ℕ
  pub begins : incoming ≡ stream ++ rest
  pub honest : IsStreamFor deal count lists stream

-- then `receive` is done in a calm world, or memory was wanting
abbrev pub ReceiveServes : List (List ℕ) → Outside → End → Type 0
ReceiveServes words before end =
    (files : Files) (incoming : List ℕ) → before.files ≡ Some files → before.incoming ≡ Some incoming
    → CanReceive words files incoming → IsCalm before end.left → IsDone end.status

-- ---- an honest peer

-- the bytes are the stream of a sender with the other deal of a pair and these items, for what this end sent
pub record IsHonest (deal : ReceiverDeal) (xs : List (List ℕ)) (slots : List Slot) (sender : SenderDeal)
    (ys : List (List ℕ)) (taken : List ℕ) : Type 0 where
  pub pair : ArePair deal sender
  pub choice : length sender.choice ≡ 64
  pub few : length ys ≤ limit_items
  pub stream : taken ≡ sender_stream sender (length xs) (dealt_masked deal (placed_of xs slots)) ys

-- what was printed for an honest peer: the items that meet some item of the sender, in order, a line each; every common
-- item is among them, and each other one shares its tag with the sender's item that it names
pub record ShowsCommonItems (deal : ReceiverDeal) (xs : List (List ℕ)) (slots : List Slot) (sender : SenderDeal)
    (ys : List (List ℕ)) (lines : List ℕ) : Type 0 where
  pub printed : lines ≡ lines_text (shown (pair_setup deal sender xs slots) ys)
  pub common : (item : List ℕ) → Contains xs item → Contains ys item
      → Contains (shown (pair_setup deal sender xs slots) ys) item
  pub others : (p : Placed) → Contains (shown_placed (pair_setup deal sender xs slots) ys) p
      → SharesTag (pair_setup deal sender xs slots) ys p

-- a session was run whole, and whatever the sender's deal and items are: where the peer was honest, the common items
-- were printed, and others only with the tag of a sender's item
pub record FoundCommon (known : Known) (words : List (List ℕ)) (before : Outside) (placed : List (List Slot))
    (after : Outside) : Type 0 where
  pub xs : List (List ℕ)
  pub deal : ReceiverDeal
  pub slots : List Slot
  pub x_file : HasItems known words before 2 xs
  pub r_file : HasReceiverDeal known words before 3 deal
  pub placement : IsPlacementOf deal.stash deal.key (bins_for (length xs)) xs slots
  pub picked : slots_with deal xs ≡ Some slots
  pub carried : placed ≡ slots ∷ []
  pub taken : List ℕ
  pub were_taken : WereTaken known before.incoming taken
  pub lines : List ℕ
  pub left : after
      ≡ written (printed_too (exchanged words before xs deal slots taken) lines) (word_at words 4)
      (session_record xs deal slots taken)
  pub honest : (sender : SenderDeal) (ys : List (List ℕ)) → IsHonest deal xs slots sender ys taken
      → ShowsCommonItems deal xs slots sender ys lines
