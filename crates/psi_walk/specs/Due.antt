-- What a tree of steps comes to, where the contents of the outside are told.
use Rattle.std.specs.Prelude.{◌==◌, ℕ, List, [], ◌∷◌, Option, Some, None, length, nat_lt, option_map, take, if◌then◌else◌}
use Rattle.psi_spec.specs.Placement.{Slot}
use Rattle.psi_words.specs.Words.{word_at}
use Rattle.psi_base.specs.Outside.{Outside, Files, linked, printed_too, written, partly_written}
use Rattle.psi_frames.specs.Dialogue.{Reading, good, bad, short, talked}
use Rattle.psi_walk.specs.Tree.{Effect, says, puts, Placing, slots_for, Tree, reads, refuses, places, opens, talks, holds, ends}
use Rattle.psi_texts.specs.declared.status.Status.{Status}
use Rattle.psi_texts.specs.declared.status.Status.TheVariants.{BadFrame, PeerEnded}

-- the first refusal that is due, a set that has no placement, or that all is read, placed and exchanged: then what is
-- left to do, and from where; or a content decides that is not told
pub data Due : Type 0 where
  lacks : ℕ → Due
  long : ℕ → Due
  refusal : Status → Due
  unplaced : ℕ → Placing → Due
  reached : Outside → List Effect → Due
  untold : Due

-- the content of the file that the word at a place names, or none
abbrev pub Contents : Type 0
Contents = ℕ → Option (List ℕ)

-- the contents of files, where these are told
abbrev pub told : Option Files → List (List ℕ) → Option Contents
told files words = option_map (λ contents at. contents (word_at words at)) files

-- the contents where the file of one word were missing
abbrev pub lacking : ℕ → Contents → Contents
lacking word contents = λ at. if at == word then None else contents at

abbrev pub without : ℕ → Option Contents → Option Contents
without word contents = option_map (lacking word) contents

-- what is due by what is told
abbrev pub by_told : {A : Type 0} → Option A → (A → Due) → Due
by_told None next = untold
by_told (Some x) next = next x

-- what is due once a file was to be read
abbrev pub judged : ℕ → ℕ → Option (List ℕ) → (List ℕ → Due) → Due
judged word limit None next = lacks word
judged word limit (Some bytes) next = if nat_lt limit (length bytes) then long word else next bytes

-- what is due once a set was to be placed
abbrev pub given : ℕ → Placing → Option (List Slot) → (List Slot → Due) → Due
given word set None next = unplaced word set
given word set (Some slots) next = next slots

-- what is due once the peer was heard
abbrev pub heard : Reading → (List ℕ → Due) → Due
heard (good taken) next = next taken
heard (bad frame) next = refusal (BadFrame frame)
heard (short offset) next = refusal (PeerEnded offset)

-- what a tree comes to, at these contents, from this outside on
abbrev pub due : Option Contents → Outside → Tree → Due
due contents before (reads word limit next) =
    by_told contents (λ all. judged word limit (all word) (λ bytes. due contents before (next bytes)))
due contents before (refuses verdict) = refusal verdict
due contents before (places word set next) =
    given word set (slots_for set) (λ slots. due contents before (next slots))
due contents before (opens link next) = due contents (linked before link) next
due contents before (talks d next) =
    by_told before.incoming (λ incoming. heard (d.reads_as incoming)
    (λ taken. due contents (talked before (d.owes taken) taken) (next taken)))
due contents before (holds next) = due contents before next
due contents before (ends wire effects) = reached before effects

-- all that decides what is due is told
abbrev pub IsTold : Due → Type 0
IsTold untold = ⊥
IsTold _ = Unit {0}

-- the outside after this was done
abbrev pub after_effect : List (List ℕ) → Outside → Effect → Outside
after_effect words before (says text) = printed_too before text
after_effect words before (puts word bytes) = written before (word_at words word) bytes

-- the outside after all these were done
abbrev pub after_effects : List (List ℕ) → Outside → List Effect → Outside
after_effects words before [] = before
after_effects words before (effect ∷ rest) = after_effects words (after_effect words before effect) rest

-- the outside after so many bytes of this were printed or written, or after it was not begun
abbrev pub after_part : List (List ℕ) → Outside → Option Effect → Option ℕ → Outside
after_part words before None part = before
after_part words before (Some (says text)) None = before
after_part words before (Some (says text)) (Some count) = printed_too before (take count text)
after_part words before (Some (puts word bytes)) part = partly_written before (word_at words word) bytes part
