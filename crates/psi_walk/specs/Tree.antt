-- A command as a tree of steps.
use Rattle.std.specs.Prelude.{ℕ, List, ◌∷◌, [], Option, Some, None, Result, Ok, Err}
use Rattle.psi_spec.specs.Picking.{picked}
use Rattle.psi_spec.specs.Placement.{Slot}
use Rattle.psi_base.specs.Outside.{Link, Outside}
use Rattle.psi_frames.specs.Dialogue.{Dialogue}
use Rattle.psi_texts.specs.declared.status.Status.{Status}
use Rattle.psi_texts.specs.declared.status.Status.TheVariants.{Done, NoPlacement}
use Rattle.psi_walk.specs.declared.outcome.Outcome.{Outcome}
use Rattle.psi_walk.specs.declared.outcome.Placements.{Placements}
use Rattle.psi_walk.specs.declared.outcome.Placements.TheVariants as placements

-- what is done once nothing is refused any more: a text is printed, or the file of a word is written
pub data Effect : Type 0 where
  says : List ℕ → Effect
  puts : ℕ → List ℕ → Effect

-- a set that is to be placed: the rows of its stash, its bins, and the candidates of each of its items
pub record Placing : Type 0 where
  pub stash : ℕ
  pub bins : ℕ
  pub candidates : List (List ℕ)

-- the slots that are picked for a set, if it has a placement: a function of the set alone
unfoldable pub slots_for : Placing → Option (List Slot)
slots_for set = picked set.stash set.bins set.candidates

-- the steps of a command, each with what comes after it
pub data Tree : Type 0 where
  -- reads the file of a word, of at most so many bytes
  reads : ℕ → ℕ → (List ℕ → Tree) → Tree
  -- refuses with a status
  refuses : Status → Tree
  -- places the set of a word, which gets the slots that are picked for it
  places : ℕ → Placing → (List Slot → Tree) → Tree
  -- opens the link, from this side and at this address
  opens : Link → Tree → Tree
  -- runs this end of a session over the link
  talks : Dialogue → (List ℕ → Tree) → Tree
  -- all memory is taken: from here on only a call of the outside and a session can want any
  holds : Tree → Tree
  -- does these in order, and is done, with the digest of the session that was run, if one was
  ends : Option (List ℕ) → List Effect → Tree

-- goes on with a value that was judged, or refuses
unfoldable pub decides : {A : Type 0} → Result A Status → (A → Tree) → Tree
decides (Ok x) next = next x
decides (Err status) next = refuses status

-- how a run ended: its status, the placements and the digest of a session that its outcome carries, and what it left
pub record End : Type 0 where
  pub status : Status
  pub placed : List (List Slot)
  pub wire : Option (List ℕ)
  pub left : Outside

-- a run that ended here, with no placement from here on, and no digest
abbrev pub stopped : Status → Outside → End
stopped status after = record { status = status; placed = []; wire = None; left = after }

-- the placements that are carried once one more stands before them: none where a set has no placement
abbrev pub carried_by : Status → List Slot → List (List Slot) → List (List Slot)
carried_by (NoPlacement word items touched) slots rest = []
carried_by _ slots rest = slots ∷ rest

-- the same end with one placement more, before the others
abbrev pub carrying : List Slot → End → End
carrying slots end = record end { placed = slots ∷ end.placed }

-- the same, but for a run that ended at a set without a placement
abbrev pub with_slots : List Slot → End → End
with_slots slots end = record end { placed = carried_by end.status slots end.placed }

-- the list of the placements that an outcome carries
abbrev pub slots_of : Placements → List (List Slot)
slots_of placements.None = []
slots_of (placements.One slots) = slots ∷ []
slots_of (placements.Two slots others) = slots ∷ others ∷ []
slots_of (placements.Many all) = all.items

-- how a run with this outcome ended
abbrev pub ended : Outcome → Outside → End
ended outcome after =
    record { status = outcome.status; placed = slots_of outcome.placements; wire = outcome.wire; left = after }

-- how a run ended that has this outcome, or was refused before it had one
abbrev pub end_of : Result Outcome Status → Outside → End
end_of (Ok outcome) after = ended outcome after
end_of (Err why) after = stopped why after

-- how a run ended that did all of a session with this digest, or was refused, with no placement from here on
abbrev pub closed : Result (List ℕ) Status → Outside → End
closed (Ok digest) after = record { status = Done; placed = []; wire = Some digest; left = after }
closed (Err why) after = stopped why after
