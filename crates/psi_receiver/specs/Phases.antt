-- How far a receiver's session comes.
use Rattle.std.specs.Prelude.{◌+◌, ℕ, List, nat_lt, if◌then◌else◌}
use Rattle.psi_spec.specs.Streams.{blocks_for}
use Rattle.psi_receiver.specs.declared.phase.Merge.{Merge}
use Rattle.psi_receiver.specs.declared.phase.Phase.{Phase}
use Rattle.psi_receiver.specs.declared.phase.Phase.TheVariants as phase
use Rattle.psi_receiver.specs.Script.{no_floor}

-- the first block of a list of so many tags is awaited
abbrev pub first_of : ℕ → ℕ → Merge
first_of of_list of_count = record { list = of_list; block = 0; floor = no_floor; from = 0; count = of_count }

-- what comes after a block whose last tag is this one, and behind which the merge stands at this place, where there are
-- so many lists: the next block, the next list, or the end
abbrev pub next_phase : ℕ → Merge → List ℕ → ℕ → Phase
next_phase lists m last place =
    if nat_lt (m.block + 1) (blocks_for m.count)
    then phase.Tags (record m { block = m.block + 1; floor = last; from = place })
    else if nat_lt (m.list + 1) lists then phase.Tags (first_of (m.list + 1) m.count)
    else phase.Done

-- what comes after the column with this index, for a sender of so many items: the next column, or its lists, if there
-- are any tags
abbrev pub phase_after_column : ℕ → ℕ → Phase
phase_after_column index count =
    if nat_lt index 511 then phase.Columns (index + 1) count
    else if nat_lt 0 count then phase.Tags (first_of 0 count)
    else phase.Done
