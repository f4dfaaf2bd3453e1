-- How far a session comes.
use Rattle.std.specs.Prelude.{◌+◌, ℕ, nat_lt, if◌then◌else◌}
use Rattle.psi_sender.specs.declared.phase.Phase.{Phase}
use Rattle.psi_sender.specs.declared.phase.Phase.TheVariants as phase

-- what comes after the frame of a block of a list, where there are so many lists of so many blocks
abbrev pub next_phase : ℕ → ℕ → ℕ → ℕ → Phase
next_phase list block lists blocks =
    if nat_lt (block + 1) blocks then phase.Tags list (block + 1)
    else if nat_lt (list + 1) lists then phase.Tags (list + 1) 0
    else phase.Done

-- what comes after the column with this index, for so many items: the next column, or the lists, if there are any tags
abbrev pub phase_after_column : ℕ → ℕ → Phase
phase_after_column index count =
    if nat_lt index 511 then phase.Columns (index + 1)
    else if nat_lt 0 count then phase.Tags 0 0
    else phase.Done
