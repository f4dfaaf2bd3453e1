-- The steady world in memory as contracts see it.
use Rattle.std.specs.Prelude.{◌≡◌, ℕ, true, false}
use Rattle.psi_base.specs.State.{State, outside_of}
use Rattle.psi_base.specs.Outside.{Outside}

-- no call is listed to fail
abbrev pub NoneListed : State → Type 0
NoneListed m =
    (n : ℕ) → (m.file_calls.listed n ≡ false) × (m.link_calls.listed n ≡ false) × (m.print_calls.listed n ≡ false)

-- a steady outside, in which no print and no call of the link has failed
abbrev pub steadied : Outside → Outside
steadied outside = record outside { link_faults = 0; print_faults = 0; steady = true }

-- what a world in memory tells where no call is listed to fail
abbrev pub steady_outside_of : State → Outside
steady_outside_of m = steadied (outside_of m)
