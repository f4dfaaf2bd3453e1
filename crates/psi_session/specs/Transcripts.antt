-- What takes down a session, and the lists that the receiver finds its items in.
use Rattle.std.specs.Prelude.{ℕ, List, ◌++◌}

-- what a transcript keeps: what stands of it against one that it was before, once these bytes passed
abbrev pub Hearing : Type 0 → Type 1
Hearing Transcript = Transcript → List ℕ → Type 0

-- what was kept goes on with these bytes
abbrev pub HearsOn : {Transcript : Type 0} → Hearing Transcript → Hearing Transcript → List ℕ → Type 0
HearsOn {Transcript} old new bytes =
    (first : Transcript) (before : List ℕ) → old first before → new first (before ++ bytes)
