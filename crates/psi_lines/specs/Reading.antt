-- What the reading of a file of paired lines answers.
use Rattle.std.specs.Prelude.{◌≡◌, ◌+◌, ℕ, List, [], ◌∷◌, ◌++◌, length, map, Some, None, option_map, Result, Ok, Err, ⊤}
use Rattle.psi_spec.specs.Items.{normal}
use Rattle.psi_spec.specs.PairedLines.{paired_lines_of, fault_of_paired, first_bad_paired_from, first_bad_paired}
use Rattle.psi_items.specs.declared.errors.BadItems.{BadItems}
use Rattle.psi_items.specs.declared.errors.BadItems.TheVariants.{NoMemory}
use Rattle.psi_items.specs.Reading.{refusal_of, bad_items_of}

-- what the reading of a file answers: its lines where none has a fault, else the first fault with its line; want of
-- memory may come in place of either
abbrev pub ReadsLines : List ℕ → Result (List (List ℕ)) BadItems → Type 0
ReadsLines bytes (Ok lines) = (first_bad_paired bytes ≡ None) × (lines ≡ paired_lines_of bytes)
ReadsLines bytes (Err NoMemory) = ⊤
ReadsLines bytes (Err bad) = option_map bad_items_of (first_bad_paired bytes) ≡ Some bad

-- the same of lines as they stand in a file
abbrev pub PacksLines : List (List ℕ) → Result (List (List ℕ)) BadItems → Type 0
PacksLines raw (Ok lines) = (first_bad_paired_from 0 raw ≡ None) × (lines ≡ map normal raw)
PacksLines raw (Err NoMemory) = ⊤
PacksLines raw (Err bad) = option_map bad_items_of (first_bad_paired_from 0 raw) ≡ Some bad

-- what the adding of the next line answers, as a relation of the ends and bytes before and after
abbrev pub PacksLine : List ℕ → List ℕ → List ℕ → Result (Unit {0}) BadItems → List ℕ → List ℕ → Type 0
PacksLine ends bytes line (Ok done) new_ends new_bytes =
    (fault_of_paired (length ends) line ≡ None) × (new_bytes ≡ bytes ++ normal line)
    × (new_ends ≡ ends ++ length new_bytes ∷ [])
PacksLine ends bytes line (Err NoMemory) new_ends new_bytes = ⊤
PacksLine ends bytes line (Err bad) new_ends new_bytes =
    option_map (refusal_of (length ends + 1)) (fault_of_paired (length ends) line) ≡ Some bad
