-- The lines of a file whose lines are compared one by one with those of another file, and the first that has a fault.
use Rattle.std.specs.Prelude.{ℕ, ◌+◌, ◌==◌, ◌&&◌, List, [], ◌∷◌, length, map, find, nat_lt, Option, Some, None, if◌then◌else◌}
use Rattle.std.specs.Option.{option_map_or}
use Rattle.std.specs.Str.Lines.{strip_carriage_return}
use Rattle.psi_spec.specs.Limits.{limit_items, line_limit}
use Rattle.psi_spec.specs.Items.{lines_of, is_control, normal, LineFault, holds_byte, is_long, is_too_many, BadLine}

-- lines without the last one where that has no byte
abbrev pub without_empty_end : List (List ℕ) → List (List ℕ)
without_empty_end [] = []
without_empty_end (line ∷ rest) =
    if length line == 0 && length rest == 0 then [] else line ∷ without_empty_end rest

-- the lines of a file as they stand there: what stands between the line feeds, and what follows the last of them where
-- that has a byte
abbrev pub ended_lines : List ℕ → List (List ℕ)
ended_lines bytes = without_empty_end (lines_of bytes)

-- the lines of a file in their normal form, the empty ones and repeats too
unfoldable pub paired_lines_of : List ℕ → List (List ℕ)
paired_lines_of bytes = map normal (ended_lines bytes)

-- the fault of a line whose normal form is this, with so many lines before it
abbrev pub fault_of_text : ℕ → List ℕ → Option LineFault
fault_of_text before text =
    if nat_lt line_limit (length text) then Some (is_long (length text))
    else if before == limit_items then Some is_too_many
    else None

-- the fault of a line, with so many lines before it
unfoldable pub fault_of_paired : ℕ → List ℕ → Option LineFault
fault_of_paired before line =
    option_map_or (λ byte. Some (holds_byte byte)) (find is_control (strip_carriage_return line))
    (fault_of_text before (normal line))

-- the first of these lines that has a fault, where so many lines stand before them
abbrev pub first_bad_paired_from : ℕ → List (List ℕ) → Option BadLine
first_bad_paired_from before [] = None
first_bad_paired_from before (line ∷ rest) =
    option_map_or (λ fault. Some (record { line = before + 1; fault = fault }))
    (fault_of_paired before line) (first_bad_paired_from (before + 1) rest)

-- the first line of a file that has a fault
unfoldable pub first_bad_paired : List ℕ → Option BadLine
first_bad_paired bytes = first_bad_paired_from 0 (ended_lines bytes)
