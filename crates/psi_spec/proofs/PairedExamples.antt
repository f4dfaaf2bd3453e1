-- Worked examples of paired lines: the lines of files, the first bad line, and printed numbers.
use Rattle.std.proofs.Common.{◌≡◌, [], ◌∷◌, ◌++◌, Some, None, true, false, codes, replicate, refl}
use Rattle.std.specs.Fmt.{digits}
use Rattle.psi_spec.specs.Bits.{zero_word}
use Rattle.psi_spec.specs.Items.{normal, holds_byte, is_long}
use Rattle.psi_spec.specs.PairedLines.{paired_lines_of, fault_of_paired, first_bad_paired}
use Rattle.psi_spec.specs.PairedRows.{paired_words, numbers_text}

-- ---- lines

no_byte : paired_lines_of [] ≡ []
unfolding paired_lines_of
no_byte = refl

-- what follows the last line feed is a line where it has a byte
without_feed : paired_lines_of (codes "a") ≡ codes "a" ∷ []
unfolding paired_lines_of normal
without_feed = refl

with_feed : paired_lines_of (codes "a\n") ≡ codes "a" ∷ []
unfolding paired_lines_of normal
with_feed = refl

-- an empty line is a line
with_two_feeds : paired_lines_of (codes "a\n\n") ≡ codes "a" ∷ [] ∷ []
unfolding paired_lines_of normal
with_two_feeds = refl

-- and so is one that is empty in its normal form alone
with_blanks : paired_lines_of (codes "A\r\n \t") ≡ codes "a" ∷ [] ∷ []
unfolding paired_lines_of normal
with_blanks = refl

-- repeats are kept
repeats : paired_lines_of (codes "b\nB\n b\n") ≡ codes "b" ∷ codes "b" ∷ codes "b" ∷ []
unfolding paired_lines_of normal
repeats = refl

-- ---- faults

no_fault : first_bad_paired (codes "a\n\n") ≡ None
unfolding first_bad_paired fault_of_paired normal
no_fault = refl

a_control_byte : first_bad_paired (codes "\n" ++ 7 ∷ []) ≡ Some (record { line = 2; fault = holds_byte 7 })
unfolding first_bad_paired fault_of_paired normal
a_control_byte = refl

a_long_line : first_bad_paired (replicate 257 97) ≡ Some (record { line = 1; fault = is_long 257 })
unfolding first_bad_paired fault_of_paired normal
a_long_line = refl

-- ---- rows and numbers

-- without lines there is a row, and its word is zero
no_lines : paired_words [] [] ≡ zero_word ∷ []
unfolding paired_words
no_lines = refl

numbers : numbers_text (true ∷ false ∷ true ∷ []) ≡ codes "1\n3\n"
unfolding numbers_text digits
numbers = refl
