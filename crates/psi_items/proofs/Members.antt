-- What the items of every file without a fault keep.
use Rattle.std.proofs.Common.{◌≡◌, ◌≤◌, sym, subst, refl, ℕ, ◌+◌, List, [], ◌∷◌, ◌++◌, Bool, true, false, not, cond, ◌&&◌, nat_lt, nat_eq, length, Option, Some, None, append_assoc, arith}
use Rattle.std.specs.List.{find, list_any}
use Rattle.std.specs.Option.{option_map_or}
use Rattle.std.specs.Str.{bytes_eq}
use Rattle.std.specs.Str.Lines.{strip_carriage_return}
use Rattle.std.proofs.lemmas.List.{append-nil}
use Rattle.std.proofs.lemmas.Bool.{eqb-false, ltb-false}
use Rattle.psi_spec.specs.Limits.{limit_items, line_limit}
use Rattle.psi_spec.specs.Items.{LineFault, BadLine, holds_byte, is_long, is_too_many, is_control, normal, fault_of, fault_of_item, first_bad, first_bad_after, items_of, items_of_lines, lines_of}
use Rattle.psi_items.specs.Members.{AreItems}
use Rattle.psi_items.specs.Reading.{with_line}
use Rattle.psi_items.proofs.Keys.{AreItems-nil, AreItems-push}
use Rattle.psi_items.proofs.Reading.{items_of_lines-push}

-- nothing was found, and what comes after it is nothing either
none_from_either : {A B : Type 0} (f : A → B) (o : Option A) (later : Option B) → option_map_or (λ x. Some (f x)) o later ≡ None → (o ≡ None) × (later ≡ None)
none_from_either f None later e = (refl, e)
none_from_either f (Some x) later e = absurd (cc)

-- no test of an item without a fault holds
tests_fail : (long empty among full : Bool) (count : ℕ)
    → cond long (Some (is_long count)) (cond (not empty && (not among && full)) (Some is_too_many) None) ≡ None
    → (long ≡ false) × (empty ≡ false → among ≡ false → full ≡ false)
tests_fail true empty among full count e = absurd (cc)
tests_fail false true among full count e = (refl, λ some. absurd (cc))
tests_fail false false true full count e = (refl, λ some absent. absurd (cc))
tests_fail false false false true count e = absurd (cc)
tests_fail false false false false count e = (refl, λ some absent. refl)

-- the items with one more, chosen by tests
chosen : (items : List (List ℕ)) (item : List ℕ) (empty among : Bool) → AreItems items → (empty ≡ false → among ≡ false → AreItems (items ++ item ∷ [])) → AreItems (cond empty items (cond among items (items ++ item ∷ [])))
chosen items item true among held more = held
chosen items item false true held more = held
chosen items item false false held more = more refl refl

-- a line without a fault leaves them so
AreItems-with_line : (items : List (List ℕ)) (line : List ℕ) → AreItems items → fault_of items line ≡ None → AreItems (with_line items line)
unfolding fault_of
AreItems-with_line items line held clean =
    let item : List ℕ = normal line in
    let none : fault_of_item items item ≡ None = (none_from_either holds_byte (find is_control (strip_carriage_return line)) (fault_of_item items item) clean).1 in
    let tests = tests_fail (nat_lt line_limit (length item)) (nat_eq (length item) 0) (list_any (bytes_eq item) items) (nat_eq (length items) limit_items) (length item) none in
    chosen items item (nat_eq (length item) 0) (list_any (bytes_eq item) items) held
    (λ some absent.
    let size : length item ≡ 0 → ⊥ = eqb-false (length item) 0 some in
    let short : length item ≤ line_limit = ltb-false line_limit (length item) tests.0 in
    AreItems-push items item held (record { some = omega (arith, size); short = short }) absent (eqb-false (length items) limit_items (tests.1 some absent)))

-- the items of lines of which none has a fault
AreItems-lines : (before rest : List (List ℕ)) → AreItems (items_of_lines before) → first_bad_after before rest ≡ None → AreItems (items_of_lines (before ++ rest))
AreItems-lines before [] held none = subst (λ lines. AreItems (items_of_lines lines)) (sym (append-nil before)) held
AreItems-lines before (line ∷ rest) held none =
    let clean = none_from_either (λ fault. bad_line (length before + 1) fault) (fault_of (items_of_lines before) line) (first_bad_after (before ++ line ∷ []) rest) none in
    let more : AreItems (items_of_lines (before ++ line ∷ [])) = subst AreItems (sym (items_of_lines-push before line)) (AreItems-with_line (items_of_lines before) line held clean.0) in
    subst (λ lines. AreItems (items_of_lines lines)) (append_assoc before (line ∷ []) rest) (AreItems-lines (before ++ line ∷ []) rest more clean.1)
  where
    bad_line : ℕ → LineFault → BadLine
    bad_line n found = record { line = n; fault = found }

-- a file without a fault has at most 1,048,576 distinct items of 1 to 256 bytes
pub AreItems-items_of : (bytes : List ℕ) → first_bad bytes ≡ None → AreItems (items_of bytes)
unfolding first_bad items_of_lines
AreItems-items_of bytes none = AreItems-lines [] (lines_of bytes) AreItems-nil none
