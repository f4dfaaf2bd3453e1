-- What the reading of a file answers.
use Rattle.std.specs.Prelude.{◌≡◌, ℕ, ◌==◌, List, [], ◌∷◌, ◌++◌, length, Some, None, option_map, Option, find, nat_lt, Result, Ok, Err, ⊤, if◌then◌else◌}
use Rattle.std.specs.List.{list_any}
use Rattle.std.specs.Option.{option_map_or}
use Rattle.std.specs.Str.{bytes_eq}
use Rattle.std.specs.Str.Lines.{strip_carriage_return}
use Rattle.psi_spec.specs.Limits.{line_limit}
use Rattle.psi_spec.specs.Items.{is_control, LineFault, holds_byte, is_long, is_too_many, BadLine, first_bad, fault_of, fault_of_item, items_of, normal}
use Rattle.psi_items.specs.declared.errors.BadItems.{BadItems}
use Rattle.psi_items.specs.declared.errors.BadItems.TheVariants.{Byte, Long, Many, NoMemory}

-- the refusal of a line with a fault
abbrev pub refusal_of : ℕ → LineFault → BadItems
refusal_of line (holds_byte found) = Byte line found
refusal_of line (is_long count) = Long line count
refusal_of line is_too_many = Many line

-- the refusal that a bad line spells
abbrev pub bad_items_of : BadLine → BadItems
bad_items_of bad = refusal_of bad.line bad.fault

-- what the reading of a file answers: its items where no line has a fault, else the first fault with its line; want of
-- memory may come in place of either
abbrev pub ReadsItems : List ℕ → Result (List (List ℕ)) BadItems → Type 0
ReadsItems bytes (Ok items) = (first_bad bytes ≡ None) × (items ≡ items_of bytes)
ReadsItems bytes (Err NoMemory) = ⊤
ReadsItems bytes (Err bad) = option_map bad_items_of (first_bad bytes) ≡ Some bad

-- the fault of a line, whatever stands before it
abbrev pub own_fault : List ℕ → Option LineFault
own_fault line =
    option_map_or (λ byte. Some (holds_byte byte)) (find is_control (strip_carriage_return line))
    (if nat_lt line_limit (length (normal line)) then Some (is_long (length (normal line))) else None)

-- what the reading of a line answers, and its normal form
abbrev pub ReadsLine : ℕ → List ℕ → Result (Unit {0}) BadItems → List ℕ → Type 0
ReadsLine number line (Ok done) new = (own_fault line ≡ None) × (new ≡ normal line)
ReadsLine number line (Err bad) new = option_map (refusal_of number) (own_fault line) ≡ Some bad

-- the items with this one, at the end where it was not among them
abbrev pub with_item : List (List ℕ) → List ℕ → List (List ℕ)
with_item items x = if list_any (bytes_eq x) items then items else items ++ x ∷ []

-- the items with what a line gives
abbrev pub with_line : List (List ℕ) → List ℕ → List (List ℕ)
with_line items line = if length (normal line) == 0 then items else with_item items (normal line)

-- what the adding of the item of a line answers, as a relation of the items before and after
abbrev pub AddsItem : List (List ℕ) → ℕ → List ℕ → Result (Unit {0}) BadItems → List (List ℕ) → Type 0
AddsItem old number item (Ok done) new = (fault_of_item old item ≡ None) × (new ≡ with_item old item)
AddsItem old number item (Err NoMemory) new = ⊤
AddsItem old number item (Err bad) new = option_map (refusal_of number) (fault_of_item old item) ≡ Some bad

-- what the adding of a line answers, as a relation of the items before and after
abbrev pub AddsLine : List (List ℕ) → ℕ → List ℕ → Result (Unit {0}) BadItems → List (List ℕ) → Type 0
AddsLine old number line (Ok done) new = (fault_of old line ≡ None) × (new ≡ with_line old line)
AddsLine old number line (Err NoMemory) new = ⊤
AddsLine old number line (Err bad) new = option_map (refusal_of number) (fault_of old line) ≡ Some bad
