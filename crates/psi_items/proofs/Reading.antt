-- The reading of a file, one line more at a time.
use Rattle.std.proofs.Common.{◌≡◌, ◌∙◌, sym, ap, ap₂, refl, ℕ, ◌+◌, ◌<◌, ◌≤◌, List, [], ◌∷◌, ◌++◌, Bool, true, false, not, cond, ◌&&◌, nat_lt, nat_eq, map, length, take, drop, get_or, eqb, Option, Some, None, Result, Ok, Err, arith}
use Rattle.std.specs.List.{filter, find, list_any}
use Rattle.std.specs.Char.{to_ascii_lowercase}
use Rattle.std.specs.Str.{bytes_eq}
use Rattle.std.specs.Str.Lines.{strip_carriage_return}
use Rattle.std.specs.Option.{option_map_or, option_map}
use Rattle.std.proofs.lemmas.List.{append-nil, length-map, map-append, take_more, drop_more, length-take-le, take_all, drop_all}
use Rattle.std.proofs.lemmas.List.Elements.{filter-append}
use Rattle.std.proofs.lemmas.Bool.{eq-eqb, ne_eqb, lt-ltb, le-ltb, cond-true}
use Rattle.psi_spec.specs.Limits.{limit_items, line_limit}
use Rattle.psi_spec.specs.Items.{holds_byte, is_long, is_too_many, is_control, trimmed, fault_of_item, normal, distinct, items_of_lines, lines_of, LineFault, BadLine, fault_of, first_bad, first_bad_after}
use Rattle.psi_items.specs.declared.errors.BadItems.{BadItems}
use Rattle.psi_items.specs.declared.errors.BadItems.TheVariants.{Byte, Long, Many, NoMemory}
use Rattle.psi_items.specs.Reading.{with_item, with_line, refusal_of, bad_items_of, own_fault, AddsItem, AddsLine, ReadsItems}
use Rattle.psi_items.proofs.Distinct.{distinct-push}

-- the distinct elements of a list with one more at its end, where it is not empty
distinct_with : (items : List (List ℕ)) (item : List ℕ) (empty : Bool)
    → distinct (items ++ cond (not empty) (item ∷ []) []) ≡ cond empty (distinct items) (with_item (distinct items) item)
distinct_with items item true = ap distinct (append-nil items)
distinct_with items item false = distinct-push items item

-- the items of lines with one more at their end
pub items_of_lines-push : (lines : List (List ℕ)) (line : List ℕ) → items_of_lines (lines ++ line ∷ []) ≡ with_line (items_of_lines lines) line
unfolding items_of_lines
items_of_lines-push lines line =
    let some : List ℕ → Bool = λ item. not (eqb (length item) 0) in
    ap (λ items. distinct (filter some items)) (map-append normal lines (line ∷ []))
    ∙ ap distinct (filter-append some (map normal lines) (normal line ∷ []))
    ∙ distinct_with (filter some (map normal lines)) (normal line) (eqb (length (normal line)) 0)

-- the fault of a line without a control byte
pub fault_of-clean : (items : List (List ℕ)) (line : List ℕ) → None ≡ find is_control (strip_carriage_return line) → fault_of items line ≡ fault_of_item items (normal line)
unfolding fault_of
fault_of-clean items line none = ap (λ byte. option_map_or (λ b. Some (holds_byte b)) byte (fault_of_item items (normal line))) (sym none)

-- the normal form of a line by its text
pub normal-text : (line text : List ℕ) → text ≡ trimmed (strip_carriage_return line) → normal line ≡ map to_ascii_lowercase text
unfolding normal
normal-text line text same = ap (map to_ascii_lowercase) (sym same)

-- its length
pub length-normal : (line text : List ℕ) → text ≡ trimmed (strip_carriage_return line) → length (normal line) ≡ length text
length-normal line text same = ap length (normal-text line text same) ∙ length-map text to_ascii_lowercase

-- ---- a line's own fault

-- the fault of a line with a control byte, by what else it would have
abbrev pub byte_or : Option ℕ → Option LineFault → Option LineFault
byte_or found other = option_map_or (λ b. Some (holds_byte b)) found other

-- a refusal for the line itself is one whatever else it would have
pub own_refusal : (g : LineFault → BadItems) (found : Option ℕ) (long : Bool) (n : ℕ) (other : Option LineFault) (bad : BadItems)
    → option_map g (byte_or found (cond long (Some (is_long n)) None)) ≡ Some bad → option_map g (byte_or found (cond long (Some (is_long n)) other)) ≡ Some bad
own_refusal g (Some b) long n other bad e = e
own_refusal g None true n other bad e = e
own_refusal g None false n other bad e = absurd (cc)

-- a line without a fault of its own has what else it would have
pub no_own_fault : (found : Option ℕ) (long : Bool) (n : ℕ) (other : Option LineFault)
    → byte_or found (cond long (Some (is_long n)) None) ≡ None → byte_or found (cond long (Some (is_long n)) other) ≡ other
no_own_fault (Some b) long n other e = absurd (cc)
no_own_fault None true n other e = absurd (cc)
no_own_fault None false n other e = refl

-- and no control byte
no_own_byte : (found : Option ℕ) (long : Bool) (n : ℕ) → byte_or found (cond long (Some (is_long n)) None) ≡ None → None ≡ found
no_own_byte (Some b) long n e = absurd (cc)
no_own_byte None long n e = refl

-- a line without a control byte is clean
pub clean_line : (line : List ℕ) → own_fault line ≡ None → None ≡ find is_control (strip_carriage_return line)
clean_line line none = no_own_byte (find is_control (strip_carriage_return line)) (nat_lt line_limit (length (normal line))) (length (normal line)) none

pub own_fault-long : (line : List ℕ) → None ≡ find is_control (strip_carriage_return line) → line_limit < length (normal line) → own_fault line ≡ Some (is_long (length (normal line)))
own_fault-long line clean long =
    ap (λ byte. byte_or byte (cond (nat_lt line_limit (length (normal line))) (Some (is_long (length (normal line)))) None)) (sym clean)
    ∙ cond-true _ _ _ (lt-ltb line_limit (length (normal line)) long)

pub own_fault-none : (line : List ℕ) → None ≡ find is_control (strip_carriage_return line) → length (normal line) ≤ line_limit → own_fault line ≡ None
own_fault-none line clean short =
    ap (λ byte. byte_or byte (cond (nat_lt line_limit (length (normal line))) (Some (is_long (length (normal line)))) None)) (sym clean)
    ∙ ap (λ (long : Bool). cond long (Some (is_long (length (normal line)))) None) (le-ltb line_limit (length (normal line)) short)

-- a line that is refused for itself
pub AddsLine-refused : (old : List (List ℕ)) (n : ℕ) (line : List ℕ) (bad : BadItems) (new : List (List ℕ))
    → option_map (refusal_of n) (own_fault line) ≡ Some bad → AddsLine old n line (Err bad) new
unfolding fault_of
AddsLine-refused old n line bad new e = answer bad (own_refusal (refusal_of n) (find is_control (strip_carriage_return line)) (nat_lt line_limit (length (normal line))) (length (normal line)) _ bad e)
  where
    answer : (b : BadItems) → option_map (refusal_of n) (fault_of old line) ≡ Some b → AddsLine old n line (Err b) new
    answer NoMemory h = tt
    answer (Byte at found) h = h
    answer (Long at count) h = h
    answer (Many at) h = h

-- ---- what a line adds

-- a line whose normal form is empty gives nothing
pub adds-nothing : (items : List (List ℕ)) (line : List ℕ) → None ≡ find is_control (strip_carriage_return line) → length (normal line) ≡ 0
    → (fault_of items line ≡ None) × (items ≡ with_line items line)
adds-nothing items line clean empty = (
  fault_of-clean items line clean ∙ ap (λ n. fault_by items (normal line) n) empty,
  sym (ap (λ (b : Bool). cond b items (with_item items (normal line))) (eq-eqb (length (normal line)) 0 empty)),
)
  where
    fault_by : List (List ℕ) → List ℕ → ℕ → Option LineFault
    fault_by before item n =
        cond (nat_lt line_limit n) (Some (is_long n)) (cond (not (nat_eq n 0) && (not (list_any (bytes_eq item) before) && nat_eq (length before) limit_items)) (Some is_too_many) None)

-- an empty line gives nothing
pub adds-nothing-nil : (items : List (List ℕ)) → (fault_of items [] ≡ None) × (items ≡ with_line items [])
unfolding normal
adds-nothing-nil items = adds-nothing items [] refl refl

-- another line adds its normal form
pub AddsLine-item : (old : List (List ℕ)) (n : ℕ) (line : List ℕ) (result : Result (Unit {0}) BadItems) (new : List (List ℕ)) → None ≡ find is_control (strip_carriage_return line) → 0 < length (normal line)
    → AddsItem old n (normal line) result new → AddsLine old n line result new
AddsLine-item old n line (Ok done) new clean some added = (
  fault_of-clean old line clean ∙ added.0,
  added.1 ∙ sym (ap (λ (b : Bool). cond b old (with_item old (normal line))) (ne_eqb (length (normal line)) 0 (λ none. absurd (omega (arith, some, none))))),
)
AddsLine-item old n line (Err NoMemory) new clean some added = tt
AddsLine-item old n line (Err (Byte at found)) new clean some added = ap (option_map (refusal_of n)) (fault_of-clean old line clean) ∙ added
AddsLine-item old n line (Err (Long at count)) new clean some added = ap (option_map (refusal_of n)) (fault_of-clean old line clean) ∙ added
AddsLine-item old n line (Err (Many at)) new clean some added = ap (option_map (refusal_of n)) (fault_of-clean old line clean) ∙ added

-- the reading of a file after its first n lines, none of which has a fault
pub record HasRead (bytes : List ℕ) (n : ℕ) (have : List (List ℕ)) : Type 0 where
  pub items : have ≡ items_of_lines (take n (lines_of bytes))
  pub rest : first_bad bytes ≡ first_bad_after (take n (lines_of bytes)) (drop n (lines_of bytes))

-- before the first line
pub HasRead-begun : (bytes : List ℕ) → HasRead bytes 0 []
unfolding items_of_lines first_bad
HasRead-begun bytes = record { items = refl; rest = refl }

-- the line stands after n lines of the file
pub record IsLine (bytes : List ℕ) (n : ℕ) (line : List ℕ) : Type 0 where
  pub within : n < length (lines_of bytes)
  pub here : line ≡ get_or (lines_of bytes) n line

-- what is left begins with the next line
pub rest_at : (bytes : List ℕ) (n : ℕ) (line : List ℕ) → IsLine bytes n line → drop n (lines_of bytes) ≡ line ∷ drop (n + 1) (lines_of bytes)
rest_at bytes n line next = drop_more (lines_of bytes) n line next.within ∙ ap (λ l. l ∷ drop (n + 1) (lines_of bytes)) (sym next.here)

-- the lines so far and the next one
pub lines_more : (bytes : List ℕ) (n : ℕ) (line : List ℕ) → IsLine bytes n line → take (n + 1) (lines_of bytes) ≡ take n (lines_of bytes) ++ line ∷ []
lines_more bytes n line next = take_more (lines_of bytes) n line next.within ∙ ap (λ l. take n (lines_of bytes) ++ l ∷ []) (sym next.here)

-- the bad line of number n, or what comes later
abbrev pub bad_or : ℕ → Option LineFault → Option BadLine → Option BadLine
bad_or n fault later = option_map_or (λ found. Some (record { line = n; fault = found })) fault later

-- the first bad line is the next, or comes later
first_bad_at : (bytes : List ℕ) (n : ℕ) (items : List (List ℕ)) (line : List ℕ) → IsLine bytes n line → HasRead bytes n items
    → first_bad bytes ≡ bad_or (n + 1) (fault_of items line) (first_bad_after (take (n + 1) (lines_of bytes)) (drop (n + 1) (lines_of bytes)))
first_bad_at bytes n items line next read =
    let before : List (List ℕ) = take n (lines_of bytes) in
    let count : length before ≡ n = length-take-le n (lines_of bytes) (omega (arith, next.within)) in
    let more : List (List ℕ) → Option BadLine = λ so_far. first_bad_after so_far (drop (n + 1) (lines_of bytes)) in
    read.rest ∙ ap (first_bad_after before) (rest_at bytes n line next)
    ∙ ap (λ k. bad_or (k + 1) (fault_of (items_of_lines before) line) (more (before ++ line ∷ []))) count
    ∙ ap₂ (λ (have so_far : List (List ℕ)). bad_or (n + 1) (fault_of have line) (more so_far)) (sym read.items) (sym (lines_more bytes n line next))

-- after one more line, which has no fault
pub HasRead-more : (bytes : List ℕ) (n : ℕ) (items : List (List ℕ)) (line : List ℕ) (new : List (List ℕ)) → IsLine bytes n line → HasRead bytes n items
    → (fault_of items line ≡ None) × (new ≡ with_line items line) → HasRead bytes (n + 1) new
HasRead-more bytes n items line new next read added = record {
  items = added.1 ∙ ap (λ have. with_line have line) read.items ∙ sym (items_of_lines-push (take n (lines_of bytes)) line) ∙ ap items_of_lines (sym (lines_more bytes n line next));
  rest = first_bad_at bytes n items line next read ∙ ap (λ fault. bad_or (n + 1) fault (first_bad_after (take (n + 1) (lines_of bytes)) (drop (n + 1) (lines_of bytes)))) added.0;
}

-- after the last line
pub HasRead-done : (bytes : List ℕ) (n : ℕ) (items : List (List ℕ)) → n ≡ length (lines_of bytes) → HasRead bytes n items → ReadsItems bytes (Ok items)
HasRead-done bytes n items all read =
    let lines : List (List ℕ) = lines_of bytes in
    let front : take n lines ≡ lines = take_all n lines (omega arith) in
    let back : drop n lines ≡ [] = drop_all n lines (omega arith) in
    (read.rest ∙ ap (first_bad_after (take n lines)) back, read.items ∙ ap items_of_lines front)

-- the refusal of the next line is that of the first bad line
pub refused : (n : ℕ) (fault : Option LineFault) (later : Option BadLine) (bad : BadItems)
    → option_map (refusal_of n) fault ≡ Some bad → option_map bad_items_of (bad_or n fault later) ≡ Some bad
refused n None later bad e = absurd (cc)
refused n (Some fault) later bad e = e

-- at a line that has a fault
pub HasRead-bad : (bytes : List ℕ) (n : ℕ) (items : List (List ℕ)) (line : List ℕ) (new : List (List ℕ)) (bad : BadItems) → IsLine bytes n line → HasRead bytes n items
    → AddsLine items (n + 1) line (Err bad) new → ReadsItems bytes (Err bad)
HasRead-bad bytes n items line new bad next read added = answer bad added
  where
    first : (e : BadItems) → option_map (refusal_of (n + 1)) (fault_of items line) ≡ Some e → option_map bad_items_of (first_bad bytes) ≡ Some e
    first e same = ap (option_map bad_items_of) (first_bad_at bytes n items line next read) ∙ refused (n + 1) (fault_of items line) _ e same

    answer : (e : BadItems) → AddsLine items (n + 1) line (Err e) new → ReadsItems bytes (Err e)
    answer NoMemory h = tt
    answer (Byte at found) h = first (Byte at found) h
    answer (Long at count) h = first (Long at count) h
    answer (Many at) h = first (Many at) h
