-- The reading of a file of paired lines, one line more at a time.
use Rattle.std.proofs.Common.{◌≡◌, ◌∙◌, ◌+◌, ◌<◌, ◌≤◌, ℕ, Bool, true, false, cond, List, [], ◌∷◌, ◌++◌, length, map, take, drop, nat_lt, nat_eq, Option, Some, None, Result, Ok, Err, refl, sym, ap, subst, arith}
use Rattle.std.specs.List.{find}
use Rattle.std.specs.Option.{option_map}
use Rattle.std.specs.Str.Lines.{strip_carriage_return}
use Rattle.std.proofs.lemmas.Bool.{eq-eqb, ne_eqb, eqb-false, ltb-false}
use Rattle.std.proofs.lemmas.List.{map-append, length_push, take_all, drop_all}
use Rattle.psi_spec.specs.Limits.{limit_items, line_limit}
use Rattle.psi_spec.specs.Items.{lines_of, is_control, normal, LineFault, is_long, is_too_many}
use Rattle.psi_spec.specs.PairedLines.{ended_lines, paired_lines_of, fault_of_paired, first_bad_paired_from, first_bad_paired}
use Rattle.psi_items.specs.declared.errors.BadItems.{BadItems}
use Rattle.psi_items.specs.declared.errors.BadItems.TheVariants.{Byte, Long, Many, NoMemory}
use Rattle.psi_items.specs.Reading.{refusal_of, bad_items_of, own_fault}
use Rattle.psi_items.proofs.Reading.{IsLine, byte_or, own_refusal, no_own_fault, bad_or, refused, rest_at, lines_more}
use Rattle.psi_lines.specs.Cutting.{cut_at, ArePacked}
use Rattle.psi_lines.specs.Reading.{ReadsLines, PacksLines, PacksLine}
use Rattle.psi_lines.proofs.Cutting.{ArePacked-nil, ArePacked-push, lines_packed}

-- ---- faults

-- a line that is refused for itself
pub PacksLine-refused : (ends bytes line : List ℕ) (bad : BadItems) (new_ends new_bytes : List ℕ)
    → option_map (refusal_of (length ends + 1)) (own_fault line) ≡ Some bad → PacksLine ends bytes line (Err bad) new_ends new_bytes
unfolding fault_of_paired
PacksLine-refused ends bytes line bad new_ends new_bytes e =
    answer bad (own_refusal (refusal_of (length ends + 1)) (find is_control (strip_carriage_return line)) (nat_lt line_limit (length (normal line))) (length (normal line)) _ bad e)
  where
    answer : (b : BadItems) → option_map (refusal_of (length ends + 1)) (fault_of_paired (length ends) line) ≡ Some b → PacksLine ends bytes line (Err b) new_ends new_bytes
    answer NoMemory h = tt
    answer (Byte at found) h = h
    answer (Long at count) h = h
    answer (Many at) h = h

-- what another line may have
fault_by_place : (before : ℕ) (line : List ℕ) → own_fault line ≡ None → fault_of_paired before line ≡ cond (nat_eq before limit_items) (Some is_too_many) None
unfolding fault_of_paired
fault_by_place before line none =
    no_own_fault (find is_control (strip_carriage_return line)) (nat_lt line_limit (length (normal line))) (length (normal line)) _ none

pub one_too_many : (before : ℕ) (line : List ℕ) → own_fault line ≡ None → before ≡ limit_items → fault_of_paired before line ≡ Some is_too_many
one_too_many before line none e =
    fault_by_place before line none ∙ ap (λ (b : Bool). cond b (Some is_too_many) None) (eq-eqb before limit_items e)

pub no_fault : (before : ℕ) (line : List ℕ) → own_fault line ≡ None → (before ≡ limit_items → ⊥) → fault_of_paired before line ≡ None
no_fault before line none other =
    fault_by_place before line none ∙ ap (λ (b : Bool). cond b (Some is_too_many) None) (ne_eqb before limit_items other)

-- no test of a line without a fault holds
tests_fail : (found : Option ℕ) (long full : Bool) (n : ℕ) → byte_or found (cond long (Some (is_long n)) (cond full (Some is_too_many) None)) ≡ None → (long ≡ false) × (full ≡ false)
tests_fail (Some b) long full n e = absurd (cc)
tests_fail None true full n e = absurd (cc)
tests_fail None false true n e = absurd (cc)
tests_fail None false false n e = (refl, refl)

-- it is short, and not one too many
fits : (before : ℕ) (line : List ℕ) → fault_of_paired before line ≡ None → (length (normal line) ≤ line_limit) × (before ≡ limit_items → ⊥)
unfolding fault_of_paired
fits before line none =
    let tests = tests_fail (find is_control (strip_carriage_return line)) (nat_lt line_limit (length (normal line))) (nat_eq before limit_items) (length (normal line)) none in
    (ltb-false line_limit (length (normal line)) tests.0, eqb-false before limit_items tests.1)

-- ---- the reading

-- the reading of the lines of a text after its first n, none of which has a fault
pub record HasReadLines (text : List ℕ) (n : ℕ) (ends bytes : List ℕ) : Type 0 where
  pub count : length ends ≡ n
  pub packed : ArePacked ends bytes
  pub lines : cut_at 0 ends bytes ≡ map normal (take n (lines_of text))
  pub rest : first_bad_paired_from 0 (lines_of text) ≡ first_bad_paired_from n (drop n (lines_of text))

-- before the first line
pub HasReadLines-begun : (text : List ℕ) → HasReadLines text 0 [] []
HasReadLines-begun text = record { count = refl; packed = ArePacked-nil; lines = refl; rest = refl }

-- the first bad line is the next, or comes later
first_bad_at : (text : List ℕ) (n : ℕ) (ends bytes line : List ℕ) → IsLine text n line → HasReadLines text n ends bytes
    → first_bad_paired_from 0 (lines_of text) ≡ bad_or (n + 1) (fault_of_paired (length ends) line) (first_bad_paired_from (n + 1) (drop (n + 1) (lines_of text)))
first_bad_at text n ends bytes line next read =
    read.rest ∙ (ap (first_bad_paired_from n) (rest_at text n line next)
    ∙ ap (λ (k : ℕ). bad_or (n + 1) (fault_of_paired k line) (first_bad_paired_from (n + 1) (drop (n + 1) (lines_of text)))) (sym read.count))

-- after one more line, which has no fault
pub HasReadLines-more : (text : List ℕ) (n : ℕ) (ends bytes line new_ends new_bytes : List ℕ) → IsLine text n line → HasReadLines text n ends bytes
    → (fault_of_paired (length ends) line ≡ None) × (new_bytes ≡ bytes ++ normal line) × (new_ends ≡ ends ++ length new_bytes ∷ [])
    → HasReadLines text (n + 1) new_ends new_bytes
HasReadLines-more text n ends bytes line new_ends new_bytes next read packs =
    let more : List ℕ = bytes ++ normal line in
    let more_ends : List ℕ = ends ++ length more ∷ [] in
    let same_ends : new_ends ≡ more_ends = packs.2 ∙ ap (λ (b : List ℕ). ends ++ length b ∷ []) packs.1 in
    let few : length ends ≤ limit_items = read.packed.few in
    let fitting = fits (length ends) line packs.0 in
    let room : length ends < limit_items = strictly (length ends) few fitting.1 in
    let grown : HasReadLines text (n + 1) more_ends more = record {
      count = omega (arith, length_push ends (length more), read.count);
      packed = ArePacked-push ends bytes (normal line) read.packed room fitting.0;
      lines = lines_packed ends bytes (normal line) read.packed
          ∙ (ap (λ (lines : List (List ℕ)). lines ++ normal line ∷ []) read.lines
          ∙ (sym (map-append normal (take n (lines_of text)) (line ∷ [])) ∙ ap (map normal) (sym (lines_more text n line next))));
      rest = first_bad_at text n ends bytes line next read
          ∙ ap (λ (fault : Option LineFault). bad_or (n + 1) fault (first_bad_paired_from (n + 1) (drop (n + 1) (lines_of text)))) packs.0;
    } in
    subst (λ (b : List ℕ). HasReadLines text (n + 1) new_ends b) (sym packs.1) (subst (λ (e : List ℕ). HasReadLines text (n + 1) e more) (sym same_ends) grown)
  where
    strictly : (k : ℕ) → k ≤ limit_items → (k ≡ limit_items → ⊥) → k < limit_items
    strictly k l other = omega (arith, other)

-- after the last line
pub HasReadLines-done : (text : List ℕ) (n : ℕ) (ends bytes : List ℕ) → n ≡ length (lines_of text) → HasReadLines text n ends bytes
    → (first_bad_paired_from 0 (lines_of text) ≡ None) × (cut_at 0 ends bytes ≡ map normal (lines_of text))
HasReadLines-done text n ends bytes all read =
    let front : take n (lines_of text) ≡ lines_of text = take_all n (lines_of text) (omega arith) in
    let back : drop n (lines_of text) ≡ [] = drop_all n (lines_of text) (omega arith) in
    (read.rest ∙ ap (first_bad_paired_from n) back, read.lines ∙ ap (map normal) front)

-- at a line that has a fault
pub HasReadLines-bad : (text : List ℕ) (n : ℕ) (ends bytes line new_ends new_bytes : List ℕ) (bad : BadItems) → IsLine text n line → HasReadLines text n ends bytes
    → PacksLine ends bytes line (Err bad) new_ends new_bytes → PacksLines (lines_of text) (Err bad)
HasReadLines-bad text n ends bytes line new_ends new_bytes bad next read packs = answer bad packs
  where
    first : (e : BadItems) → option_map (refusal_of (length ends + 1)) (fault_of_paired (length ends) line) ≡ Some e → option_map bad_items_of (first_bad_paired_from 0 (lines_of text)) ≡ Some e
    first e is =
        ap (option_map bad_items_of) (first_bad_at text n ends bytes line next read)
        ∙ refused (n + 1) (fault_of_paired (length ends) line) _ e (ap (λ (k : ℕ). option_map (refusal_of (k + 1)) (fault_of_paired (length ends) line)) (sym read.count) ∙ is)

    answer : (e : BadItems) → PacksLine ends bytes line (Err e) new_ends new_bytes → PacksLines (lines_of text) (Err e)
    answer NoMemory h = tt
    answer (Byte at found) h = first (Byte at found) h
    answer (Long at count) h = first (Long at count) h
    answer (Many at) h = first (Many at) h

-- ---- a file

-- its lines are those that are packed
pub ReadsLines-packed : (file : List ℕ) (raw : List (List ℕ)) (result : Result (List (List ℕ)) BadItems) → raw ≡ ended_lines file → PacksLines raw result → ReadsLines file result
unfolding first_bad_paired paired_lines_of
ReadsLines-packed file raw result same packs = answer result (subst (λ (lines : List (List ℕ)). PacksLines lines result) same packs)
  where
    answer : (r : Result (List (List ℕ)) BadItems) → PacksLines (ended_lines file) r → ReadsLines file r
    answer (Ok lines) h = h
    answer (Err NoMemory) h = tt
    answer (Err (Byte at found)) h = h
    answer (Err (Long at count)) h = h
    answer (Err (Many at)) h = h

-- a file without a line
pub no_lines : (file : List ℕ) → ended_lines file ≡ [] → (first_bad_paired file ≡ None) × (paired_lines_of file ≡ [])
unfolding first_bad_paired paired_lines_of
no_lines file none = (ap (first_bad_paired_from 0) none, ap (map normal) none)
