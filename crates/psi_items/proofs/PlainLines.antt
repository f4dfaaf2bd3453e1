-- Lines of small letters, digits and signs are their own items.
use Rattle.std.proofs.Common.{◌≡◌, ◌∙◌, sym, ap, ap₂, refl, subst, ℕ, zero, suc, ◌+◌, ◌-◌, ◌<◌, ◌≤◌, ◌==◌, ◌&&◌, List, [], ◌∷◌, ◌++◌, Bool, true, false, not, cond, nat_lt, nat_eq, map, length, take, drop, get_or, slice_index, Option, Some, None, arith, append_assoc}
use Rattle.std.specs.List.{AllByRecursion, IsDistinct, filter, find, list_any, prefix_len, suffix_len, slice_split}
use Rattle.std.specs.Char.{to_ascii_lowercase}
use Rattle.std.specs.Option.{option_map_or}
use Rattle.std.specs.Str.{bytes_eq}
use Rattle.std.specs.Str.Lines.{strip_carriage_return}
use Rattle.std.proofs.lemmas.Bool.Decides.{nat_tests}
use Rattle.std.proofs.lemmas.List.{length_push, take_all}
use Rattle.std.proofs.lemmas.List.Elements.{All-from_recursion}
use Rattle.std.proofs.lemmas.List.Splits.{slice_split_at}
use Rattle.std.proofs.lemmas.List.Sums.{suffix_len_is}
use Rattle.psi_spec.specs.Items.{BadLine, LineFault, distinct, fault_of, fault_of_item, first_bad, first_bad_after, is_blank, is_control, is_too_many, is_long, items_of_lines, lines_of, normal, trimmed}
use Rattle.psi_spec.specs.Limits.{limit_items, line_limit}
use Rattle.psi_spec.specs.Texts.{lines_text}
use Rattle.psi_items.specs.Made.{AreItemsOf}
use Rattle.psi_items.specs.Reading.{with_line}
use Rattle.psi_items.proofs.Reading.{adds-nothing-nil, fault_of-clean, items_of_lines-push}

-- ---- bytes

-- a byte that no rule of lines changes or refuses
pub record IsPlain (b : ℕ) : Type 0 where
  pub feed : (b == 10) ≡ false
  pub control : is_control b ≡ false
  pub blank : is_blank b ≡ false
  pub return : (b == 13) ≡ false
  pub small : to_ascii_lowercase b ≡ b

pub plain_low : (b : ℕ) → 33 ≤ b → b < 65 → IsPlain b
plain_low b above below = record {
  feed = grind (arith, nat_tests);
  control = grind (arith, nat_tests);
  blank = grind (arith, nat_tests);
  return = grind (arith, nat_tests);
  small = let t : nat_lt b 65 ≡ true = grind (arith, nat_tests) in ap (λ (x : Bool). cond x b (cond (nat_lt b 91) (b + 32) b)) t;
}

pub plain_high : (b : ℕ) → 91 ≤ b → b < 127 → IsPlain b
plain_high b above below = record {
  feed = grind (arith, nat_tests);
  control = grind (arith, nat_tests);
  blank = grind (arith, nat_tests);
  return = grind (arith, nat_tests);
  small = let s : nat_lt b 65 ≡ false = grind (arith, nat_tests) in
      let t : nat_lt b 91 ≡ false = grind (arith, nat_tests) in
      ap (λ (x : Bool). cond x b (cond (nat_lt b 91) (b + 32) b)) s ∙ ap (λ (x : Bool). cond x (b + 32) b) t;
}

-- ---- lines

-- a line of such bytes
abbrev pub ArePlain : List ℕ → Type 0
ArePlain line = AllByRecursion IsPlain line

pub plain-append : (front back : List ℕ) → ArePlain front → ArePlain back → ArePlain (front ++ back)
plain-append [] back f b = b
plain-append (x ∷ front) back f b = (f.0, plain-append front back f.1 b)

at_return : (line : List ℕ) (i : ℕ) → ArePlain line → (slice_index line i == 13) ≡ false
at_return [] i h = refl
at_return (b ∷ line) zero h = h.0.return
at_return (b ∷ line) (suc i) h = at_return line i h.1

plain_stripped : (line : List ℕ) → ArePlain line → strip_carriage_return line ≡ line
plain_stripped line h = ap (λ (b : Bool). cond b (take (length line - 1) line) line) (at_return line (length line - 1) h)

no_control : (line : List ℕ) → ArePlain line → find is_control line ≡ None
no_control [] h = refl
no_control (b ∷ line) h = ap (λ (x : Bool). cond x (Some b) (find is_control line)) h.0.control ∙ no_control line h.1

at_blank : (line : List ℕ) (i : ℕ) → i < length line → ArePlain line → is_blank (get_or line i 0) ≡ false
at_blank [] i l h = absurd (omega (arith, l))
at_blank (b ∷ line) zero l h = h.0.blank
at_blank (b ∷ line) (suc i) l h = at_blank line i (omega (arith, l)) h.1

no_front : (line : List ℕ) → ArePlain line → prefix_len is_blank line ≡ 0
no_front [] h = refl
no_front (b ∷ line) h = ap (λ (x : Bool). cond x (1 + prefix_len is_blank line) 0) h.0.blank

no_end : (line : List ℕ) → ArePlain line → suffix_len is_blank line ≡ 0
no_end line h =
    suffix_len_is is_blank line (length line) 0 (omega arith) (λ k low high. absurd (omega (arith, low, high))) (λ some. at_blank line (length line - 1) (omega (arith, some)) h)
    ∙ omega arith

plain_trimmed : (line : List ℕ) → ArePlain line → trimmed line ≡ line
plain_trimmed line h =
    ap (λ (n : ℕ). take (length (drop n line) - suffix_len is_blank (drop n line)) (drop n line)) (no_front line h)
    ∙ (ap (λ (n : ℕ). take (length line - n) line) (no_end line h) ∙ take_all (length line - 0) line (omega arith))

plain_small : (line : List ℕ) → ArePlain line → map to_ascii_lowercase line ≡ line
plain_small [] h = refl
plain_small (b ∷ line) h = ap₂ (λ (x : ℕ) (xs : List ℕ). x ∷ xs) h.0.small (plain_small line h.1)

pub plain_normal : (line : List ℕ) → ArePlain line → normal line ≡ line
unfolding normal
plain_normal line h = ap (λ (l : List ℕ). map to_ascii_lowercase (trimmed l)) (plain_stripped line h) ∙ (ap (map to_ascii_lowercase) (plain_trimmed line h) ∙ plain_small line h)

-- ---- lists of lines

-- a line of 1 to 256 such bytes
pub record IsPlainItem (item : List ℕ) : Type 0 where
  pub plain : ArePlain item
  pub some : 0 < length item
  pub short : length item ≤ line_limit

abbrev pub ArePlainItems : List (List ℕ) → Type 0
ArePlainItems items = AllByRecursion IsPlainItem items

-- a line without a fault, where there is room for an item
plain_clean : (before : List (List ℕ)) (line : List ℕ) → IsPlainItem line → length before < limit_items → fault_of before line ≡ None
plain_clean before line is room =
    let clean : None ≡ find is_control (strip_carriage_return line) =
    sym (ap (find is_control) (plain_stripped line is.plain) ∙ no_control line is.plain) in
    let long : nat_lt line_limit (length line) ≡ false = let short = is.short in grind (arith, nat_tests) in
    let full : nat_eq (length before) limit_items ≡ false = grind (arith, nat_tests) in
    fault_of-clean before line clean ∙ ap (fault_of_item before) (plain_normal line is.plain)
    ∙ by_tests (nat_lt line_limit (length line)) (nat_eq (length line) 0) (list_any (bytes_eq line) before) (nat_eq (length before) limit_items) long full
  where
    by_tests : (long empty among full : Bool) → long ≡ false → full ≡ false
        → cond long (Some (is_long (length line))) (cond (not empty && (not among && full)) (Some is_too_many) None) ≡ None
    by_tests false true among full l f = refl
    by_tests false false true full l f = refl
    by_tests false false false false l f = refl
    by_tests true empty among full l f = cc l
    by_tests false false false true l f = cc f

-- a line adds one item at most
one_more : (items : List (List ℕ)) (line : List ℕ) → length (with_line items line) ≤ length items + 1
one_more items line = by_tests (nat_eq (length (normal line)) 0) (list_any (bytes_eq (normal line)) items)
  where
    by_tests : (empty among : Bool) → length (cond empty items (cond among items (items ++ normal line ∷ []))) ≤ length items + 1
    by_tests true among = omega arith
    by_tests false true = omega arith
    by_tests false false = omega (arith, length_push items (normal line))

plain_rest : (before lines : List (List ℕ)) → ArePlainItems lines → length (items_of_lines before) + length lines ≤ limit_items
    → first_bad_after before (lines ++ [] ∷ []) ≡ None
plain_rest before [] h room =
    ap (λ (o : Option LineFault). option_map_or (λ (fault : LineFault). Some (bad_line (length before + 1) fault)) o None) (adds-nothing-nil (items_of_lines before)).0
  where
    bad_line : ℕ → LineFault → BadLine
    bad_line n fault = record { line = n; fault = fault }
plain_rest before (line ∷ lines) h room =
    let clean : fault_of (items_of_lines before) line ≡ None = plain_clean (items_of_lines before) line h.0 (omega (arith, room)) in
    let more : length (items_of_lines (before ++ line ∷ [])) ≤ length (items_of_lines before) + 1 =
    subst (λ (items : List (List ℕ)). length items ≤ length (items_of_lines before) + 1) (sym (items_of_lines-push before line)) (one_more (items_of_lines before) line) in
    ap (λ (o : Option LineFault). option_map_or (λ (fault : LineFault). Some (bad_line (length before + 1) fault)) o (first_bad_after (before ++ line ∷ []) (lines ++ [] ∷ []))) clean
    ∙ plain_rest (before ++ line ∷ []) lines h.1 (omega (arith, more, room))
  where
    bad_line : ℕ → LineFault → BadLine
    bad_line n fault = record { line = n; fault = fault }

-- the lines of their text
pub plain_lines : (lines : List (List ℕ)) → ArePlainItems lines → lines_of (lines_text lines) ≡ lines ++ [] ∷ []
plain_lines [] h = refl
plain_lines (line ∷ lines) h =
    ap (slice_split (λ b. b == 10)) (append_assoc line (10 ∷ []) (lines_text lines))
    ∙ (slice_split_at (λ b. b == 10) line 10 (lines_text lines) (All-from_recursion (λ b. (b == 10) ≡ false) line (feeds line h.0.plain)) refl
    ∙ ap (λ (rest : List (List ℕ)). line ∷ rest) (plain_lines lines h.1))
  where
    feeds : (line : List ℕ) → ArePlain line → AllByRecursion (λ b. (b == 10) ≡ false) line
    feeds [] h = tt
    feeds (b ∷ line) h = (h.0.feed, feeds line h.1)

-- nothing is left out of different elements
distinct_all : (items : List (List ℕ)) → IsDistinct bytes_eq items → distinct items ≡ items
unfolding IsDistinct
distinct_all [] h = refl
distinct_all (x ∷ items) h =
    ap (λ (rest : List (List ℕ)). x ∷ filter (λ y. not (bytes_eq x y)) rest) (distinct_all items h.1) ∙ ap (λ (rest : List (List ℕ)). x ∷ rest) (kept items h.0)
  where
    kept : (ys : List (List ℕ)) → AllByRecursion (λ y. bytes_eq x y ≡ false) ys → filter (λ y. not (bytes_eq x y)) ys ≡ ys
    kept [] h = refl
    kept (y ∷ ys) h =
        ap (λ (b : Bool). cond (not b) (y ∷ filter (λ y. not (bytes_eq x y)) ys) (filter (λ y. not (bytes_eq x y)) ys)) h.0
        ∙ ap (λ (rest : List (List ℕ)). y ∷ rest) (kept ys h.1)

-- their normal forms that are not empty are the lines themselves
some_lines : (lines : List (List ℕ)) → ArePlainItems lines → filter (λ item. not (length item == 0)) (map normal (lines ++ [] ∷ [])) ≡ lines
unfolding normal
some_lines [] h = refl
some_lines (line ∷ lines) h =
    ap (λ (l : List ℕ). cond (not (length l == 0)) (l ∷ rest) rest) (plain_normal line h.0.plain)
    ∙ (ap (λ (b : Bool). cond (not b) (line ∷ rest) rest) (let some = h.0.some in let e : (length line == 0) ≡ false = grind (arith, nat_tests) in e)
    ∙ ap (λ (ls : List (List ℕ)). line ∷ ls) (some_lines lines h.1))
  where
    rest : List (List ℕ)
    rest = filter (λ item. not (length item == 0)) (map normal (lines ++ [] ∷ []))

-- a file of at most 1,048,576 different plain lines has no bad line, and these items
pub plain_items : (lines : List (List ℕ)) → ArePlainItems lines → length lines ≤ limit_items → IsDistinct bytes_eq lines → AreItemsOf (lines_text lines) lines
unfolding first_bad items_of_lines
plain_items lines h few different =
    let split = plain_lines lines h in
    let none : length (items_of_lines []) ≡ 0 = refl in
    record {
      good = ap (first_bad_after []) split ∙ plain_rest [] lines h (omega (arith, few, none));
      listed = ap items_of_lines split ∙ (ap distinct (some_lines lines h) ∙ distinct_all lines different);
    }
