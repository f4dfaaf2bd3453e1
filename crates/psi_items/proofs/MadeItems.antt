-- The items of made files are their lines.
use Rattle.std.proofs.Common.{◌≡◌, ◌∙◌, sym, ap, refl, subst, ℕ, zero, suc, ◌+◌, ◌^◌, ◌<◌, ◌≤◌, List, [], ◌∷◌, ◌++◌, Bool, true, false, cond, nat_lt, map, length, drop, get_or, codes, decimal, reverse, arith}
use Rattle.std.specs.List.{AllByRecursion, IsDistinct, range_with_len}
use Rattle.std.specs.Str.{bytes_eq}
use Rattle.std.specs.Str.Parse.{AllDigits}
use Rattle.std.proofs.lemmas.Cmp.{nat_list_eq_equiv}
use Rattle.std.proofs.lemmas.Fmt.{decimal_injective, decimal_is_IsNumeral, length-decimal-le}
use Rattle.std.proofs.lemmas.List.{length-append, length-map}
use Rattle.std.proofs.lemmas.List.Elements.{All-from_get_or, recursion_from_All}
use Rattle.std.proofs.lemmas.List.Folds.{flat_map-map}
use Rattle.std.proofs.lemmas.List.Sorted.{IsPermutation-reverse}
use Rattle.std.proofs.lemmas.Map.Keys.{IsDistinct-IsPermutation}
use Rattle.std.proofs.lemmas.Slice.Eq.{bytes_eq-Decides}
use Rattle.std.proofs.lemmas.Str.Parse.{digit_at}
use Rattle.std.proofs.Math.Seq.{drop-append_seam}
use Rattle.indexmap.proofs.ReorderLemmas.{map-reverse}
use Rattle.psi_spec.specs.MadeFiles.{made_file, made_letter, made_order}
use Rattle.psi_spec.specs.Texts.{lines_text}
use Rattle.psi_items.specs.Made.{AreItemsOf, MadeFilesHoldLines, made_item, made_items}
use Rattle.psi_items.proofs.MadeLines.{falling_line, length-made_order, rising_line}
use Rattle.psi_items.proofs.PlainLines.{ArePlain, ArePlainItems, IsPlain, IsPlainItem, plain-append, plain_high, plain_items, plain_low}

-- ---- one line

digits_plain : (ds : List ℕ) → AllDigits 10 ds → ArePlain ds
digits_plain ds h =
    recursion_from_All IsPlain ds (All-from_get_or IsPlain ds 0 (λ i l. let r = digit_at ds i h l in plain_low (get_or ds i 0) (omega (arith, r.0)) (omega (arith, r.1))))

decimal_plain : (n : ℕ) → n < 2 ^ 64 → ArePlain (decimal n)
decimal_plain n small = digits_plain (decimal n) (decimal_is_IsNumeral n small).0.1

letter_plain : (is_second : Bool) (shared k : ℕ) → ArePlain (made_letter is_second shared k) × (length (made_letter is_second shared k) ≡ 1)
letter_plain is_second shared k = by_case (nat_lt k shared) is_second
  where
    by_case : (b second : Bool) → ArePlain (cond b (codes "s") (cond second (codes "y") (codes "x"))) × (length (cond b (codes "s") (cond second (codes "y") (codes "x"))) ≡ 1)
    by_case true second = ((plain_high 115 (omega arith) (omega arith), tt), refl)
    by_case false true = ((plain_high 121 (omega arith) (omega arith), tt), refl)
    by_case false false = ((plain_high 120 (omega arith) (omega arith), tt), refl)

-- what stands before a line's own number
front_of : Bool → ℕ → ℕ → ℕ → List ℕ
front_of is_second shared number k = made_letter is_second shared k ++ decimal number ++ codes "-"

length-front_of : (is_second : Bool) (shared number k : ℕ) → length (front_of is_second shared number k) ≡ length (decimal number) + 2
unfolding front_of
length-front_of is_second shared number k =
    let letter = made_letter is_second shared k in
    omega (arith, (letter_plain is_second shared k).1, length-append letter (decimal number), length-append (letter ++ decimal number) (codes "-"))

item_is : (is_second : Bool) (shared number k : ℕ) → made_item is_second shared number k ≡ front_of is_second shared number k ++ decimal k
unfolding front_of
item_is is_second shared number k = refl

item_plain : (is_second : Bool) (shared number k : ℕ) → number < 2 ^ 64 → k < 2 ^ 64 → IsPlainItem (made_item is_second shared number k)
item_plain is_second shared number k small low =
    let letter = made_letter is_second shared k in
    let is = letter_plain is_second shared k in
    let front : List ℕ = letter ++ decimal number in
    let twenty : length (decimal number) ≤ 20 = length-decimal-le 20 number (omega arith) (omega (arith, small)) small in
    let also : length (decimal k) ≤ 20 = length-decimal-le 20 k (omega arith) (omega (arith, low)) low in
    record {
      plain = plain-append (front ++ codes "-") (decimal k)
          (plain-append front (codes "-") (plain-append letter (decimal number) is.0 (decimal_plain number small)) (plain_low 45 (omega arith) (omega arith), tt))
          (decimal_plain k low);
      some = omega (arith, is.1, length-append letter (decimal number), length-append front (codes "-"), length-append (front ++ codes "-") (decimal k));
      short = omega (arith, is.1, twenty, also, length-append letter (decimal number), length-append front (codes "-"), length-append (front ++ codes "-") (decimal k));
    }

-- lines of different numbers differ
same_number : (is_second : Bool) (shared number j k : ℕ) → j < 2 ^ 64 → k < 2 ^ 64 → made_item is_second shared number j ≡ made_item is_second shared number k → j ≡ k
same_number is_second shared number j k l m e =
    let front = front_of is_second shared number in
    let long : length (front j) ≡ length (front k) = length-front_of is_second shared number j ∙ sym (length-front_of is_second shared number k) in
    let both : front j ++ decimal j ≡ front k ++ decimal k = sym (item_is is_second shared number j) ∙ e ∙ item_is is_second shared number k in
    decimal_injective j k l m
    (sym (drop-append_seam (front j) (decimal j)) ∙ ap (drop (length (front j))) both ∙ ap (λ (n : ℕ). drop n (front k ++ decimal k)) long ∙ drop-append_seam (front k) (decimal k))

differs : (is_second : Bool) (shared number j k : ℕ) → j < k → k < 2 ^ 64 → bytes_eq (made_item is_second shared number j) (made_item is_second shared number k) ≡ false
differs is_second shared number j k less low =
    by_test (bytes_eq (made_item is_second shared number j) (made_item is_second shared number k)) refl
  where
    by_test : (b : Bool) → bytes_eq (made_item is_second shared number j) (made_item is_second shared number k) ≡ b → b ≡ false
    by_test false t = refl
    by_test true t =
        absurd (omega (
          arith,
          less,
          same_number is_second shared number j k (omega (arith, less, low)) low
              ((bytes_eq-Decides (made_item is_second shared number j) (made_item is_second shared number k)).0 t),
        ))

-- ---- all lines

-- numbers from one on, up to a bound
differ_from : (is_second : Bool) (shared number j from count : ℕ) → j < from → from + count < 2 ^ 64
    → AllByRecursion (λ y. bytes_eq (made_item is_second shared number j) y ≡ false) (map (made_item is_second shared number) (range_with_len from count))
differ_from is_second shared number j from zero less low = tt
differ_from is_second shared number j from (suc count) less low =
    (differs is_second shared number j from less (omega (arith, low)), differ_from is_second shared number j (from + 1) count (omega (arith, less)) (omega (arith, low)))

rising_differ : (is_second : Bool) (shared number from count : ℕ) → from + count < 2 ^ 64
    → IsDistinct bytes_eq (map (made_item is_second shared number) (range_with_len from count))
unfolding IsDistinct
rising_differ is_second shared number from zero low = tt
rising_differ is_second shared number from (suc count) low =
    (differ_from is_second shared number from (from + 1) count (omega arith) (omega (arith, low)), rising_differ is_second shared number (from + 1) count (omega (arith, low)))

items_differ : (second is_second : Bool) (shared number count : ℕ) → count < 2 ^ 64 → IsDistinct bytes_eq (map (made_item is_second shared number) (made_order second count))
items_differ false is_second shared number count low = rising_differ is_second shared number 0 count (omega (arith, low))
items_differ true is_second shared number count low =
    let items = map (made_item is_second shared number) (range_with_len 0 count) in
    subst (IsDistinct bytes_eq) (sym (map-reverse (made_item is_second shared number) (range_with_len 0 count)))
    (IsDistinct-IsPermutation bytes_eq nat_list_eq_equiv.symm items (reverse items) (IsPermutation-reverse items) (rising_differ is_second shared number 0 count (omega (arith, low))))

-- a line's number is below their count
pub line_below : (is_second : Bool) (count place : ℕ) → place < count → get_or (made_order is_second count) place 0 < count
line_below true count place l = omega (arith, l, falling_line count place l)
line_below false count place l = omega (arith, l, rising_line count place l)

order_below : (is_second : Bool) (count : ℕ) → AllByRecursion (λ k. k < count) (made_order is_second count)
order_below is_second count =
    recursion_from_All (λ k. k < count) (made_order is_second count)
    (All-from_get_or (λ k. k < count) (made_order is_second count) 0 (λ i l. line_below is_second count i (omega (arith, l, length-made_order is_second count))))

items_plain : (is_second : Bool) (shared number count : ℕ) (ks : List ℕ) → number < 2 ^ 64 → count ≤ 2 ^ 64 → AllByRecursion (λ k. k < count) ks
    → ArePlainItems (map (made_item is_second shared number) ks)
items_plain is_second shared number count [] small low h = tt
items_plain is_second shared number count (k ∷ ks) small low h =
    (item_plain is_second shared number k small (let l = h.0 in omega (arith, l, low)), items_plain is_second shared number count ks small low h.1)

-- a made file is the text of its items
file_is : (is_second : Bool) (count shared number : ℕ) → made_file is_second count shared number ≡ lines_text (made_items is_second count shared number)
unfolding made_file
file_is is_second count shared number = sym (flat_map-map (λ (item : List ℕ). item ++ 10 ∷ []) (made_item is_second shared number) (made_order is_second count))

pub made_files_hold_lines : MadeFilesHoldLines
made_files_hold_lines is_second count shared number few small =
    let items = made_items is_second count shared number in
    let long : length items ≡ count = length-map (made_order is_second count) (made_item is_second shared number) ∙ length-made_order is_second count in
    subst (λ (bytes : List ℕ). AreItemsOf bytes items) (sym (file_is is_second count shared number))
    (plain_items items (items_plain is_second shared number count (made_order is_second count) small (omega (arith, few)) (order_below is_second count)) (omega (arith, long, few))
    (items_differ is_second is_second shared number count (omega (arith, few))))
