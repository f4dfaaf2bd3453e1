-- A made file is short enough to be read.
use Rattle.std.proofs.Common.{◌≡◌, ◌+◌, ◌*◌, ◌^◌, ◌<◌, ◌≤◌, ◌∙◌, ℕ, zero, suc, Bool, true, false, cond, codes, decimal, length, get_or, nat_lt, List, ◌++◌, refl, sym, ap, subst, arith}
use Rattle.std.proofs.lemmas.Fmt.{length-decimal-le}
use Rattle.std.proofs.lemmas.List.{length-append}
use Rattle.psi_spec.specs.Limits.{file_limit, limit_items}
use Rattle.psi_spec.specs.MadeFiles.{made_file, made_letter, made_line, made_order}
use Rattle.psi_items.proofs.MadeLines.{all_lines, falling_line, front_lines, one_more_line, rising_line}

-- a line's number is below their count
line_below : (is_second : Bool) (count place : ℕ) → place < count → get_or (made_order is_second count) place 0 < count
line_below true count place l = omega (arith, l, falling_line count place l)
line_below false count place l = omega (arith, l, rising_line count place l)

length-made_letter : (is_second : Bool) (shared k : ℕ) → length (made_letter is_second shared k) ≡ 1
length-made_letter is_second shared k = by_case (nat_lt k shared) is_second
  where
    by_case : (b second : Bool) → length (cond b (codes "s") (cond second (codes "y") (codes "x"))) ≡ 1
    by_case true second = refl
    by_case false true = refl
    by_case false false = refl

-- a line has at most 30 bytes
length-made_line : (is_second : Bool) (shared number k : ℕ) → number < 2 ^ 64 → k < 10000000 → length (made_line is_second shared number k) ≤ 30
length-made_line is_second shared number k small low =
    let letter = made_letter is_second shared k in
    let front : List ℕ = letter ++ decimal number in
    let one : length letter ≡ 1 = length-made_letter is_second shared k in
    let twenty : length (decimal number) ≤ 20 = length-decimal-le 20 number (omega arith) (omega (arith, small)) small in
    let seven : length (decimal k) ≤ 7 = length-decimal-le 7 k (omega arith) (omega (arith, low)) (omega (arith, low)) in
    omega (
      arith,
      one,
      twenty,
      seven,
      length-append letter (decimal number),
      length-append front (codes "-"),
      length-append (front ++ codes "-") (decimal k),
      length-append (front ++ codes "-" ++ decimal k) (codes "\n"),
    )

length-front_lines : (is_second : Bool) (count shared number place : ℕ) → count ≤ limit_items → number < 2 ^ 64 → place ≤ count
    → length (front_lines is_second count shared number place) ≤ 30 * place
length-front_lines is_second count shared number zero few small within = omega arith
length-front_lines is_second count shared number (suc place) few small within =
    let k : ℕ = get_or (made_order is_second count) place 0 in
    let l : place < count = omega (arith, within) in
    let low : k < 10000000 = let b = line_below is_second count place l in omega (arith, b, few) in
    let front : List ℕ = front_lines is_second count shared number place in
    let before : length front ≤ 30 * place = length-front_lines is_second count shared number place few small (omega (arith, within)) in
    let more : front ++ made_line is_second shared number k ≡ front_lines is_second count shared number (place + 1) =
    one_more_line is_second count shared number place k l refl in
    let line : length (made_line is_second shared number k) ≤ 30 = length-made_line is_second shared number k small low in
    let all : length (front_lines is_second count shared number (place + 1)) ≡ length front + length (made_line is_second shared number k) =
    sym (ap length more) ∙ length-append front (made_line is_second shared number k) in
    let sum : length (front_lines is_second count shared number (place + 1)) ≤ 30 * (place + 1) = omega (arith, all, before, line) in
    let next : place + 1 ≡ suc place = omega arith in
    subst (λ (n : ℕ). length (front_lines is_second count shared number n) ≤ 30 * n) next sum

pub made_file_short : (is_second : Bool) (count shared number : ℕ) → count ≤ limit_items → number < 2 ^ 64
    → length (made_file is_second count shared number) ≤ file_limit
made_file_short is_second count shared number few small =
    let lines : length (front_lines is_second count shared number count) ≤ 30 * count = length-front_lines is_second count shared number count few small (omega arith) in
    let whole : length (front_lines is_second count shared number count) ≡ length (made_file is_second count shared number) =
    ap length (all_lines is_second count shared number) in
    omega (arith, lines, whole, few)
