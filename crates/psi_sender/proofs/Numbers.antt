-- Byte strings of one length compare as the numbers that they write, high byte first.
use Rattle.std.proofs.Common.{◌≡◌, ◌+◌, ◌-◌, ◌*◌, ◌^◌, ◌/◌, ◌≢◌, ◌<◌, ◌≤◌, ℕ, suc, zero, List, [], ◌∷◌, length, get_or, take, slice_index, nat_cmp, Ordering, Less, Equal, Greater, refl, sym, ap, ◌∙◌, arith}
use Rattle.std.specs.Cmp.{nat_cmp_is}
use Rattle.std.specs.Cmp.Lexicographic.{slice_cmp}
use Rattle.std.specs.Ordering.{ordering_then}
use Rattle.std.specs.Int.{byte_worth, from_be_bytes, sum_through, w128}
use Rattle.std.specs.Int.Digits.{number_from_digits_after, number_from_digits}
use Rattle.std.proofs.Math.Nat.{add-mul, mul_assoc, mul_comm, pow-suc}
use Rattle.std.proofs.lemmas.Cmp.{ranked}
use Rattle.std.proofs.lemmas.Int.Digits.{number_more}
use Rattle.std.proofs.lemmas.List.{take_all}
use Rattle.psi_spec.specs.Frames.{AreBytes}

-- what is smaller before as many bytes stays smaller after them
below_after : (m n : ℕ) (xs ys : List ℕ) → length xs ≡ length ys → AreBytes xs → m < n
    → number_from_digits_after 256 m xs < number_from_digits_after 256 n ys
below_after m n [] [] long small l = l
below_after m n [] (y ∷ ys) long small l = absurd (omega arith)
below_after m n (x ∷ xs) [] long small l = absurd (omega arith)
below_after m n (x ∷ xs) (y ∷ ys) long small l =
    below_after (m * 256 + x) (n * 256 + y) xs ys (omega arith) (λ i. small (suc i)) (omega (arith, small 0))

-- after the same bytes the first that differ decide
cmp_after : (n : ℕ) (xs ys : List ℕ) → length xs ≡ length ys → AreBytes xs → AreBytes ys
    → slice_cmp nat_cmp xs ys ≡ nat_cmp (number_from_digits_after 256 n xs) (number_from_digits_after 256 n ys)
cmp_after n [] [] long small small' = nat_cmp_is n n Equal refl
cmp_after n [] (y ∷ ys) long small small' = absurd (omega arith)
cmp_after n (x ∷ xs) [] long small small' = absurd (omega arith)
cmp_after n (x ∷ xs) (y ∷ ys) long small small' =
    by_case (nat_cmp x y) refl (cmp_after (n * 256 + x) xs ys (omega arith) (λ i. small (suc i)) (λ i. small' (suc i)))
  where
    with_x : ℕ
    with_x = number_from_digits_after 256 (n * 256 + x) xs

    with_y : ℕ
    with_y = number_from_digits_after 256 (n * 256 + y) ys

    by_case : (r : Ordering) → r ≡ nat_cmp x y
        → slice_cmp nat_cmp xs ys ≡ nat_cmp with_x (number_from_digits_after 256 (n * 256 + x) ys)
        → ordering_then r (slice_cmp nat_cmp xs ys) ≡ nat_cmp with_x with_y
    by_case Less e rest =
        nat_cmp_is with_x with_y Less
        (below_after (n * 256 + x) (n * 256 + y) xs ys (omega arith) (λ i. small (suc i)) (omega (arith, ranked x y Less e)))
    by_case Equal e rest =
        rest ∙ ap (λ (z : ℕ). nat_cmp with_x (number_from_digits_after 256 (n * 256 + z) ys)) (ranked x y Equal e)
    by_case Greater e rest =
        nat_cmp_is with_x with_y Greater
        (below_after (n * 256 + y) (n * 256 + x) ys xs (omega arith) (λ i. small' (suc i))
        (omega (arith, ranked x y Greater e)))

-- one byte more: what was written so far stands 256 times higher
one_more : (so_far byte p q : ℕ) → q ≡ p * 256 → so_far * q + byte * p ≡ (so_far * 256 + byte) * p
one_more so_far byte p q is =
    ap (λ (z : ℕ). so_far * z + byte * p) is
    ∙ omega (arith, add-mul (so_far * 256) byte p, mul_assoc so_far 256 p, ap (λ (z : ℕ). so_far * z) (mul_comm p 256))

worth_is : (place byte : ℕ) → byte_worth place byte ≡ byte * 256 ^ place
worth_is zero byte = omega arith
worth_is (suc place) byte = refl

with_next : (xs : List ℕ) (k : ℕ) → k < length xs
    → number_from_digits 256 (take (suc k) xs) ≡ number_from_digits 256 (take k xs) * 256 + get_or xs k 0
with_next xs k l =
    let next : suc k ≡ k + 1 = omega arith in
    ap (λ (m : ℕ). number_from_digits 256 (take m xs)) next ∙ number_more 256 xs k l

-- what the first k + 1 of n + 1 bytes are worth
worth_of_first : (n k : ℕ) (xs : List ℕ) → k ≤ n → n < length xs
    → sum_through (λ i. byte_worth (n - i) (slice_index xs i)) k ≡ number_from_digits 256 (take (suc k) xs) * 256 ^ (n - k)
worth_of_first n zero xs low long =
    let first : get_or xs 0 0 ≡ number_from_digits 256 (take 1 xs) = omega (arith, with_next xs 0 (omega arith)) in
    worth_is (n - 0) (get_or xs 0 0) ∙ ap (λ (m : ℕ). m * 256 ^ (n - 0)) first
worth_of_first n (suc k) xs low long =
    let places : n - k ≡ suc (n - suc k) = omega arith in
    let power : 256 ^ (n - k) ≡ 256 ^ (n - suc k) * 256 = ap (λ (m : ℕ). 256 ^ m) places ∙ pow-suc 256 (n - suc k) in
    (λ i. worth_of_first n k xs (omega arith) long i + worth_is (n - suc k) (get_or xs (suc k) 0) i)
    ∙ (one_more (number_from_digits 256 (take (suc k) xs)) (get_or xs (suc k) 0) (256 ^ (n - suc k)) (256 ^ (n - k)) power
    ∙ ap (λ (m : ℕ). m * 256 ^ (n - suc k)) (sym (with_next xs (suc k) (omega arith))))

written_16 : (xs : List ℕ) → length xs ≡ 16 → from_be_bytes w128 xs ≡ number_from_digits 256 xs
written_16 xs long =
    worth_of_first 15 15 xs (omega arith) (omega arith)
    ∙ (omega arith ∙ ap (number_from_digits 256) (take_all 16 xs (omega arith)))

-- tags compare as the numbers that they are
pub cmp_of_16 : (xs ys : List ℕ) → length xs ≡ 16 → length ys ≡ 16 → AreBytes xs → AreBytes ys
    → nat_cmp (from_be_bytes w128 xs) (from_be_bytes w128 ys) ≡ slice_cmp nat_cmp xs ys
cmp_of_16 xs ys long long' small small' =
    (λ i. nat_cmp (written_16 xs long i) (written_16 ys long' i)) ∙ sym (cmp_after 0 xs ys (long ∙ sym long') small small')

-- where they differ, the parts of two numbers above their low 64 bits compare as the numbers do
pub cmp_of_high : (x y : ℕ) → x / 2 ^ 64 ≢ y / 2 ^ 64 → nat_cmp (x / 2 ^ 64) (y / 2 ^ 64) ≡ nat_cmp x y
cmp_of_high x y differ = by_case (nat_cmp (x / 2 ^ 64) (y / 2 ^ 64)) refl
  where
    by_case : (r : Ordering) → r ≡ nat_cmp (x / 2 ^ 64) (y / 2 ^ 64) → r ≡ nat_cmp x y
    by_case Less e = nat_cmp_is x y Less (omega (arith, ranked (x / 2 ^ 64) (y / 2 ^ 64) Less e))
    by_case Equal e = absurd (differ (ranked (x / 2 ^ 64) (y / 2 ^ 64) Equal e))
    by_case Greater e = nat_cmp_is x y Greater (omega (arith, ranked (x / 2 ^ 64) (y / 2 ^ 64) Greater e))
