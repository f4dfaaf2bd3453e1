-- The lines of a made file, one after another.
use Rattle.std.proofs.Common.{◌≡◌, ◌+◌, ◌-◌, ◌<◌, ◌∙◌, ℕ, Bool, true, false, List, [], ◌∷◌, ◌++◌, length, take, get_or, reverse, sym, ap, arith, append-nil}
use Rattle.std.specs.List.{flat_map, range_with_len}
use Rattle.std.proofs.lemmas.List.{get_or-reverse, length-reverse, take_more, take_all}
use Rattle.std.proofs.lemmas.List.Concat.{flat_map-append}
use Rattle.std.proofs.lemmas.List.FromFn.{length-range_with_len, get_or-range_with_len}
use Rattle.psi_spec.specs.MadeFiles.{made_file, made_line, made_order}

pub length-made_order : (is_second : Bool) (count : ℕ) → length (made_order is_second count) ≡ count
length-made_order true count = length-reverse (range_with_len 0 count) ∙ length-range_with_len 0 count
length-made_order false count = length-range_with_len 0 count

-- lines rise in the first file, and fall in the second
pub rising_line : (count place : ℕ) → place < count → place ≡ get_or (made_order false count) place 0
rising_line count place l = omega (arith, get_or-range_with_len 0 count place 0 l)

pub falling_line : (count place : ℕ) → place < count → count - 1 - place ≡ get_or (made_order true count) place 0
falling_line count place l =
    let long : length (range_with_len 0 count) ≡ count = length-range_with_len 0 count in
    let there : get_or (range_with_len 0 count) (count - 1 - place) 0 ≡ 0 + (count - 1 - place) = get_or-range_with_len 0 count (count - 1 - place) 0 (omega arith) in
    let turned : get_or (reverse (range_with_len 0 count)) place 0 ≡ get_or (range_with_len 0 count) (count - 1 - place) 0 =
    get_or-reverse (range_with_len 0 count) place 0 (omega arith) ∙ ap (λ (n : ℕ). get_or (range_with_len 0 count) (n - 1 - place) 0) long in
    omega (arith, there, turned)

-- the lines at the first so many places
abbrev pub front_lines : Bool → ℕ → ℕ → ℕ → ℕ → List ℕ
front_lines is_second count shared number place =
    flat_map (made_line is_second shared number) (take place (made_order is_second count))

pub one_more_line : (is_second : Bool) (count shared number place k : ℕ) → place < count → k ≡ get_or (made_order is_second count) place 0
    → front_lines is_second count shared number place ++ made_line is_second shared number k ≡ front_lines is_second count shared number (place + 1)
one_more_line is_second count shared number place k l e =
    let order : List ℕ = made_order is_second count in
    let line : ℕ → List ℕ = made_line is_second shared number in
    sym
    (ap (flat_map line) (take_more order place 0 (omega (arith, length-made_order is_second count)))
    ∙ (flat_map-append line (take place order) (get_or order place 0 ∷ [])
    ∙ (ap (λ (rest : List ℕ). flat_map line (take place order) ++ rest) (append-nil (line (get_or order place 0)))
    ∙ ap (λ (n : ℕ). flat_map line (take place order) ++ line n) (sym e))))

pub all_lines : (is_second : Bool) (count shared number : ℕ) → front_lines is_second count shared number count ≡ made_file is_second count shared number
unfolding made_file
all_lines is_second count shared number =
    ap (flat_map (made_line is_second shared number)) (take_all count (made_order is_second count) (omega (arith, length-made_order is_second count)))
