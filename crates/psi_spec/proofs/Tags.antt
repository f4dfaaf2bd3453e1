-- Comparing padded tags is comparing tags.
use Rattle.std.proofs.Common.{◌≡◌, ◌-◌, ℕ, true, List, ◌++◌, replicate, ap}
use Rattle.std.specs.Str.{bytes_eq}
use Rattle.std.proofs.lemmas.Bool.Decides.{same_from_decides, Decides-like}
use Rattle.std.proofs.lemmas.List.{append_cancel_right}
use Rattle.std.proofs.lemmas.Slice.Eq.{bytes_eq-Decides}
use Rattle.psi_spec.specs.Formulas.{tag, padded_tag}

pub same_from_bytes_eq : (a b : List ℕ) → bytes_eq a b ≡ true → a ≡ b
same_from_bytes_eq a b = (bytes_eq-Decides a b).0

pub bytes_eq-same : (a b : List ℕ) → a ≡ b → bytes_eq a b ≡ true
bytes_eq-same a b = (bytes_eq-Decides a b).1

-- what both lists end with does not count
pub bytes_eq-append_right : (a b end : List ℕ) → bytes_eq (a ++ end) (b ++ end) ≡ bytes_eq a b
bytes_eq-append_right a b end =
    same_from_decides (bytes_eq (a ++ end) (b ++ end)) (bytes_eq a b)
    (Decides-like (bytes_eq (a ++ end) (b ++ end)) (append_cancel_right a b end) (ap (λ (x : List ℕ). x ++ end)) (bytes_eq-Decides (a ++ end) (b ++ end)))
    (bytes_eq-Decides a b)

-- padded tags of one length are equal where the tags are
pub bytes_eq-padded_tag : (key : List ℕ) (tag_length row row' : ℕ) (word word' : List ℕ) → bytes_eq (padded_tag key tag_length row word) (padded_tag key tag_length row' word') ≡ bytes_eq (tag key tag_length row word) (tag key tag_length row' word')
unfolding padded_tag
bytes_eq-padded_tag key tag_length row row' word word' = bytes_eq-append_right (tag key tag_length row word) (tag key tag_length row' word') (replicate (16 - tag_length) 0)

pub padded_tag_inj : (key : List ℕ) (tag_length row row' : ℕ) (word word' : List ℕ) → padded_tag key tag_length row word ≡ padded_tag key tag_length row' word' → tag key tag_length row word ≡ tag key tag_length row' word'
unfolding padded_tag
padded_tag_inj key tag_length row row' word word' e = append_cancel_right (tag key tag_length row word) (tag key tag_length row' word') (replicate (16 - tag_length) 0) e
