-- The sizes of words, digests, codes and tags.
use Rattle.std.proofs.Common.{◌≡◌, ◌-◌, ◌≤◌, ℕ, List, [], ◌∷◌, ◌++◌, length, replicate, codes, arith}
use Rattle.std.specs.Int.{w32, to_be_bytes}
use Rattle.std.proofs.lemmas.List.{length-append, length-take-le, length-replicate}
use Rattle.sha2.specs.Sha256.{sha256}
use Rattle.sha2.proofs.Facts256.{length-sha256}
use Rattle.psi_spec.specs.Bits.{zero_word}
use Rattle.psi_spec.specs.Formulas.{item_digest, code_half, code, tag, padded_tag}

pub length-zero_word : length zero_word ≡ 64
unfolding zero_word
length-zero_word = length-replicate {A = ℕ} 64 0

pub length-item_digest : (item : List ℕ) → length (item_digest item) ≡ 32
unfolding item_digest
length-item_digest item = length-sha256 (codes "psi-item" ++ item)

pub length-code_half : (key : List ℕ) (index half : ℕ) (digest : List ℕ) → length (code_half key index half digest) ≡ 32
length-code_half key index half digest = length-sha256 (codes "psi-code" ++ key ++ index ∷ half ∷ [] ++ digest)

pub length-code : (key : List ℕ) (index : ℕ) (digest : List ℕ) → length (code key index digest) ≡ 64
unfolding code
length-code key index digest =
    omega (arith, length-append (code_half key index 0 digest) (code_half key index 1 digest), length-code_half key index 0 digest, length-code_half key index 1 digest)

pub length-tag : (key : List ℕ) (tag_length row : ℕ) (word : List ℕ) → tag_length ≤ 32 → length (tag key tag_length row word) ≡ tag_length
unfolding tag
length-tag key tag_length row word l =
    let whole : List ℕ = codes "psi-tags" ++ key ++ to_be_bytes w32 row ++ word in
    length-take-le tag_length (sha256 whole) (omega (arith, length-sha256 whole))

pub length-padded_tag : (key : List ℕ) (tag_length row : ℕ) (word : List ℕ) → tag_length ≤ 16 → length (padded_tag key tag_length row word) ≡ 16
unfolding padded_tag
length-padded_tag key tag_length row word l =
    omega (arith, length-append (tag key tag_length row word) (replicate (16 - tag_length) 0), length-tag key tag_length row word (omega arith), length-replicate {A = ℕ} (16 - tag_length) 0)
