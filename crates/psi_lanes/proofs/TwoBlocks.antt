-- The digest of a message that is two blocks with its padding.
use Rattle.std.proofs.Common.{◌≡◌, ◌/◌, ℕ, List, ◌++◌, length, take, drop, ◌∙◌, ap, ap₂, arith, length-append}
use Rattle.std.proofs.lemmas.List.{take_all, take-append-le, drop-append-le, drop_all}
use Rattle.sha2.specs.Sha256.{compress, digest_bytes, hash_after, initial_hash_256, padded_message, sha256}
use Rattle.psi_lanes.specs.Digests.{IsTwoBlocks}

pub sha256-two_blocks : (m first second : List ℕ) → IsTwoBlocks m first second → sha256 m ≡ digest_bytes (compress (compress initial_hash_256 first) second) 8
unfolding sha256 hash_after
sha256-two_blocks m first second is =
    let all = length-append first second in
    let long_first = is.full_first in
    let long_second = is.full_second in
    let blocks : length (padded_message m) / 64 ≡ 2 = ap (λ p. length p / 64) is.whole ∙ omega (arith, all) in
    let front : take 64 (padded_message m) ≡ first = ap (take 64) is.whole ∙ (take-append-le 64 first second (omega arith) ∙ take_all 64 first (omega arith)) in
    let rest : drop 64 (first ++ second) ≡ second = drop-append-le 64 first second (omega arith) ∙ ap (λ l. l ++ second) (drop_all 64 first (omega arith)) in
    let back : take 64 (drop 64 (padded_message m)) ≡ second = ap (λ p. take 64 (drop 64 p)) is.whole ∙ (ap (take 64) rest ∙ take_all 64 second (omega arith)) in
    ap (λ n. digest_bytes (hash_after initial_hash_256 (padded_message m) n) 8) blocks
    ∙ ap₂ (λ a b. digest_bytes (compress (compress initial_hash_256 a) b) 8) front back
