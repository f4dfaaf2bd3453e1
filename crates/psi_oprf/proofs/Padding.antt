-- The blocks of the messages of codes and tags.
use Rattle.std.proofs.Common.{◌≡◌, ℕ, List, [], ◌∷◌, ◌++◌, length, take, drop, codes, refl, sym, ◌∙◌, ap, ap₂, arith, append_assoc, length-append, length-drop}
use Rattle.std.specs.Int.{w32, to_be_bytes}
use Rattle.std.proofs.lemmas.List.{length-take-le, take-append-drop}
use Rattle.sha2.specs.Sha256.{padding}
use Rattle.psi_lanes.specs.Digests.{IsTwoBlocks}
use Rattle.psi_oprf.specs.Messages.{bins_message, code_message, tag_message}
use Rattle.psi_oprf.specs.declared.messages.TheConstants.{BINS_END, BINS_PADDING, CODE_END, CODE_PADDING}
use Rattle.psi_oprf.proofs.Joining.{joined_five, joined_four, joined_halves}

-- a code's message has 58 bytes
length-code_message : (key digest : List ℕ) (index half : ℕ) → length key ≡ 16 → length digest ≡ 32 → length (code_message key index half digest) ≡ 58
length-code_message key digest index half long_key long_digest =
    omega (arith, length-append (codes "psi-code" ++ key ++ index ∷ half ∷ []) digest, length-append (codes "psi-code" ++ key) (index ∷ half ∷ []), length-append (codes "psi-code") key)

-- a code's message with its padding
pub code_blocks : (key digest block : List ℕ) (index half : ℕ) → length key ≡ 16 → length digest ≡ 32
    → block ≡ codes "psi-code" ++ (key ++ (index ∷ half ∷ [] ++ (digest ++ CODE_PADDING))) → IsTwoBlocks (code_message key index half digest) block CODE_END
code_blocks key digest block index half long_key long_digest made =
    let m = code_message key index half digest in
    let long = length-code_message key digest index half long_key long_digest in
    let front : block ≡ m ++ CODE_PADDING = made ∙ sym (joined_five (codes "psi-code") key (index ∷ half ∷ []) digest CODE_PADDING) in
    record {
      full_first = ap length front ∙ omega (arith, length-append m CODE_PADDING);
      full_second = refl;
      whole = ap (λ n. m ++ padding n) long ∙ (sym (append_assoc m CODE_PADDING CODE_END) ∙ ap (λ l. l ++ CODE_END) (sym front));
    }

-- the message of the bins of a digest has 56 bytes
length-bins_message : (key digest : List ℕ) → length key ≡ 16 → length digest ≡ 32 → length (bins_message key digest) ≡ 56
length-bins_message key digest long_key long_digest = omega (arith, length-append (codes "psi-bins" ++ key) digest, length-append (codes "psi-bins") key)

-- the message of the bins of a digest with its padding
pub bins_blocks : (key digest block : List ℕ) → length key ≡ 16 → length digest ≡ 32
    → block ≡ codes "psi-bins" ++ (key ++ (digest ++ BINS_PADDING)) → IsTwoBlocks (bins_message key digest) block BINS_END
bins_blocks key digest block long_key long_digest made =
    let m = bins_message key digest in
    let long = length-bins_message key digest long_key long_digest in
    let front : block ≡ m ++ BINS_PADDING = made ∙ sym (joined_four (codes "psi-bins") key digest BINS_PADDING) in
    record {
      full_first = ap length front ∙ omega (arith, length-append m BINS_PADDING);
      full_second = refl;
      whole = ap (λ n. m ++ padding n) long ∙ (sym (append_assoc m BINS_PADDING BINS_END) ∙ ap (λ l. l ++ BINS_END) (sym front));
    }

-- a tag's message has 92 bytes
length-tag_message : (key word : List ℕ) (row : ℕ) → length key ≡ 16 → length word ≡ 64 → length (tag_message key row word) ≡ 92
length-tag_message key word row long_key long_word =
    let four : length (to_be_bytes w32 row) ≡ 4 = refl in
    omega (arith, four, length-append (codes "psi-tags" ++ key ++ to_be_bytes w32 row) word, length-append (codes "psi-tags" ++ key) (to_be_bytes w32 row), length-append (codes "psi-tags") key)

-- a tag's message with its padding
pub tag_blocks : (key word first second : List ℕ) (row : ℕ) → length key ≡ 16 → length word ≡ 64
    → first ≡ codes "psi-tags" ++ (key ++ (to_be_bytes w32 row ++ take 36 word)) → second ≡ drop 36 word ++ padding 92 → IsTwoBlocks (tag_message key row word) first second
tag_blocks key word first second row long_key long_word made_first made_second =
    let head : List ℕ = codes "psi-tags" ++ key ++ to_be_bytes w32 row in
    let four : length (to_be_bytes w32 row) ≡ 4 = refl in
    let long_padding : length (padding 92) ≡ 36 = refl in
    let long_head : length head ≡ 28 = omega (arith, four, length-append (codes "psi-tags" ++ key) (to_be_bytes w32 row), length-append (codes "psi-tags") key) in
    let long = length-tag_message key word row long_key long_word in
    let front : first ≡ head ++ take 36 word = made_first ∙ sym (joined_four (codes "psi-tags") key (to_be_bytes w32 row) (take 36 word)) in
    record {
      full_first = ap length front ∙ omega (arith, long_head, length-append head (take 36 word), length-take-le 36 word (omega arith));
      full_second = ap length made_second ∙ omega (arith, long_padding, length-append (drop 36 word) (padding 92), length-drop 36 word);
      whole = ap (λ n. tag_message key row word ++ padding n) long
          ∙ (ap (λ w. head ++ w ++ padding 92) (sym (take-append-drop 36 word))
          ∙ (joined_halves head (take 36 word) (drop 36 word) (padding 92) ∙ ap₂ (λ a b. a ++ b) (sym front) (sym made_second)));
    }
