-- Lists that are made a part at a time.
use Rattle.std.proofs.Common.{◌≡◌, ◌+◌, ◌-◌, ◌*◌, ◌<◌, ◌≤◌, ℕ, zero, suc, List, [], ◌∷◌, ◌++◌, length, map, min, take, drop, replicate, slice_index, slice_index_or, refl, sym, ap, ap₂, ◌∙◌, arith, length-append}
use Rattle.std.specs.Simd.Lanes.{zip2}
use Rattle.std.proofs.lemmas.List.{length-take-le, take_more, take_min, take-take, drop-take, take-append-drop, length-drop, length-map}
use Rattle.std.proofs.lemmas.List.{map-append}
use Rattle.std.proofs.lemmas.Slice.{take-put_mid}
use borrow.Rule.Slice.PartMut.{put_mid}
use Rattle.std.specs.List.{concat}
use Rattle.std.proofs.lemmas.List.{append-nil}
use Rattle.std.proofs.lemmas.List.Folds.{concat-append}
use Rattle.psi_spec.specs.Streams.{block_of}
use Rattle.psi_spec.specs.Deals.{SenderDeal}
use Rattle.psi_spec.specs.Formulas.{code}
use Rattle.psi_spec.specs.Bits.{xor, both}
use Rattle.psi_sender.specs.Answering.{flipped_word, word_tag, bin_list}
use Rattle.psi_spec.proofs.StreamSteps.{block_of-map}
use Rattle.psi_spec.proofs.Lists.{zip2-append}

-- words that are gathered by rows, and changed by what a choice word and codes share
gathered : (choice : List ℕ) (opened : List (List ℕ)) (rows : List ℕ) (codes : List (List ℕ))
    → zip2 (λ old word. xor old (both choice word)) (map (λ row. slice_index_or opened row []) rows) codes ≡ zip2 (flipped_word choice opened) rows codes
gathered choice opened [] codes = refl
gathered choice opened (row ∷ rows) [] = refl
gathered choice opened (row ∷ rows) (code ∷ codes) = ap (λ zs. flipped_word choice opened row code ∷ zs) (gathered choice opened rows codes)

pub changed_as_gathered : (choice : List ℕ) (opened : List (List ℕ)) (rows : List ℕ) (codes words made : List (List ℕ))
    → words ≡ map (λ row. slice_index_or opened row []) rows → made ≡ zip2 (λ old word. xor old (both choice word)) words codes
    → made ≡ zip2 (flipped_word choice opened) rows codes
changed_as_gathered choice opened rows codes words made from_rows changed =
    changed ∙ ap (λ ws. zip2 (λ old word. xor old (both choice word)) ws codes) from_rows ∙ gathered choice opened rows codes

-- the elements up to the end of the next part
pub take_part : {X : Type 0} (xs : List X) (at end next : ℕ) → at ≤ end → end ≡ min (length xs) next
    → take next xs ≡ take at xs ++ take (end - at) (drop at xs)
take_part xs at end next le is =
    let same : min next (length xs) ≡ end = omega arith in
    let whole : at + (end - at) ≡ end = omega arith in
    sym (take_min next xs)
    ∙ (ap (λ n. take n xs) same
    ∙ (sym (take-append-drop at (take end xs))
    ∙ ap₂ (λ x y. x ++ y) (take-take at end xs le) (ap (λ n. drop at (take n xs)) (sym whole) ∙ drop-take at (end - at) xs)))

-- an operator with one first value is a map
pub zip2-replicate : {A B C : Type 0} (f : A → B → C) (n : ℕ) (x : A) (ys : List B) → length ys ≡ n
    → zip2 f (replicate n x) ys ≡ map (f x) ys
zip2-replicate f zero x [] same = refl
zip2-replicate f zero x (y ∷ ys) same = absurd (omega arith)
zip2-replicate f (suc n) x [] same = absurd (omega arith)
zip2-replicate f (suc n) x (y ∷ ys) same = ap (λ zs. f x y ∷ zs) (zip2-replicate f n x ys (omega arith))

-- an operator on what another one makes of the same two lists
pub zip2-nested : {A B C D : Type 0} (f : A → C → D) (g : A → B → C) (xs : List A) (ys : List B)
    → zip2 f xs (zip2 g xs ys) ≡ zip2 (λ x y. f x (g x y)) xs ys
zip2-nested f g [] ys = refl
zip2-nested f g (x ∷ xs) [] = refl
zip2-nested f g (x ∷ xs) (y ∷ ys) = ap (λ zs. f x (g x y) ∷ zs) (zip2-nested f g xs ys)

-- the elements up to the end of a part that was written
pub take_written : {X : Type 0} (xs ys : List X) (at end next : ℕ) → at ≤ end → end ≡ min (length xs) next → length ys ≡ end - at
    → take next (put_mid at (end - at) xs ys) ≡ take at xs ++ ys
take_written xs ys at end next le is long =
    let whole : List _ = put_mid at (end - at) xs ys in
    let same : min next (length whole) ≡ end =
    omega (arith, length-append (take at xs) (ys ++ drop (end - at) (drop at xs)), length-append ys (drop (end - at) (drop at xs)), length-take-le at xs (omega arith), length-drop (end - at) (drop at xs), length-drop at xs) in
    sym (take_min next whole) ∙ (ap (λ n. take n whole) same ∙ take-put_mid at (end - at) xs ys end (omega arith) (omega arith))

-- a list for the bins, part by part
pub bin_list-append : (deal : SenderDeal) (opened : List (List ℕ)) (list : ℕ) (bins more_bins digests more_digests : List (List ℕ)) → length bins ≡ length digests
    → bin_list deal opened list (bins ++ more_bins) (digests ++ more_digests) ≡ bin_list deal opened list bins digests ++ bin_list deal opened list more_bins more_digests
bin_list-append deal opened list bins more_bins digests more_digests same =
    let row : List ℕ → ℕ = λ three. slice_index three list in
    let made = code deal.key (list + 1) in
    ap₂ (zip2 (word_tag deal opened)) (map-append row bins more_bins) (map-append made digests more_digests)
    ∙ zip2-append (word_tag deal opened) (map row bins) (map row more_bins) (map made digests) (map made more_digests)
    (length-map bins row ∙ (same ∙ sym (length-map digests made)))

-- the bytes of one tag more
pub joined_more : (f : List ℕ → List ℕ) (tags : List (List ℕ)) (i : ℕ) (d : List ℕ) → i < length tags
    → concat (map f (take (i + 1) tags)) ≡ concat (map f (take i tags)) ++ f (slice_index_or tags i d)
joined_more f tags i d l =
    ap (λ part. concat (map f part)) (take_more tags i d l)
    ∙ (ap concat (map-append f (take i tags) (slice_index_or tags i d ∷ []))
    ∙ (concat-append (map f (take i tags)) (f (slice_index_or tags i d) ∷ [])
    ∙ ap (λ x. concat (map f (take i tags)) ++ x) (append-nil (f (slice_index_or tags i d)))))

-- the tags of a block, cut to their length
pub block_of-cut : (f : List ℕ → List ℕ) (tags : List (List ℕ)) (block end : ℕ) → end ≡ min (length tags) (1024 * block + 1024)
    → map f (take (end - 1024 * block) (drop (1024 * block) tags)) ≡ block_of (map f tags) block
block_of-cut f tags block end is =
    let start = 1024 * block in
    let count : min 1024 (length (drop start tags)) ≡ end - start = omega (arith, length-drop start tags) in
    ap (λ n. map f (take n (drop start tags))) (sym count)
    ∙ (ap (map f) (take_min 1024 (drop start tags)) ∙ sym (block_of-map f tags block))

pub times_more : (n width : ℕ) → (n + 1) * width ≡ n * width + width
times_more n width = omega arith

-- an operator on what two functions make of one list
pub zip2-maps : {A B C D : Type 0} (f : B → C → D) (g : A → B) (h : A → C) (xs : List A) → zip2 f (map g xs) (map h xs) ≡ map (λ x. f (g x) (h x)) xs
zip2-maps f g h [] = refl
zip2-maps f g h (x ∷ xs) = ap (λ zs. f (g x) (h x) ∷ zs) (zip2-maps f g h xs)

-- two functions that agree everywhere map alike
pub map_alike : {A B : Type 0} (f g : A → B) (xs : List A) → ((x : A) → f x ≡ g x) → map f xs ≡ map g xs
map_alike f g [] same = refl
map_alike f g (x ∷ xs) same = ap₂ (λ y ys. y ∷ ys) (same x) (map_alike f g xs same)
