-- Streams one part on, as at a step of a loop that writes or reads them.
use Rattle.std.proofs.lemmas.Grind.{flat_map-append}
use Rattle.std.proofs.Common.{◌≡◌, ◌+◌, ◌*◌, ◌<◌, ◌≤◌, ℕ, suc, zero, List, [], ◌∷◌, ◌++◌, length, map, take, drop, get_or, refl, sym, ap, ap₂, ◌∙◌, arith, suc-mul}
use Rattle.std.specs.List.{AllByRecursion, concat, range_with_len}
use Rattle.std.proofs.lemmas.List.{append-nil, append_assoc, length-append, take-append-le, drop-append-le, take_all, drop_all, take_more, take-map, drop-map, take-append-drop, length-drop, length-take-le}
use Rattle.std.proofs.Math.Seq.{take-add}
use Rattle.psi_spec.specs.Frames.{layout, column_frame, tags_frame, tags_of}
use Rattle.psi_spec.specs.Streams.{layouts, column_frames, blocks_for, block_of, block_frame, list_frames, lists_frames}

-- ---- one more column

pub column_frames-push : (c : ℕ) (us : List (List ℕ)) (u : List ℕ)
    → layouts (column_frames c (us ++ u ∷ [])) ≡ layouts (column_frames c us) ++ layout (column_frame (c + length us) u)
column_frames-push c [] u =
    let place : c ≡ c + 0 = omega arith in
    append-nil (layout (column_frame c u)) ∙ ap (λ (k : ℕ). layout (column_frame k u)) place
column_frames-push c (v ∷ us) u =
    let place : c + 1 + length us ≡ c + suc (length us) = omega arith in
    let first : List ℕ = layout (column_frame c v) in
    let later : List ℕ = layouts (column_frames (c + 1) us) in
    ap (λ (rest : List ℕ). first ++ rest)
    (column_frames-push (c + 1) us u ∙ ap (λ (k : ℕ). later ++ layout (column_frame k u)) place)
    ∙ sym (append_assoc first later (layout (column_frame (c + suc (length us)) u)))

-- the columns up to one more
pub column_frames-more : (c : ℕ) (us : List (List ℕ)) (i : ℕ) → i < length us
    → layouts (column_frames c (take (i + 1) us)) ≡ layouts (column_frames c (take i us)) ++ layout (column_frame (c + i) (get_or us i []))
column_frames-more c us i l =
    let count : length (take i us) ≡ i = length-take-le i us (omega arith) in
    ap (λ (columns : List (List ℕ)). layouts (column_frames c columns)) (take_more us i [] l)
    ∙ (column_frames-push c (take i us) (get_or us i [])
    ∙ ap (λ (n : ℕ). layouts (column_frames c (take i us)) ++ layout (column_frame (c + n) (get_or us i []))) count)

-- ---- one more list

pub lists_frames-push : (list : ℕ) (ls : List (List (List ℕ))) (tags : List (List ℕ))
    → layouts (lists_frames list (ls ++ tags ∷ [])) ≡ layouts (lists_frames list ls) ++ layouts (list_frames (list + length ls) tags)
lists_frames-push list [] tags =
    let place : list ≡ list + 0 = omega arith in
    flat_map-append layout (list_frames list tags) []
    ∙ append-nil (layouts (list_frames list tags))
    ∙ ap (λ (k : ℕ). layouts (list_frames k tags)) place
lists_frames-push list (x ∷ ls) tags =
    let place : list + 1 + length ls ≡ list + suc (length ls) = omega arith in
    let later : List ℕ = layouts (lists_frames (list + 1) ls) in
    flat_map-append layout (list_frames list x) (lists_frames (list + 1) (ls ++ tags ∷ []))
    ∙ ap (λ (rest : List ℕ). layouts (list_frames list x) ++ rest)
    (lists_frames-push (list + 1) ls tags ∙ ap (λ (k : ℕ). later ++ layouts (list_frames k tags)) place)
    ∙ sym (append_assoc (layouts (list_frames list x)) later (layouts (list_frames (list + suc (length ls)) tags)))
    ∙ ap (λ (front : List ℕ). front ++ layouts (list_frames (list + suc (length ls)) tags))
    (sym (flat_map-append layout (list_frames list x) (lists_frames (list + 1) ls)))

-- the lists up to one more
pub lists_frames-more : (list : ℕ) (ls : List (List (List ℕ))) (i : ℕ) → i < length ls
    → layouts (lists_frames list (take (i + 1) ls)) ≡ layouts (lists_frames list (take i ls)) ++ layouts (list_frames (list + i) (get_or ls i []))
lists_frames-more list ls i l =
    let count : length (take i ls) ≡ i = length-take-le i ls (omega arith) in
    ap (λ (lists : List (List (List ℕ))). layouts (lists_frames list lists)) (take_more ls i [] l)
    ∙ (lists_frames-push list (take i ls) (get_or ls i [])
    ∙ ap (λ (n : ℕ). layouts (lists_frames list (take i ls)) ++ layouts (list_frames (list + n) (get_or ls i []))) count)

-- ---- one more block

-- the frames of a list are those of all its blocks
pub list_frames_are : (list : ℕ) (tags : List (List ℕ))
    → layouts (list_frames list tags) ≡ layouts (map (block_frame list tags) (range_with_len 0 (blocks_for (length tags))))
unfolding list_frames
list_frames_are list tags = refl

-- the frames of blocks from a on, one block more
pub block_frames-more : (list : ℕ) (tags : List (List ℕ)) (a n : ℕ)
    → layouts (map (block_frame list tags) (range_with_len a (n + 1)))
    ≡ layouts (map (block_frame list tags) (range_with_len a n)) ++ layout (block_frame list tags (a + n))
block_frames-more list tags a zero =
    let place : a ≡ a + 0 = omega arith in
    append-nil (layout (block_frame list tags a)) ∙ ap (λ (k : ℕ). layout (block_frame list tags k)) place
block_frames-more list tags a (suc n) =
    let next : suc n + 1 ≡ suc (n + 1) = omega arith in
    let place : a + 1 + n ≡ a + suc n = omega arith in
    let first : List ℕ = layout (block_frame list tags a) in
    let later : List ℕ = layouts (map (block_frame list tags) (range_with_len (a + 1) n)) in
    ap (λ (k : ℕ). layouts (map (block_frame list tags) (range_with_len a k))) next
    ∙ (ap (λ (rest : List ℕ). first ++ rest)
    (block_frames-more list tags (a + 1) n ∙ ap (λ (k : ℕ). later ++ layout (block_frame list tags k)) place)
    ∙ sym (append_assoc first later (layout (block_frame list tags (a + suc n)))))

-- the tags of so many blocks and of one more
pub take-block : (tags : List (List ℕ)) (b : ℕ)
    → take (1024 * (b + 1)) tags ≡ take (1024 * b) tags ++ block_of tags b
take-block tags b =
    let more : 1024 * (b + 1) ≡ 1024 * b + 1024 = omega arith in
    ap (λ (n : ℕ). take n tags) more ∙ take-add (1024 * b) 1024 tags

-- tags behind a block do not count in it
pub block_of-append : (tags more : List (List ℕ)) (b : ℕ) → 1024 * (b + 1) ≤ length tags
    → block_of (tags ++ more) b ≡ block_of tags b
block_of-append tags more b l =
    ap (take 1024) (drop-append-le (1024 * b) tags more (omega arith))
    ∙ take-append-le 1024 (drop (1024 * b) tags) more (omega (arith, length-drop (1024 * b) tags))

block_frames-append : (list : ℕ) (tags more : List (List ℕ)) (a n : ℕ) → 1024 * (a + n) ≤ length tags
    → layouts (map (block_frame list (tags ++ more)) (range_with_len a n))
    ≡ layouts (map (block_frame list tags) (range_with_len a n))
block_frames-append list tags more a zero l = refl
block_frames-append list tags more a (suc n) l =
    ap₂ (λ (block rest : List ℕ). block ++ rest)
    (ap (λ (block : List (List ℕ)). layout (tags_frame list a (concat block)))
    (block_of-append tags more a (omega arith)))
    (block_frames-append list tags more (a + 1) n (omega arith))

-- whole blocks, and then a last one
pub list_frames-append : (list : ℕ) (tags more : List (List ℕ)) (b : ℕ)
    → length tags ≡ 1024 * b → 0 < length more → length more ≤ 1024
    → layouts (list_frames list (tags ++ more)) ≡ layouts (list_frames list tags) ++ layout (tags_frame list b (concat more))
unfolding list_frames
list_frames-append list tags more b whole some few =
    let all : List (List ℕ) = tags ++ more in
    let count : blocks_for (length all) ≡ b + 1 = omega (arith, length-append tags more) in
    let before : b ≡ blocks_for (length tags) = omega arith in
    let behind : drop (1024 * b) all ≡ more =
    drop-append-le (1024 * b) tags more (omega arith)
    ∙ ap (λ (rest : List (List ℕ)). rest ++ more) (drop_all (1024 * b) tags (omega arith)) in
    let from_zero : 0 + b ≡ b = omega arith in
    let last : block_of all b ≡ more = ap (take 1024) behind ∙ take_all 1024 more few in
    ap (λ (n : ℕ). layouts (map (block_frame list all) (range_with_len 0 n))) count
    ∙ (block_frames-more list all 0 b
    ∙ ap₂ (λ (front back : List ℕ). front ++ back)
    (block_frames-append list tags more 0 b (omega arith)
    ∙ ap (λ (n : ℕ). layouts (map (block_frame list tags) (range_with_len 0 n))) before)
    (ap (λ (k : ℕ). layout (block_frame list all k)) from_zero
    ∙ ap (λ (block : List (List ℕ)). layout (tags_frame list b (concat block))) last))

-- ---- tags that are joined

-- the tags of a frame are read again
pub tags_of-concat : (g : ℕ) (tags : List (List ℕ)) → AllByRecursion (λ tag. length tag ≡ g) tags
    → tags_of (length tags) g (concat tags) ≡ tags
tags_of-concat g [] all = refl
tags_of-concat g (tag ∷ tags) all =
    let rest : List ℕ = concat tags in
    let here : take g (tag ++ rest) ≡ tag =
    take-append-le g tag rest (omega (arith, all.0)) ∙ take_all g tag (omega (arith, all.0)) in
    let behind : drop g (tag ++ rest) ≡ rest =
    drop-append-le g tag rest (omega (arith, all.0))
    ∙ ap (λ (xs : List ℕ). xs ++ rest) (drop_all g tag (omega (arith, all.0))) in
    ap₂ (λ (x : List ℕ) (xs : List (List ℕ)). x ∷ xs) here
    (ap (tags_of (length tags) g) behind ∙ tags_of-concat g tags all.1)

pub length-tags_of : (n g : ℕ) (bytes : List ℕ) → length (tags_of n g bytes) ≡ n
length-tags_of zero g bytes = refl
length-tags_of (suc n) g bytes = ap suc (length-tags_of n g (drop g bytes))

-- the tags that bytes are read as have their length, and give the bytes again
pub tags_of_are_long : (n g : ℕ) (bytes : List ℕ) → length bytes ≡ n * g
    → AllByRecursion (λ tag. length tag ≡ g) (tags_of n g bytes)
tags_of_are_long zero g bytes l = tt
tags_of_are_long (suc n) g bytes l =
    let more : suc n * g ≡ n * g + g = suc-mul n g in
    let rest : length (drop g bytes) ≡ n * g = length-drop g bytes ∙ omega arith in
    (length-take-le g bytes (omega arith), tags_of_are_long n g (drop g bytes) rest)

pub concat-tags_of : (n g : ℕ) (bytes : List ℕ) → length bytes ≡ n * g → concat (tags_of n g bytes) ≡ bytes
concat-tags_of zero g [] l = refl
concat-tags_of zero g (byte ∷ bytes) l = absurd (omega arith)
concat-tags_of (suc n) g bytes l =
    let more : suc n * g ≡ n * g + g = suc-mul n g in
    let rest : length (drop g bytes) ≡ n * g = length-drop g bytes ∙ omega arith in
    ap (λ (xs : List ℕ). take g bytes ++ xs) (concat-tags_of n g (drop g bytes) rest) ∙ take-append-drop g bytes

-- the blocks of tags that are each changed are the blocks, changed
pub block_of-map : (f : List ℕ → List ℕ) (tags : List (List ℕ)) (b : ℕ)
    → block_of (map f tags) b ≡ map f (block_of tags b)
block_of-map f tags b =
    ap (take 1024) (drop-map f (1024 * b) tags) ∙ take-map f 1024 (drop (1024 * b) tags)
