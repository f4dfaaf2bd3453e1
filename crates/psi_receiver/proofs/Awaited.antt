-- The frames that a receiver awaits are those of a sender's stream.
use Rattle.std.proofs.Common.{◌≡◌, ◌<◌, ◌≤◌, ◌+◌, ◌-◌, ◌*◌, ◌^◌, ◌∙◌, ℕ, suc, zero, false, List, [], ◌∷◌, ◌++◌, length, map, take, drop, get_or, replicate, min, nat_cmp, IsSorted, refl, sym, ap, ap₂, subst, ⊎_elim, arith, length-append}
use Rattle.std.specs.Cmp.Lexicographic.{slice_cmp}
use Rattle.std.specs.List.{AllByRecursion, concat, flat_map, range_with_len}
use Rattle.std.proofs.lemmas.Bool.{cases_lt}
use Rattle.std.proofs.lemmas.List.{append-nil, drop-append-le, drop-drop, drop_all, get_or-append-add, get_or-take, length-drop, length-take, take-append-le, take_all, take_at}
use Rattle.std.proofs.lemmas.List.Elements.{All-from_recursion, recursion_from_All}
use Rattle.std.proofs.Math.Nat.{mul-le-mul_right}
use Rattle.std.proofs.lemmas.Grind.{flat_map-append}
use Rattle.psi_spec.specs.Frames.{AreBytes, Frame, is_below, layout, receiver_hello, sender_hello, column_frame, tags_frame, values_frame, done_frame, tags_of}
use Rattle.psi_spec.specs.Streams.{layouts, block_frame, blocks_for, list_frames, lists_frames}
use Rattle.psi_spec.specs.TagLists.{IsTagList}
use Rattle.psi_spec.proofs.Frames.{AreBytes-take, none_below_zeros}
use Rattle.psi_spec.proofs.Padding.{take-padded}
use Rattle.psi_spec.proofs.Rising.{IsSorted-append, IsSorted-tail}
use Rattle.psi_spec.proofs.StreamSizes.{length-joined}
use Rattle.psi_spec.proofs.StreamSteps.{concat-tags_of, length-tags_of, list_frames_are, tags_of-concat, tags_of_are_long}
use Rattle.psi_frames.specs.declared.expect.Expect.TheVariants as expect
use Rattle.psi_frames.specs.Expected.{IsValid}
use Rattle.psi_frames.specs.Script.{AreAwaited, Script, owed_for}
use Rattle.psi_frames.specs.Valid.{HasParts}
use Rattle.psi_frames.proofs.Parts.{valid_by_parts, valid_from_parts}
use Rattle.psi_receiver.specs.Script.{awaits_blocks, awaits_lists, floor_after, no_floor, tags_at}

-- ---- rising tags

abbrev Rising : List (List ℕ) → Type 0
Rising xs = IsSorted (slice_cmp nat_cmp) xs

Rising-take : (n : ℕ) (xs : List (List ℕ)) → Rising xs → Rising (take n xs)
Rising-take n xs up k d low within =
    ap₂ is_below (get_or-take n xs (k + 1) d (omega (arith, length-take n xs))) (get_or-take n xs k d (omega (arith, length-take n xs)))
    ∙ up k d low (omega (arith, length-take n xs))

-- what rises, from a place on
Rising-from : (k : ℕ) (xs : List (List ℕ)) → k < length xs → Rising xs → Rising (get_or xs k [] ∷ drop (suc k) xs)
Rising-from k [] l up = absurd (omega arith)
Rising-from zero (x ∷ xs) l up = up
Rising-from (suc k) (x ∷ xs) l up = Rising-from k xs (omega arith) (IsSorted-tail x xs up)

Rising-one : (x : List ℕ) → Rising (x ∷ [])
Rising-one x k d low within = absurd (omega arith)

-- the tags behind a block rise from its last
behind_block : (n : ℕ) (tags : List (List ℕ)) → n ≡ min 1024 (length tags) → 0 < length tags → Rising tags
    → Rising (get_or (take 1024 tags) (n - 1) [] ∷ drop 1024 tags)
behind_block n tags is some up =
    let last : get_or (take 1024 tags) (n - 1) [] ≡ get_or tags (n - 1) [] = get_or-take 1024 tags (n - 1) [] (omega arith) in
    let behind : drop (suc (n - 1)) tags ≡ drop 1024 tags =
    ⊎_elim
    (λ (l : length tags < 1024). drop_all (suc (n - 1)) tags (omega arith) ∙ sym (drop_all 1024 tags (omega arith)))
    (λ (l : 1024 ≤ length tags). let same : suc (n - 1) ≡ 1024 = omega arith in ap (λ (k : ℕ). drop k tags) same)
    (cases_lt (length tags) 1024) in
    subst Rising (ap₂ (λ (x : List ℕ) (xs : List (List ℕ)). x ∷ xs) (sym last) behind) (Rising-from (n - 1) tags (omega arith) up)

pub take-zeros : (width n : ℕ) → width ≤ n → take width (replicate {A = ℕ} n 0) ≡ replicate width 0
take-zeros zero n l = refl
take-zeros (suc width) zero l = absurd (omega arith)
take-zeros (suc width) (suc n) l = ap (λ (xs : List ℕ). 0 ∷ xs) (take-zeros width n (omega arith))

-- tags of one length that rise, rise from zeros
from_zeros : (width : ℕ) (tags : List (List ℕ)) → width ≤ 16 → AllByRecursion (λ tag. length tag ≡ width) tags → Rising tags
    → Rising (take width no_floor ∷ tags)
from_zeros width [] l all up = Rising-one (take width no_floor)
from_zeros width (tag ∷ tags) l all up = λ k d low within. at k d within
  where
    at : (k : ℕ) (d : List ℕ) → k + 1 < length (take width no_floor ∷ tag ∷ tags)
        → is_below (get_or (take width no_floor ∷ tag ∷ tags) (k + 1) d) (get_or (take width no_floor ∷ tag ∷ tags) k d) ≡ false
    at zero d within = ap (is_below tag) (take-zeros width 16 l) ∙ none_below_zeros width tag all.0
    at (suc k) d within =
        let next : suc k + 1 ≡ suc (k + 1) = omega arith in
        ap (λ (n : ℕ). is_below (get_or (take width no_floor ∷ tag ∷ tags) n d) (get_or (tag ∷ tags) k d)) next ∙ up k d (omega arith) (omega arith)

module _ (P : List ℕ → Type 0) where
  pub all-take : (n : ℕ) (xs : List (List ℕ)) → AllByRecursion P xs → AllByRecursion P (take n xs)
  all-take zero xs all = tt
  all-take (suc n) [] all = tt
  all-take (suc n) (x ∷ xs) all = (all.0, all-take n xs all.1)

  pub all-drop : (n : ℕ) (xs : List (List ℕ)) → AllByRecursion P xs → AllByRecursion P (drop n xs)
  all-drop zero xs all = all
  all-drop (suc n) [] all = tt
  all-drop (suc n) (x ∷ xs) all = all-drop n xs all.1

  all-append : (xs ys : List (List ℕ)) → AllByRecursion P xs → AllByRecursion P ys → AllByRecursion P (xs ++ ys)
  all-append [] ys all more = more
  all-append (x ∷ xs) ys all more = (all.0, all-append xs ys all.1 more)

  all-at : (xs : List (List ℕ)) (k : ℕ) → k < length xs → AllByRecursion P xs → P (get_or xs k [])
  all-at [] k l all = absurd (omega arith)
  all-at (x ∷ xs) zero l all = all.0
  all-at (x ∷ xs) (suc k) l all = all-at xs k (omega arith) all.1

-- the floor of the next block is the last tag of this one
floor_is : (width n list block : ℕ) (bytes : List ℕ) → 0 < n → length bytes ≡ n * width
    → take width (floor_after width n (tags_frame list block bytes)) ≡ get_or (tags_of n width bytes) (n - 1) []
floor_is width n list block bytes some long =
    let tags : List (List ℕ) = tags_of n width bytes in
    take-padded width (get_or tags (n - 1) [])
    (all-at (λ tag. length tag ≡ width) tags (n - 1) (omega (arith, length-tags_of n width bytes)) (tags_of_are_long n width bytes long))

-- ---- the frames of lists

-- the frames of so many blocks of a list, from this block on, and their tags
abbrev pub block_list : ℕ → ℕ → ℕ → List (List ℕ) → List Frame
block_list list block zero tags = []
block_list list block (suc left) tags =
    tags_frame list block (concat (take 1024 tags)) ∷ block_list list (block + 1) left (drop 1024 tags)

-- the frames of lists, from this number on
abbrev pub lists_list : ℕ → List (List (List ℕ)) → List Frame
lists_list list [] = []
lists_list list (tags ∷ lists) = block_list list 0 (blocks_for (length tags)) tags ++ lists_list (list + 1) lists

block_list-bytes : (list block left : ℕ) (tags : List (List ℕ))
    → layouts (block_list list block left (drop (1024 * block) tags)) ≡ layouts (map (block_frame list tags) (range_with_len block left))
block_list-bytes list block zero tags = refl
block_list-bytes list block (suc left) tags =
    let next : 1024 * block + 1024 ≡ 1024 * (block + 1) = omega arith in
    ap (λ (ts : List (List ℕ)). layout (block_frame list tags block) ++ layouts (block_list list (block + 1) left ts))
    (drop-drop 1024 (1024 * block) tags ∙ ap (λ (k : ℕ). drop k tags) next)
    ∙ ap (λ (xs : List ℕ). layout (block_frame list tags block) ++ xs) (block_list-bytes list (block + 1) left tags)

pub block_list-frames : (list : ℕ) (tags : List (List ℕ))
    → layouts (block_list list 0 (blocks_for (length tags)) tags) ≡ layouts (list_frames list tags)
block_list-frames list tags =
    block_list-bytes list 0 (blocks_for (length tags)) tags ∙ sym (list_frames_are list tags)

pub lists_list-bytes : (list : ℕ) (lists : List (List (List ℕ))) → flat_map layout (lists_list list lists) ≡ layouts (lists_frames list lists)
lists_list-bytes list [] = refl
lists_list-bytes list (tags ∷ lists) =
    flat_map-append layout (block_list list 0 (blocks_for (length tags)) tags) (lists_list (list + 1) lists)
    ∙ ap₂ (λ (a b : List ℕ). a ++ b) (block_list-frames list tags) (lists_list-bytes (list + 1) lists)
    ∙ sym (flat_map-append layout (list_frames list tags) (lists_frames (list + 1) lists))

-- ---- they are awaited

few_bytes : (n width : ℕ) → n ≤ 1024 → width ≤ 16 → 5 + n * width < 2 ^ 32
few_bytes n width l w =
    let most : n * width ≤ 1024 * width = mul-le-mul_right width l in omega (arith, most)

block_valid : (width count list block : ℕ) (floor : List ℕ) (tags : List (List ℕ)) → width ≤ 16 → block < 2 ^ 32
    → length tags ≡ count - 1024 * block → AllByRecursion (λ tag. length tag ≡ width) tags → Rising (take width floor ∷ tags)
    → IsValid (expect.Tags list block (tags_at count block) width floor) (tags_frame list block (concat (take 1024 tags)))
block_valid width count list block floor tags w small many all up =
    let front : List (List ℕ) = take 1024 tags in
    let n : ℕ = tags_at count block in
    let long : length front ≡ n = omega (arith, length-take 1024 tags) in
    let each = all-take (λ tag. length tag ≡ width) 1024 tags all in
    let again : tags_of n width (concat front) ≡ front = ap (λ (k : ℕ). tags_of k width (concat front)) (sym long) ∙ tags_of-concat width front each in
    valid_from_parts (expect.Tags list block n width floor) (tags_frame list block (concat front)) (few_bytes n width (omega arith) w) small
    (record {
      list_is = refl;
      block_is = refl;
      long = length-joined width front each ∙ ap (λ (k : ℕ). k * width) long;
      rising = subst Rising (ap (λ (ts : List (List ℕ)). take width floor ∷ ts) (sym again)) (Rising-take 1025 (take width floor ∷ tags) up);
    })

blocks_awaited : (width count list block left : ℕ) (floor : List ℕ) (rest : Script) (tags : List (List ℕ)) (frames : List Frame)
    → width ≤ 16 → block + left < 2 ^ 32 → length tags ≡ count - 1024 * block → AllByRecursion (λ tag. length tag ≡ width) tags
    → 1024 * left < length tags + 1024 → Rising (take width floor ∷ tags) → AreAwaited rest frames
    → AreAwaited (awaits_blocks width count list block left floor rest) (block_list list block left tags ++ frames)
blocks_awaited width count list block zero floor rest tags frames w small many all whole up later = later
blocks_awaited width count list block (suc left) floor rest tags frames w small many all whole up later =
    let n : ℕ = tags_at count block in
    let front : List (List ℕ) = take 1024 tags in
    let long : length front ≡ n = omega (arith, length-take 1024 tags) in
    let each = all-take (λ tag. length tag ≡ width) 1024 tags all in
    let again : tags_of n width (concat front) ≡ front = ap (λ (k : ℕ). tags_of k width (concat front)) (sym long) ∙ tags_of-concat width front each in
    let next : List ℕ = floor_after width n (tags_frame list block (concat front)) in
    let last : take width next ≡ get_or front (n - 1) [] =
    floor_is width n list block (concat front) (omega arith) (length-joined width front each ∙ ap (λ (k : ℕ). k * width) long)
    ∙ ap (λ (ts : List (List ℕ)). get_or ts (n - 1) []) again in (
      block_valid width count list block floor tags w (omega arith) many all up,
      blocks_awaited width count list (block + 1) left next rest (drop 1024 tags) frames w (omega arith)
          (length-drop 1024 tags ∙ omega arith) (all-drop (λ tag. length tag ≡ width) 1024 tags all) (omega (arith, length-drop 1024 tags))
          (subst (λ (x : List ℕ). Rising (x ∷ drop 1024 tags)) (sym last)
          (behind_block n tags (omega arith) (omega arith) (IsSorted-tail (take width floor) tags up))) later,
    )

pub lists_awaited : (width count list left : ℕ) (lists : List (List (List ℕ))) → width ≤ 16 → count < 2 ^ 32 → length lists ≡ left
    → AllByRecursion (IsTagList width count) lists → AreAwaited (awaits_lists width count list left) (lists_list list lists)
lists_awaited width count list zero [] w few same each = tt
lists_awaited width count list zero (tags ∷ lists) w few same each = absurd (omega arith)
lists_awaited width count list (suc left) [] w few same each = absurd (omega arith)
lists_awaited width count list (suc left) (tags ∷ lists) w few same each =
    let is : IsTagList width count tags = each.0 in
    let all = recursion_from_All (λ tag. length tag ≡ width) tags is.lengths in
    let rest : Script = awaits_lists width count (list + 1) left in
    subst (λ (n : ℕ). AreAwaited (awaits_blocks width count list 0 (blocks_for count) no_floor rest) (block_list list 0 (blocks_for n) tags ++ lists_list (list + 1) lists))
    (sym is.size)
    (blocks_awaited width count list 0 (blocks_for count) no_floor rest tags (lists_list (list + 1) lists) w (omega arith) (omega (arith, is.size)) all
    (omega (arith, is.size)) (from_zeros width tags w all is.rises) (lists_awaited width count (list + 1) left lists w few (omega arith) each.1))

-- ---- what is owed for them

blocks_owed : (width count list block left : ℕ) (floor : List ℕ) (rest : Script) (tags : List (List ℕ)) (frames : List Frame)
    → owed_for (awaits_blocks width count list block left floor rest) (block_list list block left tags ++ frames) ≡ owed_for rest frames
blocks_owed width count list block zero floor rest tags frames = refl
blocks_owed width count list block (suc left) floor rest tags frames =
    blocks_owed width count list (block + 1) left (floor_after width (tags_at count block) (tags_frame list block (concat (take 1024 tags)))) rest (drop 1024 tags) frames

pub lists_owed : (width count list left : ℕ) (lists : List (List (List ℕ))) → length lists ≡ left → AllByRecursion (IsTagList width count) lists
    → owed_for (awaits_lists width count list left) (lists_list list lists) ≡ layout done_frame
lists_owed width count list zero [] same each = append-nil (layout done_frame)
lists_owed width count list zero (tags ∷ lists) same each = absurd (omega arith)
lists_owed width count list (suc left) [] same each = absurd (omega arith)
lists_owed width count list (suc left) (tags ∷ lists) same each =
    let is : IsTagList width count tags = each.0 in
    let rest : Script = awaits_lists width count (list + 1) left in
    ap (λ (n : ℕ). owed_for (awaits_blocks width count list 0 (blocks_for count) no_floor rest) (block_list list 0 (blocks_for n) tags ++ lists_list (list + 1) lists)) is.size
    ∙ blocks_owed width count list 0 (blocks_for count) no_floor rest tags (lists_list (list + 1) lists)
    ∙ lists_owed width count (list + 1) left lists (omega arith) each.1

-- ---- and nothing else is

pub bytes-left : (a b : List ℕ) → AreBytes (a ++ b) → AreBytes a
bytes-left a b h = subst AreBytes (take_at a b (length a) refl) (AreBytes-take (length a) (a ++ b) h)

pub bytes-right : (a b : List ℕ) → AreBytes (a ++ b) → AreBytes b
bytes-right a b h = λ i. subst (λ (x : ℕ). x < 2 ^ 8) (get_or-append-add a b i 0) (h (length a + i))

-- the tags of a frame that may come
record WereTags (n width list block : ℕ) (floor : List ℕ) (f : Frame) : Type 0 where
  bytes : List ℕ
  frame_is : f ≡ tags_frame list block bytes
  long : length bytes ≡ n * width
  rises : Rising (take width floor ∷ tags_of n width bytes)

tags_read : (n width list block : ℕ) (floor : List ℕ) (f : Frame) → n ≤ 1024 → width ≤ 16 → AreBytes (layout f)
    → IsValid (expect.Tags list block n width floor) f → WereTags n width list block floor f
tags_read n width list block floor f few w small valid =
    by_parts f ((valid_by_parts (expect.Tags list block n width floor) f small (few_bytes n width few w)).0 valid).1
  where
    by_parts : (g : Frame) → HasParts (expect.Tags list block n width floor) g → WereTags n width list block floor g
    by_parts (tags_frame of_list of_block bytes) parts = record {
      bytes = bytes;
      frame_is = ap₂ (λ (l b : ℕ). tags_frame l b bytes) parts.list_is parts.block_is;
      long = parts.long;
      rises = parts.rising;
    }
    by_parts (receiver_hello id session count) parts = absurd parts
    by_parts (sender_hello id session count) parts = absurd parts
    by_parts (column_frame index bytes) parts = absurd parts
    by_parts (values_frame block values) parts = absurd parts
    by_parts done_frame parts = absurd parts

-- the blocks of a list that came, and the frames after them
record WereBlocks (width count list block left : ℕ) (floor : List ℕ) (rest : Script) (frames : List Frame) : Type 0 where
  tags : List (List ℕ)
  later : List Frame
  frames_are : frames ≡ block_list list block left tags ++ later
  many : length tags ≡ count - 1024 * block
  all : AllByRecursion (λ tag. length tag ≡ width) tags
  rises : Rising (take width floor ∷ tags)
  due : AreAwaited rest later

-- a first block and the tags of the later ones part again
block_front : (n : ℕ) (first more : List (List ℕ)) (left : ℕ) → length first ≡ n → length more ≡ left - 1024 → n ≡ min 1024 left
    → take 1024 (first ++ more) ≡ first
block_front n first [] left long many is = ap (take 1024) (append-nil first) ∙ take_all 1024 first (omega arith)
block_front n first (x ∷ more) left long many is = take-append-le 1024 first (x ∷ more) (omega arith) ∙ take_all 1024 first (omega arith)

block_back : (n : ℕ) (first more : List (List ℕ)) (left : ℕ) → length first ≡ n → length more ≡ left - 1024 → n ≡ min 1024 left
    → drop 1024 (first ++ more) ≡ more
block_back n first [] left long many is = ap (drop 1024) (append-nil first) ∙ drop_all 1024 first (omega arith)
block_back n first (x ∷ more) left long many is =
    drop-append-le 1024 first (x ∷ more) (omega arith) ∙ ap (λ (xs : List (List ℕ)). xs ++ x ∷ more) (drop_all 1024 first (omega arith))

blocks_read : (width count list block left : ℕ) (floor : List ℕ) (rest : Script) (frames : List Frame) → width ≤ 16
    → count - 1024 * block ≤ 1024 * left → 1024 * left < count - 1024 * block + 1024 → AreBytes (flat_map layout frames)
    → AreAwaited (awaits_blocks width count list block left floor rest) frames
    → WereBlocks width count list block left floor rest frames
blocks_read width count list block zero floor rest frames w most least small due =
    record { tags = []; later = frames; frames_are = refl; many = omega arith; all = tt; rises = Rising-one (take width floor); due = due }
blocks_read width count list block (suc left) floor rest [] w most least small due = absurd due
blocks_read width count list block (suc left) floor rest (f ∷ frames) w most least small due =
    let n : ℕ = tags_at count block in
    let were = tags_read n width list block floor f (omega arith) w (bytes-left (layout f) (flat_map layout frames) small) due.0 in
    let first : List (List ℕ) = tags_of n width were.bytes in
    let long : length first ≡ n = length-tags_of n width were.bytes in
    let next : List ℕ = floor_after width n f in
    let later : WereBlocks width count list (block + 1) left next rest frames =
    blocks_read width count list (block + 1) left next rest frames w (omega arith) (omega arith)
    (bytes-right (layout f) (flat_map layout frames) small) due.1 in
    let last : take width next ≡ get_or first (n - 1) [] =
    ap (λ (g : Frame). take width (floor_after width n g)) were.frame_is ∙ floor_is width n list block were.bytes (omega arith) were.long in
    let place : n ≡ suc (n - 1) = omega arith in
    let at_last : take width next ≡ get_or (take width floor ∷ first) n [] =
    last ∙ ap (λ (k : ℕ). get_or (take width floor ∷ first) k []) (sym place) in
    let rest_many : length later.tags ≡ count - 1024 * block - 1024 = later.many ∙ omega arith in
    let front : take 1024 (first ++ later.tags) ≡ first = block_front n first later.tags (count - 1024 * block) long rest_many refl in
    let back : drop 1024 (first ++ later.tags) ≡ later.tags = block_back n first later.tags (count - 1024 * block) long rest_many refl in
    let joined : concat (take 1024 (first ++ later.tags)) ≡ were.bytes = ap (λ (ts : List (List ℕ)). concat ts) front ∙ concat-tags_of n width were.bytes were.long in
    let above : length (take width floor ∷ first) ≡ n + 1 = omega (arith, long) in
    record {
      tags = first ++ later.tags;
      later = later.later;
      frames_are = ap₂ (λ (g : Frame) (gs : List Frame). g ∷ gs)
          (were.frame_is ∙ ap (tags_frame list block) (sym joined))
          (later.frames_are ∙ ap (λ (ts : List (List ℕ)). block_list list (block + 1) left ts ++ later.later) (sym back));
      many = length-append first later.tags ∙ omega (arith, long, later.many);
      all = all-append (λ tag. length tag ≡ width) first later.tags (tags_of_are_long n width were.bytes were.long) later.all;
      rises = IsSorted-append (take width floor ∷ first) later.tags n [] above were.rises
          (subst (λ (x : List ℕ). Rising (x ∷ later.tags)) at_last later.rises);
      due = later.due;
    }

-- the lists that came
pub record WereLists (width count list left : ℕ) (frames : List Frame) : Type 0 where
  pub lists : List (List (List ℕ))
  pub frames_are : frames ≡ lists_list list lists
  pub many : length lists ≡ left
  pub each : AllByRecursion (IsTagList width count) lists

pub lists_read : (width count list left : ℕ) (frames : List Frame) → width ≤ 16 → AreBytes (flat_map layout frames)
    → AreAwaited (awaits_lists width count list left) frames → WereLists width count list left frames
lists_read width count list zero [] w small due = record { lists = []; frames_are = refl; many = refl; each = tt }
lists_read width count list zero (f ∷ frames) w small due = absurd due
lists_read width count list (suc left) frames w small due =
    let rest : Script = awaits_lists width count (list + 1) left in
    let first : WereBlocks width count list 0 (blocks_for count) no_floor rest frames =
    blocks_read width count list 0 (blocks_for count) no_floor rest frames w (omega arith) (omega arith) small due in
    let behind : AreBytes (flat_map layout first.later) =
    bytes-right (flat_map layout (block_list list 0 (blocks_for count) first.tags)) (flat_map layout first.later)
    (subst AreBytes (ap (flat_map layout) first.frames_are ∙ flat_map-append layout (block_list list 0 (blocks_for count) first.tags) first.later) small) in
    let later : WereLists width count (list + 1) left first.later = lists_read width count (list + 1) left first.later w behind first.due in
    let size : length first.tags ≡ count = first.many ∙ omega arith in
    record {
      lists = first.tags ∷ later.lists;
      frames_are = first.frames_are
          ∙ ap₂ (λ (n : ℕ) (gs : List Frame). block_list list 0 (blocks_for n) first.tags ++ gs) (sym size) later.frames_are;
      many = ap suc later.many;
      each = (
        record {
          size = size;
          lengths = All-from_recursion (λ tag. length tag ≡ width) first.tags first.all;
          rises = IsSorted-tail (take width no_floor) first.tags first.rises;
        },
        later.each,
      );
    }
