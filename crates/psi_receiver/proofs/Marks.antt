-- Marks that blocks of tags set, and what they come to frame by frame.
use Rattle.std.proofs.Common.{◌≡◌, ◌+◌, ◌-◌, ◌*◌, ◌/◌, ◌<◌, ◌≤◌, ◌==◌, ℕ, suc, zero, Bool, true, false, cond, ◌||◌, List, [], ◌∷◌, ◌++◌, length, take, replicate, get_or, nat_cmp, IsSorted, Some, refl, sym, ap, ap₂, subst, ⊎_elim, ◌∙◌, arith, append_assoc}
use Rattle.std.specs.Cmp.Lexicographic.{slice_cmp}
use Rattle.std.specs.List.{slice_get, slice_set}
use Rattle.std.specs.Str.{bytes_eq}
use Rattle.std.proofs.lemmas.Bool.{cases_eq, cases_lt, eq-eqb, ne_eqb}
use Rattle.std.proofs.lemmas.Option.{same_Some}
use Rattle.std.proofs.lemmas.List.{append-nil, get_or-map, get_or_default}
use Rattle.std.proofs.lemmas.List.Elements.{All-from_recursion, All-get_or}
use Rattle.std.proofs.lemmas.List.Folds.{list_any-append, list_any_at}
use Rattle.std.proofs.lemmas.List.Sorted.{sorted_far}
use Rattle.psi_spec.specs.Frames.{Frame, is_below, receiver_hello, sender_hello, column_frame, tags_frame, values_frame, done_frame, tags_of}
use Rattle.psi_spec.specs.Formulas.{padded}
use Rattle.psi_spec.proofs.StreamSteps.{length-tags_of, tags_of_are_long}
use Rattle.std.proofs.lemmas.Nat.{div-mul-add}
use Rattle.std.proofs.lemmas.Map.Views.{Contains-from_any}
use Rattle.psi_spec.proofs.Rising.{IsSorted-tail}
use Rattle.psi_spec.proofs.Tags.{bytes_eq-same, same_from_bytes_eq}
use Rattle.psi_receiver.specs.Marking.{IsBlock, PartsAt, first_in, is_among, last_in, not_above, padded_tags, tags_in}
use Rattle.psi_receiver.specs.Own.{AreMarked, AreUnmarked, IsMarkedBy, IsMerging, Marked, tags_for}
use Rattle.psi_receiver.specs.Script.{floor_after, no_floor}
use Rattle.psi_receiver.proofs.Awaited.{take-zeros}
use Rattle.psi_spec.proofs.Padding.{take-padded}
use Rattle.psi_receiver.proofs.Merging.{above_later, is_below-padded, length-padded_tags, one_of_two, or_kept, or_true, padded_tags_rise, passed_later, place_is_count, weak}

-- ---- a merge of blocks

-- any merge starts at the first place
pub merging_starts : (floor : List ℕ) (m : Marked) → IsMerging floor 0 m
merging_starts floor m = record { within = omega arith; passed = λ i l. absurd (omega arith); found = λ i l. absurd (omega arith) }

-- a merge goes on with a tag that is not below its floor
pub merging_goes_on : (floor first : List ℕ) (from : ℕ) (m : Marked) → is_below first floor ≡ false → IsMerging floor from m
    → IsMerging first from m
merging_goes_on floor first from m up at = record {
  within = at.within;
  passed = λ i l. passed_later floor first (get_or m.tags i []) (at.passed i l) up;
  found = λ i l same. at.found i l
      (one_of_two (get_or m.tags i []) floor (ap (λ (x : List ℕ). is_below x floor) same ∙ up) (at.passed i l));
}

-- the tags of a block are sorted, padded
padded_tags_are_sorted : (g : ℕ) (bytes : List ℕ) → IsBlock g bytes → IsSorted (slice_cmp nat_cmp) (padded_tags g bytes)
padded_tags_are_sorted g bytes is k d low within =
    let tags : List (List ℕ) = padded_tags g bytes in
    ap₂ is_below (get_or_default tags (k + 1) d [] within) (get_or_default tags k d [] (omega arith))
    ∙ padded_tags_rise g bytes k is (omega (arith, length-padded_tags g bytes))

none_below_first : (g : ℕ) (bytes : List ℕ) (k : ℕ) → IsBlock g bytes → k < length (padded_tags g bytes)
    → is_below (get_or (padded_tags g bytes) k []) (first_in g bytes) ≡ false
none_below_first g bytes k is l =
    sorted_far is_below weak (padded_tags g bytes) (padded_tags_are_sorted g bytes is) 0 k [] (omega arith) l

-- an own tag before the place of a merge is marked where it is among the tags of the next block
marked_before : (g from : ℕ) (bytes : List ℕ) (m : Marked) (i : ℕ) → IsBlock g bytes → IsMerging (first_in g bytes) from m → i < from
    → is_among (padded_tags g bytes) (get_or m.tags i []) ≡ true → get_or m.hits i false ≡ true
marked_before g from bytes m i is at l among =
    let tags : List (List ℕ) = padded_tags g bytes in
    let x : List ℕ = get_or m.tags i [] in
    let here = Contains-from_any same_from_bytes_eq x tags among in
    let level : is_below x (first_in g bytes) ≡ false =
    ap (λ (y : List ℕ). is_below y (first_in g bytes)) (sym here.2 ∙ get_or_default tags here.0 x [] here.1)
    ∙ none_below_first g bytes here.0 is here.1 in
    at.found i l (one_of_two x (first_in g bytes) level (at.passed i l))

-- a block that is merged from a place on marks all own tags that are among its tags
pub marked_everywhere : (g from : ℕ) (bytes : List ℕ) (m : Marked) (hits : List Bool) → IsBlock g bytes → IsMerging (first_in g bytes) from m
    → ((i : ℕ) → i < from → get_or hits i false ≡ get_or m.hits i false)
    → ((i : ℕ) → from ≤ i → i < length m.tags
    → get_or hits i false ≡ (get_or m.hits i false || is_among (padded_tags g bytes) (get_or m.tags i [])))
    → (i : ℕ) → i < length m.tags
    → get_or hits i false ≡ (get_or m.hits i false || is_among (padded_tags g bytes) (get_or m.tags i []))
marked_everywhere g from bytes m hits is at kept marked i l = ⊎_elim
    (λ (early : i < from).
    kept i early
    ∙ or_kept (get_or m.hits i false) (is_among (padded_tags g bytes) (get_or m.tags i [])) (marked_before g from bytes m i is at early))
    (λ (late : from ≤ i). marked i late l)
    (cases_lt i from)

-- own tags that rise are parted by the number of those that are not above a tag
parted : (tag : List ℕ) (own : List (List ℕ)) → IsSorted (slice_cmp nat_cmp) own → (at : ℕ) × PartsAt tag own at
parted tag [] up = (0, record { within = omega arith; before = λ i l. absurd (omega arith); behind = λ i l w. absurd (omega arith) })
parted tag (x ∷ own) up = by_case (is_below tag x) refl (parted tag own (IsSorted-tail x own up))
  where
    by_case : (b : Bool) → is_below tag x ≡ b → (at : ℕ) × PartsAt tag own at → (at : ℕ) × PartsAt tag (x ∷ own) at
    by_case true e later = (
      0,
      record {
        within = omega arith;
        before = λ i l. absurd (omega arith);
        behind = λ i l w. above_later (x ∷ own) tag 0 i up (omega arith) w e;
      },
    )
    by_case false e later = (
      suc later.0,
      record {
        within = omega (arith, later.1.within);
        before = λ i l. before i l;
        behind = λ i l w. behind i l w;
      },
    )
      where
        before : (i : ℕ) → i < suc later.0 → is_below tag (get_or (x ∷ own) i []) ≡ false
        before zero l = e
        before (suc i) l = later.1.before i (omega arith)

        behind : (i : ℕ) → suc later.0 ≤ i → i < length (x ∷ own) → is_below tag (get_or (x ∷ own) i []) ≡ true
        behind zero l w = absurd (omega arith)
        behind (suc i) l w = later.1.behind i (omega arith) (omega arith)

pub parts_at_count : (tag : List ℕ) (own : List (List ℕ)) → IsSorted (slice_cmp nat_cmp) own → PartsAt tag own (not_above tag own)
parts_at_count tag own up =
    let place = parted tag own up in
    subst (PartsAt tag own) (place_is_count tag own place.0 place.1) place.1

-- behind a block that was merged the merge stands at its last tag
pub merging_after : (g : ℕ) (bytes : List ℕ) (m : Marked) (hits : List Bool) → IsBlock g bytes → IsSorted (slice_cmp nat_cmp) m.tags
    → ((i : ℕ) → i < length m.tags
    → get_or hits i false ≡ (get_or m.hits i false || is_among (padded_tags g bytes) (get_or m.tags i [])))
    → IsMerging (last_in g bytes) (not_above (last_in g bytes) m.tags) (record { tags = m.tags; hits = hits })
merging_after g bytes m hits is up marked =
    let tags : List (List ℕ) = padded_tags g bytes in
    let last : List ℕ = last_in g bytes in
    let parts : PartsAt last m.tags (not_above last m.tags) = parts_at_count last m.tags up in
    record {
      within = parts.within;
      passed = parts.before;
      found = λ i l same.
          marked i (omega (arith, parts.within))
          ∙ sym (or_true (get_or m.hits i false) (is_among tags (get_or m.tags i []))
          (list_any_at (bytes_eq (get_or m.tags i [])) tags (tags_in g bytes - 1) [] (omega (arith, is.some, length-padded_tags g bytes))
          (bytes_eq-same (get_or m.tags i []) last same)));
    }

-- ---- blocks of frames

-- the bytes of a frame of so many tags, which rise from a floor, are a block
module _ (width n : ℕ) (low bytes : List ℕ) (some : 1 ≤ width) (long : length bytes ≡ n * width)
    (rises : IsSorted (slice_cmp nat_cmp) (low ∷ tags_of n width bytes)) where
  pub tags_in_are : tags_in width bytes ≡ n
  tags_in_are =
      let exact : n * width ≡ n * width + 0 = omega arith in
      ap (λ (k : ℕ). k / width) (long ∙ exact) ∙ div-mul-add n width 0 (omega arith)

  pub frame_is_block : 1 ≤ n → n ≤ 1024 → IsBlock width bytes
  frame_is_block least most = record {
    whole = long ∙ ap (λ (k : ℕ). k * width) (sym tags_in_are);
    some = omega (arith, tags_in_are);
    few = omega (arith, tags_in_are);
    rises = subst (λ (k : ℕ). IsSorted (slice_cmp nat_cmp) (tags_of k width bytes)) (sym tags_in_are) (IsSorted-tail low (tags_of n width bytes) rises);
  }

  -- its first tag is not below the floor
  pub first_above_floor : 1 ≤ n → length low ≡ width → is_below (first_in width bytes) (padded width low) ≡ false
  first_above_floor least size =
      let first : List ℕ = get_or (tags_of n width bytes) 0 [] in
      let many : length (tags_of n width bytes) ≡ n = length-tags_of n width bytes in
      let first_long : length first ≡ width =
      All-get_or (λ tag. length tag ≡ width) (tags_of n width bytes) 0 [] (omega (arith, many))
      (All-from_recursion (λ tag. length tag ≡ width) (tags_of n width bytes) (tags_of_are_long n width bytes long)) in
      ap (λ (x : List ℕ). is_below x (padded width low))
      (get_or-map (padded width) (tags_of (tags_in width bytes) width bytes) 0 [] [] (omega (arith, tags_in_are, length-tags_of (tags_in width bytes) width bytes))
      ∙ ap (λ (k : ℕ). padded width (get_or (tags_of k width bytes) 0 [])) tags_in_are)
      ∙ is_below-padded width first low (first_long ∙ sym size)
      ∙ rises 0 [] (omega arith) (omega (arith, many))

  -- and its last tag is the floor of the next
  pub last_is_floor : (list block : ℕ) → 1 ≤ n → last_in width bytes ≡ floor_after width n (tags_frame list block bytes)
  last_is_floor list block least =
      get_or-map (padded width) (tags_of (tags_in width bytes) width bytes) (tags_in width bytes - 1) [] []
      (omega (arith, tags_in_are, length-tags_of (tags_in width bytes) width bytes))
      ∙ ap (λ (k : ℕ). padded width (get_or (tags_of k width bytes) (k - 1) [])) tags_in_are

-- the floor that a list rises from, and the last tag of a block, are padded
pub no_floor_is_padded : (width : ℕ) → width ≤ 16 → padded width (take width no_floor) ≡ no_floor
no_floor_is_padded width w =
    let all : width + (16 - width) ≡ 16 = omega arith in
    ap (λ (zeros : List ℕ). zeros ++ replicate (16 - width) 0) (take-zeros width 16 w)
    ∙ zeros-append width (16 - width) ∙ ap (λ (k : ℕ). replicate k 0) all
  where
    zeros-append : (a b : ℕ) → replicate a 0 ++ replicate b 0 ≡ replicate {A = ℕ} (a + b) 0
    zeros-append zero b = let none : b ≡ 0 + b = omega arith in ap (λ (k : ℕ). replicate k 0) none
    zeros-append (suc a) b =
        let more : suc a + b ≡ suc (a + b) = omega arith in
        ap (λ (zeros : List ℕ). 0 ∷ zeros) (zeros-append a b) ∙ ap (λ (k : ℕ). replicate k 0) (sym more)

pub floor_is_padded : (width : ℕ) (tag : List ℕ) → length tag ≡ width → padded width (take width (padded width tag)) ≡ padded width tag
floor_is_padded width tag long = ap (padded width) (take-padded width tag long)

-- ---- marks, frame by frame

tags_for-append : (width list : ℕ) (frames more : List Frame)
    → tags_for width list (frames ++ more) ≡ tags_for width list frames ++ tags_for width list more
tags_for-append width list [] more = refl
tags_for-append width list (receiver_hello id session count ∷ frames) more = tags_for-append width list frames more
tags_for-append width list (sender_hello id session count ∷ frames) more = tags_for-append width list frames more
tags_for-append width list (column_frame index bytes ∷ frames) more = tags_for-append width list frames more
tags_for-append width list (values_frame block values ∷ frames) more = tags_for-append width list frames more
tags_for-append width list (done_frame ∷ frames) more = tags_for-append width list frames more
tags_for-append width list (tags_frame of_list block bytes ∷ frames) more =
    let first : List (List ℕ) = cond (of_list == list) (padded_tags width bytes) [] in
    ap (λ (ts : List (List ℕ)). first ++ ts) (tags_for-append width list frames more)
    ∙ sym (append_assoc first (tags_for width list frames) (tags_for width list more))

-- with no frame there are no marks
pub unmarked_are_marked : (width : ℕ) (lists : List Marked) → AreUnmarked lists → AreMarked width [] lists
unmarked_are_marked width lists unmarked list m at i l = unmarked list m at i

-- a frame that has no tags leaves the marks right, as any frame but one of tags, by `λ list. refl`
pub marked_with_other : (width : ℕ) (frames : List Frame) (frame : Frame) (lists : List Marked)
    → ((list : ℕ) → tags_for width list (frame ∷ []) ≡ []) → AreMarked width frames lists
    → AreMarked width (frames ++ frame ∷ []) lists
marked_with_other width frames frame lists none marked list m at =
    subst (λ (tags : List (List ℕ)). IsMarkedBy tags m)
    (sym (append-nil (tags_for width list frames))
    ∙ ap (λ (ts : List (List ℕ)). tags_for width list frames ++ ts) (sym (none list))
    ∙ sym (tags_for-append width list frames (frame ∷ [])))
    (marked list m at)

pub slice_get-set_same : {A : Type 0} (xs : List A) (i : ℕ) (a x : A) → slice_get xs i ≡ Some x → slice_get (slice_set xs i a) i ≡ Some a
slice_get-set_same [] i a x e = cc
slice_get-set_same (y ∷ xs) zero a x e = refl
slice_get-set_same (y ∷ xs) (suc i) a x e = slice_get-set_same xs i a x e

pub slice_get-set_other : {A : Type 0} (xs : List A) (i k : ℕ) (a : A) → (k ≡ i → ⊥) → slice_get (slice_set xs i a) k ≡ slice_get xs k
slice_get-set_other [] i k a d = refl
slice_get-set_other (y ∷ xs) zero zero a d = absurd (d refl)
slice_get-set_other (y ∷ xs) zero (suc k) a d = refl
slice_get-set_other (y ∷ xs) (suc i) zero a d = refl
slice_get-set_other (y ∷ xs) (suc i) (suc k) a d = slice_get-set_other xs i k a (λ e. d (ap suc e))

-- the tags that come with a frame count for its list alone
tags_for-same : (width l list block : ℕ) (bytes : List ℕ) → list ≡ l
    → tags_for width list (tags_frame l block bytes ∷ []) ≡ padded_tags width bytes
tags_for-same width l list block bytes e =
    ap (λ (b : Bool). cond b (padded_tags width bytes) [] ++ []) (eq-eqb l list (sym e)) ∙ append-nil (padded_tags width bytes)

tags_for-other : (width l list block : ℕ) (bytes : List ℕ) → (list ≡ l → ⊥)
    → tags_for width list (tags_frame l block bytes ∷ []) ≡ []
tags_for-other width l list block bytes d =
    ap (λ (b : Bool). cond b (padded_tags width bytes) [] ++ []) (ne_eqb l list (λ e. d (sym e)))

-- a frame of tags leaves them right where it marks those of its list
pub marked_with_tags : (width : ℕ) (frames : List Frame) (l block : ℕ) (bytes : List ℕ) (lists : List Marked) (m m' : Marked)
    → slice_get lists l ≡ Some m → m'.tags ≡ m.tags
    → ((i : ℕ) → i < length m.tags
    → get_or m'.hits i false ≡ (get_or m.hits i false || is_among (padded_tags width bytes) (get_or m.tags i [])))
    → AreMarked width frames lists → AreMarked width (frames ++ tags_frame l block bytes ∷ []) (slice_set lists l m')
marked_with_tags width frames l block bytes lists m m' at same hits marked list n there =
    ⊎_elim here other (cases_eq list l)
  where
    tags : List (List ℕ)
    tags = padded_tags width bytes

    joined : tags_for width list (frames ++ tags_frame l block bytes ∷ [])
        ≡ tags_for width list frames ++ tags_for width list (tags_frame l block bytes ∷ [])
    joined = tags_for-append width list frames (tags_frame l block bytes ∷ [])

    marked_here : list ≡ l → IsMarkedBy (tags_for width list frames ++ tags) m'
    marked_here e i within =
        let x : List ℕ = get_or m.tags i [] in
        let long : length m'.tags ≡ length m.tags = ap (λ (ts : List (List ℕ)). length ts) same in
        hits i (omega (arith, long))
        ∙ ap (λ (b : Bool). b || is_among tags x) (marked list m (ap (slice_get lists) e ∙ at) i (omega (arith, long)))
        ∙ sym (list_any-append (bytes_eq x) (tags_for width list frames) tags)
        ∙ ap (λ (ts : List (List ℕ)). is_among (tags_for width list frames ++ tags) (get_or ts i [])) (sym same)

    here : list ≡ l → IsMarkedBy (tags_for width list (frames ++ tags_frame l block bytes ∷ [])) n
    here e =
        let is : m' ≡ n =
        same_Some m' n (sym (slice_get-set_same lists l m' m at) ∙ ap (slice_get (slice_set lists l m')) (sym e) ∙ there) in
        subst (IsMarkedBy (tags_for width list (frames ++ tags_frame l block bytes ∷ []))) is
        (subst (λ (ts : List (List ℕ)). IsMarkedBy ts m')
        (sym (joined ∙ ap (λ (ts : List (List ℕ)). tags_for width list frames ++ ts) (tags_for-same width l list block bytes e)))
        (marked_here e))

    other : (list ≡ l → ⊥) → IsMarkedBy (tags_for width list (frames ++ tags_frame l block bytes ∷ [])) n
    other d =
        subst (λ (ts : List (List ℕ)). IsMarkedBy ts n)
        (sym (joined ∙ ap (λ (ts : List (List ℕ)). tags_for width list frames ++ ts) (tags_for-other width l list block bytes d)
        ∙ append-nil (tags_for width list frames)))
        (marked list n (sym (slice_get-set_other lists l list m' d) ∙ there))
