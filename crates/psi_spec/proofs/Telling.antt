-- What a stream tells: its bytes determine the count and the columns, or the count and the lists, that it was made of.
use Rattle.std.proofs.lemmas.Grind.{flat_map-append}
use Rattle.std.proofs.Common.{◌≡◌, ◌+◌, ◌*◌, ◌/◌, ◌%◌, ◌^◌, ◌<◌, ◌≤◌, ℕ, suc, zero, List, [], ◌∷◌, ◌++◌, length, map, take, drop, get_or, refl, sym, ap, ap₂, ◌∙◌, subst, arith, ⊎_elim}
use Rattle.std.specs.Int.{w16, w32, w64, to_be_bytes, from_be_bytes}
use Rattle.std.specs.List.{AllByRecursion, range_with_len, concat}
use Rattle.std.proofs.lemmas.Bool.{cases_eq}
use Rattle.std.proofs.lemmas.List.{append_assoc, append_cancel_left, length-append, length-take, length-drop, get_or-take, get_or-drop, ext_get_or}
use Rattle.std.proofs.lemmas.List.Elements.{recursion_from_All}
use Rattle.std.proofs.lemmas.Nat.{from_be_bytes-to_be_bytes_4}
use Rattle.psi_spec.specs.Limits.{limit_items, rows_for}
use Rattle.psi_spec.specs.Matrices.{IsColumn}
use Rattle.psi_spec.specs.Frames.{framed, hello_payload, layout, receiver_hello, done_frame}
use Rattle.psi_spec.specs.TagLists.{IsTagList}
use Rattle.psi_spec.specs.Streams.{layouts, column_frames, columns_stream, blocks_for, block_of, block_frame, list_frames, lists_frames, lists_stream}
use Rattle.psi_spec.specs.SessionLaws.{ReceiverStreamsTell, SenderStreamsTell}
use Rattle.psi_spec.proofs.StreamSizes.{length-framed, length-hello_payload}

-- joined lists whose first parts are equally long are equal part by part
parts : {A : Type 0} (a b c d : List A) → length a ≡ length c → a ++ b ≡ c ++ d → (a ≡ c) × (b ≡ d)
parts [] b [] d l e = (refl, e)
parts [] b (y ∷ c) d l e = absurd (omega arith)
parts (x ∷ a) b [] d l e = absurd (omega arith)
parts (x ∷ a) b (y ∷ c) d l e =
    let heads : x ≡ y = cc in
    let tails : a ++ b ≡ c ++ d = cc in
    let later = parts a b c d (omega arith) tails in
    (ap₂ (λ z zs. z ∷ zs) heads later.0, later.1)

-- ---- frames

frame_tells : (kind : ℕ) (p q rest rest' : List ℕ) → length p ≡ length q
    → framed kind p ++ rest ≡ framed kind q ++ rest' → (p ≡ q) × (rest ≡ rest')
frame_tells kind p q rest rest' l e =
    let both =
    parts (framed kind p) rest (framed kind q) rest'
    (omega (arith, length-framed kind p, length-framed kind q)) e in
    ((parts (kind ∷ to_be_bytes w32 (length p)) p (kind ∷ to_be_bytes w32 (length q)) q refl both.0).1, both.1)

hello_tells : (id : List ℕ) (session m n : ℕ) → m < 2 ^ 32 → n < 2 ^ 32
    → hello_payload id session m ≡ hello_payload id session n → m ≡ n
hello_tells id session m n lm ln e =
    let counts : to_be_bytes w32 m ≡ to_be_bytes w32 n =
    append_cancel_left (1 ∷ id ++ to_be_bytes w64 session) (to_be_bytes w32 m) (to_be_bytes w32 n) e in
    sym (from_be_bytes-to_be_bytes_4 m lm) ∙ (ap (from_be_bytes w32) counts ∙ from_be_bytes-to_be_bytes_4 n ln)

-- the count of a hello, and what follows it
begin_tells : (kind : ℕ) (id : List ℕ) (session m n : ℕ) (rest rest' : List ℕ) → m ≤ limit_items → n ≤ limit_items
    → framed kind (hello_payload id session m) ++ rest ≡ framed kind (hello_payload id session n) ++ rest'
    → (m ≡ n) × (rest ≡ rest')
begin_tells kind id session m n rest rest' lm ln e =
    let both =
    frame_tells kind (hello_payload id session m) (hello_payload id session n) rest rest'
    (length-hello_payload id session m ∙ sym (length-hello_payload id session n)) e in
    (hello_tells id session m n (omega arith) (omega arith) both.0, both.1)

-- ---- columns

columns_tell : (rows c : ℕ) (us vs : List (List ℕ)) (rest rest' : List ℕ) → length us ≡ length vs
    → AllByRecursion (IsColumn rows) us → AllByRecursion (IsColumn rows) vs
    → layouts (column_frames c us) ++ rest ≡ layouts (column_frames c vs) ++ rest' → us ≡ vs
columns_tell rows c [] [] rest rest' l are_u are_v e = refl
columns_tell rows c [] (v ∷ vs) rest rest' l are_u are_v e = absurd (omega arith)
columns_tell rows c (u ∷ us) [] rest rest' l are_u are_v e = absurd (omega arith)
columns_tell rows c (u ∷ us) (v ∷ vs) rest rest' l are_u are_v e =
    let p : List ℕ = to_be_bytes w16 c ++ u in
    let q : List ℕ = to_be_bytes w16 c ++ v in
    let size : length u ≡ length v = are_u.0.size ∙ sym are_v.0.size in
    let both =
    frame_tells 3 p q (layouts (column_frames (c + 1) us) ++ rest) (layouts (column_frames (c + 1) vs) ++ rest') (omega (arith, size))
    (sym (append_assoc (framed 3 p) (layouts (column_frames (c + 1) us)) rest)
    ∙ (e ∙ append_assoc (framed 3 q) (layouts (column_frames (c + 1) vs)) rest')) in
    ap₂ (λ (x : List ℕ) (xs : List (List ℕ)). x ∷ xs)
    (append_cancel_left (to_be_bytes w16 c) u v both.0)
    (columns_tell rows (c + 1) us vs rest rest' (omega arith) are_u.1 are_v.1 both.1)

pub receiver_streams_tell : ReceiverStreamsTell
unfolding columns_stream
receiver_streams_tell stash id session m n us vs bytes first second =
    let begun =
    begin_tells 1 id session m n (layouts (column_frames 0 us) ++ layout done_frame)
    (layouts (column_frames 0 vs) ++ layout done_frame) first.few second.few
    (sym (append_assoc (layout (receiver_hello id session m)) (layouts (column_frames 0 us)) (layout done_frame))
    ∙ (sym first.is
    ∙ (second.is ∙ append_assoc (layout (receiver_hello id session n)) (layouts (column_frames 0 vs)) (layout done_frame)))) in
    let long : length us ≡ length vs = first.column_set.count ∙ sym second.column_set.count in (
      begun.0,
      columns_tell (rows_for stash m) 0 us vs (layout done_frame) (layout done_frame) long
          (recursion_from_All (IsColumn (rows_for stash m)) us first.column_set.each)
          (subst (λ (k : ℕ). AllByRecursion (IsColumn (rows_for stash k)) vs) (sym begun.0)
          (recursion_from_All (IsColumn (rows_for stash n)) vs second.column_set.each)) begun.1,
    )

-- ---- lists

abbrev AreOfLength : ℕ → List (List ℕ) → Type 0
AreOfLength g tags = AllByRecursion (λ tag. length tag ≡ g) tags

AreOfLength-take : (g n : ℕ) (tags : List (List ℕ)) → AreOfLength g tags → AreOfLength g (take n tags)
AreOfLength-take g zero tags all = tt
AreOfLength-take g (suc n) [] all = tt
AreOfLength-take g (suc n) (t ∷ tags) all = (all.0, AreOfLength-take g n tags all.1)

AreOfLength-drop : (g n : ℕ) (tags : List (List ℕ)) → AreOfLength g tags → AreOfLength g (drop n tags)
AreOfLength-drop g zero tags all = all
AreOfLength-drop g (suc n) [] all = tt
AreOfLength-drop g (suc n) (t ∷ tags) all = AreOfLength-drop g n tags all.1

same_length_joined : (g : ℕ) (xs ys : List (List ℕ)) → length xs ≡ length ys → AreOfLength g xs → AreOfLength g ys
    → length (concat xs) ≡ length (concat ys)
same_length_joined g [] [] l all_x all_y = refl
same_length_joined g [] (y ∷ ys) l all_x all_y = absurd (omega arith)
same_length_joined g (x ∷ xs) [] l all_x all_y = absurd (omega arith)
same_length_joined g (x ∷ xs) (y ∷ ys) l all_x all_y =
    omega (
      arith,
      length-append x (concat xs),
      length-append y (concat ys),
      all_x.0,
      all_y.0,
      same_length_joined g xs ys (omega arith) all_x.1 all_y.1,
    )

joined_tells : (g : ℕ) (xs ys : List (List ℕ)) → length xs ≡ length ys → AreOfLength g xs → AreOfLength g ys
    → concat xs ≡ concat ys → xs ≡ ys
joined_tells g [] [] l all_x all_y e = refl
joined_tells g [] (y ∷ ys) l all_x all_y e = absurd (omega arith)
joined_tells g (x ∷ xs) [] l all_x all_y e = absurd (omega arith)
joined_tells g (x ∷ xs) (y ∷ ys) l all_x all_y e =
    let both = parts x (concat xs) y (concat ys) (all_x.0 ∙ sym all_y.0) e in
    ap₂ (λ (z : List ℕ) (zs : List (List ℕ)). z ∷ zs) both.0 (joined_tells g xs ys (omega arith) all_x.1 all_y.1 both.1)

same_length_blocks : (b : ℕ) (xs ys : List (List ℕ)) → length xs ≡ length ys
    → length (block_of xs b) ≡ length (block_of ys b)
same_length_blocks b xs ys l =
    omega (
      arith,
      length-take 1024 (drop (1024 * b) xs),
      length-take 1024 (drop (1024 * b) ys),
      length-drop (1024 * b) xs,
      length-drop (1024 * b) ys,
    )

AreOfLength-block : (g b : ℕ) (tags : List (List ℕ)) → AreOfLength g tags → AreOfLength g (block_of tags b)
AreOfLength-block g b tags all = AreOfLength-take g 1024 (drop (1024 * b) tags) (AreOfLength-drop g (1024 * b) tags all)

blocks_tell : (g list a n : ℕ) (xs ys : List (List ℕ)) (rest rest' : List ℕ) → length xs ≡ length ys → AreOfLength g xs
    → AreOfLength g ys
    → layouts (map (block_frame list xs) (range_with_len a n)) ++ rest
    ≡ layouts (map (block_frame list ys) (range_with_len a n)) ++ rest'
    → ((b : ℕ) → a ≤ b → b < a + n → block_of xs b ≡ block_of ys b) × (rest ≡ rest')
blocks_tell g list a zero xs ys rest rest' l all_x all_y e = (λ b low high. absurd (omega arith), e)
blocks_tell g list a (suc n) xs ys rest rest' l all_x all_y e =
    let head : List ℕ = list ∷ to_be_bytes w32 a in
    let p : List ℕ = head ++ concat (block_of xs a) in
    let q : List ℕ = head ++ concat (block_of ys a) in
    let later_x : List ℕ = layouts (map (block_frame list xs) (range_with_len (a + 1) n)) in
    let later_y : List ℕ = layouts (map (block_frame list ys) (range_with_len (a + 1) n)) in
    let long : length (block_of xs a) ≡ length (block_of ys a) = same_length_blocks a xs ys l in
    let joined : length (concat (block_of xs a)) ≡ length (concat (block_of ys a)) =
    same_length_joined g (block_of xs a) (block_of ys a) long (AreOfLength-block g a xs all_x)
    (AreOfLength-block g a ys all_y) in
    let both =
    frame_tells 4 p q (later_x ++ rest) (later_y ++ rest')
    (omega (arith, length-append head (concat (block_of xs a)), length-append head (concat (block_of ys a))))
    (sym (append_assoc (framed 4 p) later_x rest) ∙ (e ∙ append_assoc (framed 4 q) later_y rest')) in
    let here : block_of xs a ≡ block_of ys a =
    joined_tells g (block_of xs a) (block_of ys a) long (AreOfLength-block g a xs all_x)
    (AreOfLength-block g a ys all_y)
    (append_cancel_left head (concat (block_of xs a)) (concat (block_of ys a)) both.0) in
    let later = blocks_tell g list (a + 1) n xs ys rest rest' l all_x all_y both.1 in (
      λ b low high.
          ⊎_elim
          (λ (same : b ≡ a). ap (block_of xs) same ∙ (here ∙ ap (block_of ys) (sym same)))
          (λ (other : b ≡ a → ⊥). later.0 b (omega arith) (omega arith))
          (cases_eq b a),
      later.1,
    )

-- a tag of a list is one of its block
get_or-block : (tags : List (List ℕ)) (i : ℕ) → get_or (block_of tags (i / 1024)) (i % 1024) [] ≡ get_or tags i []
get_or-block tags i =
    let place : 1024 * (i / 1024) + i % 1024 ≡ i = omega arith in
    get_or-take 1024 (drop (1024 * (i / 1024)) tags) (i % 1024) [] (omega arith)
    ∙ (get_or-drop (1024 * (i / 1024)) tags (i % 1024) [] ∙ ap (λ (k : ℕ). get_or tags k []) place)

same_from_blocks : (xs ys : List (List ℕ)) → length xs ≡ length ys
    → ((b : ℕ) → b < blocks_for (length xs) → block_of xs b ≡ block_of ys b) → xs ≡ ys
same_from_blocks xs ys l same =
    ext_get_or [] xs ys l (λ i within.
    sym (get_or-block xs i)
    ∙ (ap (λ (tags : List (List ℕ)). get_or tags (i % 1024) []) (same (i / 1024) (omega arith)) ∙ get_or-block ys i))

list_frames_tell : (g m list : ℕ) (xs ys : List (List ℕ)) (rest rest' : List ℕ) → IsTagList g m xs → IsTagList g m ys
    → layouts (list_frames list xs) ++ rest ≡ layouts (list_frames list ys) ++ rest' → (xs ≡ ys) × (rest ≡ rest')
unfolding list_frames
list_frames_tell g m list xs ys rest rest' is_x is_y e =
    let l : length xs ≡ length ys = is_x.size ∙ sym is_y.size in
    let count : ℕ = blocks_for (length xs) in
    let turned : layouts (map (block_frame list ys) (range_with_len 0 (blocks_for (length ys)))) ++ rest'
    ≡ layouts (map (block_frame list ys) (range_with_len 0 count)) ++ rest' =
    ap (λ (n : ℕ). layouts (map (block_frame list ys) (range_with_len 0 (blocks_for n))) ++ rest') (sym l) in
    let both =
    blocks_tell g list 0 count xs ys rest rest' l (recursion_from_All (λ tag. length tag ≡ g) xs is_x.lengths)
    (recursion_from_All (λ tag. length tag ≡ g) ys is_y.lengths) (e ∙ turned) in
    (same_from_blocks xs ys l (λ b within. both.0 b (omega arith) (omega arith)), both.1)

lists_tell : (g m list : ℕ) (ls ks : List (List (List ℕ))) → length ls ≡ length ks → AllByRecursion (IsTagList g m) ls
    → AllByRecursion (IsTagList g m) ks → layouts (lists_frames list ls) ≡ layouts (lists_frames list ks) → ls ≡ ks
lists_tell g m list [] [] l are_l are_k e = refl
lists_tell g m list [] (k ∷ ks) l are_l are_k e = absurd (omega arith)
lists_tell g m list (x ∷ ls) [] l are_l are_k e = absurd (omega arith)
lists_tell g m list (x ∷ ls) (y ∷ ks) l are_l are_k e =
    let both =
    list_frames_tell g m list x y (layouts (lists_frames (list + 1) ls)) (layouts (lists_frames (list + 1) ks)) are_l.0
    are_k.0
    (sym (flat_map-append layout (list_frames list x) (lists_frames (list + 1) ls))
    ∙ (e ∙ flat_map-append layout (list_frames list y) (lists_frames (list + 1) ks))) in
    ap₂ (λ (z : List (List ℕ)) (zs : List (List (List ℕ))). z ∷ zs) both.0
    (lists_tell g m (list + 1) ls ks (omega arith) are_l.1 are_k.1 both.1)

pub sender_streams_tell : SenderStreamsTell
unfolding lists_stream
sender_streams_tell stash id session tag_length m n ls ks bytes first second =
    let begun =
    begin_tells 2 id session m n (layouts (lists_frames 0 ls)) (layouts (lists_frames 0 ks)) first.few second.few
    (sym first.is ∙ second.is) in (
      begun.0,
      lists_tell tag_length m 0 ls ks (first.size ∙ sym second.size)
          (recursion_from_All (IsTagList tag_length m) ls first.each)
          (subst (λ (k : ℕ). AllByRecursion (IsTagList tag_length k) ks) (sym begun.0)
          (recursion_from_All (IsTagList tag_length n) ks second.each)) begun.1,
    )
