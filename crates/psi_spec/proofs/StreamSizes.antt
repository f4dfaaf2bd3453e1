-- How long frames and streams are.
use Rattle.std.proofs.Common.{◌≡◌, ◌+◌, ◌*◌, ℕ, suc, zero, List, [], ◌∷◌, ◌++◌, length, map, take, drop, refl, sym, ap, ap₂, ◌∙◌, arith, suc-mul, mul_comm, add_comm}
use Rattle.std.specs.Int.{w16, w32, w64, to_be_bytes}
use Rattle.std.specs.List.{AllByRecursion, range_with_len, concat}
use Rattle.std.proofs.lemmas.List.{length-append, drop-drop, take_all}
use Rattle.std.proofs.lemmas.List.Elements.{recursion_from_All}
use Rattle.std.proofs.lemmas.Grind.{flat_map-append}
use Rattle.std.proofs.lemmas.List.Folds.{concat-append}
use Rattle.std.proofs.Math.Seq.{take-add}
use Rattle.psi_spec.specs.Limits.{rows_for}
use Rattle.psi_spec.specs.Columns.{column_bytes}
use Rattle.psi_spec.specs.Matrices.{IsColumn}
use Rattle.psi_spec.specs.Frames.{framed, hello_payload, layout, receiver_hello, sender_hello, column_frame, tags_frame, done_frame}
use Rattle.psi_spec.specs.TagLists.{IsTagList}
use Rattle.psi_spec.specs.Streams.{column_frames, columns_stream, blocks_for, block_of, block_frame, list_frames, lists_frames, lists_stream, layouts}
use Rattle.psi_spec.specs.SessionLaws.{ReceiverStreamsHaveSizes, SenderStreamsHaveSizes}

-- ---- frames

pub length-framed : (kind : ℕ) (payload : List ℕ) → length (framed kind payload) ≡ 5 + length payload
length-framed kind payload = omega arith

pub length-hello_payload : (id : List ℕ) (session count : ℕ) → length (hello_payload id session count) ≡ 13 + length id
length-hello_payload id session count =
    omega (
      arith,
      length-append (1 ∷ id ++ to_be_bytes w64 session) (to_be_bytes w32 count),
      length-append (1 ∷ id) (to_be_bytes w64 session),
    )

length-hello : (kind : ℕ) (id : List ℕ) (session count : ℕ) → length id ≡ 16
    → length (framed kind (hello_payload id session count)) ≡ 34
length-hello kind id session count l =
    omega (arith, length-framed kind (hello_payload id session count), length-hello_payload id session count)

pub length-receiver_hello : (id : List ℕ) (session count : ℕ) → length id ≡ 16
    → length (layout (receiver_hello id session count)) ≡ 34
length-receiver_hello = length-hello 1

pub length-sender_hello : (id : List ℕ) (session count : ℕ) → length id ≡ 16
    → length (layout (sender_hello id session count)) ≡ 34
length-sender_hello = length-hello 2

pub length-column_frame : (c : ℕ) (u : List ℕ) → length (layout (column_frame c u)) ≡ 7 + length u
length-column_frame c u = omega (arith, length-framed 3 (to_be_bytes w16 c ++ u))

pub length-tags_frame : (list block : ℕ) (tags : List ℕ)
    → length (layout (tags_frame list block tags)) ≡ 10 + length tags
length-tags_frame list block tags = omega (arith, length-framed 4 (list ∷ to_be_bytes w32 block ++ tags))

pub length-done_frame : length (layout done_frame) ≡ 5
length-done_frame = refl

-- ---- streams

pub length-column_frames : (rows c : ℕ) (us : List (List ℕ)) → AllByRecursion (IsColumn rows) us
    → length (layouts (column_frames c us)) ≡ length us * (7 + column_bytes rows)
length-column_frames rows c [] are = omega arith
length-column_frames rows c (u ∷ us) are =
    let more : suc (length us) * (7 + column_bytes rows)
    ≡ length us * (7 + column_bytes rows) + (7 + column_bytes rows) = suc-mul (length us) (7 + column_bytes rows) in
    length-append (layout (column_frame c u)) (layouts (column_frames (c + 1) us))
    ∙ (ap₂ (λ (a b : ℕ). a + b) (length-column_frame c u ∙ ap (λ (n : ℕ). 7 + n) are.0.size)
    (length-column_frames rows (c + 1) us are.1) ∙ omega arith)

pub receiver_streams_have_sizes : ReceiverStreamsHaveSizes
unfolding columns_stream
receiver_streams_have_sizes stash id session count columns bytes l is =
    let w : ℕ = 7 + column_bytes (rows_for stash count) in
    let frames : length (layouts (column_frames 0 columns)) ≡ 512 * w =
    length-column_frames (rows_for stash count) 0 columns
    (recursion_from_All (IsColumn (rows_for stash count)) columns is.column_set.each)
    ∙ ap (λ (n : ℕ). n * w) is.column_set.count in
    ap length is.is
    ∙ (length-append (layout (receiver_hello id session count) ++ layouts (column_frames 0 columns)) (layout done_frame)
    ∙ omega (
      arith,
      length-append (layout (receiver_hello id session count)) (layouts (column_frames 0 columns)),
      length-receiver_hello id session count l,
      frames,
    ))

pub length-joined : (g : ℕ) (tags : List (List ℕ)) → AllByRecursion (λ tag. length tag ≡ g) tags
    → length (concat tags) ≡ length tags * g
length-joined g [] all = omega arith
length-joined g (t ∷ tags) all =
    let more : suc (length tags) * g ≡ length tags * g + g = suc-mul (length tags) g in
    length-append t (concat tags) ∙ (ap₂ (λ (a b : ℕ). a + b) all.0 (length-joined g tags all.1) ∙ omega arith)

-- frames from block a on: ten bytes each, and the tags from there on
length-blocks : (list a n : ℕ) (tags : List (List ℕ))
    → length (layouts (map (block_frame list tags) (range_with_len a n)))
    ≡ 10 * n + length (concat (take (1024 * n) (drop (1024 * a) tags)))
length-blocks list a zero tags = refl
length-blocks list a (suc n) tags =
    let from : List (List ℕ) = drop (1024 * a) tags in
    let count : 1024 * suc n ≡ 1024 + 1024 * n = omega arith in
    let onward : 1024 * a + 1024 ≡ 1024 * (a + 1) = omega arith in
    let split : take (1024 * suc n) from ≡ block_of tags a ++ take (1024 * n) (drop (1024 * (a + 1)) tags) =
    ap (λ (k : ℕ). take k from) count
    ∙ (take-add 1024 (1024 * n) from
    ∙ ap (λ (rest : List (List ℕ)). block_of tags a ++ take (1024 * n) rest)
    (drop-drop 1024 (1024 * a) tags ∙ ap (λ (k : ℕ). drop k tags) onward)) in
    let rest : List (List ℕ) = take (1024 * n) (drop (1024 * (a + 1)) tags) in
    let all : length (concat (take (1024 * suc n) from)) ≡ length (concat (block_of tags a)) + length (concat rest) =
    ap (λ (ts : List (List ℕ)). length (concat ts)) split
    ∙ (ap length (concat-append (block_of tags a) rest) ∙ length-append (concat (block_of tags a)) (concat rest)) in
    length-append (layout (block_frame list tags a)) (layouts (map (block_frame list tags) (range_with_len (a + 1) n)))
    ∙ omega (arith, length-tags_frame list a (concat (block_of tags a)), length-blocks list (a + 1) n tags, all)

pub length-list_frames : (g m list : ℕ) (tags : List (List ℕ)) → IsTagList g m tags
    → length (layouts (list_frames list tags)) ≡ 10 * blocks_for m + g * m
unfolding list_frames
length-list_frames g m list tags is =
    let whole : take (1024 * blocks_for (length tags)) tags ≡ tags =
    take_all (1024 * blocks_for (length tags)) tags (omega arith) in
    let joined : length (concat tags) ≡ length tags * g =
    length-joined g tags (recursion_from_All (λ tag. length tag ≡ g) tags is.lengths) in
    length-blocks list 0 (blocks_for (length tags)) tags
    ∙ (ap (λ (ts : List (List ℕ)). 10 * blocks_for (length tags) + length (concat ts)) whole
    ∙ (ap (λ (k : ℕ). 10 * blocks_for (length tags) + k) (joined ∙ mul_comm (length tags) g)
    ∙ ap (λ (k : ℕ). 10 * blocks_for k + g * k) is.size))

pub length-lists_frames : (g m list : ℕ) (lists : List (List (List ℕ))) → AllByRecursion (IsTagList g m) lists
    → length (layouts (lists_frames list lists)) ≡ length lists * (10 * blocks_for m + g * m)
length-lists_frames g m list [] are = omega arith
length-lists_frames g m list (tags ∷ lists) are =
    let each : ℕ = 10 * blocks_for m + g * m in
    ap length (flat_map-append layout (list_frames list tags) (lists_frames (list + 1) lists))
    ∙ length-append (layouts (list_frames list tags)) (layouts (lists_frames (list + 1) lists))
    ∙ (ap₂ (λ (a b : ℕ). a + b) (length-list_frames g m list tags are.0)
    (length-lists_frames g m (list + 1) lists are.1)
    ∙ (add_comm each (length lists * each) ∙ sym (suc-mul (length lists) each)))

pub sender_streams_have_sizes : SenderStreamsHaveSizes
unfolding lists_stream
sender_streams_have_sizes stash id session g m lists bytes l is =
    let each : ℕ = 10 * blocks_for m + g * m in
    ap length is.is
    ∙ (length-append (layout (sender_hello id session m)) (layouts (lists_frames 0 lists))
    ∙ ap₂ (λ (a b : ℕ). a + b) (length-sender_hello id session m l)
    (length-lists_frames g m 0 lists (recursion_from_All (IsTagList g m) lists is.each)
    ∙ ap (λ (n : ℕ). n * each) is.size))
