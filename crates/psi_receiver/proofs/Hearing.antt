-- A receiver takes a sender's stream, and nothing else, and sends its own for it; the moves of both stand on the wire.
use Rattle.std.proofs.lemmas.Grind.{flat_map-append}
use Rattle.std.proofs.Common.{◌≡◌, ◌≤◌, ◌+◌, ◌∙◌, ℕ, suc, zero, List, [], ◌∷◌, ◌++◌, length, take, drop, refl, sym, ap, ap₂, subst, arith, append_assoc}
use Rattle.std.specs.List.{AllByRecursion, concat, flat_map}
use Rattle.std.proofs.lemmas.Bool.Decides.{nat_tests}
use Rattle.std.proofs.lemmas.List.{append-nil}
use Rattle.std.proofs.lemmas.List.Elements.{All-from_recursion, recursion_from_All}
use Rattle.psi_spec.specs.Limits.{limit_items}
use Rattle.psi_spec.specs.Deals.{ReceiverDeal, IsReceiverDeal}
use Rattle.psi_spec.specs.Frames.{AreBytes, Frame, layout, receiver_hello, sender_hello, column_frame, tags_frame, values_frame, done_frame}
use Rattle.psi_spec.specs.Meeting.{Placed}
use Rattle.psi_spec.specs.Sessions.{dealt_masked, wire_bytes}
use Rattle.psi_spec.specs.Streams.{layouts, blocks_for, column_frames, columns_stream, list_frames, lists_frames, lists_stream, receiver_stream}
use Rattle.psi_spec.specs.TagLists.{IsTagList}
use Rattle.psi_spec.proofs.SessionMoves.{wire_is}
use Rattle.psi_frames.specs.Dialogue.{good}
use Rattle.psi_frames.specs.declared.expect.Expect.TheVariants as expect
use Rattle.psi_frames.specs.Expected.{IsValid}
use Rattle.psi_frames.specs.Script.{AreAwaited, IsRead, Script, frames_of, owed_for, wire_for}
use Rattle.psi_frames.specs.Valid.{HasParts}
use Rattle.psi_frames.proofs.Parts.{valid_by_parts, valid_from_parts}
use Rattle.psi_frames.proofs.Readings.{owes_all, reads_awaited, reads_frames, takes_awaited}
use Rattle.psi_receiver.specs.Laws.{HearsNothingElse, HearsStreams, IsStreamFor, moves_heard, own_stream, receiver_dialogue}
use Rattle.psi_receiver.specs.Script.{answers_hello, awaits_blocks, awaits_lists, count_in, floor_after, no_floor, receiver_script, tags_at}
use Rattle.psi_receiver.proofs.Awaited.{WereLists, block_list, block_list-frames, bytes-left, bytes-right, lists_awaited, lists_list, lists_list-bytes, lists_owed, lists_read}

-- the tags of a deal are short
pub width_of : (deal : ReceiverDeal) → IsReceiverDeal deal → deal.tag_length ≤ 16
width_of deal is = let fits = is.tag_length in grind (arith, nat_tests)

-- the frames of a sender's stream
abbrev pub stream_frames : ReceiverDeal → ℕ → List (List (List ℕ)) → List Frame
stream_frames deal count lists = sender_hello deal.id deal.session count ∷ lists_list 0 lists

stream_bytes : (deal : ReceiverDeal) (count : ℕ) (lists : List (List (List ℕ)))
    → lists_stream deal.id deal.session count lists ≡ flat_map layout (stream_frames deal count lists)
unfolding lists_stream
stream_bytes deal count lists = ap (λ (xs : List ℕ). layout (sender_hello deal.id deal.session count) ++ xs) (sym (lists_list-bytes 0 lists))

hello_valid : (deal : ReceiverDeal) (count : ℕ) → IsReceiverDeal deal → count ≤ limit_items
    → IsValid (expect.SenderHello deal.id deal.session) (sender_hello deal.id deal.session count)
hello_valid deal count is few =
    valid_from_parts (expect.SenderHello deal.id deal.session) (sender_hello deal.id deal.session count) (omega arith)
    (record { id = is.id; session = is.session; count = omega (arith, few) })
    (record { deal_is = refl; session_is = refl; few = few })

stream_due : (deal : ReceiverDeal) (placed : List Placed) (count : ℕ) (lists : List (List (List ℕ))) (bytes : List ℕ) → IsReceiverDeal deal
    → IsStreamFor deal count lists bytes → AreAwaited (receiver_script deal placed) (stream_frames deal count lists)
unfolding receiver_script
stream_due deal placed count lists bytes is stream = (
  hello_valid deal count is stream.few,
  lists_awaited deal.tag_length count 0 (3 + deal.stash) lists (width_of deal is) (let few = stream.few in omega (arith, few)) stream.size
      (recursion_from_All (IsTagList deal.tag_length count) lists stream.each),
)

answered : (deal : ReceiverDeal) (placed : List Placed) (count : ℕ) (lists : List (List (List ℕ))) (bytes : List ℕ)
    → IsStreamFor deal count lists bytes → owed_for (receiver_script deal placed) (stream_frames deal count lists) ≡ own_stream deal placed
unfolding receiver_script receiver_stream columns_stream
answered deal placed count lists bytes stream =
    let hello : List ℕ = layout (receiver_hello deal.id deal.session (length placed)) in
    let columns : List ℕ = layouts (column_frames 0 (dealt_masked deal placed)) in
    ap (λ (xs : List ℕ). hello ++ (columns ++ xs))
    (lists_owed deal.tag_length count 0 (3 + deal.stash) lists stream.size (recursion_from_All (IsTagList deal.tag_length count) lists stream.each))
    ∙ sym (append_assoc hello columns (layout done_frame))

-- ---- the wire

blocks_wired : (width count list block left : ℕ) (floor : List ℕ) (rest : Script) (tags : List (List ℕ)) (frames : List Frame)
    → wire_for (awaits_blocks width count list block left floor rest) (block_list list block left tags ++ frames)
    ≡ flat_map layout (block_list list block left tags) ++ wire_for rest frames
blocks_wired width count list block zero floor rest tags frames = refl
blocks_wired width count list block (suc left) floor rest tags frames =
    let f : Frame = tags_frame list block (concat (take 1024 tags)) in
    ap (λ (xs : List ℕ). layout f ++ xs)
    (blocks_wired width count list (block + 1) left (floor_after width (tags_at count block) f) rest (drop 1024 tags) frames)
    ∙ sym (append_assoc (layout f) (flat_map layout (block_list list (block + 1) left (drop 1024 tags))) (wire_for rest frames))

lists_wired : (width count list left : ℕ) (lists : List (List (List ℕ))) → length lists ≡ left → AllByRecursion (IsTagList width count) lists
    → wire_for (awaits_lists width count list left) (lists_list list lists) ≡ layouts (lists_frames list lists) ++ layout done_frame
lists_wired width count list zero [] same each = append-nil (layout done_frame)
lists_wired width count list zero (tags ∷ lists) same each = absurd (omega arith)
lists_wired width count list (suc left) [] same each = absurd (omega arith)
lists_wired width count list (suc left) (tags ∷ lists) same each =
    let is : IsTagList width count tags = each.0 in
    let rest : Script = awaits_lists width count (list + 1) left in
    let first : List Frame = block_list list 0 (blocks_for (length tags)) tags in
    let behind : List Frame = lists_list (list + 1) lists in
    let count_is : blocks_for count ≡ blocks_for (length tags) = ap (λ (n : ℕ). blocks_for n) (sym is.size) in
    ap (λ (n : ℕ). wire_for (awaits_blocks width count list 0 n no_floor rest) (first ++ behind)) count_is
    ∙ blocks_wired width count list 0 (blocks_for (length tags)) no_floor rest tags behind
    ∙ ap₂ (λ (a b : List ℕ). a ++ b) (block_list-frames list tags) (lists_wired width count (list + 1) left lists (omega arith) each.1)
    ∙ sym (append_assoc (layouts (list_frames list tags)) (layouts (lists_frames (list + 1) lists)) (layout done_frame))
    ∙ ap (λ (xs : List ℕ). xs ++ layout done_frame) (sym (flat_map-append layout (list_frames list tags) (lists_frames (list + 1) lists)))

-- a receiver and the frames of a sender's stream
pub wired_whole : (deal : ReceiverDeal) (placed : List Placed) (count : ℕ) (lists : List (List (List ℕ))) (bytes : List ℕ)
    → IsStreamFor deal count lists bytes
    → wire_for (receiver_script deal placed) (stream_frames deal count lists) ≡ wire_bytes (moves_heard deal placed count lists)
unfolding receiver_script
wired_whole deal placed count lists bytes stream =
    let hello : Frame = receiver_hello deal.id deal.session (length placed) in
    let answer : Frame = sender_hello deal.id deal.session count in
    let columns : List ℕ = layouts (column_frames 0 (dealt_masked deal placed)) in
    let each = recursion_from_All (IsTagList deal.tag_length count) lists stream.each in
    ap (λ (xs : List ℕ). layout hello ++ (layout answer ++ (columns ++ xs))) (lists_wired deal.tag_length count 0 (3 + deal.stash) lists stream.size each)
    ∙ sym (wire_is hello answer (dealt_masked deal placed) lists)

-- they are the frames that it takes of the stream
pub frames_heard : (deal : ReceiverDeal) (placed : List Placed) (count : ℕ) (lists : List (List (List ℕ))) (bytes : List ℕ) → IsReceiverDeal deal
    → IsStreamFor deal count lists bytes → frames_of (receiver_script deal placed) bytes ≡ stream_frames deal count lists
frames_heard deal placed count lists bytes is stream =
    ap (frames_of (receiver_script deal placed)) (sym (append-nil bytes))
    ∙ takes_awaited (receiver_script deal placed) (stream_frames deal count lists) bytes []
    (record { due = stream_due deal placed count lists bytes is stream; bytes = stream.is ∙ stream_bytes deal count lists })

pub hears_streams : HearsStreams
unfolding receiver_dialogue
hears_streams deal placed count lists bytes is stream =
    let script : Script = receiver_script deal placed in
    let frames : List Frame = stream_frames deal count lists in
    let due = stream_due deal placed count lists bytes is stream in
    let same : bytes ≡ flat_map layout frames = stream.is ∙ stream_bytes deal count lists in
    let read : IsRead script frames bytes = record { due = due; bytes = same } in
    record {
      reads = λ more. reads_awaited script frames bytes more read;
      sends = subst (λ (xs : List ℕ). (receiver_dialogue deal placed).owes xs ≡ own_stream deal placed) (sym same)
          (ap (receiver_dialogue deal placed).owes (sym (append-nil (flat_map layout frames))) ∙ owes_all script frames [] due
          ∙ answered deal placed count lists bytes stream);
      wire = ap (wire_for script) (frames_heard deal placed count lists bytes is stream) ∙ wired_whole deal placed count lists bytes stream;
    }

-- ---- nothing else

hello_read : (deal : ReceiverDeal) (f : Frame) → AreBytes (layout f) → IsValid (expect.SenderHello deal.id deal.session) f
    → (count : ℕ) × (f ≡ sender_hello deal.id deal.session count) × (count ≤ limit_items)
hello_read deal f bytes valid = by_parts f ((valid_by_parts (expect.SenderHello deal.id deal.session) f bytes (omega arith)).0 valid).1
  where
    by_parts : (g : Frame) → HasParts (expect.SenderHello deal.id deal.session) g → (count : ℕ) × (g ≡ sender_hello deal.id deal.session count) × (count ≤ limit_items)
    by_parts (sender_hello id session count) parts = (
      count,
      ap (λ (i : List ℕ). sender_hello i session count) parts.deal_is ∙ ap (λ (n : ℕ). sender_hello deal.id n count) parts.session_is,
      parts.few,
    )
    by_parts (receiver_hello id session count) parts = absurd parts
    by_parts (column_frame index u) parts = absurd parts
    by_parts (tags_frame list block tags) parts = absurd parts
    by_parts (values_frame block values) parts = absurd parts
    by_parts done_frame parts = absurd parts

-- frames are those of a sender's stream with a count and lists
pub record AreStream (deal : ReceiverDeal) (frames : List Frame) : Type 0 where
  pub count : ℕ
  pub lists : List (List (List ℕ))
  pub frames_are : frames ≡ stream_frames deal count lists
  pub stream : IsStreamFor deal count lists (flat_map layout frames)

-- the frames that a receiver awaited are so
pub were_stream : (deal : ReceiverDeal) (placed : List Placed) (frames : List Frame) → IsReceiverDeal deal → AreBytes (flat_map layout frames)
    → AreAwaited (receiver_script deal placed) frames → AreStream deal frames
unfolding receiver_script
were_stream deal placed [] is bytes due = absurd due
were_stream deal placed (f ∷ frames) is bytes due =
    let hello = hello_read deal f (bytes-left (layout f) (flat_map layout frames) bytes) due.0 in
    let count : ℕ = hello.0 in
    let later : AreAwaited (awaits_lists deal.tag_length count 0 (3 + deal.stash)) frames =
    subst (λ (g : Frame). AreAwaited (answers_hello deal placed (count_in g)) frames) hello.1 due.1 in
    let rest : WereLists deal.tag_length count 0 (3 + deal.stash) frames =
    lists_read deal.tag_length count 0 (3 + deal.stash) frames (width_of deal is) (bytes-right (layout f) (flat_map layout frames) bytes) later in
    let all : f ∷ frames ≡ stream_frames deal count rest.lists = ap₂ (λ (g : Frame) (gs : List Frame). g ∷ gs) hello.1 rest.frames_are in
    record {
      count = count;
      lists = rest.lists;
      frames_are = all;
      stream = record {
        few = hello.2;
        size = rest.many;
        each = All-from_recursion (IsTagList deal.tag_length count) rest.lists rest.each;
        is = ap (flat_map layout) all ∙ sym (stream_bytes deal count rest.lists);
      };
    }

pub hears_nothing_else : HearsNothingElse
unfolding receiver_dialogue
hears_nothing_else deal placed bytes taken is small h =
    let stream = (reads_frames (receiver_script deal placed) [] bytes (good taken) small).0 h in
    let front : AreBytes (flat_map layout stream.frames) = bytes-left (flat_map layout stream.frames) stream.rest (subst AreBytes stream.split small) in
    let found = were_stream deal placed stream.frames is front stream.due in
    (found.count, found.lists, subst (IsStreamFor deal found.count found.lists) (sym stream.taken_is) found.stream)
