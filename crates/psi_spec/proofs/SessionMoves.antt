-- What the moves of a session come to: the stream of either end, and the bytes on the wire.
use Rattle.std.proofs.Common.{◌≡◌, ◌∙◌, ℕ, List, [], ◌∷◌, ◌++◌, length, map, refl, sym, ap, arith}
use Rattle.std.proofs.lemmas.Grind.{flat_map-append}
use Rattle.std.proofs.lemmas.List.{append-nil, append_assoc, length-append}
use Rattle.psi_spec.specs.Frames.{Frame, layout, receiver_hello, sender_hello, done_frame}
use Rattle.psi_spec.specs.Streams.{column_frames, columns_stream, layouts, lists_frames, lists_stream, receiver_stream, sender_stream}
use Rattle.psi_spec.specs.Sessions.{Move, by_receiver, by_sender, dealt_lists, dealt_masked, moves_with, of_receiver, of_sender, wire_bytes}
use Rattle.psi_spec.specs.SessionLaws.{EndsMove, SessionsHaveStreams, WiresJoinStreams}

-- ---- the frames of either end

pub receivers_moved : (frames : List Frame) (moves : List Move)
    → (of_receiver (map by_receiver frames ++ moves) ≡ frames ++ of_receiver moves)
    × (of_sender (map by_receiver frames ++ moves) ≡ of_sender moves)
receivers_moved [] moves = (refl, refl)
receivers_moved (f ∷ frames) moves =
    let rest = receivers_moved frames moves in (ap (λ (fs : List Frame). f ∷ fs) rest.0, rest.1)

pub senders_moved : (frames : List Frame) (moves : List Move)
    → (of_receiver (map by_sender frames ++ moves) ≡ of_receiver moves)
    × (of_sender (map by_sender frames ++ moves) ≡ frames ++ of_sender moves)
senders_moved [] moves = (refl, refl)
senders_moved (f ∷ frames) moves =
    let rest = senders_moved frames moves in (rest.0, ap (λ (fs : List Frame). f ∷ fs) rest.1)

pub ends_move : EndsMove
ends_move hello answer columns lists =
    let sent : List Frame = column_frames 0 columns in
    let tags : List Frame = lists_frames 0 lists in
    let last : List Move = by_receiver done_frame ∷ [] in
    let later = senders_moved tags last in
    let all = receivers_moved sent (map by_sender tags ++ last) in (
      ap (λ (fs : List Frame). hello ∷ fs) (all.0 ∙ ap (λ (fs : List Frame). sent ++ fs) later.0),
      ap (λ (fs : List Frame). answer ∷ fs) (all.1 ∙ later.1 ∙ append-nil tags),
    )

-- ---- the wire

pub receivers_wire : (frames : List Frame) (moves : List Move)
    → wire_bytes (map by_receiver frames ++ moves) ≡ layouts frames ++ wire_bytes moves
receivers_wire [] moves = refl
receivers_wire (f ∷ frames) moves =
    ap (λ (xs : List ℕ). layout f ++ xs) (receivers_wire frames moves)
    ∙ sym (append_assoc (layout f) (layouts frames) (wire_bytes moves))

pub senders_wire : (frames : List Frame) (moves : List Move)
    → wire_bytes (map by_sender frames ++ moves) ≡ layouts frames ++ wire_bytes moves
senders_wire [] moves = refl
senders_wire (f ∷ frames) moves =
    ap (λ (xs : List ℕ). layout f ++ xs) (senders_wire frames moves)
    ∙ sym (append_assoc (layout f) (layouts frames) (wire_bytes moves))

-- both hellos, the columns, the lists and the end, as they are sent
pub wire_is : (hello answer : Frame) (columns : List (List ℕ)) (lists : List (List (List ℕ)))
    → wire_bytes (moves_with hello answer columns lists)
    ≡ layout hello
    ++ (layout answer ++ (layouts (column_frames 0 columns) ++ (layouts (lists_frames 0 lists) ++ layout done_frame)))
wire_is hello answer columns lists =
    let tags : List Frame = lists_frames 0 lists in
    let last : List Move = by_receiver done_frame ∷ [] in
    ap (λ (xs : List ℕ). layout hello ++ (layout answer ++ xs))
    (receivers_wire (column_frames 0 columns) (map by_sender tags ++ last)
    ∙ ap (λ (xs : List ℕ). layouts (column_frames 0 columns) ++ xs)
    (senders_wire tags last ∙ ap (λ (xs : List ℕ). layouts tags ++ xs) (append-nil (layout done_frame))))

pub wires_join_streams : WiresJoinStreams
unfolding columns_stream lists_stream
wires_join_streams id peer_id session peer_session m n columns lists =
    let hello : List ℕ = layout (receiver_hello id session m) in
    let answer : List ℕ = layout (sender_hello peer_id peer_session n) in
    let sent : List ℕ = layouts (column_frames 0 columns) in
    let tags : List ℕ = layouts (lists_frames 0 lists) in
    let end : List ℕ = layout done_frame in
    ap length (wire_is (receiver_hello id session m) (sender_hello peer_id peer_session n) columns lists)
    ∙ omega (
      arith,
      length-append hello (answer ++ (sent ++ (tags ++ end))),
      length-append answer (sent ++ (tags ++ end)),
      length-append sent (tags ++ end),
      length-append tags end,
      length-append (hello ++ sent) end,
      length-append hello sent,
      length-append answer tags,
    )

-- ---- the streams

pub sessions_have_streams : SessionsHaveStreams
unfolding columns_stream lists_stream receiver_stream sender_stream
sessions_have_streams receiver sender placed ys =
    let hello : Frame = receiver_hello receiver.id receiver.session (length placed) in
    let answer : Frame = sender_hello sender.id sender.session (length ys) in
    let sent : List Frame = column_frames 0 (dealt_masked receiver placed) in
    let moved = ends_move hello answer (dealt_masked receiver placed) (dealt_lists receiver sender placed ys) in (
      ap layouts moved.0
          ∙ ap (λ (xs : List ℕ). layout hello ++ xs)
          (flat_map-append layout sent (done_frame ∷ [])
          ∙ ap (λ (xs : List ℕ). layouts sent ++ xs) (append-nil (layout done_frame)))
          ∙ sym (append_assoc (layout hello) (layouts sent) (layout done_frame)),
      ap layouts moved.1,
    )
