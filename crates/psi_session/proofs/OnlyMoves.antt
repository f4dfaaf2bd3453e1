-- Two ends play in one way only.
use Rattle.std.proofs.Common.{◌≡◌, ◌∙◌, ℕ, List, [], ◌∷◌, length, take, Option, Some, None, refl, sym, ap, ap₂, subst, arith}
use Rattle.psi_spec.specs.Frames.{Frame, layout, receiver_hello, sender_hello, column_frame, tags_frame, values_frame, done_frame}
use Rattle.psi_spec.proofs.Frames.{same_frame}
use Rattle.psi_frames.specs.declared.expect.Expect.{Expect}
use Rattle.psi_frames.specs.Script.{EndState, MayCome, Script, after_taking, awaits, due_after, due_frame, over, sends}
use Rattle.psi_spec.specs.Sessions.{Move, by_receiver, by_sender}
use Rattle.psi_session.specs.Playing.{Plays, after_frame_sent}

-- the bytes of a frame are none of no bytes
some_bytes : (f : Frame) → take (length (layout f)) [] ≡ layout f → ⊥
some_bytes (receiver_hello id session count) none = omega (arith, ap length none)
some_bytes (sender_hello id session count) none = omega (arith, ap length none)
some_bytes (column_frame index bytes) none = omega (arith, ap length none)
some_bytes (tags_frame list block tags) none = omega (arith, ap length none)
some_bytes (values_frame block values) none = omega (arith, ap length none)
some_bytes done_frame none = omega (arith, ap length none)

-- an end that owes a frame first owes some bytes
some_owed : (f : Frame) (owes : List ℕ) → take (length (layout f)) owes ≡ layout f → owes ≡ [] → ⊥
some_owed f owes front none = some_bytes f (ap (take (length (layout f))) (sym none) ∙ front)

-- an end at which a frame may come owes none
pub none_owed : (owes : List ℕ) (next : Script) (f : Frame) → MayCome (due_after owes next) f → owes ≡ []
none_owed [] next f may = refl
none_owed (x ∷ xs) over f may = absurd may
none_owed (x ∷ xs) (sends out rest) f may = absurd may
none_owed (x ∷ xs) (awaits e next) f may = absurd may

-- of two frames that may come and stand at the front of the same bytes, one is the other
one_frame : (due : Option Expect) (f g : Frame) (owes : List ℕ) → MayCome due f → MayCome due g
    → take (length (layout f)) owes ≡ layout f → take (length (layout g)) owes ≡ layout g → f ≡ g
one_frame None f g owes may may' front front' = absurd may
one_frame (Some e) f g owes may may' front front' =
    same_frame f g may.fits may'.fits (sym front ∙ ap (λ (n : ℕ). take n owes) (may.long ∙ sym may'.long) ∙ front')

-- moves that both ends make until they are done are the only ones
pub only_moves : (moves others : List Move) (first second : EndState) → Plays moves first second → Plays others first second → moves ≡ others
only_moves [] [] first second p q = refl
only_moves [] (by_receiver g ∷ others) first second p q = absurd (some_owed g first.owes q.0.owes p.0.owes)
only_moves [] (by_sender g ∷ others) first second p q = absurd (some_owed g second.owes q.0.owes p.1.owes)
only_moves (by_receiver f ∷ moves) [] first second p q = absurd (some_owed f first.owes p.0.owes q.0.owes)
only_moves (by_sender f ∷ moves) [] first second p q = absurd (some_owed f second.owes p.0.owes q.1.owes)
only_moves (by_receiver f ∷ moves) (by_sender g ∷ others) first second p q =
    absurd (some_owed f first.owes p.0.owes (none_owed first.owes first.next g q.0.due))
only_moves (by_sender f ∷ moves) (by_receiver g ∷ others) first second p q =
    absurd (some_owed f second.owes p.0.owes (none_owed second.owes second.next g q.0.due))
only_moves (by_receiver f ∷ moves) (by_receiver g ∷ others) first second p q =
    let same : f ≡ g = one_frame (due_frame second) f g first.owes p.0.due q.0.due p.0.owes q.0.owes in
    ap₂ (λ (h : Frame) (ms : List Move). by_receiver h ∷ ms) same
    (only_moves moves others (after_frame_sent f first) (after_taking f second) p.1
    (subst (λ (h : Frame). Plays others (after_frame_sent h first) (after_taking h second)) (sym same) q.1))
only_moves (by_sender f ∷ moves) (by_sender g ∷ others) first second p q =
    let same : f ≡ g = one_frame (due_frame first) f g second.owes p.0.due q.0.due p.0.owes q.0.owes in
    ap₂ (λ (h : Frame) (ms : List Move). by_sender h ∷ ms) same
    (only_moves moves others (after_taking f first) (after_frame_sent f second) p.1
    (subst (λ (h : Frame). Plays others (after_taking h first) (after_frame_sent h second)) (sym same) q.1))
