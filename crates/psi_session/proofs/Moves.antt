-- The moves that are left to two ends.
use Rattle.std.proofs.Common.{◌≡◌, ◌<◌, ◌≤◌, ◌∙◌, ℕ, suc, Bool, false, List, [], ◌∷◌, ◌++◌, length, take, drop, Some, refl, sym, ap, ap₂, arith, append_assoc, length-take}
use Rattle.std.proofs.lemmas.List.{append-nil, drop-append-le, take-append-le}
use Rattle.psi_spec.specs.Frames.{Frame, layout}
use Rattle.psi_frames.specs.declared.expect.Expect.{Expect}
use Rattle.psi_frames.specs.Expected.{IsValid, frame_at, frame_length}
use Rattle.psi_frames.specs.Script.{EndState, Script, after_frame, after_taking, awaits, due_after, due_frame, goes_on, over, sends}
use Rattle.psi_frames.proofs.FrameAt.{frame_at_layout}
use Rattle.psi_session.specs.Playing.{Sends, after_frame_sent}
use Rattle.psi_session.proofs.Passing.{sent_front, sent_valid}

-- how many moves are left to two ends, of which each owes these bytes and goes on with that script
abbrev pub moves_by : List ℕ → Script → List ℕ → Script → ℕ
moves_by out (sends more rest) out' script' = moves_by (out ++ more) rest out' script'
moves_by out over out' (sends more rest) = moves_by out over (out' ++ more) rest
moves_by out (awaits e next) out' (sends more rest) = moves_by out (awaits e next) (out' ++ more) rest
moves_by out over out' over = 0
moves_by [] over out' (awaits e' next') = 0
moves_by (x ∷ out) over out' (awaits e' next') = suc (moves_by (drop (frame_length e') (x ∷ out)) over out' (next' (frame_at e' (take (frame_length e') (x ∷ out)))))
moves_by out (awaits e next) [] over = 0
moves_by out (awaits e next) (y ∷ out') over = suc (moves_by out (next (frame_at e (take (frame_length e) (y ∷ out')))) (drop (frame_length e) (y ∷ out')) over)
moves_by [] (awaits e next) [] (awaits e' next') = 0
moves_by (x ∷ out) (awaits e next) out' (awaits e' next') = suc (moves_by (drop (frame_length e') (x ∷ out)) (awaits e next) out' (next' (frame_at e' (take (frame_length e') (x ∷ out)))))
moves_by [] (awaits e next) (y ∷ out') (awaits e' next') = suc (moves_by [] (next (frame_at e (take (frame_length e) (y ∷ out')))) (drop (frame_length e) (y ∷ out')) (awaits e' next'))

-- ---- bytes that are owed

-- the frame at the front of what is owed
front_frame : (e : Expect) (f : Frame) (out : List ℕ) → IsValid e f → take (frame_length e) out ≡ layout f → frame_at e (take (frame_length e) out) ≡ f
front_frame e f out valid front = ap (frame_at e) front ∙ frame_at_layout e f valid

-- it is owed whole
front_long : (e : Expect) (f : Frame) (out : List ℕ) → IsValid e f → take (frame_length e) out ≡ layout f → frame_length e ≤ length out
front_long e f out valid front = omega (arith, valid.long, ap length front, length-take (frame_length e) out)

-- ---- what a script sends first is owed

sends_second : (script : Script) (out out' more : List ℕ) (rest : Script) → moves_by out script out' (sends more rest) ≡ moves_by out script (out' ++ more) rest
sends_second over out out' more rest = refl
sends_second (sends first script) out out' more rest = sends_second script (out ++ first) out' more rest
sends_second (awaits e next) out out' more rest = refl

settled_second : (new : Bool) (script : Script) (out out' : List ℕ) (script' : Script) → moves_by out script out' script' ≡ moves_by out script (out' ++ (goes_on new script').owes) (goes_on new script').next
settled_second new script out out' over = ap (λ (xs : List ℕ). moves_by out script xs over) (sym (append-nil out'))
settled_second new script out out' (awaits e next) = ap (λ (xs : List ℕ). moves_by out script xs (awaits e next)) (sym (append-nil out'))
settled_second new script out out' (sends more rest) =
    sends_second script out out' more rest ∙ settled_second new script out (out' ++ more) rest
    ∙ ap (λ (xs : List ℕ). moves_by out script xs (goes_on new rest).next) (append_assoc out' more (goes_on new rest).owes)

settled_first : (new : Bool) (script : Script) (out out' : List ℕ) (script' : Script) → moves_by out script out' script' ≡ moves_by (out ++ (goes_on new script).owes) (goes_on new script).next out' script'
settled_first new over out out' script' = ap (λ (xs : List ℕ). moves_by xs over out' script') (sym (append-nil out))
settled_first new (awaits e next) out out' script' = ap (λ (xs : List ℕ). moves_by xs (awaits e next) out' script') (sym (append-nil out))
settled_first new (sends more rest) out out' script' =
    settled_first new rest (out ++ more) out' script'
    ∙ ap (λ (xs : List ℕ). moves_by xs (goes_on new rest).next out' script') (append_assoc out more (goes_on new rest).owes)

-- ---- one move less

-- after the first end sent a frame that the second awaited
sent_by_first : (e : Expect) (next : Frame → Script) (f : Frame) (script : Script) (out : List ℕ) → IsValid e f → take (frame_length e) out ≡ layout f
    → moves_by out script [] (awaits e next) ≡ suc (moves_by (drop (frame_length e) out) script [] (next f))
sent_by_first e next f over [] valid front = absurd (omega (arith, front_long e f [] valid front))
sent_by_first e next f over (x ∷ out) valid front = ap (λ (g : Frame). suc (moves_by (drop (frame_length e) (x ∷ out)) over [] (next g))) (front_frame e f (x ∷ out) valid front)
sent_by_first e next f (awaits e' next') [] valid front = absurd (omega (arith, front_long e f [] valid front))
sent_by_first e next f (awaits e' next') (x ∷ out) valid front =
    ap (λ (g : Frame). suc (moves_by (drop (frame_length e) (x ∷ out)) (awaits e' next') [] (next g))) (front_frame e f (x ∷ out) valid front)
sent_by_first e next f (sends more rest) out valid front =
    let long : frame_length e ≤ length out = front_long e f out valid front in
    sent_by_first e next f rest (out ++ more) valid (take-append-le (frame_length e) out more long ∙ front)
    ∙ ap (λ (xs : List ℕ). suc (moves_by xs rest [] (next f))) (drop-append-le (frame_length e) out more long)

-- after the second end sent a frame that the first awaited
sent_by_second : (e : Expect) (next : Frame → Script) (f : Frame) (script' : Script) (out' : List ℕ) → IsValid e f → take (frame_length e) out' ≡ layout f
    → moves_by [] (awaits e next) out' script' ≡ suc (moves_by [] (next f) (drop (frame_length e) out') script')
sent_by_second e next f over [] valid front = absurd (omega (arith, front_long e f [] valid front))
sent_by_second e next f over (y ∷ out') valid front = ap (λ (g : Frame). suc (moves_by [] (next g) (drop (frame_length e) (y ∷ out')) over)) (front_frame e f (y ∷ out') valid front)
sent_by_second e next f (awaits e' next') [] valid front = absurd (omega (arith, front_long e f [] valid front))
sent_by_second e next f (awaits e' next') (y ∷ out') valid front =
    ap (λ (g : Frame). suc (moves_by [] (next g) (drop (frame_length e) (y ∷ out')) (awaits e' next'))) (front_frame e f (y ∷ out') valid front)
sent_by_second e next f (sends more rest) out' valid front =
    let long : frame_length e ≤ length out' = front_long e f out' valid front in
    sent_by_second e next f rest (out' ++ more) valid (take-append-le (frame_length e) out' more long ∙ front)
    ∙ ap (λ (xs : List ℕ). suc (moves_by [] (next f) xs rest)) (drop-append-le (frame_length e) out' more long)
    ∙ ap suc (sym (sends_second (next f) [] (drop (frame_length e) out') more rest))

-- ---- two ends

-- how many moves are left to two ends
abbrev pub moves_left : EndState → EndState → ℕ
moves_left first second = moves_by first.owes first.next second.owes second.next

-- an end where a frame is due owes nothing, and awaits it
pub due_by : (out : List ℕ) (script : Script) (e : Expect) → due_after out script ≡ Some e → (next : Frame → Script) × (out ≡ []) × (script ≡ awaits e next)
due_by [] over e is = absurd (cc)
due_by [] (sends more rest) e is = absurd (cc)
due_by [] (awaits e' next) e is = (next, refl, ap (λ (x : Expect). awaits x next) (cc))
due_by (x ∷ out) script e is = absurd (cc)

-- the first end sent a frame, and the second took it
pub less_by_first : (e : Expect) (f : Frame) (first second : EndState) → due_frame second ≡ Some e → Sends f first second → moves_left (after_frame_sent f first) (after_taking f second) < moves_left first second
less_by_first e f first second due sent =
    let valid : IsValid e f = sent_valid e f first second due sent in
    let is = due_by second.owes second.next e due in
    let next : Frame → Script = is.0 in
    let rest : List ℕ = drop (length (layout f)) first.owes in
    let taken : after_taking f second ≡ goes_on false (next f) = ap (λ (s : Script). after_frame s f second) is.2 in
    let now : moves_left first second ≡ moves_by first.owes first.next [] (awaits e next) = ap₂ (λ (xs : List ℕ) (s : Script). moves_by first.owes first.next xs s) is.1 is.2 in
    let one : moves_left first second ≡ suc (moves_by rest first.next [] (next f)) =
    now ∙ sent_by_first e next f first.next first.owes valid (sent_front e f first second due sent) ∙ ap (λ (n : ℕ). suc (moves_by (drop n first.owes) first.next [] (next f))) (sym valid.long) in
    let left : moves_left (after_frame_sent f first) (after_taking f second) ≡ moves_by rest first.next [] (next f) =
    ap (λ (s : EndState). moves_by rest first.next s.owes s.next) taken ∙ sym (settled_second false first.next rest [] (next f)) in
    omega (arith, one, left)

-- the second end sent a frame, and the first took it
pub less_by_second : (e : Expect) (f : Frame) (first second : EndState) → due_frame first ≡ Some e → Sends f second first → moves_left (after_taking f first) (after_frame_sent f second) < moves_left first second
less_by_second e f first second due sent =
    let valid : IsValid e f = sent_valid e f second first due sent in
    let is = due_by first.owes first.next e due in
    let next : Frame → Script = is.0 in
    let rest : List ℕ = drop (length (layout f)) second.owes in
    let taken : after_taking f first ≡ goes_on false (next f) = ap (λ (s : Script). after_frame s f first) is.2 in
    let now : moves_left first second ≡ moves_by [] (awaits e next) second.owes second.next = ap₂ (λ (xs : List ℕ) (s : Script). moves_by xs s second.owes second.next) is.1 is.2 in
    let one : moves_left first second ≡ suc (moves_by [] (next f) rest second.next) =
    now ∙ sent_by_second e next f second.next second.owes valid (sent_front e f second first due sent) ∙ ap (λ (n : ℕ). suc (moves_by [] (next f) (drop n second.owes) second.next)) (sym valid.long) in
    let left : moves_left (after_taking f first) (after_frame_sent f second) ≡ moves_by [] (next f) rest second.next =
    ap (λ (s : EndState). moves_by s.owes s.next rest second.next) taken ∙ sym (settled_first false (next f) [] rest second.next) in
    omega (arith, one, left)
