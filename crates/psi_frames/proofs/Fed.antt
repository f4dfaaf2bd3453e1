-- Bytes that are fed to an inbox.
use Rattle.std.proofs.Common.{◌≡◌, ◌<◌, ◌≤◌, ◌+◌, ◌-◌, ◌∙◌, ℕ, zero, suc, min, Bool, true, false, nat_lt, List, [], ◌∷◌, ◌++◌, length, take, Option, Some, None, Result, Ok, Err, refl, sym, ap, ap₂, arith, append_assoc, length-append}
use Rattle.std.specs.Option.{option_map_or}
use Rattle.std.proofs.lemmas.Bool.{ltb-true, ltb-false}
use Rattle.std.proofs.lemmas.List.{append-nil, take_all, take-append-le, length-take}
use Rattle.psi_spec.specs.Frames.{Frame, layout}
use Rattle.psi_spec.proofs.Frames.{same_frame}
use Rattle.psi_frames.specs.declared.expect.Expect.{Expect}
use Rattle.psi_frames.specs.declared.frame.Frame as lent
use Rattle.psi_frames.specs.declared.reasons.BadFrame.{BadFrame}
use Rattle.psi_frames.specs.Expected.{IsValid, frame_length, seen, wrong}
use Rattle.psi_frames.specs.Boxes.{IsNext, InboxState, after_feed, missing_of, taken_of}
use Rattle.psi_frames.specs.Laws.{FedInPieces, Reads, ReadsWritten, RefusedTakesNone}

pub take_past : (n : ℕ) (a b : List ℕ) (j : ℕ) → n ≡ length a + j → take n (a ++ b) ≡ a ++ take j b
take_past n [] b j long = let one : n ≡ j = omega arith in ap (λ (k : ℕ). take k b) one
take_past zero (x ∷ a) b j long = absurd (omega arith)
take_past (suc n) (x ∷ a) b j long = ap (λ (xs : List ℕ). x ∷ xs) (take_past n a b j (omega arith))

-- the front of two pieces is a front of the first and then one of the second, by whether the first is long enough
fronts_by : (m : ℕ) (a b : List ℕ) (long : Bool) → nat_lt m (length a) ≡ long
    → take (min (length a) m) a ++ take (min (length b) (m - min (length a) m)) b ≡ take (min (length (a ++ b)) m) (a ++ b)
fronts_by m a b true is =
    let more : m < length a = ltb-true m (length a) is in
    let first : min (length a) m ≡ m = omega arith in
    let second : min (length b) (m - min (length a) m) ≡ 0 = omega arith in
    let both : min (length (a ++ b)) m ≡ m = omega (arith, length-append a b) in
    ap₂ (λ (i j : ℕ). take i a ++ take j b) first second ∙ append-nil (take m a) ∙ sym (take-append-le m a b (omega arith)) ∙ ap (λ (i : ℕ). take i (a ++ b)) (sym both)
fronts_by m a b false is =
    let less : length a ≤ m = ltb-false m (length a) is in
    let first : min (length a) m ≡ length a = omega arith in
    let both : min (length (a ++ b)) m ≡ length a + min (length b) (m - min (length a) m) = omega (arith, length-append a b) in
    ap (λ (xs : List ℕ). xs ++ take (min (length b) (m - min (length a) m)) b) (ap (λ (i : ℕ). take i a) first ∙ take_all (length a) a (omega arith))
    ∙ sym (take_past (min (length (a ++ b)) m) a b (min (length b) (m - min (length a) m)) both)

less_missing : (refused : Option BadFrame) (n k l : ℕ) → option_map_or (λ (_ : BadFrame). 0) refused (n - (k + l)) ≡ option_map_or (λ (_ : BadFrame). 0) refused (n - k) - l
less_missing None n k l = omega arith
less_missing (Some bad) n k l = omega arith

-- what is taken is wanted no more
missing-more : (e : Expect) (bytes : List ℕ) (old : InboxState) → missing_of (record old { held = old.held ++ bytes }) e ≡ missing_of old e - length bytes
missing-more e bytes old =
    ap (λ (n : ℕ). option_map_or (λ (_ : BadFrame). 0) old.refused (frame_length e - n)) (length-append old.held bytes)
    ∙ less_missing old.refused (frame_length e) (length old.held) (length bytes)

pub fed_in_pieces : FedInPieces
fed_in_pieces e box a b =
    let m : ℕ = missing_of box e in
    let first : List ℕ = take (min (length a) m) a in
    let long : length first ≡ min (length a) m = omega (arith, length-take (min (length a) m) a) in
    let left : missing_of (record box { held = box.held ++ first }) e ≡ m - min (length a) m = missing-more e first box ∙ ap (λ (n : ℕ). m - n) long in
    ap (λ (n : ℕ). record box { held = (box.held ++ first) ++ take (min (length b) n) b }) left
    ∙ ap (λ (xs : List ℕ). record box { held = xs }) (append_assoc box.held first (take (min (length b) (m - min (length a) m)) b))
    ∙ ap (λ (xs : List ℕ). record box { held = box.held ++ xs }) (fronts_by m a b (nat_lt m (length a)) refl)

-- an inbox that has refused wants nothing more, and takes nothing
pub refused_takes_none : RefusedTakesNone
refused_takes_none e box bytes bad is =
    let nothing : missing_of box e ≡ 0 = ap (λ (o : Option BadFrame). option_map_or (λ (_ : BadFrame). 0) o (frame_length e - length box.held)) is in
    let none : taken_of box e (length bytes) ≡ 0 = omega (arith, nothing) in
    (nothing, ap (λ (n : ℕ). record box { held = box.held ++ take n bytes }) none ∙ ap (λ (xs : List ℕ). record box { held = xs }) (append-nil box.held))

-- what is answered where the held bytes are the layout of a frame
read_by : (e : Expect) (f : Frame) (box : InboxState) (answer : Result (Option lent.Frame) BadFrame) → IsValid e f → box.held ≡ layout f → IsNext box e answer → Reads f answer
read_by e f box (Ok (Some g)) valid held found = same_frame (seen g) f found.fits valid.fits (found.values ∙ held)
read_by e f box (Ok None) valid held found =
    let long : length box.held ≡ length (layout f) = ap length held in
    omega (arith, long, found.short, valid.long)
read_by e f box (Err bad) valid held found =
    let right : wrong e box.held ≡ None = ap (wrong e) held ∙ valid.right in
    let wrong_too : wrong e box.held ≡ Some bad.reason = found.first in
    absurd (cc)

pub reads_written : ReadsWritten
reads_written e f more box answer valid empty calm found =
    let all : List ℕ = layout f ++ more in
    let missing : missing_of box e ≡ frame_length e - 0 = ap₂ (λ (o : Option BadFrame) (h : List ℕ). option_map_or (λ (_ : BadFrame). 0) o (frame_length e - length h)) calm empty in
    let count : taken_of box e (length all) ≡ length (layout f) = omega (arith, missing, valid.long, length-append (layout f) more) in
    let taken : take (taken_of box e (length all)) all ≡ layout f =
    ap (λ (n : ℕ). take n all) count ∙ take-append-le (length (layout f)) (layout f) more (omega arith) ∙ take_all (length (layout f)) (layout f) (omega arith) in
    let held : (after_feed e all box).held ≡ layout f =
    ap₂ (λ (h t : List ℕ). h ++ t) empty taken in
    read_by e f (after_feed e all box) answer valid held found
