-- Frames that are walked through, one after another.
use Rattle.std.proofs.Common.{◌≡◌, ◌+◌, ◌≤◌, ◌==◌, ◌&&◌, ◌∙◌, ℕ, Bool, true, false, not, List, length, drop, get_or, Result, Ok, Err, refl, sym, ap, ap₂, subst, arith}
use Rattle.std.proofs.Math.Bool.{and-false}
use Rattle.std.proofs.lemmas.Bool.{eq-eqb, ne_eqb}
use Rattle.std.proofs.lemmas.List.{drop-drop, drop_all, get_or-drop}
use Rattle.psi_spec.specs.Records.{has_frame, frame_size, last_place}
use Rattle.psi_spec.proofs.Records.{has_earlier, last_place-here, last_place-more}
use Rattle.psi_log.specs.declared.errors.BadRecord.{BadRecord}
use Rattle.psi_log.specs.declared.errors.BadRecord.TheVariants.{Short}
use Rattle.psi_log.specs.BadRecords.{EndsFrame, bad_frame}

-- the walk from `start` on has come to `at`
abbrev pub HasCome : ℕ → ℕ → List ℕ → Type 0
HasCome start at bytes = last_place at (drop at bytes) ≡ last_place start (drop start bytes)

-- the byte at a place is the first of those from there on
first_at : (at : ℕ) (bytes : List ℕ) → get_or (drop at bytes) 0 0 ≡ get_or bytes at 0
first_at at bytes = let same : at + 0 ≡ at = omega arith in get_or-drop at bytes 0 0 ∙ ap (λ (k : ℕ). get_or bytes k 0) same

ends_by : (start at : ℕ) (bytes : List ℕ) (result : Result ℕ BadRecord) → HasCome start at bytes → has_earlier (drop at bytes) ≡ false → EndsFrame at bytes result → EndsFrame (last_place start (drop start bytes)) bytes result
ends_by start at bytes result come none h = subst (λ (k : ℕ). EndsFrame k bytes result) (sym (last_place-here at (drop at bytes) none) ∙ come) h

-- the walk ends behind a frame of kind 5
pub ends_at_done : (start at end : ℕ) (bytes : List ℕ) → HasCome start at bytes → get_or bytes at 0 ≡ 5 → EndsFrame at bytes (Ok end) → EndsFrame (last_place start (drop start bytes)) bytes (Ok end)
ends_at_done start at end bytes come five h =
    let same : (get_or (drop at bytes) 0 0 == 5) ≡ true = eq-eqb (get_or (drop at bytes) 0 0) 5 (first_at at bytes ∙ five) in
    ends_by start at bytes (Ok end) come (ap (λ (b : Bool). has_frame (drop at bytes) && not b) same ∙ and-false (has_frame (drop at bytes))) h

-- it ends where no whole frame begins
pub ends_at_fault : (start at : ℕ) (bytes : List ℕ) (bad : BadRecord) → HasCome start at bytes → EndsFrame at bytes (Err bad) → EndsFrame (last_place start (drop start bytes)) bytes (Err bad)
ends_at_fault start at bytes bad come h =
    ends_by start at bytes (Err bad) come (ap (λ (b : Bool). b && not (get_or (drop at bytes) 0 0 == 5)) h.0) h

-- and at the end of the bytes
pub ends_at_end : (start at : ℕ) (bytes : List ℕ) → HasCome start at bytes → length bytes ≤ at → EndsFrame (last_place start (drop start bytes)) bytes (Err (Short at))
ends_at_end start at bytes come past =
    ends_at_fault start at bytes (Short at) come (subst (λ (rest : List ℕ). (has_frame rest ≡ false) × (Short at ≡ bad_frame at rest)) (sym (drop_all at bytes past)) (refl, refl))

-- it goes on behind each other frame
pub goes_on : (start at end : ℕ) (bytes : List ℕ) → HasCome start at bytes → (get_or bytes at 0 ≡ 5 → ⊥) → EndsFrame at bytes (Ok end) → HasCome start end bytes
goes_on start at end bytes come other h =
    let rest : List ℕ = drop at bytes in
    let kind : (get_or rest 0 0 == 5) ≡ false = ne_eqb (get_or rest 0 0) 5 (λ e. other (sym (first_at at bytes) ∙ e)) in
    let more : has_earlier rest ≡ true = ap₂ (λ (a b : Bool). a && not b) h.0 kind in
    ap₂ last_place h.1 (ap (λ (k : ℕ). drop k bytes) h.1 ∙ sym (drop-drop (frame_size rest) at bytes)) ∙ sym (last_place-more at rest more) ∙ come
