-- One end sends many frames, which the other one takes one after another.
use Rattle.std.proofs.Common.{◌≡◌, ◌∙◌, ℕ, Bool, false, List, [], ◌∷◌, ◌++◌, length, map, take, drop, refl, sym, ap, subst, append_assoc}
use Rattle.std.specs.List.{flat_map}
use Rattle.std.proofs.lemmas.List.{drop_at, take_at}
use Rattle.psi_spec.specs.Frames.{Frame, layout}
use Rattle.psi_frames.specs.declared.expect.Expect.{Expect}
use Rattle.psi_frames.specs.Expected.{IsValid}
use Rattle.psi_frames.specs.Script.{Script, awaits, goes_on, over, sends}
use Rattle.psi_spec.specs.Sessions.{Move, by_receiver, by_sender}
use Rattle.psi_session.specs.Playing.{Plays}

-- a script takes these frames with nothing sent between them, and goes on so
abbrev pub Takes : List Frame → Script → Script → Type 0
Takes [] script rest = script ≡ rest
Takes (f ∷ frames) over rest = ⊥
Takes (f ∷ frames) (sends out script) rest = ⊥
Takes (f ∷ frames) (awaits e next) rest = IsValid e f × Takes frames (next f) rest

-- the first end sends one frame, which the other one awaits
pub first_step : (f : Frame) (moves : List Move) (owes out : List ℕ) (next : Script) (new fresh : Bool) (e : Expect) (go : Frame → Script)
    → owes ≡ layout f ++ out → IsValid e f
    → Plays moves (record { owes = out; next = next; is_new = new }) (goes_on false (go f))
    → Plays (by_receiver f ∷ moves) (record { owes = owes; next = next; is_new = new }) (goes_on fresh (awaits e go))
first_step f moves owes out next new fresh e go is valid later = (
  record { owes = ap (take (length (layout f))) is ∙ take_at (layout f) out (length (layout f)) refl; due = valid },
  subst (λ (xs : List ℕ). Plays moves (record { owes = xs; next = next; is_new = new }) (goes_on false (go f)))
      (sym (ap (drop (length (layout f))) is ∙ drop_at (layout f) out (length (layout f)) refl)) later,
)

-- the second end sends one frame, which the other one awaits
pub second_step : (f : Frame) (moves : List Move) (owes out : List ℕ) (next : Script) (new fresh : Bool) (e : Expect) (go : Frame → Script)
    → owes ≡ layout f ++ out → IsValid e f
    → Plays moves (goes_on false (go f)) (record { owes = out; next = next; is_new = new })
    → Plays (by_sender f ∷ moves) (goes_on fresh (awaits e go)) (record { owes = owes; next = next; is_new = new })
second_step f moves owes out next new fresh e go is valid later = (
  record { owes = ap (take (length (layout f))) is ∙ take_at (layout f) out (length (layout f)) refl; due = valid },
  subst (λ (xs : List ℕ). Plays moves (goes_on false (go f)) (record { owes = xs; next = next; is_new = new }))
      (sym (ap (drop (length (layout f))) is ∙ drop_at (layout f) out (length (layout f)) refl)) later,
)

-- the first end sends them all
pub first_sends : (frames : List Frame) (moves : List Move) (owes out : List ℕ) (next : Script) (new : Bool) (script rest : Script)
    → owes ≡ flat_map layout frames ++ out → Takes frames script rest
    → Plays moves (record { owes = out; next = next; is_new = new }) (goes_on false rest)
    → Plays (map by_receiver frames ++ moves) (record { owes = owes; next = next; is_new = new }) (goes_on false script)
first_sends [] moves owes out next new script rest is takes later =
    subst (λ (s : Script). Plays moves (record { owes = owes; next = next; is_new = new }) (goes_on false s)) (sym takes)
    (subst (λ (xs : List ℕ). Plays moves (record { owes = xs; next = next; is_new = new }) (goes_on false rest)) (sym is) later)
first_sends (f ∷ frames) moves owes out next new over rest is takes later = absurd takes
first_sends (f ∷ frames) moves owes out next new (sends gone script) rest is takes later = absurd takes
first_sends (f ∷ frames) moves owes out next new (awaits e go) rest is takes later =
    let more : List ℕ = flat_map layout frames ++ out in
    first_step f (map by_receiver frames ++ moves) owes more next new false e go (is ∙ append_assoc (layout f) (flat_map layout frames) out) takes.0
    (first_sends frames moves more out next new (go f) rest refl takes.1 later)

-- the second end sends them all
pub second_sends : (frames : List Frame) (moves : List Move) (owes out : List ℕ) (next : Script) (new : Bool) (script rest : Script)
    → owes ≡ flat_map layout frames ++ out → Takes frames script rest
    → Plays moves (goes_on false rest) (record { owes = out; next = next; is_new = new })
    → Plays (map by_sender frames ++ moves) (goes_on false script) (record { owes = owes; next = next; is_new = new })
second_sends [] moves owes out next new script rest is takes later =
    subst (λ (s : Script). Plays moves (goes_on false s) (record { owes = owes; next = next; is_new = new })) (sym takes)
    (subst (λ (xs : List ℕ). Plays moves (goes_on false rest) (record { owes = xs; next = next; is_new = new })) (sym is) later)
second_sends (f ∷ frames) moves owes out next new over rest is takes later = absurd takes
second_sends (f ∷ frames) moves owes out next new (sends gone script) rest is takes later = absurd takes
second_sends (f ∷ frames) moves owes out next new (awaits e go) rest is takes later =
    let more : List ℕ = flat_map layout frames ++ out in
    second_step f (map by_sender frames ++ moves) owes more next new false e go (is ∙ append_assoc (layout f) (flat_map layout frames) out) takes.0
    (second_sends frames moves more out next new (go f) rest refl takes.1 later)
