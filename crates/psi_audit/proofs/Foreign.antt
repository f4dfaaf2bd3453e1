-- Items that are shown and are none of the sender's.
use Rattle.std.proofs.Common.{◌≡◌, ◌+◌, ◌<◌, ◌∙◌, ℕ, suc, Bool, true, false, not, cond, ◌&&◌, List, [], ◌∷◌, ◌++◌, length, map, take, All, get_or, slice_get, Some, refl, sym, ap, ap₂, arith}
use Rattle.std.specs.List.{list_any, AllByRecursion}
use Rattle.std.specs.Str.{bytes_eq}
use Rattle.std.proofs.lemmas.List.{take_more, length-take-le, length-map, get_or-map}
use Rattle.std.proofs.lemmas.Option.{get_or_from_slice_get}
use Rattle.std.proofs.lemmas.List.Elements.{All-from_recursion}
use Rattle.psi_spec.specs.Collisions.{places_from}
use Rattle.psi_spec.specs.Limits.{bins_for}
use Rattle.psi_spec.specs.Meeting.{Placed, Setup, is_shown, placed_of}
use Rattle.psi_spec.specs.Placement.{IsPlacementOf, Slot}
use Rattle.psi_spec.proofs.Dealing.{length-placement}
use Rattle.psi_spec.proofs.Placing.{get_or-placed_of, length-placed_of}
use Rattle.psi_audit.specs.Naming.{is_stranger, strangers_from}
use Rattle.psi_audit.specs.Verdicts.{row_slot}
use Rattle.psi_audit.specs.declared.strangers.Stranger.{Stranger}

-- ---- places of marks

pub places-push : (at : ℕ) (marks : List Bool) (b : Bool) → places_from at (marks ++ b ∷ []) ≡ places_from at marks ++ cond b ((at + length marks) ∷ []) []
places-push at [] true = let same : at ≡ at + 0 = omega arith in ap (λ (n : ℕ). n ∷ []) same
places-push at [] false = refl
places-push at (true ∷ marks) b =
    let same : at + 1 + length marks ≡ at + suc (length marks) = omega arith in ap (λ (rest : List ℕ). at ∷ rest) (places-push (at + 1) marks b ∙ ap (λ (n : ℕ). places_from (at + 1) marks ++ cond b (n ∷ []) []) same)
places-push at (false ∷ marks) b =
    let same : at + 1 + length marks ≡ at + suc (length marks) = omega arith in places-push (at + 1) marks b ∙ ap (λ (n : ℕ). places_from (at + 1) marks ++ cond b (n ∷ []) []) same

-- one mark more
pub places_more : (marks : List Bool) (i : ℕ) (b : Bool) → i < length marks → get_or marks i false ≡ b → places_from 0 (take (i + 1) marks) ≡ places_from 0 (take i marks) ++ cond b (i ∷ []) []
places_more marks i b within is =
    let same : 0 + length (take i marks) ≡ i = omega (arith, length-take-le i marks (omega arith)) in
    ap (places_from 0) (take_more marks i false within ∙ ap (λ (c : Bool). take i marks ++ c ∷ []) is) ∙ (places-push 0 (take i marks) b ∙ ap (λ (n : ℕ). places_from 0 (take i marks) ++ cond b (n ∷ []) []) same)

-- ---- strangers

module _ (s : Setup) (ys : List (List ℕ)) where
  abbrev stranger_at : ℕ → Placed → Stranger
  stranger_at at p = record { item = at; slot = row_slot p.slot }

  strangers-push : (at : ℕ) (ps : List Placed) (p : Placed) → strangers_from s ys at (ps ++ p ∷ []) ≡ strangers_from s ys at ps ++ cond (is_stranger s ys p) (stranger_at (at + length ps) p ∷ []) []
  strangers-push at [] p =
      let same : at ≡ at + 0 = omega arith in
      ap (λ (n : ℕ). cond (is_stranger s ys p) (stranger_at n p ∷ []) []) same
  strangers-push at (q ∷ ps) p =
      let same : at + 1 + length ps ≡ at + suc (length ps) = omega arith in
      by_case (is_stranger s ys q) (strangers-push (at + 1) ps p ∙ ap (λ (n : ℕ). strangers_from s ys (at + 1) ps ++ cond (is_stranger s ys p) (stranger_at n p ∷ []) []) same)
    where
      more : List Stranger
      more = strangers_from s ys (at + 1) (ps ++ p ∷ [])

      last : List Stranger
      last = cond (is_stranger s ys p) (stranger_at (at + suc (length ps)) p ∷ []) []

      by_case : (b : Bool) → more ≡ strangers_from s ys (at + 1) ps ++ last → cond b (stranger_at at q ∷ more) more ≡ cond b (stranger_at at q ∷ strangers_from s ys (at + 1) ps) (strangers_from s ys (at + 1) ps) ++ last
      by_case true later = ap (λ (rest : List Stranger). stranger_at at q ∷ rest) later
      by_case false later = later

  -- one item more
  pub strangers_more : (ps : List Placed) (i : ℕ) (d : Placed) (b : Bool) → i < length ps → is_stranger s ys (get_or ps i d) ≡ b
      → strangers_from s ys 0 (take (i + 1) ps) ≡ strangers_from s ys 0 (take i ps) ++ cond b (stranger_at i (get_or ps i d) ∷ []) []
  strangers_more ps i d b within is =
      let p : Placed = get_or ps i d in
      let same : 0 + length (take i ps) ≡ i = omega (arith, length-take-le i ps (omega arith)) in
      ap (strangers_from s ys 0) (take_more ps i d within) ∙ (strangers-push 0 (take i ps) p
      ∙ (ap (λ (n : ℕ). strangers_from s ys 0 (take i ps) ++ cond (is_stranger s ys p) (stranger_at n p ∷ []) []) same
      ∙ ap (λ (c : Bool). strangers_from s ys 0 (take i ps) ++ cond c (stranger_at i p ∷ []) []) is))

  -- what holds for each item holds for each stranger
  pub each_stranger : (P : Slot → Type 0) (at : ℕ) (ps : List Placed) → AllByRecursion (λ p. P p.slot) ps → AllByRecursion (λ stranger. P (record { row = stranger.slot.row; index = stranger.slot.index })) (strangers_from s ys at ps)
  each_stranger P at [] all = tt
  each_stranger P at (p ∷ ps) all = by_case (is_stranger s ys p) (each_stranger P (at + 1) ps all.1)
    where
      by_case : (b : Bool) → AllByRecursion (λ stranger. P (record { row = stranger.slot.row; index = stranger.slot.index })) (strangers_from s ys (at + 1) ps)
          → AllByRecursion (λ stranger. P (record { row = stranger.slot.row; index = stranger.slot.index })) (cond b (stranger_at at p ∷ strangers_from s ys (at + 1) ps) (strangers_from s ys (at + 1) ps))
      by_case true later = (all.0, later)
      by_case false later = later

  pub All-strangers : (P : Slot → Type 0) (at : ℕ) (ps : List Placed) → AllByRecursion (λ p. P p.slot) ps → All (λ stranger. P (record { row = stranger.slot.row; index = stranger.slot.index })) (strangers_from s ys at ps)
  All-strangers P at ps all = All-from_recursion _ (strangers_from s ys at ps) (each_stranger P at ps all)

-- ---- the marks

marks_long : (xs : List (List ℕ)) (slots : List Slot) (f : Placed → Bool) (marks : List Bool) → length xs ≡ length slots → marks ≡ map f (placed_of xs slots) → length marks ≡ length xs
marks_long xs slots f marks long is = ap length is ∙ (length-map (placed_of xs slots) f ∙ length-placed_of xs slots long)

pub marks_count : (stash : ℕ) (key : List ℕ) (xs : List (List ℕ)) (slots : List Slot) (f : Placed → Bool) (marks : List Bool) → IsPlacementOf stash key (bins_for (length xs)) xs slots → marks ≡ map f (placed_of xs slots) → length marks ≡ length xs
marks_count stash key xs slots f marks placed is = marks_long xs slots f marks (length-placement stash key (bins_for (length xs)) xs slots placed) is

-- the placed item at a place
pub no_placed : Placed
no_placed = record { item = []; slot = record { row = 0; index = 0 } }

pub placed_there : (xs : List (List ℕ)) (slots : List Slot) (i : ℕ) (slot : Slot) → length xs ≡ length slots → i < length xs → slice_get slots i ≡ Some slot
    → get_or (placed_of xs slots) i no_placed ≡ record { item = get_or xs i []; slot = slot }
unfolding no_placed
placed_there xs slots i slot long within is =
    get_or-placed_of xs slots i [] slot no_placed within (omega arith) ∙ ap (λ (z : Slot). record { item = get_or xs i []; slot = z }) (get_or_from_slice_get slots i slot slot is)

-- whether it is a stranger
pub stranger_there : (s : Setup) (ys : List (List ℕ)) (i : ℕ) (marks : List Bool) (item : List ℕ) (slot : Slot) → i < length s.placed → marks ≡ map (is_shown s ys) s.placed
    → get_or s.placed i no_placed ≡ record { item = item; slot = slot }
    → is_stranger s ys (get_or s.placed i no_placed) ≡ (get_or marks i false && not (list_any (bytes_eq item) ys))
stranger_there s ys i marks item slot within marks_are is =
    ap₂ (λ (b c : Bool). b && c) (sym (ap (λ (ms : List Bool). get_or ms i false) marks_are ∙ get_or-map (is_shown s ys) s.placed i no_placed false within))
    (ap (λ (p : Placed). not (list_any (bytes_eq p.item) ys)) is)

-- one item more, that is a stranger or is none
pub more_strangers : (s : Setup) (ys : List (List ℕ)) (i : ℕ) (b : Bool) (marks : List Bool) (item : List ℕ) (slot : Slot) → i < length s.placed → marks ≡ map (is_shown s ys) s.placed
    → get_or s.placed i no_placed ≡ record { item = item; slot = slot } → b ≡ (get_or marks i false && not (list_any (bytes_eq item) ys))
    → strangers_from s ys 0 (take (i + 1) s.placed) ≡ strangers_from s ys 0 (take i s.placed) ++ cond b (record { item = i; slot = row_slot slot } ∷ []) []
more_strangers s ys i b marks item slot within marks_are is test =
    strangers_more s ys s.placed i no_placed b within (stranger_there s ys i marks item slot within marks_are is ∙ sym test)
    ∙ ap (λ (p : Placed). strangers_from s ys 0 (take i s.placed) ++ cond b (record { item = i; slot = row_slot p.slot } ∷ []) []) is
