-- Lines that are kept as bytes, one line more at a time, and where each of them stands.
use Rattle.std.proofs.Common.{◌≡◌, ◌∙◌, ◌+◌, ◌-◌, ◌*◌, ◌<◌, ◌≤◌, ℕ, zero, suc, List, [], ◌∷◌, ◌++◌, length, take, drop, get_or, refl, sym, ap, ap₂, subst, All, arith}
use Rattle.std.proofs.lemmas.List.{drop_at, take_all, drop-append-le, take-append-le, length-drop, length_push, length-append}
use Rattle.std.proofs.lemmas.List.Elements.{All-nil, All-push, All-get_or}
use Rattle.psi_spec.specs.Limits.{limit_items, line_limit}
use Rattle.psi_lines.specs.Cutting.{cut_at, start_in, RiseTo, IsShort, AreLines, ArePacked}

-- ---- ends

start_within : (size start : ℕ) (ends : List ℕ) → RiseTo size start ends → start ≤ size
start_within size start [] h = omega (arith, h)
start_within size start (end ∷ ends) h = omega (arith, h.0, start_within size end ends h.1)

RiseTo-push : (size more start : ℕ) (ends : List ℕ) → RiseTo size start ends → size ≤ more → RiseTo more start (ends ++ more ∷ [])
RiseTo-push size more start [] h l = (omega (arith, h), refl)
RiseTo-push size more start (end ∷ ends) h l = (h.0, RiseTo-push size more end ends h.1 l)

start_in-cons : (start end i : ℕ) (ends : List ℕ) → start_in end ends i ≡ get_or (end ∷ ends) i 0
start_in-cons start end zero ends = refl
start_in-cons start end (suc i) ends = refl

pub start_in-next : (start : ℕ) (ends : List ℕ) (i : ℕ) → start_in start ends (i + 1) ≡ get_or ends i 0
start_in-next start ends i = let place : i + 1 ≡ suc i = omega arith in ap (start_in start ends) place

-- a line ends no earlier than it begins, and within the bytes
pub starts_before : (size start : ℕ) (ends : List ℕ) (i : ℕ) → RiseTo size start ends → i < length ends → start_in start ends i ≤ get_or ends i 0
starts_before size start [] i h l = absurd (omega arith)
starts_before size start (end ∷ ends) zero h l = h.0
starts_before size start (end ∷ ends) (suc i) h l =
    subst (λ (k : ℕ). k ≤ get_or ends i 0) (start_in-cons start end i ends) (starts_before size end ends i h.1 (omega arith))

pub ends_within : (size start : ℕ) (ends : List ℕ) (i : ℕ) → RiseTo size start ends → i < length ends → get_or ends i 0 ≤ size
ends_within size start [] i h l = absurd (omega arith)
ends_within size start (end ∷ ends) zero h l = start_within size end ends h.1
ends_within size start (end ∷ ends) (suc i) h l = ends_within size end ends i h.1 (omega arith)

-- ---- lines

pub length-cut_at : (start : ℕ) (ends bytes : List ℕ) → length (cut_at start ends bytes) ≡ length ends
length-cut_at start [] bytes = refl
length-cut_at start (end ∷ ends) bytes = ap suc (length-cut_at end ends bytes)

-- line i is what stands between its ends
pub get_or-cut_at : (start : ℕ) (ends bytes : List ℕ) (i : ℕ) → i < length ends
    → get_or (cut_at start ends bytes) i [] ≡ take (get_or ends i 0 - start_in start ends i) (drop (start_in start ends i) bytes)
get_or-cut_at start [] bytes i l = absurd (omega arith)
get_or-cut_at start (end ∷ ends) bytes zero l = refl
get_or-cut_at start (end ∷ ends) bytes (suc i) l =
    get_or-cut_at end ends bytes i (omega arith)
    ∙ ap (λ (k : ℕ). take (get_or ends i 0 - k) (drop k bytes)) (start_in-cons start end i ends)

-- with the bytes of one more line
cut_at-push : (start : ℕ) (ends bytes line : List ℕ) → RiseTo (length bytes) start ends
    → cut_at start (ends ++ length (bytes ++ line) ∷ []) (bytes ++ line) ≡ cut_at start ends bytes ++ line ∷ []
cut_at-push start [] bytes line h =
    ap (λ (rest : List ℕ). take (length (bytes ++ line) - start) rest ∷ []) (drop_at bytes line start (sym h))
    ∙ ap (λ (x : List ℕ). x ∷ []) (take_all (length (bytes ++ line) - start) line (omega (arith, h, length-append bytes line)))
cut_at-push start (end ∷ ends) bytes line h =
    let low : start ≤ end = h.0 in
    let high : end ≤ length bytes = start_within (length bytes) end ends h.1 in
    let front : take (end - start) (drop start (bytes ++ line)) ≡ take (end - start) (drop start bytes) =
    ap (take (end - start)) (drop-append-le start bytes line (omega (arith, low, high)))
    ∙ take-append-le (end - start) (drop start bytes) line (omega (arith, low, high, length-drop start bytes)) in
    ap₂ (λ (x : List ℕ) (xs : List (List ℕ)). x ∷ xs) front (cut_at-push end ends bytes line h.1)

-- ---- packed lines

pub ArePacked-nil : ArePacked [] []
ArePacked-nil = record { few = omega arith; rise = refl; each = All-nil IsShort; size = omega arith }

pub lines_packed : (ends bytes line : List ℕ) → ArePacked ends bytes
    → cut_at 0 (ends ++ length (bytes ++ line) ∷ []) (bytes ++ line) ≡ cut_at 0 ends bytes ++ line ∷ []
lines_packed ends bytes line packed = cut_at-push 0 ends bytes line packed.rise

pub ArePacked-push : (ends bytes line : List ℕ) → ArePacked ends bytes → length ends < limit_items → length line ≤ line_limit
    → ArePacked (ends ++ length (bytes ++ line) ∷ []) (bytes ++ line)
ArePacked-push ends bytes line packed room short =
    let count : length (ends ++ length (bytes ++ line) ∷ []) ≡ length ends + 1 = length_push ends (length (bytes ++ line)) in
    let long : length (bytes ++ line) ≡ length bytes + length line = length-append bytes line in
    let size : length bytes ≤ line_limit * length ends = packed.size in
    record {
      few = omega (arith, count, room);
      rise = RiseTo-push (length bytes) (length (bytes ++ line)) 0 ends packed.rise (omega (arith, long));
      each = subst (All IsShort) (sym (lines_packed ends bytes line packed)) (All-push IsShort (cut_at 0 ends bytes) line packed.each short);
      size = omega (arith, count, long, size, short);
    }

pub are_lines : (ends bytes : List ℕ) → ArePacked ends bytes → AreLines (cut_at 0 ends bytes)
are_lines ends bytes packed =
    record { few = omega (arith, length-cut_at 0 ends bytes, packed.few); each = packed.each }

pub IsShort-cut_at : (ends bytes : List ℕ) (i : ℕ) → ArePacked ends bytes → i < length ends
    → IsShort (take (get_or ends i 0 - start_in 0 ends i) (drop (start_in 0 ends i) bytes))
IsShort-cut_at ends bytes i packed l =
    subst IsShort (get_or-cut_at 0 ends bytes i l)
    (All-get_or IsShort (cut_at 0 ends bytes) i [] (omega (arith, length-cut_at 0 ends bytes, l)) packed.each)
