-- Which items are shown, by their places, and which of them are no item of the sender.
use Rattle.std.specs.Prelude.{◌+◌, ℕ, Bool, true, false, List, [], ◌∷◌, ◌++◌, map, position, Option, Some, None, if◌then◌else◌}
use Rattle.std.specs.List.{list_any}
use Rattle.std.specs.Str.{bytes_eq}
use Rattle.psi_spec.specs.Meeting.{Placed, Setup, is_shown, meets}

-- the places of those that are marked, counted from `at` on
abbrev pub places_from : ℕ → List Bool → List ℕ
places_from at [] = []
places_from at (true ∷ marks) = at ∷ places_from (at + 1) marks
places_from at (false ∷ marks) = places_from (at + 1) marks

-- the places of the receiver's items that are shown, rising
abbrev pub shown_places : Setup → List (List ℕ) → List ℕ
shown_places s ys = places_from 0 (map (is_shown s ys) s.placed)

-- an item of the receiver that is shown and is no item of the sender, and the sender's item that it names: their places
pub record Collision : Type 0 where
  pub item : ℕ
  pub named : ℕ

-- the place of the first item of the sender that a placed item meets
abbrev pub named_place : Setup → List (List ℕ) → Placed → Option ℕ
named_place s ys p = position (meets s p.slot) ys

-- a collision at a place of the receiver's items, where a place of the sender's is named
abbrev pub collision_at : ℕ → Option ℕ → List Collision
collision_at at None = []
collision_at at (Some place) = record { item = at; named = place } ∷ []

-- the collisions of placed items, counted from `at` on: of each that is no item of the sender and meets one
abbrev pub collisions_from : Setup → List (List ℕ) → ℕ → List Placed → List Collision
collisions_from s ys at [] = []
collisions_from s ys at (p ∷ placed) =
    (if list_any (bytes_eq p.item) ys then [] else collision_at at (named_place s ys p))
    ++ collisions_from s ys (at + 1) placed

-- all collisions, in the order of the receiver's items
abbrev pub collisions : Setup → List (List ℕ) → List Collision
collisions s ys = collisions_from s ys 0 s.placed
