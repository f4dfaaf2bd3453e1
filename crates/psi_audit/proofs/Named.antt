-- Collisions, and what strangers name.
use Rattle.std.proofs.Common.{◌≡◌, ◌+◌, ◌-◌, ◌<◌, ◌≤◌, ◌∙◌, inl, inr, ℕ, Bool, true, false, not, cond, ◌&&◌, List, [], ◌∷◌, ◌++◌, length, map, take, All, get_or, nat_eq, nat_lt, Option, Some, None, position, replicate, append_assoc, length-take-le, take_all, refl, sym, ap, ap₂, subst, arith, eq-eqb, ◌⊎◌}
use Rattle.std.specs.List.{list_any, AllByRecursion, AllZip}
use Rattle.std.specs.Str.{bytes_eq}
use Rattle.std.proofs.lemmas.Bool.{ne_eqb, lt-ltb, le-ltb}
use Rattle.std.proofs.lemmas.List.{take_more, map-append, length-map}
use Rattle.std.proofs.lemmas.Simd.{map-map}
use Rattle.std.proofs.lemmas.List.Elements.{All-map, recursion_from_All}
use Rattle.psi_spec.specs.Collisions.{Collision, collision_at, collisions_from}
use Rattle.psi_spec.specs.Formulas.{bin, item_digest, padded}
use Rattle.psi_spec.specs.Hits.{list_of_slot}
use Rattle.psi_spec.specs.Meeting.{Placed, Setup, meets, own_tag, peer_row, peer_tag, placed_of}
use Rattle.psi_spec.specs.Placement.{MayHave, Slot, candidates_of}
use Rattle.psi_spec.proofs.Placing.{slot_within}
use Rattle.psi_spec.proofs.Tags.{bytes_eq-append_right, bytes_eq-same, same_from_bytes_eq}
use Rattle.psi_spec.proofs.Lists.{same_test}
use Rattle.psi_cuckoo.specs.Table.{slot_of}
use Rattle.psi_audit.specs.Naming.{AreWithin, listed_peer_tag, named_pairs, pair_at, stranger_tag, strangers_from}
use Rattle.psi_audit.specs.Searching.{HasMetAll, IsBegun, Wants, found_at}
use Rattle.psi_audit.specs.Verdicts.{places_of, row_slot}
use Rattle.psi_audit.specs.declared.naming.ListedTag.{ListedTag}
use Rattle.psi_audit.specs.declared.naming.Search.{Search}
use Rattle.psi_audit.specs.declared.strangers.Stranger.{Stranger}
use Rattle.psi_audit.proofs.Foreign.{All-strangers, each_stranger}
use Rattle.psi_audit.proofs.Positions.{position-none}

-- ---- the pairs of a loop

pairs-push : (sts : List Stranger) (names : List (Option ℕ)) (st : Stranger) (name : Option ℕ) → length sts ≡ length names
    → named_pairs (sts ++ st ∷ []) (names ++ name ∷ []) ≡ named_pairs sts names ++ pair_at st.item name
pairs-push [] [] st None l = refl
pairs-push [] [] st (Some x) l = refl
pairs-push [] (n ∷ names) st name l = absurd (omega arith)
pairs-push (s ∷ sts) [] st name l = absurd (omega arith)
pairs-push (s ∷ sts) (n ∷ names) st name l =
    ap (λ (rest : List (ℕ × ℕ)). pair_at s.item n ++ rest) (pairs-push sts names st name (omega arith)) ∙ sym (append_assoc (pair_at s.item n) (named_pairs sts names) (pair_at st.item name))

pub pairs_more : (f : ListedTag → Option ℕ) (sts : List Stranger) (ts : List ListedTag) (i : ℕ) (d : Stranger) (e : ListedTag) → length ts ≡ length sts → i < length sts
    → named_pairs (take (i + 1) sts) (map f (take (i + 1) ts)) ≡ named_pairs (take i sts) (map f (take i ts)) ++ pair_at (get_or sts i d).item (f (get_or ts i e))
pairs_more f sts ts i d e same within =
    ap₂ (λ (ss : List Stranger) (ns : List (Option ℕ)). named_pairs ss ns) (take_more sts i d within) (ap (map f) (take_more ts i e (omega arith)) ∙ map-append f (take i ts) (get_or ts i e ∷ []))
    ∙ pairs-push (take i sts) (map f (take i ts)) (get_or sts i d) (f (get_or ts i e))
    (length-take-le i sts (omega arith) ∙ sym (length-map (take i ts) f ∙ length-take-le i ts (omega arith)))

pub all_pairs : (f : ListedTag → Option ℕ) (sts : List Stranger) (ts : List ListedTag) (n : ℕ) → length sts ≤ n → length ts ≤ n → named_pairs (take n sts) (map f (take n ts)) ≡ named_pairs sts (map f ts)
all_pairs f sts ts n l m = ap₂ (λ (ss : List Stranger) (us : List ListedTag). named_pairs ss (map f us)) (take_all n sts l) (take_all n ts m)

-- ---- slots of a placement

-- a slot has a row of the stash and index 0, or a row and an index from 1 to 3
abbrev pub IsGood : ℕ → ℕ → Slot → Type 0
IsGood stash bins slot = ((slot.index ≡ 0) × (bins ≤ slot.row) × (slot.row < bins + stash)) ⊎ ((0 < slot.index) × (slot.index ≤ 3) × (slot.row < bins + stash))

good_slot : (stash : ℕ) (key : List ℕ) (bins : ℕ) (item : List ℕ) (slot : Slot) → 0 < bins → MayHave stash bins (candidates_of key bins item) slot → IsGood stash bins slot
good_slot stash key bins item slot some (inl h) = inl h
good_slot stash key bins item slot some (inr h) =
    let within = slot_within stash key bins item slot some (inr h) in
    inr (h.0, within.1, within.0)

pub good_placed : (stash : ℕ) (key : List ℕ) (bins : ℕ) (items : List (List ℕ)) (slots : List Slot) → 0 < bins → AllZip (MayHave stash bins) (map (candidates_of key bins) items) slots
    → AllByRecursion (λ p. IsGood stash bins p.slot) (placed_of items slots)
good_placed stash key bins [] slots some each = tt
good_placed stash key bins (x ∷ items) [] some each = tt
good_placed stash key bins (x ∷ items) (slot ∷ slots) some each = (good_slot stash key bins x slot some each.0, good_placed stash key bins items slots some each.1)

pub good_within : (stash bins : ℕ) (slot : Slot) → IsGood stash bins slot → (slot.row < bins + stash) × (slot.index ≤ 3)
good_within stash bins slot (inl h) = (h.2, omega arith)
good_within stash bins slot (inr h) = (h.2, h.1)

pub good_list : (stash bins : ℕ) (slot : Slot) → IsGood stash bins slot → list_of_slot bins slot < 3 + stash
good_list stash bins slot (inl h) =
    let none : nat_eq slot.index 0 ≡ true = eq-eqb slot.index 0 h.0 in
    let low : bins ≤ slot.row = h.1 in
    let high : slot.row < bins + stash = h.2 in
    rw none (omega arith)
good_list stash bins slot (inr h) =
    let some : 0 < slot.index = h.0 in
    let few : slot.index ≤ 3 = h.1 in
    let other : nat_eq slot.index 0 ≡ false = ne_eqb slot.index 0 (λ e. omega arith) in
    rw other (omega arith)

-- ---- tags of lists

-- the tag of a sender's item in a slot's list is the one that the slot is compared with
list_is : (stash : ℕ) (s : Setup) (slot : Slot) (y : List ℕ) → IsGood stash s.bins slot → listed_peer_tag s (list_of_slot s.bins slot) y ≡ padded s.tag_length (peer_tag s slot.index (peer_row s slot y) y)
list_is stash s slot y (inl h) =
    let none : nat_eq slot.index 0 ≡ true = eq-eqb slot.index 0 h.0 in
    let low : s.bins ≤ slot.row = h.1 in
    let past : nat_lt (3 + (slot.row - s.bins)) 3 ≡ false = le-ltb (3 + (slot.row - s.bins)) 3 (omega arith) in
    let row : s.bins + (3 + (slot.row - s.bins) - 3) ≡ slot.row = omega arith in
    let own : ℕ = bin s.key s.bins slot.index (item_digest y) in
    ap (λ (b : Bool). listed_peer_tag s (cond b (3 + (slot.row - s.bins)) (slot.index - 1)) y) none
    ∙ (ap (λ (b : Bool). padded s.tag_length (cond b (peer_tag s (3 + (slot.row - s.bins) + 1) (bin s.key s.bins (3 + (slot.row - s.bins) + 1) (item_digest y)) y) (peer_tag s 0 (s.bins + (3 + (slot.row - s.bins) - 3)) y))) past
    ∙ (ap₂ (λ (i r : ℕ). padded s.tag_length (peer_tag s i r y)) (sym h.0) row
    ∙ ap (λ (b : Bool). padded s.tag_length (peer_tag s slot.index (cond b slot.row own) y)) (sym none)))
list_is stash s slot y (inr h) =
    let some : 0 < slot.index = h.0 in
    let few : slot.index ≤ 3 = h.1 in
    let other : nat_eq slot.index 0 ≡ false = ne_eqb slot.index 0 (λ e. omega arith) in
    let within : nat_lt (slot.index - 1) 3 ≡ true = lt-ltb (slot.index - 1) 3 (omega arith) in
    let index : slot.index - 1 + 1 ≡ slot.index = omega arith in
    let own : ℕ = bin s.key s.bins slot.index (item_digest y) in
    ap (λ (b : Bool). listed_peer_tag s (cond b (3 + (slot.row - s.bins)) (slot.index - 1)) y) other
    ∙ (ap (λ (b : Bool). padded s.tag_length (cond b (peer_tag s (slot.index - 1 + 1) (bin s.key s.bins (slot.index - 1 + 1) (item_digest y)) y) (peer_tag s 0 (s.bins + (slot.index - 1 - 3)) y))) within
    ∙ (ap (λ (i : ℕ). padded s.tag_length (peer_tag s i (bin s.key s.bins i (item_digest y)) y)) index
    ∙ ap (λ (b : Bool). padded s.tag_length (peer_tag s slot.index (cond b slot.row own) y)) (sym other)))

bytes_eq-turned : (a b : List ℕ) → bytes_eq a b ≡ bytes_eq b a
bytes_eq-turned a b = same_test (bytes_eq a b) (bytes_eq b a) (λ e. bytes_eq-same b a (sym (same_from_bytes_eq a b e))) (λ e. bytes_eq-same a b (sym (same_from_bytes_eq b a e)))

-- an item has the own tag of a slot in its list where the slot meets it
has_where_meets : (stash : ℕ) (s : Setup) (slot : Slot) (y : List ℕ) → IsGood stash s.bins slot → bytes_eq (listed_peer_tag s (list_of_slot s.bins slot) y) (padded s.tag_length (own_tag s slot)) ≡ meets s slot y
unfolding meets
has_where_meets stash s slot y good =
    let peer : List ℕ = peer_tag s slot.index (peer_row s slot y) y in
    ap (λ (t : List ℕ). bytes_eq t (padded s.tag_length (own_tag s slot))) (list_is stash s slot y good)
    ∙ (bytes_eq-append_right peer (own_tag s slot) (replicate (16 - s.tag_length) 0) ∙ bytes_eq-turned peer (own_tag s slot))

-- ---- what is found

-- the place of the first item that a stranger meets
abbrev pub named_by : Setup → List (List ℕ) → Stranger → Option ℕ
named_by s ys stranger = position (meets s (slot_of stranger.slot)) ys

map_agree : {A B : Type 0} (f g : A → B) (xs : List A) → AllByRecursion (λ x. f x ≡ g x) xs → map f xs ≡ map g xs
map_agree f g [] h = refl
map_agree {A} {B} f g (x ∷ xs) h = ap₂ (λ (y : B) (ys : List B). y ∷ ys) h.0 (map_agree f g xs h.1)

both_by : {A : Type 0} (P Q R : A → Type 0) (xs : List A) → ((x : A) → P x → Q x → R x) → AllByRecursion P xs → AllByRecursion Q xs → AllByRecursion R xs
both_by P Q R [] f p q = tt
both_by P Q R (x ∷ xs) f p q = (f x p.0 q.0, both_by P Q R xs f p.1 q.1)

each_of_map : {A B : Type 0} (P : B → Type 0) (f : A → B) (xs : List A) → AllByRecursion P (map f xs) → AllByRecursion (λ x. P (f x)) xs
each_of_map P f [] h = tt
each_of_map P f (x ∷ xs) h = (h.0, each_of_map P f xs h.1)

pub found_is_named : (stash : ℕ) (s : Setup) (ys : List (List ℕ)) (strangers : List Stranger) (begun done : Search) → AllByRecursion (λ stranger. IsGood stash s.bins (slot_of stranger.slot)) strangers
    → IsBegun (map (stranger_tag s) strangers) begun → HasMetAll s (3 + stash) ys begun done → map (found_at done) (map (stranger_tag s) strangers) ≡ map (named_by s ys) strangers
found_is_named stash s ys strangers begun done good h met =
    map-map (found_at done) (stranger_tag s) strangers
    ∙ map_agree (λ st. found_at done (stranger_tag s st)) (named_by s ys) strangers
    (both_by (λ st. IsGood stash s.bins (slot_of st.slot)) (λ st. Wants begun (stranger_tag s st)) (λ st. found_at done (stranger_tag s st) ≡ named_by s ys st) strangers one good
    (each_of_map (Wants begun) (stranger_tag s) strangers (recursion_from_All (Wants begun) (map (stranger_tag s) strangers) h.wants)))
  where
    one : (st : Stranger) → IsGood stash s.bins (slot_of st.slot) → Wants begun (stranger_tag s st) → found_at done (stranger_tag s st) ≡ named_by s ys st
    one st good wants =
        let slot : Slot = slot_of st.slot in
        met.met (stranger_tag s st) wants (good_list stash s.bins slot good) (h.none (stranger_tag s st))
        ∙ (λ i. position (λ y. has_where_meets stash s slot y good i) ys)

-- ---- collisions

pub collisions_named : (s : Setup) (ys : List (List ℕ)) (at : ℕ) (ps : List Placed) → map places_of (collisions_from s ys at ps) ≡ named_pairs (strangers_from s ys at ps) (map (named_by s ys) (strangers_from s ys at ps))
collisions_named s ys at [] = refl
collisions_named s ys at (p ∷ ps) = by_case (list_any (meets s p.slot) ys) (list_any (bytes_eq p.item) ys) refl (collisions_named s ys (at + 1) ps)
  where
    rest : List Collision
    rest = collisions_from s ys (at + 1) ps

    more : List Stranger
    more = strangers_from s ys (at + 1) ps

    one : Stranger
    one = record { item = at; slot = row_slot p.slot }

    pairs_of : List Stranger → List (ℕ × ℕ)
    pairs_of sts = named_pairs sts (map (named_by s ys) sts)

    joined : (o : Option ℕ) → map places_of rest ≡ pairs_of more → map places_of (collision_at at o ++ rest) ≡ pair_at at o ++ pairs_of more
    joined None h = h
    joined (Some x) h = ap (λ (ps : List (ℕ × ℕ)). (at, x) ∷ ps) h

    by_case : (shown common : Bool) → list_any (meets s p.slot) ys ≡ shown → map places_of rest ≡ pairs_of more
        → map places_of (cond common [] (collision_at at (position (meets s p.slot) ys)) ++ rest) ≡ pairs_of (cond (shown && not common) (one ∷ more) more)
    by_case true true e h = h
    by_case true false e h = joined (position (meets s p.slot) ys) h
    by_case false true e h = h
    by_case false false e h = ap (λ (o : Option ℕ). map places_of (collision_at at o ++ rest)) (position-none (meets s p.slot) ys e) ∙ h

-- ---- all strangers

each_by : {A : Type 0} (P Q : A → Type 0) (xs : List A) → ((x : A) → P x → Q x) → AllByRecursion P xs → AllByRecursion Q xs
each_by P Q [] f h = tt
each_by P Q (x ∷ xs) f h = (f x h.0, each_by P Q xs f h.1)

pub strangers_within : (stash rows : ℕ) (s : Setup) (ys : List (List ℕ)) (items : List Stranger) → rows ≡ s.bins + stash → AllByRecursion (λ p. IsGood stash s.bins p.slot) s.placed → items ≡ strangers_from s ys 0 s.placed → AreWithin rows items
strangers_within stash rows s ys items is good made =
    subst (λ (n : ℕ). AreWithin n items) (sym is)
    (subst (AreWithin (s.bins + stash)) (sym made)
    (All-strangers s ys (λ slot. (slot.row < s.bins + stash) × (slot.index ≤ 3)) 0 s.placed
    (each_by (λ p. IsGood stash s.bins p.slot) (λ p. (p.slot.row < s.bins + stash) × (p.slot.index ≤ 3)) s.placed (λ p. good_within stash s.bins p.slot) good)))

pub lists_low : (stash most : ℕ) (s : Setup) (ys : List (List ℕ)) (items : List Stranger) (tags : List ListedTag) → 3 + stash ≤ most → AllByRecursion (λ p. IsGood stash s.bins p.slot) s.placed → items ≡ strangers_from s ys 0 s.placed
    → tags ≡ map (stranger_tag s) items → All (λ tag. tag.list < most) tags
lists_low stash most s ys items tags few good made are =
    subst (All (λ tag. tag.list < most)) (sym (are ∙ ap (map (stranger_tag s)) made))
    (All-map (λ (tag : ListedTag). tag.list < most) (stranger_tag s) (strangers_from s ys 0 s.placed)
    (All-strangers s ys (λ slot. list_of_slot s.bins slot < most) 0 s.placed
    (each_by (λ p. IsGood stash s.bins p.slot) (λ p. list_of_slot s.bins p.slot < most) s.placed (λ p good. omega (arith, good_list stash s.bins p.slot good)) good)))

pub pairs_are : (stash : ℕ) (s : Setup) (ys : List (List ℕ)) (items : List Stranger) (tags : List ListedTag) (begun done : Search) → AllByRecursion (λ p. IsGood stash s.bins p.slot) s.placed → items ≡ strangers_from s ys 0 s.placed
    → tags ≡ map (stranger_tag s) items → IsBegun tags begun → HasMetAll s (3 + stash) ys begun done → named_pairs items (map (found_at done) tags) ≡ map places_of (collisions_from s ys 0 s.placed)
pairs_are stash s ys items tags begun done good made are begins met =
    let all : List Stranger = strangers_from s ys 0 s.placed in
    let tags_are : tags ≡ map (stranger_tag s) all = are ∙ ap (map (stranger_tag s)) made in
    ap₂ (λ (sts : List Stranger) (ts : List ListedTag). named_pairs sts (map (found_at done) ts)) made tags_are
    ∙ (ap (named_pairs all) (found_is_named stash s ys all begun done (each_stranger s ys (IsGood stash s.bins) 0 s.placed good) (subst (λ (ts : List ListedTag). IsBegun ts begun) tags_are begins) met)
    ∙ sym (collisions_named s ys 0 s.placed))

no_items : {A : Type 0} (xs : List A) → length xs ≡ 0 → xs ≡ []
no_items [] h = refl
no_items (x ∷ xs) h = absurd (omega arith)

pub nothing_named : (s : Setup) (ys : List (List ℕ)) (items : List Stranger) → items ≡ strangers_from s ys 0 s.placed → length items ≡ 0 → [] ≡ map places_of (collisions_from s ys 0 s.placed)
nothing_named s ys items made none =
    let empty : strangers_from s ys 0 s.placed ≡ [] = sym made ∙ no_items items none in
    sym (collisions_named s ys 0 s.placed ∙ ap (λ (sts : List Stranger). named_pairs sts (map (named_by s ys) sts)) empty)
