-- Commands that place no set have no placement in their outcome.
use Rattle.std.proofs.Common.{◌≡◌, inl, inr, ℕ, Bool, true, List, [], Option, Ok, Err}
use Rattle.std.specs.declared.result.Result.{Result}
use Rattle.psi_spec.specs.Deals.{SenderDeal}
use Rattle.psi_spec.specs.Placement.{Slot}
use Rattle.psi_base.specs.Outside.{Known, Outside, linked}
use Rattle.psi_frames.specs.Dialogue.{talked}
use Rattle.psi_deal.specs.declared.old_files.OldDeal.{OldDeal}
use Rattle.psi_walk.specs.Files.{items_in, old_deal_in, reads_file, reads_items, reads_old, reads_sender, sender_in}
use Rattle.psi_walk.specs.Promises.{IsAnswered}
use Rattle.psi_walk.specs.Tree.{Effect, Tree, reads, refuses, places, opens, talks, holds, ends, decides}
use Rattle.psi_texts.specs.declared.status.Status.{Status}

-- the tree places no set, whatever is read and taken
unfoldable pub PlacesNone : Tree → Type 0
PlacesNone (reads word limit next) = (bytes : List ℕ) → PlacesNone (next bytes)
PlacesNone (refuses verdict) = Unit {0}
PlacesNone (places word set next) = ⊥
PlacesNone (opens link next) = PlacesNone next
PlacesNone (talks d next) = (bytes : List ℕ) → PlacesNone (next bytes)
PlacesNone (holds next) = PlacesNone next
PlacesNone (ends wire effects) = Unit {0}

pub ends_place_none : (wire : Option (List ℕ)) (effects : List Effect) → PlacesNone (ends wire effects)
unfolding PlacesNone
ends_place_none wire effects = tt

pub decides_none : {A : Type 0} (due : Result A Status) (next : A → Tree) → ((x : A) → PlacesNone (next x)) → PlacesNone (decides due next)
unfolding PlacesNone decides
decides_none (Ok x) next h = h x
decides_none (Err why) next h = tt

pub items_place_none : (word : ℕ) (next : List (List ℕ) → Tree) → ((items : List (List ℕ)) → PlacesNone (next items)) → PlacesNone (reads_items word next)
unfolding PlacesNone reads_file
items_place_none word next h = λ bytes. decides_none (items_in word bytes) next h

pub sender_places_none : (word : ℕ) (next : SenderDeal → Tree) → ((deal : SenderDeal) → PlacesNone (next deal)) → PlacesNone (reads_sender word next)
unfolding PlacesNone reads_file
sender_places_none word next h = λ bytes. decides_none (sender_in word bytes) next h

pub old_places_none : (word : ℕ) (next : OldDeal → Tree) → ((deal : OldDeal) → PlacesNone (next deal)) → PlacesNone (reads_old word next)
unfolding PlacesNone reads_file
old_places_none word next h = λ bytes. decides_none (old_deal_in word bytes) next h

pub none_is_placed : (known : Known) (words : List (List ℕ)) (taken : Bool) (tree : Tree) (before : Outside) (slots : List (List Slot)) (why : Status) (after : Outside)
    → PlacesNone tree → IsAnswered known words taken tree before slots why after → slots ≡ []
unfolding PlacesNone
none_is_placed known words taken (reads word limit next) before slots why after p (inl h) = h.2
none_is_placed known words taken (reads word limit next) before slots why after p (inr h) = none_is_placed known words taken (next h.0) before slots why after (p h.0) h.2
none_is_placed known words taken (refuses verdict) before slots why after p h = h.2
none_is_placed known words taken (places word set next) before slots why after p h = absurd p
none_is_placed known words taken (opens link next) before slots why after p (inl h) = h.2
none_is_placed known words taken (opens link next) before slots why after p (inr h) = none_is_placed known words taken next (linked before link) slots why after p h
none_is_placed known words taken (talks d next) before slots why after p (inl h) = h.1
none_is_placed known words taken (talks d next) before slots why after p (inr h) =
    none_is_placed known words taken (next h.0) (talked before (d.owes h.0) h.0) slots why after (p h.0) h.3
none_is_placed known words taken (holds next) before slots why after p h = none_is_placed known words true next before slots why after p h
none_is_placed known words taken (ends wire effects) before slots why after p h = h.3
