-- The search for the first items of the sender that have wanted tags.
use Rattle.std.specs.Prelude.{◌≡◌, ◌<◌, ◌&&◌, ℕ, Bool, true, List, nat_eq, nat_lt, position, slice_index_or, Option, Some, None, All, if◌then◌else◌}
use Rattle.std.specs.Str.{bytes_eq}
use Rattle.indexmap.specs.IndexMap.{get}
use Rattle.indexmap.specs.IndexSet.{contains}
use Rattle.psi_spec.specs.Meeting.{Setup}
use Rattle.psi_audit.specs.Naming.{hashed_tag, listed_peer_tag}
use Rattle.psi_audit.specs.declared.naming.ListedTag.{ListedTag}
use Rattle.psi_audit.specs.declared.naming.Search.{Search}
use Rattle.psi_audit.specs.declared.peer.PeerItem.{PeerItem}

-- two tags are one
abbrev pub same_listed : ListedTag → ListedTag → Bool
same_listed a b = nat_eq a.list b.list && bytes_eq a.tag b.tag

-- a tag is wanted
abbrev pub Wants : Search → ListedTag → Type 0
Wants s tag = contains same_listed s.wanted tag ≡ true

-- where a tag was found
abbrev pub found_at : Search → ListedTag → Option ℕ
found_at s tag = get same_listed s.found tag

-- the lists that have a wanted tag are marked
abbrev pub AreMarked : Search → Type 0
AreMarked s = (tag : ListedTag) → Wants s tag → slice_index_or s.lists tag.list true ≡ true

-- these tags are wanted, and none is found
pub record IsBegun (tags : List ListedTag) (s : Search) : Type 0 where
  pub wants : All (Wants s) tags
  pub marked : AreMarked s
  pub none : (tag : ListedTag) → found_at s tag ≡ None

-- what is wanted stays
pub record KeepsWanted (old new : Search) : Type 0 where
  pub wanted : new.wanted ≡ old.wanted
  pub lists : new.lists ≡ old.lists

-- where a tag is found, once the item at a place has it or has it not
abbrev pub with_met : Bool → ℕ → Option ℕ → Option ℕ
with_met has place None = if has then Some place else None
with_met has place (Some first) = Some first

-- the item at a place has a tag
pub record HasMet (tag : ListedTag) (place : ℕ) (old new : Search) : Type 0 where
  pub keeps : KeepsWanted old new
  pub met : (k : ListedTag) → Wants old k → found_at new k ≡ with_met (same_listed tag k) place (found_at old k)

-- the item at a place has its tags in so many lists
pub record HasMetIn (s : Setup) (lists : ℕ) (item : PeerItem) (place : ℕ) (old new : Search) : Type 0 where
  pub keeps : KeepsWanted old new
  pub met : (k : ListedTag) → Wants old k
      → found_at new k
      ≡ with_met (nat_lt k.list lists && bytes_eq (hashed_tag s k.list item) k.tag) place (found_at old k)

-- items have their tags in so many lists
pub record HasMetAll (s : Setup) (lists : ℕ) (ys : List (List ℕ)) (old new : Search) : Type 0 where
  pub keeps : KeepsWanted old new
  pub met : (k : ListedTag) → Wants old k → k.list < lists → found_at old k ≡ None
      → found_at new k ≡ position (λ y. bytes_eq (listed_peer_tag s k.list y) k.tag) ys
