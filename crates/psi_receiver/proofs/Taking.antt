-- A block that comes, and what it does to the own tags.
use Rattle.std.proofs.Common.{◌≡◌, ◌-◌, ◌*◌, ◌<◌, ◌≤◌, ◌∙◌, ℕ, false, List, [], ◌∷◌, ◌++◌, length, take, get_or, Some, sym, ap, subst, arith, length-take}
use Rattle.std.specs.List.{slice_get}
use Rattle.std.proofs.lemmas.List.Elements.{All-from_recursion, All-get_or}
use Rattle.std.proofs.lemmas.Option.{slice_get-get_or}
use Rattle.psi_spec.specs.Deals.{ReceiverDeal, IsReceiverDeal}
use Rattle.psi_spec.specs.Formulas.{padded}
use Rattle.psi_spec.specs.Frames.{Frame, is_below, tags_frame, tags_of}
use Rattle.psi_spec.specs.Meeting.{placed_of}
use Rattle.psi_spec.specs.Placement.{Slot}
use Rattle.psi_spec.proofs.StreamSteps.{length-tags_of, tags_of_are_long}
use Rattle.psi_frames.specs.Expected.{IsValid}
use Rattle.psi_frames.specs.Script.{MayCome, due_frame}
use Rattle.psi_frames.specs.declared.expect.Expect.TheVariants as expect
use Rattle.psi_receiver.specs.declared.memory.Memory.{Memory}
use Rattle.psi_receiver.specs.declared.own.OwnTags.{OwnTags}
use Rattle.psi_receiver.specs.declared.phase.Merge.{Merge}
use Rattle.psi_receiver.specs.declared.phase.Phase.TheVariants as phase
use Rattle.psi_receiver.specs.Marking.{IsBlock, first_in, last_in, padded_tags}
use Rattle.psi_receiver.specs.Own.{AreMarked, Marked}
use Rattle.psi_receiver.specs.Running.{GoesOn, IsAwaiting, IsMergeable, IsMergedWith, IsSession, ReceiverState, running, state_of}
use Rattle.psi_receiver.specs.Script.{bytes_in, floor_after, tags_at}
use Rattle.psi_receiver.proofs.Coming.{AreTagsFrom, tags_that_come}
use Rattle.psi_receiver.proofs.Going.{block_may_come}
use Rattle.psi_receiver.proofs.Hearing.{width_of}
use Rattle.psi_receiver.proofs.Hits.{some_width}
use Rattle.psi_receiver.proofs.Marks.{first_above_floor, frame_is_block, last_is_floor, marked_with_tags, merging_goes_on}

-- a block that was awaited
pub record BlockCame (deal : ReceiverDeal) (m : Merge) (f : Frame) (bytes : List ℕ) : Type 0 where
  pub is : f ≡ tags_frame m.list m.block bytes
  pub long : length bytes ≡ tags_at m.count m.block * deal.tag_length
  pub block : IsBlock deal.tag_length bytes
  pub above : is_below (first_in deal.tag_length bytes) m.floor ≡ false
  pub tag : List ℕ
  pub tag_long : length tag ≡ deal.tag_length
  pub last : last_in deal.tag_length bytes ≡ padded deal.tag_length tag
  pub floor : last_in deal.tag_length bytes ≡ floor_after deal.tag_length (tags_at m.count m.block) f

pub block_came : (deal : ReceiverDeal) (own : OwnTags) (m : Merge) (f : Frame) (bytes : List ℕ) → IsReceiverDeal deal → IsAwaiting deal own m
    → IsValid (expect.Tags m.list m.block (tags_at m.count m.block) deal.tag_length m.floor) f → bytes_in f ≡ bytes → BlockCame deal m f bytes
block_came deal own m f bytes is awaiting valid same = subst (BlockCame deal m f) same here
  where
    g : ℕ
    g = deal.tag_length

    n : ℕ
    n = tags_at m.count m.block

    here : BlockCame deal m f (bytes_in f)
    here =
        let were : AreTagsFrom n g m.list m.block m.floor f = tags_that_come n g m.list m.block m.floor f valid in
        let low : List ℕ = take g m.floor in
        let least : 1 ≤ g = some_width deal is in
        let most : g ≤ 16 = width_of deal is in
        let there = awaiting.blocks in
        let floor_long = awaiting.floor_long in
        let some : 1 ≤ n = omega (arith, there) in
        let tags : List (List ℕ) = tags_of n g (bytes_in f) in
        let last = last_is_floor g n low (bytes_in f) least were.long were.rises m.list m.block some in
        record {
          is = were.is;
          long = were.long;
          block = frame_is_block g n low (bytes_in f) least were.long were.rises some (omega arith);
          above = ap (is_below (first_in g (bytes_in f))) awaiting.floor_is
              ∙ first_above_floor g n low (bytes_in f) least were.long were.rises some (omega (arith, most, floor_long, length-take g m.floor));
          tag = get_or tags (n - 1) [];
          tag_long = All-get_or (λ tag. length tag ≡ g) tags (n - 1) [] (omega (arith, some, length-tags_of n g (bytes_in f)))
              (All-from_recursion (λ tag. length tag ≡ g) tags (tags_of_are_long n g (bytes_in f) were.long));
          last = last;
          floor = last;
        }

-- a session that awaits it has sent all, and the block is the one that was awaited
pub block_at : (deal : ReceiverDeal) (items : List (List ℕ)) (slots : List Slot) (memory : Memory) (m : Merge) (s : ReceiverState) (f : Frame) (bytes : List ℕ)
    → IsSession deal items slots memory (phase.Tags m) → running deal items slots memory (phase.Tags m) ≡ s → MayCome (due_frame (state_of s)) f → bytes_in f ≡ bytes
    → (memory.outbox.pending ≡ []) × BlockCame deal m f bytes
block_at deal items slots memory m s f bytes is view due same =
    let may = block_may_come deal (placed_of items slots) m memory.outbox.pending f is.stands.blocks (subst (λ (r : ReceiverState). MayCome (due_frame (state_of r)) f) (sym view) due) in
    (may.0, block_came deal memory.own m f bytes is.dealt is.stands may.1 same)

-- the own tags of its list can be merged with it
pub mergeable_with : (floor first : List ℕ) (place : ℕ) (m : Marked) → is_below first floor ≡ false → IsMergeable floor place m → IsMergeable first place m
mergeable_with floor first place m up is = record {
  rises = is.rises;
  few = is.few;
  long = is.long;
  merging = merging_goes_on floor first place m up is.merging;
}

-- they are then marked right
pub marked_with_block : (width : ℕ) (before : List Frame) (f : Frame) (list block : ℕ) (bytes : List ℕ) (lists lists' : List Marked) → f ≡ tags_frame list block bytes
    → list < length lists → IsMergedWith (padded_tags width bytes) list lists lists' → AreMarked width before lists → AreMarked width (before ++ f ∷ []) lists'
marked_with_block width before f list block bytes lists lists' is l merged marked =
    let old : Marked = get_or lists list merged.marked in
    let at : slice_get lists list ≡ Some old = slice_get-get_or lists list merged.marked l in
    let on : GoesOn (padded_tags width bytes) old merged.marked = merged.on old at in
    subst (λ (g : Frame). AreMarked width (before ++ g ∷ []) lists') (sym is)
    (subst (AreMarked width (before ++ tags_frame list block bytes ∷ [])) (sym merged.set)
    (marked_with_tags width before list block bytes lists old merged.marked at on.tags on.hits marked))
