-- What a session keeps, phase by phase.
use Rattle.std.proofs.Common.{◌≡◌, ◌+◌, ◌-◌, ◌<◌, ◌≤◌, ◌==◌, ◌∙◌, ℕ, suc, zero, Bool, true, false, cond, nat_lt, nat_cmp, IsSorted, List, [], ◌∷◌, ◌++◌, length, map, take, drop, replicate, Some, refl, sym, ap, subst, arith}
use Rattle.std.specs.Cmp.Lexicographic.{slice_cmp}
use Rattle.std.specs.List.{slice_get}
use Rattle.std.proofs.lemmas.Bool.{ltb-true}
use Rattle.std.proofs.lemmas.List.{length-append, length-map, length-replicate, replicate-append-replicate}
use Rattle.std.proofs.lemmas.List.Sums.{count_by-le-length, length-filter}
use Rattle.std.proofs.lemmas.Slice.Zip.{AllZip-long}
use Rattle.psi_spec.specs.Columns.{column_bytes}
use Rattle.psi_spec.specs.Deals.{ReceiverDeal}
use Rattle.psi_spec.specs.Formulas.{padded}
use Rattle.psi_spec.specs.Frames.{Frame, layout, column_frame, done_frame}
use Rattle.psi_spec.specs.Hits.{list_of_slot}
use Rattle.psi_spec.specs.Limits.{limit_items, bins_for, rows_for}
use Rattle.psi_spec.specs.Meeting.{placed_of}
use Rattle.psi_spec.specs.Placement.{IsPlacementOf, MayHave, Slot, candidates_of}
use Rattle.psi_spec.specs.Streams.{blocks_for}
use Rattle.psi_spec.proofs.Padding.{take-padded}
use Rattle.psi_spec.proofs.Placing.{length-placed_of, slots_of-placed_of}
use Rattle.psi_spec.proofs.Rising.{IsSorted-rising, length-rising}
use Rattle.psi_frames.specs.Boxes.{OutboxState, with_added}
use Rattle.psi_frames.specs.Script.{Script, awaits, over}
use Rattle.psi_frames.specs.declared.expect.Expect.{Expect}
use Rattle.psi_receiver.specs.declared.memory.Memory.{Memory}
use Rattle.psi_receiver.specs.declared.own.OwnTags.{OwnTags}
use Rattle.psi_receiver.specs.declared.phase.Merge.{Merge}
use Rattle.psi_receiver.specs.declared.phase.Phase.{Phase}
use Rattle.psi_receiver.specs.declared.phase.Phase.TheVariants as phase
use Rattle.psi_receiver.specs.Own.{AreCarriable, AreCarried, AreOwnTags, AreShownBy, AreUnmarked, AreUnshown, IsMarkedList, IsMerging, Marked, marked_of, marks_of, own_tag_of, own_tags_in, slots_in}
use Rattle.psi_receiver.specs.Phases.{first_of, next_phase, phase_after_column}
use Rattle.psi_receiver.specs.Running.{IsAwaiting, IsMemory, IsMergeable, IsSession, ShowsIn, Stands, TellsShown, next_of, rest_in, running, stage_in}
use Rattle.psi_receiver.specs.Script.{no_floor}
use Rattle.psi_receiver.proofs.Going.{block_due, some_end}
use Rattle.psi_receiver.proofs.Hearing.{width_of}
use Rattle.psi_receiver.proofs.Marks.{merging_starts}
use Rattle.psi_receiver.proofs.Shown.{no_marks_carried, own_marks_are_carriable, shown_by_carried, slots_have_lists}

-- ---- slots

-- as many slots as items
pub as_many_slots : (stash bins : ℕ) (key : List ℕ) (items : List (List ℕ)) (slots : List Slot) → IsPlacementOf stash key bins items slots → length slots ≡ length items
as_many_slots stash bins key items slots placed =
    AllZip-long (MayHave stash bins) (map (candidates_of key bins) items) slots placed.each ∙ length-map items (candidates_of key bins)

-- ---- own tags

length-own_tags_in : (deal : ReceiverDeal) (slots : List Slot) (list : ℕ) → length (own_tags_in deal slots list) ≤ length slots
length-own_tags_in deal slots list =
    let test : Slot → Bool = λ slot. list_of_slot (bins_for (length slots)) slot == list in
    let tag : Slot → List ℕ = own_tag_of deal (rows_for deal.stash (length slots)) in
    omega (arith, length-rising (map tag (slots_in list slots)), length-map (slots_in list slots) tag, length-filter test slots, count_by-le-length test slots)

module _ (deal : ReceiverDeal) (slots : List Slot) where
  -- a list of own tags can be merged wherever a merge stands
  pub mergeable : (own : OwnTags) → AreOwnTags deal slots own → length slots ≤ limit_items
      → (list : ℕ) (floor : List ℕ) (place : ℕ) (m : Marked) → slice_get (marks_of own) list ≡ Some m → IsMerging floor place m → IsMergeable floor place m
  mergeable own are few list floor place m at merging =
      let marked : IsMarkedList (own_tags_in deal slots list) m = are.each list m at in
      record {
        rises = subst (IsSorted (slice_cmp nat_cmp)) (sym marked.tags_are) (IsSorted-rising (map (own_tag_of deal (rows_for deal.stash (length slots))) (slots_in list slots)));
        few = omega (arith, few, ap length marked.tags_are, length-own_tags_in deal slots list);
        long = marked.long;
        merging = merging;
      }

  -- ---- phases

  -- the first block of a list is awaited
  pub first_is_awaited : (own : OwnTags) (list count : ℕ) → AreOwnTags deal slots own → length slots ≤ limit_items → deal.tag_length ≤ 16 → list < 3 + deal.stash → 0 < count
      → count ≤ limit_items → IsAwaiting deal own (first_of list count)
  first_is_awaited own list count are few width l some most = record {
    lists = l;
    blocks = omega (arith, some);
    few = most;
    floor_long = length-replicate {A = ℕ} 16 0;
    floor_is =
        let zeros : List ℕ = replicate deal.tag_length 0 in
        let all : 16 ≡ deal.tag_length + (16 - deal.tag_length) = omega (arith, width) in
        let is : no_floor ≡ padded deal.tag_length zeros =
        ap (λ (n : ℕ). replicate {A = ℕ} n 0) all ∙ sym (replicate-append-replicate deal.tag_length (16 - deal.tag_length) 0) in
        is ∙ ap (padded deal.tag_length) (sym (take-padded deal.tag_length zeros (length-replicate {A = ℕ} deal.tag_length 0)) ∙ ap (take deal.tag_length) (sym is));
    merging = λ m at. mergeable own are few list no_floor 0 m at (merging_starts no_floor m);
  }

  -- what stands after a column
  pub stands_after_column : (memory : Memory) (next count : ℕ) → AreOwnTags deal slots memory.own → length slots ≤ limit_items → deal.tag_length ≤ 16
      → next < 512 → count ≤ limit_items → Stands deal slots memory (phase_after_column next count)
  stands_after_column memory next count are few width l most = by_case (nat_lt next 511) (nat_lt 0 count) refl refl
    where
      by_case : (b c : Bool) → nat_lt next 511 ≡ b → nat_lt 0 count ≡ c
          → Stands deal slots memory (cond b (phase.Columns (next + 1) count) (cond c (phase.Tags (first_of 0 count)) phase.Done))
      by_case true c e d = (let low = ltb-true next 511 e in omega (arith, low), most)
      by_case false true e d = first_is_awaited memory.own 0 count are few width (omega arith) (ltb-true 0 count d) most
      by_case false false e d = tt

  -- and after a block
  pub stands_after_block : (memory : Memory) (m : Merge) (tag : List ℕ) (place : ℕ) → AreOwnTags deal slots memory.own → length slots ≤ limit_items → deal.tag_length ≤ 16
      → m.block < blocks_for m.count → m.list < 3 + deal.stash → m.count ≤ limit_items → length tag ≡ deal.tag_length
      → ((n : Marked) → slice_get (marks_of memory.own) m.list ≡ Some n → IsMerging (padded deal.tag_length tag) place n)
      → Stands deal slots memory (next_phase (3 + deal.stash) m (padded deal.tag_length tag) place)
  stands_after_block memory m tag place are few width block list most long merging =
      by_case (nat_lt (m.block + 1) (blocks_for m.count)) (nat_lt (m.list + 1) (3 + deal.stash)) refl refl
    where
      by_case : (b c : Bool) → nat_lt (m.block + 1) (blocks_for m.count) ≡ b → nat_lt (m.list + 1) (3 + deal.stash) ≡ c
          → Stands deal slots memory (cond b (phase.Tags (record m { block = m.block + 1; floor = padded deal.tag_length tag; from = place }))
          (cond c (phase.Tags (first_of (m.list + 1) m.count)) phase.Done))
      by_case true c e d = record {
        lists = list;
        blocks = ltb-true (m.block + 1) (blocks_for m.count) e;
        few = most;
        floor_long = omega (arith, long, width, length-append tag (replicate (16 - deal.tag_length) 0), length-replicate {A = ℕ} (16 - deal.tag_length) 0);
        floor_is = ap (padded deal.tag_length) (sym (take-padded deal.tag_length tag long));
        merging = λ n at. mergeable memory.own are few m.list (padded deal.tag_length tag) place n at (merging n at);
      }
      by_case false true e d =
          first_is_awaited memory.own (m.list + 1) m.count are few width (ltb-true (m.list + 1) (3 + deal.stash) d) (omega (arith, block)) most
      by_case false false e d = tt

-- of no bytes none are left
pub drop_none : (n : ℕ) → drop {A = ℕ} n [] ≡ []
drop_none zero = refl
drop_none (suc n) = refl

-- a script that awaits a frame is not over
pub never_over : {e : Expect} {script : Frame → Script} → awaits e script ≡ over → ⊥
never_over e = cc

-- ---- memory and sessions

pub no_bytes : (a b : List ℕ) → 0 < length b → a ++ b ≡ [] → ⊥
no_bytes a b some none = let all = ap length none in omega (arith, some, all, length-append a b)

module _ (deal : ReceiverDeal) (slots : List Slot) where
  -- where no own tag is marked and no item is shown, the items are shown by their marks
  unshown_by_marks : (memory : Memory) → AreOwnTags deal slots memory.own → AreUnmarked (marks_of memory.own) → AreUnshown memory.shown.items
      → AreShownBy deal slots (marks_of memory.own) memory.shown.items
  unshown_by_marks memory are none early =
      shown_by_carried deal slots memory.own are memory.shown.items (no_marks_carried memory.own.lists.items memory.shown.items none early)

  -- what is shown after a column
  shows_after_column : (memory : Memory) (next count : ℕ) → AreOwnTags deal slots memory.own → AreUnmarked (marks_of memory.own) → AreUnshown memory.shown.items
      → ShowsIn deal slots memory (phase_after_column next count)
  shows_after_column memory next count are none early = by_case (nat_lt next 511) (nat_lt 0 count)
    where
      by_case : (b c : Bool) → ShowsIn deal slots memory (cond b (phase.Columns (next + 1) count) (cond c (phase.Tags (first_of 0 count)) phase.Done))
      by_case true c = (none, early)
      by_case false true = early
      by_case false false = λ some. unshown_by_marks memory are none early

  -- what is shown after a block, with which nothing is pending
  shows_after_block : (memory : Memory) (lists : ℕ) (m : Merge) (last : List ℕ) (place : ℕ) → memory.outbox.pending ≡ [] → AreUnshown memory.shown.items
      → ShowsIn deal slots memory (next_phase lists m last place)
  shows_after_block memory lists m last place empty early = by_case (nat_lt (m.block + 1) (blocks_for m.count)) (nat_lt (m.list + 1) lists)
    where
      by_case : (b c : Bool) → ShowsIn deal slots memory (cond b (phase.Tags (record m { block = m.block + 1; floor = last; from = place })) (cond c (phase.Tags (first_of (m.list + 1) m.count)) phase.Done))
      by_case true c = early
      by_case false true = early
      by_case false false = λ some. absurd (some empty)

  -- what is shown stays while bytes are sent
  pub shows_while_sent : (memory : Memory) (p : Phase) (box : OutboxState) → ((memory.outbox.pending ≡ []) → box.pending ≡ []) → ShowsIn deal slots memory p → ShowsIn deal slots (record memory { outbox = box }) p
  shows_while_sent memory phase.Hello box less shows = shows
  shows_while_sent memory (phase.Columns next count) box less shows = shows
  shows_while_sent memory (phase.Tags m) box less shows = shows
  shows_while_sent memory phase.Done box less shows = λ some. shows (λ none. some (less none))
  shows_while_sent memory phase.Over box less shows = shows

module _ (deal : ReceiverDeal) (items : List (List ℕ)) (slots : List Slot) where
  -- memory in which a frame was put
  holds_with_frame : (memory : Memory) (box : OutboxState) (bytes : List ℕ) → IsMemory deal items slots memory → box ≡ with_added bytes memory.outbox
      → 0 < length bytes → IsMemory deal items slots (record memory { outbox = box })
  holds_with_frame memory box bytes holds is some = record {
    sent = holds.sent;
    columns = holds.columns;
    own = holds.own;
    shown = holds.shown;
    hello_room = subst (λ (n : ℕ). 34 ≤ n) (sym (ap (λ (b : OutboxState). b.room) is)) holds.hello_room;
    column_room = subst (λ (n : ℕ). 7 + column_bytes memory.sent.rows ≤ n) (sym (ap (λ (b : OutboxState). b.room) is)) holds.column_room;
    spare = λ none. absurd (no_bytes memory.outbox.pending bytes some (sym (ap (λ (b : OutboxState). b.pending) is) ∙ none));
  }

  pub few_slots : (memory : Memory) (p : Phase) → IsSession deal items slots memory p → length slots ≤ limit_items
  few_slots memory p is =
      let few = is.few in
      omega (arith, few, as_many_slots deal.stash (bins_for (length items)) deal.key items slots is.placed)

  few_bytes : (memory : Memory) (p : Phase) → IsSession deal items slots memory p → deal.tag_length ≤ 16
  few_bytes memory p is = width_of deal is.dealt

  -- a session that puts a column
  pub session_after_column : (memory memory' : Memory) (next count : ℕ) (column : List ℕ) → IsSession deal items slots memory (phase.Columns next count)
      → memory' ≡ record memory { outbox = memory'.outbox } → memory'.outbox ≡ with_added (layout (column_frame next column)) memory.outbox
      → IsSession deal items slots memory' (phase_after_column next count)
  session_after_column memory memory' next count column is same box = record {
    few = is.few;
    dealt = is.dealt;
    placed = is.placed;
    holds = subst (IsMemory deal items slots) (sym same)
        (holds_with_frame memory memory'.outbox (layout (column_frame next column)) is.holds box (omega arith));
    stands = stands_after_column deal slots memory' next count (subst (AreOwnTags deal slots) (sym (ap (λ (m : Memory). m.own) same)) is.holds.own)
        (few_slots memory (phase.Columns next count) is) (few_bytes memory (phase.Columns next count) is) is.stands.0 is.stands.1;
    shows = subst (λ (m : Memory). ShowsIn deal slots m (phase_after_column next count)) (sym same)
        (shows_after_column deal slots (record memory { outbox = memory'.outbox }) next count is.holds.own is.shows.0 is.shows.1);
  }

  -- its marks can be carried to its items
  pub session_carries : (memory : Memory) (p : Phase) → IsSession deal items slots memory p
      → AreCarriable (length memory.shown.items) memory.own.lists.items
  session_carries memory p is =
      let many = as_many_slots deal.stash (bins_for (length items)) deal.key items slots is.placed in
      own_marks_are_carriable deal slots memory.own is.holds.own (length memory.shown.items) (is.holds.shown ∙ sym many)

  -- a session that puts the end
  pub session_after_end : (memory memory' : Memory) → IsSession deal items slots memory phase.Done
      → memory' ≡ record memory { outbox = memory'.outbox; shown = memory'.shown } → memory'.outbox ≡ with_added (layout done_frame) memory.outbox
      → length memory'.shown.items ≡ length memory.shown.items
      → AreCarried memory.own.lists.items memory'.shown.items
      → IsSession deal items slots memory' phase.Over
  session_after_end memory memory' is same box long carried =
      let own : memory'.own ≡ memory.own = ap (λ (m : Memory). m.own) same in
      let with_frame = holds_with_frame memory memory'.outbox (layout done_frame) is.holds box (omega arith) in
      record {
        few = is.few;
        dealt = is.dealt;
        placed = is.placed;
        holds = subst (IsMemory deal items slots) (sym same)
            (record {
              sent = with_frame.sent;
              columns = with_frame.columns;
              own = with_frame.own;
              shown = long ∙ is.holds.shown;
              hello_room = with_frame.hello_room;
              column_room = with_frame.column_room;
              spare = with_frame.spare;
            });
        stands = tt;
        shows = subst (λ (o : OwnTags). AreShownBy deal slots (marks_of o) memory'.shown.items) (sym own)
            (shown_by_carried deal slots memory.own is.holds.own memory'.shown.items carried);
      }

  none_behind : (a b : List ℕ) → a ++ b ≡ [] → b ≡ []
  none_behind [] b e = e
  none_behind (x ∷ a) b e = cc

  -- once no frame is awaited, the items are shown by their marks
  shown_by_state : (memory : Memory) (p : Phase) → IsSession deal items slots memory p → (memory.outbox.pending ≡ [] → rest_in memory.sent.columns p ≡ [])
      → next_of deal (placed_of items slots) (stage_in p) ≡ over → AreShownBy deal slots (marks_of memory.own) memory.shown.items
  shown_by_state memory phase.Hello is ready next = absurd (never_over next)
  shown_by_state memory (phase.Columns n count) is ready next = unshown_by_marks deal slots memory is.holds.own is.shows.0 is.shows.1
  shown_by_state memory (phase.Tags m) is ready next =
      absurd (never_over (sym (block_due deal (placed_of items slots) m.list m.block m.count m.floor is.stands.blocks) ∙ next))
  shown_by_state memory phase.Done is ready next = is.shows (λ none. some_end (ready none))
  shown_by_state memory phase.Over is ready next = is.shows

  -- and before none is
  unshown_by_state : (memory : Memory) (p : Phase) → IsSession deal items slots memory p → (next_of deal (placed_of items slots) (stage_in p) ≡ over → ⊥) → AreUnshown memory.shown.items
  unshown_by_state memory phase.Hello is more = is.shows.1
  unshown_by_state memory (phase.Columns n count) is more = is.shows.1
  unshown_by_state memory (phase.Tags m) is more = is.shows
  unshown_by_state memory phase.Done is more = absurd (more refl)
  unshown_by_state memory phase.Over is more = absurd (more refl)

  -- at all times a session tells which items are shown
  pub session_tells : (memory : Memory) (p : Phase) → IsSession deal items slots memory p → (memory.outbox.pending ≡ [] → rest_in memory.sent.columns p ≡ []) → TellsShown (running deal items slots memory p)
  session_tells memory p is ready =
      let many = as_many_slots deal.stash (bins_for (length items)) deal.key items slots is.placed in
      let same : slots ≡ map (λ q. q.slot) (placed_of items slots) = sym (slots_of-placed_of items slots (sym many)) in
      let long = is.holds.shown ∙ sym (length-placed_of items slots (sym many)) in
      record {
        each = long;
        early = unshown_by_state memory p is;
        found = λ next.
            let shown = shown_by_state memory p is ready next in
            record {
              many = length-map memory.own.lists.items marked_of ∙ is.holds.own.many;
              each = subst (λ (ss : List Slot). (list : ℕ) (m : Marked) → slice_get (marks_of memory.own) list ≡ Some m → IsMarkedList (own_tags_in deal ss list) m) same is.holds.own.each;
              places = λ i slot at.
                  subst (λ (n : ℕ). list_of_slot (bins_for n) slot < 3 + deal.stash) (sym (length-placed_of items slots (sym many)))
                  (slots_have_lists deal.stash (bins_for (length items)) deal.key items slots is.placed.each i slot (subst (λ (ss : List Slot). slice_get ss i ≡ Some slot) (sym same) at));
              long = long;
              found = subst (λ (ss : List Slot). AreShownBy deal ss (marks_of memory.own) memory.shown.items) same shown;
            };
      }

  -- a session that took the sender's hello
  pub session_after_hello : (memory : Memory) (count : ℕ) → IsSession deal items slots memory phase.Hello → count ≤ limit_items
      → IsSession deal items slots memory (phase.Columns 0 count)
  session_after_hello memory count is few = record {
    few = is.few;
    dealt = is.dealt;
    placed = is.placed;
    holds = is.holds;
    stands = (omega arith, few);
    shows = is.shows;
  }

  -- a session that took a block
  pub session_after_block : (memory : Memory) (own : OwnTags) (m : Merge) (tag last : List ℕ) (place : ℕ) (p : Phase) → IsSession deal items slots memory (phase.Tags m)
      → AreOwnTags deal slots own → length tag ≡ deal.tag_length → last ≡ padded deal.tag_length tag
      → p ≡ next_phase (3 + deal.stash) m last place → memory.outbox.pending ≡ []
      → ((n : Marked) → slice_get (marks_of own) m.list ≡ Some n → IsMerging last place n)
      → IsSession deal items slots (record memory { own = own }) p
  session_after_block memory own m tag last place p is are long tag_is phase_is empty merging = record {
    few = is.few;
    dealt = is.dealt;
    placed = is.placed;
    holds = record {
      sent = is.holds.sent;
      columns = is.holds.columns;
      own = are;
      shown = is.holds.shown;
      hello_room = is.holds.hello_room;
      column_room = is.holds.column_room;
      spare = is.holds.spare;
    };
    stands = subst (Stands deal slots (record memory { own = own })) (sym (phase_is ∙ ap (λ (x : List ℕ). next_phase (3 + deal.stash) m x place) tag_is))
        (stands_after_block deal slots (record memory { own = own }) m tag place are (few_slots memory (phase.Tags m) is) (few_bytes memory (phase.Tags m) is)
        is.stands.blocks is.stands.lists is.stands.few long
        (λ n at. subst (λ (x : List ℕ). IsMerging x place n) tag_is (merging n at)));
    shows = subst (ShowsIn deal slots (record memory { own = own })) (sym phase_is)
        (shows_after_block deal slots (record memory { own = own }) (3 + deal.stash) m last place empty is.shows);
  }
