-- The promises of `local` in its own words.
use Rattle.std.proofs.Common.{◌≡◌, inl, inr, ℕ, Bool, true, false, nat_lt, if◌then◌else◌, List, [], ◌∷◌, length, map, Some, refl, sym, ap, ◌∙◌, subst, arith, slice_get, zero, suc}
use Rattle.std.specs.List.{Contains}
use Rattle.std.proofs.lemmas.Bool.Decides.{nat_tests}
use Rattle.psi_spec.specs.Items.{items_of}
use Rattle.psi_spec.specs.Limits.{bins_for, file_limit}
use Rattle.psi_spec.specs.Meeting.{placed_of, shown}
use Rattle.psi_spec.specs.Placement.{Slot, IsPlacementOf}
use Rattle.psi_spec.specs.Records.{record_file}
use Rattle.psi_spec.specs.SessionLaws.{FindsShown}
use Rattle.psi_spec.specs.Texts.{lines_text}
use Rattle.psi_words.specs.Words.{word_at}
use Rattle.psi_spec.proofs.Dealing.{length-placement}
use Rattle.psi_spec.proofs.Finding.{pairs_find_shown}
use Rattle.psi_spec.proofs.Placing.{items_of-placed_of}
use Rattle.psi_base.specs.Outside.{Known, Outside, Files, printed_too, written}
use Rattle.sha2.specs.Sha256.{sha256}
use Rattle.psi_walk.specs.Due.{after_effects, told}
use Rattle.psi_walk.specs.Files.{items_in, reads_file, reads_items}
use Rattle.psi_walk.specs.JudgedFiles.{HasItems}
use Rattle.psi_local.specs.Local.{keeps, local_receiver, local_rest, local_sender, local_session, local_set, local_setup, local_text, local_tree}
use Rattle.psi_local.specs.LocalPromises.{CanPlay, HasRecordWord, LocalAnswers, PrintedShown, WasPlaced, recorded, LocalPromise}
use Rattle.psi_walk.specs.Promises.{IsAnswered, IsFailedEffect, IsOfEnd, IsReady, IsSilent, IsUnread, Leaves, WriteFailed}
use Rattle.psi_walk.specs.Placing.{placing_of}
use Rattle.psi_walk.specs.Tree.{Effect, says, puts, End}
use Rattle.psi_walk.specs.Walk.{IsNotPlaced, Runs}
use Rattle.psi_texts.specs.declared.status.Status.{Status}
use Rattle.psi_texts.specs.declared.status.Status.TheVariants as status
use Rattle.psi_walk.proofs.Answered.{follows_answers}
use Rattle.psi_walk.proofs.JudgedFiles.{AtFile, unread, wanting, refused, taken_on, answered_items, has_bad_line, has_items, items_bad, left_items}
use Rattle.psi_walk.proofs.Carried.{last_carries}
use Rattle.psi_walk.proofs.Ready.{is_there, items_ready, ready_on, ready_told}
use Rattle.psi_walk.proofs.Unplaced.{ends_place_none}
use Rattle.psi_walk.proofs.Placings.{is_placement, hides_list}
use Rattle.psi_walk.proofs.Left.{follows_leaves}
use Rattle.psi_walk.proofs.Through.{runs_through}
use Rattle.psi_walk.proofs.Wired.{runs_wired}
use Rattle.psi_walk.proofs.WordDeals.{named_choice, named_pair, named_seeds}
use Rattle.psi_walk.specs.Command.{Keeps}
use Rattle.psi_local.specs.Commands.{command_local}

-- ---- the named deals

-- these slots are a placement of items with the named deal
IsPlacedFor : List (List ℕ) → List (List ℕ) → List Slot → Type 0
IsPlacedFor words xs slots = IsPlacementOf (local_receiver words).stash (local_receiver words).key (bins_for (length xs)) xs slots

pub local_finds : (words : List (List ℕ)) (xs ys : List (List ℕ)) (slots : List Slot)
    → IsPlacementOf (local_receiver words).stash (local_receiver words).key (bins_for (length xs)) xs slots
    → FindsShown (local_receiver words) (local_sender words) xs ys slots
local_finds words xs ys slots placement =
    pairs_find_shown (local_receiver words) (local_sender words) xs ys slots (named_pair words 3) (named_seeds words 3) (named_choice words 3) placement

-- ---- what a run that is done left

text_is_shown : (words : List (List ℕ)) (xs : List (List ℕ)) (slots : List Slot) (ys : List (List ℕ)) → local_text words xs slots ys ≡ lines_text (shown (local_setup words xs slots) ys)
unfolding local_text
text_is_shown words xs slots ys = refl

-- the text was printed, and the record was written where there is a word for it
done_is_recorded : (words : List (List ℕ)) (before : Outside) (text file : List ℕ)
    → after_effects words before (says text ∷ keeps words file) ≡ recorded words (printed_too before text) file
done_is_recorded words before text file = by_word (nat_lt 6 (length words))
  where
    by_word : (b : Bool) → after_effects words before (says text ∷ (if b then puts 6 file ∷ [] else []))
        ≡ (if b then written (printed_too before text) (word_at words 6) file else printed_too before text)
    by_word true = refl
    by_word false = refl

set_leaves : (known : Known) (words : List (List ℕ)) (before : Outside) (xs ys : List (List ℕ)) (end : End) → HasItems known words before 1 xs → HasItems known words before 2 ys
    → Leaves known words (local_set words xs ys) before end → PrintedShown known words before end
set_leaves known words before xs ys end x_file y_file h =
    let slots = h.0 in
    let placement = is_placement (local_receiver words) xs slots h.2 in
    let finds = local_finds words xs ys slots placement in
    let long : length xs ≡ length slots = length-placement (local_receiver words).stash (local_receiver words).key (bins_for (length xs)) xs slots placement in
    let items : map (λ p. p.item) (placed_of xs slots) ≡ xs = items_of-placed_of xs slots long in
    let file : List ℕ = record_file slots (local_session words xs slots ys) in
    record {
      xs = xs;
      ys = ys;
      slots = slots;
      x_file = x_file;
      y_file = y_file;
      pair = named_pair words 3;
      placement = placement;
      picked = h.2.1;
      carried = ap (λ (d : End). d.placed) h.3 ∙ ap (λ (d : End). slots ∷ d.placed) h.4;
      left = ap (λ (d : End). d.left) h.3 ∙ (ap (λ (d : End). d.left) h.4
          ∙ (done_is_recorded words before (local_text words xs slots ys) file
          ∙ ap (λ (text : List ℕ). recorded words (printed_too before text) file) (text_is_shown words xs slots ys)));
      wire = ap (λ (d : End). d.wire) h.3 ∙ ap (λ (d : End). d.wire) h.4;
      common = λ item own other. finds.shows.common item (subst (λ (all : List (List ℕ)). Contains all item) (sym items) own) other;
      others = finds.shows.others;
      hidden = hides_list (local_receiver words) xs slots placement;
    }

local_leaves : (known : Known) (words : List (List ℕ)) (before : Outside) (end : End) → Leaves known words (local_tree words) before end
    → PrintedShown known words before end
local_leaves known words before end h =
    let x = left_items known words 1 (λ xs. reads_items 2 (λ ys. local_set words xs ys)) before end h in
    let y = left_items known words 2 (λ ys. local_set words x.0 ys) before end x.2 in
    set_leaves known words before x.0 y.0 end x.1 y.1 y.2

-- ---- what `local` may answer

-- what it answers, with nothing sent or taken
Answered : Known → List (List ℕ) → Outside → List (List Slot) → Status → Outside → Type 0
Answered known words before slots why after = LocalAnswers known words before slots why × IsSilent before after

wanted : (known : Known) (words : List (List ℕ)) (before : Outside) (slots : List (List Slot)) (why : Status) (after : Outside)
    → why ≡ status.NoMemory → IsSilent before after → slots ≡ [] → Answered known words before slots why after
unfolding Answered
wanted known words before slots why after s quiet none = subst (λ (x : Status). Answered known words before slots x after) (sym s) (inl none, quiet)

first_unread : (known : Known) (words : List (List ℕ)) (before : Outside) (slots : List (List Slot)) (why : Status) → IsUnread known words 1 file_limit why → slots ≡ []
    → LocalAnswers known words before slots why
first_unread known words before slots (status.FileFault place) h none = inl (inl h.0, h.1, none)
first_unread known words before slots (status.TooLong place taken) h none = (inl h.0, h.1, none)
first_unread known words before slots status.NoMemory h none = inl none
first_unread known words before slots _ h none = absurd h

second_unread : (known : Known) (words : List (List ℕ)) (before : Outside) (slots : List (List Slot)) (xs : List (List ℕ)) → HasItems known words before 1 xs
    → (why : Status) → IsUnread known words 2 file_limit why → slots ≡ [] → LocalAnswers known words before slots why
second_unread known words before slots xs first (status.FileFault place) h none = inl (inr (xs, first, h.0), h.1, none)
second_unread known words before slots xs first (status.TooLong place taken) h none = (inr (xs, first, h.0), h.1, none)
second_unread known words before slots xs first status.NoMemory h none = inl none
second_unread known words before slots xs first _ h none = absurd h

-- only the record is written, and only where there is a word for it
only_record : (known : Known) (words : List (List ℕ)) (text file : List ℕ) (at : ℕ) (effect : Effect) (place : ℕ) → slice_get (says text ∷ keeps words file) at ≡ Some effect
    → IsFailedEffect known words (status.FileFault place) effect → (place ≡ 6) × WriteFailed known words place × HasRecordWord words
only_record known words text file at effect place e h = by_word (nat_lt 6 (length words)) refl at e
  where
    same : (one other : Effect) → Some one ≡ Some other → one ≡ other
    same one other e = cc e

    by_word : (b : Bool) → nat_lt 6 (length words) ≡ b → (at : ℕ) → slice_get (says text ∷ (if b then puts 6 file ∷ [] else [])) at ≡ Some effect
        → (place ≡ 6) × WriteFailed known words place × HasRecordWord words
    by_word b t zero e =
        absurd (let f : IsFailedEffect known words (status.FileFault place) (says text) = subst (λ (x : Effect). IsFailedEffect known words (status.FileFault place) x) (sym (same (says text) effect e)) h in f)
    by_word true t (suc zero) e =
        let f : IsFailedEffect known words (status.FileFault place) (puts 6 file) =
        subst (λ (x : Effect). IsFailedEffect known words (status.FileFault place) x) (sym (same (puts 6 file) effect e)) h in
        (f.0, f.1, grind (arith, nat_tests))
    by_word true t (suc (suc at)) e = cc e
    by_word false t (suc at) e = cc e

of_end : (known : Known) (words : List (List ℕ)) (before : Outside) (slots : List (List Slot)) (text file : List ℕ) → WasPlaced known words before slots
    → (why : Status) → IsOfEnd known words false why (says text ∷ keeps words file) → LocalAnswers known words before slots why
of_end known words before slots text file was status.Done h = was
of_end known words before slots text file was status.PrintFault h = was
of_end known words before slots text file was status.NoMemory h = inr was
of_end known words before slots text file was (status.FileFault place) h =
    let of_record = only_record known words text file h.0 h.1 place h.2 h.3 in
    inr (of_record.0, of_record.1, of_record.2, was)
of_end known words before slots text file was _ h = absurd h.3

not_placed : (known : Known) (words : List (List ℕ)) (before : Outside) (xs ys : List (List ℕ)) → HasItems known words before 1 xs → HasItems known words before 2 ys
    → (slots : List (List Slot)) (why : Status) → IsNotPlaced 1 (placing_of (local_receiver words) xs) why → slots ≡ [] → LocalAnswers known words before slots why
unfolding placing_of
not_placed known words before xs ys first second slots (status.NoPlacement place items touched) h none =
    (h.0, record { xs = xs; ys = ys; x_file = first; y_file = second; fact = (h.1.0, h.2) }, none)
not_placed known words before xs ys first second slots status.NoMemory h none = inl none
not_placed known words before xs ys first second slots _ h none = absurd h

of_set : (known : Known) (words : List (List ℕ)) (before : Outside) (xs ys : List (List ℕ)) → HasItems known words before 1 xs → HasItems known words before 2 ys
    → (slots : List (List Slot)) (why : Status) (after : Outside) → IsAnswered known words false (local_set words xs ys) before slots why after
    → Answered known words before slots why after
unfolding Answered
of_set known words before xs ys first second slots why after (inl a) = (not_placed known words before xs ys first second slots why a.0 a.2, a.1)
of_set known words before xs ys first second slots why after (inr a) =
    let chosen = a.0 in
    let end = a.4 in
    let carried : slots ≡ chosen ∷ [] =
    last_carries known words false (local_rest words xs ys chosen) before chosen slots a.1 why after
    (ends_place_none (Some (sha256 (local_session words xs chosen ys))) (says (local_text words xs chosen ys) ∷ keeps words (record_file chosen (local_session words xs chosen ys)))) a.3 end in
    let was : WasPlaced known words before slots =
    record { xs = xs; ys = ys; x_file = first; y_file = second; fact = (chosen, carried, is_placement (local_receiver words) xs chosen a.2, a.2.1) } in
    (of_end known words before slots (local_text words xs chosen ys) (record_file chosen (local_session words xs chosen ys)) was why end.0, end.1)

of_second : (known : Known) (words : List (List ℕ)) (before : Outside) (xs : List (List ℕ)) → HasItems known words before 1 xs → (slots : List (List Slot)) (why : Status) (after : Outside)
    → AtFile known words before 2 file_limit (items_in 2) slots why after (λ ys. IsAnswered known words false (local_set words xs ys) before slots why after)
    → Answered known words before slots why after
unfolding Answered
of_second known words before xs first slots why after (unread h quiet none) = (second_unread known words before slots xs first why h none, quiet)
of_second known words before xs first slots why after (wanting s quiet none) = wanted known words before slots why after s quiet none
of_second known words before xs first slots why after (refused bytes read e quiet none) =
    let bad = items_bad 2 bytes why e in
    subst (λ (x : Status). Answered known words before slots x after) (sym bad.2)
    ((inr (xs, first, (refl, has_bad_line known words before 2 bytes bad.0 read bad.1)), none), quiet)
of_second known words before xs first slots why after (taken_on bytes ys read e a) =
    of_set known words before xs ys first (has_items known words before 2 bytes ys read e) slots why after a

of_first : (known : Known) (words : List (List ℕ)) (before : Outside) (slots : List (List Slot)) (why : Status) (after : Outside)
    → AtFile known words before 1 file_limit (items_in 1) slots why after (λ xs. IsAnswered known words false (reads_items 2 (λ ys. local_set words xs ys)) before slots why after)
    → Answered known words before slots why after
unfolding Answered
of_first known words before slots why after (unread h quiet none) = (first_unread known words before slots why h none, quiet)
of_first known words before slots why after (wanting s quiet none) = wanted known words before slots why after s quiet none
of_first known words before slots why after (refused bytes read e quiet none) =
    let bad = items_bad 1 bytes why e in
    subst (λ (x : Status). Answered known words before slots x after) (sym bad.2)
    ((inl (refl, has_bad_line known words before 1 bytes bad.0 read bad.1), none), quiet)
of_first known words before slots why after (taken_on bytes xs read e a) =
    of_second known words before xs (has_items known words before 1 bytes xs read e) slots why after
    (answered_items known words 2 (λ ys. local_set words xs ys) before slots why after a)

-- ---- valid lists, and a set that has a placement

set_is_ready : (words : List (List ℕ)) (files : Files) (before : Outside) (can : CanPlay words files) (ys : List (List ℕ))
    → IsReady (told (Some files) words) before (local_set words (items_of can.x.bytes) ys)
unfolding placing_of
set_is_ready words files before can ys = ((can.slots, can.placement), λ slots is. tt)

second_is_ready : (words : List (List ℕ)) (files : Files) (before : Outside) (can : CanPlay words files)
    → IsReady (told (Some files) words) before (reads_items 2 (λ ys. local_set words (items_of can.x.bytes) ys))
unfolding reads_file
second_is_ready words files before can = (
  can.y.bytes,
  is_there files words 2 can.y.bytes can.y.there,
  can.y.short,
  ready_on (told (Some files) words) before (items_in 2 can.y.bytes) (items_of can.y.bytes) (λ ys. local_set words (items_of can.x.bytes) ys)
      (items_ready words can.y.bytes 2 can.y.good) (set_is_ready words files before can (items_of can.y.bytes)),
)

local_is_ready : (words : List (List ℕ)) (files : Files) (before : Outside) (can : CanPlay words files) → IsReady (told (Some files) words) before (local_tree words)
unfolding reads_file
local_is_ready words files before can = (
  can.x.bytes,
  is_there files words 1 can.x.bytes can.x.there,
  can.x.short,
  ready_on (told (Some files) words) before (items_in 1 can.x.bytes) (items_of can.x.bytes) (λ xs. reads_items 2 (λ ys. local_set words xs ys))
      (items_ready words can.x.bytes 1 can.x.good) (second_is_ready words files before can),
)

-- ---- all that `local` promises

local_answers : (known : Known) (words : List (List ℕ)) (before : Outside) (end : End) → Runs known words (local_tree words) before end → Answered known words before end.placed end.status end.left
local_answers known words before end h =
    of_first known words before end.placed end.status end.left
    (answered_items known words 1 (λ xs. reads_items 2 (λ ys. local_set words xs ys)) before end.placed end.status end.left (follows_answers known words false (local_tree words) before end h))

local_promise : (known : Known) (words : List (List ℕ)) (before : Outside) (end : End) → Runs known words (local_tree words) before end → LocalPromise known words before end
unfolding Answered
local_promise known words before end h =
    let answered = local_answers known words before end h in
    record {
      answers = answered.0;
      silent = answered.1;
      shows = λ done. local_leaves known words before end (follows_leaves known words false (local_tree words) before end done h);
      completes = λ files is can calm.
          runs_through known words false (local_tree words) before end h (ready_told files words before (local_tree words) is (local_is_ready words files before can)) calm;
    }

pub local_keeps : (known : Known) (words : List (List ℕ)) (before : Outside) (end : End) → Runs known words (local_tree words) before end
    → Keeps command_local known words before end
local_keeps known words before end h = record { promise = local_promise known words before end h; wire = runs_wired known words (local_tree words) before end h }
