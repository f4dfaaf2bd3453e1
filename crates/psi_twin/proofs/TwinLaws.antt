-- The promises of `twin` in its own words.
use Rattle.std.proofs.Common.{◌≡◌, inl, inr, ◌⊎◌, ℕ, false, List, [], ◌∷◌, length, Some, None, Ok, Err, slice_get, refl, sym, ap, ◌∙◌, subst, arith, zero, suc}
use Rattle.std.specs.declared.result.Result.{Result}
use Rattle.psi_spec.specs.DealFiles.{receiver_bytes, sender_bytes}
use Rattle.psi_spec.specs.Deals.{ReceiverDeal, SenderDeal}
use Rattle.psi_spec.specs.Items.{items_of}
use Rattle.psi_spec.specs.Limits.{file_limit}
use Rattle.psi_spec.specs.Placement.{Slot}
use Rattle.psi_spec.proofs.DealFiles.{length-receiver_bytes, length-sender_bytes}
use Rattle.psi_base.specs.Outside.{Known, Outside, Files}
use Rattle.psi_walk.specs.Due.{told}
use Rattle.psi_walk.specs.Files.{items_in, reads_file, reads_items, reads_receiver, reads_sender, receiver_in, sender_in}
use Rattle.psi_walk.specs.JudgedFiles.{HasItems, HasReceiverDeal}
use Rattle.psi_walk.specs.Promises.{IsAnswered, IsFailedEffect, IsOfEnd, IsReady, IsSilent, IsUnread, Leaves, WriteFailed}
use Rattle.psi_spec.specs.Meeting.{placed_of}
use Rattle.psi_walk.specs.Placing.{placing_of}
use Rattle.psi_walk.specs.Tree.{Effect, puts, decides, End, carried_by}
use Rattle.psi_twin.specs.Twin.{dealt_for, twin_files, twin_first, twin_rest, twin_second, twin_sets, twin_tree, twins_in}
use Rattle.psi_twin.specs.TwinPromises.{AreTwins, CanTwin, HasTwins, HidTwins, IsDueInput, IsPlacedWith, TwinAnswers, Twins, WerePlaced, TwinPromise}
use Rattle.psi_walk.specs.Walk.{IsNotPlaced, Runs}
use Rattle.psi_texts.specs.declared.status.Status.{Status}
use Rattle.psi_texts.specs.declared.status.Status.TheVariants as status
use Rattle.psi_walk.proofs.Answered.{follows_answers}
use Rattle.psi_walk.proofs.JudgedFiles.{AtFile, unread, wanting, refused, taken_on, answered_items, answered_receiver, answered_sender, has_bad_line, has_bad_receiver, has_bad_sender, has_items, has_receiver, has_sender, items_bad, left_decides, left_items, left_receiver, left_sender, receiver_bad, sender_bad, receiver_deal_of, sender_deal_of}
use Rattle.psi_walk.proofs.Carried.{answers_unrefused, carries_all, last_carries}
use Rattle.psi_walk.proofs.Unplaced.{ends_place_none}
use Rattle.psi_walk.proofs.Ready.{is_there, items_ready, ready_on, ready_told, receiver_ready, sender_ready}
use Rattle.psi_twin.proofs.TwinVerdicts.{Says, same_stream, twins_hide, twins_ready, twins_say}
use Rattle.psi_walk.proofs.Placings.{is_placement}
use Rattle.psi_walk.proofs.Left.{follows_leaves}
use Rattle.psi_walk.proofs.Through.{runs_through}
use Rattle.psi_walk.proofs.Wired.{MayBeWired, decides_wired, ends_wired, items_wired, receiver_wired, runs_unwired, sender_wired}
use Rattle.psi_walk.specs.Command.{Keeps}
use Rattle.psi_twin.specs.Commands.{command_twin}

-- ---- what was read

-- what the files hold
twins : List (List ℕ) → List (List ℕ) → ReceiverDeal → SenderDeal → Twins
twins xs others receiver sender = record { xs = xs; others = others; receiver = receiver; sender = sender }

-- what the judgement says of them
files_say : (known : Known) (words : List (List ℕ)) (before : Outside) (t : Twins) → HasTwins known words before t → Says t (twins_in t.receiver t.sender t.xs t.others)
files_say known words before t has = twins_say t (receiver_deal_of known words before 3 t.receiver has.r_file) (sender_deal_of known words before 4 t.sender has.s_file)

-- what was judged to be so, is so
says_twins : (t : Twins) (r : Result (Unit {0}) Status) (x : Unit {0}) → r ≡ Ok x → Says t r → AreTwins t
says_twins t r x is h = subst (Says t) is h

-- ---- what a run that is done left

sets_leave : (known : Known) (words : List (List ℕ)) (before : Outside) (t : Twins) (end : End) → HasTwins known words before t
    → Leaves known words (twin_sets t.receiver t.sender t.xs t.others) before end → HidTwins known words before end
sets_leave known words before t end has h =
    let judged = left_decides known words (twins_in t.receiver t.sender t.xs t.others) (λ _. twin_first t.receiver t.sender t.xs t.others) before end h in
    let is = says_twins t (twins_in t.receiver t.sender t.xs t.others) judged.0 judged.1 (files_say known words before t has) in
    let one = judged.2 in
    let slots = one.0 in
    let two = one.4 in
    let others = two.0 in
    let first = is_placement t.receiver t.xs slots one.2 in
    let second = is_placement t.receiver t.others others two.2 in
    record {
      t = t;
      files = has;
      twins = is;
      slots = slots;
      others = others;
      first = first;
      second = second;
      carried = ap (λ (d : End). d.placed) one.3 ∙ (ap (λ (d : End). slots ∷ d.placed) two.3 ∙ ap (λ (d : End). slots ∷ others ∷ d.placed) two.4);
      left = ap (λ (d : End). d.left) one.3 ∙ (ap (λ (d : End). d.left) two.3 ∙ ap (λ (d : End). d.left) two.4);
      same = same_stream t slots others (receiver_deal_of known words before 3 t.receiver has.r_file) is first second;
      hidden = twins_hide t slots others is first second;
    }

twin_leaves : (known : Known) (words : List (List ℕ)) (before : Outside) (end : End) → Leaves known words twin_tree before end → HidTwins known words before end
unfolding twins
twin_leaves known words before end h =
    let x = left_items known words 1 (λ xs. reads_items 2 (λ others. reads_receiver 3 (λ receiver. reads_sender 4 (λ sender. twin_sets receiver sender xs others)))) before end h in
    let o = left_items known words 2 (λ others. reads_receiver 3 (λ receiver. reads_sender 4 (λ sender. twin_sets receiver sender x.0 others))) before end x.2 in
    let r = left_receiver known words 3 (λ receiver. reads_sender 4 (λ sender. twin_sets receiver sender x.0 o.0)) before end o.2 in
    let s = left_sender known words 4 (λ sender. twin_sets r.0 sender x.0 o.0) before end r.2 in
    sets_leave known words before (twins x.0 o.0 r.0 s.0) end (record { x_file = x.1; other_file = o.1; r_file = r.1; s_file = s.1 }) s.2

-- ---- what `twin` may answer

-- what it answers, with nothing sent or taken
Answered : Known → List (List ℕ) → Outside → List (List Slot) → Status → Outside → Type 0
Answered known words before slots why after = TwinAnswers known words before slots why × IsSilent before after

wanted : (known : Known) (words : List (List ℕ)) (before : Outside) (slots : List (List Slot)) (why : Status) (after : Outside)
    → why ≡ status.NoMemory → IsSilent before after → slots ≡ [] → Answered known words before slots why after
unfolding Answered
wanted known words before slots why after s quiet none = subst (λ (x : Status). TwinAnswers known words before slots x × IsSilent before after) (sym s) (inl none, quiet)

-- a file that was due was not read
not_read : (known : Known) (words : List (List ℕ)) (before : Outside) (word : ℕ) → IsDueInput known words before word → (slots : List (List Slot)) (why : Status)
    → IsUnread known words word file_limit why → slots ≡ [] → TwinAnswers known words before slots why
not_read known words before word due slots (status.FileFault place) h none = inl (subst (λ (w : ℕ). IsDueInput known words before w) (sym h.0) due, h.1, none)
not_read known words before word due slots (status.TooLong place taken) h none = (subst (λ (w : ℕ). IsDueInput known words before w) (sym h.0) due, h.1, none)
not_read known words before word due slots status.NoMemory h none = inl none
not_read known words before word due slots _ h none = absurd h

-- only the two outputs are written
same_effect : (one other : Effect) → Some one ≡ Some other → one ≡ other
same_effect one other e = cc e

only_outputs : (known : Known) (words : List (List ℕ)) (stream columns : List ℕ) (at : ℕ) (effect : Effect) (place : ℕ) → slice_get (puts 5 stream ∷ puts 6 columns ∷ []) at ≡ Some effect
    → IsFailedEffect known words (status.FileFault place) effect → ((place ≡ 5) ⊎ (place ≡ 6)) × WriteFailed known words place
only_outputs known words stream columns zero effect place e h =
    let f : IsFailedEffect known words (status.FileFault place) (puts 5 stream) = subst (IsFailedEffect known words (status.FileFault place)) (sym (same_effect (puts 5 stream) effect e)) h in
    (inl f.0, f.1)
only_outputs known words stream columns (suc zero) effect place e h =
    let f : IsFailedEffect known words (status.FileFault place) (puts 6 columns) = subst (IsFailedEffect known words (status.FileFault place)) (sym (same_effect (puts 6 columns) effect e)) h in
    (inr f.0, f.1)
only_outputs known words stream columns (suc (suc at)) effect place e h = cc e

-- and nothing is printed
none_printed : (known : Known) (words : List (List ℕ)) (stream columns : List ℕ) (at : ℕ) (effect : Effect) → slice_get (puts 5 stream ∷ puts 6 columns ∷ []) at ≡ Some effect → IsFailedEffect known words status.PrintFault effect → ⊥
none_printed known words stream columns zero effect e h =
    let f : IsFailedEffect known words status.PrintFault (puts 5 stream) = subst (IsFailedEffect known words status.PrintFault) (sym (same_effect (puts 5 stream) effect e)) h in f
none_printed known words stream columns (suc zero) effect e h =
    let f : IsFailedEffect known words status.PrintFault (puts 6 columns) = subst (IsFailedEffect known words status.PrintFault) (sym (same_effect (puts 6 columns) effect e)) h in f
none_printed known words stream columns (suc (suc at)) effect e h = cc e

of_end : (known : Known) (words : List (List ℕ)) (before : Outside) (slots : List (List Slot)) (stream columns : List ℕ) → WerePlaced known words before slots
    → (why : Status) → IsOfEnd known words false why (puts 5 stream ∷ puts 6 columns ∷ []) → TwinAnswers known words before slots why
of_end known words before slots stream columns was status.Done h = was
of_end known words before slots stream columns was status.NoMemory h = inr (was.0, was.1, (was.2.0, inr was.2.1))
of_end known words before slots stream columns was (status.FileFault place) h =
    let failed = only_outputs known words stream columns h.0 h.1 place h.2 h.3 in inr (failed.0, failed.1, was)
of_end known words before slots stream columns was status.PrintFault h = absurd (none_printed known words stream columns h.0 h.1 h.2 h.3)
of_end known words before slots stream columns was _ h = absurd h.3

-- the second list was not placed
second_unplaced : (known : Known) (words : List (List ℕ)) (before : Outside) (t : Twins) → HasTwins known words before t → AreTwins t → (slots : List Slot)
    → IsPlacedWith t.receiver t.xs slots → (placed rest : List (List Slot)) (why : Status) → IsNotPlaced 2 (placing_of t.receiver t.others) why → rest ≡ []
    → placed ≡ carried_by why slots rest → TwinAnswers known words before placed why
unfolding placing_of
second_unplaced known words before t has is slots first placed rest (status.NoPlacement place items touched) h none carried =
    ((t, has, (is, inr (h.0, (h.1.0, h.2), (slots, first)))), carried)
second_unplaced known words before t has is slots first placed rest status.NoMemory h none carried =
    inr (t, has, (is, inl (slots, carried ∙ ap (λ (more : List (List Slot)). slots ∷ more) none, first)))
second_unplaced known words before t has is slots first placed rest _ h none carried = absurd h

of_second_set : (known : Known) (words : List (List ℕ)) (before : Outside) (t : Twins) → HasTwins known words before t → AreTwins t → (slots : List Slot)
    → IsPlacedWith t.receiver t.xs slots → (placed rest : List (List Slot)) (why : Status) (after : Outside) → placed ≡ carried_by why slots rest
    → IsAnswered known words false (twin_second t.receiver t.sender t.xs slots t.others) before rest why after → Answered known words before placed why after
unfolding Answered
of_second_set known words before t has is slots first placed rest why after carried (inl a) =
    (second_unplaced known words before t has is slots first placed rest why a.0 a.2 carried, a.1)
of_second_set known words before t has is slots first placed rest why after carried (inr a) =
    let others = a.0 in
    let end = a.4 in
    let second = is_placement t.receiver t.others others a.2 in
    let tree = twin_rest t.receiver t.sender t.xs slots t.others others in
    let none = ends_place_none None (twin_files t.receiver t.sender (placed_of t.xs slots) (placed_of t.others others) (dealt_for t.receiver (length t.xs))) in
    let last : rest ≡ others ∷ [] = last_carries known words false tree before others rest a.1 why after none a.3 end in
    let both : placed ≡ slots ∷ others ∷ [] =
    carried ∙ (carries_all why slots rest (answers_unrefused known words false tree before a.1 why after none end) ∙ ap (λ (more : List (List Slot)). slots ∷ more) last) in
    (of_end known words before placed _ _ (t, has, (is, (slots, others, both, first, second))) why end.0, end.1)

-- the first list was not placed
first_unplaced : (known : Known) (words : List (List ℕ)) (before : Outside) (t : Twins) → HasTwins known words before t → AreTwins t
    → (slots : List (List Slot)) (why : Status) → IsNotPlaced 1 (placing_of t.receiver t.xs) why → slots ≡ [] → TwinAnswers known words before slots why
unfolding placing_of
first_unplaced known words before t has is slots (status.NoPlacement place items touched) h none = ((t, has, (is, inl (h.0, (h.1.0, h.2)))), none)
first_unplaced known words before t has is slots status.NoMemory h none = inl none
first_unplaced known words before t has is slots _ h none = absurd h

of_first_set : (known : Known) (words : List (List ℕ)) (before : Outside) (t : Twins) → HasTwins known words before t → AreTwins t
    → (slots : List (List Slot)) (why : Status) (after : Outside)
    → IsAnswered known words false (twin_first t.receiver t.sender t.xs t.others) before slots why after → Answered known words before slots why after
unfolding Answered
of_first_set known words before t has is slots why after (inl a) = (first_unplaced known words before t has is slots why a.0 a.2, a.1)
of_first_set known words before t has is slots why after (inr a) =
    of_second_set known words before t has is a.0 (is_placement t.receiver t.xs a.0 a.2) slots a.1 why after a.3 a.4

of_sets : (known : Known) (words : List (List ℕ)) (before : Outside) (t : Twins) → HasTwins known words before t → (r : Result (Unit {0}) Status) → Says t r
    → (slots : List (List Slot)) (why : Status) (after : Outside)
    → IsAnswered known words false (decides r (λ _. twin_first t.receiver t.sender t.xs t.others)) before slots why after → Answered known words before slots why after
unfolding Answered decides
of_sets known words before t has (Ok x) is slots why after a = of_first_set known words before t has is slots why after a
of_sets known words before t has (Err verdict) says_so slots why after (inl s, quiet, none) = wanted known words before slots why after s quiet none
of_sets known words before t has (Err verdict) says_so slots why after (inr s, quiet, none) =
    (subst (λ (x : Status). TwinAnswers known words before slots x) (sym s.0) (by_status verdict says_so), quiet)
  where
    by_status : (v : Status) → Says t (Err v) → TwinAnswers known words before slots v
    by_status (status.DealsDiffer field) h = ((t, has, h), none)
    by_status (status.SizesDiffer first second) h = ((t, has, h), none)
    by_status _ h = absurd h

of_sender : (known : Known) (words : List (List ℕ)) (before : Outside) (xs others : List (List ℕ)) (receiver : ReceiverDeal)
    → HasItems known words before 1 xs → HasItems known words before 2 others → HasReceiverDeal known words before 3 receiver
    → (slots : List (List Slot)) (why : Status) (after : Outside)
    → AtFile known words before 4 file_limit (sender_in 4) slots why after (λ sender. IsAnswered known words false (twin_sets receiver sender xs others) before slots why after)
    → Answered known words before slots why after
unfolding Answered twins
of_sender known words before xs others receiver x_file other_file r_file slots why after (unread h quiet none) =
    (not_read known words before 4 (inr (inr (inr (refl, (((xs, x_file), (others, other_file)), (receiver, r_file)))))) slots why h none, quiet)
of_sender known words before xs others receiver x_file other_file r_file slots why after (wanting s quiet none) = wanted known words before slots why after s quiet none
of_sender known words before xs others receiver x_file other_file r_file slots why after (refused bytes read e quiet none) =
    let bad = sender_bad 4 bytes why e in (
      subst (λ (x : Status). TwinAnswers known words before slots x) (sym bad.2)
          (inr (refl, (((xs, x_file), (others, other_file)), (receiver, r_file)), has_bad_sender known words before 4 bytes bad.0 read bad.1), none),
      quiet,
    )
of_sender known words before xs others receiver x_file other_file r_file slots why after (taken_on bytes sender read e a) =
    let t : Twins = twins xs others receiver sender in
    let has : HasTwins known words before t =
    record { x_file = x_file; other_file = other_file; r_file = r_file; s_file = has_sender known words before 4 bytes sender read e } in
    of_sets known words before t has (twins_in receiver sender xs others) (files_say known words before t has) slots why after a

of_receiver : (known : Known) (words : List (List ℕ)) (before : Outside) (xs others : List (List ℕ)) → HasItems known words before 1 xs → HasItems known words before 2 others
    → (slots : List (List Slot)) (why : Status) (after : Outside)
    → AtFile known words before 3 file_limit (receiver_in 3) slots why after
    (λ receiver. IsAnswered known words false (reads_sender 4 (λ sender. twin_sets receiver sender xs others)) before slots why after)
    → Answered known words before slots why after
unfolding Answered
of_receiver known words before xs others x_file other_file slots why after (unread h quiet none) =
    (not_read known words before 3 (inr (inr (inl (refl, ((xs, x_file), (others, other_file)))))) slots why h none, quiet)
of_receiver known words before xs others x_file other_file slots why after (wanting s quiet none) = wanted known words before slots why after s quiet none
of_receiver known words before xs others x_file other_file slots why after (refused bytes read e quiet none) =
    let bad = receiver_bad 3 bytes why e in (
      subst (λ (x : Status). TwinAnswers known words before slots x) (sym bad.2)
          (inl (refl, ((xs, x_file), (others, other_file)), has_bad_receiver known words before 3 bytes bad.0 read bad.1), none),
      quiet,
    )
of_receiver known words before xs others x_file other_file slots why after (taken_on bytes receiver read e a) =
    of_sender known words before xs others receiver x_file other_file (has_receiver known words before 3 bytes receiver read e) slots why after
    (answered_sender known words 4 (λ sender. twin_sets receiver sender xs others) before slots why after a)

of_second : (known : Known) (words : List (List ℕ)) (before : Outside) (xs : List (List ℕ)) → HasItems known words before 1 xs
    → (slots : List (List Slot)) (why : Status) (after : Outside)
    → AtFile known words before 2 file_limit (items_in 2) slots why after
    (λ others. IsAnswered known words false (reads_receiver 3 (λ receiver. reads_sender 4 (λ sender. twin_sets receiver sender xs others))) before slots why after)
    → Answered known words before slots why after
unfolding Answered
of_second known words before xs x_file slots why after (unread h quiet none) = (not_read known words before 2 (inr (inl (refl, (xs, x_file)))) slots why h none, quiet)
of_second known words before xs x_file slots why after (wanting s quiet none) = wanted known words before slots why after s quiet none
of_second known words before xs x_file slots why after (refused bytes read e quiet none) =
    let bad = items_bad 2 bytes why e in (
      subst (λ (x : Status). TwinAnswers known words before slots x) (sym bad.2) (inr (xs, x_file, (refl, has_bad_line known words before 2 bytes bad.0 read bad.1)), none),
      quiet,
    )
of_second known words before xs x_file slots why after (taken_on bytes others read e a) =
    of_receiver known words before xs others x_file (has_items known words before 2 bytes others read e) slots why after
    (answered_receiver known words 3 (λ receiver. reads_sender 4 (λ sender. twin_sets receiver sender xs others)) before slots why after a)

of_first : (known : Known) (words : List (List ℕ)) (before : Outside) (slots : List (List Slot)) (why : Status) (after : Outside)
    → AtFile known words before 1 file_limit (items_in 1) slots why after
    (λ xs. IsAnswered known words false (reads_items 2 (λ others. reads_receiver 3 (λ receiver. reads_sender 4 (λ sender. twin_sets receiver sender xs others)))) before slots why after)
    → Answered known words before slots why after
unfolding Answered
of_first known words before slots why after (unread h quiet none) = (not_read known words before 1 (inl refl) slots why h none, quiet)
of_first known words before slots why after (wanting s quiet none) = wanted known words before slots why after s quiet none
of_first known words before slots why after (refused bytes read e quiet none) =
    let bad = items_bad 1 bytes why e in
    (subst (λ (x : Status). TwinAnswers known words before slots x) (sym bad.2) (inl (refl, has_bad_line known words before 1 bytes bad.0 read bad.1), none), quiet)
of_first known words before slots why after (taken_on bytes xs read e a) =
    of_second known words before xs (has_items known words before 1 bytes xs read e) slots why after
    (answered_items known words 2 (λ others. reads_receiver 3 (λ receiver. reads_sender 4 (λ sender. twin_sets receiver sender xs others))) before slots why after a)

-- ---- valid files, and lists that have placements

sets_are_ready : (words : List (List ℕ)) (files : Files) (before : Outside) (can : CanTwin words files)
    → IsReady (told (Some files) words) before (twin_sets can.receiver can.sender (items_of can.x.bytes) (items_of can.other.bytes))
unfolding placing_of
sets_are_ready words files before can =
    let xs : List (List ℕ) = items_of can.x.bytes in
    let others : List (List ℕ) = items_of can.other.bytes in
    ready_on (told (Some files) words) before (twins_in can.receiver can.sender xs others) tt (λ _. twin_first can.receiver can.sender xs others)
    (twins_ready can.receiver can.sender xs others can.pair can.sizes) ((can.slots, can.first), λ slots is. ((can.others, can.second), λ others is. tt))

sender_is_ready : (words : List (List ℕ)) (files : Files) (before : Outside) (can : CanTwin words files)
    → IsReady (told (Some files) words) before (reads_sender 4 (λ sender. twin_sets can.receiver sender (items_of can.x.bytes) (items_of can.other.bytes)))
unfolding reads_file
sender_is_ready words files before can = (
  sender_bytes can.sender,
  is_there files words 4 (sender_bytes can.sender) can.s_there,
  omega (arith, length-sender_bytes can.sender can.sender_is),
  ready_on (told (Some files) words) before (sender_in 4 (sender_bytes can.sender)) can.sender
      (λ sender. twin_sets can.receiver sender (items_of can.x.bytes) (items_of can.other.bytes)) (sender_ready 4 can.sender can.sender_is)
      (sets_are_ready words files before can),
)

receiver_is_ready : (words : List (List ℕ)) (files : Files) (before : Outside) (can : CanTwin words files)
    → IsReady (told (Some files) words) before (reads_receiver 3 (λ receiver. reads_sender 4 (λ sender. twin_sets receiver sender (items_of can.x.bytes) (items_of can.other.bytes))))
unfolding reads_file
receiver_is_ready words files before can = (
  receiver_bytes can.receiver,
  is_there files words 3 (receiver_bytes can.receiver) can.r_there,
  omega (arith, length-receiver_bytes can.receiver can.receiver_is),
  ready_on (told (Some files) words) before (receiver_in 3 (receiver_bytes can.receiver)) can.receiver
      (λ receiver. reads_sender 4 (λ sender. twin_sets receiver sender (items_of can.x.bytes) (items_of can.other.bytes))) (receiver_ready 3 can.receiver can.receiver_is)
      (sender_is_ready words files before can),
)

second_is_ready : (words : List (List ℕ)) (files : Files) (before : Outside) (can : CanTwin words files)
    → IsReady (told (Some files) words) before
    (reads_items 2 (λ others. reads_receiver 3 (λ receiver. reads_sender 4 (λ sender. twin_sets receiver sender (items_of can.x.bytes) others))))
unfolding reads_file
second_is_ready words files before can = (
  can.other.bytes,
  is_there files words 2 can.other.bytes can.other.there,
  can.other.short,
  ready_on (told (Some files) words) before (items_in 2 can.other.bytes) (items_of can.other.bytes)
      (λ others. reads_receiver 3 (λ receiver. reads_sender 4 (λ sender. twin_sets receiver sender (items_of can.x.bytes) others)))
      (items_ready words can.other.bytes 2 can.other.good) (receiver_is_ready words files before can),
)

twin_is_ready : (words : List (List ℕ)) (files : Files) (before : Outside) (can : CanTwin words files) → IsReady (told (Some files) words) before twin_tree
unfolding reads_file
twin_is_ready words files before can = (
  can.x.bytes,
  is_there files words 1 can.x.bytes can.x.there,
  can.x.short,
  ready_on (told (Some files) words) before (items_in 1 can.x.bytes) (items_of can.x.bytes)
      (λ xs. reads_items 2 (λ others. reads_receiver 3 (λ receiver. reads_sender 4 (λ sender. twin_sets receiver sender xs others))))
      (items_ready words can.x.bytes 1 can.x.good) (second_is_ready words files before can),
)

-- ---- all that `twin` promises

sets_unwired : (xs others : List (List ℕ)) (receiver : ReceiverDeal) (sender : SenderDeal) → MayBeWired false (twin_sets receiver sender xs others)
unfolding MayBeWired
sets_unwired xs others receiver sender =
    decides_wired false (twins_in receiver sender xs others) (λ _. twin_first receiver sender xs others)
    (λ is slots other_slots. ends_wired false (twin_files receiver sender (placed_of xs slots) (placed_of others other_slots) (dealt_for receiver (length xs))))

twin_unwired : MayBeWired false twin_tree
twin_unwired =
    items_wired false 1 _ (λ xs. items_wired false 2 _
    (λ others. receiver_wired false 3 (λ receiver. reads_sender 4 (λ sender. twin_sets receiver sender xs others))
    (λ receiver. sender_wired false 4 (λ sender. twin_sets receiver sender xs others) (λ sender. sets_unwired xs others receiver sender))))

twin_answers : (known : Known) (words : List (List ℕ)) (before : Outside) (end : End) → Runs known words twin_tree before end → Answered known words before end.placed end.status end.left
twin_answers known words before end h =
    of_first known words before end.placed end.status end.left
    (answered_items known words 1 (λ xs. reads_items 2 (λ others. reads_receiver 3 (λ receiver. reads_sender 4 (λ sender. twin_sets receiver sender xs others)))) before end.placed end.status end.left (follows_answers known words false twin_tree before end h))

twin_promise : (known : Known) (words : List (List ℕ)) (before : Outside) (end : End) → Runs known words twin_tree before end → TwinPromise known words before end
unfolding Answered
twin_promise known words before end h =
    let answered = twin_answers known words before end h in
    record {
      answers = answered.0;
      silent = answered.1;
      hides = λ done. twin_leaves known words before end (follows_leaves known words false twin_tree before end done h);
      completes = λ files is can calm.
          runs_through known words false twin_tree before end h (ready_told files words before twin_tree is (twin_is_ready words files before can)) calm;
    }

pub twin_keeps : (known : Known) (words : List (List ℕ)) (before : Outside) (end : End) → Runs known words twin_tree before end
    → Keeps command_twin known words before end
twin_keeps known words before end h = record { promise = twin_promise known words before end h; wire = runs_unwired known words twin_tree before end twin_unwired h }
