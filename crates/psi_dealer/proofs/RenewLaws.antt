-- The promises of `renew` in its own words.
use Rattle.std.proofs.Common.{◌≡◌, ◌≤◌, inl, inr, ℕ, false, List, [], ◌∷◌, length, Some, None, Ok, slice_get, refl, sym, ap, subst, arith, zero, suc}
use Rattle.psi_spec.specs.Limits.{file_limit}
use Rattle.psi_spec.specs.Placement.{Slot}
use Rattle.psi_spec.proofs.OldDealFiles.{length-old_receiver_bytes, length-old_sender_bytes}
use Rattle.psi_base.specs.Outside.{Known, Outside, Files}
use Rattle.psi_deal.specs.OldDeals.{IsOldFile, renewed}
use Rattle.psi_deal.specs.declared.old_files.OldDeal.{OldDeal}
use Rattle.psi_deal.specs.declared.old_files.OldDeal.TheVariants.{Receiver, Sender}
use Rattle.psi_deal.proofs.OldFaultless.{old_file_spells}
use Rattle.psi_walk.specs.Due.{told}
use Rattle.psi_walk.specs.Files.{old_deal_in, reads_file}
use Rattle.psi_walk.specs.JudgedFiles.{HasOldDeal}
use Rattle.psi_walk.specs.Promises.{IsAnswered, IsFailedEffect, IsOfEnd, IsReady, IsSilent, IsUnread, Leaves, WriteFailed}
use Rattle.psi_dealer.specs.Renew.{renew_tree}
use Rattle.psi_dealer.specs.RenewPromises.{CanRenew, RenewAnswers, WroteRenewed, RenewPromise}
use Rattle.psi_walk.specs.Tree.{Effect, puts, ends, End}
use Rattle.psi_texts.specs.declared.status.Status.{Status}
use Rattle.psi_texts.specs.declared.status.Status.TheVariants as status
use Rattle.psi_walk.proofs.Answered.{follows_answers}
use Rattle.psi_walk.proofs.JudgedFiles.{AtFile, unread, wanting, refused, taken_on, answered_old, has_bad_old, has_old, left_old, old_bad}
use Rattle.psi_walk.proofs.Ready.{is_there, ready_on, ready_told}
use Rattle.psi_walk.proofs.Unplaced.{PlacesNone, none_is_placed, old_places_none}
use Rattle.psi_walk.specs.Walk.{Runs}
use Rattle.psi_walk.proofs.Left.{follows_leaves}
use Rattle.psi_walk.proofs.Through.{runs_through}
use Rattle.psi_walk.proofs.Wired.{MayBeWired, ends_wired, old_wired, runs_unwired}
use Rattle.psi_walk.specs.Command.{Keeps}
use Rattle.psi_dealer.specs.Commands.{command_renew}

-- ---- what a run that is done left

renew_leaves : (known : Known) (words : List (List ℕ)) (before : Outside) (end : End) → Leaves known words renew_tree before end → WroteRenewed known words before end.left
renew_leaves known words before end h =
    let old = left_old known words 1 (λ deal. ends None (puts 2 (renewed deal) ∷ [])) before end h in
    record { deal = old.0; old = old.1; left = ap (λ (e : End). e.left) old.2 }

-- ---- what `renew` may answer

-- the file that is due was not read
not_read : (known : Known) (words : List (List ℕ)) (before : Outside) (why : Status) (after : Outside) → IsUnread known words 1 file_limit why → RenewAnswers known words before why after
not_read known words before (status.FileFault place) after h = inl h
not_read known words before (status.TooLong place taken) after h = h
not_read known words before status.NoMemory after h = tt
not_read known words before _ after h = absurd h

-- the new file is all that is written at the end
of_end : (known : Known) (words : List (List ℕ)) (before : Outside) (deal : OldDeal) (bytes : List ℕ) → HasOldDeal known words before 1 deal
    → (why : Status) (after : Outside) → (why ≡ status.Done → RenewAnswers known words before why after) → IsOfEnd known words false why (puts 2 bytes ∷ [])
    → RenewAnswers known words before why after
of_end known words before deal bytes has status.Done after done h = done refl
of_end known words before deal bytes has status.NoMemory after done h = tt
of_end known words before deal bytes has (status.FileFault place) after done h = let failed = the_file h.0 h.1 h.2 h.3 in inr (failed.0, failed.1, (deal, has))
  where
    the_file : (at : ℕ) (effect : Effect) → slice_get (puts 2 bytes ∷ []) at ≡ Some effect → IsFailedEffect known words (status.FileFault place) effect → (place ≡ 2) × WriteFailed known words place
    the_file zero effect e f =
        let same : effect ≡ puts 2 bytes = cc e in
        let g : IsFailedEffect known words (status.FileFault place) (puts 2 bytes) = subst (IsFailedEffect known words (status.FileFault place)) same f in
        g
    the_file (suc at) effect e f = cc e
of_end known words before deal bytes has status.PrintFault after done h = absurd (no_text h.0 h.1 h.2 h.3)
  where
    no_text : (at : ℕ) (effect : Effect) → slice_get (puts 2 bytes ∷ []) at ≡ Some effect → IsFailedEffect known words status.PrintFault effect → ⊥
    no_text zero effect e f =
        let same : effect ≡ puts 2 bytes = cc e in
        let g : IsFailedEffect known words status.PrintFault (puts 2 bytes) = subst (IsFailedEffect known words status.PrintFault) same f in
        g
    no_text (suc at) effect e f = cc e
of_end known words before deal bytes has _ after done h = absurd h.3

of_old : (known : Known) (words : List (List ℕ)) (before : Outside) (slots : List (List Slot)) (why : Status) (after : Outside)
    → (why ≡ status.Done → RenewAnswers known words before why after)
    → AtFile known words before 1 file_limit (old_deal_in 1) slots why after (λ deal. IsAnswered known words false (ends None (puts 2 (renewed deal) ∷ [])) before slots why after)
    → RenewAnswers known words before why after × IsSilent before after
of_old known words before slots why after done (unread h quiet none) = (not_read known words before why after h, quiet)
of_old known words before slots why after done (wanting s quiet none) = (subst (λ (x : Status). RenewAnswers known words before x after) (sym s) tt, quiet)
of_old known words before slots why after done (refused bytes read e quiet none) =
    let bad = old_bad 1 bytes why e in
    (subst (λ (x : Status). RenewAnswers known words before x after) (sym bad.2) (refl, has_bad_old known words before 1 bytes bad.0 read bad.1), quiet)
of_old known words before slots why after done (taken_on bytes deal read e a) =
    (of_end known words before deal (renewed deal) (has_old known words before 1 bytes deal read e) why after done a.0, a.1)

renew_places_none : PlacesNone renew_tree
unfolding PlacesNone
renew_places_none = old_places_none 1 (λ deal. ends None (puts 2 (renewed deal) ∷ [])) (λ deal. tt)

-- ---- a file of version 1

short_old : (deal : OldDeal) (bytes : List ℕ) → IsOldFile deal bytes → length bytes ≤ file_limit
short_old (Receiver deal) bytes file = omega (arith, ap length file.is, length-old_receiver_bytes deal file.sizes)
short_old (Sender deal) bytes file = omega (arith, ap length file.is, length-old_sender_bytes deal file.sizes)

old_ready : (word : ℕ) (deal : OldDeal) (bytes : List ℕ) → IsOldFile deal bytes → old_deal_in word bytes ≡ Ok deal
unfolding old_deal_in
old_ready word deal bytes file =
    let spells = old_file_spells deal bytes file in
    rw (spells.0, spells.1) refl

renew_is_ready : (words : List (List ℕ)) (files : Files) (before : Outside) (can : CanRenew words files) → IsReady (told (Some files) words) before renew_tree
unfolding reads_file
renew_is_ready words files before can = (
  can.bytes,
  is_there files words 1 can.bytes can.there,
  short_old can.deal can.bytes can.old,
  ready_on (told (Some files) words) before (old_deal_in 1 can.bytes) can.deal (λ deal. ends None (puts 2 (renewed deal) ∷ [])) (old_ready 1 can.deal can.bytes can.old) tt,
)

-- ---- all that `renew` promises

renew_unwired : MayBeWired false renew_tree
renew_unwired = old_wired false 1 (λ deal. ends None (puts 2 (renewed deal) ∷ [])) (λ deal. ends_wired false (puts 2 (renewed deal) ∷ []))

renew_answers : (known : Known) (words : List (List ℕ)) (before : Outside) (end : End) → Runs known words renew_tree before end → RenewAnswers known words before end.status end.left × IsSilent before end.left
renew_answers known words before end h =
    let done = λ (e : end.status ≡ status.Done).
    subst (λ (x : Status). RenewAnswers known words before x end.left) (sym e) (renew_leaves known words before end (follows_leaves known words false renew_tree before end e h)) in
    of_old known words before end.placed end.status end.left done
    (answered_old known words 1 (λ deal. ends None (puts 2 (renewed deal) ∷ [])) before end.placed end.status end.left (follows_answers known words false renew_tree before end h))

renew_promise : (known : Known) (words : List (List ℕ)) (before : Outside) (end : End) → Runs known words renew_tree before end → RenewPromise known words before end
renew_promise known words before end h =
    let answered = renew_answers known words before end h in
    record {
      answers = answered.0;
      silent = answered.1;
      places_none = none_is_placed known words false renew_tree before end.placed end.status end.left renew_places_none (follows_answers known words false renew_tree before end h);
      completes = λ files is can calm.
          runs_through known words false renew_tree before end h (ready_told files words before renew_tree is (renew_is_ready words files before can)) calm;
    }

pub renew_keeps : (known : Known) (words : List (List ℕ)) (before : Outside) (end : End) → Runs known words renew_tree before end
    → Keeps command_renew known words before end
renew_keeps known words before end h = record { promise = renew_promise known words before end h; wire = runs_unwired known words renew_tree before end renew_unwired h }
