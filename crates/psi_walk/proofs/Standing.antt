-- What stands of what was to be printed and written.
use Rattle.std.proofs.Common.{◌≡◌, inl, inr, Bool, ℕ, suc, List, [], ◌∷◌, take, Option, Some, None, Ok, Err, refl, sym, ap, ◌∙◌, subst, arith, slice_get}
use Rattle.std.specs.declared.result.Result.{Result}
use Rattle.psi_words.specs.Words.{word_at}
use Rattle.psi_base.specs.Outside.{Known, Outside, Files, Writes, PrintsAll, written, partly_written}
use Rattle.psi_base.specs.declared.faults.Fault.{Fault}
use Rattle.psi_base.specs.declared.faults.Fault.TheVariants as fault
use Rattle.psi_walk.specs.Due.{after_effect, after_part}
use Rattle.psi_walk.specs.Promises.{IsStoppedAt, Stands}
use Rattle.psi_walk.specs.Tree.{Effect, says, puts, End, stopped}
use Rattle.psi_walk.specs.Walk.{AtCall, AtEnd, starved, cut, passed, gave_up, all_done, Does, write_status, print_status}
use Rattle.psi_texts.specs.declared.status.Status.{Status}
use Rattle.psi_texts.specs.declared.status.Status.TheVariants as status

-- nothing was begun
not_begun : (words : List (List ℕ)) (effects : List Effect) (mid : Outside) → IsStoppedAt mid.steady (slice_get effects 0) status.NoMemory
    → Stands words effects mid status.NoMemory mid
not_begun words effects mid stopped = record {
  whole = 0;
  part = None;
  within = omega arith;
  stopped = stopped;
  files = nothing (slice_get effects 0);
  printed = nothing_printed (slice_get effects 0);
}
  where
    nothing : (o : Option Effect) → mid.files ≡ (after_part words mid o None).files
    nothing None = refl
    nothing (Some (says text)) = refl
    nothing (Some (puts word bytes)) = refl

    nothing_printed : (o : Option Effect) → mid.printed ≡ (after_part words mid o None).printed
    nothing_printed None = refl
    nothing_printed (Some (says text)) = refl
    nothing_printed (Some (puts word bytes)) = refl

steady_after : (words : List (List ℕ)) (before : Outside) (effect : Effect) → (after_effect words before effect).steady ≡ before.steady
steady_after words before (says text) = refl
steady_after words before (puts word bytes) = refl

-- what stands after the first was done
stands_on : (words : List (List ℕ)) (effect : Effect) (rest : List Effect) (before : Outside) (why : Status) (after : Outside)
    → Stands words rest (after_effect words before effect) why after → Stands words (effect ∷ rest) before why after
stands_on words effect rest before why after h = record {
  whole = suc h.whole;
  part = h.part;
  within = let w = h.within in omega arith;
  stopped = subst (λ (b : Bool). IsStoppedAt b (slice_get rest h.whole) why) (steady_after words before effect) h.stopped;
  files = h.files;
  printed = h.printed;
}

ended_stands : (words : List (List ℕ)) (effects : List Effect) (mid : Outside) (end : End) (why : Status) (after : Outside) → end ≡ stopped why after
    → Stands words effects mid why after → Stands words effects mid end.status end.left
ended_stands words effects mid end why after e h = subst (λ (d : End). Stands words effects mid d.status d.left) (sym e) h

print_cut : (words : List (List ℕ)) (text : List ℕ) (rest : List Effect) (before : Outside) (why : Fault) (after : Outside)
    → PrintsAll before text (Err why) after → Stands words (says text ∷ rest) before (print_status why) after
print_cut words text rest before fault.Failed after h = record {
  whole = 0;
  part = Some h.0;
  within = omega arith;
  stopped = inl (refl, h.2.unsteady);
  files = ap (λ (o : Outside). o.files) h.2.left;
  printed = ap (λ (o : Outside). o.printed) h.2.left;
}
print_cut words text rest before fault.NoMemory after h = record {
  whole = 0;
  part = Some h.0;
  within = omega arith;
  stopped = inr refl;
  files = ap (λ (o : Outside). o.files) h.2.left;
  printed = ap (λ (o : Outside). o.printed) h.2.left;
}

-- a part of a file does not show in the counts
part_files : (old new : Outside) (name bytes : List ℕ) (part : Option ℕ) → old.files ≡ new.files
    → (partly_written old name bytes part).files ≡ (partly_written new name bytes part).files
part_files old new name bytes None e = e
part_files old new name bytes (Some count) e = ap (λ (f : Option Files). (written (record old { files = f }) name (take count bytes)).files) e

part_printed : (old : Outside) (name bytes : List ℕ) (part : Option ℕ) → (partly_written old name bytes part).printed ≡ old.printed
part_printed old name bytes None = refl
part_printed old name bytes (Some count) = refl

write_cut : (known : Known) (words : List (List ℕ)) (word : ℕ) (bytes : List ℕ) (rest : List Effect) (before : Outside) (why : Fault) (after : Outside)
    → Writes known before (word_at words word) bytes (Err why) after → Stands words (puts word bytes ∷ rest) before (write_status word why) after
write_cut known words word bytes rest before fault.Failed after h = record {
  whole = 0;
  part = h.part;
  within = omega arith;
  stopped = inl (refl, h.unsteady);
  files = ap (λ (o : Outside). o.files) h.left ∙ part_files (record before { file_faults = after.file_faults }) before (word_at words word) bytes h.part refl;
  printed = ap (λ (o : Outside). o.printed) h.left ∙ part_printed (record before { file_faults = after.file_faults }) (word_at words word) bytes h.part ∙ sym (part_printed before (word_at words word) bytes h.part);
}
write_cut known words word bytes rest before fault.NoMemory after h = record {
  whole = 0;
  part = h.part;
  within = omega arith;
  stopped = inr refl;
  files = ap (λ (o : Outside). o.files) h.left ∙ part_files (record before { refusals = after.refusals }) before (word_at words word) bytes h.part refl;
  printed = ap (λ (o : Outside). o.printed) h.left ∙ part_printed (record before { refusals = after.refusals }) (word_at words word) bytes h.part ∙ sym (part_printed before (word_at words word) bytes h.part);
}

call_stands : {E : Type 0} (taken : Bool) (Calls : Result (Unit {0}) E → Outside → Type 0) (status_of : E → Status) (words : List (List ℕ))
    (effect : Effect) (rest : List Effect) (before : Outside) (end : End) (Rest : Unit {0} → Outside → Type 0)
    → IsStoppedAt before.steady (Some effect) status.NoMemory
    → ((why : E) (after : Outside) → Calls (Err why) after → Stands words (effect ∷ rest) before (status_of why) after)
    → ((x : Unit {0}) (after : Outside) → Calls (Ok x) after → after ≡ after_effect words before effect)
    → ((x : Unit {0}) (after : Outside) → Rest x after → Stands words rest after end.status end.left)
    → AtCall taken Calls status_of before end Rest → Stands words (effect ∷ rest) before end.status end.left
call_stands taken Calls status_of words effect rest before end Rest none err ok later (starved t e) =
    ended_stands words (effect ∷ rest) before end status.NoMemory before e (not_begun words (effect ∷ rest) before none)
call_stands taken Calls status_of words effect rest before end Rest none err ok later (cut why after h e) =
    ended_stands words (effect ∷ rest) before end (status_of why) after e (err why after h)
call_stands taken Calls status_of words effect rest before end Rest none err ok later (passed x after h more) =
    stands_on words effect rest before end.status end.left (subst (λ (o : Outside). Stands words rest o end.status end.left) (ok x after h) (later x after more))

end_stands : (words : List (List ℕ)) (taken : Bool) (wire : Option (List ℕ)) (before : Outside) (end : End) → AtEnd taken wire before end
    → Stands words [] before end.status end.left
end_stands words taken wire before end (gave_up t e) = ended_stands words [] before end status.NoMemory before e (not_begun words [] before (inr refl))
end_stands words taken wire before end (all_done e) =
    subst (λ (d : End). Stands words [] before d.status d.left) (sym e)
    (record { whole = 0; part = None; within = omega arith; stopped = inl refl; files = refl; printed = refl })

pub does_stands : (known : Known) (words : List (List ℕ)) (taken : Bool) (wire : Option (List ℕ)) (effects : List Effect) (before : Outside) (end : End)
    → Does known words taken wire effects before end → Stands words effects before end.status end.left
unfolding Does
does_stands known words taken wire [] before end h = end_stands words taken wire before end h
does_stands known words taken wire (says text ∷ rest) before end h =
    call_stands taken (PrintsAll before text) print_status words (says text) rest before end (λ _ after. Does known words taken wire rest after end) (inr refl)
    (print_cut words text rest before) (λ x after e. e) (λ x after later. does_stands known words taken wire rest after end later) h
does_stands known words taken wire (puts word bytes ∷ rest) before end h =
    call_stands taken (Writes known before (word_at words word) bytes) (write_status word) words (puts word bytes) rest before end (λ _ after. Does known words taken wire rest after end) (inr refl)
    (write_cut known words word bytes rest before) (λ x after e. e) (λ x after later. does_stands known words taken wire rest after end later) h
