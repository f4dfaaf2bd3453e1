-- What `audit` does: it reads both lists, both deals and the record, plays the session again, and prints what is shown.
use Rattle.std.specs.Prelude.{ℕ, List, [], ◌∷◌, ◌++◌, codes, decimal, length, None, Result, Ok, Err}
use Rattle.std.specs.List.{flat_map}
use Rattle.psi_spec.specs.Deals.{ReceiverDeal, SenderDeal}
use Rattle.psi_spec.specs.Records.{LoggedSession}
use Rattle.psi_audit.specs.Verdicts.{verdict_of}
use Rattle.psi_audit.specs.declared.verdict.Verdict.{Verdict}
use Rattle.psi_audit.specs.declared.verdict.Verdict.TheVariants as verdict
use Rattle.psi_walk.specs.Files.{reads_items, reads_receiver, reads_record, reads_sender}
use Rattle.psi_walk.specs.Tree.{says, Tree, decides, ends}
use Rattle.psi_auditor.specs.declared.findings.Findings.{Findings}
use Rattle.psi_texts.specs.declared.status.Status.{Status}
use Rattle.psi_texts.specs.declared.status.Status.TheVariants as status

-- a name and a number in a line
unfoldable pub number_line : List ℕ → ℕ → List ℕ
number_line name number = name ++ decimal number ++ codes "\n"

-- the line of a collision: the places of the receiver's item and of the sender's item that it names
abbrev pub collision_line : ℕ × ℕ → List ℕ
collision_line places = codes "collision " ++ decimal places.0 ++ codes " " ++ decimal places.1 ++ codes "\n"

-- the lines of collisions
abbrev pub collision_lines : List (ℕ × ℕ) → List ℕ
collision_lines collisions = flat_map collision_line collisions

-- the text of a consistent record: how many items are shown, how many collisions there are, and each of these
unfoldable pub audit_text : ℕ → List (ℕ × ℕ) → List ℕ
audit_text shown collisions =
    codes "consistent\n"
    ++ (number_line (codes "shown ") shown
    ++ (number_line (codes "collisions ") (length collisions) ++ collision_lines collisions))

-- what a verdict finds: the places that are shown, or why the record is refused
abbrev pub found_by : Verdict → Result Findings Status
found_by (verdict.Consistent shown collisions) = Ok (record { shown = shown; collisions = collisions })
found_by (verdict.DealsDiffer field) = Err (status.DealsDiffer field)
found_by (verdict.Slots fault) = Err (status.BadSlots fault)
found_by (verdict.Differs offset found wanted) = Err (status.Differs offset found wanted)

-- what the audit of a session finds
unfoldable pub findings_of
    : ReceiverDeal → SenderDeal → List (List ℕ) → List (List ℕ) → LoggedSession → Result Findings Status
findings_of receiver sender xs ys log = found_by (verdict_of receiver sender xs ys log)

-- what is left of `audit` with all that was read: the verdict and the text
abbrev pub audit_session : ReceiverDeal → SenderDeal → List (List ℕ) → List (List ℕ) → LoggedSession → Tree
audit_session receiver sender xs ys log =
    decides (findings_of receiver sender xs ys log)
    (λ found. ends None (says (audit_text (length found.shown) found.collisions) ∷ []))

-- what is left of it without the record
abbrev pub audit_record : ReceiverDeal → SenderDeal → List (List ℕ) → List (List ℕ) → Tree
audit_record receiver sender xs ys = reads_record 5 (λ log. audit_session receiver sender xs ys log)

-- the receiver's items, the sender's, the receiver's deal, the sender's, and the rest
abbrev pub audit_tree : Tree
audit_tree =
    reads_items 1
    (λ xs. reads_items 2
    (λ ys. reads_receiver 3 (λ receiver. reads_sender 4 (λ sender. audit_record receiver sender xs ys))))
