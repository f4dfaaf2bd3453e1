use Rattle.std.proofs.Common.{◌≤◌, List, ℕ, length, ◌∙◌, ap, sym, subst, arith}
use Rattle.psi_spec.specs.Limits.{file_limit}
use Rattle.psi_spec.specs.Items.{items_of}
use Rattle.psi_items.specs.Making.{is_second}
use Rattle.psi_items.proofs.MadeItems.{made_files_hold_lines}
use Rattle.psi_local.proofs.MadeLengths.{made_file_short}
use Rattle.psi_local.proofs.trial.made_items.Goals as goal

pub read-requires : goal.read-requires
read-requires c =
    subst (λ (bytes : List ℕ). length bytes ≤ file_limit) (sym (c.deref.ensures.value ∙ c.in_ok-bytes.ensures))
    (made_file_short (is_second c.args.file) c.args.count c.args.shared 0 c.requires.count (omega arith))

pub returns-in-Ok : goal.returns-in-Ok
returns-in-Ok c =
    c.in-Ok.ensures.1 ∙ ap items_of (c.deref.ensures.value ∙ c.in_ok-bytes.ensures)
    ∙ (made_files_hold_lines (is_second c.args.file) c.args.count c.args.shared 0 c.requires.count (omega arith)).listed
