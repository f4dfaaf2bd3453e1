-- The command that judges a recorded session.
use Rattle.std.specs.Prelude.{List, [], ◌∷◌, codes, false}
use Rattle.psi_words.specs.Words.{Forms, alone, is_name}
use Rattle.psi_walk.specs.Command.{Command}
use Rattle.psi_auditor.specs.Audit.{audit_tree}
use Rattle.psi_auditor.specs.AuditPromises.{AuditPromise}

-- the words after `audit`: both item files, both deal files and the record
abbrev pub audit_forms : Forms
audit_forms = record {
  needed = alone is_name ∷ alone is_name ∷ alone is_name ∷ alone is_name ∷ alone is_name ∷ [];
  optional = [];
}

abbrev pub command_audit : Command
command_audit = record {
  name = codes "audit";
  forms = audit_forms;
  steps = λ words. audit_tree;
  both_ends = false;
  promise = AuditPromise;
}

-- all of them
abbrev pub auditor_commands : List Command
auditor_commands = command_audit ∷ []
