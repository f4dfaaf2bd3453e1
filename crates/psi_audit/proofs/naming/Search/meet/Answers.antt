use Rattle.std.proofs.Common.{rules, refl}
use Rattle.psi_audit.proofs.Lookups.{met_first}
use Rattle.psi_audit.proofs.naming.Search.meet.Goals as goal

pub returns-in_ok-insert : goal.returns-in_ok-insert
returns-in_ok-insert c = met_first c.args.tag c.args.place c.args.self.now _ (record { wanted = refl; lists = refl }) (search rules) c.in_ok-insert.ensures.updates.0
