use Rattle.std.proofs.Common.{length}
use Rattle.psi_words.proofs.form.+bad_from.Given as goal

abbrev pub decreases-bad_from : goal.decreases-bad_from
decreases-bad_from l = length l.needed.now
