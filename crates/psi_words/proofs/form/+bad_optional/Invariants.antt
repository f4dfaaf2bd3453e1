use Rattle.std.proofs.Common.{length}
use Rattle.psi_words.proofs.form.+bad_optional.Given as goal

abbrev pub decreases-bad_optional : goal.decreases-bad_optional
decreases-bad_optional l = length l.forms.now
