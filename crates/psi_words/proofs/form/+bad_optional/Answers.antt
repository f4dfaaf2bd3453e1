use Rattle.std.proofs.Common.{◌≤◌, length, arith}
use Rattle.psi_words.proofs.Forms.{bad_optional-past}
use Rattle.psi_words.proofs.form.+bad_optional.Goals as goal

pub returns-then-at-len : goal.returns-then-at-len
returns-then-at-len t c =
    let past : length c.args.words.now ≤ c.args.at = let l = c.len.ensures in let h = c.if-at-len.true in omega arith in
    bad_optional-past c.args.forms.now c.args.words.now c.args.at past
