use Rattle.std.proofs.Common.{sym, refl, arith}
use Rattle.psi_audit.proofs.Differing.{shared-nil}
use Rattle.psi_audit.proofs.comparing.Comparison.new.Goals as goal

pub returns : goal.returns
returns c = record {
  bytes_are = refl;
  compared = λ none. omega arith;
  difference = sym (shared-nil 0 c.args.recorded.now);
}
