use Rattle.std.proofs.Common.{◌<◌, sym, subst, arith}
use Rattle.psi_spec.specs.Matrices.{IsClean}
use Rattle.psi_spec.proofs.Clean.{clean-row_of}
use Rattle.psi_bits.proofs.flips.flip_back_plain.Goals as goal

pub returns-clause-clean : goal.returns-clause-clean
returns-clause-clean c k l =
    let rows = c.loop-c.invariant.rows in
    let all : k < c.loop-c.c = omega arith in
    subst (IsClean c.loop-c.columns.rows) (sym (c.loop-c.invariant.done k all)) (clean-row_of c.loop-c.columns.rows c.args.rows.now k (omega arith))
