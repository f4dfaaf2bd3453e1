use Rattle.std.proofs.Common.{◌≡◌, ◌∙◌, List, ℕ, Err, ap, sym, subst}
use Rattle.std.specs.declared.result.Result.{Result}
use Rattle.std.proofs.lemmas.Result.{err_from_is_err_and}
use Rattle.psi_auditor.specs.Audit.{audit_record, audit_session}
use Rattle.psi_walk.specs.Files.{reads_record, record_in}
use Rattle.psi_walk.specs.Tree.{decides, end_of}
use Rattle.psi_walk.specs.Walk.{Runs}
use Rattle.psi_walk.specs.declared.outcome.Outcome.{Outcome}
use Rattle.psi_texts.specs.declared.status.Status.{Status}
use Rattle.psi_auditor.proofs.audit.audit_record.Goals as goal

pub returns-in_err-bytes : goal.returns-in_err-bytes
unfolding reads_record
returns-in_err-bytes g c =
    let receiver = c.args.receiver.now in
    let sender = c.args.sender.now in
    let xs = c.args.x.now in
    let ys = c.args.y.now in
    let before = g.W.World.outside c.args.world.now in
    let after = g.W.World.outside c.read_bytes.new.world in
    let why : Status = c.in_err-bytes.field-0.0 in
    let failed = err_from_is_err_and c.from_residual.result c.from_residual.ensures.1 in
    let same : c.from_residual.result ≡ Err why = failed.1 ∙ ap Err failed.2 in
    subst (λ (r : Result Outcome Status). Runs g.W.World.known c.args.words.now (audit_record receiver sender xs ys) before (end_of r after)) (sym same)
    (c.in_err-bytes.ensures.steps (λ (bytes : List ℕ). decides (record_in bytes) (λ log. audit_session receiver sender xs ys log)))

pub returns : goal.returns
unfolding reads_record
returns g c =
    let receiver = c.args.receiver.now in
    let sender = c.args.sender.now in
    let xs = c.args.x.now in
    let ys = c.args.y.now in
    c.in_ok-bytes.ensures.steps (rw c.deref.ensures.value at c.audit_bytes.ensures.are_bytes)
    (λ (bytes : List ℕ). decides (record_in bytes) (λ log. audit_session receiver sender xs ys log))
    (end_of c.audit_bytes.result (g.W.World.outside c.audit_bytes.new.world)) (rw c.deref.ensures.value at c.audit_bytes.ensures.steps c.args.words.now)
