use Rattle.std.proofs.Common.{◌∷◌, Bool, false, List, Option, Ok, Some, subst}
use Rattle.sha2.specs.Sha256.{sha256}
use Rattle.psi_spec.specs.Texts.{lines_text}
use Rattle.psi_log.specs.Recording.{RecorderState}
use Rattle.psi_local.specs.Transcript.{writes}
use Rattle.psi_walk.specs.Tree.{closed, ends, says}
use Rattle.psi_walk.specs.Walk.{Follows, Runs}
use Rattle.psi_local.proofs.Played.{closes}
use Rattle.psi_local.proofs.local.show_and_keep.Goals as goal
use Rattle.psi_spec.specs.Hits.{marked}

pub returns : goal.returns
returns g c = λ bytes held.
    let known = g.W.World.known in
    let words = c.args.words.now in
    let xs = c.args.x.now in
    let log = c.args.played.transcript.log in
    let before = g.W.World.outside c.args.world.now in
    let printed = g.W.World.outside c.print_shown.new.world in
    let after = g.W.World.outside c.keep_record.new.world in
    let digest = c.finish-log.result.0 in
    let last = closed (Ok digest) after in
    let wire = Some (sha256 bytes) in
    subst (λ (marks : List Bool). Runs known words (ends wire (says (lines_text (marked marks xs)) ∷ writes log)) before last) c.shown.ensures.shown
    (c.in_ok-print_shown.ensures words false wire (writes log) last
    (subst (λ (l : Option RecorderState). Follows known words false (ends wire (writes l)) printed last) c.finish-log.ensures.log
    (c.in_ok-keep_record.ensures false wire last (closes known words digest (sha256 bytes) after (c.finish-log.ensures.digest bytes held)))))
