use Rattle.std.proofs.Common.{◌≡◌, ◌∷◌, [], ◌∙◌, Bool, true, List, None, ap, subst}
use Rattle.psi_spec.specs.DealFiles.{sealed}
use Rattle.psi_spec.specs.Texts.{lines_text}
use Rattle.psi_walk.specs.Tree.{ends, puts, says, stopped}
use Rattle.psi_walk.specs.Walk.{Follows, status_of}
use Rattle.psi_link.proofs.Heard.{kept}
use Rattle.psi_link.proofs.receive.show_and_keep.Goals as goal
use Rattle.psi_spec.specs.Hits.{marked}

pub returns : goal.returns
returns g c =
    let known = g.W.World.known in
    let words = c.args.words.now in
    let end = c.args.end in
    let xs = c.args.items.now in
    let before = g.W.World.outside c.args.world.now in
    let printed = g.W.World.outside c.print_shown.new.world in
    let after = g.W.World.outside c.write_word.new.world in
    let last = stopped (status_of c.write_word.result) after in
    let file : c.deref.result.now ≡ sealed end.log = c.deref.ensures.value ∙ c.write_record-record.ensures.sealed ∙ ap sealed c.into_log.ensures in
    subst (λ (marks : List Bool). Follows known words true (ends None (says (lines_text (marked marks xs)) ∷ puts 4 (sealed end.log) ∷ [])) before last) c.shown.ensures.shown
    (c.in_ok-print_shown.ensures words true None (puts 4 (sealed end.log) ∷ []) last
    (kept known words c.deref.result.now (sealed end.log) printed after c.write_word.result file (c.write_word.ensures true)))
