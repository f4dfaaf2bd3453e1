use Rattle.std.proofs.Common.{◌∙◌, ◌++◌, [], map, take, append-nil, get_or, sym, ap, ap₂, arith}
use Rattle.psi_audit.specs.Naming.{named_pairs, pair_at}
use Rattle.psi_audit.specs.Searching.{found_at}
use Rattle.psi_audit.specs.declared.naming.ListedTag.{ListedTag}
use Rattle.psi_audit.specs.declared.strangers.Stranger.{Stranger}
use Rattle.psi_audit.proofs.Named.{pairs_more}
use Rattle.psi_audit.proofs.colliding.pairs.Goals as goal
use Rattle.psi_audit.proofs.colliding.pairs.Goals.{in-Some+in_ok-push, in_default}

pub loop-i-preserved : goal.loop-i-preserved
loop-i-preserved c =
    let i = c.loop-i.i in
    let strangers = c.args.strangers.now in
    let tags = c.args.tags.now in
    let found = found_at c.args.search.now in
    let one : Stranger = record { item = 0; slot = record { row = 0; index = 0 } } in
    let tag : ListedTag = record { list = 0; tag = [] } in
    let item = (get_or strangers i one).item in
    let more = pairs_more found strangers tags i one tag c.requires (omega arith) in
    elim c.match-place_of.branch [
      | in-Some+in_ok-push w ↦
          w.pairs-is ∙ (w.in_ok-push.ensures.added ∙ (ap₂ (λ ps o. ps ++ pair_at item o) c.loop-i.invariant (sym w.in-Some.is ∙ c.place_of.ensures) ∙ sym more))
      | in_default w ↦
          w.pairs-is ∙ (c.loop-i.invariant ∙ (sym (append-nil (named_pairs (take i strangers) (map found (take i tags))))
          ∙ (ap (λ o. named_pairs (take i strangers) (map found (take i tags)) ++ pair_at item o) (sym w.in_default.is ∙ c.place_of.ensures) ∙ sym more)))
    ]
