use Rattle.std.proofs.Common.{◌∙◌, ap}
use Rattle.psi_spec.specs.Formulas.{padded_tag}
use Rattle.psi_spec.specs.Hits.{list_of_slot}
use Rattle.psi_spec.specs.Limits.{bins_for}
use Rattle.psi_cuckoo.specs.Table.{slot_of}
use Rattle.psi_audit.specs.Naming.{setup_in}
use Rattle.psi_audit.proofs.Tags.{own_padded}
use Rattle.psi_audit.proofs.colliding.own_listed.Goals as goal

pub returns : goal.returns
returns c =
    let slot = c.args.slot in
    let bins = c.bins.ensures ∙ ap bins_for c.len.ensures.len in
    let list = c.list_of.ensures ∙ ap (λ n. list_of_slot n (slot_of slot)) bins in
    let word = c.row-word.ensures ∙ c.requires.rows.zero slot.row c.requires.row in
    let tag = c.own_tag.ensures ∙ ((λ j. padded_tag (c.key-key.ensures j) (c.tag_length-tag_length.ensures j) slot.row (word j)) ∙ own_padded (setup_in c.args.inputs.now) (slot_of slot)) in
    λ j. record { list = list j; tag = tag j }
