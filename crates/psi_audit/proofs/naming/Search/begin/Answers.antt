use Rattle.std.proofs.Common.{◌∙◌, [], refl, arith}
use Rattle.std.proofs.lemmas.List.{length-set}
use Rattle.psi_audit.proofs.Lookups.{begun_more}
use Rattle.psi_audit.proofs.naming.Search.begin.Goals as goal

pub loop-tag-preserved : goal.loop-tag-preserved
loop-tag-preserved c = record {
  begun = begun_more c.args.tags.now c.loop-tag.tag-index (record { list = 0; tag = [] }) c.loop-tag.search _ (omega arith) c.loop-tag.invariant.begun c.in_ok-insert.ensures.updates.0 refl refl;
  lists = length-set c.loop-tag.search.lists _ _ ∙ c.loop-tag.invariant.lists;
}
