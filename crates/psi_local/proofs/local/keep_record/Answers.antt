use Rattle.std.proofs.Common.{◌∙◌}
use Rattle.psi_local.proofs.Played.{record_kept}
use Rattle.psi_local.proofs.local.keep_record.Goals as goal

pub returns-in-Some : goal.returns-in-Some
returns-in-Some g c = λ taken.
    record_kept g.W.World.known c.args.words.now taken c.args.log c.in-Some.log c.deref.result.now (g.W.World.outside c.args.world.now)
    (g.W.World.outside c.write_word.new.world) c.write_word.result c.in-Some.is (c.deref.ensures.value ∙ c.write_record.ensures.sealed) (c.write_word.ensures taken)
