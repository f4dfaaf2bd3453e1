use Rattle.psi_walk.specs.Tree.{ended}
use Rattle.psi_top.proofs.Headline.{answers_found, answers_hidden, answers_hides, answers_shown}
use Rattle.psi_top.proofs.Laws.{answers_bad_words, answers_complete, answers_counted, answers_done, answers_exact, answers_of_command, answers_stand, answers_through, answers_wired}
use Rattle.psi_top.proofs.entry.run.Goals as goal

pub returns-clause-bad_words : goal.returns-clause-bad_words
returns-clause-bad_words g c =
    answers_bad_words g.W.World.known c.args.words.now (g.W.World.outside c.args.world.now) (ended c.answer.result (g.W.World.outside c.answer.new.world)) c.answer.ensures.answers

pub returns-clause-counts : goal.returns-clause-counts
returns-clause-counts g c =
    answers_counted g.W.World.known c.args.words.now (g.W.World.outside c.args.world.now) (ended c.answer.result (g.W.World.outside c.answer.new.world)) c.answer.ensures.answers

pub returns-clause-status : goal.returns-clause-status
returns-clause-status g c =
    answers_of_command g.W.World.known c.args.words.now (g.W.World.outside c.args.world.now) (ended c.answer.result (g.W.World.outside c.answer.new.world)) c.answer.ensures.answers

pub returns-clause-exact : goal.returns-clause-exact
returns-clause-exact g c =
    answers_exact g.W.World.known c.args.words.now (g.W.World.outside c.args.world.now) (ended c.answer.result (g.W.World.outside c.answer.new.world)) c.answer.ensures.answers

pub returns-clause-complete : goal.returns-clause-complete
returns-clause-complete g c =
    answers_complete g.W.World.known c.args.words.now (g.W.World.outside c.args.world.now) (ended c.answer.result (g.W.World.outside c.answer.new.world)) c.answer.ensures.answers

pub returns-clause-through : goal.returns-clause-through
returns-clause-through g c =
    answers_through g.W.World.known c.args.words.now (g.W.World.outside c.args.world.now) (ended c.answer.result (g.W.World.outside c.answer.new.world)) c.answer.ensures.answers

pub returns-clause-stands : goal.returns-clause-stands
returns-clause-stands g c =
    answers_stand g.W.World.known c.args.words.now (g.W.World.outside c.args.world.now) (ended c.answer.result (g.W.World.outside c.answer.new.world)) c.answer.ensures.answers

pub returns-clause-done : goal.returns-clause-done
returns-clause-done g c =
    answers_done g.W.World.known c.args.words.now (g.W.World.outside c.args.world.now) (ended c.answer.result (g.W.World.outside c.answer.new.world)) c.answer.ensures.answers

pub returns-clause-shown : goal.returns-clause-shown
returns-clause-shown g c =
    answers_shown g.W.World.known c.args.words.now (g.W.World.outside c.args.world.now) (ended c.answer.result (g.W.World.outside c.answer.new.world)) c.answer.ensures.answers c.answer.ensures.promised

pub returns-clause-wire : goal.returns-clause-wire
returns-clause-wire g c =
    answers_wired g.W.World.known c.args.words.now (g.W.World.outside c.args.world.now) (ended c.answer.result (g.W.World.outside c.answer.new.world)) c.answer.ensures.answers c.answer.ensures.promised

pub returns-clause-found : goal.returns-clause-found
returns-clause-found g c =
    answers_found g.W.World.known c.args.words.now (g.W.World.outside c.args.world.now) (ended c.answer.result (g.W.World.outside c.answer.new.world)) c.answer.ensures.answers c.answer.ensures.promised

pub returns-clause-hides : goal.returns-clause-hides
returns-clause-hides g c =
    answers_hides g.W.World.known c.args.words.now (g.W.World.outside c.args.world.now) (ended c.answer.result (g.W.World.outside c.answer.new.world)) c.answer.ensures.promised

pub returns-clause-hidden : goal.returns-clause-hidden
returns-clause-hidden g c =
    answers_hidden g.W.World.known c.args.words.now (g.W.World.outside c.args.world.now) (ended c.answer.result (g.W.World.outside c.answer.new.world)) c.answer.ensures.answers c.answer.ensures.promised
