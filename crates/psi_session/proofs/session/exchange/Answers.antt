use Rattle.std.proofs.Common.{ℕ, List, subst}
use Rattle.std.proofs.lemmas.Result.{on_ok_weaker}
use Rattle.psi_session.specs.Transcripts.{HearsOn}
use Rattle.psi_session.proofs.Exchanged.{bytes_are, can_exchange, few_for_receiver, few_for_sender, hits_are}
use Rattle.psi_session.proofs.session.exchange.Goals as goal

-- both ends can play
pub play-requires-clause-can_play : goal.play-requires-clause-can_play
play-requires-clause-can_play g c =
    can_exchange c.args.receiver.now c.args.sender.now c.requires.receiver c.requires.sender c.requires.receiver_deal c.requires.sender_deal c.requires.pair c.requires.few_of_receiver c.requires.few_of_sender

pub play-requires-clause-few_for_first : goal.play-requires-clause-few_for_first
play-requires-clause-few_for_first g c =
    few_for_receiver c.args.receiver.now c.args.sender.now c.requires.receiver c.requires.sender c.requires.receiver_deal c.requires.sender_deal c.requires.pair c.requires.few_of_receiver c.requires.few_of_sender

pub play-requires-clause-few_for_second : goal.play-requires-clause-few_for_second
play-requires-clause-few_for_second g c =
    few_for_sender c.args.receiver.now c.args.sender.now c.requires.receiver c.requires.sender c.requires.receiver_deal c.requires.sender_deal c.requires.pair c.requires.few_of_receiver c.requires.few_of_sender

-- the receiver shows what is hit in the sender's lists
pub returns-clause-shown : goal.returns-clause-shown
returns-clause-shown g c =
    on_ok_weaker c.play.result
    (λ played.
    hits_are c.args.receiver.now c.args.sender.now c.requires.receiver c.requires.sender c.requires.receiver_deal c.requires.sender_deal c.requires.pair c.requires.few_of_receiver c.requires.few_of_sender
    c.play.new.first played.moves played.plays played.first played.first_done)
    c.play.ensures.played

-- and the bytes of the session pass
pub returns-clause-heard : goal.returns-clause-heard
returns-clause-heard g c =
    on_ok_weaker c.play.result
    (λ played.
    subst (λ (bytes : List ℕ). HearsOn (g.T.Transcript.hears c.args.transcript.now) (g.T.Transcript.hears c.play.new.transcript) bytes)
    (bytes_are c.args.receiver.now c.args.sender.now c.requires.receiver c.requires.sender c.requires.receiver_deal c.requires.sender_deal c.requires.pair c.requires.few_of_receiver c.requires.few_of_sender
    played.moves played.plays)
    played.heard)
    c.play.ensures.played
