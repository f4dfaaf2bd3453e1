-- A sender takes the stream of an honest receiver.
use Rattle.std.proofs.Common.{ℕ, List, length, subst}
use Rattle.psi_spec.specs.Limits.{rows_for}
use Rattle.psi_spec.specs.Sessions.{dealt_masked}
use Rattle.psi_spec.specs.Streams.{IsReceiverStream, dealt_sets, receiver_stream}
use Rattle.psi_spec.proofs.DealtColumns.{dealt_sets_are}
use Rattle.psi_spec.proofs.Forming.{receiver_streams_are_well_formed}
use Rattle.psi_sender.specs.Laws.{IsStreamFor, ServesHonestReceivers}
use Rattle.psi_sender.proofs.Serving.{serves_streams}

pub serves_honest_receivers : ServesHonestReceivers
serves_honest_receivers deal ys receiver placed is is' pair few =
    let many : ℕ = length placed in
    let rows : ℕ = rows_for receiver.stash many in
    let stream : List ℕ = receiver_stream receiver placed (dealt_sets receiver rows) in
    let columns : List (List ℕ) = dealt_masked receiver placed in
    let made = receiver_streams_are_well_formed receiver placed (dealt_sets receiver rows) few (dealt_sets_are receiver rows is'.count) in
    let same_stash : IsReceiverStream deal.stash receiver.id receiver.session many columns stream =
    subst (λ (stash : ℕ). IsReceiverStream stash receiver.id receiver.session many columns stream) pair.stash made in
    let same_id : IsReceiverStream deal.stash deal.id receiver.session many columns stream =
    subst (λ (id : List ℕ). IsReceiverStream deal.stash id receiver.session many columns stream) pair.id same_stash in
    let own : IsStreamFor deal many columns stream =
    subst (λ (n : ℕ). IsReceiverStream deal.stash deal.id n many columns stream) pair.session same_id in
    (own, serves_streams deal ys many columns stream is own)
