-- A receiver takes the stream of an honest sender.
use Rattle.std.proofs.Common.{◌≤◌, ℕ, List, length, sym, subst}
use Rattle.psi_spec.specs.Streams.{IsSenderStream, sender_side, sender_stream}
use Rattle.psi_spec.specs.TagLists.{tag_lists}
use Rattle.psi_spec.proofs.Forming.{sender_streams_are_well_formed}
use Rattle.psi_receiver.specs.Laws.{HearsHonestSenders, IsStreamFor}
use Rattle.psi_receiver.proofs.Hearing.{hears_streams, width_of}

pub hears_honest_senders : HearsHonestSenders
hears_honest_senders deal placed sender count sent ys is pair few =
    let stream : List ℕ = sender_stream sender count sent ys in
    let lists : List (List (List ℕ)) = tag_lists sender.stash (sender_side sender count sent) ys in
    let many : ℕ = length ys in
    let made = sender_streams_are_well_formed sender count sent ys few (subst (λ (g : ℕ). g ≤ 16) pair.tag_length (width_of deal is)) in
    let same_stash : IsSenderStream deal.stash sender.id sender.session sender.tag_length many lists stream =
    subst (λ (stash : ℕ). IsSenderStream stash sender.id sender.session sender.tag_length many lists stream) (sym pair.stash) made in
    let same_id : IsSenderStream deal.stash deal.id sender.session sender.tag_length many lists stream =
    subst (λ (id : List ℕ). IsSenderStream deal.stash id sender.session sender.tag_length many lists stream) (sym pair.id) same_stash in
    let same_session : IsSenderStream deal.stash deal.id deal.session sender.tag_length many lists stream =
    subst (λ (n : ℕ). IsSenderStream deal.stash deal.id n sender.tag_length many lists stream) (sym pair.session) same_id in
    let own : IsStreamFor deal many lists stream =
    subst (λ (g : ℕ). IsSenderStream deal.stash deal.id deal.session g many lists stream) (sym pair.tag_length) same_session in
    (own, hears_streams deal placed many lists stream is own)
