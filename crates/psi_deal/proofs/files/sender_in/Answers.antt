use Rattle.std.proofs.Common.{◌≡◌, ◌∙◌, take, drop, sym, ap, subst, arith}
use Rattle.std.proofs.lemmas.List.{take_rest}
use Rattle.psi_spec.specs.Deals.{IsSenderDeal}
use Rattle.psi_spec.specs.DealFiles.{sender_file_size, seeds_of, sender_of}
use Rattle.psi_deal.specs.Pairs.{sender_view}
use Rattle.psi_deal.proofs.Faultless.{good_from_none, good_sender, sender_made}
use Rattle.psi_deal.proofs.files.sender_in.Goals as goal

pub invariant_of-result : goal.invariant_of-result
invariant_of-result c =
    let bytes = c.args.bytes.now in
    let head = c.read-head.result in
    let choice = c.from_bytes-choice.result in
    let seeds = c.in_ok-seeds.seeds.items in
    let e = c.read-head.ensures in
    let word : choice ≡ take 64 (drop 48 bytes) = c.from_bytes-choice.ensures ∙ c.array_at.ensures in
    let chosen : seeds ≡ seeds_of 512 (drop 112 bytes) = c.in_ok-seeds.ensures ∙ ap (seeds_of 512) (take_rest bytes 112) in
    let made : sender_view head choice seeds ≡ sender_of bytes = sender_made bytes head choice seeds e.id e.session e.key e.tag_length e.stash word chosen in
    subst IsSenderDeal (sym made) (good_sender bytes (λ i. omega (arith, c.type_inv.bytes i)) (good_from_none 1 sender_file_size bytes c.requires))

pub returns : goal.returns
returns c =
    let bytes = c.args.bytes.now in
    let e = c.read-head.ensures in
    sender_made bytes c.read-head.result c.from_bytes-choice.result c.in_ok-seeds.seeds.items e.id e.session e.key e.tag_length e.stash (c.from_bytes-choice.ensures ∙ c.array_at.ensures) (c.in_ok-seeds.ensures ∙ ap (seeds_of 512) (take_rest bytes 112))
