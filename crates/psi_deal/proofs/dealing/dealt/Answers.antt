use Rattle.std.proofs.Common.{◌≡◌, ◌∙◌, ◌-◌, ℕ, List, length, take, drop, refl, sym, ap, subst, arith}
use Rattle.std.proofs.lemmas.List.{length-map, take_rest}
use Rattle.psi_spec.specs.Deals.{SeedPair, IsReceiverDeal, IsSenderDeal, seed_pairs, chosen_from, deal_bytes, dealt_receiver, dealt_sender}
use Rattle.psi_spec.proofs.Dealing.{length-seed_pairs, dealt_receiver_is, dealt_sender_is}
use Rattle.psi_deal.specs.declared.head.Head.{Head}
use Rattle.psi_deal.specs.Pairs.{pair_of, pairs_of, receiver_view, sender_view}
use Rattle.psi_deal.proofs.Faultless.{lengths_from_none, dealt_receiver_made, dealt_sender_made}
use Rattle.psi_deal.proofs.dealing.dealt.Goals as goal

-- a part of bytes that are the deal's
part_of : (n at : ℕ) (part bytes deal : List ℕ) → part ≡ take n (drop at bytes) → bytes ≡ deal → part ≡ take n (drop at deal)
part_of n at part bytes deal cut is = cut ∙ ap (λ (all : List ℕ). take n (drop at all)) is

-- the pairs of bytes that are the deal's
pairs_of_deal : (pairs : List SeedPair) (bytes deal : List ℕ) → pairs ≡ seed_pairs 512 (take (length bytes - 96) (drop 96 bytes)) → bytes ≡ deal → pairs ≡ seed_pairs 512 (drop 96 deal)
pairs_of_deal pairs bytes deal read is = read ∙ ap (seed_pairs 512) (take_rest bytes 96 ∙ ap (drop 96) is)

pub chosen_seeds-requires : goal.chosen_seeds-requires
chosen_seeds-requires c =
    let pairs = c.in_ok-pairs.pairs.items in
    let count : length pairs ≡ 512 = sym (length-map pairs pair_of) ∙ (ap length c.in_ok-pairs.ensures ∙ length-seed_pairs 512 _) in
    let same : length c.deref-3.result.now ≡ length pairs = ap length c.deref-3.ensures.value in
    omega arith

pub returns-clause-receiver : goal.returns-clause-receiver
returns-clause-receiver c =
    let seed = c.args.seed.now in
    let deal = deal_bytes seed in
    let is = c.in_ok-bytes.ensures.bytes in
    let head : Head = record { id = c.array_at-2.result; session = c.args.session; key = c.array_at-3.result; tag_length = c.args.tag_length; stash = c.args.stash } in
    dealt_receiver_made seed c.args.session c.args.tag_length c.args.stash head c.in_ok-pairs.pairs.items
    (part_of 16 0 c.array_at-2.result c.deref-4.result.now deal c.array_at-2.ensures (c.deref-4.ensures.value ∙ is)) refl
    (part_of 16 16 c.array_at-3.result c.deref-5.result.now deal c.array_at-3.ensures (c.deref-5.ensures.value ∙ is)) refl refl
    (pairs_of_deal (pairs_of c.in_ok-pairs.pairs.items) c.deref-2.result.now deal c.in_ok-pairs.ensures (c.deref-2.ensures.value ∙ is))

pub invariant_of-receiver : goal.invariant_of-receiver
invariant_of-receiver c =
    let seed = c.args.seed.now in
    let deal = deal_bytes seed in
    let is = c.in_ok-bytes.ensures.bytes in
    let head : Head = record { id = c.array_at-2.result; session = c.args.session; key = c.array_at-3.result; tag_length = c.args.tag_length; stash = c.args.stash } in
    let lengths = lengths_from_none c.args.tag_length c.args.stash c.requires in
    let made : receiver_view head c.in_ok-pairs.pairs.items ≡ dealt_receiver seed c.args.session c.args.tag_length c.args.stash =
    dealt_receiver_made seed c.args.session c.args.tag_length c.args.stash head c.in_ok-pairs.pairs.items
    (part_of 16 0 c.array_at-2.result c.deref-4.result.now deal c.array_at-2.ensures (c.deref-4.ensures.value ∙ is)) refl
    (part_of 16 16 c.array_at-3.result c.deref-5.result.now deal c.array_at-3.ensures (c.deref-5.ensures.value ∙ is)) refl refl
    (pairs_of_deal (pairs_of c.in_ok-pairs.pairs.items) c.deref-2.result.now deal c.in_ok-pairs.ensures (c.deref-2.ensures.value ∙ is)) in
    subst IsReceiverDeal (sym made) (dealt_receiver_is seed c.args.session c.args.tag_length c.args.stash (omega arith) lengths.0 lengths.1)

pub invariant_of-sender : goal.invariant_of-sender
invariant_of-sender c =
    let seed = c.args.seed.now in
    let deal = deal_bytes seed in
    let is = c.in_ok-bytes.ensures.bytes in
    let head : Head = record { id = c.array_at-2.result; session = c.args.session; key = c.array_at-3.result; tag_length = c.args.tag_length; stash = c.args.stash } in
    let word : c.from_bytes-choice.result ≡ take 64 (drop 32 deal) =
    c.from_bytes-choice.ensures ∙ part_of 64 32 c.array_at.result c.deref.result.now deal c.array_at.ensures (c.deref.ensures.value ∙ is) in
    let pairs : pairs_of c.deref-3.result.now ≡ seed_pairs 512 (drop 96 deal) =
    ap pairs_of c.deref-3.ensures.value ∙ pairs_of_deal (pairs_of c.in_ok-pairs.pairs.items) c.deref-2.result.now deal c.in_ok-pairs.ensures (c.deref-2.ensures.value ∙ is) in
    let lengths = lengths_from_none c.args.tag_length c.args.stash c.requires in
    let made : sender_view head c.from_bytes-choice.result c.in_ok-seeds.seeds.items ≡ dealt_sender seed c.args.session c.args.tag_length c.args.stash =
    dealt_sender_made seed c.args.session c.args.tag_length c.args.stash head c.from_bytes-choice.result c.in_ok-seeds.seeds.items
    (part_of 16 0 c.array_at-2.result c.deref-4.result.now deal c.array_at-2.ensures (c.deref-4.ensures.value ∙ is)) refl
    (part_of 16 16 c.array_at-3.result c.deref-5.result.now deal c.array_at-3.ensures (c.deref-5.ensures.value ∙ is)) refl refl word
    (c.in_ok-seeds.ensures ∙ (ap (λ (choice : List ℕ). chosen_from choice 0 (pairs_of c.deref-3.result.now)) word ∙ ap (chosen_from (take 64 (drop 32 deal)) 0) pairs)) in
    subst IsSenderDeal (sym made) (dealt_sender_is seed c.args.session c.args.tag_length c.args.stash (omega arith) lengths.0 lengths.1)

pub returns-clause-sender : goal.returns-clause-sender
returns-clause-sender c =
    let seed = c.args.seed.now in
    let deal = deal_bytes seed in
    let is = c.in_ok-bytes.ensures.bytes in
    let head : Head = record { id = c.array_at-2.result; session = c.args.session; key = c.array_at-3.result; tag_length = c.args.tag_length; stash = c.args.stash } in
    let word : c.from_bytes-choice.result ≡ take 64 (drop 32 deal) =
    c.from_bytes-choice.ensures ∙ part_of 64 32 c.array_at.result c.deref.result.now deal c.array_at.ensures (c.deref.ensures.value ∙ is) in
    let pairs : pairs_of c.deref-3.result.now ≡ seed_pairs 512 (drop 96 deal) =
    ap pairs_of c.deref-3.ensures.value ∙ pairs_of_deal (pairs_of c.in_ok-pairs.pairs.items) c.deref-2.result.now deal c.in_ok-pairs.ensures (c.deref-2.ensures.value ∙ is) in
    dealt_sender_made seed c.args.session c.args.tag_length c.args.stash head c.from_bytes-choice.result c.in_ok-seeds.seeds.items
    (part_of 16 0 c.array_at-2.result c.deref-4.result.now deal c.array_at-2.ensures (c.deref-4.ensures.value ∙ is)) refl
    (part_of 16 16 c.array_at-3.result c.deref-5.result.now deal c.array_at-3.ensures (c.deref-5.ensures.value ∙ is)) refl refl word
    (c.in_ok-seeds.ensures ∙ (ap (λ (choice : List ℕ). chosen_from choice 0 (pairs_of c.deref-3.result.now)) word ∙ ap (chosen_from (take 64 (drop 32 deal)) 0) pairs))
