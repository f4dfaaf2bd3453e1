-- A receiver awaits few frames, each of which fits an inbox.
use Rattle.std.proofs.Common.{◌≤◌, ◌+◌, ◌-◌, ◌*◌, ℕ, zero, suc, List, arith, lit≤, lit<}
use Rattle.std.proofs.lemmas.Nat.{mul-le}
use Rattle.std.proofs.lemmas.Bool.{leb-true}
use Rattle.std.proofs.Math.Nat.{suc-mul}
use Rattle.psi_spec.specs.Deals.{ReceiverDeal, IsReceiverDeal}
use Rattle.psi_spec.specs.Meeting.{Placed}
use Rattle.psi_spec.specs.Streams.{blocks_for}
use Rattle.psi_frames.specs.Script.{IsWithin, Script}
use Rattle.psi_frames.proofs.Scripts.{within_more}
use Rattle.psi_receiver.specs.Running.{greets, next_of}
use Rattle.psi_receiver.specs.Script.{awaits_blocks, awaits_lists, count_in, floor_after, no_floor, tags_at}
use Rattle.psi_receiver.proofs.Coming.{count_that_comes}
use Rattle.psi_receiver.proofs.Hearing.{width_of}

within_blocks : (width count list block left : ℕ) (floor : List ℕ) (rest : Script) (n m : ℕ) → width ≤ 16 → left + m ≤ n → IsWithin m rest → IsWithin n (awaits_blocks width count list block left floor rest)
within_blocks width count list block zero floor rest n m short few h = within_more rest m n (omega arith) h
within_blocks width count list block (suc left) floor rest n m short few h =
    let tags : tags_at count block ≤ 1024 = omega arith in
    let bytes = mul-le (tags_at count block) width 1024 16 tags short in (
      omega arith,
      omega (arith, bytes),
      λ f valid. within_blocks width count list (block + 1) left (floor_after width (tags_at count block) f) rest (n - 1) m short (omega arith) h,
    )

within_lists : (width count list left : ℕ) → width ≤ 16 → IsWithin (left * blocks_for count) (awaits_lists width count list left)
within_lists width count list zero short = tt
within_lists width count list (suc left) short =
    within_blocks width count list 0 (blocks_for count) no_floor (awaits_lists width count (list + 1) left) (suc left * blocks_for count) (left * blocks_for count) short
    (omega (arith, suc-mul left (blocks_for count))) (within_lists width count (list + 1) left short)

-- so does a receiver that took no frame yet
pub within_receiver : (deal : ReceiverDeal) (placed : List Placed) → IsReceiverDeal deal → IsWithin 19457 (next_of deal placed greets)
within_receiver deal placed is = (
  lit< tt,
  lit≤ tt,
  λ hello valid.
      let few = count_that_comes deal.id deal.session hello valid in
      let stash : deal.stash ≤ 16 = leb-true deal.stash 16 is.stash in
      let short : deal.tag_length ≤ 16 = width_of deal is in
      let count : ℕ = count_in hello in
      let blocks : blocks_for count ≤ 1024 = omega (arith, few) in
      let all = mul-le (3 + deal.stash) (blocks_for count) 19 1024 (omega (arith, stash)) blocks in
      within_more (awaits_lists deal.tag_length count 0 (3 + deal.stash)) ((3 + deal.stash) * blocks_for count) 19456 (omega (arith, all))
      (within_lists deal.tag_length count 0 (3 + deal.stash) short),
)
