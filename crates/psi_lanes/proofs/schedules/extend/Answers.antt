use Rattle.std.proofs.Common.{◌-◌, slice_index, ap, ap₂, ◌∙◌, arith}
use Rattle.sha2.specs.Sha256.{add32, small_sigma0, small_sigma1}
use Rattle.psi_lanes.specs.Rounds.{word_list}
use Rattle.psi_lanes.proofs.Scheduling.{length-word_list, scheduled_more, word_list-at, word_list-set}
use Rattle.psi_lanes.proofs.schedules.extend.Goals as goal

pub returns : goal.returns
returns c j lt b held k below =
    let words = c.args.w.now in
    let t = c.args.t in
    let second = word_list-at j (t - 2) words c.index-w-t.result (omega arith) in
    let seventh = word_list-at j (t - 7) words c.index-w-t-2.result (omega arith) in
    let fifteenth = word_list-at j (t - 15) words c.index-w-t-3.result (omega arith) in
    let sixteenth = word_list-at j (t - 16) words c.index-w-t-4.result (omega arith) in
    let nearer = c.add.ensures.1 j lt ∙ ap₂ add32 (c.small_sigma1.ensures.1 j lt ∙ ap small_sigma1 second) seventh in
    let farther = c.small_sigma0.ensures.1 j lt ∙ ap small_sigma0 fifteenth in
    let made = c.add-lanes.ensures.1 j lt ∙ ap₂ add32 (c.add-2.ensures.1 j lt ∙ ap₂ add32 nearer farther) sixteenth in
    ap (λ l. slice_index l k) (word_list-set j t words _)
    ∙ scheduled_more b (word_list j words) t _ c.requires.low c.requires.high (omega (arith, length-word_list j words)) made held k below
