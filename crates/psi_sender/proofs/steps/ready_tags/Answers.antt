use Rattle.std.proofs.Common.{ℕ, List, length, map, take, drop, ap, ap₂, ◌∙◌, arith}
use Rattle.std.proofs.lemmas.List.{take_at}
use Rattle.psi_spec.specs.Rising.{rising}
use Rattle.psi_sender.specs.Answering.{made_list}
use Rattle.psi_sender.proofs.Listed.{hashes_serve, sorted_list_is}
use Rattle.psi_sender.proofs.steps.ready_tags.Goals as goal

pub make_list-requires-clause-hashed : goal.make_list-requires-clause-hashed
make_list-requires-clause-hashed c =
    let holds = c.requires.holds in
    hashes_serve c.args.deal.now c.args.count c.args.items.now c.words.result.now c.args.memory.now.hashes c.bins.result c.args.list (length c.deref_mut.result.now)
    holds.hashes (ap length c.words.ensures ∙ holds.opened) c.requires.answering.lists c.bins.ensures (ap length c.deref_mut.ensures.value ∙ holds.tags)

pub returns-then-block-eq0-clause-made : goal.returns-then-block-eq0-clause-made
returns-then-block-eq0-clause-made c =
    let deal = c.args.deal.now in
    let memory = c.args.memory.now in
    let cut : List ℕ → List ℕ = λ tag. take deal.tag_length tag in
    let out = c.make_list.new.out in
    ap (map cut) (take_at out (drop (length out) memory.tags.items) memory.tags.len (c.make_list.auto.out ∙ c.deref_mut.ensures.len))
    ∙ (ap (map cut) (c.make_list.ensures ∙ ap₂ (λ words bins. rising (made_list deal words bins memory.hashes c.args.list)) c.words.ensures c.bins.ensures)
    ∙ sorted_list_is deal c.args.count memory.rows memory.columns.columns (λ j l. c.requires.answering.rows j (let same = c.requires.holds.rows in omega arith)) c.args.items.now c.args.list memory.hashes c.requires.holds.tag_length c.requires.answering.lists c.requires.holds.hashes)
