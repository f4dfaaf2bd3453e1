use Rattle.std.proofs.Common.{rules, arith, ◌≡◌, ◌+◌, ◌-◌, ℕ, List, length, get_or, take, drop, ◌++◌, ◌∙◌, ap, length-append, length-take, length-drop}
use Rattle.psi_lanes.proofs.WordBytes.{puts_word}
use Rattle.psi_lanes.proofs.words.put_word.Goals as goal

pub returns-clause-puts : goal.returns-clause-puts
returns-clause-puts c =
    let old = c.args.bytes.now in
    let new = c.put_front.new.bytes in
    let at = c.args.at in
    let same : length new ≡ length (take (length old - at) (drop at old)) = search rules in
    let long : at + length new ≡ length old = omega (arith, length-take (length old - at) (drop at old), length-drop at old, c.requires) in
    let tail = drop (length old - at) (drop at old) in
    let whole : length (take at old ++ (new ++ tail)) ≡ length old =
    omega (arith, long, length-append (take at old) (new ++ tail), length-append new tail, length-take at old, length-drop (length old - at) (drop at old), length-drop at old) in
    puts_word at c.args.word old new tail long whole
    (λ k l m. c.put_front.ensures k l (omega arith) ∙ ap (λ (xs : List ℕ). get_or xs k 0) c.to_le_bytes.ensures)
