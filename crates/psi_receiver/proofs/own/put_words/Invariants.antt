use Rattle.std.proofs.Common.{◌≡◌, [], get_or, map, take}
use Rattle.psi_receiver.proofs.own.put_words.Given as goal

-- the words so far
abbrev pub invariant-loop-i : goal.invariant-loop-i
invariant-loop-i l = take l.i l.words ≡ map (λ number. get_or l.rows number []) (take l.i l.numbers)
