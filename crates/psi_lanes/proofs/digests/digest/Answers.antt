use Rattle.std.proofs.Common.{◌≡◌, ◌+◌, ◌*◌, length, refl, sym, ap, ap₂, ◌++◌, ◌∙◌, add-one, arith}
use Rattle.std.proofs.lemmas.List.{take_all}
use Rattle.std.proofs.lemmas.Grind.{common_steps}
use Rattle.std.proofs.lemmas.Slice.{take-put_mid}
use Rattle.sha2.specs.Sha256.{digest_bytes}
use Rattle.psi_lanes.proofs.digests.digest.Goals as goal

pub loop-i-init : goal.loop-i-init
unfolding digest_bytes
loop-i-init c = record { long = refl; value = refl }

pub loop-i-preserved : goal.loop-i-preserved
unfolding digest_bytes
loop-i-preserved c =
    let h = c.args.hash_value in
    let i = c.loop-i.i in
    let bytes = c.loop-i.bytes in
    let word = c.copy_from_slice.new.self in
    let same_word = c.copy_from_slice.ensures.after ∙ c.to_be_bytes.ensures in
    let four : length word ≡ 4 = ap length same_word in
    record {
      long = grind (arith, common_steps);
      value = take-put_mid (4 * i) _ bytes word (4 * (i + 1)) (omega arith) (omega arith)
          ∙ (ap₂ (λ x y. x ++ y) c.loop-i.invariant.value same_word ∙ ap (digest_bytes h) (sym (add-one i)));
    }

pub returns : goal.returns
returns c =
    let bytes = c.loop-i.bytes in
    let long = c.loop-i.invariant.long in
    sym (take_all (4 * c.loop-i.i) bytes (omega arith)) ∙ (c.loop-i.invariant.value ∙ ap (digest_bytes c.args.hash_value) (omega arith))
