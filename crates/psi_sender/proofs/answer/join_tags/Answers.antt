use Rattle.std.proofs.Common.{◌≡◌, ◌+◌, ◌-◌, ◌*◌, ◌≤◌, ◌++◌, [], List, ℕ, length, take, map, get_or, sym, subst, ◌∙◌, ap, ap₂, arith}
use borrow.Rule.Slice.PartMut.{put_mid}
use Rattle.std.specs.List.{concat}
use Rattle.std.proofs.lemmas.List.{length-take-le}
use Rattle.std.proofs.lemmas.Slice.{take-put_mid}
use Rattle.psi_sender.proofs.Making.{joined_more, times_more}
use Rattle.psi_sender.proofs.answer.join_tags.Goals as goal

pub loop-i-preserved : goal.loop-i-preserved
loop-i-preserved c =
    let i = c.loop-i.i in
    let length_is : c.from-length.result ≡ c.args.tag_length = c.from-length.ensures ∙ c.get.ensures.same in
    let width = c.from-length.result in
    let tags = c.args.tags.now in
    let out = c.loop-i.out in
    let at = i * width in
    let room : length c.args.out.now ≡ length tags * width = c.requires ∙ ap (λ (n : ℕ). length tags * n) (sym length_is) in
    let short : width ≤ 16 = omega arith in
    let kept = c.loop-i.auto.out in
    let within : at + width ≤ length c.args.out.now = grind (arith, room) in
    let next = times_more i width in
    let cut : ℕ → List ℕ → List ℕ = λ n tag. take n tag in
    let before : take (i * width) out ≡ concat (map (cut width) (take i tags)) =
    subst (λ (n : ℕ). take (i * n) out ≡ concat (map (cut n) (take i tags))) (sym length_is) c.loop-i.invariant in
    let one : c.copy_from_slice.new.self ≡ cut width (get_or tags i []) = c.copy_from_slice.ensures.after in
    let long : length c.copy_from_slice.new.self ≡ width = ap length one ∙ length-take-le width (get_or tags i []) (omega (arith, c.told-tags i (omega arith))) in
    ap (λ (n : ℕ). take ((i + 1) * n) (put_mid at (at + width - at) out c.copy_from_slice.new.self)) (sym length_is)
    ∙ (take-put_mid at _ out c.copy_from_slice.new.self ((i + 1) * width) (omega arith) (omega arith)
    ∙ (ap₂ (λ x y. x ++ y) before one ∙ sym (joined_more (cut width) tags i [] (omega arith))
    ∙ ap (λ (n : ℕ). concat (map (cut n) (take (i + 1) tags))) length_is))
