use Rattle.std.proofs.Common.{◌≡◌, ◌∙◌, ap, cond, ℕ, List, Bool, true, false, Option, Some, Vec, Global, string_bytes, refl, rules, subst}
use Rattle.std.specs.Option.{option_map}
use Rattle.std.specs.BTreeMap.{get_by_text}
use Rattle.std.proofs.lemmas.Map.Text.{btree_map_updates_text}
use Rattle.psi_base.specs.Outside.{with_file}
use Rattle.psi_base.specs.State.{files_of}
use Rattle.psi_base.proofs.folder.Folder.put.Goals as goal

-- the items of a vector that was chosen by a test
chosen : (b : Bool) (v : Vec ℕ Global) (o : Option (Vec ℕ Global)) → option_map (λ (w : Vec ℕ Global). w.items) (cond b (Some v) o) ≡ cond b (Some v.items) (option_map (λ w. w.items) o)
chosen true v o = refl
chosen false v o = refl

pub returns-clause-put : goal.returns-clause-put
returns-clause-put c =
    let old = files_of c.args.self.now in
    let name = c.in_ok-to_string.field-0 in
    let content = c.in_ok-content.content in
    let sets = btree_map_updates_text (string_bytes name) c.args.self.now.files c.insert.new.self _ c.in_ok-insert.ensures.updates in
    let same : string_bytes name ≡ c.args.name.now = search rules in
    let copied : content.items ≡ c.args.bytes.now = search rules in
    let step : (q : List ℕ) → option_map (λ (w : Vec ℕ Global). w.items) (get_by_text c.insert.new.self q) ≡ with_file old (string_bytes name) content.items q = λ q. ap (λ (o : Option (Vec ℕ Global)). option_map (λ w. w.items) o) (sets q) ∙ chosen _ _ _ in
    let P : List ℕ → List ℕ → Type 0 = λ n b. files_of (record { files = c.insert.new.self }) ≡ with_file old n b in
    let put : P (string_bytes name) content.items = λ i q. step q i in
    subst (P c.args.name.now) copied (subst (λ (n : List ℕ). P n content.items) same put)
