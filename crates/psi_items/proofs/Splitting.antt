-- A loop over the lines of a file, which a `split` gives.
use Rattle.std.proofs.Common.{◌≡◌, ℕ, ◌<◌, ◌==◌, Bool, false, sym, subst, ◌∙◌, List, length, get_or, Option, Some, None}
use Rattle.std.specs.declared.slice.Split.{Split}
use Rattle.std.specs.Slice.Iter as slice
use Rattle.std.specs.Fn.{CalledAt}
use Rattle.std.specs.Iterator.{Yields}
use Rattle.std.proofs.lemmas.Iterator.{YieldsList}
use Rattle.std.proofs.lemmas.Iterator.Consumers.{YieldsList-turn, YieldsList-end}
use Rattle.std.proofs.lemmas.Iterator.Splits.{YieldsList-from_slice_split}
use denote.Param.Members.{Mut}
use denote.Ref.{Bor}
use Rattle.psi_spec.specs.Items.{lines_of}
use Rattle.psi_items.proofs.Reading.{IsLine}

-- after n lines, the next call gives r
module _ {F : Type 0} (g : Mut F (Bor ℕ × Unit {0}) Bool) (s t u : Split ℕ F) (r : Option (Bor (List ℕ))) (n : ℕ) (lines : List (Bor (List ℕ))) (count : n ≡ length lines) (so_far : Yields (slice.split_steps g) s lines t) (step : slice.split_steps g t r u)
    (f : F) (bytes : List ℕ) (rest : slice.split_rest s ≡ bytes) (done : slice.split_done s ≡ false) (closure : slice.split_callee s ≡ f) (test : (x : ℕ) (b : Bool) (q : F) → CalledAt g f x b q → (q ≡ f) × (b ≡ (x == 10))) where
  gives_lines : YieldsList (slice.split_steps g) (λ (line : Bor (List ℕ)). line.now) s (lines_of bytes)
  gives_lines = YieldsList-from_slice_split g (λ x. x == 10) bytes rest done closure test

  -- a line, and where it stands in the file
  pub next_line : (line : Bor (List ℕ)) → r ≡ Some line → IsLine bytes n line.now
  next_line line is =
      let turn = YieldsList-turn gives_lines lines t so_far r u line is step in
      record { within = subst (λ k. k < length (lines_of bytes)) (sym count) turn.0; here = subst (λ k. line.now ≡ get_or (lines_of bytes) k line.now) (sym count) turn.1 }

  -- no line, where all were given
  pub all_lines : r ≡ None → n ≡ length (lines_of bytes)
  all_lines is = count ∙ (YieldsList-end gives_lines lines t so_far r u is step).1
