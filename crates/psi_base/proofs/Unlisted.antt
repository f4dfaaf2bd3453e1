-- The calls of a world in memory of which none is listed to fail.
use Rattle.std.proofs.Common.{◌≡◌, ◌+◌, ◌∙◌, ℕ, Bool, true, false, List, Option, Some, None, Ok, Err, OnOk, OnErr, ap, sym, subst, refl, nat_lt, length, if◌then◌else◌}
use Rattle.std.specs.declared.result.Result.{Result}
use Rattle.psi_base.specs.State.{State, content_answer, read_answer, outside_of, ReadsExactly, WritesExactly, PrintsExactly, OpensExactly, ReceivesExactly, SendsExactly}
use Rattle.psi_base.specs.Outside.{nothing_known, Link, WriteStarved, partly_written, Reads, Writes, Prints, Opens, Receives, Sends}
use Rattle.psi_base.specs.Steady.{NoneListed, steadied, steady_outside_of}
use Rattle.psi_base.specs.declared.faults.Failed.{Failed}
use Rattle.psi_base.specs.declared.faults.Fault.{Fault}
use Rattle.psi_base.specs.declared.faults.Fault.TheVariants as fault
use Rattle.psi_base.specs.declared.faults.ReadFault.{ReadFault}
use Rattle.psi_base.specs.declared.faults.ReadFault.TheVariants as read

length_answer_done : (b : Bool) (bytes : List ℕ) (max : ℕ) → (if b then Err (read.TooLong (max + 1)) else Ok bytes) ≡ Err read.Failed → ⊥
length_answer_done true bytes max e = cc
length_answer_done false bytes max e = cc

-- only a missing content is refused as a failure
missing_content : (content : Option (List ℕ)) (max : ℕ) → content_answer content max ≡ Err read.Failed → content ≡ None
missing_content None max e = refl
missing_content (Some bytes) max e = absurd (length_answer_done (nat_lt max (length bytes)) bytes max e)

-- a read that is not listed fails only for a missing file
missing_file : (m : State) (name : List ℕ) (max : ℕ) → NoneListed m → read_answer m name max ≡ Err read.Failed → m.files name ≡ None
missing_file m name max none e =
    let unlisted = (none m.file_calls.made).0 in
    missing_content (m.files name) max (sym (ap (λ (b : Bool). if b then Err read.Failed else content_answer (m.files name) max) unlisted) ∙ e)

-- no call is listed and failed
never : {b : Bool} → b ≡ false → b ≡ true → ⊥
never unlisted listed = cc

-- no call is listed after a change that lists none, and is made or refused
pub unlisted_after : {T E : Type 0} (old changed : State) (r : Result T E) (new : State) → NoneListed old → NoneListed changed → OnOk r (new ≡ changed) → OnErr r (new ≡ old) → NoneListed new
unlisted_after old changed (Ok _) new before after done refused = subst NoneListed (sym done) after
unlisted_after old changed (Err _) new before after done refused = subst NoneListed (sym refused) before

-- a read, in a steady outside; and no call is listed after it
pub reads_steady : (old : State) (name : List ℕ) (max : ℕ) (r : Result (List ℕ) ReadFault) (new : State) → NoneListed old → Reads nothing_known (outside_of old) name max r (outside_of new) → ReadsExactly old name max r new → Reads nothing_known (steady_outside_of old) name max r (steady_outside_of new) × NoneListed new
reads_steady old name max (Ok bytes) new none h exact = ((h.0, h.1, tt, ap steadied h.3), subst NoneListed (sym exact.1) none)
reads_steady old name max (Err read.Failed) new none h exact = (record { failed = tt; rose = h.rose; missing = λ _. missing_file old name max none exact.0; left = ap steadied h.left }, subst NoneListed (sym exact.1) none)
reads_steady old name max (Err (read.TooLong taken)) new none h exact = ((h.0, h.1, ap steadied h.2), subst NoneListed (sym exact.1) none)
reads_steady old name max (Err read.NoMemory) new none h exact = (ap steadied h, subst NoneListed (sym exact.1) none)

-- a write that was refused for want of memory, in a steady outside
refused_steady : (old : State) (name bytes : List ℕ) (new : State) → WriteStarved (outside_of old) name bytes (outside_of new) → WriteStarved (steady_outside_of old) name bytes (steady_outside_of new)
refused_steady old name bytes new h = record { part = h.part; rose = h.rose; left = left h.part h.left }
  where
    left : (part : Option ℕ) → outside_of new ≡ partly_written (record (outside_of old) { refusals = new.refusals }) name bytes part → steady_outside_of new ≡ partly_written (record (steady_outside_of old) { refusals = new.refusals }) name bytes part
    left None e = ap steadied e
    left (Some count) e = ap steadied e

-- a write, likewise
pub writes_steady : (old : State) (name bytes : List ℕ) (r : Result (Unit {0}) Fault) (new : State) → NoneListed old → Writes nothing_known (outside_of old) name bytes r (outside_of new) → WritesExactly old name bytes r new → Writes nothing_known (steady_outside_of old) name bytes r (steady_outside_of new) × NoneListed new
writes_steady old name bytes (Ok _) new none h exact = (ap steadied h, subst NoneListed (sym exact.1) none)
writes_steady old name bytes (Err fault.Failed) new none h exact = absurd (never (none old.file_calls.made).0 exact.0)
writes_steady old name bytes (Err fault.NoMemory) new none h exact = (refused_steady old name bytes new h, subst NoneListed (sym exact.1) none)

-- a print, likewise
pub prints_steady : (old : State) (bytes : List ℕ) (r : Result ℕ Fault) (new : State) → NoneListed old → Prints (outside_of old) bytes r (outside_of new) → PrintsExactly old bytes r new → Prints (steady_outside_of old) bytes r (steady_outside_of new) × NoneListed new
prints_steady old bytes (Ok k) new none h exact = ((h.0, h.1, ap steadied h.2), subst NoneListed (sym exact.2) none)
prints_steady old bytes (Err fault.Failed) new none h exact = absurd (never (none old.print_calls.made).2 exact.0)
prints_steady old bytes (Err fault.NoMemory) new none h exact = (record { rose = h.rose; left = ap steadied h.left }, subst NoneListed (sym exact.1) none)

-- an opening of the link, likewise
pub opens_steady : (old : State) (link : Link) (r : Result (Unit {0}) Fault) (new : State) → NoneListed old → Opens nothing_known (outside_of old) link r (outside_of new) → OpensExactly old link r new → Opens nothing_known (steady_outside_of old) link r (steady_outside_of new) × NoneListed new
opens_steady old link (Ok _) new none h exact = (ap steady_outside_of exact.1, subst NoneListed (sym exact.1) none)
opens_steady old link (Err fault.Failed) new none h exact = absurd (never (none old.link_calls.made).1 exact.0)
opens_steady old link (Err fault.NoMemory) new none h exact = (record { rose = h.rose; left = ap steadied h.left }, subst NoneListed (sym exact.1) none)

-- a receive, likewise
pub receives_steady : (old : State) (before : List ℕ) (r : Result ℕ Failed) (after : List ℕ) (new : State) → NoneListed old → Receives nothing_known (outside_of old) r after (outside_of new) → ReceivesExactly old before r after new → Receives nothing_known (steady_outside_of old) r after (steady_outside_of new) × NoneListed new
receives_steady old before (Ok count) after new none h exact = (record { within = h.within; came = tt; next = h.next; some = h.some; ended = h.ended; left = ap steadied h.left }, subst NoneListed (sym exact.3) none)
receives_steady old before (Err _) after new none h exact = absurd (never (none old.link_calls.made).1 exact.0)

-- a send, likewise
pub sends_steady : (old : State) (bytes : List ℕ) (r : Result ℕ Fault) (new : State) → NoneListed old → Sends (outside_of old) bytes r (outside_of new) → SendsExactly old bytes r new → Sends (steady_outside_of old) bytes r (steady_outside_of new) × NoneListed new
sends_steady old bytes (Ok k) new none h exact = ((h.0, h.1, ap steadied h.2), subst NoneListed (sym exact.2) none)
sends_steady old bytes (Err fault.Failed) new none h exact = absurd (never (none old.link_calls.made).1 exact.0)
sends_steady old bytes (Err fault.NoMemory) new none h exact = (record { rose = h.rose; left = ap steadied h.left }, subst NoneListed (sym exact.1) none)
