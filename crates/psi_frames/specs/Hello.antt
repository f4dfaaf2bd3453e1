-- The hellos of both ends: their fields, and what they say.
use Rattle.std.specs.Prelude.{◌≡◌, ◌≤◌, ℕ, List, [], ◌∷◌, drop, nat_lt, Some, None, if◌then◌else◌}
use Rattle.std.specs.Int.{w8, w32, w64, from_be_bytes}
use Rattle.std.specs.Str.{bytes_eq}
use Rattle.psi_spec.specs.Limits.{limit_items}
use Rattle.psi_spec.specs.Frames.{Field}
use Rattle.psi_frames.specs.declared.reasons.Reason.{Reason}
use Rattle.psi_frames.specs.declared.reasons.Reason.TheVariants as reason
use Rattle.psi_frames.specs.Fields.{number_field, unless}

-- the kind of the receiver's hello, and that of the sender's
abbrev pub receiver_hello_kind : ℕ
receiver_hello_kind = 1

abbrev pub sender_hello_kind : ℕ
sender_hello_kind = 2

-- the length of a hello's payload
abbrev pub hello_length : ℕ
hello_length = 29

abbrev pub version_field : Field Reason
version_field = number_field w8 (unless 1 (λ found. reason.Version found))

abbrev pub deal_field : List ℕ → Field Reason
deal_field id = record { size = 16; refuse = λ found. if bytes_eq found id then None else Some (reason.Deal found) }

abbrev pub session_field : ℕ → Field Reason
session_field session = number_field w64 (unless session (λ found. reason.Session found))

abbrev pub count_field : Field Reason
count_field = number_field w32 (λ found. if nat_lt limit_items found then Some (reason.Count found) else None)

-- the fields of its numbers, and all of its payload
abbrev pub number_fields : ℕ → List (Field Reason)
number_fields session = session_field session ∷ count_field ∷ []

abbrev pub hello_fields : List ℕ → ℕ → List (Field Reason)
hello_fields id session = version_field ∷ deal_field id ∷ number_fields session

-- the number of items that a payload says
abbrev pub count_in : List ℕ → ℕ
count_in payload = from_be_bytes w32 (drop 25 payload)

-- a hello is of this deal and session, with no more items than a list may have
pub record IsHelloOf (id : List ℕ) (session : ℕ) (deal : List ℕ) (number items : ℕ) : Type 0 where
  pub deal_is : deal ≡ id
  pub session_is : number ≡ session
  pub few : items ≤ limit_items
