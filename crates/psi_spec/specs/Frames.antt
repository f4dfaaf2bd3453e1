-- Frames: their bytes, and fields that are judged in order.
use Rattle.std.specs.Prelude.{◌≡◌, ◌+◌, ◌^◌, ◌<◌, ℕ, Bool, List, [], ◌∷◌, ◌++◌, length, take, drop, slice_index, zero, suc, nat_lt, Option, None, ⊤, if◌then◌else◌}
use Rattle.std.specs.Int.{w16, w32, w64, to_be_bytes}
use Rattle.std.specs.List.{position_from, zip}
use Rattle.std.specs.Option.{option_or}
use Rattle.std.specs.Cmp.Lexicographic.{slice_cmp}
use Rattle.std.specs.Ordering.{nat_cmp, is_lt}

-- a frame: a hello with its deal's id, its session and a count of items; a column with its index and its bytes; the
-- tags of a block of a list, joined; the values of a block of rows, joined; the end
pub data Frame : Type 0 where
  receiver_hello : List ℕ → ℕ → ℕ → Frame
  sender_hello : List ℕ → ℕ → ℕ → Frame
  column_frame : ℕ → List ℕ → Frame
  tags_frame : ℕ → ℕ → List ℕ → Frame
  values_frame : ℕ → List ℕ → Frame
  done_frame : Frame

-- a kind, the length of a payload in four bytes, and the payload
abbrev pub framed : ℕ → List ℕ → List ℕ
framed kind payload = kind ∷ to_be_bytes w32 (length payload) ++ payload

-- the payload of a hello: the version, which is 1, and then what it says
abbrev pub hello_payload : List ℕ → ℕ → ℕ → List ℕ
hello_payload id session count = 1 ∷ id ++ to_be_bytes w64 session ++ to_be_bytes w32 count

-- the bytes of a frame
abbrev pub layout : Frame → List ℕ
layout (receiver_hello id session count) = framed 1 (hello_payload id session count)
layout (sender_hello id session count) = framed 2 (hello_payload id session count)
layout (column_frame index bytes) = framed 3 (to_be_bytes w16 index ++ bytes)
layout (tags_frame list block tags) = framed 4 (list ∷ to_be_bytes w32 block ++ tags)
layout (values_frame block values) = framed 7 (to_be_bytes w32 block ++ values)
layout done_frame = framed 5 []

-- ---- sizes, in bytes

-- what a frame begins with: its kind, and the length of its payload
abbrev pub header_size : ℕ
header_size = 5

-- a hello
abbrev pub hello_size : ℕ
hello_size = 34

-- what stands before the column of its frame: the header and the index
abbrev pub column_head : ℕ
column_head = header_size + 2

-- what stands before the tags of a frame: the header, the list and the block
abbrev pub tags_head : ℕ
tags_head = header_size + 5

-- done is a header alone
abbrev pub done_size : ℕ
done_size = header_size

-- ---- what fits

-- each of the numbers is a byte
abbrev pub AreBytes : List ℕ → Type 0
AreBytes bytes = (i : ℕ) → slice_index bytes i < 2 ^ 8

-- a deal's id has 16 bytes, and the numbers of a hello fit their fields
pub record FitsHello (deal : List ℕ) (number items : ℕ) : Type 0 where
  pub id : length deal ≡ 16
  pub session : number < 2 ^ 64
  pub count : items < 2 ^ 32

-- the parts of a frame fit their fields
abbrev pub Fits : Frame → Type 0
Fits (receiver_hello id session count) = FitsHello id session count
Fits (sender_hello id session count) = FitsHello id session count
Fits (column_frame index bytes) = index < 2 ^ 16
Fits (tags_frame list block tags) = block < 2 ^ 32
Fits (values_frame block values) = block < 2 ^ 32
Fits done_frame = ⊤

-- a field of a frame: how many bytes it has, and for which reason such bytes are refused, if for any
pub record Field (Why : Type 0) : Type 0 where
  pub size : ℕ
  pub refuse : List ℕ → Option Why

-- the bytes of fields, one after another
abbrev pub total_size : {Why : Type 0} → List (Field Why) → ℕ
total_size [] = 0
total_size (field ∷ fields) = field.size + total_size fields

-- the reason of the first field that is wrong, among those whose last byte is there
abbrev pub first_wrong : {Why : Type 0} → List (Field Why) → List ℕ → Option Why
first_wrong [] bytes = None
first_wrong (field ∷ fields) bytes =
    if nat_lt (length bytes) field.size then None
    else option_or (field.refuse (take field.size bytes)) (first_wrong fields (drop field.size bytes))

-- so many tags of `width` bytes, one after another
abbrev pub tags_of : ℕ → ℕ → List ℕ → List (List ℕ)
tags_of zero width bytes = []
tags_of (suc count) width bytes = take width bytes ∷ tags_of count width (drop width bytes)

-- whether a tag is below another, compared from the first byte on
abbrev pub is_below : List ℕ → List ℕ → Bool
is_below tag other = is_lt (slice_cmp nat_cmp tag other)

-- the place of the first tag that is below the tag before it, where `before` stands before the first
abbrev pub first_below : List ℕ → List (List ℕ) → Option ℕ
first_below before tags = position_from (λ neighbours. is_below neighbours.1 neighbours.0) 0 (zip (before ∷ tags) tags)
