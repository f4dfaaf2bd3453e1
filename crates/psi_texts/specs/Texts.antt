-- The numbers of the statuses, and the lines that name their faults.
use Rattle.std.specs.Prelude.{ℕ, List, [], ◌++◌, codes, decimal, length}
use Rattle.psi_items.specs.declared.errors.BadItems.{BadItems}
use Rattle.psi_items.specs.declared.errors.BadItems.TheVariants as items
use Rattle.psi_deal.specs.declared.errors.BadDeal.{BadDeal}
use Rattle.psi_deal.specs.declared.errors.BadDeal.TheVariants as deal
use Rattle.psi_cuckoo.specs.declared.errors.BadSlots.{BadSlots as SlotsFault}
use Rattle.psi_cuckoo.specs.declared.errors.BadSlots.TheVariants as slots
use Rattle.psi_deal.specs.declared.errors.DealField.{DealField}
use Rattle.psi_deal.specs.declared.errors.DealField.TheVariants as deal_field
use Rattle.psi_frames.specs.Reasons.{number_of_reason}
use Rattle.psi_frames.specs.declared.reasons.BadFrame.{BadFrame as RefusedFrame}
use Rattle.psi_log.specs.declared.errors.BadRecord.{BadRecord as RecordFault}
use Rattle.psi_log.specs.declared.errors.BadRecord.TheVariants as record_fault
use Rattle.psi_texts.specs.declared.status.Status.{Status}
use Rattle.psi_texts.specs.declared.status.Status.TheVariants.{Done, BadWords, BadItems as RefusedItems, BadDeal as RefusedDeal, NoPlacement, BadFrame, PeerEnded, Differs, BadSlots, BadRecord, FileFault, LinkFault, PrintFault, TooLong, DealsDiffer, SizesDiffer, NoMemory}

-- the number of a status
abbrev pub number_of_status : Status → ℕ
number_of_status Done = 0
number_of_status (BadWords at) = 2
number_of_status (RefusedItems word fault) = 3
number_of_status (RefusedDeal word fault) = 4
number_of_status (NoPlacement word items touched) = 5
number_of_status (BadFrame frame) = 6
number_of_status (PeerEnded offset) = 7
number_of_status (Differs offset found wanted) = 8
number_of_status (BadSlots fault) = 8
number_of_status (BadRecord fault) = 9
number_of_status (FileFault word) = 10
number_of_status LinkFault = 11
number_of_status PrintFault = 12
number_of_status (TooLong word taken) = 13
number_of_status (DealsDiffer field) = 14
number_of_status (SizesDiffer first second) = 15
number_of_status NoMemory = 70

-- how a line about the file of a word begins
abbrev pub word_front : ℕ → List ℕ
word_front word = codes "psi: word " ++ decimal word ++ codes ": "

-- how a line about one line of that file begins
abbrev pub line_front : ℕ → ℕ → List ℕ
line_front word line = word_front word ++ codes "line " ++ decimal line ++ codes ": "

-- the line for want of memory
abbrev pub no_memory_text : List ℕ
no_memory_text = codes "psi: no memory\n"

-- the line of a fault of an item file
abbrev pub items_text : ℕ → BadItems → List ℕ
items_text word (items.Byte line found) = line_front word line ++ codes "byte " ++ decimal found ++ codes "\n"
items_text word (items.Long line length) =
    line_front word line ++ codes "item of " ++ decimal length ++ codes " bytes\n"
items_text word (items.Many line) = line_front word line ++ codes "too many items\n"
items_text word items.NoMemory = no_memory_text

-- the line of a fault of a deal file
abbrev pub deal_text : ℕ → BadDeal → List ℕ
deal_text word deal.Magic = word_front word ++ codes "not a deal file\n"
deal_text word (deal.Version found) = word_front word ++ codes "deal version " ++ decimal found ++ codes "\n"
deal_text word (deal.Role found) = word_front word ++ codes "deal role " ++ decimal found ++ codes "\n"
deal_text word (deal.Length found) = word_front word ++ codes "deal length " ++ decimal found ++ codes "\n"
deal_text word (deal.TagBytes found) = word_front word ++ codes "deal tag bytes " ++ decimal found ++ codes "\n"
deal_text word (deal.StashRows found) = word_front word ++ codes "deal stash " ++ decimal found ++ codes "\n"
deal_text word deal.Seal = word_front word ++ codes "deal seal\n"
deal_text word deal.NoMemory = no_memory_text

-- the line of a file that is too long
abbrev pub too_long_text : ℕ → ℕ → List ℕ
too_long_text word taken = word_front word ++ codes "too long after " ++ decimal taken ++ codes " bytes\n"

-- the line of a set that has no placement
abbrev pub crowded_text : ℕ → ℕ → ℕ → List ℕ
crowded_text word count touched =
    word_front word ++ decimal count ++ codes " items touch "
    ++ decimal touched ++ codes " bins\n"

-- the line of a frame that is refused
abbrev pub frame_text : RefusedFrame → List ℕ
frame_text frame =
    codes "psi: frame at " ++ decimal frame.offset ++ codes ": reason " ++ decimal (number_of_reason frame.reason)
    ++ codes "\n"

-- the line of a record that differs from its session
abbrev pub difference_text : ℕ → ℕ → ℕ → List ℕ
difference_text offset found wanted =
    codes "psi: record differs at " ++ decimal offset ++ codes ": " ++ decimal found ++ codes " not " ++ decimal wanted
    ++ codes "\n"

-- the line of recorded slots that are no placement
abbrev pub slots_text : SlotsFault → List ℕ
slots_text slots.NoMemory = no_memory_text
slots_text _ = codes "psi: record slots\n"

-- the line of a fault of a record file
abbrev pub record_text : RecordFault → List ℕ
record_text record_fault.Magic = codes "psi: not a record file\n"
record_text (record_fault.Version found) = codes "psi: record version " ++ decimal found ++ codes "\n"
record_text (record_fault.Short offset) = codes "psi: record short at " ++ decimal offset ++ codes "\n"
record_text (record_fault.Kind offset found) =
    codes "psi: record kind " ++ decimal found ++ codes " at " ++ decimal offset
    ++ codes "\n"
record_text record_fault.Seal = codes "psi: record seal\n"
record_text (record_fault.Trailing offset) = codes "psi: record trailing at " ++ decimal offset ++ codes "\n"
record_text record_fault.NoMemory = no_memory_text

-- the line of two deals that are no pair
abbrev pub field_text : DealField → List ℕ
field_text deal_field.Id = codes "psi: deals differ in id\n"
field_text deal_field.Session = codes "psi: deals differ in session\n"
field_text deal_field.Key = codes "psi: deals differ in key\n"
field_text deal_field.TagBytes = codes "psi: deals differ in tag bytes\n"
field_text deal_field.StashRows = codes "psi: deals differ in stash\n"
field_text (deal_field.Seed column) = codes "psi: deals differ in column " ++ decimal column ++ codes "\n"

-- the line of two lists that have different numbers of items
abbrev pub sizes_text : ℕ → ℕ → List ℕ
sizes_text first second =
    codes "psi: sizes differ: " ++ decimal first ++ codes " and " ++ decimal second ++ codes "\n"

-- the line that names a status's fault, with a line feed; nothing where the run is done
abbrev pub fault_text : Status → List ℕ
fault_text Done = []
fault_text (BadWords at) = codes "psi: bad word at " ++ decimal at ++ codes "\n"
fault_text (RefusedItems word fault) = items_text word fault
fault_text (RefusedDeal word fault) = deal_text word fault
fault_text (NoPlacement word items touched) = crowded_text word (length items) touched
fault_text (BadFrame frame) = frame_text frame
fault_text (PeerEnded offset) = codes "psi: peer ended at " ++ decimal offset ++ codes "\n"
fault_text (Differs offset found wanted) = difference_text offset found wanted
fault_text (BadSlots fault) = slots_text fault
fault_text (BadRecord fault) = record_text fault
fault_text (FileFault word) = word_front word ++ codes "file fault\n"
fault_text LinkFault = codes "psi: link fault\n"
fault_text PrintFault = codes "psi: print fault\n"
fault_text (TooLong word taken) = too_long_text word taken
fault_text (DealsDiffer field) = field_text field
fault_text (SizesDiffer first second) = sizes_text first second
fault_text NoMemory = no_memory_text
