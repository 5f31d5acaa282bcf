-- The text of a journal.
use Rattle.std.specs.Prelude.{Bool, List, [], codes, flat_map, length, map, nat_lt, true, ℕ, ◌&&◌, ◌++◌, ◌∷◌, ◌^◌}
use Rattle.std.specs.Fmt.{decimal}
use Rattle.sn_journal.specs.declared.entry.Entry.{Entry}
use Rattle.sn_journal.specs.declared.entry.Entry.TheVariants as entry
use Rattle.sn_journal.specs.declared.kind.Kind.{Kind}
use Rattle.sn_journal.specs.declared.kind.Kind.TheVariants as kind
use Rattle.sn_journal.specs.declared.line.Line.{Line}
use Rattle.sn_journal.specs.declared.line.Line.TheVariants as line

-- the word that a line begins with
abbrev pub kind_word : Kind → List ℕ
kind_word kind.Round = codes "round"
kind_word kind.Hear = codes "hear"
kind_word kind.Breath = codes "breath"
kind_word kind.Attach = codes "attach"
kind_word kind.Unattached = codes "unattached"
kind_word kind.Detach = codes "detach"
kind_word kind.Reset = codes "reset"
kind_word kind.Seen = codes "seen"
kind_word kind.Room = codes "room"
kind_word kind.Put = codes "put"
kind_word kind.Take = codes "take"
kind_word kind.Drain = codes "drain"
kind_word kind.Got = codes "got"
kind_word kind.Dry = codes "dry"
kind_word kind.Gave = codes "gave"
kind_word kind.Full = codes "full"
kind_word kind.Worn = codes "worn"
kind_word kind.Spent = codes "spent"
kind_word kind.Stop = codes "stop"
kind_word kind.Close = codes "close"
kind_word kind.Reclaimed = codes "reclaimed"
kind_word kind.Restart = codes "restart"

-- what a line says, without its numbers
abbrev pub line_kind : Line → Kind
line_kind (line.Round round) = kind.Round
line_kind (line.Hear due) = kind.Hear
line_kind line.Breath = kind.Breath
line_kind (line.Attach lane found) = kind.Attach
line_kind (line.Unattached lane loaded found) = kind.Unattached
line_kind (line.Detach lane old) = kind.Detach
line_kind (line.Reset lane) = kind.Reset
line_kind (line.Seen lane seen) = kind.Seen
line_kind (line.Room lane room) = kind.Room
line_kind (line.Put lane at packet turn len) = kind.Put
line_kind (line.Take lane at packet turn len) = kind.Take
line_kind (line.Drain lane at packet turn) = kind.Drain
line_kind (line.Got packet turn) = kind.Got
line_kind line.Dry = kind.Dry
line_kind (line.Gave packet turn) = kind.Gave
line_kind (line.Full packet turn) = kind.Full
line_kind (line.Worn packet turn) = kind.Worn
line_kind line.Spent = kind.Spent
line_kind line.Stop = kind.Stop
line_kind line.Close = kind.Close
line_kind line.Reclaimed = kind.Reclaimed
line_kind line.Restart = kind.Restart

-- the numbers of a line
abbrev pub line_numbers : Line → List ℕ
line_numbers (line.Round round) = round ∷ []
line_numbers (line.Hear due) = due ∷ []
line_numbers line.Breath = []
line_numbers (line.Attach lane found) = lane ∷ found ∷ []
line_numbers (line.Unattached lane loaded found) = lane ∷ loaded ∷ found ∷ []
line_numbers (line.Detach lane old) = lane ∷ old ∷ []
line_numbers (line.Reset lane) = lane ∷ []
line_numbers (line.Seen lane seen) = lane ∷ seen ∷ []
line_numbers (line.Room lane room) = lane ∷ room ∷ []
line_numbers (line.Put lane at packet turn len) = lane ∷ at ∷ packet ∷ turn ∷ len ∷ []
line_numbers (line.Take lane at packet turn len) = lane ∷ at ∷ packet ∷ turn ∷ len ∷ []
line_numbers (line.Drain lane at packet turn) = lane ∷ at ∷ packet ∷ turn ∷ []
line_numbers (line.Got packet turn) = packet ∷ turn ∷ []
line_numbers line.Dry = []
line_numbers (line.Gave packet turn) = packet ∷ turn ∷ []
line_numbers (line.Full packet turn) = packet ∷ turn ∷ []
line_numbers (line.Worn packet turn) = packet ∷ turn ∷ []
line_numbers line.Spent = []
line_numbers line.Stop = []
line_numbers line.Close = []
line_numbers line.Reclaimed = []
line_numbers line.Restart = []

abbrev pub is_u32 : ℕ → Bool
is_u32 n = nat_lt n (2 ^ 32)

abbrev pub is_u64 : ℕ → Bool
is_u64 n = nat_lt n (2 ^ 64)

-- each number of a line is one of its type: rounds, interlinks, packets and counts are u32, all others u64
abbrev pub fits : Line → Bool
fits (line.Round round) = is_u32 round
fits (line.Hear due) = is_u64 due
fits line.Breath = true
fits (line.Attach lane found) = is_u32 lane && is_u64 found
fits (line.Unattached lane loaded found) = is_u32 lane && is_u64 loaded && is_u64 found
fits (line.Detach lane old) = is_u32 lane && is_u64 old
fits (line.Reset lane) = is_u32 lane
fits (line.Seen lane seen) = is_u32 lane && is_u32 seen
fits (line.Room lane room) = is_u32 lane && is_u32 room
fits (line.Put lane at packet turn len) = is_u32 lane && is_u64 at && is_u32 packet && is_u64 turn && is_u32 len
fits (line.Take lane at packet turn len) = is_u32 lane && is_u64 at && is_u32 packet && is_u64 turn && is_u32 len
fits (line.Drain lane at packet turn) = is_u32 lane && is_u64 at && is_u32 packet && is_u64 turn
fits (line.Got packet turn) = is_u32 packet && is_u64 turn
fits line.Dry = true
fits (line.Gave packet turn) = is_u32 packet && is_u64 turn
fits (line.Full packet turn) = is_u32 packet && is_u64 turn
fits (line.Worn packet turn) = is_u32 packet && is_u64 turn
fits line.Spent = true
fits line.Stop = true
fits line.Close = true
fits line.Reclaimed = true
fits line.Restart = true

-- numbers in decimal digits without leading zeros, each behind a space
abbrev pub spaced : List ℕ → List ℕ
spaced numbers = flat_map (λ n. 32 ∷ decimal n) numbers

-- a word, its numbers, and the byte 10 that ends the line
unfoldable pub spelled : List ℕ → List ℕ → List ℕ
spelled word numbers = word ++ (spaced numbers ++ 10 ∷ [])

-- the text of a line
abbrev pub line_text : Line → List ℕ
line_text line = spelled (kind_word (line_kind line)) (line_numbers line)

-- the text of lines, one after another
abbrev pub lines_text : List Line → List ℕ
lines_text lines = flat_map line_text lines

-- the line of an entry: the number of its payload's bytes stands in place of the payload
abbrev pub line_of : Entry → Line
line_of (entry.Round round) = line.Round round
line_of (entry.Hear due) = line.Hear due
line_of entry.Breath = line.Breath
line_of (entry.Attach lane found) = line.Attach lane found
line_of (entry.Unattached lane loaded found) = line.Unattached lane loaded found
line_of (entry.Detach lane old) = line.Detach lane old
line_of (entry.Reset lane) = line.Reset lane
line_of (entry.Seen lane seen) = line.Seen lane seen
line_of (entry.Room lane room) = line.Room lane room
line_of (entry.Put lane at packet turn bytes) = line.Put lane at packet turn (length bytes)
line_of (entry.Take lane at packet turn bytes) = line.Take lane at packet turn (length bytes)
line_of (entry.Drain lane at packet turn) = line.Drain lane at packet turn
line_of (entry.Got packet turn) = line.Got packet turn
line_of entry.Dry = line.Dry
line_of (entry.Gave packet turn) = line.Gave packet turn
line_of (entry.Full packet turn) = line.Full packet turn
line_of (entry.Worn packet turn) = line.Worn packet turn
line_of entry.Spent = line.Spent
line_of entry.Stop = line.Stop
line_of entry.Close = line.Close
line_of entry.Reclaimed = line.Reclaimed
line_of entry.Restart = line.Restart

-- the text of a journal of these entries
abbrev pub journal_text : List Entry → List ℕ
journal_text entries = lines_text (map line_of entries)
