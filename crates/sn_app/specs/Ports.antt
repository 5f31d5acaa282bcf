-- An app's ports: names with the links that they lead to.
use Rattle.std.specs.Prelude.{ℕ, ◌<◌, ◌≡◌, List, [], length, map, position, bytes_eq, slice_index_or, Option, None, IsSome, unwrap_or}
use Rattle.sn_link.specs.Link.{Line, new_line}
use Rattle.sn_app.specs.declared.ports.Ports.{Ports}

-- a port as a desk has it: its name, and its link's row
abbrev pub Port : Type 0
Port = List ℕ × ℕ

-- the link at a key
abbrev pub line_at : List (Option Line) → ℕ → Line
line_at slots key = unwrap_or (slice_index_or slots key None) (new_line 0)

-- the key of the port at a place
abbrev pub key_at : List (List ℕ × ℕ) → ℕ → ℕ
key_at ports i = (slice_index_or ports i ([], 0)).1

-- ports with their links' rows in place of the keys
unfoldable pub rows_of : List (Option Line) → List (List ℕ × ℕ) → List Port
rows_of slots ports = map (λ port. (port.0, (line_at slots port.1).row)) ports

-- the row of the link that a port leads to
abbrev pub row_at : List (Option Line) → List (List ℕ × ℕ) → ℕ → ℕ
row_at slots ports i = (line_at slots (key_at ports i)).row

-- each port's link is there
pub record HasLinks (slots : List (Option Line)) (ports : List (List ℕ × ℕ)) : Type 0 where
  pub held : (i : ℕ) → i < length ports → IsSome (slice_index_or slots (key_at ports i) None)

-- the place of a named port
abbrev pub place_of : List (List ℕ × ℕ) → List ℕ → Option ℕ
place_of ports name = position (λ port. bytes_eq port.0 name) ports

-- the links of ports, and their ports
abbrev pub slots_of : Ports → List (Option Line)
slots_of ports = ports.links.now.slots

abbrev pub ins_of : Ports → List (List ℕ × ℕ)
ins_of ports = ports.ins.now

abbrev pub outs_of : Ports → List (List ℕ × ℕ)
outs_of ports = ports.outs.now

-- the key of an input or an output, and its link
abbrev pub in_key : Ports → ℕ → ℕ
in_key ports i = key_at (ins_of ports) i

abbrev pub out_key : Ports → ℕ → ℕ
out_key ports o = key_at (outs_of ports) o

abbrev pub in_line : Ports → ℕ → Line
in_line ports i = line_at (slots_of ports) (in_key ports i)

abbrev pub out_line : Ports → ℕ → Line
out_line ports o = line_at (slots_of ports) (out_key ports o)

-- their rows
abbrev pub in_row : Ports → ℕ → ℕ
in_row ports i = (in_line ports i).row

abbrev pub out_row : Ports → ℕ → ℕ
out_row ports o = (out_line ports o).row

-- its ports, as a desk has them
abbrev pub in_ports : Ports → List Port
in_ports ports = rows_of (slots_of ports) (ins_of ports)

abbrev pub out_ports : Ports → List Port
out_ports ports = rows_of (slots_of ports) (outs_of ports)

-- an input, or an output, whose links are all there
abbrev pub HasInputs : Ports → Type 0
HasInputs ports = HasLinks (slots_of ports) (ins_of ports)

abbrev pub HasOutputs : Ports → Type 0
HasOutputs ports = HasLinks (slots_of ports) (outs_of ports)

-- the same ports, over the same borrow of the links
pub record SamePorts (old new : Ports) : Type 0 where
  pub ins : ins_of new ≡ ins_of old
  pub outs : outs_of new ≡ outs_of old
  pub links : new.links.ghost_name ≡ old.links.ghost_name

-- the same links, each still at its row, and none besides
pub record KeepsRows (old new : List (Option Line)) : Type 0 where
  pub rows : (key : ℕ) → (line_at new key).row ≡ (line_at old key).row
  pub held : (key : ℕ) → IsSome (slice_index_or old key None) → IsSome (slice_index_or new key None)
  pub none : (key : ℕ) → slice_index_or old key None ≡ None → slice_index_or new key None ≡ None
