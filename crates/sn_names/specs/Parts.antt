-- How far a text goes on as the parts of a form, byte by byte.
use Rattle.std.specs.Prelude.{Bool, List, None, Option, Some, [], cond, false, length, suc, true, zero, ℕ, ◌-◌, ◌==◌, ◌∷◌, ◌≡◌}
use Rattle.sn_names.specs.NameText.{is_name_byte}

-- a given byte, one byte of a name, at most so many further ones, or any number of spaces
pub data Part : Type 0 where
  Byte : ℕ → Part
  First : Part
  More : ℕ → Part
  Spaces : Part

-- the parts that are left after a byte, where some text of the parts begins with it
abbrev pub after : List Part → ℕ → Option (List Part)
after [] x = None
after (Byte c ∷ parts) x = cond (x == c) (Some parts) None
after (First ∷ parts) x = cond (is_name_byte x) (Some parts) None
after (More zero ∷ parts) x = after parts x
after (More (suc n) ∷ parts) x = cond (is_name_byte x) (Some (More n ∷ parts)) (after parts x)
after (Spaces ∷ parts) x = cond (x == 32) (Some (Spaces ∷ parts)) (after parts x)

-- whether the parts can all be empty
abbrev pub ends : List Part → Bool
ends [] = true
ends (Byte c ∷ parts) = false
ends (First ∷ parts) = false
ends (More n ∷ parts) = ends parts
ends (Spaces ∷ parts) = ends parts

-- how many bytes of a text are left at the first that no text of the parts goes on with; None
-- where the text is one
abbrev pub left : List Part → List ℕ → Option ℕ
left parts [] = cond (ends parts) None (Some 0)
left parts (x ∷ xs) = elim (after parts x) [ None ↦ Some (suc (length xs)) | Some further ↦ left further xs ]

-- the text goes on as the parts up to this place, and the bytes from there on are left
abbrev pub LeavesFrom : List Part → List ℕ → ℕ → Type 0
LeavesFrom parts text at = left parts text ≡ Some (length text - at)

-- whether a text begins with a byte that passes
abbrev pub starts : (ℕ → Bool) → List ℕ → Bool
starts passes [] = false
starts passes (x ∷ xs) = passes x

abbrev pub is_space : ℕ → Bool
is_space x = x == 32

-- the parts of a name, of a port and of a link, and what follows them
abbrev pub name_parts : List Part → List Part
name_parts parts = First ∷ More 63 ∷ parts

abbrev pub port_parts : List Part → List Part
port_parts parts = name_parts (Byte 46 ∷ name_parts parts)

abbrev pub arrow_parts : List Part → List Part
arrow_parts parts = Spaces ∷ Byte 45 ∷ Byte 62 ∷ Spaces ∷ parts

abbrev pub link_parts : List Part
link_parts = Spaces ∷ port_parts (arrow_parts (port_parts (Spaces ∷ [])))
