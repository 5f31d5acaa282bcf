-- Texts of links.
use Rattle.std.specs.Prelude.{List, ℕ, ◌++◌, ◌∷◌, ◌≡◌}
use Rattle.sn_names.specs.NameText.{IsName}
use Rattle.sn_names.specs.Spelled.{IsLinkOf, port_text}
use Rattle.sn_names.specs.declared.link.LinkSpec.{LinkSpec}

-- the text is one of this link
abbrev pub IsLinkText : List ℕ → LinkSpec → Type 0
IsLinkText text link = IsLinkOf text link.from link.out link.to link.input

-- the text of some link
abbrev pub IsSomeLinkText : List ℕ → Type 0
IsSomeLinkText text = (link : LinkSpec) × IsLinkText text link

-- the link goes from this port to that one
abbrev pub IsBetween : List ℕ → List ℕ → List ℕ → List ℕ → LinkSpec → Type 0
IsBetween from out to input link = link ≡ record { from = from; out = out; to = to; input = input }

-- the form with one space on each side of the arrow
abbrev pub canonical_text : LinkSpec → List ℕ
canonical_text link = port_text link.from link.out ++ (32 ∷ 45 ∷ 62 ∷ 32 ∷ port_text link.to link.input)

-- the link's four names are names
pub record AreNames (link : LinkSpec) : Type 0 where
  pub from : IsName link.from
  pub out : IsName link.out
  pub to : IsName link.to
  pub input : IsName link.input
