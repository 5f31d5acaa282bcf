-- The parts of a link's text, one after another.
use Rattle.std.specs.Prelude.{List, replicate, ℕ, ◌++◌, ◌∷◌, ◌≡◌}
use Rattle.sn_names.specs.NameText.{IsName}

-- a number of spaces
abbrev pub spaces : ℕ → List ℕ
spaces n = replicate n 32

-- an app's port: both names, with a dot between them
abbrev pub port_text : List ℕ → List ℕ → List ℕ
port_text app port = app ++ 46 ∷ port

-- a port, and what follows it
pub record IsPort (text app port rest : List ℕ) : Type 0 where
  pub app_name : IsName app
  pub port_name : IsName port
  pub spelled : text ≡ port_text app port ++ rest

-- an arrow between optional spaces, and what follows it
pub record IsArrow (text rest : List ℕ) : Type 0 where
  pub left : ℕ
  pub right : ℕ
  pub spelled : text ≡ spaces left ++ (45 ∷ 62 ∷ (spaces right ++ rest))

-- optional spaces, a port, optional spaces, an arrow, optional spaces, a port, optional spaces
pub record IsLinkOf (text from out to input : List ℕ) : Type 0 where
  pub from_name : IsName from
  pub out_name : IsName out
  pub to_name : IsName to
  pub input_name : IsName input
  pub before : ℕ
  pub left : ℕ
  pub right : ℕ
  pub after : ℕ
  pub spelled :
      text ≡ spaces before ++ (port_text from out
      ++ (spaces left ++ (45 ∷ 62 ∷ (spaces right ++ (port_text to input ++ spaces after)))))
