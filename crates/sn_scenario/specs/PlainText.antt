-- A scenario's text in its plain spelling: its significant lines alone, the tokens of each parted by
-- one space, and links in their canonical text.
use Rattle.std.specs.Prelude.{List, None, Option, Some, [], codes, cond, flat_map, ℕ, ◌++◌, ◌∷◌}
use Rattle.std.specs.Str.{bytes_eq}
use Rattle.sn_names.specs.LinkText.{canonical_text}
use Rattle.sn_names.specs.declared.link.LinkSpec.{LinkSpec}
use Rattle.sn_scenario.specs.Cutting.{behind_token, first_token, is_remark, lines_of, tokens, without_return}
use Rattle.sn_scenario.specs.Leaves.{link_of}

-- tokens, each behind a space
abbrev pub spaced : List (List ℕ) → List ℕ
spaced [] = []
spaced (token ∷ more) = 32 ∷ (token ++ spaced more)

-- a link behind a space, or nothing where there is none
abbrev pub spaced_link : Option LinkSpec → List ℕ
spaced_link None = []
spaced_link (Some link) = 32 ∷ canonical_text link

-- what stands behind a line's first token
abbrev pub plain_rest : List ℕ → List ℕ → List ℕ
plain_rest word rest = cond (bytes_eq word (codes "link")) (spaced_link (link_of rest)) (spaced (tokens rest))

-- a line of this first token, or nothing where it is skipped
unfoldable pub plain_by : List ℕ → List ℕ → List ℕ
plain_by word rest = cond (is_remark word) [] (word ++ (plain_rest word rest ++ 10 ∷ []))

abbrev pub plain_line : List ℕ → List ℕ
plain_line line = plain_by (first_token (without_return line)) (behind_token (without_return line))

abbrev pub plain_text : List ℕ → List ℕ
plain_text text = flat_map plain_line (lines_of text)
