-- Lines of text as bytes, so that a worked page can be written as it looks.
use Rattle.std.specs.Prelude.{ℕ}
use Prim.Native.Char.{code}
use Prim.Native.String.{String, [], ◌∷◌}
use mathlib.Core.List as List

-- the bytes of a text of ASCII
unfoldable pub bytes : String → List.List ℕ
bytes [] = List.[]
bytes (character ∷ text) = List.◌∷◌ (code character) (bytes text)

-- lines, each with its line feed
unfoldable pub text : List.List String → List.List ℕ
text List.[] = List.[]
text (List.◌∷◌ line lines) = List.◌++◌ (bytes line) (List.◌∷◌ 10 (text lines))
