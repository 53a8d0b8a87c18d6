-- A page as it looks: that of P1, method 2 at n = m = 1 with the table 1, 0.
use Rattle.std.specs.Prelude.{◌≡◌, List, [], ◌∷◌}
use Prim.Native.String.{String}
use Rattle.log_page.specs.Text.{text}
use Rattle.page_print.specs.Print.{page}

abbrev sheet : List String
sheet =
    "     2     1     1     0     1     0     0     1     1     0"
    ∷ "     1"
    ∷ "     0"
    ∷ []

abbrev lines : List String
lines =
    "     0  10     0     1   1     1     2   2     0     3   3     0     4   4     1"
    ∷ "     5   5     1     6   6     0     7   7     0     8   8     0     9   9     0"
    ∷ "    10  11     0    11  12     1    12  13     1    13  14     0    14   8     1"
    ∷ "    15   9     1    16  11     1    17  12     0    18  13     0    19  14     1"
    ∷ "    20   5     1    21  15     1                                                "
    ∷ "     1         1"
    ∷ "     2         1"
    ∷ "     3         1"
    ∷ "     4         1"
    ∷ "     5         2"
    ∷ "     6         1"
    ∷ "     7         1"
    ∷ "     8         2"
    ∷ "     9         2"
    ∷ "    10         1"
    ∷ "    11         2"
    ∷ "    12         2"
    ∷ "    13         2"
    ∷ "    14         2"
    ∷ "    15         1"
    ∷ "              22"
    ∷ []

unfoldable pub PageWorked : Type 0
PageWorked = page (text sheet) ≡ text lines
