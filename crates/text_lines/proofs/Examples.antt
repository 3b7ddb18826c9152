-- Numbers and lines, computed from the definitions.
use mathlib.Core.Path.{◌≡◌, refl}
use mathlib.Core.List.{[], ◌∷◌}
use Rattle.text_lines.specs.Lines.{decimal, line}

-- one digit, two, a zero inside and at the end, a number of more than 32 bits
pub numbers : decimal 0 ∷ decimal 9 ∷ decimal 10 ∷ decimal 4096 ∷ decimal 700 ∷ decimal 10000000000 ∷ []
    ≡ (48 ∷ []) ∷ (57 ∷ []) ∷ (49 ∷ 48 ∷ []) ∷ (52 ∷ 48 ∷ 57 ∷ 54 ∷ []) ∷ (55 ∷ 48 ∷ 48 ∷ [])
    ∷ (49 ∷ 48 ∷ 48 ∷ 48 ∷ 48 ∷ 48 ∷ 48 ∷ 48 ∷ 48 ∷ 48 ∷ 48 ∷ []) ∷ []
unfolding decimal
numbers = refl

-- "12 3 40" and LF; a line of one field
pub lines : line (decimal 12) (3 ∷ 40 ∷ []) ∷ line (decimal 5) [] ∷ [] ≡ (49 ∷ 50 ∷ 32 ∷ 51 ∷ 32 ∷ 52 ∷ 48 ∷ 10 ∷ []) ∷ (53 ∷ 10 ∷ []) ∷ []
unfolding line
lines = refl
