-- Lines read back from bytes: the parts between line ends, and in each the parts between blanks.
use Rattle.std.specs.Prelude.{◌≡◌, ℕ, ◌-◌, Bool, true, false, cond, ◌&&◌, List, [], ◌∷◌, map, drop, codes, ◌==◌, slice_index_or}
use Rattle.std.proofs.Math.Option.{Option, none, some}
use Rattle.std.specs.Int.Digits.{number_from_digits}
use Rattle.meaning.specs.Text.{Line, closed, opened, name, inside, refused, text}

-- Two lists of bytes are the same.
abbrev pub same : List ℕ → List ℕ → Bool
same [] [] = true
same [] (y ∷ ys) = false
same (x ∷ xs) [] = false
same (x ∷ xs) (y ∷ ys) = x == y && same xs ys

-- A byte put before the first part.
abbrev pub on_first : ℕ → List (List ℕ) → List (List ℕ)
on_first b [] = (b ∷ []) ∷ []
on_first b (p ∷ ps) = (b ∷ p) ∷ ps

-- What stands between the bytes c, before the first and after the last.
abbrev pub parts : ℕ → List ℕ → List (List ℕ)
parts c [] = [] ∷ []
parts c (b ∷ bs) = cond (b == c) ([] ∷ parts c bs) (on_first b (parts c bs))

-- All but the last part.
abbrev pub front : List (List ℕ) → List (List ℕ)
front [] = []
front (p ∷ []) = []
front (p ∷ q ∷ ps) = p ∷ front (q ∷ ps)

-- The number that decimal digits are.
abbrev pub value : List ℕ → ℕ
value ds = number_from_digits 10 (map (λ c. c - 48) ds)

-- The number that part i is.
abbrev pub number_at : List (List ℕ) → ℕ → ℕ
number_at ps i = value (slice_index_or ps i [])

-- The line with the word w and the numbers ps.
abbrev pub by_word : List ℕ → List (List ℕ) → Line
by_word w ps =
    cond (same w (codes "CLOSED")) (closed (number_at ps 0))
    (cond (same w (codes "OPEN")) (opened (number_at ps 0))
    (cond (same w (codes "name")) (name (number_at ps 0) (number_at ps 1))
    (cond (same w (codes "in")) (inside (number_at ps 0) (map value (drop 1 ps)))
    (refused (number_at ps 0) (number_at ps 1) (number_at ps 2)))))

-- The line whose parts these are, if they are the parts of any.
abbrev pub from_parts : List (List ℕ) → Line
from_parts [] = refused 0 0 0
from_parts (w ∷ ps) = by_word w ps

-- The lines, if these bytes are the text of any.
abbrev pub guess : List ℕ → List Line
guess bs = map (λ p. from_parts (parts 32 p)) (front (parts 10 bs))

-- The lines whose text these bytes are, or nothing.
abbrev pub read_lines : List ℕ → Option (List Line)
read_lines bs = cond (same (text (guess bs)) bs) (some (guess bs)) none

-- Reading the text of any lines gives those lines.
abbrev pub ReadsBack : Type 0
ReadsBack = (ls : List Line) → read_lines (text ls) ≡ some ls

-- Lines that are read have these bytes as their text.
abbrev pub ReadsOnly : Type 0
ReadsOnly = (bs : List ℕ) (ls : List Line) → read_lines bs ≡ some ls → text ls ≡ bs
