-- The lines that a listing or a refusal has, as data, and the bytes that they are written in.
use Rattle.std.specs.Prelude.{ℕ, ◌+◌, cond, List, [], ◌∷◌, ◌++◌, map, codes, ◌==◌}
use Rattle.std.specs.Int.Digits.{digits_of}
use Rattle.std.specs.List.{flat_map}

-- A line: the verdict with the number of records granted, a name with its representative, a tuple in a
-- variable, a refusal with its number, record and detail.
pub data Line : Type 0 where
  closed : ℕ → Line
  opened : ℕ → Line
  name : ℕ → ℕ → Line
  inside : ℕ → List ℕ → Line
  refused : ℕ → ℕ → ℕ → Line

-- The decimal digits of a number, with no leading zero.
unfoldable pub numeral : ℕ → List ℕ
numeral n = cond (n == 0) (48 ∷ []) (map (λ d. 48 + d) (digits_of 10 n))

-- The word that a line begins with.
abbrev pub word : Line → List ℕ
word (closed g) = codes "CLOSED"
word (opened g) = codes "OPEN"
word (name e r) = codes "name"
word (inside t us) = codes "in"
word (refused n r d) = codes "REFUSED"

-- The numbers after it.
abbrev pub numbers : Line → List ℕ
numbers (closed g) = g ∷ []
numbers (opened g) = g ∷ []
numbers (name e r) = e ∷ r ∷ []
numbers (inside t us) = t ∷ us
numbers (refused n r d) = n ∷ r ∷ d ∷ []

-- A number with a blank before it.
abbrev pub spaced : ℕ → List ℕ
spaced n = 32 ∷ numeral n

-- A word, and numbers with a blank before each.
abbrev pub body : List ℕ → List ℕ → List ℕ
body w ns = w ++ flat_map spaced ns

-- The same with the line end after it.
abbrev pub row : List ℕ → List ℕ → List ℕ
row w ns = body w ns ++ (10 ∷ [])

-- The bytes of a line.
abbrev pub line : Line → List ℕ
line l = row (word l) (numbers l)

-- The bytes of lines one after another.
abbrev pub text : List Line → List ℕ
text ls = flat_map line ls
