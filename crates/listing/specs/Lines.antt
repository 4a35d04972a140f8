-- The lines that values of the code stand for, and how long each is at most.
use Rattle.std.specs.Prelude.{ℕ, cond, List, [], ◌∷◌, take, Some, None, Option, nat_lt}
use Rattle.meaning.specs.Text.{Line, closed, opened, name, inside, refused}
use Rattle.listing.specs.declared.line.Entry.{Entry}
use Rattle.listing.specs.declared.line.Line as code
use Rattle.listing.specs.declared.line.Line.TheVariants.{Closed, Opened, Name, In, Refused}

-- The line that a value of the code stands for.
abbrev pub shown : code.Line → Line
shown (Closed g) = closed g
shown (Opened g) = opened g
shown (Name e r) = name e r
shown (In e) = inside e.term (take e.arity (e.tuple.a ∷ e.tuple.b ∷ e.tuple.c ∷ e.tuple.d ∷ []))
shown (Refused n r d) = refused n r d

-- How many bytes always suffice for it.
abbrev pub most_of : code.Line → ℕ
most_of (Closed g) = 18
most_of (Opened g) = 16
most_of (Name e r) = 13
most_of (In e) = 23
most_of (Refused n r d) = 44

-- How many bytes always suffice for the lines of a model after g granted records: 10 names with one digit, 54
-- with two, and 1,024 facts take 10 * 11 + 54 * 12 + 1,024 * 23 = 24,310 bytes, and the first line 13 or 16.
abbrev pub open_most : ℕ → ℕ
open_most g = cond (nat_lt 1000000 g) 24326 24323

-- The line of an entry, where there is one.
abbrev pub entry_lines : Option Entry → List Line
entry_lines None = []
entry_lines (Some e) = shown (In e) ∷ []
