-- A stream cut into records by their marks.
use Rattle.std.specs.Prelude.{ℕ, zero, suc, ◌+◌, ◌-◌, Bool, cond, ◌&&◌, List, [], ◌∷◌, length, take, drop, nat_le, nat_lt}
use Rattle.records.specs.Reading.{byte, marked}

-- There are n bytes or more, and the first two are these letters.
abbrev pub begins : ℕ → ℕ → ℕ → List ℕ → Bool
begins n x y bs = nat_le n (length bs) && marked x y bs

-- How long a step is by its mark: ST has 9 bytes, MD says in its third how many follow; what has neither mark
-- takes all that is left.
abbrev pub step_size : List ℕ → ℕ
step_size bs =
    cond (begins 2 83 84 bs) 9 (cond (begins 3 77 68 bs) (3 + byte bs 2) (length bs))

-- How long the first record is by its mark: SH, LB, TM and CN have fixed lengths.
abbrev pub said_size : List ℕ → ℕ
said_size bs =
    cond (begins 2 83 72 bs) 7
    (cond (begins 2 76 66 bs) 6 (cond (begins 2 84 77 bs) 8 (cond (begins 2 67 78 bs) 9 (step_size bs))))

-- How long it is: a record that is shorter than its mark says takes all that is left.
abbrev pub record_size : List ℕ → ℕ
record_size bs = cond (nat_lt (said_size bs) (length bs)) (said_size bs) (length bs)

-- The first record, and what comes after it.
abbrev pub first_record : List ℕ → List ℕ
first_record bs = take (record_size bs) bs

abbrev pub after_first : List ℕ → List ℕ
after_first bs = drop (record_size bs) bs

-- The records of what comes after the next n bytes: where none of these are left, a record begins.
abbrev pub cut : ℕ → List ℕ → List (List ℕ)
cut n [] = []
cut zero (b ∷ bs) = first_record (b ∷ bs) ∷ cut (record_size (b ∷ bs) - 1) bs
cut (suc n) (b ∷ bs) = cut n bs

-- The records of a stream.
abbrev pub records_of : List ℕ → List (List ℕ)
records_of bs = cut 0 bs

-- The record that is due, empty where the stream has ended, and those after it.
abbrev pub due_of : List (List ℕ) → List ℕ
due_of [] = []
due_of (r ∷ rs) = r

abbrev pub later_of : List (List ℕ) → List (List ℕ)
later_of [] = []
later_of (r ∷ rs) = rs
