-- A stream's records, one by one: the first, and those of what comes after it.
use Rattle.std.proofs.Common.{◌≡◌, ℕ, zero, suc, ◌+◌, ◌-◌, ◌<◌, ◌≤◌, Bool, true, false, cond, ltb, List, [], ◌∷◌, length, take, drop, refl, ap, ◌∙◌, arith, length-drop}
use native.Mathlib.Numerals.{unary_clauses}
use Rattle.std.proofs.lemmas.List.{take_all}
use Rattle.records.specs.Reading.{byte}
use Rattle.streams.specs.Cutting.{begins, step_size, said_size}
use Rattle.streams.specs.Cutting.{record_size, first_record, after_first, cut, records_of, due_of, later_of}

-- skipping n bytes is dropping them
pub cut_drop : (n : ℕ) (bs : List ℕ) → cut n bs ≡ records_of (drop n bs)
cut_drop zero [] = refl
cut_drop (suc n) [] = refl
cut_drop zero (b ∷ bs) = refl
cut_drop (suc n) (b ∷ bs) = cut_drop n bs

-- what is left of the list after its first n
pub rest_cut : (n : ℕ) (xs : List ℕ) → take (length xs - n) (drop n xs) ≡ drop n xs
rest_cut n xs = take_all (length xs - n) (drop n xs) (omega (arith, length-drop n xs))

-- either of two positive numbers is positive
either : (c : Bool) (x y : ℕ) → 1 ≤ x → 1 ≤ y → 1 ≤ cond c x y
either true x y p q = p
either false x y p q = q

-- a record has a byte
size_positive : (b : ℕ) (bs : List ℕ) → 1 ≤ record_size (b ∷ bs)
size_positive b bs =
    let xs : List ℕ = b ∷ bs in
    let whole : 1 ≤ length xs = omega arith in
    let step : 1 ≤ step_size xs =
    either (begins 2 83 84 xs) 9 _ (omega arith)
    (either (begins 3 77 68 xs) (3 + byte xs 2) (length xs) (omega arith) whole) in
    let said : 1 ≤ said_size xs =
    either (begins 2 83 72 xs) 7 _ (omega arith)
    (either (begins 2 76 66 xs) 6 _ (omega arith)
    (either (begins 2 84 77 xs) 8 _ (omega arith) (either (begins 2 67 78 xs) 9 _ (omega arith) step))) in
    either (ltb (said_size xs) (length xs)) (said_size xs) (length xs) said whole

-- dropping one and then the others
drop_after : (n b : ℕ) (bs : List ℕ) → 1 ≤ n → drop (n - 1) bs ≡ drop n (b ∷ bs)
drop_after zero b bs p = absurd (omega arith)
drop_after (suc n) b bs p = simp unary_clauses refl

-- the record that is due is the first of what is left, and the others are those of what comes after it
pub due_cut : (bs : List ℕ) → due_of (records_of bs) ≡ first_record bs
due_cut [] = refl
due_cut (b ∷ bs) = refl

pub later_cut : (bs : List ℕ) → later_of (records_of bs) ≡ records_of (after_first bs)
later_cut [] = refl
later_cut (b ∷ bs) =
    cut_drop (record_size (b ∷ bs) - 1) bs
    ∙ ap records_of (drop_after (record_size (b ∷ bs)) b bs (size_positive b bs))

-- what comes after the first record is shorter
pub shorter : (b : ℕ) (bs : List ℕ) → length (after_first (b ∷ bs)) < length (b ∷ bs)
shorter b bs =
    omega (arith, length-drop (record_size (b ∷ bs)) (b ∷ bs), size_positive b bs)
