-- Decimal numerals: their digits step by step, their lengths, and the value of a numeral is its number.
use Rattle.std.proofs.Common.{◌≡◌, ℕ, zero, suc, ◌+◌, ◌-◌, ◌/◌, ◌%◌, ◌^◌, ◌<◌, ◌≤◌, eqb, List, [], ◌∷◌, ◌++◌, map, length, decimal, sym, refl, ap, ◌∙◌, arith}
use Rattle.std.specs.List.{AllByRecursion}
use Rattle.std.specs.Int.Digits.{digits_of, number_from_digits}
use Rattle.std.proofs.lemmas.Int.Digits.{digits_of_step, length-digits_of-le, number_digits_of}
use Rattle.std.proofs.lemmas.List.{map_push, length-map, length_push}
use Rattle.std.proofs.lemmas.Bool.{ne_eqb, cond-false}
use Rattle.std.proofs.lemmas.Fmt.{decimal_digit, decimal-digits_of}
use Rattle.meaning.specs.Text.{numeral}
use Rattle.meaning.specs.Reading.{value}

pub numeral_many : (n : ℕ) → 0 < n → numeral n ≡ map (λ d. 48 + d) (digits_of 10 n)
unfolding numeral
numeral_many n h = cond-false (eqb n 0) (48 ∷ []) (map (λ d. 48 + d) (digits_of 10 n)) (ne_eqb n 0 (λ e. omega arith))

numeral_more : (n : ℕ) → 0 < n → numeral n ≡ map (λ d. 48 + d) (digits_of 10 (n / 10)) ++ ((48 + n % 10) ∷ [])
numeral_more n h = numeral_many n h ∙ ap (map (λ d. 48 + d)) (digits_of_step 10 n (omega arith) h) ∙ map_push (λ d. 48 + d) (digits_of 10 (n / 10)) (n % 10)

pub numeral_step : (n : ℕ) → 10 ≤ n → numeral n ≡ numeral (n / 10) ++ ((48 + n % 10) ∷ [])
numeral_step n h = numeral_more n (omega arith) ∙ ap (λ ds. ds ++ ((48 + n % 10) ∷ [])) (sym (numeral_many (n / 10) (omega arith)))

pub numeral_digit : (n : ℕ) → n < 10 → numeral n ≡ (48 + n) ∷ []
unfolding numeral
numeral_digit zero h = refl
numeral_digit (suc k) h =
    let q : suc k / 10 ≡ 0 = omega arith in
    let m : suc k % 10 ≡ suc k = omega arith in
    numeral_more (suc k) (omega arith) ∙ ap (λ z. map (λ d. 48 + d) (digits_of 10 z) ++ ((48 + suc k % 10) ∷ [])) q ∙ ap (λ z. (48 + z) ∷ []) m

pub length-step : (n : ℕ) → 10 ≤ n → length (numeral n) ≡ length (numeral (n / 10)) + 1
length-step n h = ap length (numeral_step n h) ∙ length_push (numeral (n / 10)) (48 + n % 10)

pub length-digit : (n : ℕ) → n < 10 → length (numeral n) ≡ 1
length-digit n h = ap length (numeral_digit n h)

pub length-numeral-le : (k n : ℕ) → 0 < k → n < 10 ^ k → length (numeral n) ≤ k
unfolding numeral
length-numeral-le k zero p h = p
length-numeral-le k (suc n) p h = omega (arith, ap length (numeral_many (suc n) (omega arith)), length-map (digits_of 10 (suc n)) (λ d. 48 + d), length-digits_of-le 10 k (suc n) (omega arith) h)

map_back : (ds : List ℕ) → map (λ c. c - 48) (map (λ d. 48 + d) ds) ≡ ds
map_back [] = refl
map_back (d ∷ ds) = let e : (48 + d) - 48 ≡ d = omega arith in cc (map_back ds)

pub value_numeral : (n : ℕ) → value (numeral n) ≡ n
unfolding numeral
value_numeral zero = refl
value_numeral (suc n) = ap value (numeral_many (suc n) (omega arith)) ∙ ap (number_from_digits 10) (map_back (digits_of 10 (suc n))) ∙ number_digits_of 10 (suc n) (omega arith)

pub values_numerals : (ns : List ℕ) → map value (map numeral ns) ≡ ns
values_numerals [] = refl
values_numerals (n ∷ ns) = cc (value_numeral n, values_numerals ns)

-- each byte is above 32
abbrev pub Solid : List ℕ → Type 0
Solid bs = AllByRecursion (λ b. 32 < b) bs

solid_digits : (ds : List ℕ) → Solid (map (λ d. 48 + d) ds)
solid_digits [] = tt
solid_digits (d ∷ ds) = (omega arith, solid_digits ds)

pub solid_numeral : (n : ℕ) → Solid (numeral n)
unfolding numeral
solid_numeral zero = (omega arith, tt)
solid_numeral (suc n) = rw (numeral_many (suc n) (omega arith)) (solid_digits (digits_of 10 (suc n)))

-- what `{n}` writes
pub numeral_decimal : (n : ℕ) → n < 2 ^ 64 → numeral n ≡ decimal n
numeral_decimal zero h = numeral_digit zero (omega arith) ∙ sym (decimal_digit zero (omega arith))
numeral_decimal (suc n) h = numeral_many (suc n) (omega arith) ∙ sym (decimal-digits_of (suc n) (omega arith) h)
