-- The lists of lines piece by piece, and how long a line is at most.
use Rattle.std.proofs.Common.{◌≡◌, ℕ, zero, suc, ◌+◌, ◌-◌, ◌*◌, ◌^◌, ◌<◌, ◌≤◌, ltb, true, List, [], ◌∷◌, ◌++◌, map, length, get_or, take, subst, sym, ap, ◌∙◌, append-nil, inl, inr, arith, rules, length-append}
use Rattle.std.specs.List.{flat_map}
use Rattle.std.proofs.lemmas.Bool.{cases_lt, lt-ltb, le-ltb, cond-true, cond-false}
use Rattle.std.proofs.lemmas.List.{take_more, length-take-le, take-map}
use Rattle.meaning.specs.Text.{Line, opened, name, inside, numeral, word, numbers, spaced, line, text}
use Rattle.meaning.specs.Mixes.{name_lines}
use Rattle.meaning.specs.Model.{rep}
use Rattle.meaning.proofs.Numerals.{length-numeral-le}
use Rattle.rules.specs.Looked.{row_at}
use Rattle.calls.specs.Reading.{four, tuple_of}
use Rattle.calls.specs.Listing.{is_listed, fact_lines}
use Rattle.listing.specs.Lines.{shown, most_of, open_most}
use Rattle.listing.specs.declared.line.Line as code
use Rattle.records.specs.declared.rows.TermRow.{TermRow}
use Rattle.records.specs.declared.rows.Fact.{Fact}

names-append : (xs ys : List ℕ) (e : ℕ) → name_lines (xs ++ ys) e ≡ name_lines xs e ++ name_lines ys (e + length xs)
names-append [] ys e = let z : e ≡ e + 0 = omega arith in ap (name_lines ys) z
names-append (x ∷ xs) ys e =
    let z : (e + 1) + length xs ≡ e + length (x ∷ xs) = omega arith in
    ap (λ l. name e x ∷ l) (names-append xs ys (e + 1)) ∙ ap (λ k. name e x ∷ (name_lines xs (e + 1) ++ name_lines ys k)) z

-- the lines of one name more
pub names_next : (rs : List ℕ) (i : ℕ) → i < length rs → name_lines (take i rs) 0 ++ name i (get_or rs i 0) ∷ [] ≡ name_lines (take (i + 1) rs) 0
names_next rs i h =
    let z : 0 + length (take i rs) ≡ i = omega (arith, length-take-le i rs (omega arith)) in
    sym (
    ap (λ l. name_lines l 0) (take_more rs i 0 h)
    ∙ names-append (take i rs) (get_or rs i 0 ∷ []) 0
    ∙ ap (λ k. name_lines (take i rs) 0 ++ name k (get_or rs i 0) ∷ []) z
    )

-- numbers of so many digits
abbrev pub Digits : List ℕ → List ℕ → Type 0
Digits [] ks = Unit {0}
Digits (n ∷ ns) [] = ⊥
Digits (n ∷ ns) (k ∷ ks) = (0 < k) × (n < 10 ^ k) × Digits ns ks

-- how many bytes they take at most, with a blank before each
abbrev pub width : List ℕ → ℕ
width [] = 0
width (k ∷ ks) = 1 + k + width ks

spaced_most : (ns ks : List ℕ) → Digits ns ks → length (flat_map spaced ns) ≤ width ks
spaced_most [] ks h = omega arith
spaced_most (n ∷ ns) [] h = elim h [ ]
spaced_most (n ∷ ns) (k ∷ ks) h = omega (arith, length-append (numeral n) (flat_map spaced ns), length-numeral-le k n h.0 h.1, spaced_most ns ks h.2)

pub line_most : (l : Line) (ks : List ℕ) → Digits (numbers l) ks → length (text (l ∷ [])) ≤ length (word l) + (1 + width ks)
line_most l ks h =
    let ns = flat_map spaced (numbers l) in
    omega (arith, ap length (append-nil (line l)), length-append (word l ++ ns) (10 ∷ []), length-append (word l) ns, spaced_most (numbers l) ks h)

-- the same from the variant to the value
pub shown_most : (s v : code.Line) (ks : List ℕ) → s ≡ v → Digits (numbers (shown v)) ks → length (word (shown v)) + (1 + width ks) ≤ most_of v → length (text (shown s ∷ [])) ≤ most_of s
shown_most s v ks e d h = subst (λ u. length (text (shown u ∷ [])) ≤ most_of u) (sym e) (omega (arith, line_most (shown v) ks d, h))

-- the first k of them
pub digits_take : (k : ℕ) (ns ks : List ℕ) → Digits ns ks → Digits (take k ns) ks
digits_take zero ns ks h = tt
digits_take (suc k) [] ks h = tt
digits_take (suc k) (n ∷ ns) [] h = elim h [ ]
digits_take (suc k) (n ∷ ns) (j ∷ ks) h = (h.0, h.1, digits_take k ns ks h.2)

-- the first ten names have one digit
pub name_most : (e r : ℕ) → e < 64 → r < 256 → length (text (name e r ∷ [])) ≤ 11 + ((e + 1 - 10) - (e - 10))
name_most e r h k =
    elim (cases_lt e 10) [
      | inl s ↦ omega (arith, line_most (name e r) (1 ∷ 3 ∷ []) (search rules))
      | inr s ↦ omega (arith, line_most (name e r) (2 ∷ 3 ∷ []) (search rules))
    ]

-- a million has seven digits
pub open_total : (g n f : ℕ) → g < 2 ^ 32 → n ≤ 64 → f ≤ 1024 → length (text (opened g ∷ [])) + ((11 * n + (n - 10)) + 23 * f) ≤ open_most g
open_total g n f h a b =
    elim (cases_lt 1000000 g) [
      | inl s ↦ omega (arith, line_most (opened g) (10 ∷ []) (search rules), cond-true {A = ℕ} (ltb 1000000 g) 24326 24323 (lt-ltb 1000000 g s))
      | inr s ↦ omega (arith, line_most (opened g) (7 ∷ []) (search rules), cond-false {A = ℕ} (ltb 1000000 g) 24326 24323 (le-ltb 1000000 g s))
    ]

-- the line of a fact that is listed
pub fact_line : (rs : List ℕ) (rows : List TermRow) (f : Fact) → is_listed rows f ≡ true → fact_lines rs rows f ≡ inside f.term (take (row_at rows f.term).arity (four (rep rs f.a) (rep rs f.b) (rep rs f.c) (rep rs f.d))) ∷ []
fact_line rs rows f h =
    cond-true (is_listed rows f) (inside f.term (map (rep rs) (tuple_of rows f)) ∷ []) [] h
    ∙ ap (λ l. inside f.term l ∷ []) (sym (take-map (rep rs) (row_at rows f.term).arity (four f.a f.b f.c f.d)))
