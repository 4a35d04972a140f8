-- Reading the text of any lines gives those lines back, and lines that are read have these bytes as their text.
use Rattle.std.proofs.Common.{◌≡◌, ℕ, ◌≤◌, Bool, true, false, cond, eqb, List, [], ◌∷◌, ◌++◌, map, sym, refl, ap, ◌∙◌, append_assoc, append-nil, arith}
use mathlib.Core.Option.{none, some}
use Rattle.std.specs.List.{AllByRecursion, flat_map}
use Rattle.std.proofs.ByRecursion.{All-append, All-weaker}
use Rattle.std.proofs.lemmas.Bool.{ne_eqb, eq-eqb, eqb-true, cond-false, cond-true, and_parts, and_from}
use Rattle.meaning.specs.Text.{Line, closed, opened, name, inside, refused, numeral, word, numbers, spaced, body, text}
use Rattle.meaning.specs.Reading.{same, on_first, parts, front, by_word, from_parts, guess, ReadsBack, ReadsOnly}
use Rattle.meaning.proofs.Numerals.{Solid, solid_numeral, value_numeral, values_numerals}

-- no byte is c
abbrev pub Without : ℕ → List ℕ → Type 0
Without c bs = AllByRecursion (λ b. b ≡ c → ⊥) bs

solid_without : (c : ℕ) → c ≤ 32 → (xs : List ℕ) → Solid xs → Without c xs
solid_without c h xs p = All-weaker _ _ (λ b l e. omega arith) xs p

parts_last : (c : ℕ) (xs : List ℕ) → Without c xs → parts c xs ≡ xs ∷ []
parts_last c [] p = refl
parts_last c (x ∷ xs) p = cond-false (eqb x c) ([] ∷ parts c xs) (on_first x (parts c xs)) (ne_eqb x c p.0) ∙ ap (on_first x) (parts_last c xs p.1)

parts_first : (c : ℕ) (xs ys : List ℕ) → Without c xs → parts c (xs ++ (c ∷ ys)) ≡ xs ∷ parts c ys
parts_first c [] ys p = cond-true (eqb c c) ([] ∷ parts c ys) (on_first c (parts c ys)) (eq-eqb c c refl)
parts_first c (x ∷ xs) ys p = cond-false (eqb x c) ([] ∷ parts c (xs ++ (c ∷ ys))) (on_first x (parts c (xs ++ (c ∷ ys)))) (ne_eqb x c p.0) ∙ ap (on_first x) (parts_first c xs ys p.1)

parts_body : (w ns : List ℕ) → Solid w → parts 32 (body w ns) ≡ w ∷ map numeral ns
parts_body w [] p = ap (parts 32) (append-nil w) ∙ parts_last 32 w (solid_without 32 (omega arith) w p)
parts_body w (n ∷ ns) p = parts_first 32 w (body (numeral n) ns) (solid_without 32 (omega arith) w p) ∙ ap (λ l. w ∷ l) (parts_body (numeral n) ns (solid_numeral n))

without_spaced : (ns : List ℕ) → Without 10 (flat_map spaced ns)
without_spaced [] = tt
without_spaced (n ∷ ns) = ((λ e. omega arith), All-append _ (numeral n) (flat_map spaced ns) (solid_without 10 (omega arith) (numeral n) (solid_numeral n)) (without_spaced ns))

solid_word : (l : Line) → Solid (word l)
solid_word (closed g) = search arith
solid_word _ = search arith

without_body : (l : Line) → Without 10 (body (word l) (numbers l))
without_body l = All-append _ (word l) (flat_map spaced (numbers l)) (solid_without 10 (omega arith) (word l) (solid_word l)) (without_spaced (numbers l))

parts_text : (ls : List Line) → parts 10 (text ls) ≡ map (λ l. body (word l) (numbers l)) ls ++ ([] ∷ [])
parts_text [] = refl
parts_text (l ∷ ls) =
    ap (parts 10) (append_assoc (body (word l) (numbers l)) (10 ∷ []) (text ls))
    ∙ parts_first 10 (body (word l) (numbers l)) (text ls) (without_body l)
    ∙ ap (λ ps. body (word l) (numbers l) ∷ ps) (parts_text ls)

front_push : (ps : List (List ℕ)) (p : List ℕ) → front (ps ++ (p ∷ [])) ≡ ps
front_push [] p = refl
front_push (q ∷ []) p = refl
front_push (q ∷ r ∷ ps) p = ap (λ l. q ∷ l) (front_push (r ∷ ps) p)

line_back : (l : Line) → by_word (word l) (map numeral (numbers l)) ≡ l
line_back (closed g) = cc (value_numeral g)
line_back (opened g) = cc (value_numeral g)
line_back (name e r) = cc (value_numeral e, value_numeral r)
line_back (inside t us) = cc (value_numeral t, values_numerals us)
line_back (refused n r d) = cc (value_numeral n, value_numeral r, value_numeral d)

body_back : (l : Line) → from_parts (parts 32 (body (word l) (numbers l))) ≡ l
body_back l = ap from_parts (parts_body (word l) (numbers l) (solid_word l)) ∙ line_back l

bodies_back : (ls : List Line) → map (λ p. from_parts (parts 32 p)) (map (λ l. body (word l) (numbers l)) ls) ≡ ls
bodies_back [] = refl
bodies_back (l ∷ ls) = cc (body_back l, bodies_back ls)

guess_text : (ls : List Line) → guess (text ls) ≡ ls
guess_text ls =
    ap (λ ps. map (λ p. from_parts (parts 32 p)) (front ps)) (parts_text ls)
    ∙ ap (map (λ p. from_parts (parts 32 p))) (front_push (map (λ l. body (word l) (numbers l)) ls) [])
    ∙ bodies_back ls

same_refl : (xs : List ℕ) → same xs xs ≡ true
same_refl [] = refl
same_refl (x ∷ xs) = and_from (eqb x x) (same xs xs) (eq-eqb x x refl) (same_refl xs)

same_true : (xs ys : List ℕ) → same xs ys ≡ true → xs ≡ ys
same_true [] [] h = refl
same_true [] (y ∷ ys) h = cc
same_true (x ∷ xs) [] h = cc
same_true (x ∷ xs) (y ∷ ys) h =
    let p = and_parts (eqb x y) (same xs ys) h in
    let e = eqb-true x y p.0 in
    let f = same_true xs ys p.1 in
    cc

pub reads_back : ReadsBack
reads_back ls =
    let g = guess_text ls in
    let t : same (text (guess (text ls))) (text ls) ≡ true = ap (λ ms. same (text ms) (text ls)) g ∙ same_refl (text ls) in
    cond-true (same (text (guess (text ls))) (text ls)) (some (guess (text ls))) none t ∙ ap some g

only : (b : Bool) (ms ls : List Line) (bs : List ℕ) → same (text ms) bs ≡ b → cond b (some ms) none ≡ some ls → text ls ≡ bs
only true ms ls bs e h = let m : ms ≡ ls = cc in ap text (sym m) ∙ same_true (text ms) bs e
only false ms ls bs e h = cc

pub reads_only : ReadsOnly
reads_only bs ls h = only (same (text (guess bs)) bs) (guess bs) ls bs refl h
