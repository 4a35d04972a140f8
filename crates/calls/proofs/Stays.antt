-- The test of a row over the rows before it is the test over all rows (`row_stays`), and so is what it asks.
use Rattle.std.proofs.Common.{◌≡◌, ℕ, ◌+◌, ◌<◌, Bool, true, false, cond, ◌&&◌, eqb, ltb, leb, List, [], ◌∷◌, ◌++◌, refl, ap, ap₂, arith, ltb-true}
use lib.ListN.{get_or-append}
use Rattle.records.specs.declared.rows.TermRow.{TermRow}
use Rattle.rules.specs.Facts.{no_row}
use Rattle.rules.specs.Rules.{all_of}
use Rattle.rules.specs.Looked.{row_at}
use Rattle.calls.specs.Tests.{row_tests}
use Rattle.calls.specs.Granted.{RowStays, OpStays}
use Rattle.meaning.proofs.Drafts.{op_more}

-- each operation's tests ask for an operand's arity only after the operand is found below t (za, zb)
alike_stays :
    (za zb : Bool) (x x' y y' k : ℕ) (c d : Bool) → (za ≡ true → x ≡ x') → (zb ≡ true → y ≡ y') →
    all_of (za ∷ eqb x k ∷ zb ∷ eqb y k ∷ c ∷ d ∷ []) ≡ all_of (za ∷ eqb x' k ∷ zb ∷ eqb y' k ∷ c ∷ d ∷ [])
alike_stays false zb x x' y y' k c d hx hy = refl
alike_stays true false x x' y y' k c d hx hy = ap (λ (v : ℕ). eqb v k && false) (hx refl)
alike_stays true true x x' y y' k c d hx hy =
    ap₂ (λ (v w : ℕ). all_of (true ∷ eqb v k ∷ true ∷ eqb w k ∷ c ∷ d ∷ [])) (hx refl) (hy refl)

transp_stays :
    (za : Bool) (x x' k : ℕ) (b c d : Bool) → (za ≡ true → x ≡ x') →
    all_of (za ∷ eqb x k ∷ b ∷ c ∷ d ∷ []) ≡ all_of (za ∷ eqb x' k ∷ b ∷ c ∷ d ∷ [])
transp_stays false x x' k b c d hx = refl
transp_stays true x x' k b c d hx = ap (λ (v : ℕ). all_of (true ∷ eqb v k ∷ b ∷ c ∷ d ∷ [])) (hx refl)

prod_stays :
    (za zb : Bool) (x x' y y' k : ℕ) (c d : Bool) → (za ≡ true → x ≡ x') → (zb ≡ true → y ≡ y') →
    all_of (za ∷ zb ∷ eqb k (x + y) ∷ c ∷ d ∷ []) ≡ all_of (za ∷ zb ∷ eqb k (x' + y') ∷ c ∷ d ∷ [])
prod_stays false zb x x' y y' k c d hx hy = refl
prod_stays true false x x' y y' k c d hx hy = refl
prod_stays true true x x' y y' k c d hx hy =
    ap₂ (λ (v w : ℕ). all_of (true ∷ true ∷ eqb k (v + w) ∷ c ∷ d ∷ [])) (hx refl) (hy refl)

join_stays :
    (za zb : Bool) (x x' y y' k : ℕ) (c d : Bool) → (za ≡ true → x ≡ x') → (zb ≡ true → y ≡ y') →
    all_of (za ∷ zb ∷ ltb 0 x ∷ ltb 0 y ∷ eqb k (x + y) ∷ c ∷ d ∷ [])
    ≡ all_of (za ∷ zb ∷ ltb 0 x' ∷ ltb 0 y' ∷ eqb k (x' + y') ∷ c ∷ d ∷ [])
join_stays false zb x x' y y' k c d hx hy = refl
join_stays true false x x' y y' k c d hx hy = refl
join_stays true true x x' y y' k c d hx hy =
    ap₂ (λ (v w : ℕ). all_of (true ∷ true ∷ ltb 0 v ∷ ltb 0 w ∷ eqb k (v + w) ∷ c ∷ d ∷ [])) (hx refl)
    (hy refl)

closure_stays :
    (za : Bool) (x x' : ℕ) (k b c d : Bool) → (za ≡ true → x ≡ x') →
    all_of (za ∷ eqb x 2 ∷ k ∷ b ∷ c ∷ d ∷ []) ≡ all_of (za ∷ eqb x' 2 ∷ k ∷ b ∷ c ∷ d ∷ [])
closure_stays false x x' k b c d hx = refl
closure_stays true x x' k b c d hx = ap (λ (v : ℕ). all_of (true ∷ eqb v 2 ∷ k ∷ b ∷ c ∷ d ∷ [])) (hx refl)

-- a choice of tests stays where both do
choice_stays :
    (b : Bool) (xs xs' ys ys' : List Bool) → all_of xs ≡ all_of xs' → all_of ys ≡ all_of ys' →
    all_of (cond b xs ys) ≡ all_of (cond b xs' ys')
choice_stays true xs xs' ys ys' p q = p
choice_stays false xs xs' ys ys' p q = q

tests_stay :
    (n t x x' y y' : ℕ) (r : TermRow) (o : ℕ) → (ltb r.a t ≡ true → x ≡ x') →
    (ltb r.b t ≡ true → y ≡ y') →
    all_of (row_tests n t x y r o) ≡ all_of (row_tests n t x' y' r o)
tests_stay n t x x' y y' r o hx hy =
    let alike =
    alike_stays (ltb r.a t) (ltb r.b t) x x' y y' r.arity (eqb r.c 0) (eqb r.d 0) hx hy in
    choice_stays (eqb o 0) _ _ _ _ refl
    (choice_stays (eqb o 1) _ _ _ _ refl
    (choice_stays (eqb o 2) _ _ _ _ refl
    (choice_stays (eqb o 3) _ _ _ _ alike
    (choice_stays (eqb o 4) _ _ _ _ alike
    (choice_stays (eqb o 5) _ _ _ _ alike
    (choice_stays (eqb o 6) _ _ _ _
    (transp_stays (ltb r.a t) x x' r.arity (eqb r.b 0) (eqb r.c 0) (eqb r.d 0) hx)
    (choice_stays (eqb o 7) _ _ _ _
    (prod_stays (ltb r.a t) (ltb r.b t) x x' y y' r.arity (eqb r.c 0) (eqb r.d 0) hx hy)
    (choice_stays (eqb o 8) _ _ _ _
    (join_stays (ltb r.a t) (ltb r.b t) x x' y y' (r.arity + 2) (eqb r.c 0) (eqb r.d 0) hx hy)
    (choice_stays (eqb o 9) _ _ _ _
    (closure_stays (ltb r.a t) x x' (eqb r.arity 2) (eqb r.b 0) (eqb r.c 0) (eqb r.d 0) hx)
    refl)))))))))

pub row_stays : RowStays
row_stays rows more n t r lt =
    ap (λ (b : Bool). leb 1 r.arity && (leb r.arity 4 && b))
    (tests_stay n t
    (row_at (rows ++ more) r.a).arity (row_at rows r.a).arity
    (row_at (rows ++ more) r.b).arity (row_at rows r.b).arity
    r r.op (found r.a) (found r.b))
  where
    -- a row below t is the same
    found : (s : ℕ) → ltb s t ≡ true → (row_at (rows ++ more) s).arity ≡ (row_at rows s).arity
    found s h =
        let l : s < t = ltb-true s t h in
        ap (λ (x : TermRow). x.arity) (get_or-append rows more no_row s (omega arith))

pub op_stays : OpStays
op_stays = op_more
