-- A term row, or a constraint, that fits passes its tests (`row_passes`, `fact_passes`).
use Rattle.std.proofs.Common.{◌≡◌, ℕ, ◌+◌, ◌<◌, ◌≤◌, Bool, true, false, cond, eqb, ltb, leb, List, length, get_or, sym, refl, ◌∙◌, subst, ap₂, arith, ltb-false, ltb-true, lt-ltb, eq-eqb, le-leb}
use Rattle.std.proofs.lemmas.Bool.{and_from}
use Rattle.std.specs.List.{AllByRecursion}
use Rattle.std.proofs.ByRecursion.{All-get_or}
use Rattle.std.proofs.lemmas.List.{get_or_past}
use Rattle.records.specs.declared.rows.Fact.{Fact as FactRow}
use Rattle.records.specs.declared.rows.TermRow.{TermRow}
use Rattle.records.specs.Tuples as tuple
use Rattle.rules.specs.Facts.{in_fact, same_fact}
use Rattle.rules.specs.Looked.{row_at}
use Rattle.meaning.specs.Terms.{Op, variable, empty, single, union, inter, diff, transp, prod, join, closure}
use Rattle.meaning.specs.Terms.{Form, member, equal, same, names, Arity, OpFits, FormFits}
use Rattle.calls.specs.Reading.{names_of, read_row, read_form, write_form, row_of, write_op, Plain, read_sheet}
use Rattle.calls.specs.Reading.{RowFits, FactFits}
use Rattle.calls.specs.Tests.{place_ok, places, in_tests, same_tests, alike_tests, fact_ok, row_tests, row_ok}
use Rattle.calls.proofs.Truth.{all_hold}
use Rattle.calls.proofs.Rows.{arity_of, term_below}

-- place i of a tuple of names below n, of arity k
place_holds :
    (n k : ℕ) (u : List ℕ) (i : ℕ) → length u ≡ k → AllByRecursion (λ e. e < n) u → place_ok n k i (get_or u i 0) ≡ true
place_holds n k u i e h = go (ltb i k) refl
  where
    go : (b : Bool) → ltb i k ≡ b → cond b (ltb (get_or u i 0) n) (eqb (get_or u i 0) 0) ≡ true
    go true q = let l = ltb-true i k q in lt-ltb (get_or u i 0) n (All-get_or (λ e. e < n) u i 0 (omega arith) h)
    go false q = let l = ltb-false i k q in eq-eqb (get_or u i 0) 0 (get_or_past u i 0 (omega arith))

places_hold :
    (n k : ℕ) (u : List ℕ) → length u ≡ k → AllByRecursion (λ e. e < n) u → AllByRecursion (λ b. b ≡ true) (places n k (names_of u))
places_hold n k u e h = (
  place_holds n k u 0 e h,
  (
    place_holds n k u 1 e h,
    (place_holds n k u 2 e h, (place_holds n k u 3 e h, tt)),
  ),
)

-- a row has the arity that it is written with
arity_is : (k : ℕ) (o : Op) → (write_op k o).arity ≡ k
arity_is k variable = refl
arity_is k _ = refl

low_holds : (k : ℕ) (o : Op) → 1 ≤ k → leb 1 (write_op k o).arity ≡ true
low_holds k o h = le-leb 1 _ (subst (λ (x : ℕ). 1 ≤ x) (sym (arity_is k o)) h)

high_holds : (k : ℕ) (o : Op) → k ≤ 4 → leb (write_op k o).arity 4 ≡ true
high_holds k o h = le-leb _ 4 (subst (λ (x : ℕ). x ≤ 4) (sym (arity_is k o)) h)

module _ (P : Plain) where
  -- two operands of the row's arity
  alike :
      (n t k s r : ℕ) →
      ((s < t) × Arity (read_sheet P).rows s k) × ((r < t) × Arity (read_sheet P).rows r k) →
      AllByRecursion (λ b. b ≡ true)
      (alike_tests t (row_at P.rows s).arity (row_at P.rows r).arity
      (row_of 0 k (tuple.names s r 0 0)))
  alike n t k s r b = (
    lt-ltb s t b.0.0,
    (
      eq-eqb _ k (arity_of P b.0.1),
      (lt-ltb r t b.1.0, (eq-eqb _ k (arity_of P b.1.1), (refl, (refl, tt)))),
    ),
  )

  -- the tests of an operation that fits, as written
  op_holds :
      (n t k : ℕ) (o : Op) → OpFits (read_sheet P).rows n t k o →
      AllByRecursion (λ b. b ≡ true)
      (row_tests n t (row_at P.rows (write_op k o).a).arity (row_at P.rows (write_op k o).b).arity
      (write_op k o) (write_op k o).op)
  op_holds n t k variable b = (refl, (refl, (refl, (refl, tt))))
  op_holds n t k empty b = (refl, (refl, (refl, (refl, tt))))
  op_holds n t k (single v) b = places_hold n k v b.0 b.1
  op_holds n t k (union s r) b = alike n t k s r b
  op_holds n t k (inter s r) b = alike n t k s r b
  op_holds n t k (diff s r) b = alike n t k s r b
  op_holds n t k (transp s) b =
      (lt-ltb s t b.0, (eq-eqb _ k (arity_of P b.1), (refl, (refl, (refl, tt)))))
  op_holds n t k (prod s r) b =
      let x = arity_of P b.2.1 in
      let y = arity_of P b.3.1 in (
        lt-ltb s t b.2.0,
        (lt-ltb r t b.3.0, (eq-eqb k _ (b.4 ∙ sym (ap₂ ◌+◌ x y)), (refl, (refl, tt)))),
      )
  op_holds n t k (join s r) b =
      let x = arity_of P b.2.1 in
      let y = arity_of P b.3.1 in
      let e : k ≡ b.0 + b.1 = b.4 in (
        lt-ltb s t b.2.0,
        (
          lt-ltb r t b.3.0,
          (
            lt-ltb 0 _ (omega arith),
            (lt-ltb 0 _ (omega arith), (eq-eqb (k + 2) _ (omega arith), (refl, (refl, tt)))),
          ),
        ),
      )
  op_holds n t k (closure s) b = (
    lt-ltb s t b.0.0,
    (eq-eqb _ 2 (arity_of P b.0.1), (eq-eqb k 2 b.1, (refl, (refl, (refl, tt))))),
  )

  -- a term row that fits passes its tests
  pub row_passes : (t : ℕ) (r : TermRow) → RowFits P t r → row_ok P.rows (names (read_sheet P)) t r ≡ true
  row_passes t r b =
      subst (λ (x : TermRow). row_ok P.rows (names (read_sheet P)) t x ≡ true) b.written
      (and_from _ _ (low_holds r.arity (read_row r).op b.low)
      (and_from _ _ (high_holds r.arity (read_row r).op b.high)
      (all_hold _ (op_holds (names (read_sheet P)) t r.arity (read_row r).op b.fits))))

  -- a form that fits passes its tests, as written
  form_holds :
      (n : ℕ) (g : Bool) (u : Form) → FormFits (read_sheet P).rows n u → fact_ok P.rows n (write_form g u) ≡
      true
  form_holds n g (member u t) b =
      all_hold (in_tests (length P.rows) n (row_at P.rows t).arity (in_fact g (names_of u) t)) (
        lt-ltb t _ (term_below P b.0),
        places_hold n (row_at P.rows t).arity u (sym (arity_of P b.0))
            b.1,
      )
  form_holds n g (equal x y) b = and_from _ _ (lt-ltb x n b.0) (and_from _ _ (lt-ltb y n b.1) refl)
  form_holds n g (same s r) b =
      all_hold
      (same_tests (length P.rows) (row_at P.rows s).arity (row_at P.rows r).arity
      (same_fact g s r)) (
        lt-ltb s _ (term_below P b.1),
        (
          lt-ltb r _ (term_below P b.2),
          (eq-eqb _ _ (arity_of P b.1 ∙ sym (arity_of P b.2)), (refl, (refl, (refl, tt)))),
        ),
      )

  -- a fact that fits passes its tests
  pub fact_passes : (n : ℕ) (f : FactRow) → FactFits P n f → fact_ok P.rows n f ≡ true
  fact_passes n f b =
      subst (λ (x : FactRow). fact_ok P.rows n x ≡ true) b.written
      (form_holds n f.positive (read_form P.rows f) b.fits)
