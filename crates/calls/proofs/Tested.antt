-- A term row, or a constraint, that passes its tests fits (`row_fits`, `fact_fits`).
use Rattle.std.proofs.Common.{◌≡◌, ℕ, zero, suc, ◌+◌, ◌-◌, ◌<◌, ◌≤◌, Bool, true, false, cond, eqb, ltb, leb, List, [], ◌∷◌, length, take, sym, refl, ap, ◌∙◌, subst, arith, ltb-true, ne_eqb, eqb-true, leb-true}
use Rattle.std.proofs.lemmas.Bool.{and_parts}
use Rattle.std.specs.List.{AllByRecursion}
use Rattle.std.proofs.lemmas.Bool.{false≢true}
use Rattle.records.specs.declared.rows.Fact.{Fact as FactRow}
use Rattle.records.specs.declared.rows.TermRow.{TermRow}
use Rattle.records.specs.Tuples as tuple
use Rattle.rules.specs.Facts.{no_row}
use Rattle.rules.specs.Rules.{all_of}
use Rattle.rules.specs.Looked.{row_at}
use Rattle.meaning.specs.Terms.{Op, variable, empty, single, union, inter, diff, transp, prod, join, closure}
use Rattle.meaning.specs.Terms.{Form, member, equal, same, names, Before, Arity, OpFits, FormFits}
use Rattle.calls.specs.Reading.{op_of, write_op, RowFits, RowsFit, four, names_of, read_row, tuple_of, read_form}
use Rattle.calls.specs.Reading.{write_form, Plain, read_sheet, FactFits}
use Rattle.calls.specs.Tests.{places, in_tests, eq_tests, same_tests, fact_ok, row_tests, row_ok}
use Rattle.calls.proofs.Truth.{all_true}
use Rattle.calls.proofs.Lookups.{there_at}
use Rattle.calls.proofs.Forms.{form_of}
use Rattle.calls.proofs.Rows.{arity_there}

-- a tuple of arity k in four fields, the others zero
tuple_back :
    (k a b c d n : ℕ) → 1 ≤ k → k ≤ 4 → AllByRecursion (λ z. z ≡ true) (places n k (tuple.names a b c d)) →
    (names_of (take k (four a b c d)) ≡ tuple.names a b c d)
    × (length (take k (four a b c d)) ≡ k)
    × AllByRecursion (λ e. e < n) (take k (four a b c d))
tuple_back zero a b c d n l h p = absurd (omega arith)
tuple_back (suc zero) a b c d n l h p =
    let eb = sym (eqb-true b 0 p.1.0) in
    let ec = sym (eqb-true c 0 p.1.1.0) in
    let ed = sym (eqb-true d 0 p.1.1.1.0) in
    (λ i. tuple.names a (eb i) (ec i) (ed i), refl, (ltb-true a n p.0, tt))
tuple_back (suc (suc zero)) a b c d n l h p =
    let ec = sym (eqb-true c 0 p.1.1.0) in
    let ed = sym (eqb-true d 0 p.1.1.1.0) in
    (λ i. tuple.names a b (ec i) (ed i), refl, (ltb-true a n p.0, (ltb-true b n p.1.0, tt)))
tuple_back (suc (suc (suc zero))) a b c d n l h p =
    let ed = sym (eqb-true d 0 p.1.1.1.0) in (
      λ i. tuple.names a b c (ed i),
      refl,
      (ltb-true a n p.0, (ltb-true b n p.1.0, (ltb-true c n p.1.1.0, tt))),
    )
tuple_back (suc (suc (suc (suc zero)))) a b c d n l h p = (
  refl,
  refl,
  (
    ltb-true a n p.0,
    (
      ltb-true b n p.1.0,
      (ltb-true c n p.1.1.0, (ltb-true d n p.1.1.1.0, tt)),
    ),
  ),
)
tuple_back (suc (suc (suc (suc (suc k))))) a b c d n l h p = absurd (omega arith)

-- a test that fails is passed over
skip : {X : Type 0} (o k : ℕ) (x y : X) → (o ≡ k → ⊥) → cond (eqb o k) x y ≡ y
skip o k x y h = ap (λ (b : Bool). cond b x y) (ne_eqb o k h)

-- no operation has a number past 9
past_nine : (n t x y : ℕ) (r : TermRow) (o : ℕ) → 10 ≤ o → row_tests n t x y r o ≡ false ∷ []
past_nine n t x y r o h =
    skip o 0 _ _ (λ e. omega arith)
    ∙ skip o 1 _ _ (λ e. omega arith)
    ∙ skip o 2 _ _ (λ e. omega arith)
    ∙ skip o 3 _ _ (λ e. omega arith)
    ∙ skip o 4 _ _ (λ e. omega arith)
    ∙ skip o 5 _ _ (λ e. omega arith)
    ∙ skip o 6 _ _ (λ e. omega arith)
    ∙ skip o 7 _ _ (λ e. omega arith)
    ∙ skip o 8 _ _ (λ e. omega arith)
    ∙ skip o 9 _ _ (λ e. omega arith)

module _ (P : Plain) where
  -- the arity of term s, as its row has it
  abbrev arity : ℕ → ℕ
  arity s = (row_at P.rows s).arity

  -- the tests of row t by an operation's number
  abbrev Tests : ℕ → TermRow → ℕ → Type 0
  Tests t r k = AllByRecursion (λ b. b ≡ true) (row_tests (names (read_sheet P)) t (arity r.a) (arity r.b) r k)

  module _ (t : ℕ) (r : TermRow) (lt : t ≤ length P.rows) (low : 1 ≤ r.arity) (high : r.arity ≤ 4) where
    -- the row's four bytes as a list
    abbrev bytes : List ℕ
    bytes = four r.a r.b r.c r.d

    -- its operation, if that has the number k
    abbrev op_at : ℕ → Op
    op_at k = op_of k r.a r.b (take r.arity bytes)

    -- the row fits by its operation o, number k, where it is written so
    back :
        (k : ℕ) (o : Op) → r.op ≡ k → op_at k ≡ o →
        OpFits (read_sheet P).rows (names (read_sheet P)) t r.arity o → write_op r.arity o ≡ r →
        RowFits P t r
    back k o ek eo b ew =
        let e : (read_row r).op ≡ o = ap op_at ek ∙ eo in
        record {
          written = ap (write_op r.arity) e ∙ ew;
          low = low;
          high = high;
          fits = subst (OpFits (read_sheet P).rows (names (read_sheet P)) t r.arity) (sym e) b;
        }

    -- an operand below t, with its arity
    before : (s k : ℕ) → ltb s t ≡ true → arity s ≡ k → Before (read_sheet P).rows t s k
    before s k h q =
        let l : s < t = ltb-true s t h in
        (l, subst (Arity (read_sheet P).rows s) q (arity_there P s (omega arith)))

    -- two operands of the row's arity
    both :
        Tests t r 3 →
        Before (read_sheet P).rows t r.a r.arity × Before (read_sheet P).rows t r.b r.arity
    both h = (
      before r.a r.arity h.0 (eqb-true _ _ h.1.0),
      before r.b r.arity h.1.1.0 (eqb-true _ _ h.1.1.1.0),
    )

    null : (x : ℕ) → eqb x 0 ≡ true → 0 ≡ x
    null x h = sym (eqb-true x 0 h)

    -- the row with its operation known and zero in the bytes that it does not use
    is :
        (o a b c d : ℕ) → r.op ≡ o → a ≡ r.a → b ≡ r.b → c ≡ r.c → d ≡ r.d →
        ◌≡◌ {A = TermRow} (record { op = o; arity = r.arity; a = a; b = b; c = c; d = d }) r
    is o a b c d ek ea eb ec ed =
        λ i. record { op = sym ek i; arity = r.arity; a = ea i; b = eb i; c = ec i; d = ed i }

    bare :
        (o : ℕ) → r.op ≡ o → Tests t r 0 →
        record { op = o; arity = r.arity; a = 0; b = 0; c = 0; d = 0 } ≡ r
    bare o ek h =
        is o 0 0 0 0 ek (null _ h.0) (null _ h.1.0) (null _ h.1.1.0) (null _ h.1.1.1.0)

    alike :
        (o : ℕ) → r.op ≡ o → Tests t r 3 →
        record { op = o; arity = r.arity; a = r.a; b = r.b; c = 0; d = 0 } ≡ r
    alike o ek h =
        is o r.a r.b 0 0 ek refl refl (null _ h.1.1.1.1.0) (null _ h.1.1.1.1.1.0)

    by_op : (k : ℕ) → r.op ≡ k → Tests t r k → RowFits P t r
    by_op zero ek h = back 0 variable ek refl tt (bare 0 ek h)
    by_op (suc zero) ek h = back 1 empty ek refl tt (bare 1 ek h)
    by_op (suc (suc zero)) ek h =
        let m = tuple_back r.arity r.a r.b r.c r.d (names (read_sheet P)) low high h in
        let en = m.0 in
        back 2 (single (take r.arity bytes)) ek refl (m.1, m.2)
        (λ i. record {
          op = sym ek i;
          arity = r.arity;
          a = (en i).a;
          b = (en i).b;
          c = (en i).c;
          d = (en i).d;
        })
    by_op (suc (suc (suc zero))) ek h = back 3 (union r.a r.b) ek refl (both h) (alike 3 ek h)
    by_op (suc (suc (suc (suc zero)))) ek h = back 4 (inter r.a r.b) ek refl (both h) (alike 4 ek h)
    by_op (suc (suc (suc (suc (suc zero))))) ek h =
        back 5 (diff r.a r.b) ek refl (both h) (alike 5 ek h)
    by_op (suc (suc (suc (suc (suc (suc zero)))))) ek h =
        back 6 (transp r.a) ek refl
        (before r.a r.arity h.0 (eqb-true _ _ h.1.0))
        (is 6 r.a 0 0 0 ek refl (null _ h.1.1.0) (null _ h.1.1.1.0)
        (null _ h.1.1.1.1.0))
    by_op (suc (suc (suc (suc (suc (suc (suc zero))))))) ek h =
        back 7 (prod r.a r.b) ek refl (
          arity r.a,
          arity r.b,
          before r.a _ h.0 refl,
          before r.b _ h.1.0 refl,
          eqb-true _ _ h.1.1.0,
        )
        (is 7 r.a r.b 0 0 ek refl refl (null _ h.1.1.1.0) (null _ h.1.1.1.1.0))
    by_op (suc (suc (suc (suc (suc (suc (suc (suc zero)))))))) ek h =
        let x = arity r.a in
        let y = arity r.b in
        let lx : 0 < arity r.a = ltb-true _ _ h.1.1.0 in
        let ly : 0 < arity r.b = ltb-true _ _ h.1.1.1.0 in
        let sum : r.arity + 2 ≡ arity r.a + arity r.b = eqb-true _ _ h.1.1.1.1.0 in
        let ex : arity r.a ≡ arity r.a - 1 + 1 = omega arith in
        let ey : arity r.b ≡ arity r.b - 1 + 1 = omega arith in
        back 8 (join r.a r.b) ek refl (
          x - 1,
          y - 1,
          before r.a (x - 1 + 1) h.0 ex,
          before r.b (y - 1 + 1) h.1.0 ey,
          omega arith,
        )
        (is 8 r.a r.b 0 0 ek refl refl (null _ h.1.1.1.1.1.0)
        (null _ h.1.1.1.1.1.1.0))
    by_op (suc (suc (suc (suc (suc (suc (suc (suc (suc zero))))))))) ek h =
        back 9 (closure r.a) ek refl
        (before r.a 2 h.0 (eqb-true _ _ h.1.0), eqb-true _ _ h.1.1.0)
        (is 9 r.a 0 0 0 ek refl
        (null _ h.1.1.1.0) (null _ h.1.1.1.1.0) (null _ h.1.1.1.1.1.0))
    by_op (suc (suc (suc (suc (suc (suc (suc (suc (suc (suc k)))))))))) ek h =
        let o = suc (suc (suc (suc (suc (suc (suc (suc (suc (suc k))))))))) in
        let e = past_nine (names (read_sheet P)) t (arity r.a) (arity r.b) r o (omega arith) in
        absurd (false≢true (subst (AllByRecursion (λ b. b ≡ true)) e h).0)

  -- a term row that passes its tests fits
  pub row_fits :
      (t : ℕ) (r : TermRow) → t ≤ length P.rows → row_ok P.rows (names (read_sheet P)) t r ≡ true →
      RowFits P t r
  row_fits t r lt e =
      let p = and_parts (leb 1 r.arity) _ e in
      let q = and_parts (leb r.arity 4) _ p.1 in
      let tests = row_tests (names (read_sheet P)) t (arity r.a) (arity r.b) r r.op in
      by_op t r lt (leb-true _ _ p.0) (leb-true _ _ q.0) r.op refl (all_true tests q.1)

  module _ (rows_fit : RowsFit P) (n : ℕ) (f : FactRow) where
    -- the tests of the three forms
    abbrev in_list : List Bool
    in_list = in_tests (length P.rows) n (arity f.term) f

    abbrev same_list : List Bool
    same_list = same_tests (length P.rows) (arity f.term) (arity f.a) f

    -- its form, if that has the number k
    abbrev form_at : ℕ → Form
    form_at k = form_of (tuple_of P.rows f) f k

    -- the fact fits by its form u, number k, where it is written so
    form_back :
        (k : ℕ) (u : Form) → f.form ≡ k → form_at k ≡ u →
        FormFits (read_sheet P).rows n u → write_form f.positive u ≡ f → FactFits P n f
    form_back k u ek eu b ew =
        let e : read_form P.rows f ≡ u = ap form_at ek ∙ eu in
        record {
          written = ap (write_form f.positive) e ∙ ew;
          fits = subst (FormFits (read_sheet P).rows n) (sym e) b;
        }

    -- the fact with its form known and zero in the bytes that it does not use
    fact_is :
        (k t a b c d : ℕ) → f.form ≡ k → t ≡ f.term → a ≡ f.a → b ≡ f.b → c ≡ f.c → d ≡ f.d →
        ◌≡◌ {A = FactRow}
        (record { form = k; positive = f.positive; term = t; a = a; b = b; c = c; d = d }) f
    fact_is k t a b c d ek et ea eb ec ed =
        λ i.
        record {
          form = sym ek i;
          positive = f.positive;
          term = et i;
          a = ea i;
          b = eb i;
          c = ec i;
          d = ed i;
        }

    by_same : (z : Bool) → eqb f.form 3 ≡ z → cond z (all_of same_list) false ≡ true → FactFits P n f
    by_same false q e = absurd cc
    by_same true q e =
        let ek = eqb-true f.form 3 q in
        let h = all_true same_list e in
        let eb = sym (eqb-true f.b 0 h.1.1.1.0) in
        let ec = sym (eqb-true f.c 0 h.1.1.1.1.0) in
        let ed = sym (eqb-true f.d 0 h.1.1.1.1.1.0) in
        let one = sym (eqb-true (arity f.term) (arity f.a) h.1.1.0) in
        form_back 3 (same f.term f.a) ek refl (
          arity f.term,
          arity_there P f.term (ltb-true _ _ h.0),
          subst (Arity (read_sheet P).rows f.a) one (arity_there P f.a (ltb-true _ _ h.1.0)),
        )
        (fact_is 3 f.term f.a 0 0 0 ek refl refl eb ec ed)

    by_eq :
        (z : Bool) → eqb f.form 2 ≡ z →
        cond z (all_of (eq_tests n f)) (cond (eqb f.form 3) (all_of same_list) false) ≡ true →
        FactFits P n f
    by_eq false q e = by_same (eqb f.form 3) refl e
    by_eq true q e =
        let ek = eqb-true f.form 2 q in
        let h = all_true (eq_tests n f) e in
        let et = sym (eqb-true f.term 0 h.0) in
        let ec = sym (eqb-true f.c 0 h.1.1.1.0) in
        let ed = sym (eqb-true f.d 0 h.1.1.1.1.0) in
        form_back 2 (equal f.a f.b) ek refl (ltb-true _ _ h.1.0, ltb-true _ _ h.1.1.0)
        (fact_is 2 0 f.a f.b 0 0 ek et refl refl ec ed)

    by_in :
        (z : Bool) → eqb f.form 1 ≡ z →
        cond z (all_of in_list)
        (cond (eqb f.form 2) (all_of (eq_tests n f)) (cond (eqb f.form 3) (all_of same_list) false)) ≡
        true →
        FactFits P n f
    by_in false q e = by_eq (eqb f.form 2) refl e
    by_in true q e =
        let ek = eqb-true f.form 1 q in
        let h = all_true in_list e in
        let lt : f.term < length P.rows = ltb-true _ _ h.0 in
        let fit = rows_fit f.term (row_at P.rows f.term) (there_at P.rows f.term no_row lt) in
        let m = tuple_back (arity f.term) f.a f.b f.c f.d n fit.low fit.high h.1 in
        let en = m.0 in
        form_back 1 (member (tuple_of P.rows f) f.term) ek refl
        (subst (Arity (read_sheet P).rows f.term) (sym m.1) (arity_there P f.term lt), m.2)
        (fact_is 1 f.term _ _ _ _ ek refl
        (λ i. (en i).a) (λ i. (en i).b) (λ i. (en i).c) (λ i. (en i).d))

    -- a constraint that passes its tests fits
    pub fact_fits : fact_ok P.rows n f ≡ true → FactFits P n f
    fact_fits e = by_in (eqb f.form 1) refl e
