-- The rules on equalities, names and labels are seen by their tests: 10, 11 and 21 to 25, one lemma each.
use Rattle.std.proofs.Common.{◌≡◌, ℕ, zero, suc, ◌<◌, true, not, ◌&&◌, ◌||◌, eqb, ltb, List, [], ◌∷◌, ◌++◌, length, get_or, take, drop, sym, refl, ap, ◌∙◌, subst, ⊎_elim, arith, length-take, ltb-true, eqb-true}
use Rattle.std.proofs.lemmas.Bool.{and_parts, or_cases}
use mathlib.Core.Option.{Option}
use borrow.Author.Tests.{not-true}
use Rattle.std.proofs.lemmas.List.{set_split, set-get_or}
use Rattle.records.specs.declared.rows.Fact.{Fact as FactRow}
use Rattle.records.specs.declared.rule.Rule.TheVariants as R
use Rattle.records.specs.Tuples.{name_at}
use Rattle.rules.specs.Facts.{fact_names}
use Rattle.rules.specs.Rules.{self_unequal, negated_by}
use Rattle.rules.specs.Looked.{row_at, label_at}
use Rattle.meaning.specs.Terms.{member, equal, same, signed, pos, neg, Arity}
use Rattle.meaning.specs.Calculus.{just, Rule, set_diseq, eq_unsat_names, eq_unsat_terms, eq_unsat_both}
use Rattle.meaning.specs.Calculus.{sym_names, sym_terms, swap_name_member, swap_name_left, swap_name_right}
use Rattle.meaning.specs.Calculus.{swap_term_member, swap_term_left, swap_term_right, label_unsat, label_same}
use Rattle.calls.specs.Reading.{tuple_of, read_form, read_fact, Plain, read_sheet, Good}
use Rattle.calls.specs.Passing.{from_none, from_one, from_twice, from_two, Found}
use Rattle.calls.proofs.Tuples.{place_is}
use Rattle.calls.proofs.Forms.{read_eq, read_same, form_in, form_eq, form_same}
use Rattle.calls.proofs.Forms.{read_not_eq, read_not_same, forms_are}
use Rattle.calls.proofs.Labels.{compared_apart, compared_alike, bears}
use Rattle.calls.proofs.Rows.{arity_of, arity_low}
use Rattle.calls.proofs.Seen.{Seen, give, fits_as}

-- a list parted at place w
parted :
    (u : List ℕ) (w a : ℕ) → w < length u → get_or u w 0 ≡ a → take w u ++ (a ∷ drop (suc w) u) ≡ u
parted u w a h e =
    ap (λ (x : ℕ). take w u ++ (x ∷ drop (suc w) u)) (sym e)
    ∙ sym (set_split u w (get_or u w 0) h)
    ∙ set-get_or u w 0

module _ (K : ℕ → Option ℕ) (P : Plain) (good : Good P) where
  -- the tuple of a fact
  abbrev tuple : FactRow → List ℕ
  tuple f = tuple_of P.rows f

  -- the arity of term t, as its row has it
  abbrev arity : ℕ → ℕ
  arity t = (row_at P.rows t).arity

  pub set_diseq_seen : Seen K P R.SetDiseq
  set_diseq_seen n o f g t w bp bq h =
      let e = read_not_same P.rows f (not-true f.positive h.1.0) (eqb-true _ _ h.0) in
      let b = fits_as P n f {h = neg (same f.term f.a)} e (bp refl) in
      give (set_diseq b.1 b.2) (from_one refl refl refl e)

  pub eq_unsat_seen : Seen K P R.EqUnsat
  eq_unsat_seen n o f g t w bp bq h =
      ⊎_elim by_one by_both (or_cases (o && self_unequal f) (negated_by f g) h.0)
    where
      by_names :
          o ≡ true → (not f.positive && (eqb f.form 2 && eqb f.a f.b)) ≡ true →
          Found K P n R.EqUnsat o f g 0 0
      by_names eo e =
          let r = and_parts (not f.positive) _ e in
          let r' = and_parts (eqb f.form 2) _ r.1 in
          let q = eqb-true f.a f.b r'.1 in
          let ef = read_not_eq P.rows f (not-true f.positive r.0) (eqb-true _ _ r'.0) in
          give eq_unsat_names (from_twice refl refl refl eo ((λ i. neg (equal f.a (q i))) ∙ ef))

      by_terms :
          o ≡ true → (not f.positive && (eqb f.form 3 && eqb f.term f.a)) ≡ true →
          Found K P n R.EqUnsat o f g 0 0
      by_terms eo e =
          let r = and_parts (not f.positive) _ e in
          let r' = and_parts (eqb f.form 3) _ r.1 in
          let q = eqb-true f.term f.a r'.1 in
          let ef = read_not_same P.rows f (not-true f.positive r.0) (eqb-true _ _ r'.0) in
          give eq_unsat_terms (from_twice refl refl refl eo ((λ i. neg (same f.term (q i))) ∙ ef))

      by_one : (o && self_unequal f) ≡ true → Found K P n R.EqUnsat o f g 0 0
      by_one e =
          let r = and_parts o (self_unequal f) e in
          ⊎_elim (by_names r.0) (by_terms r.0)
          (or_cases
          (not f.positive && (eqb f.form 2 && eqb f.a f.b))
          (not f.positive && (eqb f.form 3 && eqb f.term f.a))
          r.1)

      by_both : negated_by f g ≡ true → Found K P n R.EqUnsat o f g 0 0
      by_both e =
          let r = and_parts f.positive _ e in
          let r' = and_parts (not g.positive) _ r.1 in
          let sp = sym r.0 in
          let sq = sym (not-true g.positive r'.0) in
          let q = forms_are P.rows f g r'.1 in
          give (eq_unsat_both {f = read_form P.rows f})
          (from_two refl refl (λ i. signed (sp i) (read_form P.rows f)) (λ i. signed (sq i) (q i)))

  pub sym_seen : Seen K P R.Sym
  sym_seen n o f g t w bp bq h =
      ⊎_elim
      (λ e. give sym_names (from_one refl refl refl (form_eq P.rows f (eqb-true _ _ e))))
      (λ e. give sym_terms (from_one refl refl refl (form_same P.rows f (eqb-true _ _ e))))
      (or_cases (eqb f.form 2) (eqb f.form 3) h.0)

  pub swap_name_seen : Seen K P R.SwapName
  swap_name_seen n o f g t w bp bq h =
      ⊎_elim in_member in_equal
      (or_cases (eqb f.form 1 && ltb w (arity f.term)) (eqb f.form 2 && ltb w 2) h.1.0)
    where
      eq : pos (equal g.a g.b) ≡ read_fact P.rows g
      eq = read_eq P.rows g h.0

      there : name_at w (fact_names f) ≡ g.a
      there = eqb-true _ _ h.1.1.0

      in_member : (eqb f.form 1 && ltb w (arity f.term)) ≡ true → Found K P n R.SwapName o f g 0 w
      in_member e =
          let r = and_parts (eqb f.form 1) _ e in
          let ef = form_in P.rows f (eqb-true _ _ r.0) in
          let u = tuple f in
          let ar : Arity (read_sheet P).rows f.term (length u) =
          (fits_as P n f {h = signed f.positive (member u f.term)} ef (bp refl)).0 in
          let k : arity f.term ≡ length u = arity_of P ar in
          let l = arity_low P good ar in
          let lt : w < arity f.term = ltb-true _ _ r.1 in
          let at : get_or u w 0 ≡ g.a =
          place_is (arity f.term) w f.a f.b f.c f.d lt (omega arith) ∙ there in
          let lw : length (take w u) ≡ w = omega (arith, length-take w u) in
          let before = signed f.positive (member (take w u ++ (g.a ∷ drop (suc w) u)) f.term) in
          let after = signed f.positive (member (take w u ++ (g.b ∷ drop (suc w) u)) f.term) in
          let whole = parted u w g.a (omega arith) at in
          give
          (subst
          (λ (x : ℕ). Rule K (read_sheet P) n 22 0 x (before ∷ pos (equal g.a g.b) ∷ [])
          (just (after ∷ [])))
          lw
          (swap_name_member (take w u) (drop (suc w) u)))
          (from_two refl refl ((λ i. signed f.positive (member (whole i) f.term)) ∙ ef) eq)

      in_equal : (eqb f.form 2 && ltb w 2) ≡ true → Found K P n R.SwapName o f g 0 w
      in_equal e =
          let r = and_parts (eqb f.form 2) _ e in
          go w (ltb-true w 2 r.1) there (form_eq P.rows f (eqb-true _ _ r.0))
        where
          go :
              (w : ℕ) → w < 2 → name_at w (fact_names f) ≡ g.a →
              signed f.positive (equal f.a f.b) ≡ read_fact P.rows f →
              Found K P n R.SwapName o f g 0 w
          go zero l q ef =
              give (swap_name_left {a = g.a} {c = f.b})
              (from_two refl refl ((λ i. signed f.positive (equal (sym q i) f.b)) ∙ ef) eq)
          go (suc zero) l q ef =
              give (swap_name_right {a = g.a} {c = f.a})
              (from_two refl refl ((λ i. signed f.positive (equal f.a (sym q i))) ∙ ef) eq)
          go (suc (suc w)) l q ef = absurd (omega arith)

  pub swap_term_seen : Seen K P R.SwapTerm
  swap_term_seen n o f g t w bp bq h =
      ⊎_elim at_0 at_1
      (or_cases
      (eqb w 0 && ((eqb f.form 1 || eqb f.form 3) && eqb f.term g.term))
      (eqb w 1 && (eqb f.form 3 && eqb f.a g.term))
      h.1.0)
    where
      eq : pos (same g.term g.a) ≡ read_fact P.rows g
      eq = read_same P.rows g h.0

      at_0 :
          (eqb w 0 && ((eqb f.form 1 || eqb f.form 3) && eqb f.term g.term)) ≡ true →
          Found K P n R.SwapTerm o f g 0 w
      at_0 e =
          let r = and_parts (eqb w 0) _ e in
          let r' = and_parts (eqb f.form 1 || eqb f.form 3) _ r.1 in
          let q = eqb-true f.term g.term r'.1 in
          rw (eqb-true w 0 r.0)
          (⊎_elim
          (λ z.
          give (swap_term_member {s = g.term})
          (from_two refl refl
          ((λ i. signed f.positive (member (tuple f) (sym q i))) ∙ form_in P.rows f
          (eqb-true _ _ z))
          eq))
          (λ z.
          give (swap_term_left {s = g.term})
          (from_two refl refl
          ((λ i. signed f.positive (same (sym q i) f.a)) ∙ form_same P.rows f
          (eqb-true _ _ z))
          eq))
          (or_cases (eqb f.form 1) (eqb f.form 3) r'.0))

      at_1 : (eqb w 1 && (eqb f.form 3 && eqb f.a g.term)) ≡ true → Found K P n R.SwapTerm o f g 0 w
      at_1 e =
          let r = and_parts (eqb w 1) _ e in
          let r' = and_parts (eqb f.form 3) _ r.1 in
          let q = eqb-true f.a g.term r'.1 in
          let ef = form_same P.rows f (eqb-true _ _ r'.0) in
          rw (eqb-true w 1 r.0)
          (give (swap_term_right {s = g.term})
          (from_two refl refl ((λ i. signed f.positive (same f.term (sym q i))) ∙ ef) eq))

  pub label_unsat_seen : Seen K P R.LabelUnsat
  label_unsat_seen n o f g t w bp bq h =
      let r = compared_apart (label_at K P.codes f.a) (label_at K P.codes f.b) h.1.0 in
      let x = bears K (read_sheet P) f.a r.0 r.2 in
      let y = bears K (read_sheet P) f.b r.1 r.3 in
      give (label_unsat x y r.4) (from_one refl refl refl (read_eq P.rows f h.0))

  pub label_same_seen : Seen K P R.LabelSame
  label_same_seen n o f g t w bp bq h =
      let r = compared_alike (label_at K P.codes t) (label_at K P.codes w) h.0 in
      let x = bears K (read_sheet P) t r.0 r.1 in
      let y = bears K (read_sheet P) w r.0 r.2 in
      give (label_same x y) (from_none refl refl)
