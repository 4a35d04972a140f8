-- The rules on terms are seen by their tests: 1 to 9 and 12 to 20, one lemma each.
use Rattle.std.proofs.Common.{◌≡◌, ℕ, ◌+◌, ◌-◌, Bool, true, false, eqb, List, [], ◌∷◌, ◌++◌, length, take, drop, sym, refl, ap, ◌∙◌, subst, inl, inr, ⊎_elim, arith, take-append-drop, length-take, eqb-true}
use Rattle.std.proofs.lemmas.Bool.{or_cases}
use mathlib.Core.Option.{Option}
use Rattle.records.specs.declared.rows.Fact.{Fact as FactRow}
use Rattle.records.specs.declared.rule.Rule.{Rule as RuleName}
use Rattle.records.specs.declared.rule.Rule.TheVariants as R
use Rattle.records.specs.Tuples.{name_at}
use Rattle.rules.specs.Facts.{is_in, fact_names}
use Rattle.records.specs.Kinds.{rule_number}
use Rattle.rules.specs.Looked.{uses, row_at}
use Rattle.meaning.specs.Terms.{Op, member, pos, names, Is, Arity, OpFits}
use Rattle.meaning.specs.Calculus.{Alt, Rule, inter_up, inter_down, union_up, union_down, diff_up, diff_down}
use Rattle.meaning.specs.Calculus.{single_up, single_down, empty_unsat, transp_up, transp_down}
use Rattle.meaning.specs.Calculus.{join_up, join_down}
use Rattle.meaning.specs.Calculus.{prod_up, prod_down, tclos_up_one, tclos_up_two, tclos_down}
use Rattle.calls.specs.Reading.{four, tuple_of, Plain, read_sheet, Good}
use Rattle.calls.specs.Passing.{from_none, from_one, from_two, Found}
use Rattle.meaning.proofs.RuleFits.{to, of, both, fit}
use Rattle.calls.proofs.Tuples.{ends, begins, two_are}
use Rattle.calls.proofs.Forms.{names_are}
use Rattle.calls.proofs.Rows.{arity_of, arity_low, full, is_op}
use Rattle.calls.proofs.Seen.{Seen, give, listed, arity_at, operand}

module _ (K : ℕ → Option ℕ) (P : Plain) (good : Good P) where
  -- the tuple of a fact
  abbrev tuple : FactRow → List ℕ
  tuple f = tuple_of P.rows f

  -- the arity of term t, as its row has it
  abbrev arity : ℕ → ℕ
  arity t = (row_at P.rows t).arity

  -- what is asked of a term that is there, and its arity
  asked :
      {t : ℕ} {o : Op} (is : Is (read_sheet P).rows t o) →
      OpFits (read_sheet P).rows (names (read_sheet P)) t is.arity o
  asked is = fit K (read_sheet P) (full P good) is

  arity_is : {t : ℕ} {o : Op} (is : Is (read_sheet P).rows t o) → Arity (read_sheet P).rows t is.arity
  arity_is is = of K (read_sheet P) (full P good) is

  -- a rule that cites one member fact, of the term s
  one_in :
      {r : RuleName} {n : ℕ} {o : Bool} {f g : FactRow} {t w s : ℕ} {alts : List Alt} →
      (uses r).p ≡ true → (uses r).q ≡ false → eqb (rule_number r) 11 ≡ false → is_in f ≡ true → s ≡ f.term →
      Rule K (read_sheet P) n (rule_number r) t w (pos (member (tuple f) s) ∷ []) alts → Found K P n r o f g t w
  one_in {f = f} {s = s} up uq ne e q rule = give rule (from_one up uq ne (listed P f (tuple f) s e refl q))

  pub inter_up_seen : Seen K P R.InterUp
  inter_up_seen n o f g t w bp bq h =
      let is = is_op P good t 4 (omega arith) h.1.1.1.0 in
      let ef : (row_at P.rows t).a ≡ f.term = eqb-true _ _ h.1.1.1.1.0 in
      let eg : (row_at P.rows t).b ≡ g.term = eqb-true _ _ h.1.1.1.1.1.0 in
      let kf = operand P _ f.term is.arity ef (asked is).0.1 in
      let kg = operand P _ g.term is.arity eg (asked is).1.1 in
      let en = names_are (fact_names f) (fact_names g) h.1.1.0 in
      let eu : tuple f ≡ tuple g =
      λ i. take ((kf ∙ sym kg) i) (four (en i).a (en i).b (en i).c (en i).d) in
      give (inter_up {u = tuple f} is)
      (from_two refl refl (listed P f (tuple f) _ h.0 refl ef) (listed P g (tuple f) _ h.1.0 eu eg))

  pub inter_down_seen : Seen K P R.InterDown
  inter_down_seen n o f g t w bp bq h =
      one_in refl refl refl h.0 refl (inter_down (is_op P good f.term 4 (omega arith) h.1.0))

  pub union_up_seen : Seen K P R.UnionUp
  union_up_seen n o f g t w bp bq h =
      let side =
      ⊎_elim (λ e. inl (sym (eqb-true _ _ e))) (λ e. inr (sym (eqb-true _ _ e)))
      (or_cases _ _ h.1.1.0) in
      one_in refl refl refl h.0 refl (union_up (is_op P good t 3 (omega arith) h.1.0) side)

  pub union_down_seen : Seen K P R.UnionDown
  union_down_seen n o f g t w bp bq h =
      one_in refl refl refl h.0 refl (union_down (is_op P good f.term 3 (omega arith) h.1.0))

  pub diff_up_seen : Seen K P R.DiffUp
  diff_up_seen n o f g t w bp bq h =
      one_in refl refl refl h.0 (eqb-true _ _ h.1.1.0)
      (diff_up (is_op P good t 5 (omega arith) h.1.0))

  pub diff_down_seen : Seen K P R.DiffDown
  diff_down_seen n o f g t w bp bq h =
      one_in refl refl refl h.0 refl (diff_down (is_op P good f.term 5 (omega arith) h.1.0))

  pub single_up_seen : Seen K P R.SingleUp
  single_up_seen n o f g t w bp bq h =
      give (single_up (is_op P good t 2 (omega arith) h.0)) (from_none refl refl)

  pub single_down_seen : Seen K P R.SingleDown
  single_down_seen n o f g t w bp bq h =
      one_in refl refl refl h.0 refl (single_down (is_op P good f.term 2 (omega arith) h.1.0))

  pub empty_seen : Seen K P R.EmptyUnsat
  empty_seen n o f g t w bp bq h =
      one_in refl refl refl h.0 refl (empty_unsat (is_op P good f.term 1 (omega arith) h.1.0))

  pub transp_up_seen : Seen K P R.TranspUp
  transp_up_seen n o f g t w bp bq h =
      one_in refl refl refl h.0 (eqb-true _ _ h.1.1.0)
      (transp_up (is_op P good t 6 (omega arith) h.1.0))

  pub transp_down_seen : Seen K P R.TranspDown
  transp_down_seen n o f g t w bp bq h =
      one_in refl refl refl h.0 refl (transp_down (is_op P good f.term 6 (omega arith) h.1.0))

  pub join_up_seen : Seen K P R.JoinUp
  join_up_seen n o f g t w bp bq h =
      let is = is_op P good t 8 (omega arith) h.1.1.0 in
      let ef : (row_at P.rows t).a ≡ f.term = eqb-true _ _ h.1.1.1.0 in
      let eg : (row_at P.rows t).b ≡ g.term = eqb-true _ _ h.1.1.1.1.0 in
      let em : name_at (arity f.term - 1) (fact_names f) ≡ g.a = eqb-true _ _ h.1.1.1.1.1.1.0 in
      let b = asked is in
      let kf : arity f.term ≡ b.0 + 1 = operand P _ f.term _ ef b.2.1 in
      let kg : arity g.term ≡ b.1 + 1 = operand P _ g.term _ eg b.3.1 in
      let l = arity_low P good b.2.1 in
      let m = name_at (arity f.term - 1) (fact_names f) in
      let a = take (arity f.term - 1) (four f.a f.b f.c f.d) in
      let c = take (arity g.term - 1) (g.b ∷ g.c ∷ g.d ∷ []) in
      let eu : a ++ (m ∷ []) ≡ tuple f =
      ends (arity f.term) f.a f.b f.c f.d (omega arith) (omega arith) in
      let ev : m ∷ c ≡ tuple g =
      ap (λ (x : ℕ). x ∷ c) em ∙ begins (arity g.term) g.a g.b g.c g.d (omega arith) in
      give (join_up a c {m = m} is)
      (from_two refl refl
      (listed P f (a ++ (m ∷ [])) _ h.0 eu ef)
      (listed P g (m ∷ c) _ h.1.0 ev eg))

  pub join_down_seen : Seen K P R.JoinDown
  join_down_seen n o f g t w bp bq h =
      let u = tuple f in
      let is = is_op P good f.term 8 (omega arith) h.1.0 in
      let b = asked is in
      let i = b.0 in
      let lu : is.arity ≡ length u =
      both K (read_sheet P) (full P good) f.term (arity_is is) (arity_at P n f h.0 (bp refl)) in
      let li : b.0 + 1 ≡ length (take i u) + 1 = omega (arith, length-take i u, b.4) in
      give (join_down (take i u) (drop i u) is (to K (read_sheet P) (full P good) li b.2.1))
      (from_one refl refl refl
      (listed P f (take i u ++ drop i u) f.term h.0 (take-append-drop i u) refl))

  pub prod_up_seen : Seen K P R.ProdUp
  prod_up_seen n o f g t w bp bq h =
      give (prod_up {u = tuple f} {v = tuple g} (is_op P good t 7 (omega arith) h.1.1.0))
      (from_two refl refl
      (listed P f (tuple f) _ h.0 refl (eqb-true _ _ h.1.1.1.0))
      (listed P g (tuple g) _ h.1.0 refl (eqb-true _ _ h.1.1.1.1.0)))

  pub prod_down_seen : Seen K P R.ProdDown
  prod_down_seen n o f g t w bp bq h =
      let u = tuple f in
      let is = is_op P good f.term 7 (omega arith) h.1.0 in
      let b = asked is in
      let i = b.0 in
      let lu : is.arity ≡ length u =
      both K (read_sheet P) (full P good) f.term (arity_is is) (arity_at P n f h.0 (bp refl)) in
      let li : b.0 ≡ length (take i u) = omega (arith, length-take i u, b.4) in
      give (prod_down (take i u) (drop i u) is (to K (read_sheet P) (full P good) li b.2.1))
      (from_one refl refl refl
      (listed P f (take i u ++ drop i u) f.term h.0 (take-append-drop i u) refl))

  pub tclos_one_seen : Seen K P R.ClosUpOne
  tclos_one_seen n o f g t w bp bq h =
      one_in refl refl refl h.0 (eqb-true _ _ h.1.1.0)
      (tclos_up_one (is_op P good t 9 (omega arith) h.1.0))

  pub tclos_two_seen : Seen K P R.ClosUpTwo
  tclos_two_seen n o f g t w bp bq h =
      let is = is_op P good f.term 9 (omega arith) h.1.1.1.0 in
      let et : f.term ≡ g.term = eqb-true _ _ h.1.1.0 in
      let em : f.b ≡ g.a = eqb-true _ _ h.1.1.1.1.0 in
      let two : arity f.term ≡ 2 = arity_of P (arity_is is) ∙ (asked is).1 in
      let two' : arity g.term ≡ 2 = subst (λ (x : ℕ). arity x ≡ 2) et two in
      let ep = two_are _ f.a f.b f.c f.d two in
      let eq = ap (λ (x : ℕ). x ∷ g.b ∷ []) em ∙ two_are _ g.a g.b g.c g.d two' in
      give (tclos_up_two {a = f.a} {b = f.b} {c = g.b} is)
      (from_two refl refl
      (listed P f (f.a ∷ f.b ∷ []) f.term h.0 ep refl)
      (listed P g (f.b ∷ g.b ∷ []) f.term h.1.0 eq et))

  pub tclos_down_seen : Seen K P R.ClosDown
  tclos_down_seen n o f g t w bp bq h =
      let is = is_op P good f.term 9 (omega arith) h.1.0 in
      let two : arity f.term ≡ 2 = arity_of P (arity_is is) ∙ (asked is).1 in
      let ep = two_are _ f.a f.b f.c f.d two in
      give (tclos_down {a = f.a} {b = f.b} is)
      (from_one refl refl refl (listed P f (f.a ∷ f.b ∷ []) f.term h.0 ep refl))
