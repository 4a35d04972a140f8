-- Where a rule of the calculus applies, the tests on plain records pass with its alternatives (`complete`).
use Rattle.std.proofs.Common.{◌≡◌, ℕ, suc, ◌+◌, ◌-◌, ◌≤◌, Bool, true, false, ◌&&◌, ◌||◌, List, [], ◌∷◌, ◌++◌, map, length, sym, refl, ap, ◌∙◌, subst, ap₂, ⊎_elim, arith, length-append, lt-ltb, eq-eqb, le-leb}
use Rattle.std.proofs.lemmas.Bool.{and_from, or_left, or_right}
use mathlib.Core.Option.{Option}
use Rattle.std.specs.List.{AllByRecursion}
use Rattle.std.proofs.lemmas.List.{append-nil}
use Rattle.records.specs.declared.rows.Fact.{Fact as FactRow}
use Rattle.records.specs.declared.rows.TermRow.{TermRow}
use Rattle.records.specs.declared.rule.Rule.{Rule as RuleName}
use Rattle.records.specs.declared.rule.Rule.TheVariants as R
use Rattle.records.specs.declared.tuple.Tuple.{Tuple}
use Rattle.rules.specs.declared.cited.Cited.{Cited}
use Rattle.rules.specs.declared.cited.Alt.{Alt as AltRow}
use Rattle.records.specs.Tuples.{reversed, joined, rest_from, name_at, fresh_names, before_all}
use Rattle.rules.specs.Facts.{in_fact, one_of, two_of, equalities_of}
use Rattle.rules.specs.Rules.{line_met}
use Rattle.records.specs.Kinds.{rule_number}
use Rattle.rules.specs.Looked.{uses, untouched, row_at, labels_for}
use Rattle.meaning.specs.Terms.{Op, member, Fact, Is, Arity}
use Rattle.meaning.specs.Calculus.{Alt, up_from, equalities, Rule, inter_up, inter_down, union_up, union_down}
use Rattle.meaning.specs.Calculus.{diff_up, diff_down, single_up, single_down, empty_unsat, set_diseq}
use Rattle.meaning.specs.Calculus.{eq_unsat_names, eq_unsat_terms, eq_unsat_both, transp_up, transp_down}
use Rattle.meaning.specs.Calculus.{join_up, join_down, prod_up, prod_down, tclos_up_one, tclos_up_two}
use Rattle.meaning.specs.Calculus.{tclos_down, sym_names, sym_terms, swap_name_member, swap_name_left}
use Rattle.meaning.specs.Calculus.{swap_name_right, swap_term_member, swap_term_left, swap_term_right}
use Rattle.meaning.specs.Calculus.{label_unsat, label_same}
use Rattle.calls.specs.Reading.{names_of, write_op, write_alt, Plain, read_sheet, Good}
use Rattle.calls.specs.Passing.{cites_p, cites_q, alt_rows, Passes, first_of, second_of, Twice}
use Rattle.meaning.proofs.RuleFits.{Fits, of, both, fit}
use Rattle.calls.proofs.Truth.{eqb_self}
use Rattle.calls.proofs.Tuples.{reversed_is, joined_is, rest_is, at_is, put_is, fresh_is}
use Rattle.calls.proofs.Forms.{facts_self}
use Rattle.calls.proofs.Labels.{labels_apart, labels_alike, borne}
use Rattle.calls.proofs.Rows.{row_of, arity_of, arity_low, full}

-- one equality for each place, as the calculus has them
equalities_are :
    (u v : List ℕ) → length u ≡ length v → 1 ≤ length u → length u ≤ 4 →
    equalities_of (length u) (names_of u) (names_of v) ≡ write_alt (record { fresh = 0; facts = equalities u v })
equalities_are (x ∷ []) (a ∷ v) e l h = refl
equalities_are (x ∷ y ∷ []) (a ∷ b ∷ v) e l h = refl
equalities_are (x ∷ y ∷ z ∷ []) (a ∷ b ∷ c ∷ v) e l h = refl
equalities_are (x ∷ y ∷ z ∷ o ∷ []) (a ∷ b ∷ c ∷ d ∷ v) e l h = refl
equalities_are _ _ e l h = absurd (omega arith)

-- an alternative of one member fact
single_alt :
    (g : Bool) (t : ℕ) {u v : Tuple} → u ≡ v →
    ◌≡◌ {A = List AltRow} (one_of (in_fact g u t) ∷ []) (one_of (in_fact g v t) ∷ [])
single_alt g t e = ap (λ (x : Tuple). one_of (in_fact g x t) ∷ []) e

-- the two alternatives of terms that are not equal, by their tuple of k fresh names
abbrev apart : ℕ → Tuple → ℕ → ℕ → List AltRow
apart k z s r =
    two_of k (in_fact true z s) (in_fact false z r) ∷ two_of k (in_fact false z s) (in_fact true z r) ∷ []

-- a fact and its negation, whatever p and q are
negated : (o : Bool) {x : Bool} → x ≡ true → ((o && false) || x) ≡ true
negated true e = e
negated false e = e

module _ (K : ℕ → Option ℕ) (P : Plain) (good : Good P) where
  -- what is cited, with the rows given
  cite : RuleName → Bool → FactRow → FactRow → ℕ → ℕ → TermRow → TermRow → ℕ → Cited
  cite r o f g x y a b l =
      record {
        one = o;
        p = f;
        q = g;
        t = x;
        w = y;
        of_p = a;
        of_t = b;
        left = l;
        labels = labels_for K P.codes r f x y;
      }

  -- a rule passes where its line is met of the rows that are looked up (ea, eb, el)
  pass :
      (r : RuleName) (n : ℕ) (o : Bool) {ps : List Fact} →
      (uses r).p ≡ cites_p ps →
      (uses r).q ≡ cites_q (rule_number r) ps →
      (f g : FactRow) (t w : ℕ) {alts : List AltRow} {a b : TermRow} {l : ℕ} →
      untouched (uses r).t t ≡ true →
      untouched (uses r).w w ≡ true →
      row_at P.rows f.term ≡ a →
      row_at P.rows t ≡ b →
      (row_at P.rows (row_at P.rows f.term).a).arity ≡ l →
      line_met r (cite r o f g t w a b l) ≡ true →
      alt_rows r (cite r o f g t w a b l) n ≡ alts →
      Passes K P n (rule_number r) o ps f g t w alts
  unfolding cite
  pass r n o hp hq f g t w {alts = alts} ht hw ea eb el m e =
      let row = row_at P.rows f.term in
      let c : cite r o f g t w row (row_at P.rows t) (row_at P.rows row.a).arity ≡ cite r o f g t w
      _ _ _ =
      λ i. cite r o f g t w (ea i) (eb i) (el i) in
      record {
        rule = r;
        numbered = refl;
        p_use = hp;
        q_use = hq;
        t_use = ht;
        w_use = hw;
        met = subst (λ (x : Cited). line_met r x ≡ true) (sym c) m;
        gives = subst (λ (x : Cited). alt_rows r x n ≡ alts) (sym c) e;
      }

  -- a term that is there has one arity
  as_long :
      {t k : ℕ} {o : Op} (is : Is (read_sheet P).rows t o) → Arity (read_sheet P).rows t k → is.arity ≡ k
  as_long {t = t} is a = both K (read_sheet P) (full P good) t (of K (read_sheet P) (full P good) is) a

  -- the arity of the left operand
  left_of :
      {t s k : ℕ} {o : Op} (is : Is (read_sheet P).rows t o) → (write_op is.arity o).a ≡ s →
      Arity (read_sheet P).rows s k → (row_at P.rows (row_at P.rows t).a).arity ≡ k
  left_of is e ar =
      ap (λ (x : TermRow). (row_at P.rows x.a).arity) (row_of P good is)
      ∙ ap (λ (x : ℕ). (row_at P.rows x).arity) e
      ∙ arity_of P ar

  pub complete :
      {n r t w : ℕ} {ps : List Fact} {alts : List Alt} →
      Rule K (read_sheet P) n r t w ps alts →
      AllByRecursion (Fits K (read_sheet P) (full P good) n) ps →
      (o : Bool) → Twice r ps o →
      Passes K P n r o ps (first_of ps) (second_of r ps) t w (map write_alt alts)
  unfolding cite
  complete {n} (inter_up {t = t} is) b o h =
      pass R.InterUp n o refl refl _ _ t 0 refl refl refl (row_of P good is) refl (simp eqb_self) refl
  complete {n} (inter_down is) b o h =
      pass R.InterDown n o refl refl _ _ 0 0 refl refl (row_of P good is) refl refl refl refl
  complete {n} (union_up {s = s} {r = r} {t = t} {x = x} is e) b o h =
      pass R.UnionUp n o refl refl _ _ t 0 refl refl refl (row_of P good is) refl
      (⊎_elim (λ q. or_left _ _ (eq-eqb s x (sym q))) (λ q. or_right _ _ (eq-eqb r x (sym q)))
      e)
      refl
  complete {n} (union_down is) b o h =
      pass R.UnionDown n o refl refl _ _ 0 0 refl refl (row_of P good is) refl refl refl refl
  complete {n} (diff_up {t = t} is) b o h =
      pass R.DiffUp n o refl refl _ _ t 0 refl refl refl (row_of P good is) refl (simp eqb_self) refl
  complete {n} (diff_down is) b o h =
      pass R.DiffDown n o refl refl _ _ 0 0 refl refl (row_of P good is) refl refl refl refl
  complete {n} (single_up {t = t} is) b o h =
      pass R.SingleUp n o refl refl _ _ t 0 refl refl refl (row_of P good is) refl refl refl
  complete {n} (single_down {u = u} {v = v} {t = t} is) b o h =
      let q : is.arity ≡ length u = as_long is b.0.0 in
      let lv : length v ≡ is.arity = (fit K (read_sheet P) (full P good) is).0 in
      let l = arity_low P good b.0.0 in
      let e = equalities_are u v (omega arith) l.0 l.1 in
      pass R.SingleDown n o refl refl _ _ 0 0 refl refl (row_of P good is) refl refl refl
      (ap (λ (k : ℕ). equalities_of k (names_of u) (names_of v) ∷ []) q ∙ ap (λ (a : AltRow). a ∷ []) e)
  complete {n} (empty_unsat is) b o h =
      pass R.EmptyUnsat n o refl refl _ _ 0 0 refl refl (row_of P good is) refl refl refl refl
  complete {n} (set_diseq {s = s} {r = r} {k = k} ar ar') b o h =
      let q : (row_at P.rows s).arity ≡ k = arity_of P ar in
      let l = arity_low P good ar in
      let z : fresh_names k n ≡ names_of (up_from n k) = fresh_is k n l.0 l.1 in
      pass R.SetDiseq n o refl refl _ _ 0 0 refl refl refl refl refl refl
      (ap (λ (x : ℕ). apart x (fresh_names x n) s r) q ∙ ap (λ (x : Tuple). apart k x s r) z)
  complete {n} (eq_unsat_names {a = a}) b o h =
      pass R.EqUnsat n o refl refl _ _ 0 0 refl refl refl refl refl
      (or_left _ _ (and_from _ _ (h refl) (or_left _ _ (eqb_self a)))) refl
  complete {n} (eq_unsat_terms {s = s}) b o h =
      pass R.EqUnsat n o refl refl _ _ 0 0 refl refl refl refl refl
      (or_left _ _ (and_from _ _ (h refl) (eqb_self s))) refl
  complete {n} (eq_unsat_both {f = member u t}) b o h =
      pass R.EqUnsat n o refl refl _ _ 0 0 refl refl refl refl refl
      (negated o (facts_self true false (member u t))) refl
  complete {n} (eq_unsat_both {f = f}) b o h =
      pass R.EqUnsat n o refl refl _ _ 0 0 refl refl refl refl refl
      (negated o (facts_self true false f)) refl
  complete {n} (transp_up {u = u} {s = s} {t = t} is) b o h =
      let l = arity_low P good b.0.0 in
      let e = ap (λ (k : ℕ). reversed k (names_of u)) (arity_of P b.0.0) ∙ reversed_is u l.0 l.1 in
      pass R.TranspUp n o refl refl _ _ t 0 refl refl refl (row_of P good is) refl (simp eqb_self)
      (single_alt true t e)
  complete {n} (transp_down {u = u} {s = s} {t = t} is) b o h =
      let l = arity_low P good b.0.0 in
      let q : is.arity ≡ length u = as_long is b.0.0 in
      let e = ap (λ (k : ℕ). reversed k (names_of u)) q ∙ reversed_is u l.0 l.1 in
      pass R.TranspDown n o refl refl _ _ 0 0 refl refl (row_of P good is) refl refl refl
      (single_alt true s e)
  complete {n} (join_up a c {m} {s = s} {r = r} {t = t} is) b o h =
      let k = (row_at P.rows s).arity in
      let l = arity_low P good b.0.0 in
      let l' = arity_low P good b.1.0.0 in
      let q : (row_at P.rows s).arity ≡ length a + 1 = arity_of P b.0.0 ∙ length-append a (m ∷ []) in
      let ks : (row_at P.rows s).arity - 1 ≡ length a = omega arith in
      let la : length a ≤ 3 = omega (arith, length-append a (m ∷ [])) in
      let u = names_of (a ++ (m ∷ [])) in
      let e : name_at (k - 1) u ≡ m = ap (λ (i : ℕ). name_at i u) ks ∙ at_is a [] m la in
      let er : rest_from 1 (names_of (m ∷ c)) ≡ names_of c = rest_is (m ∷ []) c (omega arith) in
      let ej = ap₂ (λ (i : ℕ) (x : Tuple). joined i u x) ks er ∙ joined_is a (m ∷ []) c (omega arith) in
      pass R.JoinUp n o refl refl _ _ t 0 refl refl refl (row_of P good is) refl
      (and_from _ _ (eqb_self s)
      (and_from _ _ (eqb_self r) (and_from _ _ (le-leb 1 k (omega arith)) (eq-eqb _ m e))))
      (single_alt true t ej)
  complete {n} (join_down a c {s = s} {r = r} {t = t} is ar) b o h =
      let l = arity_low P good ar in
      let l' = arity_low P good b.0.0 in
      let ks : length a + 1 - 1 ≡ length a = omega arith in
      let u = names_of (a ++ c) in
      let ej = ap (λ (i : ℕ). joined i u (names_of (n ∷ []))) ks ∙ joined_is a c (n ∷ []) (omega arith) in
      let er = ap (λ (i : ℕ). rest_from i u) ks ∙ rest_is a c (omega (arith, length-append a c)) in
      pass R.JoinDown n o refl refl _ _ 0 0 refl refl (row_of P good is) refl (left_of is refl ar)
      (le-leb 1 (length a + 1) (omega arith))
      (ap₂ (λ (x y : Tuple). two_of 1 (in_fact true x s) (in_fact true (before_all n y) r) ∷ []) ej er)
  complete {n} (prod_up {u = u} {v = v} {s = s} {r = r} {t = t} is) b o h =
      let l = arity_low P good b.0.0 in
      let e =
      ap₂ (λ (i : ℕ) (x : List ℕ). joined i (names_of x) (names_of v)) (arity_of P b.0.0)
      (sym (append-nil u))
      ∙ joined_is u [] v l.1 in
      pass R.ProdUp n o refl refl _ _ t 0 refl refl refl (row_of P good is) refl (simp eqb_self)
      (single_alt true t e)
  complete {n} (prod_down u v {s = s} {r = r} {t = t} is ar) b o h =
      let l = arity_low P good ar in
      let l' = arity_low P good b.0.0 in
      let ej = joined_is u v [] l.1 ∙ ap names_of (append-nil u) in
      let er = rest_is u v (omega (arith, length-append u v)) in
      pass R.ProdDown n o refl refl _ _ 0 0 refl refl (row_of P good is) refl (left_of is refl ar) refl
      (ap₂ (λ (x y : Tuple). two_of 0 (in_fact true x s) (in_fact true y r) ∷ []) ej er)
  complete {n} (tclos_up_one {t = t} is) b o h =
      pass R.ClosUpOne n o refl refl _ _ t 0 refl refl refl (row_of P good is) refl (simp eqb_self) refl
  complete {n} (tclos_up_two is) b o h =
      pass R.ClosUpTwo n o refl refl _ _ 0 0 refl refl (row_of P good is) refl refl (simp eqb_self) refl
  complete {n} (tclos_down is) b o h =
      pass R.ClosDown n o refl refl _ _ 0 0 refl refl (row_of P good is) refl refl refl refl
  complete {n} sym_names b o h = pass R.Sym n o refl refl _ _ 0 0 refl refl refl refl refl refl refl
  complete {n} sym_terms b o h = pass R.Sym n o refl refl _ _ 0 0 refl refl refl refl refl refl refl
  complete {n} (swap_name_member u v {g = g} {a = a} {b = c} {t = t}) b o h =
      let l = arity_low P good b.0.0 in
      let k = (row_at P.rows t).arity in
      let q : (row_at P.rows t).arity ≡ length u + suc (length v) =
      arity_of P b.0.0 ∙ length-append u (a ∷ v) in
      let lu : length u ≤ 3 = omega (arith, length-append u (a ∷ v)) in
      pass R.SwapName n o refl refl _ _ 0 (length u) refl refl refl refl refl
      (and_from _ _ (or_left _ _ (lt-ltb (length u) k (omega arith))) (eq-eqb _ a (at_is u v a lu)))
      (single_alt g t (put_is u v a c lu))
  complete {n} swap_name_left b o h =
      pass R.SwapName n o refl refl _ _ 0 0 refl refl refl refl refl (simp eqb_self) refl
  complete {n} swap_name_right b o h =
      pass R.SwapName n o refl refl _ _ 0 1 refl refl refl refl refl (simp eqb_self) refl
  complete {n} swap_term_member b o h =
      pass R.SwapTerm n o refl refl _ _ 0 0 refl refl refl refl refl (simp eqb_self) refl
  complete {n} swap_term_left b o h =
      pass R.SwapTerm n o refl refl _ _ 0 0 refl refl refl refl refl (simp eqb_self) refl
  complete {n} swap_term_right b o h =
      pass R.SwapTerm n o refl refl _ _ 0 1 refl refl refl refl refl (simp eqb_self) refl
  complete {n} (label_unsat {a = a} {b = c} {x = x} {y = y} p q ne) b o h =
      let ha = borne K (read_sheet P) a x p in
      let hc = borne K (read_sheet P) c y q in
      pass R.LabelUnsat n o refl refl _ _ 0 0 refl refl refl refl refl
      (labels_apart K P.codes a c x y ha hc ne) refl
  complete {n} (label_same {a = a} {b = c} {x = x} p q) b o h =
      let ha = borne K (read_sheet P) a x p in
      let hc = borne K (read_sheet P) c x q in
      pass R.LabelSame n o refl refl _ _ a c refl refl refl refl refl (labels_alike K P.codes a c x ha hc)
      refl
