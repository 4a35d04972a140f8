-- What a rule appends fits the sheet: its names are the branch's or fresh, its tuples are as long as the arity of their term: `rule_fits`.
use Rattle.std.proofs.Common.{◌≡◌, ℕ, zero, suc, ◌+◌, ◌<◌, ◌≤◌, List, [], ◌∷◌, ◌++◌, reverse, length, sym, refl, ap, ◌∙◌, subst, ⊎_elim, arith, length-append}
use mathlib.Core.List.{reverse_aux}
use mathlib.Core.Option.{Option, some-injective}
use lib.ListN.{length-reverse}
use Rattle.std.specs.List.{AllByRecursion}
use Rattle.std.proofs.ByRecursion.{All-append, All-weaker}
use Rattle.meaning.specs.Terms.{Op, single, Row, Form, member, equal, same, Fact, Sheet, names, RowIs, Is, Arity, Full, OpFits, FormFits}
use Rattle.meaning.specs.Meaning.{Bears}
use Rattle.meaning.specs.Calculus.{Alt, Rule, inter_up, inter_down, union_up, union_down, diff_up, diff_down, single_up, single_down, empty_unsat, set_diseq, eq_unsat_names, eq_unsat_terms, eq_unsat_both, transp_up, transp_down, join_up, join_down, prod_up, prod_down, tclos_up_one, tclos_up_two, tclos_down, sym_names, sym_terms, swap_name_member, swap_name_left, swap_name_right, swap_term_member, swap_term_left, swap_term_right, label_unsat, label_same, up_from, equalities}
use Rattle.meaning.proofs.Lookups.{below}
use Rattle.meaning.proofs.RuleSound.{all_parts}

pub form_up : (rs : List Row) (n m : ℕ) → n ≤ m → (f : Form) → FormFits rs n f → FormFits rs m f
form_up rs n m l (member u t) b = (b.0, All-weaker (λ i. i < n) (λ i. i < m) (λ i h. omega arith) u b.1)
form_up rs n m l (equal a c) b = (omega arith, omega arith)
form_up rs n m l (same s r) b = b

run_low : (n k m : ℕ) → n + k ≤ m → AllByRecursion (λ i. i < m) (up_from n k)
run_low n zero m h = tt
run_low n (suc k) m h = (omega arith, run_low (n + 1) k m (omega arith))

pub run_length : (n k : ℕ) → length (up_from n k) ≡ k
run_length n zero = refl
run_length n (suc k) = ap suc (run_length (n + 1) k)

reverse_low : (n : ℕ) (u v : List ℕ) → AllByRecursion (λ i. i < n) u → AllByRecursion (λ i. i < n) v → AllByRecursion (λ i. i < n) (reverse_aux u v)
reverse_low n [] v b c = c
reverse_low n (x ∷ u) v b c = reverse_low n u (x ∷ v) b.1 (b.0, c)

equalities_low : (rs : List Row) (n : ℕ) (u v : List ℕ) → AllByRecursion (λ i. i < n) u → AllByRecursion (λ i. i < n) v → AllByRecursion (λ (c : Fact). FormFits rs n c.form) (equalities u v)
equalities_low rs n [] v b c = tt
equalities_low rs n (x ∷ u) [] b c = tt
equalities_low rs n (x ∷ u) (y ∷ v) b c = ((b.0, c.0), equalities_low rs n u v b.1 c.1)

pub one_arity : (rs : List Row) (t : ℕ) (o o' : Op) (k k' : ℕ) → RowIs rs t o k → RowIs rs t o' k' → k ≡ k'
one_arity rs t o o' k k' h h' = ap (λ (r : Row). r.arity) (some-injective _ _ (sym h ∙ h'))

module _ (K : ℕ → Option ℕ) (S : Sheet) (full : Full S) where
  abbrev pub Fits : ℕ → Fact → Type 0
  Fits n c = FormFits S.rows n c.form

  abbrev pub AltsFit : ℕ → List Alt → Type 0
  AltsFit n alts = AllByRecursion (λ (a : Alt). AllByRecursion (Fits (n + a.fresh)) a.facts) alts

  pub to : {t k k' : ℕ} → k ≡ k' → Arity S.rows t k → Arity S.rows t k'
  to {t} e h = record { op = h.op; row = subst (RowIs S.rows t h.op) e h.row }

  pub of : {t : ℕ} {o : Op} → (is : Is S.rows t o) → Arity S.rows t is.arity
  of {t} {o} is = record { op = o; row = is.row }

  -- two arities of one term
  pub both : (t : ℕ) {k k' : ℕ} → Arity S.rows t k → Arity S.rows t k' → k ≡ k'
  both t {k} {k'} h h' = one_arity S.rows t h.op h'.op k k' h.row h'.row

  pub fit : {t : ℕ} {o : Op} (is : Is S.rows t o) → OpFits S.rows (names S) t is.arity o
  fit {t} {o} is = full.rows_fit t o is.arity is.row

  up : (n : ℕ) (f : Form) → FormFits S.rows n f → FormFits S.rows (n + 0) f
  up n f b = form_up S.rows n (n + 0) (omega arith) f b

  single_low : {t : ℕ} {v : List ℕ} (n : ℕ) → Is S.rows t (single v) → names S ≤ n → AllByRecursion (λ i. i < n) v
  single_low {t} {v} n is l = All-weaker (λ i. i < names S) (λ i. i < n) (λ i h. omega arith) v (fit is).1

  label_low : {a x : ℕ} (n : ℕ) → Bears K S a x → names S ≤ n → a < n
  label_low {a} n b l = let h = below S.codes a b.0 b.1 in omega arith

  pub rule_fits : {n r t w : ℕ} {ps : List Fact} {alts : List Alt} → Rule K S n r t w ps alts → names S ≤ n → AllByRecursion (Fits n) ps → AltsFit n alts
  rule_fits {n} (inter_up {u = u} {s = s} {t = t} is) l b = ((up n (member u t) (to (both s (fit is).0.1 b.0.0) (of is), b.0.1), tt), tt)
  rule_fits {n} (inter_down {u = u} {s = s} {r = r} {t = t} is) l b =
      let q = both t (of is) b.0.0 in
      ((up n (member u s) (to q (fit is).0.1, b.0.1), (up n (member u r) (to q (fit is).1.1, b.0.1), tt)), tt)
  rule_fits {n} (union_up {u = u} {s = s} {r = r} {t = t} {x = x} is h) l b =
      let H : ℕ → Type 0 = λ y. Arity S.rows y is.arity in
      let hx : Arity S.rows x is.arity = ⊎_elim (λ e. subst H (sym e) (fit is).0.1) (λ e. subst H (sym e) (fit is).1.1) h in
      ((up n (member u t) (to (both x hx b.0.0) (of is), b.0.1), tt), tt)
  rule_fits {n} (union_down {u = u} {s = s} {r = r} {t = t} is) l b =
      let q = both t (of is) b.0.0 in
      ((up n (member u s) (to q (fit is).0.1, b.0.1), tt), ((up n (member u r) (to q (fit is).1.1, b.0.1), tt), tt))
  rule_fits {n} (diff_up {u = u} {s = s} {r = r} {t = t} is) l b =
      let q = both s (fit is).0.1 b.0.0 in
      ((up n (member u r) (to q (fit is).1.1, b.0.1), tt), ((up n (member u t) (to q (of is), b.0.1), tt), tt))
  rule_fits {n} (diff_down {u = u} {s = s} {r = r} {t = t} is) l b =
      let q = both t (of is) b.0.0 in
      ((up n (member u s) (to q (fit is).0.1, b.0.1), (up n (member u r) (to q (fit is).1.1, b.0.1), tt)), tt)
  rule_fits {n} (single_up {v = v} {t = t} is) l b = ((up n (member v t) (to (sym (fit is).0) (of is), single_low n is l), tt), tt)
  rule_fits {n} (single_down {u = u} {v = v} is) l b = (All-weaker (Fits n) (Fits (n + 0)) (λ c. up n c.form) (equalities u v) (equalities_low S.rows n u v b.0.1 (single_low n is l)), tt)
  rule_fits (empty_unsat is) l b = tt
  rule_fits {n} (set_diseq {k = k} ar ar') l b =
      let h = run_low n k (n + k) (omega arith) in
      let q = sym (run_length n k) in
      let hs = to q ar in
      let hr = to q ar' in
      (((hs, h), ((hr, h), tt)), (((hs, h), ((hr, h), tt)), tt))
  rule_fits eq_unsat_names l b = tt
  rule_fits eq_unsat_terms l b = tt
  rule_fits eq_unsat_both l b = tt
  rule_fits {n} (transp_up {u = u} {s = s} {t = t} is) l b = ((up n (member (reverse u) t) (to (both s (fit is).1 b.0.0 ∙ sym (length-reverse u)) (of is), reverse_low n u [] b.0.1 tt), tt), tt)
  rule_fits {n} (transp_down {u = u} {s = s} {t = t} is) l b = ((up n (member (reverse u) s) (to (both t (of is) b.0.0 ∙ sym (length-reverse u)) (fit is).1, reverse_low n u [] b.0.1 tt), tt), tt)
  rule_fits {n} (join_up a c {m} {s = s} {r = r} {t = t} is) l b =
      let f = fit is in
      let qs : f.0 + 1 ≡ length (a ++ (m ∷ [])) = both s f.2.1 b.0.0 in
      let qr : f.1 + 1 ≡ suc (length c) = both r f.3.1 b.1.0.0 in
      let q : is.arity ≡ length (a ++ c) = omega (arith, length-append a (m ∷ []), length-append a c, f.4) in
      ((up n (member (a ++ c) t) (to q (of is), All-append (λ i. i < n) a c (all_parts (λ i. i < n) a (m ∷ []) b.0.1).0 b.1.0.1.1), tt), tt)
  rule_fits {n} (join_down a c {s = s} {r = r} {t = t} is ar) l b =
      let f = fit is in
      let qs : f.0 + 1 ≡ length a + 1 = both s f.2.1 ar in
      let qt : is.arity ≡ length (a ++ c) = both t (of is) b.0.0 in
      let hs : f.0 + 1 ≡ length (a ++ (n ∷ [])) = omega (arith, length-append a (n ∷ [])) in
      let hr : f.1 + 1 ≡ suc (length c) = omega (arith, length-append a c, f.4) in
      let h = all_parts (λ i. i < n) a c b.0.1 in
      let P : ℕ → Type 0 = λ i. i < n + 1 in
      let here : n < n + 1 = omega arith in
      let ha : AllByRecursion P a = All-weaker (λ i. i < n) P (λ i q. omega arith) a h.0 in
      let hc : AllByRecursion P c = All-weaker (λ i. i < n) P (λ i q. omega arith) c h.1 in
      (((to hs f.2.1, All-append P a (n ∷ []) ha (here, tt)), ((to hr f.3.1, (here, hc)), tt)), tt)
  rule_fits {n} (prod_up {u = u} {v = v} {s = s} {r = r} {t = t} is) l b =
      let f = fit is in
      let qs : f.0 ≡ length u = both s f.2.1 b.0.0 in
      let qr : f.1 ≡ length v = both r f.3.1 b.1.0.0 in
      let q : is.arity ≡ length (u ++ v) = omega (arith, length-append u v, f.4) in
      ((up n (member (u ++ v) t) (to q (of is), All-append (λ i. i < n) u v b.0.1 b.1.0.1), tt), tt)
  rule_fits {n} (prod_down u v {s = s} {r = r} {t = t} is ar) l b =
      let f = fit is in
      let qs : f.0 ≡ length u = both s f.2.1 ar in
      let qt : is.arity ≡ length (u ++ v) = both t (of is) b.0.0 in
      let qr : f.1 ≡ length v = omega (arith, length-append u v, f.4) in
      let h = all_parts (λ i. i < n) u v b.0.1 in
      ((up n (member u s) (to qs f.2.1, h.0), (up n (member v r) (to qr f.3.1, h.1), tt)), tt)
  rule_fits {n} (tclos_up_one {u = u} {s = s} {t = t} is) l b = ((up n (member u t) (to ((fit is).1 ∙ both s (fit is).0.1 b.0.0) (of is), b.0.1), tt), tt)
  rule_fits {n} (tclos_up_two {a = a} {c = c} {t = t} is) l b = ((up n (member (a ∷ c ∷ []) t) (b.0.0, (b.0.1.0, (b.1.0.1.1.0, tt))), tt), tt)
  rule_fits {n} (tclos_down {a = a} {b = c} {s = s} {t = t} is) l b =
      let ha : a < n = b.0.1.0 in
      let hc : c < n = b.0.1.1.0 in
      let hs : Arity S.rows s 2 = (fit is).0.1 in
      let ht : Arity S.rows t 2 = b.0.0 in
      ((up n (member (a ∷ c ∷ []) s) (hs, b.0.1), tt), (((hs, (omega arith, (omega arith, tt))), ((hs, (omega arith, (omega arith, tt))), tt)), (((hs, (omega arith, (omega arith, tt))), ((ht, (omega arith, (omega arith, tt))), ((hs, (omega arith, (omega arith, tt))), ((omega arith, omega arith), tt)))), tt)))
  rule_fits {n} (sym_names {a = a} {b = c}) l b = ((up n (equal c a) (b.0.1, b.0.0), tt), tt)
  rule_fits sym_terms l b = (((b.0.0, b.0.2, b.0.1), tt), tt)
  rule_fits {n} (swap_name_member u v {a = a} {b = c} {t = t}) l b =
      let h = all_parts (λ i. i < n) u (a ∷ v) b.0.1 in
      let q : length (u ++ (a ∷ v)) ≡ length (u ++ (c ∷ v)) = omega (arith, length-append u (a ∷ v), length-append u (c ∷ v)) in
      ((up n (member (u ++ (c ∷ v)) t) (to q b.0.0, All-append (λ i. i < n) u (c ∷ v) h.0 (b.1.0.1, h.1.1)), tt), tt)
  rule_fits {n} (swap_name_left {b = c} {c = d}) l b = ((up n (equal c d) (b.1.0.1, b.0.1), tt), tt)
  rule_fits {n} (swap_name_right {b = c} {c = d}) l b = ((up n (equal d c) (b.0.0, b.1.0.1), tt), tt)
  rule_fits {n} (swap_term_member {u = u} {s = s} {r = r}) l b = ((up n (member u r) (to (both s b.1.0.1 b.0.0) b.1.0.2, b.0.1), tt), tt)
  rule_fits (swap_term_left {s = s}) l b = (((b.0.0, to (both s b.1.0.1 b.0.1) b.1.0.2, b.0.2), tt), tt)
  rule_fits (swap_term_right {s = s}) l b = (((b.0.0, b.0.1, to (both s b.1.0.1 b.0.2) b.1.0.2), tt), tt)
  rule_fits (label_unsat x y ne) l b = tt
  rule_fits {n} (label_same {a = a} {b = c} x y) l b = ((up n (equal a c) (label_low n x l, label_low n y l), tt), tt)
