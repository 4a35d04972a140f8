-- Lawful representatives list an interpretation, and it satisfies what holds by name: `models`; so for every meaning that agrees on which labels are the same: `agrees`.
use Rattle.std.proofs.Common.{◌≡◌, ℕ, ◌<◌, ◌≤◌, Bool, true, false, cond, T, eqb, ◌↔◌, List, [], ◌∷◌, map, length, sym, refl, ap, ◌∙◌, subst, ap₂, ⊎_elim, arith, eqb→eq}
use mathlib.Core.HLevel.{Σ_prop_path, hedberg}
use mathlib.Core.List.Memᴰ
use mathlib.Core.List.{map-map, Memᴰ as Mem}
use mathlib.Core.Option.{Option}
use native.Mathlib.Decide.{dec_lt, ℕ_discrete}
use lib.ListN.{get_elem?, length-map}
use Rattle.std.specs.List.{AllByRecursion}
use Rattle.std.proofs.lemmas.List.{get_or_past}
use Rattle.meaning.specs.Terms.{variable, Row, Form, member, Fact, Sheet, Arity, Full, FormFits}
use Rattle.meaning.specs.Meaning.{Thing, labelled, unlabelled, Interp, SatFact, Bears, Reads, Satisfies, Satisfiable}
use Rattle.meaning.specs.Calculus.{Branch, Fork, running, Run, start}
use Rattle.meaning.specs.Model.{rep, Lawful, valued, coded, thing, on_term, tuples, row_is_variable, held, Named, Listed, Alike}
use Rattle.meaning.proofs.Lookups.{past}
use Rattle.meaning.proofs.RuleFits.{one_arity}
use Rattle.meaning.proofs.Moved.{move, all_moved}
use Rattle.meaning.proofs.Sound.{run_neat, start_neat}

maps : {A B C : Type 0} (g : B → C) (h : A → B) (l : List (List A)) → map (map g) (map (map h) l) ≡ map (map (λ x. g (h x))) l
maps g h [] = refl
maps g h (u ∷ l) = ap₂ ◌∷◌ (map-map g h u) (maps g h l)

-- a tuple of a positive fact on t is as long as t's arity
module _ (rs : List Row) (n t : ℕ) (v : List ℕ) where
  at_test : (s : ℕ) (u : List ℕ) (us : List (List ℕ)) → Arity rs s (length u) → (Mem v us → Arity rs t (length v)) → (b : Bool) → (b ≡ true → s ≡ t) → Mem v (cond b (u ∷ us) us) → Arity rs t (length v)
  at_test s u us h below true e m = ⊎_elim (λ q. subst (λ (x : ℕ). Arity rs x (length v)) (e refl) (subst (λ (x : List ℕ). Arity rs s (length x)) (sym q) h)) below (Memᴰ.cases_cons m)
  at_test s u us h below false e m = below m

  on_fits : (g : Bool) (f : Form) (us : List (List ℕ)) → FormFits rs n f → (Mem v us → Arity rs t (length v)) → Mem v (on_term t g f us) → Arity rs t (length v)
  on_fits true (member u s) us h below m = at_test s u us h.0 below (eqb s t) (λ e. eqb→eq s t (subst T (sym e) tt)) m
  on_fits false (member u s) us h below m = below m
  on_fits _ _ us h below m = below m

  tuple_fits : (cs : List Fact) → AllByRecursion (λ (c : Fact). FormFits rs n c.form) cs → Mem v (tuples cs t) → Arity rs t (length v)
  tuple_fits [] h m = absurd (Memᴰ.not-nil m)
  tuple_fits (c ∷ cs) h m = on_fits c.sign c.form (tuples cs t) h.0 (tuple_fits cs h.1) m

only_held : {v : List ℕ} (b : Bool) (l : List (List ℕ)) → Mem v (cond b l []) → Mem v l
only_held true l m = m
only_held false l m = absurd (Memᴰ.not-nil m)

module _ (K : ℕ → Option ℕ) (S : Sheet) where
  thing_label : (p x : ℕ) → Bears K S p x → thing K S p ≡ labelled x
  thing_label p x b = ap (coded K p) b.1 ∙ ap (valued p) b.2

  thing_free : (p : ℕ) → length S.codes ≤ p → thing K S p ≡ unlabelled p
  thing_free p h = ap (coded K p) (past S.codes p h)

module _ (K : ℕ → Option ℕ) (S : Sheet) (n : ℕ) (rs : List ℕ) (lawful : Lawful K S n rs) where
  idem : (e : ℕ) → rep rs (rep rs e) ≡ rep rs e
  idem e = grind (arith, lawful.fixed e, lawful.low 0, lawful.count, get_or_past rs e 0, get_or_past rs 0 0)

  -- the names that represent themselves
  Rep : Type 0
  Rep = (p : ℕ) × (rep rs p ≡ p)

  self : ℕ → Rep
  unfolding Rep
  self e = (rep rs e, idem e)

  number : Rep → ℕ
  unfolding Rep
  number a = a.0

  means : Rep → Thing
  unfolding Rep
  means a = thing K S a.0

  number_inj : (a b : Rep) → number a ≡ number b → a ≡ b
  unfolding Rep number
  number_inj a b e = Σ_prop_path (λ p. hedberg ℕ_discrete (rep rs p) p) e

  -- different representatives mean different things
  apart : (p q : ℕ) → rep rs p ≡ p → rep rs q ≡ q → thing K S p ≡ thing K S q → p ≡ q
  apart p q hp hq e = go (dec_lt p (length S.codes)) (dec_lt q (length S.codes))
    where
      order : (x : ℕ) → p < length S.codes → q < length S.codes → Bears K S p x → Bears K S q x → Dec (p < q) → Dec (q < p) → p ≡ q
      order x lp lq bp bq (yes l) d = absurd (lawful.lowest p q l lq hp hq (x, bp, bq))
      order x lp lq bp bq (no k) (yes l) = absurd (lawful.lowest q p l lp hq hp (x, bq, bp))
      order x lp lq bp bq (no k) (no l) = omega arith

      go : Dec (p < length S.codes) → Dec (q < length S.codes) → p ≡ q
      go (yes lp) (yes lq) =
          let a = lawful.label p lp in
          let b = lawful.label q lq in
          let v : b.0 ≡ a.0 = cc (thing_label K S p a.0 a.1, thing_label K S q b.0 b.1) in
          order a.0 lp lq a.1 (subst (Bears K S q) v b.1) (dec_lt p q) (dec_lt q p)
      go (yes lp) (no lq) =
          let a = lawful.label p lp in cc (thing_label K S p a.0 a.1, thing_free K S q (omega arith))
      go (no lp) (yes lq) =
          let b = lawful.label q lq in cc (thing_free K S p (omega arith), thing_label K S q b.0 b.1)
      go (no lp) (no lq) = cc (thing_free K S p (omega arith), thing_free K S q (omega arith))

  means_inj : (a b : Rep) → means a ≡ means b → a ≡ b
  unfolding Rep means number
  means_inj a b e = number_inj a b (apart a.0 b.0 a.1 b.1 e)

  module _ (cs : List Fact) where
    -- over the representatives themselves
    J : Interp Rep
    J = record { name = self; rel = λ t. map (map self) (held S cs t) }

    by_name : move number J ≡ Named S rs cs
    unfolding move J number self
    by_name = λ i. record { name = rep rs; rel = λ t. maps number self (held S cs t) i }

    by_thing : move means J ≡ Listed K S rs cs
    unfolding move J means self
    by_thing = λ i. record { name = λ e. thing K S (rep rs e); rel = λ t. (maps means self (held S cs t) ∙ sym (maps (thing K S) (rep rs) (held S cs t))) i }

    -- what holds by number holds by thing, and the other way round
    by_number : AllByRecursion (SatFact S.rows J J.name) S.constraints ↔ Satisfies S (Named S rs cs)
    unfolding move
    by_number = subst (λ (I : Interp ℕ). AllByRecursion (SatFact S.rows J J.name) S.constraints ↔ Satisfies S I) by_name (all_moved number number_inj S.rows J J.name S.constraints)

    by_meaning : AllByRecursion (SatFact S.rows J J.name) S.constraints ↔ Satisfies S (Listed K S rs cs)
    unfolding move
    by_meaning = subst (λ (I : Interp Thing). AllByRecursion (SatFact S.rows J J.name) S.constraints ↔ Satisfies S I) by_thing (all_moved means means_inj S.rows J J.name S.constraints)

    pub satisfied : Satisfies S (Named S rs cs) → Satisfies S (Listed K S rs cs)
    satisfied h = by_meaning.0 (by_number.1 h)

    pub satisfied_by_name : Satisfies S (Listed K S rs cs) → Satisfies S (Named S rs cs)
    satisfied_by_name h = by_number.0 (by_meaning.1 h)

    pub read : AllByRecursion (λ (c : Fact). FormFits S.rows n c.form) cs → Reads K S (Listed K S rs cs)
    read fits = record {
      labels = λ e l. let a = lawful.label e l in (a.0, a.1, thing_label K S (rep rs e) a.0 a.2);
      sized = λ t k row u m.
          let a = Memᴰ.of_map (map (thing K S)) (map (map (rep rs)) (held S cs t)) m in
          let b = Memᴰ.of_map (map (rep rs)) (held S cs t) a.1 in
          let ar = tuple_fits S.rows n t b.0 cs fits (only_held (row_is_variable (get_elem? S.rows t)) (tuples cs t) b.1) in
          sym (ap length a.2) ∙ length-map a.0 (thing K S) ∙ sym (ap length b.2) ∙ length-map b.0 (rep rs) ∙ one_arity S.rows t ar.op variable (length b.0) k ar.row row;
    }

-- lawful representatives under which the constraints hold by name: the listed interpretation satisfies the sheet
pub models : (K : ℕ → Option ℕ) (S : Sheet) → Full S → (b : Branch) (fs : List Fork) → Run K S (start S) (running b fs) → (rs : List ℕ) → Lawful K S b.count rs → Satisfies S (Named S rs b.facts) → Reads K S (Listed K S rs b.facts) × Satisfies S (Listed K S rs b.facts)
models K S full b fs run rs lawful h =
    let n = run_neat K S full run (start_neat K S full) in
    (read K S b.count rs lawful b.facts n.0.1, satisfied K S b.count rs lawful b.facts h)

lawful_over : (K K' : ℕ → Option ℕ) (S : Sheet) → Alike K K' S → (n : ℕ) (rs : List ℕ) → Lawful K S n rs → Lawful K' S n rs
lawful_over K K' S alike n rs h = record {
  count = h.count;
  low = h.low;
  fixed = h.fixed;
  label = λ e l. (alike e (rep rs e)).0 (h.label e l);
  lowest = λ d e l m p q s. h.lowest d e l m p q ((alike d e).1 s);
}

-- and under a meaning that agrees on which labels are the same, another interpretation satisfies it
pub agrees : (K K' : ℕ → Option ℕ) (S : Sheet) → Alike K K' S → Full S → (b : Branch) (fs : List Fork) → Run K S (start S) (running b fs) → (rs : List ℕ) → Lawful K S b.count rs → Satisfies S (Named S rs b.facts) → Satisfiable K' S
agrees K K' S alike full b fs run rs lawful h =
    let n = run_neat K S full run (start_neat K S full) in
    let l = lawful_over K K' S alike b.count rs lawful in
    (Listed K' S rs b.facts, read K' S b.count rs l b.facts n.0.1, satisfied K' S b.count rs l b.facts h)
