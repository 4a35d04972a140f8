-- There is no first false constraint exactly where every constraint holds: `satisfies_exact`; and it is k
-- exactly where constraint k does not hold and all before it do: `first_false_least`, `first_false_found`.
use Rattle.std.proofs.Common.{◌≡◌, ℕ, zero, suc, ◌+◌, ◌<◌, Bool, true, false, cond, ◌↔◌, ◌⊎◌, List, [], ◌∷◌, length, sym, refl, ap, ◌∙◌, subst, inl, inr, ⊎_elim, arith}
use mathlib.Core.Option.{Option, none, some, some-injective}
use native.Mathlib.Decide.{ℕ_discrete}
use lib.ListN.{get_elem?}
use Rattle.std.specs.List.{AllByRecursion}
use Rattle.meaning.specs.Terms.{Fact, Sheet}
use Rattle.meaning.specs.Meaning.{Interp, SatFact, Satisfies}
use Rattle.calls.specs.Models.{is_yes, sat_dec, is_true, first_false}

yes_exact : {P : Type 0} (d : Dec P) → (is_yes d ≡ true) ↔ P
yes_exact (yes p) = (λ e. p, λ q. refl)
yes_exact (no n) = (λ e. absurd cc, λ q. absurd (n q))

no_exact : {P : Type 0} (d : Dec P) → (is_yes d ≡ false) ↔ ¬ P
no_exact (yes p) = (λ e. absurd cc, λ n. absurd (n p))
no_exact (no n) = (λ e. n, λ m. refl)

-- a test that passed, or failed with the number k, before the rest x
passed : (b : Bool) (x : Option ℕ) (k : ℕ) → cond b x (some k) ≡ none → (b ≡ true) × (x ≡ none)
passed true x k h = (refl, h)
passed false x k h = absurd cc

failed :
    (b : Bool) (x : Option ℕ) (k j : ℕ) → cond b x (some k) ≡ some j →
    ((b ≡ true) × (x ≡ some j)) ⊎ ((b ≡ false) × (k ≡ j))
failed true x k j h = inl (refl, h)
failed false x k j h = inr (refl, cc)

module _ (S : Sheet) (I : Interp ℕ) where
  -- the test of a constraint
  true_exact : (c : Fact) → (is_true S I c ≡ true) ↔ SatFact S.rows I I.name c
  true_exact c = yes_exact (sat_dec ℕ_discrete I S.rows I.name c.sign c.form)

  false_exact : (c : Fact) → (is_true S I c ≡ false) ↔ ¬ (SatFact S.rows I I.name c)
  false_exact c = no_exact (sat_dec ℕ_discrete I S.rows I.name c.sign c.form)

  all_true : (cs : List Fact) (k : ℕ) → first_false S I cs k ≡ none → AllByRecursion (SatFact S.rows I I.name) cs
  all_true [] k h = tt
  all_true (c ∷ cs) k h =
      let r = passed (is_true S I c) _ k h in ((true_exact c).0 r.0, all_true cs (k + 1) r.1)

  none_false : (cs : List Fact) (k : ℕ) → AllByRecursion (SatFact S.rows I I.name) cs →
      first_false S I cs k ≡ none
  none_false [] k h = refl
  none_false (c ∷ cs) k h =
      ap (λ (b : Bool). cond b (first_false S I cs (k + 1)) (some k)) ((true_exact c).1 h.0)
      ∙ none_false cs (k + 1) h.1

  pub all_by_place : (cs : List Fact) →
      ((i : ℕ) (c : Fact) → get_elem? cs i ≡ some c → SatFact S.rows I I.name c) →
      AllByRecursion (SatFact S.rows I I.name) cs
  all_by_place [] h = tt
  all_by_place (c ∷ cs) h = (h 0 c refl, all_by_place cs (λ i x q. h (suc i) x q))

  pub satisfies_exact : (first_false S I S.constraints 0 ≡ none) ↔ Satisfies S I
  satisfies_exact = (all_true S.constraints 0, none_false S.constraints 0)

  -- constraint k is the first false one
  pub record FirstFalse (cs : List Fact) (k : ℕ) : Type 0 where
    pub there : k < length cs
    pub broken : (c : Fact) → get_elem? cs k ≡ some c → ¬ (SatFact S.rows I I.name c)
    pub before : (i : ℕ) (c : Fact) → i < k → get_elem? cs i ≡ some c → SatFact S.rows I I.name c

  least_from : (cs : List Fact) (k j : ℕ) → first_false S I cs k ≡ some j →
      (i : ℕ) × (j ≡ k + i) × FirstFalse cs i
  least_from [] k j h = absurd cc
  least_from (c ∷ cs) k j h =
      ⊎_elim (λ q. later q.0 (least_from cs (k + 1) j q.1)) here (failed (is_true S I c) _ k j h)
    where
      before_at : (i : ℕ) → is_true S I c ≡ true → FirstFalse cs i →
          (l : ℕ) (x : Fact) → l < suc i → get_elem? (c ∷ cs) l ≡ some x → SatFact S.rows I I.name x
      before_at i e f zero x l q = subst (SatFact S.rows I I.name) (some-injective _ _ q) ((true_exact c).0 e)
      before_at i e f (suc l) x m q = f.before l x (omega arith) q

      later : is_true S I c ≡ true → (i : ℕ) × (j ≡ k + 1 + i) × FirstFalse cs i →
          (i : ℕ) × (j ≡ k + i) × FirstFalse (c ∷ cs) i
      later e r = (
        suc r.0,
        omega (arith, r.1),
        record {
          there = let m = r.2.there in omega (arith, m);
          broken = r.2.broken;
          before = before_at r.0 e r.2;
        },
      )

      here : (is_true S I c ≡ false) × (k ≡ j) → (i : ℕ) × (j ≡ k + i) × FirstFalse (c ∷ cs) i
      here q = (
        0,
        omega (arith, q.1),
        record {
          there = omega arith;
          broken = λ x p s. (false_exact c).0 q.0 (subst (SatFact S.rows I I.name) (sym (some-injective _ _ p)) s);
          before = λ i x l p. absurd (omega arith);
        },
      )

  found_from : (cs : List Fact) (k i : ℕ) → FirstFalse cs i → first_false S I cs k ≡ some (k + i)
  found_from [] k i f = absurd (let m = f.there in omega (arith, m))
  found_from (c ∷ cs) k zero f =
      ap (λ (b : Bool). cond b (first_false S I cs (k + 1)) (some k)) ((false_exact c).1 (f.broken c refl))
      ∙ ap some (let z : k ≡ k + 0 = omega arith in z)
  found_from (c ∷ cs) k (suc i) f =
      ap (λ (b : Bool). cond b (first_false S I cs (k + 1)) (some k))
      ((true_exact c).1 (f.before 0 c (omega arith) refl))
      ∙ found_from cs (k + 1) i (record {
        there = let m = f.there in omega (arith, m);
        broken = f.broken;
        before = λ l x m q. f.before (suc l) x (omega arith) q;
      })
      ∙ ap some (let z : k + 1 + i ≡ k + suc i = omega arith in z)

  pub first_false_least : (k : ℕ) → first_false S I S.constraints 0 ≡ some k →
      FirstFalse S.constraints k
  first_false_least k h =
      let r = least_from S.constraints 0 k h in
      let q : r.0 ≡ k = omega (arith, r.1) in
      subst (λ (x : ℕ). FirstFalse S.constraints x) q r.2

  pub first_false_found : (k : ℕ) → FirstFalse S.constraints k →
      first_false S I S.constraints 0 ≡ some k
  first_false_found k f =
      found_from S.constraints 0 k f ∙ ap some (let z : 0 + k ≡ k = omega arith in z)
