-- The first number below n that fails a test: there is none exactly where all pass (`none_bad`, `all_good`), and it
-- is e exactly where e fails and all before it pass (`first_bad_least`, `first_bad_found`).
use Rattle.std.proofs.Common.{◌≡◌, ℕ, zero, suc, ◌+◌, ◌<◌, Bool, true, false, ◌↔◌, ◌⊎◌, refl, ap, ◌∙◌, subst, inl, inr, ⊎_elim, arith}
use Rattle.std.proofs.lemmas.Bool.{and_from, and_parts, both_ways, cases_lt, false_from_ne_true}
use borrow.Author.Count.{below_more}
use mathlib.Core.Option.{Option, none, some}
use Rattle.calls.specs.Models.{each_below, or_bad, first_bad}

-- e is the first number below n that fails the test
abbrev pub Least : (ℕ → Bool) → ℕ → ℕ → Type 0
Least f n e = (e < n) × (f e ≡ false) × ((d : ℕ) → d < e → f d ≡ true)

-- where neither those before n nor n failed, and what failed where something did
or_none : (o : Option ℕ) (b : Bool) (n : ℕ) → or_bad o b n ≡ none → (o ≡ none) × (b ≡ true)
or_none none true n h = (refl, refl)
or_none none false n h = absurd cc
or_none (some d) b n h = absurd cc

or_some :
    (o : Option ℕ) (b : Bool) (n e : ℕ) → or_bad o b n ≡ some e →
    (o ≡ some e) ⊎ ((o ≡ none) × (b ≡ false) × (n ≡ e))
or_some none true n e h = absurd cc
or_some none false n e h = inr (refl, refl, cc)
or_some (some d) b n e h = inl h

module _ (f : ℕ → Bool) where
  -- one more number passes
  more : (n : ℕ) → ((k : ℕ) → k < n → f k ≡ true) → f n ≡ true → (k : ℕ) → k < n + 1 → f k ≡ true
  more n = below_more (λ (k : ℕ). f k ≡ true) n

  pub each_true : (n k : ℕ) → each_below f n ≡ true → k < n → f k ≡ true
  each_true zero k h l = absurd (omega arith)
  each_true (suc n) k h l =
      let r = and_parts (each_below f n) (f n) h in
      more n (λ d. each_true n d r.0) r.1 k (omega arith)

  pub true_each : (n : ℕ) → ((k : ℕ) → k < n → f k ≡ true) → each_below f n ≡ true
  true_each zero h = refl
  true_each (suc n) h =
      and_from (each_below f n) (f n) (true_each n (λ k l. h k (omega arith))) (h n (omega arith))

  pub each_exact : (n : ℕ) → (each_below f n ≡ true) ↔ ((k : ℕ) → k < n → f k ≡ true)
  each_exact n = (λ h k l. each_true n k h l, true_each n)

  -- one turn of a loop in which all have passed so far
  pub each_more : (n : ℕ) → each_below f n ≡ true → f n ≡ true → each_below f (n + 1) ≡ true
  each_more n h t = true_each (n + 1) (more n (λ k. each_true n k h) t)

  -- and one in which a number fails
  pub each_stop : (n k : ℕ) → k < n → f k ≡ false → each_below f n ≡ false
  each_stop n k l b = false_from_ne_true _ (λ q. both_ways (f k) b (each_true n k q l))

  pub none_bad : (n k : ℕ) → first_bad f n ≡ none → k < n → f k ≡ true
  none_bad zero k h l = absurd (omega arith)
  none_bad (suc n) k h l =
      let r = or_none (first_bad f n) (f n) n h in
      more n (λ d. none_bad n d r.0) r.1 k (omega arith)

  pub all_good : (n : ℕ) → ((k : ℕ) → k < n → f k ≡ true) → first_bad f n ≡ none
  all_good zero h = refl
  all_good (suc n) h = λ i. or_bad (all_good n (λ k l. h k (omega arith)) i) (h n (omega arith) i) n

  pub first_bad_none : (n : ℕ) → (first_bad f n ≡ none) ↔ ((k : ℕ) → k < n → f k ≡ true)
  first_bad_none n = (λ h k l. none_bad n k h l, all_good n)

  pub first_bad_least : (n e : ℕ) → first_bad f n ≡ some e → Least f n e
  first_bad_least zero e h = absurd cc
  first_bad_least (suc n) e h =
      ⊎_elim (λ q. let r = first_bad_least n e q in (omega (arith, r.0), r.1, r.2))
      (λ q. subst (Least f (suc n)) q.2 (omega arith, q.1, λ d. none_bad n d q.0))
      (or_some (first_bad f n) (f n) n e h)

  pub first_bad_found : (n e : ℕ) → Least f n e → first_bad f n ≡ some e
  first_bad_found zero e (l, b, h) = absurd (omega arith)
  first_bad_found (suc n) e (l, b, h) =
      ⊎_elim (λ l'. λ i. or_bad (first_bad_found n e (l', b, h) i) (f n) n)
      (λ m. let s : n ≡ e = omega arith in
      (λ i. or_bad (all_good n (λ k k<n. h k (omega arith)) i) ((ap f s ∙ b) i) n) ∙ ap some s)
      (cases_lt e n)

  -- one turn of a loop that has found none so far
  pub first_bad_more : (n : ℕ) → first_bad f n ≡ none → f n ≡ true → first_bad f (n + 1) ≡ none
  first_bad_more n h t = all_good (n + 1) (more n (λ k. none_bad n k h) t)

  -- and that finds one
  pub first_bad_here : (m n : ℕ) → n < m → first_bad f n ≡ none → f n ≡ false → first_bad f m ≡ some n
  first_bad_here m n l h b = first_bad_found m n (l, b, λ d l'. none_bad n d h l')
