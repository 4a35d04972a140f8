-- Every name passes its test exactly where the representatives are lawful: `lawful_exact`.
use Rattle.std.proofs.Common.{◌≡◌, ℕ, ◌<◌, ◌≤◌, Bool, true, false, not, ◌&&◌, ◌||◌, eqb, leb, ◌↔◌, List, length, sym, refl, ap, ◌∙◌, arith, eq-eqb, eqb-true, le-leb, leb-false, leb-true}
use Rattle.std.proofs.lemmas.Bool.{and_from, and_parts, not-false, not_from_true}
use mathlib.Core.Option.{Option, none, some}
use borrow.Author.Tests.{lt-leb}
use lib.ListN.{get_elem?}
use Rattle.std.proofs.lemmas.Bool.{both_ways, not-true, not_from_false, false_from_ne_true}
use Rattle.meaning.specs.Terms.{Sheet}
use Rattle.meaning.specs.Meaning.{CodeMeaning, Bears}
use Rattle.meaning.specs.Model.{rep, SameLabel, Lawful}
use Rattle.calls.specs.Models.{first_bad, value_of, label_value, same_value, same_label}
use Rattle.calls.specs.Models.{not_taken, none_lower, label_lawful, name_lawful}
use Rattle.calls.proofs.Below.{each_true, true_each, none_bad, all_good}

or_right : (a b : Bool) → (a || b) ≡ true → a ≡ false → b ≡ true
or_right true b h e = absurd cc
or_right false b h e = h

or_join : (a b : Bool) → (a ≡ false → b ≡ true) → (a || b) ≡ true
or_join true b f = refl
or_join false b f = f refl

-- equal values, if both are there
values_same : (a b : Option ℕ) → same_value a b ≡ true → (x : ℕ) × (a ≡ some x) × (b ≡ some x)
values_same none b h = absurd cc
values_same (some x) none h = absurd cc
values_same (some x) (some y) h = (x, refl, ap (λ (z : ℕ). some z) (sym (eqb-true x y h)))

same_values : (a b : Option ℕ) (x : ℕ) → a ≡ some x → b ≡ some x → same_value a b ≡ true
same_values a b x p q = (λ i. same_value (p i) (q i)) ∙ eq-eqb x x refl

module _ (K : CodeMeaning) (S : Sheet) where
  -- the value of the label is what the name bears
  bears : (e x : ℕ) → label_value K S e ≡ some x → Bears K S e x
  bears e x h = go (get_elem? S.codes e) refl h
    where
      go : (o : Option ℕ) → get_elem? S.codes e ≡ o → value_of K o ≡ some x → Bears K S e x
      go none q h = absurd cc
      go (some c) q h = (c, q, h)

  borne : (e x : ℕ) → Bears K S e x → label_value K S e ≡ some x
  borne e x b = ap (value_of K) b.1 ∙ b.2

  -- the test of two labels
  pub label_same : (d e : ℕ) → same_label K S d e ≡ true → SameLabel K S d e
  label_same d e h =
      let r = values_same (label_value K S d) (label_value K S e) h in
      (r.0, bears d r.0 r.1, bears e r.0 r.2)

  pub same_labels : (d e : ℕ) → SameLabel K S d e → same_label K S d e ≡ true
  same_labels d e s =
      same_values (label_value K S d) (label_value K S e) s.0
      (borne d s.0 s.1) (borne e s.0 s.2)

  module _ (rs : List ℕ) where
    -- the test of the names below k
    pub lower_none : (e k : ℕ) → none_lower K S rs e k ≡ true →
        (d : ℕ) → d < k → rep rs d ≡ d → ¬ (SameLabel K S d e)
    lower_none e k h d l q s =
        both_ways _ (not-true _ (each_true (not_taken K S rs e) k d h l))
        (and_from _ _ (eq-eqb (rep rs d) d q) (same_labels d e s))

    pub none_lower_is : (e k : ℕ) → ((d : ℕ) → d < k → rep rs d ≡ d → ¬ (SameLabel K S d e)) →
        none_lower K S rs e k ≡ true
    none_lower_is e k h =
        true_each (not_taken K S rs e) k
        (λ d l. not_from_false _ (false_from_ne_true _
        (λ q. let r = and_parts _ _ q in h d l (eqb-true (rep rs d) d r.0) (label_same d e r.1))))

    -- what the test of a name says
    pub record Passes (e : ℕ) : Type 0 where
      pub low : rep rs e ≤ e
      pub fixed : rep rs (rep rs e) ≡ rep rs e
      pub label : e < length S.codes → SameLabel K S e (rep rs e)
      pub lowest : e < length S.codes → rep rs e ≡ e →
          (d : ℕ) → d < e → rep rs d ≡ d → ¬ (SameLabel K S d e)

    pub passes : (e : ℕ) → name_lawful K S rs e ≡ true → Passes e
    passes e h =
        let r = and_parts (leb (rep rs e) e)
        (eqb (rep rs (rep rs e)) (rep rs e) && (leb (length S.codes) e || label_lawful K S rs e)) h in
        let f = and_parts (eqb (rep rs (rep rs e)) (rep rs e))
        (leb (length S.codes) e || label_lawful K S rs e) r.1 in
        let tested : e < length S.codes →
        (same_label K S e (rep rs e) ≡ true) × ((not (eqb (rep rs e) e) || none_lower K S rs e e) ≡ true) =
        λ l. and_parts (same_label K S e (rep rs e)) (not (eqb (rep rs e) e) || none_lower K S rs e e)
        (or_right (leb (length S.codes) e) (label_lawful K S rs e) f.1
        (lt-leb (length S.codes) e l)) in
        record {
          low = leb-true (rep rs e) e r.0;
          fixed = eqb-true (rep rs (rep rs e)) (rep rs e) f.0;
          label = λ l. label_same e (rep rs e) (tested l).0;
          lowest = λ l q. lower_none e e
              (or_right (not (eqb (rep rs e) e)) (none_lower K S rs e e) (tested l).1
              (not_from_true (eqb (rep rs e) e) (eq-eqb (rep rs e) e q)));
        }

    pub passed : (e : ℕ) → Passes e → name_lawful K S rs e ≡ true
    passed e p =
        and_from (leb (rep rs e) e) _ (le-leb (rep rs e) e p.low)
        (and_from (eqb (rep rs (rep rs e)) (rep rs e)) _ (eq-eqb (rep rs (rep rs e)) (rep rs e) p.fixed)
        (or_join (leb (length S.codes) e) (label_lawful K S rs e)
        (λ q. let l : e < length S.codes = leb-false (length S.codes) e q in
        and_from (same_label K S e (rep rs e)) _ (same_labels e (rep rs e) (p.label l))
        (or_join (not (eqb (rep rs e) e)) (none_lower K S rs e e)
        (λ n. none_lower_is e e (p.lowest l (eqb-true (rep rs e) e (not-false (eqb (rep rs e) e) n))))))))

    pub lawful_exact : (n : ℕ) → length rs ≡ n → length S.codes ≤ n →
        (first_bad (name_lawful K S rs) n ≡ none) ↔ Lawful K S n rs
    lawful_exact n len most = (from, to)
      where
        from : first_bad (name_lawful K S rs) n ≡ none → Lawful K S n rs
        from h =
            let at : (e : ℕ) → e < n → Passes e = λ e l. passes e (none_bad (name_lawful K S rs) n e h l) in
            record {
              count = len;
              low = λ e l. (at e l).low;
              fixed = λ e l. (at e l).fixed;
              label = λ e l. (at e (omega arith)).label l;
              lowest = λ d e l m p q. (at e (omega arith)).lowest m q d l p;
            }

        to : Lawful K S n rs → first_bad (name_lawful K S rs) n ≡ none
        to w =
            all_good (name_lawful K S rs) n
            (λ e l. passed e (record {
              low = w.low e l;
              fixed = w.fixed e l;
              label = λ m. w.label e m;
              lowest = λ m q d k p. w.lowest d e k m p q;
            }))
