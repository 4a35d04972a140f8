-- Over values that show the terms, a constraint is satisfied exactly where it holds by representatives
-- (`satisfied_exact`), so the first false one is the same: `first_is`.
use Rattle.std.proofs.Common.{◌≡◌, ℕ, zero, suc, ◌<◌, ◌≤◌, Bool, true, false, cond, eqb, ◌↔◌, List, [], ◌∷◌, map, length, get_or, take, Some, None, Option, sym, refl, ap, ◌∙◌, subst, arith}
use mathlib.Core.Option as maybe
use lib.ListN.{length-map, get_elem?}
use Rattle.std.specs.List.{AllByRecursion}
use Rattle.std.proofs.lemmas.List.{get_or-take, length-take-le}
use Rattle.records.specs.declared.rows.Fact.{Fact}
use Rattle.rules.specs.Facts.{no_fact}
use Rattle.rules.specs.Looked.{row_at}
use Rattle.meaning.specs.Terms.{Form, member, equal, same, FormFits}
use Rattle.meaning.specs.Terms as subject
use Rattle.meaning.specs.Meaning.{Value, Holds, Sat, SatFact}
use Rattle.meaning.specs.Model.{rep}
use Rattle.calls.specs.Reading.{Plain, tuple_of, read_form, read_fact, read_sheet, FactFits}
use Rattle.calls.specs.Models.{first_false}
use Rattle.calls.proofs.Lookups.{unmap, got, there_at, all_at}
use Rattle.calls.proofs.Rows.{arity_of, term_below}
use Rattle.calls.proofs.Satisfied.{satisfies_exact, FirstFalse, first_false_found}
use Rattle.records.specs.declared.tuple.Tuple.{Tuple}
use Rattle.models.specs.Tuples.{places, Shows}
use Rattle.models.specs.Rows.{fact_tuple, Ground, named_by}
use Rattle.models.specs.Lawfulness.{answered}
use Rattle.models.specs.Constraints.{form_of, Includes, FormSays, BySign, Satisfied, IsFirstFalse}
use Rattle.records.specs.declared.kinds.Form.TheVariants.{Member, EqualNames, EqualTerms}
use Rattle.models.proofs.Places.{flat_same, flat_names}
use Rattle.models.proofs.Variables.{places_named, fact_flat}
use Rattle.models.proofs.Shown.{shows_at}

module _ (P : Plain) (facts : List Fact) (n : ℕ) (rs : List ℕ) (ground : Ground P facts n rs) (M : ℕ → Tuple → Type 0)
    (terms : (j : ℕ) → j < length P.rows →
    Shows (row_at P.rows j).arity (M j) (Value (read_sheet P).rows (named_by P facts rs) j)) where
  -- ── one constraint ───────────────────────────────────────────────────────

  member_exact : (f : Fact) → FactFits P n f → eqb f.form 1 ≡ true → f.term < length P.rows →
      M f.term (fact_tuple rs f) ↔ Value (read_sheet P).rows (named_by P facts rs) f.term (map (rep rs) (tuple_of P.rows f))
  member_exact f fits e l =
      let p = (row_at P.rows f.term).arity in
      let s = terms f.term l in
      let named = places_named rs p f.a f.b f.c f.d in (
        λ m. subst (Value (read_sheet P).rows (named_by P facts rs) f.term) named (s.sound (fact_tuple rs f) m),
        λ v. let g = s.complete (map (rep rs) (tuple_of P.rows f)) v in
            subst (M f.term)
            (flat_same p g.0 (fact_tuple rs f) (s.flat g.0 g.1)
            (flat_names rs ground.zero_kept p f.a f.b f.c f.d (fact_flat P n f fits e)) (g.2 ∙ sym named))
            g.1,
      )

  includes_exact : (p : ℕ) (S R : Tuple → Type 0) (V W : List ℕ → Type 0) → Shows p S V → Shows p R W →
      (Includes S R → (u : List ℕ) → V u → W u) × (((u : List ℕ) → V u → W u) → Includes S R)
  includes_exact p S R V W s r = (
    λ i u v. let g = s.complete u v in subst W g.2 (r.sound g.0 (i g.0 g.1)),
    λ i t m. let g = r.complete (places p t) (i (places p t) (s.sound t m)) in
        subst R (flat_same p g.0 t (r.flat g.0 g.1) (s.flat t m) g.2) g.1,
  )

  terms_exact : (s r k : ℕ) → subject.Arity (read_sheet P).rows s k → subject.Arity (read_sheet P).rows r k →
      (Includes (M s) (M r) × Includes (M r) (M s))
      ↔ ((u : List ℕ) → Value (read_sheet P).rows (named_by P facts rs) s u ↔ Value (read_sheet P).rows (named_by P facts rs) r u)
  terms_exact s r k a b =
      let V = Value (read_sheet P).rows (named_by P facts rs) in
      let x = shows_at k (arity_of P a) (terms s (term_below P a)) in
      let y = shows_at k (arity_of P b) (terms r (term_below P b)) in
      let to = includes_exact k (M s) (M r) (V s) (V r) x y in
      let from = includes_exact k (M r) (M s) (V r) (V s) y x in
      (λ i u. (to.0 i.0 u, from.0 i.1 u), λ e. (to.1 (λ u. (e u).0), from.1 (λ u. (e u).1)))

  form_exact : (f : Fact) → FactFits P n f →
      FormSays (form_of f.form) rs f (M f.term) (M f.a)
      ↔ Holds (read_sheet P).rows (named_by P facts rs) (rep rs) (read_form P.rows f)
  form_exact f fits = go (eqb f.form 1) (eqb f.form 2) refl fits.fits
    where
      go : (b c : Bool) → eqb f.form 1 ≡ b →
          FormFits (read_sheet P).rows n
          (cond b (member (tuple_of P.rows f) f.term) (cond c (equal f.a f.b) (same f.term f.a))) →
          FormSays (cond b Member (cond c EqualNames EqualTerms)) rs f (M f.term) (M f.a)
          ↔ Holds (read_sheet P).rows (named_by P facts rs) (rep rs)
          (cond b (member (tuple_of P.rows f) f.term) (cond c (equal f.a f.b) (same f.term f.a)))
      go true c e h = member_exact f fits e (term_below P h.0)
      go false true e h = (λ x. x, λ x. x)
      go false false e h = terms_exact f.term f.a h.0 h.1 h.2

  signed_exact : (g : Bool) (A : Type 0) (f : Form) → A ↔ Holds (read_sheet P).rows (named_by P facts rs) (rep rs) f →
      BySign g A ↔ Sat (read_sheet P).rows (named_by P facts rs) (rep rs) g f
  signed_exact true A f e = e
  signed_exact false A f e = (λ n h. n (e.1 h), λ n h. n (e.0 h))

  pub satisfied_exact : (f : Fact) → FactFits P n f →
      Satisfied rs M f ↔ SatFact (read_sheet P).rows (named_by P facts rs) (rep rs) (read_fact P.rows f)
  satisfied_exact f fits =
      signed_exact f.positive (FormSays (form_of f.form) rs f (M f.term) (M f.a)) (read_form P.rows f) (form_exact f fits)

  -- ── all of them ──────────────────────────────────────────────────────────

  fits_at : (i : ℕ) → i < length facts → FactFits P n (get_or facts i no_fact)
  fits_at i l = all_at (FactFits P n) facts i (get_or facts i no_fact) ground.fair.facts_fit (there_at facts i no_fact l)

  module _ (m : ℕ) (few : m ≤ length facts) (is : P.constraints ≡ take m facts) where
    -- the constraint with number i, read
    entry : (i : ℕ) (c : subject.Fact) → i < m → get_elem? (map (read_fact P.rows) (take m facts)) i ≡ maybe.some c →
        read_fact P.rows (get_or facts i no_fact) ≡ c
    entry i c l e =
        let r = unmap (read_fact P.rows) (take m facts) i c e in
        ap (read_fact P.rows) (sym (get_or-take m facts i no_fact l) ∙ got (take m facts) i no_fact r.0 r.1) ∙ r.2

    all_read : (l : List Fact) (k : ℕ) → k ≤ length l →
        ((i : ℕ) → i < k → SatFact (read_sheet P).rows (named_by P facts rs) (rep rs) (read_fact P.rows (get_or l i no_fact))) →
        AllByRecursion (SatFact (read_sheet P).rows (named_by P facts rs) (rep rs)) (map (read_fact P.rows) (take k l))
    all_read l zero h f = tt
    all_read [] (suc k) h f = absurd (omega arith)
    all_read (x ∷ l) (suc k) h f = (f 0 (omega arith), all_read l k (omega arith) (λ i b. f (suc i) (omega arith)))

    pub first_is : (r : Option ℕ) → IsFirstFalse rs M facts m r →
        first_false (read_sheet P) (named_by P facts rs) (read_sheet P).constraints 0 ≡ answered r
    first_is None f =
        (satisfies_exact (read_sheet P) (named_by P facts rs)).1
        (subst (λ (l : List Fact). AllByRecursion (SatFact (read_sheet P).rows (named_by P facts rs) (rep rs)) (map (read_fact P.rows) l)) (sym is)
        (all_read facts m few (λ i l. (satisfied_exact (get_or facts i no_fact) (fits_at i (omega arith))).0 (f i l))))
    first_is (Some k) f =
        first_false_found (read_sheet P) (named_by P facts rs) k
        (subst (λ (l : List Fact). FirstFalse (read_sheet P) (named_by P facts rs) (map (read_fact P.rows) l) k) (sym is)
        (record {
          there = omega (arith, f.0, length-map (take m facts) (read_fact P.rows), length-take-le m facts few);
          broken = λ c e s. f.2
              ((satisfied_exact (get_or facts k no_fact) (fits_at k (omega (arith, f.0)))).1
              (subst (SatFact (read_sheet P).rows (named_by P facts rs) (rep rs)) (sym (entry k c f.0 e)) s));
          before = λ i c l e.
              subst (SatFact (read_sheet P).rows (named_by P facts rs) (rep rs)) (entry i c (omega (arith, f.0)) e)
              ((satisfied_exact (get_or facts i no_fact) (fits_at i (omega (arith, f.0)))).0 (f.1 i l));
        }))
