-- Tuples in four places do what lists of names do: one behind another (`places-append`), without the last or the
-- first name, reversed (`places_reversed`); and their unused places stay zero (`flat_append`, `flat_reversed`).
use Rattle.std.proofs.Common.{◌≡◌, ℕ, zero, suc, ◌+◌, ◌-◌, ◌<◌, ◌≤◌, Bool, true, false, cond, eqb, List, [], ◌∷◌, ◌++◌, reverse, take, Some, None, sym, refl, ap, ◌∙◌, subst, zero-add, arith}
use Rattle.std.proofs.lemmas.List.{take-append-le}
use Rattle.std.proofs.lemmas.Bool.{eqb-true, eq-eqb}
use Rattle.meaning.specs.Model.{rep}
use Rattle.records.specs.Tuples.{names, joined, rest_from, name_at}
use Rattle.values.specs.Tuples.{reversed, joining}
use Rattle.records.specs.declared.tuple.Tuple.{Tuple}
use Rattle.models.specs.Tuples.{places, tuple_from, Flat, by_names}

-- ── as lists ───────────────────────────────────────────────────────────────

-- the first p places of x, and then q of y
pub places-append : (p q : ℕ) (x y : Tuple) → p < 4 → p + q ≤ 4 →
    places (p + q) (joined p x y) ≡ places p x ++ places q y
places-append zero q x y l h = ap (λ n. places n y) (zero-add q)
places-append (suc zero) q x y l h =
    let e : 1 + q ≡ suc q = omega arith in
    ap (λ n. take n (x.a ∷ y.a ∷ y.b ∷ y.c ∷ [])) e
    ∙ ap (λ u. x.a ∷ u) (sym (take-append-le q (y.a ∷ y.b ∷ y.c ∷ []) (y.d ∷ []) (omega arith)))
places-append (suc (suc zero)) q x y l h =
    let e : 2 + q ≡ suc (suc q) = omega arith in
    ap (λ n. take n (x.a ∷ x.b ∷ y.a ∷ y.b ∷ [])) e
    ∙ ap (λ u. x.a ∷ x.b ∷ u) (sym (take-append-le q (y.a ∷ y.b ∷ []) (y.c ∷ y.d ∷ []) (omega arith)))
places-append (suc (suc (suc zero))) q x y l h =
    let e : 3 + q ≡ suc (suc (suc q)) = omega arith in
    ap (λ n. take n (x.a ∷ x.b ∷ x.c ∷ y.a ∷ [])) e
    ∙ ap (λ u. x.a ∷ x.b ∷ x.c ∷ u) (sym (take-append-le q (y.a ∷ []) (y.b ∷ y.c ∷ y.d ∷ []) (omega arith)))
places-append (suc (suc (suc (suc n)))) q x y l h = absurd (omega arith)

-- the last place
pub places_last : (p : ℕ) (x : Tuple) → p < 4 → places (p + 1) x ≡ places p x ++ name_at p x ∷ []
places_last zero x l = refl
places_last (suc zero) x l = refl
places_last (suc (suc zero)) x l = refl
places_last (suc (suc (suc zero))) x l = refl
places_last (suc (suc (suc (suc n)))) x l = absurd (omega arith)

-- the first place
pub places_first : (q : ℕ) (y : Tuple) → q < 4 → places (q + 1) y ≡ y.a ∷ places q (rest_from 1 y)
places_first zero y l = refl
places_first (suc zero) y l = refl
places_first (suc (suc zero)) y l = refl
places_first (suc (suc (suc zero))) y l = refl
places_first (suc (suc (suc (suc n)))) y l = absurd (omega arith)

-- the other way round
pub places_reversed : (p : ℕ) (x : Tuple) → 1 ≤ p → p ≤ 4 → places p (reversed p x) ≡ reverse (places p x)
places_reversed zero x l h = absurd (omega arith)
places_reversed (suc zero) x l h = refl
places_reversed (suc (suc zero)) x l h = refl
places_reversed (suc (suc (suc zero))) x l h = refl
places_reversed (suc (suc (suc (suc zero)))) x l h = refl
places_reversed (suc (suc (suc (suc (suc n))))) x l h = absurd (omega arith)

-- ── unused places ──────────────────────────────────────────────────────────

pub flat_same : (p : ℕ) (s t : Tuple) → Flat p s → Flat p t → places p s ≡ places p t → s ≡ t
flat_same p s t f g e = sym f ∙ ap tuple_from e ∙ g

pub flat_append : (p q : ℕ) (x y : Tuple) → p < 4 → p + q ≤ 4 → Flat q y → Flat (p + q) (joined p x y)
flat_append zero q x y l h f = ap tuple_from (places-append zero q x y l h) ∙ f
flat_append (suc zero) q x y l h f = ap tuple_from (places-append (suc zero) q x y l h) ∙ ap (joined 1 x) f
flat_append (suc (suc zero)) q x y l h f = ap tuple_from (places-append (suc (suc zero)) q x y l h) ∙ ap (joined 2 x) f
flat_append (suc (suc (suc zero))) q x y l h f = ap tuple_from (places-append (suc (suc (suc zero))) q x y l h) ∙ ap (joined 3 x) f
flat_append (suc (suc (suc (suc n)))) q x y l h f = absurd (omega arith)

pub flat_behead : (q : ℕ) (y : Tuple) → q < 4 → Flat (q + 1) y → Flat q (rest_from 1 y)
flat_behead zero y l f = ap (rest_from 1) f
flat_behead (suc zero) y l f = ap (rest_from 1) f
flat_behead (suc (suc zero)) y l f = ap (rest_from 1) f
flat_behead (suc (suc (suc zero))) y l f = ap (rest_from 1) f
flat_behead (suc (suc (suc (suc n)))) y l f = absurd (omega arith)

pub flat_reversed : (p : ℕ) (x : Tuple) → 1 ≤ p → p ≤ 4 → Flat p x → Flat p (reversed p x)
flat_reversed zero x l h f = absurd (omega arith)
flat_reversed (suc zero) x l h f = f
flat_reversed (suc (suc zero)) x l h f = refl
flat_reversed (suc (suc (suc zero))) x l h f = refl
flat_reversed (suc (suc (suc (suc zero)))) x l h f = refl
flat_reversed (suc (suc (suc (suc (suc n))))) x l h f = absurd (omega arith)

-- representatives of names whose unused bytes are zero
module _ (rs : List ℕ) (z : rep rs 0 ≡ 0) where
  unused : (x : ℕ) → 0 ≡ x → 0 ≡ rep rs x
  unused x e = sym z ∙ ap (rep rs) e

  pub flat_names : (p x y v w : ℕ) → Flat p (names x y v w) → Flat p (by_names rs x y v w)
  flat_names zero x y v w f =
      λ i. names (unused x (ap (λ (t : Tuple). t.a) f) i) (unused y (ap (λ (t : Tuple). t.b) f) i)
      (unused v (ap (λ (t : Tuple). t.c) f) i) (unused w (ap (λ (t : Tuple). t.d) f) i)
  flat_names (suc zero) x y v w f =
      λ i. names (rep rs x) (unused y (ap (λ (t : Tuple). t.b) f) i)
      (unused v (ap (λ (t : Tuple). t.c) f) i) (unused w (ap (λ (t : Tuple). t.d) f) i)
  flat_names (suc (suc zero)) x y v w f =
      λ i. names (rep rs x) (rep rs y) (unused v (ap (λ (t : Tuple). t.c) f) i) (unused w (ap (λ (t : Tuple). t.d) f) i)
  flat_names (suc (suc (suc zero))) x y v w f =
      λ i. names (rep rs x) (rep rs y) (rep rs v) (unused w (ap (λ (t : Tuple). t.d) f) i)
  flat_names (suc (suc (suc (suc n)))) x y v w f = refl

-- ── two tuples joined ──────────────────────────────────────────────────────

-- two tuples are joined exactly where the last place of one is the first of the other
pub joined_made : (x y t : Tuple) (p : ℕ) → joining (p + 1) x y ≡ Some t →
    (name_at p x ≡ y.a) × (joined p x (rest_from 1 y) ≡ t)
joined_made x y t p e =
    let z : p + 1 - 1 ≡ p = omega arith in
    split (eqb (name_at p x) y.a) refl
    (subst (λ n. cond (eqb (name_at n x) y.a) (Some (joined n x (rest_from 1 y))) None ≡ Some t) z e)
  where
    split : (b : Bool) → eqb (name_at p x) y.a ≡ b → cond b (Some (joined p x (rest_from 1 y))) None ≡ Some t →
        (name_at p x ≡ y.a) × (joined p x (rest_from 1 y) ≡ t)
    split true b h = (eqb-true (name_at p x) y.a b, cc)
    split false b h = let w : ◌≡◌ {A = ℕ} 0 1 = cc in absurd (omega arith)

pub joined_makes : (x y : Tuple) (p : ℕ) → name_at p x ≡ y.a →
    joining (p + 1) x y ≡ Some (joined p x (rest_from 1 y))
joined_makes x y p e =
    let z : p ≡ p + 1 - 1 = omega arith in
    let b : eqb (name_at p x) y.a ≡ true = eq-eqb (name_at p x) y.a e in
    subst (λ n. cond (eqb (name_at n x) y.a) (Some (joined n x (rest_from 1 y))) None ≡ Some (joined p x (rest_from 1 y))) z (rw b)
