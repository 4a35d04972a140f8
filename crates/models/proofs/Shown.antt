-- What each operation makes of tuples shows what it makes of lists: from `shows_union` to `shows_closure`.
use Rattle.std.proofs.Common.{◌≡◌, ℕ, ◌+◌, ◌<◌, ◌≤◌, ◌⊎◌, List, [], ◌∷◌, ◌++◌, reverse, sym, refl, ap, ◌∙◌, subst, inl, inr, ⊎_elim, arith}
use Rattle.std.proofs.lemmas.List.{reverse-reverse, same_from_push}
use Rattle.meaning.specs.Meaning.{Chain}
use Rattle.meaning.specs.Meaning.Chain.{one as link, more as longer}
use Rattle.records.specs.Tuples.{joined, rest_from, name_at}
use Rattle.values.specs.Tuples.{reversed, turning, following, joining, linked}
use Rattle.values.specs.Gathers.{Either, Both, Without, Made, Paired, Reach}
use Rattle.values.specs.Gathers.Reach.{one, more}
use Rattle.records.specs.declared.tuple.Tuple.{Tuple}
use Rattle.models.specs.Tuples.{places, Flat, Shows}
use Rattle.models.proofs.Places.{places-append, places_last, places_first, places_reversed}
use Rattle.models.proofs.Places.{flat_same, flat_append, flat_behead, flat_reversed, joined_made, joined_makes}

-- the same relation said in another way
pub shows_as : {p : ℕ} {S : Tuple → Type 0} {V : List ℕ → Type 0} (W : List ℕ → Type 0) →
    ((u : List ℕ) → V u → W u) → ((u : List ℕ) → W u → V u) → Shows p S V → Shows p S W
shows_as W f g s = record {
  flat = s.flat;
  sound = λ t m. f _ (s.sound t m);
  complete = λ u w. s.complete u (g u w);
}

-- another arity that is the same
pub shows_at : {p : ℕ} {S : Tuple → Type 0} {V : List ℕ → Type 0} (q : ℕ) → p ≡ q → Shows p S V → Shows q S V
shows_at {S = S} {V = V} q e s = subst (λ i. Shows i S V) e s

module _ (p : ℕ) (S R : Tuple → Type 0) (V W : List ℕ → Type 0) (s : Shows p S V) (r : Shows p R W) where
  pub shows_union : Shows p (Either S R) (λ u. V u ⊎ W u)
  shows_union = record {
    flat = λ t m. ⊎_elim (s.flat t) (r.flat t) m;
    sound = λ t m. ⊎_elim (λ a. inl (s.sound t a)) (λ b. inr (r.sound t b)) m;
    complete = λ u m. ⊎_elim
        (λ a. let f = s.complete u a in (f.0, inl f.1, f.2))
        (λ b. let f = r.complete u b in (f.0, inr f.1, f.2)) m;
  }

  pub shows_inter : Shows p (Both S R) (λ u. V u × W u)
  shows_inter = record {
    flat = λ t m. s.flat t m.0;
    sound = λ t m. (s.sound t m.0, r.sound t m.1);
    complete = λ u m.
        let f = s.complete u m.0 in
        let g = r.complete u m.1 in
        let e = flat_same p g.0 f.0 (r.flat g.0 g.1) (s.flat f.0 f.1) (g.2 ∙ sym f.2) in
        (f.0, (f.1, subst R e g.1), f.2);
  }

  pub shows_diff : Shows p (Without S R) (λ u. V u × ¬ (W u))
  shows_diff = record {
    flat = λ t m. s.flat t m.0;
    sound = λ t m. (
      s.sound t m.0,
      λ w.
          let g = r.complete (places p t) w in
          m.1 (subst R (flat_same p g.0 t (r.flat g.0 g.1) (s.flat t m.0) g.2) g.1),
    );
    complete = λ u m.
        let f = s.complete u m.0 in
        (f.0, (f.1, λ b. m.1 (subst W f.2 (r.sound f.0 b))), f.2);
  }

pub shows_transp : (p : ℕ) (S : Tuple → Type 0) (V : List ℕ → Type 0) → 1 ≤ p → p ≤ 4 → Shows p S V →
    Shows p (Made (turning p) S) (λ u. V (reverse u))
shows_transp p S V l h s = record {
  flat = λ t m.
      let e : reversed p m.0 ≡ t = cc m.2 in
      subst (Flat p) e (flat_reversed p m.0 l h (s.flat m.0 m.1));
  sound = λ t m.
      let e : reversed p m.0 ≡ t = cc m.2 in
      subst V (sym (reverse-reverse (places p m.0)) ∙ ap reverse (sym (places_reversed p m.0 l h) ∙ ap (places p) e))
      (s.sound m.0 m.1);
  complete = λ u v.
      let f = s.complete (reverse u) v in
      (reversed p f.0, (f.0, f.1, refl), places_reversed p f.0 l h ∙ ap reverse f.2 ∙ reverse-reverse u);
}

module _ (p q : ℕ) (S R : Tuple → Type 0) (V W : List ℕ → Type 0) where
  pub shows_prod : p < 4 → p + q ≤ 4 → Shows p S V → Shows q R W →
      Shows (p + q) (Paired (following p) S R)
      (λ u. (a : List ℕ) × (b : List ℕ) × (u ≡ a ++ b) × V a × W b)
  shows_prod l h s r = record {
    flat = λ t m.
        let e : joined p m.0 m.2.0 ≡ t = cc m.2.2 in
        subst (Flat (p + q)) e (flat_append p q m.0 m.2.0 l h (r.flat m.2.0 m.2.1));
    sound = λ t m.
        let e : joined p m.0 m.2.0 ≡ t = cc m.2.2 in (
          places p m.0,
          places q m.2.0,
          ap (places (p + q)) (sym e) ∙ places-append p q m.0 m.2.0 l h,
          s.sound m.0 m.1,
          r.sound m.2.0 m.2.1,
        );
    complete = λ u m.
        let f = s.complete m.0 m.3 in
        let g = r.complete m.1 m.4 in (
          joined p f.0 g.0,
          (f.0, f.1, (g.0, g.1, refl)),
          places-append p q f.0 g.0 l h ∙ ap (λ v. v ++ places q g.0) f.2 ∙ ap (λ v. m.0 ++ v) g.2 ∙ sym m.2,
        );
  }

  pub shows_join : p < 4 → q < 4 → p + q ≤ 4 → Shows (p + 1) S V → Shows (q + 1) R W →
      Shows (p + q) (Paired (joining (p + 1)) S R)
      (λ u. (a : List ℕ) × (m : ℕ) × (b : List ℕ) × (u ≡ a ++ b) × V (a ++ (m ∷ [])) × W (m ∷ b))
  shows_join l k h s r = record {
    flat = λ t m.
        let e = joined_made m.0 m.2.0 t p m.2.2 in
        subst (Flat (p + q)) e.1
        (flat_append p q m.0 (rest_from 1 m.2.0) l h (flat_behead q m.2.0 k (r.flat m.2.0 m.2.1)));
    sound = λ t m.
        let x : Tuple = m.0 in
        let y : Tuple = m.2.0 in
        let e = joined_made x y t p m.2.2 in (
          places p x,
          name_at p x,
          places q (rest_from 1 y),
          ap (places (p + q)) (sym e.1) ∙ places-append p q x (rest_from 1 y) l h,
          subst V (places_last p x l) (s.sound x m.1),
          subst W (places_first q y k ∙ ap (λ z. z ∷ places q (rest_from 1 y)) (sym e.0)) (r.sound y m.2.1),
        );
    complete = λ u m.
        let f = s.complete (m.0 ++ (m.1 ∷ [])) m.4 in
        let g = r.complete (m.1 ∷ m.2) m.5 in
        let x : Tuple = f.0 in
        let y : Tuple = g.0 in
        let d = same_from_push (places p x) m.0 (name_at p x) m.1 (sym (places_last p x l) ∙ f.2) in
        let e = sym (places_first q y k) ∙ g.2 in
        let e0 : y.a ≡ m.1 = cc e in
        let e1 : places q (rest_from 1 y) ≡ m.2 = cc e in (
          joined p x (rest_from 1 y),
          (x, f.1, (y, g.1, joined_makes x y p (d.1 ∙ sym e0))),
          places-append p q x (rest_from 1 y) l h ∙ ap (λ v. v ++ places q (rest_from 1 y)) d.0 ∙ ap (λ v. m.0 ++ v) e1 ∙ sym m.3,
        );
  }

-- closure: the pairs linked by a chain
module _ (S : Tuple → Type 0) (V : List ℕ → Type 0) (s : Shows 2 S V) where
  snoc : (x y z : ℕ) → Chain (λ a b. V (a ∷ (b ∷ []))) x y → V (y ∷ (z ∷ [])) → Chain (λ a b. V (a ∷ (b ∷ []))) x z
  snoc x y z (link v) w = longer v (link w)
  snoc x y z (longer {y = o} v c) w = longer v (snoc o y z c w)

  chained : (t : Tuple) → Reach linked S t → Chain (λ a b. V (a ∷ (b ∷ []))) t.a t.b
  chained t (one m) = link (s.sound t m)
  chained t (more {x} y r m e) =
      let f = joined_made x y t 1 e in
      let z0 : x.a ≡ t.a = ap (λ (w : Tuple). w.a) f.1 in
      let z1 : y.b ≡ t.b = ap (λ (w : Tuple). w.b) f.1 in
      subst (λ a. Chain (λ a b. V (a ∷ (b ∷ []))) a t.b) z0
      (snoc x.a x.b t.b (chained x r)
      (subst V (ap (λ n. n ∷ (y.b ∷ [])) (sym f.0) ∙ ap (λ n. x.b ∷ (n ∷ [])) z1) (s.sound y m)))

  further : (x y z : ℕ) → (t : Tuple) × Reach linked S t × (t.a ≡ x) × (t.b ≡ y) → V (y ∷ (z ∷ [])) →
      (t : Tuple) × Reach linked S t × (t.a ≡ x) × (t.b ≡ z)
  further x y z r v =
      let g = s.complete (y ∷ (z ∷ [])) v in
      let e = g.2 in
      let e0 : g.0.a ≡ y = cc e in
      let e1 : g.0.b ≡ z = cc e in
      (joined 1 r.0 (rest_from 1 g.0), more g.0 r.1 g.1 (joined_makes r.0 g.0 1 (r.3 ∙ sym e0)), r.2, e1)

  along : (x y z : ℕ) → (t : Tuple) × Reach linked S t × (t.a ≡ x) × (t.b ≡ y) →
      Chain (λ a b. V (a ∷ (b ∷ []))) y z → (t : Tuple) × Reach linked S t × (t.a ≡ x) × (t.b ≡ z)
  along x y z r (link v) = further x y z r v
  along x y z r (longer {y = o} v c) = along x o z (further x y o r v) c

  first_pair : (x y : ℕ) → V (x ∷ (y ∷ [])) → (t : Tuple) × Reach linked S t × (t.a ≡ x) × (t.b ≡ y)
  first_pair x y v = let g = s.complete (x ∷ (y ∷ [])) v in let e = g.2 in (g.0, one g.1, cc e, cc e)

  unchained : (x z : ℕ) → Chain (λ a b. V (a ∷ (b ∷ []))) x z →
      (t : Tuple) × Reach linked S t × (t.a ≡ x) × (t.b ≡ z)
  unchained x z (link v) = first_pair x z v
  unchained x z (longer {y = o} v c) = along x o z (first_pair x o v) c

  flat_reach : (t : Tuple) → Reach linked S t → Flat 2 t
  flat_reach t (one m) = s.flat t m
  flat_reach t (more {x} y r m e) =
      let j = joined_made x y t 1 e in
      subst (Flat 2) j.1 (flat_append 1 1 x (rest_from 1 y) (omega arith) (omega arith) (flat_behead 1 y (omega arith) (s.flat y m)))

  pub shows_closure : Shows 2 (Reach linked S)
      (λ u. (x : ℕ) × (y : ℕ) × (u ≡ x ∷ (y ∷ [])) × Chain (λ a b. V (a ∷ (b ∷ []))) x y)
  shows_closure = record {
    flat = flat_reach;
    sound = λ t m. (t.a, t.b, refl, chained t m);
    complete = λ u m.
        let h = unchained m.0 m.1 m.3 in
        (h.0, h.1, ap (λ n. n ∷ (h.0.b ∷ [])) h.2 ∙ ap (λ n. m.0 ∷ (n ∷ [])) h.3 ∙ sym m.2);
  }
