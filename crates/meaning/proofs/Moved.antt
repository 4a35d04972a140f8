-- An injective map of the carrier carries the value of every term, `value_moved`, and the truth of every fact, `sat_moved`.
use Rattle.std.proofs.Common.{◌≡◌, ℕ, Bool, true, false, ◌↔◌, List, [], ◌∷◌, ◌++◌, map, reverse, sym, refl, ap, ◌∙◌, subst, ap₂, inl, inr, ⊎_elim}
use mathlib.Core.List.Memᴰ
use mathlib.Core.List.{map-map, reverse-reverse, head-eq_of_cons-eq, tail-eq_of_cons-eq}
use Rattle.std.specs.List.{AllByRecursion}
use Rattle.std.proofs.lemmas.List.{map-append}
use Rattle.meaning.specs.Terms.{Row, Tm, Var, Empty, Single, Union, Inter, Diff, Transp, Prod, Join, Closure, term, Form, member, equal, same, Fact}
use Rattle.meaning.proofs.Names.{map_reverse_aux}
use Rattle.meaning.specs.Meaning.{Chain, one, more, Interp, In, Holds, Sat, SatFact}

module _ {A B : Type 0} (f : A → B) where
  unfoldable pub move : Interp A → Interp B
  move J = record { name = λ e. f (J.name e); rel = λ n. map (map f) (J.rel n) }

  -- how an image is cut
  pub cut_cons : (w : List A) (m : B) (b : List B) → m ∷ b ≡ map f w → (m' : A) × (b' : List A) × (w ≡ m' ∷ b') × (m ≡ f m') × (b ≡ map f b')
  cut_cons [] m b e = absurd cc
  cut_cons (x ∷ w) m b e = (x, w, refl, head-eq_of_cons-eq e, tail-eq_of_cons-eq e)

  pub cut-append : (a c : List B) (w : List A) → a ++ c ≡ map f w → (a' : List A) × (c' : List A) × (w ≡ a' ++ c') × (a ≡ map f a') × (c ≡ map f c')
  cut-append [] c w e = ([], w, refl, refl, e)
  cut-append (x ∷ a) c [] e = absurd cc
  cut-append (x ∷ a) c (y ∷ w) e =
      let r = cut-append a c w (tail-eq_of_cons-eq e) in
      (y ∷ r.0, r.1, ap (λ (l : List A). y ∷ l) r.2, ap₂ ◌∷◌ (head-eq_of_cons-eq e) r.3, r.4)

  module _ (inj : (x y : A) → f x ≡ f y → x ≡ y) where
    map_inj : (u v : List A) → map f u ≡ map f v → u ≡ v
    map_inj [] [] e = refl
    map_inj [] (y ∷ v) e = absurd cc
    map_inj (x ∷ u) [] e = absurd cc
    map_inj (x ∷ u) (y ∷ v) e = ap₂ ◌∷◌ (inj x y (head-eq_of_cons-eq e)) (map_inj u v (tail-eq_of_cons-eq e))

    -- a tuple of the image comes from one before it; and each goes over
    From : Interp A → Tm → Type 0
    From J t = (v : List B) → In (move J) t v → (u : List A) × (v ≡ map f u) × In J t u

    To : Interp A → Tm → Type 0
    To J t = (u : List A) → In J t u → In (move J) t (map f u)

    back : (J : Interp A) (t : Tm) → From J t → (u : List A) → In (move J) t (map f u) → In J t u
    unfolding From
    back J t h u p = let r = h (map f u) p in subst (In J t) (sym (map_inj u r.0 r.1)) r.2

    Goal : Interp A → Tm → Type 0
    unfolding From To
    Goal J t = From J t × To J t

    from_chain : (J : Interp A) (s : Tm) → From J s → {x y : B} → Chain (λ p q. In (move J) s (p ∷ (q ∷ []))) x y → (x' : A) × (y' : A) × (x ≡ f x') × (y ≡ f y') × Chain (λ p q. In J s (p ∷ (q ∷ []))) x' y'
    unfolding From
    from_chain J s h (one {x = x} {y = y} r) =
        let w = h (x ∷ (y ∷ [])) r in
        let c = cut_cons w.0 x (y ∷ []) w.1 in
        let d = cut_cons c.1 y [] c.4 in
        let nil : d.1 ≡ [] = map_inj d.1 [] (sym d.4) in
        (c.0, d.0, c.3, d.3, one (subst (In J s) (c.2 ∙ ap (λ (l : List A). c.0 ∷ l) (d.2 ∙ ap (λ (l : List A). d.0 ∷ l) nil)) w.2))
    from_chain J s h (more {x = x} {y = y} {z = z} r k) =
        let i = from_chain J s h k in
        let w = h (x ∷ (y ∷ [])) r in
        let c = cut_cons w.0 x (y ∷ []) w.1 in
        let d = cut_cons c.1 y [] c.4 in
        let nil : d.1 ≡ [] = map_inj d.1 [] (sym d.4) in
        let meet : d.0 ≡ i.0 = inj d.0 i.0 (sym d.3 ∙ i.2) in
        let step : In J s (c.0 ∷ (i.0 ∷ [])) = subst (In J s) (c.2 ∙ ap (λ (l : List A). c.0 ∷ l) (d.2 ∙ ap₂ ◌∷◌ meet nil)) w.2 in
        (c.0, i.1, c.3, i.3, more step i.4)

    to_chain : (J : Interp A) (s : Tm) → To J s → {x y : A} → Chain (λ p q. In J s (p ∷ (q ∷ []))) x y → Chain (λ p q. In (move J) s (p ∷ (q ∷ []))) (f x) (f y)
    unfolding To
    to_chain J s h (one {x = x} {y = y} r) = one (h (x ∷ (y ∷ [])) r)
    to_chain J s h (more {x = x} {y = y} r k) = more (h (x ∷ (y ∷ [])) r) (to_chain J s h k)

    carried : (J : Interp A) (t : Tm) → Goal J t
    unfolding Goal From To move
    carried J (Var n) = (λ v m. let r = Memᴰ.of_map (map f) (J.rel n) m in (r.0, sym r.2, r.1), λ u m. Memᴰ.map (map f) m)
    carried J Empty = (λ v p. absurd p, λ u p. p)
    carried J (Single w) = (λ v e. (map J.name w, e ∙ sym (map-map f J.name w), refl), λ u e. ap (map f) e ∙ map-map f J.name w)
    carried J (Union s r) =
        let hs = carried J s in
        let hr = carried J r in
        (λ v. ⊎_elim (λ p. let q = hs.0 v p in (q.0, q.1, inl q.2)) (λ p. let q = hr.0 v p in (q.0, q.1, inr q.2)), λ u. ⊎_elim (λ p. inl (hs.1 u p)) (λ p. inr (hr.1 u p)))
    carried J (Inter s r) =
        let hs = carried J s in
        let hr = carried J r in
        (λ v p. let q = hs.0 v p.0 in (q.0, q.1, (q.2, back J r hr.0 q.0 (subst (In (move J) r) q.1 p.1))), λ u p. (hs.1 u p.0, hr.1 u p.1))
    carried J (Diff s r) =
        let hs = carried J s in
        let hr = carried J r in
        (λ v p. let q = hs.0 v p.0 in (q.0, q.1, (q.2, λ k. p.1 (subst (In (move J) r) (sym q.1) (hr.1 q.0 k)))), λ u p. (hs.1 u p.0, λ k. p.1 (back J r hr.0 u k)))
    carried J (Transp s) =
        let hs = carried J s in
        (λ v p. let q = hs.0 (reverse v) p in (reverse q.0, sym (reverse-reverse v) ∙ ap reverse q.1 ∙ sym (map_reverse_aux f q.0 []), subst (In J s) (sym (reverse-reverse q.0)) q.2), λ u p. subst (In (move J) s) (map_reverse_aux f u []) (hs.1 (reverse u) p))
    carried J (Prod s r) =
        let hs = carried J s in
        let hr = carried J r in (
          λ v p. let q = hs.0 p.0 p.3 in let k = hr.0 p.1 p.4 in (q.0 ++ k.0, p.2 ∙ ap₂ ◌++◌ q.1 k.1 ∙ sym (map-append f q.0 k.0), (q.0, k.0, refl, q.2, k.2)),
          λ u p. (map f p.0, map f p.1, ap (map f) p.2 ∙ map-append f p.0 p.1, hs.1 p.0 p.3, hr.1 p.1 p.4),
        )
    carried J (Join s r) =
        let hs = carried J s in
        let hr = carried J r in (
          λ v p.
              let q = hs.0 (p.0 ++ (p.1 ∷ [])) p.4 in
              let k = hr.0 (p.1 ∷ p.2) p.5 in
              let c = cut-append p.0 (p.1 ∷ []) q.0 q.1 in
              let d = cut_cons c.1 p.1 [] c.4 in
              let g = cut_cons k.0 p.1 p.2 k.1 in
              let nil : d.1 ≡ [] = map_inj d.1 [] (sym d.4) in
              let meet : d.0 ≡ g.0 = inj d.0 g.0 (sym d.3 ∙ g.3) in (
                c.0 ++ g.1,
                p.3 ∙ ap₂ ◌++◌ c.3 g.4 ∙ sym (map-append f c.0 g.1),
                (c.0, g.0, g.1, refl, subst (In J s) (c.2 ∙ ap (λ (l : List A). c.0 ++ l) (d.2 ∙ ap₂ ◌∷◌ meet nil)) q.2, subst (In J r) g.2 k.2),
              ),
          λ u p. (map f p.0, f p.1, map f p.2, ap (map f) p.3 ∙ map-append f p.0 p.2, subst (In (move J) s) (map-append f p.0 (p.1 ∷ [])) (hs.1 (p.0 ++ (p.1 ∷ [])) p.4), hr.1 (p.1 ∷ p.2) p.5),
        )
    carried J (Closure s) =
        let hs = carried J s in (
          λ v p. let c = from_chain J s hs.0 p.3 in (c.0 ∷ (c.1 ∷ []), p.2 ∙ ap₂ (λ (x y : B). x ∷ (y ∷ [])) c.2 c.3, (c.0, c.1, refl, c.4)),
          λ u p. (f p.0, f p.1, ap (map f) p.2, to_chain J s hs.1 p.3),
        )

    -- the value of a term on the image, at an image
    pub value_moved : (J : Interp A) (t : Tm) (u : List A) → In J t u ↔ In (move J) t (map f u)
    unfolding Goal From To
    value_moved J t u = ((carried J t).1 u, back J t (carried J t).0 u)

    pub holds_moved : (rs : List Row) (J : Interp A) (e : ℕ → A) (c : Form) → Holds rs J e c ↔ Holds rs (move J) (λ i. f (e i)) c
    unfolding Goal From To
    holds_moved rs J e (member u t) =
        let q : map f (map e u) ≡ map (λ i. f (e i)) u = map-map f e u in
        let m = value_moved J (term rs t) (map e u) in
        (λ p. subst (In (move J) (term rs t)) q (m.0 p), λ p. m.1 (subst (In (move J) (term rs t)) (sym q) p))
    holds_moved rs J e (equal a b) = (λ p. ap f p, λ p. inj (e a) (e b) p)
    holds_moved rs J e (same s r) = (
      λ h v. (λ p. let q = (carried J (term rs s)).0 v p in subst (In (move J) (term rs r)) (sym q.1) ((carried J (term rs r)).1 q.0 ((h q.0).0 q.2)), λ p. let q = (carried J (term rs r)).0 v p in subst (In (move J) (term rs s)) (sym q.1) ((carried J (term rs s)).1 q.0 ((h q.0).1 q.2))),
      λ h u. (λ p. (value_moved J (term rs r) u).1 ((h (map f u)).0 ((value_moved J (term rs s) u).0 p)), λ p. (value_moved J (term rs s) u).1 ((h (map f u)).1 ((value_moved J (term rs r) u).0 p))),
    )

    pub sat_moved : (rs : List Row) (J : Interp A) (e : ℕ → A) (c : Fact) → SatFact rs J e c ↔ SatFact rs (move J) (λ i. f (e i)) c
    sat_moved rs J e c = go c.sign
      where
        go : (g : Bool) → Sat rs J e g c.form ↔ Sat rs (move J) (λ i. f (e i)) g c.form
        go true = holds_moved rs J e c.form
        go false = let h = holds_moved rs J e c.form in (λ n p. n (h.1 p), λ n p. n (h.0 p))

    pub all_moved : (rs : List Row) (J : Interp A) (e : ℕ → A) (cs : List Fact) → AllByRecursion (SatFact rs J e) cs ↔ AllByRecursion (SatFact rs (move J) (λ i. f (e i))) cs
    all_moved rs J e [] = (λ h. h, λ h. h)
    all_moved rs J e (c ∷ cs) =
        let s = sat_moved rs J e c in
        let all = all_moved rs J e cs in
        (λ h. (s.0 h.0, all.0 h.1), λ h. (s.1 h.0, all.1 h.1))
