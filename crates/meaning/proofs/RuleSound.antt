-- Each rule keeps an interpretation: where it satisfies the cited facts, some alternative is satisfied once the fresh names are given things: `rule_sound`.
use Rattle.std.proofs.Common.{◌≡◌, ℕ, ◌+◌, ◌<◌, ◌≤◌, ◌⊎◌, List, [], ◌∷◌, ◌++◌, map, reverse, length, sym, refl, ap, ◌∙◌, subst, ap₂, inl, inr, ⊎_elim, arith, length-append}
use mathlib.Core.List.{reverse-reverse, head-eq_of_cons-eq, tail-eq_of_cons-eq}
use mathlib.Core.Option.{Option}
use native.Mathlib.Decide.{ℕ_discrete}
use lib.ListN.{length-map}
use Rattle.std.specs.List.{AllByRecursion}
use Rattle.std.proofs.lemmas.List.{map-append}
use Rattle.meaning.specs.Terms.{Op, closure, node, term, member, equal, same, Fact, pos, neg, Sheet, names, Is, Arity, OpFits, Full}
use Rattle.meaning.specs.Meaning.{Thing, Thing-discrete, labelled, Chain, one, Interp, In, Value, SatFact, Bears, Reads}
use Rattle.meaning.specs.Calculus.{Alt, Rule, inter_up, inter_down, union_up, union_down, diff_up, diff_down, single_up, single_down, empty_unsat, set_diseq, eq_unsat_names, eq_unsat_terms, eq_unsat_both, transp_up, transp_down, join_up, join_down, prod_up, prod_down, tclos_up_one, tclos_up_two, tclos_down, sym_names, sym_terms, swap_name_member, swap_name_left, swap_name_right, swap_term_member, swap_term_left, swap_term_right, label_unsat, label_same, up_from, equalities}
use Rattle.meaning.proofs.Lookups.{below}
use Rattle.meaning.proofs.Lengths.{opened, shut, value_length}
use Rattle.meaning.specs.Chains.{chain_append, Shape, pair, two, long, shape}
use Rattle.meaning.specs.Finite.{in_dec, differ}
use Rattle.meaning.proofs.Names.{Below, put, put_old, put_new, map_old, map_new, map_reverse_aux, sat_iff}

pub things : Discrete Thing
things = Thing-discrete ℕ_discrete

abbrev pub Some : {X : Type 0} → (X → Type 0) → List X → Type 0
Some P [] = ⊥
Some P (x ∷ xs) = P x ⊎ Some P xs

-- lists of the same length in two cuts of one list
pub cut : {A : Type 0} (a a' b b' : List A) → length a ≡ length a' → a ++ b ≡ a' ++ b' → (a ≡ a') × (b ≡ b')
cut [] [] b b' l e = (refl, e)
cut [] (x ∷ a') b b' l e = absurd (omega arith)
cut (x ∷ a) [] b b' l e = absurd (omega arith)
cut {A} (x ∷ a) (y ∷ a') b b' l e =
    let r = cut a a' b b' (omega arith) (tail-eq_of_cons-eq e) in
    (ap₂ ◌∷◌ (head-eq_of_cons-eq e) r.0, r.1)

pub all_parts : {X : Type 0} (P : X → Type 0) (a b : List X) → AllByRecursion P (a ++ b) → AllByRecursion P a × AllByRecursion P b
all_parts P [] b h = (tt, h)
all_parts P (x ∷ a) b h = let r = all_parts P a b h.1 in ((h.0, r.0), r.1)

pair_of : {A : Type 0} (l : List A) → length l ≡ 2 → (x : A) × (y : A) × (l ≡ x ∷ (y ∷ []))
pair_of (x ∷ y ∷ []) h = (x, y, refl)
pair_of _ h = absurd (omega arith)

put_first : {A : Type 0} (e : ℕ → A) (n : ℕ) (m : A) (u : List A) → put e n (m ∷ u) n ≡ m
put_first e n m u = let z : n + 0 ≡ n = omega arith in ap (put e n (m ∷ u)) (sym z) ∙ put_new e n (m ∷ u) 0 m (omega arith)

module _ (K : ℕ → Option ℕ) (S : Sheet) (full : Full S) (I : Interp Thing) (reads : Reads K S I) where
  open' : {t : ℕ} {o : Op} → Is S.rows t o → (u : List Thing) → Value S.rows I t u → In I (node t o (term S.rows)) u
  open' {t} {o} is u v = opened S.rows (names S) full.rows_fit I t o is.arity is.row u v

  shut' : {t : ℕ} {o : Op} → Is S.rows t o → (u : List Thing) → In I (node t o (term S.rows)) u → Value S.rows I t u
  shut' {t} {o} is u v = shut S.rows (names S) full.rows_fit I t o is.arity is.row u v

  sized' : {t k : ℕ} → Arity S.rows t k → (u : List Thing) → Value S.rows I t u → length u ≡ k
  sized' {t} {k} ar u v = value_length S.rows (names S) full.rows_fit I reads.sized t ar.op k ar.row u v

  fit' : {t : ℕ} {o : Op} (is : Is S.rows t o) → OpFits S.rows (names S) t is.arity o
  fit' {t} {o} is = full.rows_fit t o is.arity is.row

  -- e extends what I says of the sheet's names
  abbrev pub Extends : (ℕ → Thing) → Type 0
  Extends e = (i : ℕ) → i < names S → e i ≡ I.name i

  -- some alternative is satisfied by a meaning that keeps that of the names below n
  abbrev pub Goes : ℕ → (ℕ → Thing) → List Alt → Type 0
  Goes n e alts = Some (λ (a : Alt). (e' : ℕ → Thing) × ((i : ℕ) → i < n → e' i ≡ e i) × AllByRecursion (SatFact S.rows I e') a.facts) alts

  label_of : {a x : ℕ} → Bears K S a x → I.name a ≡ labelled x
  label_of {a} {x} b =
      let r = reads.labels a (below S.codes a b.0 b.1) in
      cc (r.2, r.1.1, r.1.2, b.1, b.2)

  label_low : {a x : ℕ} → Bears K S a x → a < names S
  label_low {a} b = let h = below S.codes a b.0 b.1 in omega arith

  equalities_hold : (e : ℕ → Thing) (u v : List ℕ) → map e u ≡ map e v → AllByRecursion (SatFact S.rows I e) (equalities u v)
  equalities_hold e [] v h = tt
  equalities_hold e (a ∷ u) [] h = tt
  equalities_hold e (a ∷ u) (b ∷ v) h = (head-eq_of_cons-eq h, equalities_hold e u v (tail-eq_of_cons-eq h))

  moved : (t : ℕ) {u v : List Thing} → u ≡ v → Value S.rows I t v → Value S.rows I t u
  moved t q h = subst (Value S.rows I t) (sym q) h

  two_names : {x x' y y' : Thing} → x ≡ x' → y ≡ y' → x ∷ (y ∷ []) ≡ x' ∷ (y' ∷ [])
  two_names p q = λ i. p i ∷ (q i ∷ [])

  linked : (s t : ℕ) → Is S.rows t (closure s) → (x y : Thing) → Value S.rows I t (x ∷ (y ∷ [])) → Chain (λ p q. Value S.rows I s (p ∷ (q ∷ []))) x y
  linked s t is x y h =
      let v = open' is _ h in
      let C : Thing → Thing → Type 0 = Chain (λ p q. Value S.rows I s (p ∷ (q ∷ []))) in
      let px : x ≡ v.0 = head-eq_of_cons-eq v.2 in
      let py : y ≡ v.1 = head-eq_of_cons-eq (tail-eq_of_cons-eq v.2) in
      subst (λ (z : Thing). C z y) (sym px) (subst (C v.0) (sym py) v.3)

  -- a tuple in the value of s, and not in that of r, as the meaning of fresh names
  apart : (n : ℕ) (e : ℕ → Thing) (k : ℕ) (u : List Thing) → length u ≡ k → (s r : ℕ) → Value S.rows I s u → ¬ (Value S.rows I r u) → (e' : ℕ → Thing) × ((i : ℕ) → i < n → e' i ≡ e i) × Value S.rows I s (map e' (up_from n k)) × ¬ (Value S.rows I r (map e' (up_from n k)))
  apart n e k u l s r v w = let q = map_new e n k u l in (put e n u, put_old e n u, moved s q v, λ h. w (subst (Value S.rows I r) q h))

  joined_down : (n : ℕ) (e : ℕ → Thing) (a c : List ℕ) (s r : ℕ) → AllByRecursion (λ i. i < n) (a ++ c) → (m : Thing) → Value S.rows I s (map e a ++ (m ∷ [])) → Value S.rows I r (m ∷ map e c) → (e' : ℕ → Thing) × ((i : ℕ) → i < n → e' i ≡ e i) × (Value S.rows I s (map e' (a ++ (n ∷ []))) × (Value S.rows I r (map e' (n ∷ c)) × Unit {0}))
  joined_down n e a c s r b m v w =
      let e' : ℕ → Thing = put e n (m ∷ []) in
      let old : (i : ℕ) → i < n → e' i ≡ e i = put_old e n (m ∷ []) in
      let parts = all_parts (λ (i : ℕ). i < n) a c b in
      let new : e' n ≡ m = put_first e n m [] in (
        e',
        old,
        (
          moved s (map-append e' a (n ∷ []) ∙ ap₂ ◌++◌ (map_old e' e n old a parts.0) (λ i. new i ∷ [])) v,
          (moved r (ap₂ ◌∷◌ new (map_old e' e n old c parts.1)) w, tt),
        ),
      )

  closed_down : (n : ℕ) (e : ℕ → Thing) (a b s t : ℕ) → Is S.rows t (closure s) → a < n → b < n → Shape (λ p q. Value S.rows I s (p ∷ (q ∷ []))) (e a) (e b) → Goes n e (record { fresh = 0; facts = pos (member (a ∷ b ∷ []) s) ∷ [] } ∷ record { fresh = 1; facts = pos (member (a ∷ n ∷ []) s) ∷ pos (member (n ∷ b ∷ []) s) ∷ [] } ∷ record { fresh = 2; facts = pos (member (a ∷ n ∷ []) s) ∷ pos (member (n ∷ (n + 1) ∷ []) t) ∷ pos (member ((n + 1) ∷ b ∷ []) s) ∷ neg (equal n (n + 1)) ∷ [] } ∷ [])
  closed_down n e a b s t is la lb (pair p) = inl (e, λ i h. refl, (p, tt))
  closed_down n e a b s t is la lb (two m p q) =
      let e' : ℕ → Thing = put e n (m ∷ []) in
      let new : e' n ≡ m = put_first e n m [] in
      inr (inl (e', put_old e n (m ∷ []), (moved s (two_names (put_old e n (m ∷ []) a la) new) p, (moved s (two_names new (put_old e n (m ∷ []) b lb)) q, tt))))
  closed_down n e a b s t is la lb (long m l p d q) = go (things m l)
    where
      go : Dec (m ≡ l) → Goes n e (record { fresh = 0; facts = pos (member (a ∷ b ∷ []) s) ∷ [] } ∷ record { fresh = 1; facts = pos (member (a ∷ n ∷ []) s) ∷ pos (member (n ∷ b ∷ []) s) ∷ [] } ∷ record { fresh = 2; facts = pos (member (a ∷ n ∷ []) s) ∷ pos (member (n ∷ (n + 1) ∷ []) t) ∷ pos (member ((n + 1) ∷ b ∷ []) s) ∷ neg (equal n (n + 1)) ∷ [] } ∷ [])
      go (yes h) =
          let e' : ℕ → Thing = put e n (m ∷ []) in
          let new : e' n ≡ m = put_first e n m [] in
          inr (inl (e', put_old e n (m ∷ []), (moved s (two_names (put_old e n (m ∷ []) a la) new) p, (moved s (two_names (new ∙ h) (put_old e n (m ∷ []) b lb)) q, tt))))
      go (no k) =
          let u : List Thing = m ∷ (l ∷ []) in
          let e' : ℕ → Thing = put e n u in
          let new : e' n ≡ m = put_first e n m (l ∷ []) in
          let new' : e' (n + 1) ≡ l = put_new e n u 1 m (omega arith) in
          inr (inr (inl (
            e',
            put_old e n u,
            (
              moved s (two_names (put_old e n u a la) new) p,
              (
                moved t (two_names new new') (shut' is _ (m, l, refl, d)),
                (
                  moved s (two_names new' (put_old e n u b lb)) q,
                  (λ h. k (sym new ∙ h ∙ new'), tt),
                ),
              ),
            ),
          )))

  pub rule_sound : {n r t w : ℕ} {ps : List Fact} {alts : List Alt} → Rule K S n r t w ps alts → names S ≤ n → (e : ℕ → Thing) → Extends e → AllByRecursion (Below n) ps → AllByRecursion (SatFact S.rows I e) ps → Goes n e alts
  rule_sound (inter_up is) l e ex b p = inl (e, λ i h. refl, (shut' is _ (p.0, p.1.0), tt))
  rule_sound (inter_down is) l e ex b p = let v = open' is _ p.0 in inl (e, λ i h. refl, (v.0, (v.1, tt)))
  rule_sound (union_up {u = u} {s = s} {r = r} {x = x} is h) l e ex b p = inl (e, λ i h. refl, (shut' is _ (⊎_elim (λ q. inl (subst (λ (y : ℕ). Value S.rows I y (map e u)) q p.0)) (λ q. inr (subst (λ (y : ℕ). Value S.rows I y (map e u)) q p.0)) h), tt))
  rule_sound (union_down is) l e ex b p = ⊎_elim (λ v. inl (e, λ i h. refl, (v, tt))) (λ v. inr (inl (e, λ i h. refl, (v, tt)))) (open' is _ p.0)
  rule_sound {n} (diff_up {u = u} {s = s} {r = r} {t = t} is) l e ex b p = go (in_dec things I (term S.rows r) (map e u))
    where
      go : Dec (Value S.rows I r (map e u)) → Goes n e (record { fresh = 0; facts = pos (member u r) ∷ [] } ∷ record { fresh = 0; facts = pos (member u t) ∷ [] } ∷ [])
      go (yes h) = inl (e, λ i h. refl, (h, tt))
      go (no h) = inr (inl (e, λ i h. refl, (shut' is _ (p.0, h), tt)))
  rule_sound (diff_down is) l e ex b p = let v = open' is _ p.0 in inl (e, λ i h. refl, (v.0, (v.1, tt)))
  rule_sound (single_up {v = v} is) l e ex b p = inl (e, λ i h. refl, (shut' is _ (map_old e I.name (names S) ex v (fit' is).1), tt))
  rule_sound (single_down {u = u} {v = v} is) l e ex b p = inl (e, λ i h. refl, (equalities_hold e u v (open' is _ p.0 ∙ sym (map_old e I.name (names S) ex v (fit' is).1))))
  rule_sound (empty_unsat is) l e ex b p = open' is _ p.0
  rule_sound {n} (set_diseq {s = s} {r = r} {k = k} ar ar') l e ex b p =
      ⊎_elim
      (λ w. let q = apart n e k w.0 (sized' ar _ w.1) s r w.1 w.2 in inl (q.0, q.1, (q.2, (q.3, tt))))
      (λ w. let q = apart n e k w.0 (sized' ar' _ w.2) r s w.2 w.1 in inr (inl (q.0, q.1, (q.3, (q.2, tt)))))
      (differ things I (term S.rows s) (term S.rows r) p.0)
  rule_sound eq_unsat_names l e ex b p = p.0 refl
  rule_sound eq_unsat_terms l e ex b p = p.0 (λ u. (λ x. x, λ x. x))
  rule_sound eq_unsat_both l e ex b p = p.1.0 p.0
  rule_sound (transp_up {u = u} {s = s} is) l e ex b p = inl (e, λ i h. refl, (shut' is _ (moved s (ap reverse (map_reverse_aux e u []) ∙ reverse-reverse (map e u)) p.0), tt))
  rule_sound (transp_down {u = u} {s = s} is) l e ex b p = inl (e, λ i h. refl, (moved s (map_reverse_aux e u []) (open' is _ p.0), tt))
  rule_sound (join_up a c {m} {s} is) l e ex b p = inl (e, λ i h. refl, (shut' is _ (map e a, e m, map e c, map-append e a c, subst (Value S.rows I s) (map-append e a (m ∷ [])) p.0, p.1.0), tt))
  rule_sound {n} (join_down a c {s = s} {r = r} is ar) l e ex b p =
      let v = open' is _ p.0 in
      let len : length (v.0 ++ (v.1 ∷ [])) ≡ length a + 1 = sized' ar _ v.4 in
      let q = cut (map e a) v.0 (map e c) v.2 (omega (arith, length-append v.0 (v.1 ∷ []), length-map a e)) (sym (map-append e a c) ∙ v.3) in
      inl (joined_down n e a c s r b.0 v.1 (moved s (ap (λ (x : List Thing). x ++ (v.1 ∷ [])) q.0) v.4) (moved r (ap (λ (x : List Thing). v.1 ∷ x) q.1) v.5))
  rule_sound (prod_up {u = u} {v = v} is) l e ex b p = inl (e, λ i h. refl, (shut' is _ (map e u, map e v, map-append e u v, p.0, p.1.0), tt))
  rule_sound (prod_down u v {s = s} {r = r} is ar) l e ex b p =
      let w = open' is _ p.0 in
      let q = cut (map e u) w.0 (map e v) w.1 (length-map u e ∙ sym (sized' ar _ w.3)) (sym (map-append e u v) ∙ w.2) in
      inl (e, λ i h. refl, (moved s q.0 w.3, (moved r q.1 w.4, tt)))
  rule_sound (tclos_up_one {u = u} {s = s} is) l e ex b p =
      let f = fit' is in
      let ar : Arity S.rows s 2 = f.0.1 in
      let q = pair_of (map e u) (sized' ar _ p.0) in
      inl (e, λ i h. refl, (shut' is _ (q.0, q.1, q.2, one (subst (Value S.rows I s) q.2 p.0)), tt))
  rule_sound (tclos_up_two {a = a} {b = b'} {c = c} {s = s} {t = t} is) l e ex b p = inl (e, λ i h. refl, (shut' is _ (e a, e c, refl, chain_append (linked s t is (e a) (e b') p.0) (linked s t is (e b') (e c) p.1.0)), tt))
  rule_sound {n} (tclos_down {a = a} {b = b'} {s = s} {t = t} is) l e ex b p = closed_down n e a b' s t is b.0.0 b.0.1.0 (shape (linked s t is (e a) (e b') p.0))
  rule_sound (sym_names {g = g} {a = a} {b = b'}) l e ex b p = inl (e, λ i h. refl, (sat_iff S.rows I e e g (equal a b') (equal b' a) (λ h. sym h, λ h. sym h) p.0, tt))
  rule_sound (sym_terms {g = g} {s = s} {r = r}) l e ex b p = inl (e, λ i h. refl, (sat_iff S.rows I e e g (same s r) (same r s) (λ h u. ((h u).1, (h u).0), λ h u. ((h u).1, (h u).0)) p.0, tt))
  rule_sound (swap_name_member u v {g} {a} {b = b'} {t}) l e ex b p =
      let q : map e (u ++ (a ∷ v)) ≡ map e (u ++ (b' ∷ v)) = map-append e u (a ∷ v) ∙ ap (λ (x : Thing). map e u ++ (x ∷ map e v)) p.1.0 ∙ sym (map-append e u (b' ∷ v)) in
      inl (e, λ i h. refl, (sat_iff S.rows I e e g (member (u ++ (a ∷ v)) t) (member (u ++ (b' ∷ v)) t) (λ h. moved t (sym q) h, λ h. moved t q h) p.0, tt))
  rule_sound (swap_name_left {g = g} {a = a} {b = b'} {c = c}) l e ex b p = inl (e, λ i h. refl, (sat_iff S.rows I e e g (equal a c) (equal b' c) (λ h. sym p.1.0 ∙ h, λ h. p.1.0 ∙ h) p.0, tt))
  rule_sound (swap_name_right {g = g} {a = a} {b = b'} {c = c}) l e ex b p = inl (e, λ i h. refl, (sat_iff S.rows I e e g (equal c a) (equal c b') (λ h. h ∙ p.1.0, λ h. h ∙ sym p.1.0) p.0, tt))
  rule_sound (swap_term_member {g = g} {u = u} {s = s} {r = r}) l e ex b p = inl (e, λ i h. refl, (sat_iff S.rows I e e g (member u s) (member u r) (p.1.0 (map e u)) p.0, tt))
  rule_sound (swap_term_left {g = g} {s = s} {r = r} {t = t}) l e ex b p =
      let q = p.1.0 in
      inl (e, λ i h. refl, (sat_iff S.rows I e e g (same s t) (same r t) (λ h u. (λ x. (h u).0 ((q u).1 x), λ x. (q u).0 ((h u).1 x)), λ h u. (λ x. (h u).0 ((q u).0 x), λ x. (q u).1 ((h u).1 x))) p.0, tt))
  rule_sound (swap_term_right {g = g} {s = s} {r = r} {t = t}) l e ex b p =
      let q = p.1.0 in
      inl (e, λ i h. refl, (sat_iff S.rows I e e g (same t s) (same t r) (λ h u. (λ x. (q u).0 ((h u).0 x), λ x. (h u).1 ((q u).1 x)), λ h u. (λ x. (q u).1 ((h u).0 x), λ x. (h u).1 ((q u).0 x))) p.0, tt))
  rule_sound (label_unsat {a = a} {b = b'} {x = x} {y = y} hx hy ne) l e ex b p =
      ne (cc (label_of hx, label_of hy, ex a (label_low hx), ex b' (label_low hy), p.0))
  rule_sound (label_same {a = a} {b = b'} hx hy) l e ex b p = inl (e, λ i h. refl, (cc (label_of hx, label_of hy, ex a (label_low hx), ex b' (label_low hy)), tt))
