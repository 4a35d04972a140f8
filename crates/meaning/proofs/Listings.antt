-- What a listing tells: the interpretation that the representatives list, `tells_listed`, and no other by names and members, `told_names` and `told_members`.
use Rattle.std.proofs.Common.{◌≡◌, ℕ, zero, suc, ◌+◌, ◌<◌, Bool, true, false, cond, eqb, ◌↔◌, List, [], ◌∷◌, ◌++◌, map, length, get_or, sym, refl, ap, ◌∙◌, subst, ⊎_elim, arith}
use mathlib.Core.List.Memᴰ
use mathlib.Core.List.{Memᴰ as Mem}
use mathlib.Core.Option.{Option}
use lib.ListN.{get_elem?}
use Rattle.std.proofs.lemmas.Bool.{eqb-true, eq-eqb}
use Rattle.meaning.specs.Terms.{Form, member, Fact, Sheet}
use Rattle.meaning.specs.Meaning.{Thing, Interp}
use Rattle.meaning.specs.Model.{rep, thing, on_term, tuples, row_is_variable, held, Listed}
use Rattle.meaning.specs.Text.{Line, opened, name, inside}
use Rattle.meaning.specs.Mixes.{name_lines, in_line, in_lines, Tells}

-- the lines of names
name_line : (rs : List ℕ) (k j : ℕ) → j < length rs → Mem (name (k + j) (get_or rs j 0)) (name_lines rs k)
name_line [] k j l = absurd (omega arith)
name_line (r ∷ rs) k zero l = let z : k + 0 ≡ k = omega arith in Mem.head (ap (λ (i : ℕ). name i r) z)
name_line (r ∷ rs) k (suc j) l =
    let q : k + 1 + j ≡ k + suc j = omega arith in
    Mem.tail (subst (λ (i : ℕ). Mem (name i (get_or rs j 0)) (name_lines rs (k + 1))) q (name_line rs (k + 1) j (omega arith)))

of_name_line : (rs : List ℕ) (k e r : ℕ) → Mem (name e r) (name_lines rs k) → (j : ℕ) × (e ≡ k + j) × (r ≡ get_or rs j 0)
of_name_line [] k e r m = absurd (Memᴰ.not-nil m)
of_name_line (q ∷ rs) k e r m = ⊎_elim here (λ m'. later (of_name_line rs (k + 1) e r m')) (Memᴰ.cases_cons m)
  where
    here : name e r ≡ name k q → (j : ℕ) × (e ≡ k + j) × (r ≡ get_or (q ∷ rs) j 0)
    here p = let x : e ≡ k = cc in let y : r ≡ q = cc in (0, omega arith, y)

    later : (j : ℕ) × (e ≡ k + 1 + j) × (r ≡ get_or rs j 0) → (j : ℕ) × (e ≡ k + j) × (r ≡ get_or (q ∷ rs) j 0)
    later p = let x : e ≡ k + 1 + p.0 = p.1 in (suc p.0, omega arith, p.2)

no_tuple_there : (rs : List ℕ) (k t : ℕ) (us : List ℕ) → Mem (inside t us) (name_lines rs k) → ⊥
no_tuple_there [] k t us m = Memᴰ.not-nil m
no_tuple_there (r ∷ rs) k t us m = ⊎_elim (λ p. cc) (no_tuple_there rs (k + 1) t us) (Memᴰ.cases_cons m)

module _ (S : Sheet) (rs : List ℕ) where
  abbrev holds_tuples : ℕ → Bool
  holds_tuples t = row_is_variable (get_elem? S.rows t)

  -- the lines of facts
  no_name_in : (e r : ℕ) (g : Bool) (f : Form) → Mem (name e r) (in_line S rs g f) → ⊥
  no_name_in e r true (member u t) m = go (holds_tuples t) m
    where
      go : (b : Bool) → Mem (name e r) (cond b (inside t (map (rep rs) u) ∷ []) []) → ⊥
      go true m' = let p = Memᴰ.eq_of_singleton m' in cc
      go false m' = Memᴰ.not-nil m'
  no_name_in e r false (member u t) m = Memᴰ.not-nil m
  no_name_in e r _ _ m = Memᴰ.not-nil m

  no_name_there : (e r : ℕ) (cs : List Fact) → Mem (name e r) (in_lines S rs cs) → ⊥
  no_name_there e r [] m = Memᴰ.not-nil m
  no_name_there e r (c ∷ cs) m = ⊎_elim (no_name_in e r c.sign c.form) (no_name_there e r cs) (Memᴰ.append_cases (in_line S rs c.sign c.form) m)

  module _ (t : ℕ) where
    on_more : (v : List ℕ) (g : Bool) (f : Form) (ws : List (List ℕ)) → Mem v ws → Mem v (on_term t g f ws)
    on_more v true (member u s) ws m = go (eqb s t)
      where
        go : (b : Bool) → Mem v (cond b (u ∷ ws) ws)
        go true = Mem.tail m
        go false = m
    on_more v false (member u s) ws m = m
    on_more v _ _ ws m = m

    -- a tuple's line comes from a positive fact on a variable
    abbrev From : List ℕ → List (List ℕ) → Type 0
    From us ws = (holds_tuples t ≡ true) × ((v : List ℕ) × Mem v ws × (us ≡ map (rep rs) v))

    of_fact_line : (us : List ℕ) (g : Bool) (f : Form) (ws : List (List ℕ)) → Mem (inside t us) (in_line S rs g f) → From us (on_term t g f ws)
    of_fact_line us true (member u s) ws m = go (holds_tuples s) refl m
      where
        go : (b : Bool) → holds_tuples s ≡ b → Mem (inside t us) (cond b (inside s (map (rep rs) u) ∷ []) []) → From us (on_term t true (member u s) ws)
        go true e m' =
            let p = Memᴰ.eq_of_singleton m' in
            let x : s ≡ t = cc in
            let y : us ≡ map (rep rs) u = cc in
            (ap holds_tuples (sym x) ∙ e, (u, subst (λ (b : Bool). Mem u (cond b (u ∷ ws) ws)) (sym (eq-eqb s t x)) (Mem.head refl), y))
        go false e m' = absurd (Memᴰ.not-nil m')
    of_fact_line us false (member u s) ws m = absurd (Memᴰ.not-nil m)
    of_fact_line us _ _ ws m = absurd (Memᴰ.not-nil m)

    of_tuple_line : (us : List ℕ) (cs : List Fact) → Mem (inside t us) (in_lines S rs cs) → From us (tuples cs t)
    of_tuple_line us [] m = absurd (Memᴰ.not-nil m)
    of_tuple_line us (c ∷ cs) m =
        ⊎_elim (of_fact_line us c.sign c.form (tuples cs t))
        (λ m'. let r = of_tuple_line us cs m' in (r.0, (r.1.0, on_more r.1.0 c.sign c.form (tuples cs t) r.1.1, r.1.2)))
        (Memᴰ.append_cases (in_line S rs c.sign c.form) m)

    -- and each such fact has its line
    fact_line : (v : List ℕ) (g : Bool) (f : Form) (ws : List (List ℕ)) (ls : List Line) → holds_tuples t ≡ true → (Mem v ws → Mem (inside t (map (rep rs) v)) ls) → Mem v (on_term t g f ws) → Mem (inside t (map (rep rs) v)) (in_line S rs g f ++ ls)
    fact_line v true (member u s) ws ls e later m = go (eqb s t) refl m
      where
        go : (b : Bool) → eqb s t ≡ b → Mem v (cond b (u ∷ ws) ws) → Mem (inside t (map (rep rs) v)) (in_line S rs true (member u s) ++ ls)
        go true q m' =
            let x : s ≡ t = eqb-true s t q in
            ⊎_elim
            (λ p. Memᴰ.append_left ls (subst (λ (b : Bool). Mem (inside t (map (rep rs) v)) (cond b (inside s (map (rep rs) u) ∷ []) [])) (sym (ap holds_tuples x ∙ e)) (Mem.head (λ i. inside (sym x i) (map (rep rs) (p i))))))
            (λ k. Memᴰ.append_right (in_line S rs true (member u s)) (later k))
            (Memᴰ.cases_cons m')
        go false q m' = Memᴰ.append_right (in_line S rs true (member u s)) (later m')
    fact_line v false (member u s) ws ls e later m = later m
    fact_line v _ _ ws ls e later m = later m

    tuple_line : (v : List ℕ) (cs : List Fact) → holds_tuples t ≡ true → Mem v (tuples cs t) → Mem (inside t (map (rep rs) v)) (in_lines S rs cs)
    tuple_line v [] e m = absurd (Memᴰ.not-nil m)
    tuple_line v (c ∷ cs) e m = fact_line v c.sign c.form (tuples cs t) (in_lines S rs cs) e (tuple_line v cs e) m

    is_held : (v : List ℕ) (b : Bool) (ws : List (List ℕ)) → Mem v (cond b ws []) → (b ≡ true) × Mem v ws
    is_held v true ws m = (refl, m)
    is_held v false ws m = absurd (Memᴰ.not-nil m)

  module _ (g : ℕ) (cs : List Fact) where
    abbrev lines : List Line
    lines = opened g ∷ (name_lines rs 0 ++ in_lines S rs cs)

    pub name_listed : (e : ℕ) → e < length rs → Mem (name e (rep rs e)) lines
    name_listed e l =
        let z : 0 + e ≡ e = omega arith in
        Mem.tail (Memᴰ.append_left (in_lines S rs cs) (subst (λ (i : ℕ). Mem (name i (rep rs e)) (name_lines rs 0)) z (name_line rs 0 e l)))

    pub listed_name : (e r : ℕ) → Mem (name e r) lines → r ≡ rep rs e
    listed_name e r m = ⊎_elim (λ p. absurd cc) (λ m'. ⊎_elim there (λ k. absurd (no_name_there e r cs k)) (Memᴰ.append_cases (name_lines rs 0) m')) (Memᴰ.cases_cons m)
      where
        there : Mem (name e r) (name_lines rs 0) → r ≡ rep rs e
        there k = let p = of_name_line rs 0 e r k in let q : e ≡ 0 + p.0 = p.1 in let x : p.0 ≡ e = omega arith in p.2 ∙ ap (rep rs) x

    pub tuple_listed : (t : ℕ) (v : List ℕ) → Mem v (held S cs t) → Mem (inside t (map (rep rs) v)) lines
    tuple_listed t v m =
        let h = is_held t v (holds_tuples t) (tuples cs t) m in
        Mem.tail (Memᴰ.append_right (name_lines rs 0) (tuple_line t v cs h.0 h.1))

    pub listed_tuple : (t : ℕ) (us : List ℕ) → Mem (inside t us) lines → (v : List ℕ) × Mem v (held S cs t) × (us ≡ map (rep rs) v)
    listed_tuple t us m = ⊎_elim (λ p. absurd cc) (λ m'. ⊎_elim (λ k. absurd (no_tuple_there rs 0 t us k)) there (Memᴰ.append_cases (name_lines rs 0) m')) (Memᴰ.cases_cons m)
      where
        there : Mem (inside t us) (in_lines S rs cs) → (v : List ℕ) × Mem v (held S cs t) × (us ≡ map (rep rs) v)
        there k = let p = of_tuple_line t us cs k in (p.1.0, subst (λ (b : Bool). Mem p.1.0 (cond b (tuples cs t) [])) (sym p.0) p.1.1, p.1.2)

    -- the listing tells the interpretation that the representatives list
    pub tells_listed : (K : ℕ → Option ℕ) → Tells K S lines (Listed K S rs cs)
    tells_listed K = record {
      names_told = λ e r m. ap (thing K S) (sym (listed_name e r m));
      tuples_told = λ t u. (of_held t u, to_held t u);
    }
      where
        of_held : (t : ℕ) (u : List Thing) → Mem u ((Listed K S rs cs).rel t) → (us : List ℕ) × Mem (inside t us) lines × (u ≡ map (thing K S) us)
        of_held t u m =
            let a = Memᴰ.of_map (map (thing K S)) (map (map (rep rs)) (held S cs t)) m in
            let b = Memᴰ.of_map (map (rep rs)) (held S cs t) a.1 in
            (map (rep rs) b.0, tuple_listed t b.0 b.1, sym a.2 ∙ ap (map (thing K S)) (sym b.2))

        to_held : (t : ℕ) (u : List Thing) → (us : List ℕ) × Mem (inside t us) lines × (u ≡ map (thing K S) us) → Mem u ((Listed K S rs cs).rel t)
        to_held t u p =
            let q = listed_tuple t p.0 p.1 in
            Memᴰ.cast (p.2 ∙ ap (map (thing K S)) q.2) (Memᴰ.map (map (thing K S)) (Memᴰ.map (map (rep rs)) q.1))

    -- and every interpretation that it tells has these names and these members
    module _ (K : ℕ → Option ℕ) (I : Interp Thing) (tells : Tells K S lines I) where
      pub told_names : (e : ℕ) → e < length rs → (Listed K S rs cs).name e ≡ I.name e
      told_names e l = sym (tells.names_told e (rep rs e) (name_listed e l))

      pub told_members : (t : ℕ) (u : List Thing) → Mem u ((Listed K S rs cs).rel t) ↔ Mem u (I.rel t)
      told_members t u =
          let a = tells.tuples_told t u in
          let b = (tells_listed K).tuples_told t u in
          (λ m. a.1 (b.0 m), λ m. b.1 (a.0 m))
