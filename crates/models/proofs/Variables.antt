-- A variable's facts show its tuples (`shows_variable`), and a singleton's row shows its own (`shows_single`).
use Rattle.std.proofs.Common.{◌≡◌, ℕ, Bool, true, false, cond, ◌&&◌, eqb, List, [], ◌∷◌, map, take, Some, None, sym, refl, ap, ◌∙◌, subst, inl, inr, ⊎_elim, arith}
use mathlib.Core.List.Memᴰ
use mathlib.Core.List.{Memᴰ as Mem}
use Rattle.std.specs.List.{AllByRecursion}
use Rattle.std.proofs.lemmas.List.{take-map}
use Rattle.std.proofs.lemmas.Bool.{and_parts, eqb-true}
use Rattle.records.specs.declared.rows.Fact.{Fact}
use Rattle.records.specs.declared.rows.TermRow.{TermRow}
use Rattle.rules.specs.Looked.{row_at}
use Rattle.meaning.specs.Terms.{member, equal, same, RowIs}
use Rattle.meaning.specs.Terms as subject
use Rattle.meaning.specs.Model.{rep, on_term, tuples, row_is_variable, held}
use Rattle.calls.specs.Reading.{Plain, tuple_of, read_form, read_fact, write_form, read_sheet, FactFits}
use Rattle.values.specs.Sets.{In}
use Rattle.records.specs.Tuples.{names}
use Rattle.records.specs.declared.tuple.Tuple.{Tuple}
use Rattle.models.specs.Tuples.{places, Flat, Shows, by_names}
use Rattle.models.specs.Rows.{fact_tuple, row_tuple, offered}
use Rattle.models.proofs.Places.{flat_names}

pub all_in : {X : Type 0} (Q : X → Type 0) (l : List X) (x : X) → AllByRecursion Q l → In l x → Q x
all_in Q [] x h m = absurd m
all_in Q (y ∷ l) x h m = ⊎_elim (λ e. subst Q e h.0) (λ i. all_in Q l x h.1 i) m

-- the representatives of the first names
pub places_named : (rs : List ℕ) (p x y v w : ℕ) →
    places p (by_names rs x y v w) ≡ map (rep rs) (take p (x ∷ y ∷ v ∷ w ∷ []))
places_named rs p x y v w = take-map (rep rs) p (x ∷ y ∷ v ∷ w ∷ [])

-- the fact is a positive one of form 1 on term t
abbrev pub picks : ℕ → Fact → Bool
picks t f = eqb f.form 1 && (f.positive && eqb f.term t)

module _ (rows : List TermRow) (t : ℕ) where
  -- what a fact puts before the others
  on_fact : (f : Fact) (us : List (List ℕ)) →
      on_term t f.positive (read_form rows f) us ≡ cond (picks t f) (tuple_of rows f ∷ us) us
  on_fact f us = go (eqb f.form 1) f.positive (eqb f.form 2)
    where
      go : (b g c : Bool) →
          on_term t g (cond b (member (tuple_of rows f) f.term) (cond c (equal f.a f.b) (same f.term f.a))) us
          ≡ cond (b && (g && eqb f.term t)) (tuple_of rows f ∷ us) us
      go true true c = refl
      go true false c = refl
      go false true true = refl
      go false true false = refl
      go false false true = refl
      go false false false = refl

  pub tuple_from_fact : (facts : List Fact) (v : List ℕ) → Mem v (tuples (map (read_fact rows) facts) t) →
      (f : Fact) × In facts f × (picks t f ≡ true) × (tuple_of rows f ≡ v)
  tuple_from_fact [] v m = absurd (Memᴰ.not-nil m)
  tuple_from_fact (f ∷ fs) v m =
      go (tuple_from_fact fs v) (picks t f) refl (subst (Mem v) (on_fact f (tuples (map (read_fact rows) fs) t)) m)
    where
      go : (Mem v (tuples (map (read_fact rows) fs) t) →
          (f : Fact) × In fs f × (picks t f ≡ true) × (tuple_of rows f ≡ v)) →
          (b : Bool) → picks t f ≡ b →
          Mem v (cond b (tuple_of rows f ∷ tuples (map (read_fact rows) fs) t) (tuples (map (read_fact rows) fs) t)) →
          (g : Fact) × In (f ∷ fs) g × (picks t g ≡ true) × (tuple_of rows g ≡ v)
      go ih true e m =
          ⊎_elim (λ q. (f, inl refl, e, sym q)) (λ i. let r = ih i in (r.0, inr r.1, r.2, r.3)) (Memᴰ.cases_cons m)
      go ih false e m = let r = ih m in (r.0, inr r.1, r.2, r.3)

  pub fact_gives_tuple : (facts : List Fact) (f : Fact) → In facts f → picks t f ≡ true →
      Mem (tuple_of rows f) (tuples (map (read_fact rows) facts) t)
  fact_gives_tuple [] f m e = absurd m
  fact_gives_tuple (g ∷ fs) f m e =
      subst (Mem (tuple_of rows f)) (sym (on_fact g (tuples (map (read_fact rows) fs) t)))
      (⊎_elim
      (λ (q : g ≡ f). subst (λ (b : Bool). Mem (tuple_of rows f) (cond b (tuple_of rows g ∷ tuples (map (read_fact rows) fs) t) (tuples (map (read_fact rows) fs) t)))
      (sym e ∙ ap (picks t) (sym q)) (Mem.head (ap (tuple_of rows) (sym q))))
      (λ i. later (picks t g) (fact_gives_tuple fs f i e)) m)
    where
      later : (b : Bool) → Mem (tuple_of rows f) (tuples (map (read_fact rows) fs) t) →
          Mem (tuple_of rows f) (cond b (tuple_of rows g ∷ tuples (map (read_fact rows) fs) t) (tuples (map (read_fact rows) fs) t))
      later true i = Mem.tail i
      later false i = i

-- a fact of form 1 that fits has zero in unused bytes
pub fact_flat : (P : Plain) (n : ℕ) (f : Fact) → FactFits P n f → eqb f.form 1 ≡ true →
    Flat (row_at P.rows f.term).arity (names f.a f.b f.c f.d)
fact_flat P n f fits e =
    ap (λ (x : Fact). names x.a x.b x.c x.d)
    (subst (λ (b : Bool). write_form f.positive
    (cond b (member (tuple_of P.rows f) f.term) (cond (eqb f.form 2) (equal f.a f.b) (same f.term f.a))) ≡ f)
    e fits.written)

-- a fact that puts a tuple into a variable
offered_some : (rs : List ℕ) (t : ℕ) (f : Fact) (x : Tuple) → offered rs t f ≡ Some x →
    (picks t f ≡ true) × (fact_tuple rs f ≡ x)
offered_some rs t f x e = go (picks t f) refl e
  where
    go : (b : Bool) → picks t f ≡ b → cond b (Some (fact_tuple rs f)) None ≡ Some x →
        (picks t f ≡ true) × (fact_tuple rs f ≡ x)
    go true q h = (q, cc)
    go false q h = let z : ◌≡◌ {A = ℕ} 0 1 = cc in absurd (omega arith)

module _ (P : Plain) (facts : List Fact) (n : ℕ) (rs : List ℕ) (z : rep rs 0 ≡ 0) (fit : AllByRecursion (FactFits P n) facts) (t : ℕ) where
  -- the two tests of a fact that is picked
  picked : (f : Fact) → picks t f ≡ true → (eqb f.form 1 ≡ true) × (f.term ≡ t)
  picked f e =
      let a = and_parts (eqb f.form 1) (f.positive && eqb f.term t) e in
      let b = and_parts f.positive (eqb f.term t) a.1 in
      (a.0, eqb-true f.term t b.1)

  fact_places : (f : Fact) → picks t f ≡ true →
      places (row_at P.rows t).arity (fact_tuple rs f) ≡ map (rep rs) (tuple_of P.rows f)
  fact_places f e =
      places_named rs (row_at P.rows t).arity f.a f.b f.c f.d
      ∙ ap (λ (s : ℕ). map (rep rs) (take (row_at P.rows s).arity (f.a ∷ f.b ∷ f.c ∷ f.d ∷ []))) (sym (picked f e).1)

  fact_tuple_flat : (f : Fact) → In facts f → picks t f ≡ true → Flat (row_at P.rows t).arity (fact_tuple rs f)
  fact_tuple_flat f i e =
      subst (λ (s : ℕ). Flat (row_at P.rows s).arity (fact_tuple rs f)) (picked f e).1
      (flat_names rs z (row_at P.rows f.term).arity f.a f.b f.c f.d
      (fact_flat P n f (all_in (FactFits P n) facts f fit i) (picked f e).0))

  pub shows_variable : (k : ℕ) → RowIs (read_sheet P).rows t subject.variable k →
      Shows (row_at P.rows t).arity
      (λ x. (f : Fact) × In facts f × (offered rs t f ≡ Some x))
      (λ u. Mem u (map (map (rep rs)) (held (read_sheet P) (map (read_fact P.rows) facts) t)))
  shows_variable k row =
      let h : held (read_sheet P) (map (read_fact P.rows) facts) t ≡ tuples (map (read_fact P.rows) facts) t =
      ap (λ o. cond (row_is_variable o) (tuples (map (read_fact P.rows) facts) t) []) row in
      record {
        flat = λ x m.
            let o = offered_some rs t m.0 x m.2 in
            subst (Flat (row_at P.rows t).arity) o.1 (fact_tuple_flat m.0 m.1 o.0);
        sound = λ x m.
            let o = offered_some rs t m.0 x m.2 in
            subst (λ (u : List ℕ). Mem u (map (map (rep rs)) (held (read_sheet P) (map (read_fact P.rows) facts) t)))
            (sym (fact_places m.0 o.0) ∙ ap (places (row_at P.rows t).arity) o.1)
            (Memᴰ.map (map (rep rs))
            (subst (Mem (tuple_of P.rows m.0)) (sym h) (fact_gives_tuple P.rows t facts m.0 m.1 o.0)));
        complete = λ u m.
            let a = Memᴰ.of_map (map (rep rs)) (held (read_sheet P) (map (read_fact P.rows) facts) t) m in
            let f = tuple_from_fact P.rows t facts a.0 (subst (Mem a.0) h a.1) in (
              fact_tuple rs f.0,
              (f.0, f.1, ap (λ (b : Bool). cond b (Some (fact_tuple rs f.0)) None) f.2),
              fact_places f.0 f.2 ∙ ap (map (rep rs)) f.3 ∙ a.2,
            );
      }

-- a singleton whose names are in the row's operands, zero in unused bytes
pub shows_single : (rs : List ℕ) → rep rs 0 ≡ 0 → (w : TermRow) →
    Flat w.arity (names w.a w.b w.c w.d) →
    Shows w.arity (λ x. row_tuple rs w ≡ x)
    (λ u. u ≡ map (rep rs) (take w.arity (w.a ∷ w.b ∷ w.c ∷ w.d ∷ [])))
shows_single rs z w f = record {
  flat = λ x e. subst (Flat w.arity) e (flat_names rs z w.arity w.a w.b w.c w.d f);
  sound = λ x e. ap (places w.arity) (sym e) ∙ places_named rs w.arity w.a w.b w.c w.d;
  complete = λ u e. (row_tuple rs w, refl, places_named rs w.arity w.a w.b w.c w.d ∙ sym e);
}
