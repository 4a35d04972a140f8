-- What the names of a branch mean may be changed at fresh names: facts on the others keep their truth, `sat_old`.
use Rattle.std.proofs.Common.{◌≡◌, ℕ, suc, ◌+◌, ◌-◌, ◌<◌, Bool, true, false, ◌↔◌, List, [], ◌∷◌, map, length, get_or, sym, refl, ap, ◌∙◌, subst, ap₂, arith}
use mathlib.Core.List.{reverse_aux}
use native.Mathlib.Decide.{dec_lt}
use Rattle.std.specs.List.{AllByRecursion}
use Rattle.std.proofs.lemmas.List.{get_or_default}
use Rattle.meaning.specs.Terms.{Row, Form, member, equal, same, Fact}
use Rattle.meaning.specs.Meaning.{Interp, Holds, Sat, SatFact, Value}
use Rattle.meaning.specs.Calculus.{up_from}

-- the names of a form are below n
abbrev pub FormBelow : ℕ → Form → Type 0
FormBelow n (member u t) = AllByRecursion (λ e. e < n) u
FormBelow n (equal a b) = (a < n) × (b < n)
FormBelow n (same s r) = Unit {0}

abbrev pub Below : ℕ → Fact → Type 0
Below n c = FormBelow n c.form

pub map_reverse_aux : {A B : Type 0} (f : A → B) (u v : List A) → map f (reverse_aux u v) ≡ reverse_aux (map f u) (map f v)
map_reverse_aux f [] v = refl
map_reverse_aux f (x ∷ u) v = map_reverse_aux f u (x ∷ v)

module _ {A : Type 0} where
  choose : {P : Type 0} → Dec P → A → A → A
  choose (yes p) a b = a
  choose (no n) a b = b

  -- e, but the names n, n + 1, .. mean the members of u
  pub put : (ℕ → A) → ℕ → List A → ℕ → A
  unfolding choose
  put e n u i = choose (dec_lt i n) (e i) (get_or u (i - n) (e i))

  pub put_old : (e : ℕ → A) (n : ℕ) (u : List A) (i : ℕ) → i < n → put e n u i ≡ e i
  unfolding put
  put_old e n u i h = go (dec_lt i n)
    where
      go : (d : Dec (i < n)) → choose d (e i) (get_or u (i - n) (e i)) ≡ e i
      go (yes p) = refl
      go (no k) = absurd (k h)

  pub put_new : (e : ℕ → A) (n : ℕ) (u : List A) (j : ℕ) (d : A) → j < length u → put e n u (n + j) ≡ get_or u j d
  unfolding put
  put_new e n u j d h = go (dec_lt (n + j) n)
    where
      go : (p : Dec (n + j < n)) → choose p (e (n + j)) (get_or u (n + j - n) (e (n + j))) ≡ get_or u j d
      go (yes p) = absurd (omega arith)
      go (no k) = let q : n + j - n ≡ j = omega arith in ap (λ (i : ℕ). get_or u i (e (n + j))) q ∙ get_or_default u j (e (n + j)) d h

  pub map_old : (f g : ℕ → A) (n : ℕ) → ((i : ℕ) → i < n → f i ≡ g i) → (v : List ℕ) → AllByRecursion (λ i. i < n) v → map f v ≡ map g v
  map_old f g n h [] b = refl
  map_old f g n h (x ∷ v) b = λ i. h x b.0 i ∷ map_old f g n h v b.1 i

  map_run : (f : ℕ → A) (m : ℕ) (u : List A) → ((j : ℕ) (d : A) → j < length u → f (m + j) ≡ get_or u j d) → map f (up_from m (length u)) ≡ u
  map_run f m [] h = refl
  map_run f m (x ∷ u) h =
      let z : m + 0 ≡ m = omega arith in
      ap₂ ◌∷◌ (ap f (sym z) ∙ h 0 x (omega arith)) (map_run f (m + 1) u (λ j d l. let q : m + 1 + j ≡ m + suc j = omega arith in ap f q ∙ h (suc j) d (omega arith)))

  pub map_new : (e : ℕ → A) (n k : ℕ) (u : List A) → length u ≡ k → map (put e n u) (up_from n k) ≡ u
  map_new e n k u h = subst (λ (i : ℕ). map (put e n u) (up_from n i) ≡ u) h (map_run (put e n u) n u (put_new e n u))

  -- a form says the same under two meanings that agree on its names
  pub holds_old : (rs : List Row) (I : Interp A) (f g : ℕ → A) (n : ℕ) → ((i : ℕ) → i < n → f i ≡ g i) → (c : Form) → FormBelow n c → Holds rs I f c ↔ Holds rs I g c
  holds_old rs I f g n h (member u t) b = let q = map_old f g n h u b in (λ v. subst (Value rs I t) q v, λ v. subst (Value rs I t) (sym q) v)
  holds_old rs I f g n h (equal x y) b = (λ e. sym (h x b.0) ∙ e ∙ h y b.1, λ e. h x b.0 ∙ e ∙ sym (h y b.1))
  holds_old rs I f g n h (same s r) b = (λ e. e, λ e. e)

  pub sat_iff : (rs : List Row) (I : Interp A) (f g : ℕ → A) (s : Bool) (c c' : Form) → Holds rs I f c ↔ Holds rs I g c' → Sat rs I f s c → Sat rs I g s c'
  sat_iff rs I f g true c c' h p = h.0 p
  sat_iff rs I f g false c c' h p = λ q. p (h.1 q)

  pub sat_old : (rs : List Row) (I : Interp A) (f g : ℕ → A) (n : ℕ) → ((i : ℕ) → i < n → f i ≡ g i) → (cs : List Fact) → AllByRecursion (Below n) cs → AllByRecursion (SatFact rs I f) cs → AllByRecursion (SatFact rs I g) cs
  sat_old rs I f g n h [] b p = tt
  sat_old rs I f g n h (c ∷ cs) b p = (sat_iff rs I f g c.sign c.form c.form (holds_old rs I f g n h c.form b.0) p.0, sat_old rs I f g n h cs b.1 p.1)
