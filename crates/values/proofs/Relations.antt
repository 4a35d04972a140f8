-- A value filled with a list gathers the relation that the list has (`denotes`, `crowded`), and for each operation its
-- list has exactly its relation.
use Rattle.std.proofs.Common.{◌≡◌, ℕ, ◌<◌, Bool, true, false, cond, List, [], ◌∷◌, ◌++◌, length, Some, None, Decides, Option, sym, refl, ap, subst, inl, inr, ⊎_elim}
use Rattle.std.specs.List.{flat_map}
use Rattle.std.proofs.lemmas.Bool.{cases_Bool}
use Rattle.values.specs.Sets.{has, puts, In}
use Rattle.records.specs.Tuples.{equal_names}
use Rattle.values.specs.Gathers.{listed, Denotes, Crowd, Either, Both, Without, Made, Paired}
use Rattle.values.specs.Held.{Gathered}
use Rattle.records.specs.declared.tuple.Tuple.{Tuple}
use Rattle.values.specs.declared.value.Value.{Value}
use Rattle.values.proofs.Theory.{in_left, in_right, in_cases, apart_puts, puts_new, puts_from, has_in, in_has, has_not}
use Rattle.values.proofs.Inserting.{same_law}

-- a value filled with a list holds what the list does
module _ {X : Type 0} (e : X → X → Bool) (law : (x y : X) → Decides (e x y) (x ≡ y)) (R : X → Type 0) (raw : List X) (to : (t : X) → In raw t → R t) where
  sound : (t : X) → In (puts e [] raw) t → R t
  sound t m = to t (⊎_elim (λ n. absurd n) (λ n. n) (puts_from e law [] raw t m))

  pub denotes : ((t : X) → R t → In raw t) → (v : List X) → v ≡ puts e [] raw → Denotes R v
  denotes from v is = subst (Denotes R) (sym is) (record {
    apart = apart_puts e law [] raw tt;
    sound = sound;
    complete = λ t r. puts_new e law [] raw t (from t r);
  })

  pub crowded : (k : ℕ) → k < length (puts e [] raw) → Crowd R k
  crowded k h = record { some = puts e [] raw; apart = apart_puts e law [] raw tt; sound = sound; many = h }

-- two ways to say what is gathered
pub gathered_like : (R Q : Tuple → Type 0) → ((t : Tuple) → R t → Q t) → ((t : Tuple) → Q t → R t) → (k : ℕ) (o : Option Value) → Gathered R k o → Gathered Q k o
gathered_like R Q to from k (Some v) g = record { apart = g.apart; sound = λ t i. to t (g.sound t i); complete = λ t q. g.complete t (from t q) }
gathered_like R Q to from k None g = record { some = g.some; apart = g.apart; sound = λ t i. to t (g.sound t i); many = g.many }

pub listed_to : {X : Type 0} (o : Option X) (t : X) → o ≡ Some t → In (listed o) t
listed_to o t p = rw p (inl refl)

pub listed_from : {X : Type 0} (o : Option X) (t : X) → In (listed o) t → o ≡ Some t
listed_from None t m = absurd m
listed_from (Some x) t m = ⊎_elim (λ p. ap Some p) (λ q. absurd q) m

-- what is in a joined list
module _ {X Y : Type 0} (f : Y → List X) where
  pub joined_from : (s : List Y) (t : X) → In (flat_map f s) t → (y : Y) × In s y × In (f y) t
  joined_from [] t m = absurd m
  joined_from (y ∷ ys) t m =
      ⊎_elim (λ p. (y, inl refl, p)) (λ p. let r = joined_from ys t p in (r.0, inr r.1, r.2)) (in_cases (f y) (flat_map f ys) t m)

  pub joined_to : (s : List Y) (y : Y) (t : X) → In s y → In (f y) t → In (flat_map f s) t
  joined_to [] y t m p = absurd m
  joined_to (z ∷ zs) y t m p =
      ⊎_elim
      (λ q. in_left (f z) (flat_map f zs) t (subst (λ w. In (f w) t) (sym q) p))
      (λ q. in_right (f z) (flat_map f zs) t (joined_to zs y t q p))
      m

-- what the elements of a list make, as a list
abbrev pub made : {X Y : Type 0} → (Y → Option X) → List Y → List X
made m s = flat_map (λ y. listed (m y)) s

module _ {X Y : Type 0} (m : Y → Option X) (s : List Y) (t : X) where
  pub made_from : In (made m s) t → (y : Y) × In s y × (m y ≡ Some t)
  made_from i = let r = joined_from (λ y. listed (m y)) s t i in (r.0, r.1, listed_from (m r.0) t r.2)

  pub made_to : (y : Y) × In s y × (m y ≡ Some t) → In (made m s) t
  made_to r = joined_to (λ y. listed (m y)) s r.0 t r.1 (listed_to (m r.0) t r.2)

-- a copy makes what it copies
pub made_same : {X : Type 0} (s : List X) → made Some s ≡ s
made_same [] = refl
made_same (x ∷ xs) = ap (λ ys. x ∷ ys) (made_same xs)

-- what all pairs make
module _ (m : Tuple → Tuple → Option Tuple) (s r : List Tuple) (t : Tuple) where
  pub paired_from : In (flat_map (λ x. made (m x) r) s) t → Paired m (In s) (In r) t
  paired_from i = let q = joined_from (λ x. made (m x) r) s t i in (q.0, q.1, made_from (m q.0) r t q.2)

  pub paired_to : Paired m (In s) (In r) t → In (flat_map (λ x. made (m x) r) s) t
  paired_to q = joined_to (λ x. made (m x) r) s q.0 t q.1 (made_to (m q.0) r t q.2)

-- the sieves: x if it is in r, and if it is not
abbrev pub kept : List Tuple → Tuple → Option Tuple
kept r x = cond (has equal_names r x) (Some x) None

abbrev pub left : List Tuple → Tuple → Option Tuple
left r x = cond (has equal_names r x) None (Some x)

kept_is : (b : Bool) (x t : Tuple) → cond b (Some x) None ≡ Some t → (b ≡ true) × (x ≡ t)
kept_is true x t e = (refl, ⊎_elim (λ p. p) (λ q. absurd q) (listed_to (Some x) t e))
kept_is false x t e = absurd (listed_to None t e)

left_is : (b : Bool) (x t : Tuple) → cond b None (Some x) ≡ Some t → (b ≡ false) × (x ≡ t)
left_is false x t e = (refl, ⊎_elim (λ p. p) (λ q. absurd q) (listed_to (Some x) t e))
left_is true x t e = absurd (listed_to None t e)

module _ (s r : List Tuple) (t : Tuple) where
  pub both_from : Made (kept r) (In s) t → Both (In s) (In r) t
  both_from q =
      let o = kept_is (has equal_names r q.0) q.0 t q.2 in
      (subst (In s) o.1 q.1, subst (In r) o.1 (has_in equal_names same_law r q.0 o.0))

  pub both_to : Both (In s) (In r) t → Made (kept r) (In s) t
  both_to q = (t, q.0, rw (in_has equal_names same_law r t q.1) refl)

  pub without_from : Made (left r) (In s) t → Without (In s) (In r) t
  without_from q =
      let o = left_is (has equal_names r q.0) q.0 t q.2 in
      (subst (In s) o.1 q.1, λ i. has_not equal_names same_law r t (subst (λ x. has equal_names r x ≡ false) o.1 o.0) i)

  pub without_to : Without (In s) (In r) t → Made (left r) (In s) t
  without_to q =
      ⊎_elim
      (λ (p : has equal_names r t ≡ true). absurd (q.1 (has_in equal_names same_law r t p)))
      (λ (p : has equal_names r t ≡ false). (t, q.0, rw p refl))
      (cases_Bool (has equal_names r t))

  pub either_from : In (s ++ r) t → Either (In s) (In r) t
  either_from m = in_cases s r t m

  pub either_to : Either (In s) (In r) t → In (s ++ r) t
  either_to m = ⊎_elim (λ p. in_left s r t p) (λ p. in_right s r t p) m
