-- A value that shows a term lists its tuples exactly (`shown_exactly`), and more tuples than places are more than
-- the term's list has (`crowded`).
use Rattle.std.proofs.Common.{◌≡◌, ℕ, ◌<◌, List, [], ◌∷◌, map, length, sym, subst, inl, inr, ⊎_elim, arith}
use mathlib.Core.List.Memᴰ
use mathlib.Core.List.{Memᴰ as Mem}
use lib.ListN.{length-map}
use Rattle.meaning.specs.Mixes.{Once, Exactly}
use Rattle.calls.proofs.Once.{not_longer}
use Rattle.values.specs.Sets.{In, Apart}
use Rattle.values.specs.Gathers.{Denotes, Crowd}
use Rattle.records.specs.declared.tuple.Tuple.{Tuple}
use Rattle.models.specs.Tuples.{places, Flat, Shows}
use Rattle.models.proofs.Places.{flat_same}

-- both ways to say that a list has an element
pub in_mem : {X : Type 0} (l : List X) (x : X) → In l x → Mem x l
in_mem [] x m = absurd m
in_mem (y ∷ l) x m = ⊎_elim (λ e. Mem.head (sym e)) (λ i. Mem.tail (in_mem l x i)) m

pub mem_in : {X : Type 0} (l : List X) (x : X) → Mem x l → In l x
mem_in [] x m = absurd (Memᴰ.not-nil m)
mem_in (y ∷ l) x m = ⊎_elim (λ e. inl (sym e)) (λ i. inr (mem_in l x i)) (Memᴰ.cases_cons m)

-- a list of the tuples of R shows what R shows
pub denotes_shows : {p : ℕ} {R : Tuple → Type 0} {V : List ℕ → Type 0} {v : List Tuple} → Denotes R v →
    Shows p R V → Shows p (In v) V
denotes_shows d s = record {
  flat = λ t m. s.flat t (d.sound t m);
  sound = λ t m. s.sound t (d.sound t m);
  complete = λ u w. let f = s.complete u w in (f.0, d.complete f.0 f.1, f.2);
}

module _ (p : ℕ) where
  from_places : (v : List Tuple) (u : List ℕ) → Mem u (map (places p) v) → (t : Tuple) × In v t × (places p t ≡ u)
  from_places v u m = let f = Memᴰ.of_map (places p) v m in (f.0, mem_in v f.0 f.1, f.2)

  once_places : (v : List Tuple) → Apart v → ((t : Tuple) → In v t → Flat p t) → Once (map (places p) v)
  once_places [] a f = tt
  once_places (x ∷ v) a f = (
    λ m. let g = from_places v (places p x) m in
        a.0 (subst (In v) (flat_same p g.0 x (f g.0 (inr g.1)) (f x (inl (λ i. x))) g.2) g.1),
    once_places v a.1 (λ t i. f t (inr i)),
  )

  pub shown_exactly : (V : List ℕ → Type 0) (v : List Tuple) → Apart v → Shows p (In v) V →
      Exactly V (map (places p) v)
  shown_exactly V v a s = record {
    all = λ u w. let f = s.complete u w in
        subst (λ (x : List ℕ). Mem x (map (places p) v)) f.2 (Memᴰ.map (places p) (in_mem v f.0 f.1));
    only = λ u m. let g = from_places v u m in subst V g.2 (s.sound g.0 g.1);
    once = once_places v a s.flat;
  }

  pub crowded : (R : Tuple → Type 0) (V : List ℕ → Type 0) (k : ℕ) → Crowd R k → Shows p R V →
      (l : List (List ℕ)) → Exactly V l → k < length l
  crowded R V k c s l x =
      let n = not_longer (map (places p) c.some) l
      (once_places c.some c.apart (λ t i. s.flat t (c.sound t i)))
      (λ u m. let g = from_places c.some u m in
      x.all u (subst V g.2 (s.sound g.0 (c.sound g.0 g.1)))) in
      omega (arith, n, length-map c.some (places p), c.many)
