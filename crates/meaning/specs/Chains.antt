-- Chains: concatenation, and how a chain is decided. A chain over finitely many middle things is decided by
-- taking the middle things one after another.
use Rattle.std.specs.Prelude.{◌≡◌, ◌⊎◌, List, [], ◌∷◌}
use Rattle.std.proofs.Common.{subst, inl, inr, ⊎_elim}
use mathlib.Core.List.{Memᴰ as Mem}
use mathlib.Core.List.Memᴰ
use Rattle.meaning.specs.Meaning.{Chain, one, more}

-- Of two decided statements, whether one holds is decided.
unfoldable pub Dec-⊎ : {P Q : Type 0} → Dec P → Dec Q → Dec (P ⊎ Q)
Dec-⊎ (yes p) d = yes (inl p)
Dec-⊎ (no n) (yes q) = yes (inr q)
Dec-⊎ (no n) (no m) = no (⊎_elim n m)

-- And whether both hold.
unfoldable pub Dec-× : {P Q : Type 0} → Dec P → Dec Q → Dec (P × Q)
Dec-× (yes p) (yes q) = yes (p, q)
Dec-× (yes p) (no m) = no (λ r. m r.1)
Dec-× (no n) d = no (λ r. n r.0)

module _ {A : Type 0} where
  -- A chain after another.
  pub chain_append : {R : A → A → Type 0} {x y z : A} → Chain R x y → Chain R y z → Chain R x z
  chain_append (one r) d = more r d
  chain_append (more r c) d = more r (chain_append c d)

  -- A chain whose pairs are chains themselves.
  pub chain_bind : {R Q : A → A → Type 0} → ((x y : A) → R x y → Chain Q x y) →
      {x y : A} → Chain R x y → Chain Q x y
  chain_bind f (one {x = x} {y = y} r) = f x y r
  chain_bind f (more {x = x} {y = y} r c) = chain_append (f x y r) (chain_bind f c)

  -- The first step of a chain, and the last.
  pub first : {R : A → A → Type 0} {x y : A} → Chain R x y → (w : A) × R x w
  first (one {y = y} r) = (y, r)
  first (more {y = y} r c) = (y, r)

  pub last : {R : A → A → Type 0} {x y : A} → Chain R x y → (w : A) × R w y
  last (one {x = x} r) = (x, r)
  last (more r c) = last c

  -- A chain is one pair, or two, or has a first and a last middle thing with a chain from the one to the
  -- other.
  pub data Shape (R : A → A → Type 0) (x y : A) : Type 0 where
    pair : R x y → Shape R x y
    two : (m : A) → R x m → R m y → Shape R x y
    long : (m l : A) → R x m → Chain R m l → R l y → Shape R x y

  pub shape : {R : A → A → Type 0} {x y : A} → Chain R x y → Shape R x y
  shape (one r) = pair r
  shape {R} (more {x = x} {y = y} {z = z} r c) = grow (shape c)
    where
      grow : Shape R y z → Shape R x z
      grow (pair q) = two y r q
      grow (two m p q) = long y m r (one p) q
      grow (long m l p d q) = long y l r (more p d) q

  -- One middle thing more.
  abbrev pub via : (A → A → Type 0) → A → A → A → Type 0
  via R k x y = R x y ⊎ (R x k × R k y)

  -- Every middle thing of a list, one after another.
  abbrev pub through : (A → A → Type 0) → List A → A → A → Type 0
  through R [] = R
  through R (k ∷ V) = through (via R k) V

  -- A chain whose middle things are all in V.
  data ChainIn (R : A → A → Type 0) (V : List A) : A → A → Type 0 where
    one' : {x y : A} → R x y → ChainIn R V x y
    more' : {x y z : A} → R x y → Mem y V → ChainIn R V y z → ChainIn R V x z

  -- Every chain is one, where V has the first thing of each pair.
  within : {R : A → A → Type 0} (V : List A) → ((x y : A) → R x y → Mem x V) →
      {x y : A} → Chain R x y → ChainIn R V x y
  within V f (one r) = one' r
  within V f (more {y = y} r c) = more' r (f y (first c).0 (first c).1) (within V f c)

  -- A pair to k before a chain from k that may step over k.
  bridge : {R : A → A → Type 0} {k : A} {V : List A} {x y : A} →
      R x k → ChainIn (via R k) V k y → ChainIn (via R k) V x y
  bridge p (one' (inl q)) = one' (inr (p, q))
  bridge p (one' (inr q)) = one' (inr (p, q.1))
  bridge p (more' (inl q) m c) = more' (inr (p, q)) m c
  bridge p (more' (inr q) m c) = more' (inr (p, q.1)) m c

  -- The first middle thing is taken into the relation.
  drop_first : {R : A → A → Type 0} {k : A} {V : List A} {x y : A} →
      ChainIn R (k ∷ V) x y → ChainIn (via R k) V x y
  drop_first (one' r) = one' (inl r)
  drop_first {R} {k} {V} (more' {x = x} {y = y} {z = z} r m c) = go (Memᴰ.cases_cons m) (drop_first c)
    where
      go : (y ≡ k) ⊎ Mem y V → ChainIn (via R k) V y z → ChainIn (via R k) V x z
      go (inl e) d = bridge (subst (R x) e r) (subst (λ (w : A). ChainIn (via R k) V w z) e d)
      go (inr i) d = more' (inl r) i d

  -- And so all of them.
  through_in : (R : A → A → Type 0) (V : List A) {x y : A} → ChainIn R V x y → through R V x y
  through_in R [] (one' r) = r
  through_in R [] (more' r m c) = absurd (Memᴰ.not-nil m)
  through_in R (k ∷ V) c = through_in (via R k) V (drop_first c)

  -- What goes through middle things is a chain, and the other way round.
  pub through_chain : (R : A → A → Type 0) (V : List A) {x y : A} → through R V x y → Chain R x y
  through_chain R [] r = one r
  through_chain R (k ∷ V) r = chain_bind step (through_chain (via R k) V r)
    where
      step : (x y : A) → via R k x y → Chain R x y
      step x y (inl p) = one p
      step x y (inr p) = more p.0 (one p.1)

  pub chain_through : (R : A → A → Type 0) (V : List A) → ((x y : A) → R x y → Mem x V) →
      {x y : A} → Chain R x y → through R V x y
  chain_through R V f c = through_in R V (within V f c)

  -- Going through middle things is decided, and so is a chain.
  unfoldable pub through_dec : (R : A → A → Type 0) (V : List A) → ((x y : A) → Dec (R x y)) →
      (x y : A) → Dec (through R V x y)
  through_dec R [] d = d
  through_dec R (k ∷ V) d = through_dec (via R k) V (λ x y. Dec-⊎ (d x y) (Dec-× (d x k) (d k y)))

  unfoldable pub chain_dec : (R : A → A → Type 0) (V : List A) → ((x y : A) → R x y → Mem x V) →
      ((x y : A) → Dec (R x y)) → (x y : A) → Dec (Chain R x y)
  chain_dec R V f d x y = go (through_dec R V d x y)
    where
      go : Dec (through R V x y) → Dec (Chain R x y)
      go (yes r) = yes (through_chain R V r)
      go (no n) = no (λ c. n (chain_through R V f c))
