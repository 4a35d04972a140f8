-- Labels: compared as a rule asks exactly where both names bear values that are the same, or not the same.
use Rattle.std.proofs.Common.{◌≡◌, ℕ, Bool, true, false, eqb, ◌≢◌, List, sym, refl, ap, ◌∙◌, ap₂, ne_eqb, eqb-true}
use mathlib.Core.Option.{Option, none, some}
use borrow.Author.Tests.{eqb-false}
use lib.ListN.{get_elem?}
use Rattle.rules.specs.Rules.{labels_are, same_bool}
use Rattle.rules.specs.Looked.{label_at, coded, compared}
use Rattle.meaning.specs.Terms.{Sheet}
use Rattle.meaning.specs.Meaning.{Bears}
use Rattle.calls.proofs.Truth.{eqb_self}

module _ (K : ℕ → Option ℕ) (codes : List ℕ) where
  -- what the question about the labels of a and b answers
  abbrev asked : ℕ → ℕ → Bool → Bool
  asked a b = labels_are (compared (label_at K codes a) (label_at K codes b))

  pub labels_apart :
      (a b x y : ℕ) → label_at K codes a ≡ some x → label_at K codes b ≡ some y → x ≢ y →
      asked a b false ≡ true
  labels_apart a b x y ha hb ne =
      ap₂ (λ (i j : Option ℕ). labels_are (compared i j) false) ha hb
      ∙ ap (λ (z : Bool). same_bool z false) (ne_eqb x y ne)

  pub labels_alike :
      (a b x : ℕ) → label_at K codes a ≡ some x → label_at K codes b ≡ some x → asked a b true ≡ true
  labels_alike a b x ha hb =
      ap₂ (λ (i j : Option ℕ). labels_are (compared i j) true) ha hb
      ∙ ap (λ (z : Bool). same_bool z true) (eqb_self x)

-- a name that bears a value is labelled with it, and back
pub borne : (K : ℕ → Option ℕ) (S : Sheet) (e x : ℕ) → Bears K S e x → label_at K S.codes e ≡ some x
borne K S e x b = ap (coded K) b.1 ∙ b.2

-- labels compared are both there, with values that differ
pub compared_apart :
    (x y : Option ℕ) → labels_are (compared x y) false ≡ true →
    (a : ℕ) × (b : ℕ) × (x ≡ some a) × (y ≡ some b) × (a ≡ b → ⊥)
compared_apart none y e = absurd cc
compared_apart (some a) none e = absurd cc
compared_apart (some a) (some b) e = (a, b, refl, refl, eqb-false a b (go (eqb a b) e))
  where
    go : (z : Bool) → same_bool z false ≡ true → z ≡ false
    go true e = absurd cc
    go false e = refl

-- or with one value
pub compared_alike :
    (x y : Option ℕ) → labels_are (compared x y) true ≡ true → (a : ℕ) × (x ≡ some a) × (y ≡ some a)
compared_alike none y e = absurd cc
compared_alike (some a) none e = absurd cc
compared_alike (some a) (some b) e = (a, refl, ap some (sym (eqb-true a b (go (eqb a b) e))))
  where
    go : (z : Bool) → same_bool z true ≡ true → z ≡ true
    go true e = refl
    go false e = absurd cc

pub bears : (K : ℕ → Option ℕ) (S : Sheet) (e x : ℕ) → label_at K S.codes e ≡ some x → Bears K S e x
bears K S e x h = go (get_elem? S.codes e) refl h
  where
    go : (o : Option ℕ) → get_elem? S.codes e ≡ o → coded K o ≡ some x → Bears K S e x
    go none q h = absurd cc
    go (some c) q h = (c, q, h)
