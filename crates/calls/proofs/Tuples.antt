-- Tuples in four fields do what lists of names do: reversed (`reversed_is`), joined, split, changed.
use Rattle.std.proofs.Common.{◌≡◌, ℕ, zero, suc, ◌+◌, ◌-◌, ◌<◌, ◌≤◌, List, [], ◌∷◌, ◌++◌, reverse, length, get_or, take, sym, refl, ap, arith}
use Rattle.std.proofs.lemmas.List.{get_or_past, nil_from_length}
use Rattle.records.specs.Tuples as tuple
use Rattle.records.specs.Tuples.{reversed, joined, rest_from, name_at, name_put, fresh_names, before_all}
use Rattle.records.specs.Tuples.{pair_of}
use Rattle.meaning.specs.Calculus.{up_from}
use Rattle.calls.specs.Reading.{names_of, four}

-- reversed
pub reversed_is :
    (u : List ℕ) → 1 ≤ length u → length u ≤ 4 → reversed (length u) (names_of u) ≡ names_of (reverse u)
reversed_is (x ∷ []) l h = refl
reversed_is (x ∷ y ∷ []) l h = refl
reversed_is (x ∷ y ∷ z ∷ []) l h = refl
reversed_is (x ∷ y ∷ z ∷ v ∷ []) l h = refl
reversed_is _ l h = absurd (omega arith)

-- the first names of u, and then v
pub joined_is :
    (u c v : List ℕ) → length u ≤ 4 → joined (length u) (names_of (u ++ c)) (names_of v) ≡ names_of (u ++ v)
joined_is [] c v h = refl
joined_is (x ∷ []) c v h = refl
joined_is (x ∷ y ∷ []) c v h = refl
joined_is (x ∷ y ∷ z ∷ []) c v h = refl
joined_is (x ∷ y ∷ z ∷ o ∷ []) c v h = refl
joined_is _ c v h = absurd (omega arith)

-- the names from a place on
pub rest_is : (a b : List ℕ) → length a + length b ≤ 4 → rest_from (length a) (names_of (a ++ b)) ≡ names_of b
rest_is [] b h = refl
rest_is (x ∷ []) b h = cc (get_or_past b 3 0 (omega arith))
rest_is (x ∷ y ∷ []) b h = cc (get_or_past b 2 0 (omega arith), get_or_past b 3 0 (omega arith))
rest_is (x ∷ y ∷ z ∷ []) b h =
    cc (get_or_past b 1 0 (omega arith), get_or_past b 2 0 (omega arith), get_or_past b 3 0 (omega arith))
rest_is (x ∷ y ∷ z ∷ v ∷ []) b h =
    let e : b ≡ [] = nil_from_length b (omega arith) in cc
rest_is _ b h = absurd (omega arith)

-- the name at a place
pub at_is : (a b : List ℕ) (m : ℕ) → length a ≤ 3 → name_at (length a) (names_of (a ++ (m ∷ b))) ≡ m
at_is [] b m h = refl
at_is (x ∷ []) b m h = refl
at_is (x ∷ y ∷ []) b m h = refl
at_is (x ∷ y ∷ z ∷ []) b m h = refl
at_is _ b m h = absurd (omega arith)

-- a name put at a place
pub put_is :
    (a b : List ℕ) (m e : ℕ) → length a ≤ 3 →
    name_put (length a) (names_of (a ++ (m ∷ b))) e ≡ names_of (a ++ (e ∷ b))
put_is [] b m e h = refl
put_is (x ∷ []) b m e h = refl
put_is (x ∷ y ∷ []) b m e h = refl
put_is (x ∷ y ∷ z ∷ []) b m e h = refl
put_is _ b m e h = absurd (omega arith)

-- fresh names
pub fresh_is : (k n : ℕ) → 1 ≤ k → k ≤ 4 → fresh_names k n ≡ names_of (up_from n k)
fresh_is (suc zero) n l h = refl
fresh_is (suc (suc zero)) n l h = refl
fresh_is (suc (suc (suc zero))) n l h = let e : n + 2 ≡ n + 1 + 1 = omega arith in cc
fresh_is (suc (suc (suc (suc zero)))) n l h =
    let e : n + 2 ≡ n + 1 + 1 = omega arith in
    let e' : n + 3 ≡ n + 1 + 1 + 1 = omega arith in
    cc
fresh_is _ n l h = absurd (omega arith)

-- a tuple read from four fields: its last name, its first name, both of two, any place
pub ends :
    (k x y z v : ℕ) → 1 ≤ k → k ≤ 4 →
    take (k - 1) (four x y z v) ++ (name_at (k - 1) (tuple.names x y z v) ∷ []) ≡ take k (four x y z v)
ends (suc zero) x y z v l h = refl
ends (suc (suc zero)) x y z v l h = refl
ends (suc (suc (suc zero))) x y z v l h = refl
ends (suc (suc (suc (suc zero)))) x y z v l h = refl
ends _ x y z v l h = absurd (omega arith)

pub begins : (k x y z v : ℕ) → 1 ≤ k → x ∷ take (k - 1) (y ∷ z ∷ v ∷ []) ≡ take k (four x y z v)
begins zero x y z v l = absurd (omega arith)
begins (suc k) x y z v l =
    let e : suc k - 1 ≡ k = omega arith in
    ap (λ (i : ℕ). x ∷ take i (y ∷ z ∷ v ∷ [])) e

pub two_are : (k x y z v : ℕ) → k ≡ 2 → x ∷ y ∷ [] ≡ take k (four x y z v)
two_are k x y z v e = ap (λ (i : ℕ). take i (four x y z v)) (sym e)

pub place_is :
    (k w x y z v : ℕ) → w < k → k ≤ 4 → get_or (take k (four x y z v)) w 0 ≡ name_at w (tuple.names x y z v)
place_is (suc k) zero x y z v l h = refl
place_is (suc (suc k)) (suc zero) x y z v l h = refl
place_is (suc (suc (suc k))) (suc (suc zero)) x y z v l h = refl
place_is (suc (suc (suc (suc k)))) (suc (suc (suc zero))) x y z v l h = refl
place_is _ _ x y z v l h = absurd (omega arith)
