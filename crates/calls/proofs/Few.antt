-- The number of tuples is within a limit exactly where the terms have few enough: `few_exact`; and it is what
-- any lists of exactly the terms' tuples have together: `tuples_are`.
use Rattle.std.proofs.Common.{◌≡◌, ℕ, zero, suc, ◌+◌, ◌<◌, ◌≤◌, true, leb, ◌↔◌, List, [], ◌∷◌, ◌++◌, map, length, get_or, take, sym, refl, ap, ◌∙◌, subst, ap₂, arith, le-leb, leb-true}
use native.Mathlib.Decide.{ℕ_discrete}
use Rattle.std.specs.List.{range_with_len}
use Rattle.std.proofs.lemmas.List.{take_more, take_all}
use Rattle.std.proofs.lemmas.List.FromFn.{length-map-range_with_len, get_or-map-range_with_len}
use Rattle.meaning.specs.Terms.{Fact, Sheet, term}
use Rattle.meaning.specs.Meaning.{Interp, Value}
use Rattle.meaning.specs.Finite.{tuple_dec, finite}
use Rattle.meaning.specs.Model.{Named}
use Rattle.meaning.specs.Mixes.{Exactly, total, Few}
use Rattle.calls.specs.Models.{tuples_of, tuples_below, tuples_in}
use Rattle.calls.proofs.Once.{equally_long, once_exactly}

total_push : {X : Type 0} (ls : List (List X)) (l : List X) → total (ls ++ l ∷ []) ≡ total ls + length l
total_push [] l = omega arith
total_push (k ∷ ls) l = let ih = total_push ls l in omega (arith, ih)

module _ (S : Sheet) (I : Interp ℕ) where
  -- the listed tuples of a term are exactly its value's
  pub tuples_exactly : (t : ℕ) → Exactly (Value S.rows I t) (tuples_of S I t)
  tuples_exactly t = once_exactly (tuple_dec ℕ_discrete) (finite ℕ_discrete I (term S.rows t))

  -- the tuples of the terms, term by term
  abbrev all_lists : List (List (List ℕ))
  all_lists = map (tuples_of S I) (range_with_len 0 (length S.rows))

  all_exact : (t : ℕ) → t < length S.rows → Exactly (Value S.rows I t) (get_or all_lists t [])
  all_exact t l =
      subst (Exactly (Value S.rows I t))
      (sym (get_or-map-range_with_len (tuples_of S I) 0 (length S.rows) t t [] l (omega arith))) (tuples_exactly t)

  -- one turn of a loop over the terms
  pub tuples_more : (n : ℕ) → tuples_below S I (n + 1) ≡ tuples_below S I n + length (tuples_of S I n)
  tuples_more n = ap (tuples_below S I) (let more : n + 1 ≡ suc n = omega arith in more)

  module _ (lists : List (List (List ℕ))) (one_each : length lists ≡ length S.rows)
      (exact : (t : ℕ) → t < length S.rows → Exactly (Value S.rows I t) (get_or lists t [])) where
    so_far : (n : ℕ) → n ≤ length S.rows → total (take n lists) ≡ tuples_below S I n
    so_far zero h = refl
    so_far (suc n) h =
        let ih = so_far n (omega arith) in
        let more : suc n ≡ n + 1 = omega arith in
        ap (λ (k : ℕ). total (take k lists)) more
        ∙ ap (λ (l : List (List (List ℕ))). total l) (take_more lists n [] (omega arith))
        ∙ total_push (take n lists) (get_or lists n [])
        ∙ ap₂ ◌+◌ ih
        (equally_long (get_or lists n []) (tuples_of S I n) (exact n (omega arith)) (tuples_exactly n))

    pub tuples_are : tuples_in S I ≡ total lists
    tuples_are =
        sym (so_far (length S.rows) (omega arith))
        ∙ ap (λ (l : List (List (List ℕ))). total l) (take_all (length S.rows) lists (omega arith))

pub few_exact : (S : Sheet) (rs : List ℕ) (facts : List Fact) (m : ℕ) →
    (leb (tuples_in S (Named S rs facts)) m ≡ true) ↔ Few S rs facts m
few_exact S rs facts m = (from, to)
  where
    from : leb (tuples_in S (Named S rs facts)) m ≡ true → Few S rs facts m
    from h =
        let I = Named S rs facts in
        let one_each = length-map-range_with_len (tuples_of S I) 0 (length S.rows) in
        record {
          lists = all_lists S I;
          one_each = one_each;
          exact = all_exact S I;
          few = subst (λ (k : ℕ). k ≤ m) (tuples_are S I (all_lists S I) one_each (all_exact S I)) (leb-true _ m h);
        }

    to : Few S rs facts m → leb (tuples_in S (Named S rs facts)) m ≡ true
    to w =
        le-leb (tuples_in S (Named S rs facts)) m
        (subst (λ (k : ℕ). k ≤ m) (sym (tuples_are S (Named S rs facts) w.lists w.one_each w.exact))
        w.few)
