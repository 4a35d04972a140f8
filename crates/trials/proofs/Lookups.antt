-- Look-ups by either kind of option: two labels compare as the kind answers for their codes (`labels_told`).
use Rattle.std.proofs.Common.{◌≡◌, ℕ, zero, suc, List, [], ◌∷◌, Some, None, refl, ap, ◌∙◌, ap₂, arith}
use mathlib.Core.Option.{Option, none, some}
use lib.ListN.{get_elem?}
use Rattle.std.specs.List.{slice_get}
use Rattle.std.specs.Result.{result_ok}
use Rattle.labels.specs.Kinds.{sameness_by, sameness}
use Rattle.rules.specs.Looked.{label_at, coded, compared}

-- the same entry by the other option
pub code_there : (xs : List ℕ) (i x : ℕ) → Some x ≡ slice_get xs i → some x ≡ get_elem? xs i
code_there [] i x e = absurd (let z : ◌≡◌ {A = ℕ} 0 1 = cc in omega arith)
code_there (y ∷ xs) zero x e = cc
code_there (y ∷ xs) (suc i) x e = code_there xs i x e

-- none by the other option
pub code_gone : (xs : List ℕ) (i : ℕ) → None ≡ slice_get xs i → none ≡ get_elem? xs i
code_gone [] i e = refl
code_gone (y ∷ xs) zero e = absurd (let z : ◌≡◌ {A = ℕ} 0 1 = cc in omega arith)
code_gone (y ∷ xs) (suc i) e = code_gone xs i e

-- nothing compares to nothing
right_none : (x : Option ℕ) → None ≡ compared x none
right_none none = refl
right_none (some x) = refl

-- the first name has no label
pub left_gone :
    (K : ℕ → Option ℕ) (xs : List ℕ) (i j : ℕ) → None ≡ slice_get xs i →
    None ≡ compared (label_at K xs i) (label_at K xs j)
left_gone K xs i j e = ap (λ (o : Option ℕ). compared (coded K o) (label_at K xs j)) (code_gone xs i e)

-- the second name has no label
pub right_gone :
    (K : ℕ → Option ℕ) (xs : List ℕ) (i j : ℕ) → None ≡ slice_get xs j →
    None ≡ compared (label_at K xs i) (label_at K xs j)
right_gone K xs i j e =
    right_none (label_at K xs i) ∙
    ap (λ (o : Option ℕ). compared (label_at K xs i) (coded K o)) (code_gone xs j e)

-- the kind's answer for the values of two codes, without the fault
answered : (a b : ℕ) (x y : Option ℕ) → result_ok (sameness a b x y) ≡ compared x y
answered a b none y = refl
answered a b (some x) none = refl
answered a b (some x) (some y) = refl

-- both names have labels
pub labels_told :
    (K : ℕ → Option ℕ) (xs : List ℕ) (i j x y : ℕ) → Some x ≡ slice_get xs i → Some y ≡ slice_get xs j →
    result_ok (sameness_by K x y) ≡ compared (label_at K xs i) (label_at K xs j)
labels_told K xs i j x y e f =
    answered x y (K x) (K y) ∙
    ap₂ (λ (o p : Option ℕ). compared (coded K o) (coded K p)) (code_there xs i x e) (code_there xs j y f)
