-- One value more of an evaluation: `valued_more` where it had room, `over` where it had none.
use Rattle.std.proofs.Common.{◌≡◌, ℕ, zero, suc, ◌+◌, ◌<◌, ◌≤◌, ◌≢◌, List, [], ◌∷◌, map, length, take, set, sym, ap, ◌∙◌, subst, ⊎_elim, arith, sum_by}
use lib.ListN.{length-map}
use Rattle.std.proofs.lemmas.List.{get_or-set_same, get_or-set_other, get_or-take, take_more_set}
use Rattle.std.proofs.lemmas.List.Sums.{sum_by-append}
use Rattle.std.proofs.lemmas.Bool.{cases_eq}
use Rattle.records.specs.declared.rows.Fact.{Fact}
use Rattle.records.specs.declared.rows.TermRow.{TermRow}
use Rattle.records.specs.declared.tuple.Tuple.{Tuple}
use Rattle.rules.specs.Looked.{row_at}
use Rattle.meaning.specs.Terms.{Sheet}
use Rattle.meaning.specs.Meaning.{Interp, Value}
use Rattle.calls.specs.Reading.{Plain, read_row, read_sheet}
use Rattle.calls.specs.Models.{tuples_of, tuples_below, tuples_in}
use Rattle.calls.proofs.Once.{equally_long}
use Rattle.calls.proofs.Few.{tuples_exactly, tuples_more}
use Rattle.values.specs.Sets.{In, Apart}
use Rattle.values.specs.Gathers.{Denotes, Crowd}
use Rattle.models.specs.Tuples.{places, Shows}
use Rattle.models.specs.Rows.{operation_of, RowHolds, value_of, total, Ground, named_by, Upto, with_rows, Valued}
use Rattle.models.proofs.Counted.{denotes_shows, shown_exactly, crowded}
use Rattle.models.proofs.RowShown.{row_shows}

-- ── counts ─────────────────────────────────────────────────────────────────

pub below_mono : (S : Sheet) (I : Interp ℕ) (k n : ℕ) → k ≤ n → tuples_below S I k ≤ tuples_below S I n
below_mono S I k zero h = let e : k ≡ 0 = omega arith in subst (λ (m : ℕ). tuples_below S I m ≤ 0) (sym e) (omega arith)
below_mono S I k (suc n) h =
    ⊎_elim
    (λ (e : k ≡ suc n). subst (λ (m : ℕ). tuples_below S I k ≤ tuples_below S I m) e (omega arith))
    (λ (e : k ≡ suc n → ⊥). let i = below_mono S I k n (omega arith) in omega (arith, i))
    (cases_eq k (suc n))

-- ── values ─────────────────────────────────────────────────────────────────

-- a value among the first k
pub value_front : (vs : List (List Tuple)) (k j : ℕ) → j < k → value_of (take k vs) j ≡ value_of vs j
value_front vs k j l = get_or-take k vs j [] l

-- the values, once the one with number k is w
module _ (vs : List (List Tuple)) (k : ℕ) (w : List Tuple) (there : k < length vs) where
  value_last : value_of (set vs k w) k ≡ w
  value_last = get_or-set_same vs k w [] there

  value_before : (j : ℕ) → j < k → value_of (set vs k w) j ≡ value_of vs j
  value_before j l = let ne : j ≢ k = omega arith in get_or-set_other vs k j w [] ne

  pub total_more : total (set vs k w) (k + 1) ≡ total vs k + length w
  total_more = ap (sum_by length) (take_more_set vs k w there) ∙ omega (arith, sum_by-append length (take k vs) (w ∷ []))

-- ── what they hold ─────────────────────────────────────────────────────────

-- what row k holds, by the values before it
abbrev pub IsHeldAt : List ℕ → List Fact → List TermRow → ℕ → List (List Tuple) → Tuple → Type 0
IsHeldAt rs facts rows k vs =
    RowHolds (operation_of (row_at rows k).op) rs facts (row_at rows k) k (row_at rows (row_at rows k).a).arity
    (In (value_of (take k vs) (row_at rows k).a)) (In (value_of (take k vs) (row_at rows k).b))

-- what is said of the values at hand, which are those of the first k terms, is said of these
pub at_hand : (Q : (Tuple → Type 0) → Type 0) (rs : List ℕ) (facts : List Fact) (rows : List TermRow) (k m : ℕ) (us vs : List (List Tuple)) →
    m ≡ k → us ≡ take k vs →
    Q (RowHolds (operation_of (row_at rows k).op) rs facts (row_at rows k) m (row_at rows (row_at rows k).a).arity
    (In (value_of us (row_at rows k).a)) (In (value_of us (row_at rows k).b))) → Q (IsHeldAt rs facts rows k vs)
at_hand Q rs facts rows k m us vs em eu q =
    let w : TermRow = row_at rows k in
    subst (λ z. Q (RowHolds (operation_of w.op) rs facts w k (row_at rows w.a).arity (In (value_of z w.a)) (In (value_of z w.b)))) eu
    (subst (λ z. Q (RowHolds (operation_of w.op) rs facts w z (row_at rows w.a).arity (In (value_of us w.a)) (In (value_of us w.b)))) em q)

module _ (P : Plain) (facts : List Fact) (n : ℕ) (rs : List ℕ) (ground : Ground P facts n rs) (k : ℕ)
    (l : k < length P.rows) (vs : List (List Tuple)) (upto : Upto P facts rs k vs) where
  holds_shows : Shows (row_at P.rows k).arity (IsHeldAt rs facts P.rows k vs) (Value (read_sheet P).rows (named_by P facts rs) k)
  holds_shows =
      row_shows P facts n rs ground k (λ j. In (value_of (take k vs) j))
      (λ j h. subst (λ (v : List Tuple). Shows (row_at P.rows j).arity (In v) (Value (read_sheet P).rows (named_by P facts rs) j))
      (sym (value_front vs k j h)) (upto.each j h)) l

  pub over : (room most : ℕ) → room + total vs k ≡ most → Crowd (IsHeldAt rs facts P.rows k vs) room →
      most < tuples_in (read_sheet P) (named_by P facts rs)
  over room most e c =
      let S = read_sheet P in
      let I = named_by P facts rs in
      let m = crowded (row_at P.rows k).arity (IsHeldAt rs facts P.rows k vs) (Value S.rows I k)
      room c holds_shows (tuples_of S I k) (tuples_exactly S I k) in
      let a = tuples_more S I k in
      let b = below_mono S I (k + 1) (length S.rows) (omega (arith, length-map P.rows read_row)) in
      omega (arith, m, a, b, upto.counted)

  module _ (w : List Tuple) (there : k < length vs) (d : Denotes (IsHeldAt rs facts P.rows k vs) w) where
    here : Shows (row_at P.rows k).arity (In w) (Value (read_sheet P).rows (named_by P facts rs) k)
    here = denotes_shows d holds_shows

    counted_more : tuples_below (read_sheet P) (named_by P facts rs) (k + 1) ≡ total (set vs k w) (k + 1)
    counted_more =
        let S = read_sheet P in
        let I = named_by P facts rs in
        let e = equally_long (map (places (row_at P.rows k).arity) w) (tuples_of S I k)
        (shown_exactly (row_at P.rows k).arity (Value S.rows I k) w d.apart here) (tuples_exactly S I k) in
        omega (arith, tuples_more S I k, e, length-map w (places (row_at P.rows k).arity), total_more vs k w there, upto.counted)

    pub upto_more : Upto P facts rs (k + 1) (set vs k w)
    upto_more = record {
      once = λ j h. ⊎_elim
          (λ (e : j ≡ k). subst Apart (sym (value_last vs k w there) ∙ ap (value_of (set vs k w)) (sym e)) d.apart)
          (λ (e : j ≡ k → ⊥). subst Apart (sym (value_before vs k w there j (omega arith))) (upto.once j (omega arith)))
          (cases_eq j k);
      each = λ j h. ⊎_elim
          (λ (e : j ≡ k). subst (λ (i : ℕ). Shows (row_at P.rows i).arity (In (value_of (set vs k w) i)) (Value (read_sheet P).rows (named_by P facts rs) i)) (sym e)
          (subst (λ (v : List Tuple). Shows (row_at P.rows k).arity (In v) (Value (read_sheet P).rows (named_by P facts rs) k))
          (sym (value_last vs k w there)) here))
          (λ (e : j ≡ k → ⊥). subst (λ (v : List Tuple). Shows (row_at P.rows j).arity (In v) (Value (read_sheet P).rows (named_by P facts rs) j))
          (sym (value_before vs k w there j (omega arith))) (upto.each j (omega arith)))
          (cases_eq j k);
      counted = counted_more;
    }

-- ── the loop ───────────────────────────────────────────────────────────────

module _ (rs : List ℕ) (facts : List Fact) (rows : List TermRow) where
  pub valued_more : (k : ℕ) → k < length rows → (vs : List (List Tuple)) → Valued rs facts rows k vs → (w : List Tuple) →
      k < length vs → Denotes (IsHeldAt rs facts rows k vs) w → Valued rs facts rows (k + 1) (set vs k w)
  valued_more k l vs valued w there d codes free constraints n g =
      upto_more (with_rows codes free constraints rows) facts n rs g k l vs (valued codes free constraints n g) w there d
