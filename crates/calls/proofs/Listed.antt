-- The lines that are listed from numbers and stores are the subject's listing of the trial read from them
-- (`listing_exact`).
use Rattle.std.proofs.Common.{◌≡◌, ℕ, zero, suc, Bool, true, false, cond, ◌&&◌, eqb, ltb, List, [], ◌∷◌, ◌++◌, map, length, take, sym, refl, ap, ◌∙◌, arith}
use lib.ListN.{get_elem?}
use Rattle.std.specs.List.{flat_map}
use Rattle.std.proofs.lemmas.Grind.{common_steps}
use Rattle.std.proofs.lemmas.Bool.{le-ltb, lt-ltb}
use Rattle.records.specs.declared.rows.Fact.{Fact as FactRow}
use Rattle.records.specs.declared.rows.TermRow.{TermRow}
use Rattle.records.specs.declared.verdict.Verdict.{Verdict}
use Rattle.records.specs.declared.verdict.Verdict.TheVariants as verdict
use Rattle.rules.specs.Looked.{row_at}
use Rattle.meaning.specs.Terms.{variable, empty, single, union, inter, diff, transp, prod, join, closure}
use Rattle.meaning.specs.Terms.{Sheet, member, equal, same}
use Rattle.meaning.specs.Model.{rep, is_variable, row_is_variable}
use Rattle.meaning.specs.Text.{opened, inside}
use Rattle.meaning.specs.Mixes.{name_lines, in_line, in_lines, facts_of, verdict_lines}
use Rattle.calls.specs.Reading.{op_of, four, read_row, tuple_of, read_fact, read_sheet}
use Rattle.calls.specs.Stores.{Held}
use Rattle.calls.specs.Sheets.{Counts}
use Rattle.calls.specs.RuleSteps.{rows_of, branch_facts}
use Rattle.calls.specs.Trials.{plain_of}
use Rattle.calls.specs.Views.{state_by, verdict_by}
use Rattle.calls.specs.Listing.{fact_lines, lines_by}
use Rattle.calls.specs.Runs.{ListingIsExact}

-- none of the other operations is a variable
other_op :
    (b1 b2 b3 b4 b5 b6 b7 b8 : Bool) (x y : ℕ) (v : List ℕ) →
    is_variable
    (cond b1 empty
    (cond b2 (single v)
    (cond b3 (union x y)
    (cond b4 (inter x y)
    (cond b5 (diff x y)
    (cond b6 (transp x) (cond b7 (prod x y) (cond b8 (join x y) (closure x)))))))))
    ≡ false
other_op false false false false false false false false x y v = refl
other_op _ _ _ _ _ _ _ _ x y v = refl

-- the operation with the number 0 is the variable
variable_op : (k x y : ℕ) (v : List ℕ) → is_variable (op_of k x y v) ≡ eqb k 0
variable_op k x y v = by (eqb k 0)
  where
    by : (b : Bool) →
        is_variable
        (cond b variable
        (cond (eqb k 1) empty
        (cond (eqb k 2) (single v)
        (cond (eqb k 3) (union x y)
        (cond (eqb k 4) (inter x y)
        (cond (eqb k 5) (diff x y)
        (cond (eqb k 6) (transp x)
        (cond (eqb k 7) (prod x y) (cond (eqb k 8) (join x y) (closure x))))))))))
        ≡ b
    by true = refl
    by false = other_op (eqb k 1) (eqb k 2) (eqb k 3) (eqb k 4) (eqb k 5) (eqb k 6) (eqb k 7) (eqb k 8) x y v

-- row t is a variable exactly where it is there and has the operation 0
variable_row :
    (rows : List TermRow) (t : ℕ) →
    row_is_variable (get_elem? (map read_row rows) t) ≡ (ltb t (length rows) && eqb (row_at rows t).op 0)
variable_row [] t = ap (λ b. b && eqb 0 0) (sym (le-ltb t 0 (omega arith)))
variable_row (r ∷ rows) zero =
    variable_op r.op r.a r.b (take r.arity (four r.a r.b r.c r.d))
    ∙ ap (λ b. b && eqb r.op 0) (sym (lt-ltb 0 (length (r ∷ rows)) (omega arith)))
variable_row (r ∷ rows) (suc t) =
    variable_row rows t ∙ ap (λ b. b && eqb (row_at rows t).op 0) (less (length rows))
  where
    less : (n : ℕ) → ltb t n ≡ ltb (suc t) (suc n)
    less n = grind (arith, common_steps)

module _ (rs : List ℕ) (rows : List TermRow) (S : Sheet) (same_rows : S.rows ≡ map read_row rows) where
  -- one fact, by its sign and its form's tests
  one_line :
      (f : FactRow) (g b c : Bool) →
      cond ((b && g) && (ltb f.term (length rows) && eqb (row_at rows f.term).op 0))
      (inside f.term (map (rep rs) (tuple_of rows f)) ∷ []) []
      ≡ in_line S rs g
      (cond b (member (tuple_of rows f) f.term) (cond c (equal f.a f.b) (same f.term f.a)))
  one_line f true true c =
      ap (λ (b : Bool). cond b (inside f.term (map (rep rs) (tuple_of rows f)) ∷ []) [])
      (sym (ap (λ l. row_is_variable (get_elem? l f.term)) same_rows ∙ variable_row rows f.term))
  one_line f false true c = refl
  one_line f true false true = refl
  one_line f true false false = refl
  one_line f false false true = refl
  one_line f false false false = refl

  -- all facts
  all_lines : (fs : List FactRow) → flat_map (fact_lines rs rows) fs ≡ in_lines S rs (map (read_fact rows) fs)
  all_lines [] = refl
  all_lines (f ∷ fs) =
      ap (λ l. fact_lines rs rows f ++ l) (all_lines fs)
      ∙ ap (λ l. l ++ in_lines S rs (map (read_fact rows) fs))
      (one_line f f.positive (eqb f.form 1) (eqb f.form 2))

-- the lines by the verdict
listed_by :
    (t : Counts) (h : Held) (v : Verdict) →
    lines_by v t h ≡ verdict_lines (read_sheet (plain_of t h)) t.granted (facts_of (state_by v t h)) (verdict_by v t h)
listed_by t h verdict.Undecided = refl
listed_by t h verdict.Closed = refl
listed_by t h verdict.Open =
    let rs : List ℕ = take t.names h.representatives in
    ap (λ l. opened t.granted ∷ (name_lines rs 0 ++ l))
    (all_lines rs (rows_of t h) (read_sheet (plain_of t h)) refl (branch_facts t h))

pub listing_exact : ListingIsExact
listing_exact t h w = listed_by t h t.verdict
