-- The answer after evaluation (`judged_over`, `judged_by`), after lawfulness (`answered_by`), and what a granted
-- model says of the things that its names mean (`satisfies_listed`, `satisfying_by`).
use Rattle.std.proofs.Common.{◌≡◌, ℕ, ◌<◌, ◌≤◌, Bool, cond, List, map, length, take, Ok, Err, Option, Result, sym, refl, ap, ◌∙◌, subst, ⊎_elim, arith, eq-eqb, le-leb}
use mathlib.Core.Option as maybe
use borrow.Author.Tests.{lt-leb}
use lib.ListN.{length-map}
use Rattle.std.proofs.lemmas.List.{get_or_past}
use Rattle.std.proofs.lemmas.Bool.{cases_lt}
use Rattle.records.specs.declared.rows.Fact.{Fact}
use Rattle.records.specs.declared.rows.TermRow.{TermRow}
use Rattle.records.specs.declared.refusal.Refusal.{Refusal}
use Rattle.records.specs.declared.refusal.Refusal.TheVariants.{TuplesOver, Unlawful}
use Rattle.rules.specs.Looked.{row_at}
use Rattle.meaning.specs.Terms.{Sheet}
use Rattle.meaning.specs.Meaning.{CodeMeaning, Interp, Value, Satisfies}
use Rattle.meaning.specs.Model.{rep, Listed}
use Rattle.meaning.proofs.Models.{satisfied}
use Rattle.calls.specs.Reading.{read_row, read_fact, read_sheet}
use Rattle.calls.specs.Bridge.{read_branch, Fair}
use Rattle.calls.specs.Models.{first_bad, name_lawful, tuples_below, tuples_in, first_false, on_constraints, on_names, model_answer}
use Rattle.calls.proofs.Below.{none_bad}
use Rattle.calls.proofs.Lawful.{passes}
use Rattle.calls.proofs.Models.{model_exact}
use Rattle.values.specs.Sets.{In}
use Rattle.records.specs.declared.tuple.Tuple.{Tuple}
use Rattle.models.specs.Tuples.{Shows}
use Rattle.models.specs.Rows.{total, Ground, named_by, with_rows, Valued}
use Rattle.models.specs.Constraints.{IsHeld, IsFirstFalse}
use Rattle.models.specs.Lawfulness.{labelled_by, answered}
use Rattle.models.specs.Checks.{judged, sheet_of, Answers, Satisfying}
use Rattle.models.proofs.Laying.{value_front}
use Rattle.models.proofs.Constrained.{first_is}

-- ── after evaluation ───────────────────────────────────────────────────────

pub judged_over : (S : Sheet) (I : Interp ℕ) (most : ℕ) → most < tuples_in S I → Err TuplesOver ≡ judged S I most
judged_over S I most h =
    sym (ap (λ (b : Bool). cond b (on_constraints (first_false S I S.constraints 0)) (Err TuplesOver)) (lt-leb (tuples_in S I) most h))

judged_within : (S : Sheet) (I : Interp ℕ) (most : ℕ) (o : maybe.Option ℕ) → tuples_in S I ≤ most →
    first_false S I S.constraints 0 ≡ o → on_constraints o ≡ judged S I most
judged_within S I most o h e =
    sym (ap (λ (b : Bool). cond b (on_constraints (first_false S I S.constraints 0)) (Err TuplesOver)) (le-leb (tuples_in S I) most h)
    ∙ ap on_constraints e)

module _ (rs : List ℕ) (facts : List Fact) (rows : List TermRow) (m : ℕ) (few : m ≤ length facts) (vs : List (List Tuple)) (most : ℕ)
    (valued : Valued rs facts rows (length rows) vs) (room : total vs (length rows) ≤ most) (codes : List ℕ) (free n : ℕ)
    (ground : Ground (with_rows codes free (take m facts) rows) facts n rs) where
  pub judged_by : (r : Option ℕ) → IsFirstFalse rs (IsHeld (take (length rows) vs)) facts m r →
      on_constraints (answered r)
      ≡ judged (read_sheet (with_rows codes free (take m facts) rows)) (named_by (with_rows codes free (take m facts) rows) facts rs) most
  judged_by r f =
      let P = with_rows codes free (take m facts) rows in
      let upto = valued codes free (take m facts) n ground in
      let many = length-map rows read_row in
      let count = ap (tuples_below (read_sheet P) (named_by P facts rs)) many in
      judged_within (read_sheet P) (named_by P facts rs) most (answered r)
      (omega (arith, count, upto.counted, room))
      (first_is P facts n rs ground (IsHeld (take (length rows) vs))
      (λ j l. subst (λ (v : List Tuple). Shows (row_at rows j).arity (In v) (Value (read_sheet P).rows (named_by P facts rs) j))
      (sym (value_front vs (length rows) j l)) (upto.each j l))
      m few refl r f)

-- ── after lawfulness ───────────────────────────────────────────────────────

-- lawful representatives keep name 0
pub zero_stays : (K : CodeMeaning) (codes rs : List ℕ) (n : ℕ) → first_bad (name_lawful K (labelled_by codes) rs) n ≡ maybe.none →
    length rs ≡ n → rep rs 0 ≡ 0
zero_stays K codes rs n e h =
    ⊎_elim
    (λ (l : 0 < n). let p = passes K (labelled_by codes) rs 0 (none_bad (name_lawful K (labelled_by codes) rs) n 0 e l) in omega (arith, p.low))
    (λ (l : n ≤ 0). get_or_past rs 0 0 (omega arith))
    (cases_lt 0 n)

module _ (K : CodeMeaning) (codes : List ℕ) (rows : List TermRow) (facts : List Fact) (m n count : ℕ) (rs : List ℕ) where
  pub answered_by : (free : ℕ) → count ≡ n → first_bad (name_lawful K (labelled_by codes) rs) n ≡ maybe.none →
      judged (read_sheet (sheet_of codes free rows facts m)) (named_by (sheet_of codes free rows facts m) facts rs) 4096
      ≡ model_answer K (read_sheet (sheet_of codes free rows facts m)) (read_branch (sheet_of codes free rows facts m) facts n) count rs
  answered_by free e f =
      let P = sheet_of codes free rows facts m in
      sym (ap (λ (b : Bool). cond b (on_names (read_sheet P) (named_by P facts rs) (first_bad (name_lawful K (read_sheet P) rs) n)) (Err (Unlawful 255)))
      (eq-eqb count n e)
      ∙ ap (on_names (read_sheet P) (named_by P facts rs)) f)

  -- ── what is granted ──────────────────────────────────────────────────────

  pub satisfies_listed : (free : ℕ) → Fair (sheet_of codes free rows facts m) facts n → length rs ≡ count →
      model_answer K (read_sheet (sheet_of codes free rows facts m)) (read_branch (sheet_of codes free rows facts m) facts n) count rs ≡ Ok tt →
      Satisfies (read_sheet (sheet_of codes free rows facts m))
      (Listed K (read_sheet (sheet_of codes free rows facts m)) rs (map (read_fact rows) facts))
  satisfies_listed free fair len ok =
      let P = sheet_of codes free rows facts m in
      let g = (model_exact K (read_sheet P) (read_branch P facts n) count rs len (omega (arith, fair.named))).0 ok in
      satisfied K (read_sheet P) n rs g.0 (map (read_fact rows) facts) g.2

  -- the answer says so where it is granted
  pub satisfying_by : (r : Result (Unit {0}) Refusal) → Answers K codes rows facts m n count rs r →
      Satisfying K codes rows facts m n count rs r
  satisfying_by r answers free fair len ok = satisfies_listed free fair len (sym (answers free fair len) ∙ ok)
