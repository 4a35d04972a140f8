-- A sheet in order: how many rows are in (`codes_in`, `rows_in`, `constraints_in`), and what passed (`none_passed`).
use Rattle.std.proofs.Common.{◌≡◌, ℕ, ◌+◌, ◌<◌, true, [], length, sym, ap, ◌∙◌, subst, arith}
use lib.ListN.{length-map}
use Rattle.std.specs.List.{AllByRecursion}
use Rattle.std.proofs.lemmas.List.{length-take-le}
use Rattle.records.specs.declared.rows.Fact.{Fact as FactRow}
use Rattle.meaning.specs.Terms.{names}
use Rattle.calls.specs.Reading.{Plain, read_sheet, read_row, read_fact}
use Rattle.calls.specs.Tests.{fact_ok}
use Rattle.calls.specs.Granted.{Passed}
use Rattle.calls.specs.Stores.{Held}
use Rattle.calls.specs.Sheets.{Filling}
use Rattle.calls.specs.Views.{Orderly, plain_in}
use Rattle.calls.proofs.Lookups.{below}

-- a sheet with neither rows nor constraints passed
pub none_passed : (P : Plain) → P.rows ≡ [] → P.constraints ≡ [] → Passed P
none_passed P er ec =
    record {
      rows =
          λ t r e.
          absurd
          (let l = below P.rows t r e in
          let z : length P.rows ≡ 0 = ap length er in
          omega arith);
      constraints =
          subst (AllByRecursion (λ (f : FactRow). fact_ok P.rows (names (read_sheet P)) f ≡ true)) (sym ec) tt;
    }

module _ (f : Filling) (h : Held) (o : Orderly f h) where
  -- how many labels, terms and constraints are in
  pub codes_in : length (read_sheet (plain_in f h)).codes ≡ f.labels_in
  codes_in =
      length-take-le f.labels_in h.labels (omega arith)

  pub plain_rows : length (plain_in f h).rows ≡ f.terms_in
  plain_rows =
      length-take-le f.terms_in h.terms (omega arith)

  pub rows_in : length (read_sheet (plain_in f h)).rows ≡ f.terms_in
  rows_in = length-map (plain_in f h).rows read_row ∙ plain_rows

  pub constraints_in : length (read_sheet (plain_in f h)).constraints ≡ f.constraints_in
  constraints_in =
      length-map (plain_in f h).constraints (read_fact (plain_in f h).rows)
      ∙ length-take-le f.constraints_in h.facts (omega arith)

  -- once all labels are in, the names are those of the header
  pub names_in : f.labels_in ≡ f.labels → names (read_sheet (plain_in f h)) ≡ f.labels + f.free
  names_in e = ap (λ (k : ℕ). k + f.free) (codes_in ∙ e)

  -- while a label is due there is no term, and while a term is due no constraint
  pub no_terms : f.labels_in < f.labels → f.terms_in ≡ 0
  no_terms l = let none : 0 < f.terms_in → ⊥ = λ m. (let e = o.labels_first m in omega arith) in omega arith

  pub no_constraints : f.terms_in < f.terms → f.constraints_in ≡ 0
  no_constraints l = let none : 0 < f.constraints_in → ⊥ = λ m. (let e = (o.terms_first m).1 in omega arith) in omega arith

  pub no_constraints_yet : f.labels_in < f.labels → f.constraints_in ≡ 0
  no_constraints_yet l = let none : 0 < f.constraints_in → ⊥ = λ m. (let e = (o.terms_first m).0 in omega arith) in omega arith
