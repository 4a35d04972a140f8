-- Whether a row passes, and what comes of a row of each sort: the parts of `row_added`.
use Rattle.std.specs.Prelude.{ℕ, ◌+◌, Bool, cond, ◌&&◌, List, take, nat_le, nat_lt}
use Rattle.std.proofs.Math.Option.{Option}
use Rattle.records.specs.declared.refusal.Refusal.TheVariants.{NotDue}
use Rattle.records.specs.declared.rows.TermRow.{TermRow}
use Rattle.records.specs.declared.rows.ConstraintRow.{ConstraintRow}
use Rattle.calls.specs.Stores.{Held}
use Rattle.calls.specs.Tests.{row_ok, fact_ok}
use Rattle.calls.specs.Sheets.{Filling, Added, not_added}
use Rattle.records.specs.Reading.{fact_said}
use Rattle.calls.specs.Sheets.{label_added, term_added, constraint_added}

-- how many names a sheet has: its labels and the free ones
abbrev pub names_of : Filling → ℕ
names_of f = f.labels + f.free

-- the term rows that are in
abbrev pub terms_of : Filling → Held → List TermRow
terms_of f h = take f.terms_in h.terms

-- the term's row that comes next passes over those before it
abbrev pub term_passes : Filling → Held → TermRow → Bool
term_passes f h r = row_ok (terms_of f h) (names_of f) f.terms_in r

-- a constraint's row has a sign of 0 or 1, and its fact passes over the term rows
abbrev pub constraint_passes : Filling → Held → ConstraintRow → Bool
constraint_passes f h r = nat_le r.sign 1 && fact_ok (terms_of f h) (names_of f) (fact_said r)

-- a label's row: labels come first
abbrev pub label_row : (ℕ → Option ℕ) → Filling → Held → ℕ → Added
label_row K f h c = cond (nat_lt f.labels_in f.labels) (label_added K f h c) (not_added f h NotDue)

-- a term's row: once the labels are in
abbrev pub term_row : Filling → Held → TermRow → Added
term_row f h r =
    cond (nat_lt f.labels_in f.labels) (not_added f h NotDue)
    (cond (nat_lt f.terms_in f.terms) (term_added f h r) (not_added f h NotDue))

-- a constraint's row: once the terms are in too
abbrev pub constraint_row : Filling → Held → ConstraintRow → Added
constraint_row f h r =
    cond (nat_lt f.labels_in f.labels) (not_added f h NotDue)
    (cond (nat_lt f.terms_in f.terms) (not_added f h NotDue)
    (cond (nat_lt f.constraints_in f.constraints) (constraint_added f h r) (not_added f h NotDue)))
