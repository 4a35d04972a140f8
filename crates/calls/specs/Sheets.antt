-- The calls make, add and seal as functions: what each answers, and the sheet and the stores then.
use Rattle.std.specs.Prelude.{ℕ, ◌+◌, ◌-◌, Bool, cond, ◌&&◌, List, take, Ok, Err, Result, ◌==◌, nat_le, nat_lt, slice_set}
use Rattle.std.proofs.Math.Option.{Option}
use Rattle.std.specs.declared.option.Option as std
use Rattle.std.specs.declared.option.Option.TheVariants as option
use Rattle.records.specs.declared.refusal.Refusal.{Refusal}
use Rattle.records.specs.declared.refusal.Refusal.TheVariants.{
  StoresShort,
  NotHeader,
  WrongLetter,
  OverLimit,
  NotDue,
  UnknownLabel,
  IllTerm,
  IllConstraint,
  RowsDue,
}
use Rattle.records.specs.declared.verdict.Verdict.{Verdict}
use Rattle.records.specs.declared.verdict.Verdict.TheVariants as verdict
use Rattle.records.specs.declared.rows.Header.{Header}
use Rattle.records.specs.declared.rows.TermRow.{TermRow}
use Rattle.records.specs.declared.rows.ConstraintRow.{ConstraintRow}
use Rattle.records.specs.declared.record.RowRecord.TheVariants as row
use Rattle.records.specs.Reading.{RowRead, fact_said, header_in, row_in}
use Rattle.labels.specs.Kinds.{known_by}
use Rattle.calls.specs.Stores.{Held, with_labels, with_terms, with_facts, enough}
use Rattle.calls.specs.Tests.{row_ok, fact_ok}

-- The numbers of a sheet while its rows come in: how many of each it is to have, and how many are in.
pub record Filling : Type 0 where
  pub labels : ℕ
  pub free : ℕ
  pub terms : ℕ
  pub constraints : ℕ
  pub labels_in : ℕ
  pub terms_in : ℕ
  pub constraints_in : ℕ

-- The numbers of a trial: those of its sheet, its verdict, the counts of names, facts and forks of the
-- branch, and how many records were granted and steps denied.
pub record Counts : Type 0 where
  pub labels : ℕ
  pub free : ℕ
  pub terms : ℕ
  pub constraints : ℕ
  pub verdict : Verdict
  pub names : ℕ
  pub facts : ℕ
  pub forks : ℕ
  pub granted : ℕ
  pub denied : ℕ

-- ── make ───────────────────────────────────────────────────────────────────

-- The header asks for no more than a sheet holds.
abbrev pub within : Header → Bool
within H = nat_le (H.labels + H.free) 32 && (nat_le H.terms 64 && nat_le H.constraints 128)

-- A sheet none of whose rows are in.
abbrev pub empty_sheet : Header → Filling
empty_sheet H = record {
  labels = H.labels;
  free = H.free;
  terms = H.terms;
  constraints = H.constraints;
  labels_in = 0;
  terms_in = 0;
  constraints_in = 0;
}

-- What make answers to a header, or to what is none, for a kind with this letter.
abbrev pub make_headed : ℕ → std.Option Header → Result Filling Refusal
make_headed letter option.None = Err NotHeader
make_headed letter (option.Some H) =
    cond (H.letter == letter)
    (cond (within H) (Ok (empty_sheet H)) (Err OverLimit))
    (Err (WrongLetter H.letter))

-- The call make.
abbrev pub make_of : ℕ → Held → List ℕ → Result Filling Refusal
make_of letter h bs = cond (enough h) (make_headed letter (header_in bs)) (Err StoresShort)

-- ── add ────────────────────────────────────────────────────────────────────

-- What a call on a sheet leaves.
pub record Added : Type 0 where
  pub result : Result (Unit {0}) Refusal
  pub sheet : Filling
  pub stores : Held

-- A refused row leaves all as it was.
abbrev pub not_added : Filling → Held → Refusal → Added
not_added f h e = record { result = Err e; sheet = f; stores = h }

-- The sheet with one label, term or constraint more.
abbrev pub one_label : Filling → Filling
one_label f = record {
  labels = f.labels;
  free = f.free;
  terms = f.terms;
  constraints = f.constraints;
  labels_in = f.labels_in + 1;
  terms_in = f.terms_in;
  constraints_in = f.constraints_in;
}

abbrev pub one_term : Filling → Filling
one_term f = record {
  labels = f.labels;
  free = f.free;
  terms = f.terms;
  constraints = f.constraints;
  labels_in = f.labels_in;
  terms_in = f.terms_in + 1;
  constraints_in = f.constraints_in;
}

abbrev pub one_constraint : Filling → Filling
one_constraint f = record {
  labels = f.labels;
  free = f.free;
  terms = f.terms;
  constraints = f.constraints;
  labels_in = f.labels_in;
  terms_in = f.terms_in;
  constraints_in = f.constraints_in + 1;
}

-- A label row that is due: its code has a value.
abbrev pub label_added : (ℕ → Option ℕ) → Filling → Held → ℕ → Added
label_added K f h c =
    cond (known_by K c)
    (record {
      result = Ok tt;
      sheet = one_label f;
      stores = with_labels h (slice_set h.labels f.labels_in c);
    })
    (not_added f h (UnknownLabel c))

-- A term row that is due: it passes over the rows before it.
abbrev pub term_added : Filling → Held → TermRow → Added
term_added f h r =
    cond (row_ok (take f.terms_in h.terms) (f.labels + f.free) f.terms_in r)
    (record {
      result = Ok tt;
      sheet = one_term f;
      stores = with_terms h (slice_set h.terms f.terms_in r);
    })
    (not_added f h (IllTerm f.terms_in))

-- A constraint row that is due: its sign is 0 or 1, and its fact passes over the rows.
abbrev pub constraint_added : Filling → Held → ConstraintRow → Added
constraint_added f h r =
    cond (nat_le r.sign 1 && fact_ok (take f.terms_in h.terms) (f.labels + f.free) (fact_said r))
    (record {
      result = Ok tt;
      sheet = one_constraint f;
      stores = with_facts h (slice_set h.facts f.constraints_in (fact_said r));
    })
    (not_added f h (IllConstraint f.constraints_in))

-- A row by what is due: labels first, then terms, then constraints.
abbrev pub row_added : (ℕ → Option ℕ) → Filling → Held → RowRead → Added
row_added K f h (option.Some (row.Label c)) =
    cond (nat_lt f.labels_in f.labels) (label_added K f h c) (not_added f h NotDue)
row_added K f h (option.Some (row.Term r)) =
    cond (nat_lt f.labels_in f.labels) (not_added f h NotDue)
    (cond (nat_lt f.terms_in f.terms) (term_added f h r) (not_added f h NotDue))
row_added K f h (option.Some (row.Constraint r)) =
    cond (nat_lt f.labels_in f.labels) (not_added f h NotDue)
    (cond (nat_lt f.terms_in f.terms) (not_added f h NotDue)
    (cond (nat_lt f.constraints_in f.constraints) (constraint_added f h r) (not_added f h NotDue)))
row_added K f h option.None = not_added f h NotDue

-- The call add.
abbrev pub add_of : (ℕ → Option ℕ) → Filling → Held → List ℕ → Added
add_of K f h bs = cond (enough h) (row_added K f h (row_in bs)) (not_added f h StoresShort)

-- ── seal ───────────────────────────────────────────────────────────────────

-- How many rows are still due.
abbrev pub rows_due : Filling → ℕ
rows_due f =
    (f.labels - f.labels_in) + ((f.terms - f.terms_in) + (f.constraints - f.constraints_in))

-- The trial of a full sheet: its constraints are the first facts.
abbrev pub new_trial : Filling → Counts
new_trial f = record {
  labels = f.labels;
  free = f.free;
  terms = f.terms;
  constraints = f.constraints;
  verdict = verdict.Undecided;
  names = f.labels + f.free;
  facts = f.constraints;
  forks = 0;
  granted = 0;
  denied = 0;
}

-- The call seal.
abbrev pub seal_of : Filling → Held → Result Counts Refusal
seal_of f h =
    cond (enough h)
    (cond (rows_due f == 0) (Ok (new_trial f)) (Err (RowsDue (rows_due f))))
    (Err StoresShort)
