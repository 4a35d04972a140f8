-- Worked examples, computed by the call functions from the bytes of their records.
use Rattle.std.specs.Prelude.{◌≡◌, ℕ, true, List, [], ◌∷◌, ◌++◌, replicate, Ok, Err, Result}
use Rattle.records.specs.declared.refusal.Refusal.{Refusal}
use Rattle.records.specs.declared.refusal.Refusal.TheVariants.{
  NotDue,
  UnknownLabel,
  IllTerm,
  Unlawful,
  ConstraintFalse,
}
use Rattle.records.specs.declared.rule.Rule.TheVariants.{InterUp}
use Rattle.rules.specs.declared.outcome.Fork.{Fork}
use Rattle.rules.specs.Facts.{no_fact, no_row}
use Rattle.labels.specs.Kinds.{known_by, sameness_by}
use Rattle.labels.specs.Numbers.{number_value}
use Rattle.labels.specs.Tags.{tag_value}
use Rattle.meaning.specs.Text.{Line, closed, opened, name, inside}
use Rattle.meaning.specs.Mixes.{Call, add, seal, step, settle}
use Rattle.calls.specs.Stores.{Held}
use Rattle.calls.specs.Sheets.{Filling, Counts, empty_sheet, make_of, add_of, seal_of}
use Rattle.calls.specs.Trials.{step_of, settle_of}
use Rattle.calls.specs.Listing.{lines_of}
use Rattle.calls.specs.Runs.{Place, sheet, trial, ended, run}

-- A fork of zeros.
abbrev pub no_fork : Fork
no_fork = record { facts = 0; names = 0; rule = InterUp; p = 0; t = 0; next = 0 }

-- Stores as long as they must be, full of zeros.
abbrev pub blank : Held
blank = record {
  labels = replicate 32 0;
  terms = replicate 64 no_row;
  facts = replicate 1024 no_fact;
  forks = replicate 64 no_fork;
  tuples = 4096;
  representatives = replicate 64 0;
}

-- The sheet that a make of these bytes gives under numbers, or an empty one.
abbrev pub after_make : Result Filling Refusal → Place
after_make (Ok f) = sheet f blank
after_make (Err e) =
    sheet (empty_sheet (record { letter = 0; labels = 0; free = 0; terms = 0; constraints = 0 })) blank

abbrev pub made : List ℕ → Place
made bs = after_make (make_of 78 blank bs)

-- What seal answers, but for the trial.
abbrev pub told : Result Counts Refusal → Result (Unit {0}) Refusal
told (Ok t) = Ok tt
told (Err e) = Err e

-- What a call answers; one without a turn has no answer, which counts as refused here.
abbrev pub answer : Place → Call → Result (Unit {0}) Refusal
answer (sheet f h) (add bs) = (add_of number_value f h bs).result
answer (sheet f h) seal = told (seal_of f h)
answer (sheet f h) (step bs) = Err NotDue
answer (sheet f h) settle = Err NotDue
answer (trial t h) (add bs) = Err NotDue
answer (trial t h) seal = Err NotDue
answer (trial t h) (step bs) = (step_of number_value t h bs).result
answer (trial t h) settle = settle_of t
answer (ended t h) c = Err NotDue

-- The lines of a settled trial.
abbrev pub lines_at : Place → List Line
lines_at (sheet f h) = []
lines_at (trial t h) = []
lines_at (ended t h) = lines_of t h

-- Two labels, 7 and 9; a binary variable and its closure.
abbrev pub names_and_terms : List Call
names_and_terms =
    add (76 ∷ 66 ∷ 0 ∷ 0 ∷ 0 ∷ 7 ∷ []) ∷
    add (76 ∷ 66 ∷ 0 ∷ 0 ∷ 0 ∷ 9 ∷ []) ∷
    add (84 ∷ 77 ∷ 0 ∷ 2 ∷ 0 ∷ 0 ∷ 0 ∷ 0 ∷ []) ∷
    add (84 ∷ 77 ∷ 9 ∷ 2 ∷ 0 ∷ 0 ∷ 0 ∷ 0 ∷ []) ∷ []

-- The pair of the names is in the variable; it is not in the closure.
abbrev pub pair_in : Call
pair_in = add (67 ∷ 78 ∷ 1 ∷ 1 ∷ 0 ∷ 0 ∷ 1 ∷ 0 ∷ 0 ∷ [])

abbrev pub pair_not_in : Call
pair_not_in = add (67 ∷ 78 ∷ 1 ∷ 0 ∷ 1 ∷ 0 ∷ 1 ∷ 0 ∷ 0 ∷ [])

-- The sheet with both constraints, sealed; and with the first alone.
abbrev pub both : Place
both =
    run number_value (made (83 ∷ 72 ∷ 78 ∷ 2 ∷ 0 ∷ 2 ∷ 2 ∷ []))
    (names_and_terms ++ (pair_in ∷ pair_not_in ∷ seal ∷ []))

abbrev pub first_alone : Place
first_alone =
    run number_value (made (83 ∷ 72 ∷ 78 ∷ 2 ∷ 0 ∷ 2 ∷ 1 ∷ [])) (names_and_terms ++ (pair_in ∷ seal ∷ []))

-- A model in which each of the two names stands for itself; and one with a common representative.
abbrev pub apart : Call
apart = step (77 ∷ 68 ∷ 2 ∷ 0 ∷ 1 ∷ [])

abbrev pub together : Call
together = step (77 ∷ 68 ∷ 2 ∷ 0 ∷ 0 ∷ [])

-- The table.
pub record Examples : Type 0 where
  -- TCLOS UP I and EQ UNSAT close the sheet with both constraints in two steps
  pub closes :
      lines_at
      (run number_value both
      (step (83 ∷ 84 ∷ 18 ∷ 0 ∷ 0 ∷ 0 ∷ 0 ∷ 1 ∷ 0 ∷ []) ∷
      step (83 ∷ 84 ∷ 11 ∷ 0 ∷ 2 ∷ 0 ∷ 1 ∷ 0 ∷ 0 ∷ []) ∷ settle ∷ []))
      ≡ closed 2 ∷ []
  -- with the first constraint alone the model holds
  pub opens :
      lines_at (run number_value first_alone (apart ∷ settle ∷ []))
      ≡ opened 1 ∷ name 0 0 ∷ name 1 1 ∷ inside 0 (0 ∷ 1 ∷ []) ∷ []
  -- against both constraints it gets 19 with detail 1
  pub false_constraint : answer both apart ≡ Err (ConstraintFalse 1)
  -- different labels with one representative get 17 with detail 1
  pub unlawful : answer first_alone together ≡ Err (Unlawful 1)
  -- a sheet without anything has the model without names
  pub nothing :
      lines_at
      (run number_value (made (83 ∷ 72 ∷ 78 ∷ 0 ∷ 0 ∷ 0 ∷ 0 ∷ []))
      (seal ∷ step (77 ∷ 68 ∷ 0 ∷ []) ∷ settle ∷ []))
      ≡ opened 1 ∷ []
  -- 999,999 is a number label; 1,000,000 gets 6
  pub known : known_by number_value 999999 ≡ true
  pub unknown :
      answer (made (83 ∷ 72 ∷ 78 ∷ 1 ∷ 0 ∷ 0 ∷ 0 ∷ [])) (add (76 ∷ 66 ∷ 0 ∷ 15 ∷ 66 ∷ 64 ∷ []))
      ≡ Err (UnknownLabel 1000000)
  -- V-07 and v-07 are the same tag
  pub same_tag : sameness_by tag_value 1445802039 1982672951 ≡ Ok true
  -- a join of two unary terms gets 7
  pub join_of_unary :
      answer
      (run number_value (made (83 ∷ 72 ∷ 78 ∷ 0 ∷ 0 ∷ 3 ∷ 0 ∷ []))
      (add (84 ∷ 77 ∷ 0 ∷ 1 ∷ 0 ∷ 0 ∷ 0 ∷ 0 ∷ []) ∷ add (84 ∷ 77 ∷ 0 ∷ 1 ∷ 0 ∷ 0 ∷ 0 ∷ 0 ∷ []) ∷ []))
      (add (84 ∷ 77 ∷ 8 ∷ 0 ∷ 0 ∷ 1 ∷ 0 ∷ 0 ∷ []))
      ≡ Err (IllTerm 2)
