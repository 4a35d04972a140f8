-- The call judge as a function: the calls that it makes on the records of a stream, one after another, where
-- they end, and what is written then.
use Rattle.std.specs.Prelude.{ℕ, zero, suc, ◌+◌, cond, List, [], ◌∷◌, Ok, Err, Result}
use Rattle.std.proofs.Math.Option.{Option}
use Rattle.records.specs.declared.refusal.Refusal.{Refusal}
use Rattle.records.specs.declared.refusal.Refusal.TheVariants.{StoresShort}
use Rattle.records.specs.Refusals.{number_of, detail_of}
use Rattle.meaning.specs.Text.{refused, text}
use Rattle.calls.specs.Stores.{Held, enough}
use Rattle.calls.specs.Sheets.{Filling, Counts, make_of, add_of, seal_of, rows_due}
use Rattle.calls.specs.Trials.{step_of, settle_of}
use Rattle.calls.specs.Listing.{Written, written, list_of}
use Rattle.streams.specs.Cutting.{records_of, due_of, later_of}

-- Where judge's calls end, with the stores then: at the first refusal, with the number of the record that it
-- came at, or at a settled trial.
pub data Course : Type 0 where
  stopped : Refusal → ℕ → Held → Course
  settled : Counts → Held → Course

-- A call that is granted leads on; one that is refused at record k ends the course.
abbrev pub or_stopped : Result (Unit {0}) Refusal → Course → ℕ → Held → Course
or_stopped (Ok x) c k h = c
or_stopped (Err e) c k h = stopped e k h

-- step with each record, of which the first is record k, and then settle.
abbrev pub steps_from : (ℕ → Option ℕ) → Counts → Held → ℕ → List (List ℕ) → Course
steps_from K t h k [] = or_stopped (settle_of t) (settled t h) k h
steps_from K t h k (r ∷ rs) =
    or_stopped (step_of K t h r).result
    (steps_from K (step_of K t h r).trial (step_of K t h r).stores (k + 1) rs)
    k (step_of K t h r).stores

-- From what seal answers on.
abbrev pub sealed_from : (ℕ → Option ℕ) → Held → ℕ → List (List ℕ) → Result Counts Refusal → Course
sealed_from K h k rs (Ok t) = steps_from K t h k rs
sealed_from K h k rs (Err e) = stopped e k h

-- add with the next n records, of which the first is record k, and then seal.
abbrev pub rows_from : (ℕ → Option ℕ) → ℕ → Filling → Held → ℕ → List (List ℕ) → Course
rows_from K zero f h k rs = sealed_from K h k rs (seal_of f h)
rows_from K (suc n) f h k rs =
    or_stopped (add_of K f h (due_of rs)).result
    (rows_from K n (add_of K f h (due_of rs)).sheet (add_of K f h (due_of rs)).stores (k + 1) (later_of rs))
    k (add_of K f h (due_of rs)).stores

-- From what make answers on: as many rows as are due.
abbrev pub made_from : (ℕ → Option ℕ) → Held → List (List ℕ) → Result Filling Refusal → Course
made_from K h rs (Ok f) = rows_from K (rows_due f) f h 2 rs
made_from K h rs (Err e) = stopped e 1 h

-- The course of a stream, under a kind with this letter and meaning.
abbrev pub course : ℕ → (ℕ → Option ℕ) → Held → List ℕ → Course
course letter K h bs =
    made_from K h (later_of (records_of bs)) (make_of letter h (due_of (records_of bs)))

-- What judge answers, with the stores and the buffer then.
pub record Judged : Type 0 where
  pub result : Result ℕ Refusal
  pub stores : Held
  pub buffer : List ℕ

abbrev pub judged : Held → Written → Judged
judged h w = record { result = w.result; stores = h; buffer = w.buffer }

-- What is written at the end of a course: the line of a refusal, or the listing.
abbrev pub told : Course → List ℕ → Judged
told (stopped e k h) out = judged h (written out (text (refused (number_of e) k (detail_of e) ∷ [])))
told (settled t h) out = judged h (list_of t h out)

-- The call judge. On stores that are too short it makes no call.
abbrev pub judge_of : ℕ → (ℕ → Option ℕ) → Held → List ℕ → List ℕ → Judged
judge_of letter K h bs out =
    cond (enough h) (told (course letter K h bs) out)
    (record { result = Err StoresShort; stores = h; buffer = out })
