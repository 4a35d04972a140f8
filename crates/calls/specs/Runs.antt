-- Whole runs of the call functions, and the theorem that they are exactly the subject's mixes of calls.
use Rattle.std.specs.Prelude.{◌≡◌, ℕ, ◌⊎◌, List, [], ◌∷◌, Ok, Err, Result}
use Rattle.std.proofs.Math.Option.{Option}
use Rattle.records.specs.declared.refusal.Refusal.{Refusal}
use Rattle.meaning.specs.Mixes.{Stage, filling, trying, settled, Call, add, seal, step, settle}
use Rattle.meaning.specs.Mixes.{Turn, Goes, Mix, listing}
use Rattle.meaning.specs.Law.{Reaches}
use Rattle.calls.specs.Stores.{Held, Enough}
use Rattle.calls.specs.Sheets.{Filling, Counts, make_of, add_of, seal_of}
use Rattle.calls.specs.Trials.{step_of, settle_of}
use Rattle.calls.specs.Listing.{lines_of}
use Rattle.calls.specs.Views.{Orderly, Whole, read_draft, read_trial}

-- Where a run of the functions stands: a sheet, a trial or a settled trial, with what the stores hold.
pub data Place : Type 0 where
  sheet : Filling → Held → Place
  trial : Counts → Held → Place
  ended : Counts → Held → Place

-- The stage that it is in the subject's words.
abbrev pub read_place : Place → Stage
read_place (sheet f h) = filling (read_draft f h)
read_place (trial t h) = trying (read_trial t h)
read_place (ended t h) = settled (read_trial t h)

-- What every call keeps.
abbrev pub Sound : Place → Type 0
Sound (sheet f h) = Orderly f h
Sound (trial t h) = Whole t h
Sound (ended t h) = Whole t h

-- After seal: the trial, or the sheet again.
abbrev pub after_seal : Filling → Held → Result Counts Refusal → Place
after_seal f h (Ok t) = trial t h
after_seal f h (Err e) = sheet f h

-- After settle: the settled trial, or the trial again.
abbrev pub after_settle : Counts → Held → Result (Unit {0}) Refusal → Place
after_settle t h (Ok x) = ended t h
after_settle t h (Err e) = trial t h

-- One call of the functions. A call that has no turn at its place changes nothing: no program can make it.
abbrev pub called : (ℕ → Option ℕ) → Place → Call → Place
called K (sheet f h) (add bs) = sheet (add_of K f h bs).sheet (add_of K f h bs).stores
called K (sheet f h) seal = after_seal f h (seal_of f h)
called K (sheet f h) (step bs) = sheet f h
called K (sheet f h) settle = sheet f h
called K (trial t h) (add bs) = trial t h
called K (trial t h) seal = trial t h
called K (trial t h) (step bs) = trial (step_of K t h bs).trial (step_of K t h bs).stores
called K (trial t h) settle = after_settle t h (settle_of t)
called K (ended t h) c = ended t h

-- Calls one after another.
abbrev pub run : (ℕ → Option ℕ) → Place → List Call → Place
run K p [] = p
run K p (c ∷ cs) = run K (called K p c) cs

-- Each call has its turn where the run then stands.
abbrev pub Turns : (ℕ → Option ℕ) → Place → List Call → Type 0
Turns K p [] = Unit {0}
Turns K p (c ∷ cs) = Turn (read_place p) c × Turns K (called K p c) cs

-- One call, under whatever meaning the kind has at this call: the functions go where the subject goes, and
-- nowhere else, and keep what they rest on.
abbrev pub CallIsExact : Type 0
CallIsExact =
    (K : ℕ → Option ℕ) (p : Place) (c : Call) → Sound p → Turn (read_place p) c →
    Goes K (read_place p) c (read_place (called K p c))
    × ((st : Stage) → Goes K (read_place p) c st → st ≡ read_place (called K p c))
    × Sound (called K p c)

-- Whole runs: every run of the functions is a mix, and every mix is that run.
abbrev pub RunsAreExact : Type 0
RunsAreExact =
    (K : ℕ → Option ℕ) (p : Place) (cs : List Call) → Sound p →
    (Turns K p cs → Mix K (read_place p) cs (read_place (run K p cs)))
    × ((st : Stage) → Mix K (read_place p) cs st → st ≡ read_place (run K p cs))

-- What the functions rest on holds all along a run.
abbrev pub RunsAreSound : Type 0
RunsAreSound =
    (K : ℕ → Option ℕ) (p : Place) (cs : List Call) → Sound p → Turns K p cs → Sound (run K p cs)

-- A trial of the functions, settled or not, that a run after a granted make comes to: it is reached in the
-- subject's words, so that the law of verdicts speaks of it.
abbrev pub FunctionsReach : Type 0
FunctionsReach =
    (K : ℕ → Option ℕ) (letter : ℕ) (h : Held) (bs : List ℕ) (f : Filling) (cs : List Call)
    (t : Counts) (h' : Held) →
    Enough h → make_of letter h bs ≡ Ok f → Turns K (sheet f h) cs →
    (run K (sheet f h) cs ≡ trial t h') ⊎ (run K (sheet f h) cs ≡ ended t h') →
    Reaches K (read_trial t h') × Whole t h'

-- The listing that the functions write is the subject's.
abbrev pub ListingIsExact : Type 0
ListingIsExact = (t : Counts) (h : Held) → Whole t h → lines_of t h ≡ listing (read_trial t h)
