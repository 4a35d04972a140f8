-- One call of the functions goes exactly where the subject goes (`call_exact_by`), and so does a whole run
-- (`runs_exact_by`).
use Rattle.std.proofs.Common.{◌≡◌, ℕ, List, [], ◌∷◌, Ok, Err, Result, sym, refl, subst}
use mathlib.Core.Option.{Option}
use Rattle.records.specs.declared.refusal.Refusal.{Refusal}
use Rattle.records.specs.declared.verdict.Verdict.{Verdict}
use Rattle.records.specs.declared.verdict.Verdict.TheVariants as verdict
use Rattle.meaning.specs.Mixes.{Stage, trying, Call, add, seal, step, settle}
use Rattle.meaning.specs.Mixes.{Turn, Grants, Goes, granted, denied, denied_at, Mix, end, next, counted}
use Rattle.calls.specs.Stores.{Held}
use Rattle.calls.specs.Sheets.{Filling, Counts, seal_of}
use Rattle.calls.specs.RuleSteps.{denied_once}
use Rattle.calls.specs.Trials.{settle_of}
use Rattle.calls.specs.Views.{Orderly, Whole, state_by, verdict_by, read_trial}
use Rattle.calls.specs.Exact.{Denied, AddExact, AddIsExact, SealExact, SealIsExact, StepExact, StepIsExact, SettleExact}
use Rattle.calls.specs.Exact.{SettleIsExact}
use Rattle.calls.specs.Runs.{Place, sheet, trial, ended, read_place, Sound, after_seal, after_settle, called, run, Turns}
use Rattle.calls.proofs.Following.{whole_recorded}
use Rattle.calls.specs.Runs.{CallIsExact, RunsAreExact, RunsAreSound}

-- At most one stage is granted.
abbrev pub Single : Type 0
Single =
    (K : ℕ → Option ℕ) (p : Place) (c : Call) (x y : Stage) → Sound p →
    Grants K (read_place p) c x → Grants K (read_place p) c y → x ≡ y

-- What is shown of one call that leads from the place p to the place q.
abbrev Went : (ℕ → Option ℕ) → Place → Call → Place → Type 0
Went K p c q =
    Goes K (read_place p) c (read_place q)
    × ((st : Stage) → Goes K (read_place p) c st → st ≡ read_place q)
    × Sound q

-- A denied step leaves the state and the verdict.
state_denied : (t : Counts) (h : Held) (v : Verdict) → state_by v (denied_once t) h ≡ state_by v t h
state_denied t h verdict.Undecided = refl
state_denied t h _ = refl

verdict_denied : (t : Counts) (h : Held) (v : Verdict) → verdict_by v (denied_once t) h ≡ verdict_by v t h
verdict_denied t h verdict.Undecided = refl
verdict_denied t h _ = refl

read_denied : (t : Counts) (h : Held) → trying (read_trial (denied_once t) h) ≡ trying (counted (read_trial t h))
read_denied t h =
    cc (state_denied t h t.verdict, verdict_denied t h t.verdict)

module _ (single : Single) where
  -- a granted call
  yes_call :
      (K : ℕ → Option ℕ) (p : Place) (c : Call) (q : Place) → Sound p → Sound q →
      Grants K (read_place p) c (read_place q) → Went K p c q
  yes_call K p c q good kept g = (granted g, only, kept)
    where
      only : (st : Stage) → Goes K (read_place p) c st → st ≡ read_place q
      only st (granted g') = single K p c st (read_place q) good g' g
      only st (denied t never) = absurd (never (read_place q) g)

  -- a denied call
  no_call :
      (K : ℕ → Option ℕ) (p : Place) (c : Call) (q : Place) → Turn (read_place p) c → Sound q →
      Denied K (read_place p) c → read_place q ≡ denied_at (read_place p) c → Went K p c q
  no_call K p c q turn kept never e = (subst (Goes K (read_place p) c) (sym e) (denied turn never), only, kept)
    where
      only : (st : Stage) → Goes K (read_place p) c st → st ≡ read_place q
      only st (granted g) = absurd (never st g)
      only st (denied t n) = sym e

  module _ (add_exact : AddIsExact) (seal_exact : SealIsExact) (step_exact : StepIsExact) (settle_exact : SettleIsExact) where
    -- add
    add_went :
        (K : ℕ → Option ℕ) (f : Filling) (h : Held) (bs : List ℕ) → Orderly f h → (f' : Filling) (h' : Held)
        (r : Result (Unit {0}) Refusal) → AddExact K f h bs f' h' r → Went K (sheet f h) (add bs) (sheet f' h')
    add_went K f h bs good f' h' (Ok x) (kept, g) = yes_call K (sheet f h) (add bs) (sheet f' h') good kept g
    add_went K f h bs good f' h' (Err e) (sf, sh, never) =
        rw (sf, sh) (no_call K (sheet f h) (add bs) (sheet f h) tt good never refl)

    -- seal
    seal_went :
        (K : ℕ → Option ℕ) (f : Filling) (h : Held) → Orderly f h → (r : Result Counts Refusal) →
        SealExact K f h r → Went K (sheet f h) seal (after_seal f h r)
    seal_went K f h good (Ok t) (kept, g) = yes_call K (sheet f h) seal (trial t h) good kept g
    seal_went K f h good (Err e) never = no_call K (sheet f h) seal (sheet f h) tt good never refl

    -- step
    step_went :
        (K : ℕ → Option ℕ) (t : Counts) (h : Held) (bs : List ℕ) → Whole t h → (t' : Counts) (h' : Held)
        (r : Result (Unit {0}) Refusal) → StepExact K t h bs t' h' r → Went K (trial t h) (step bs) (trial t' h')
    step_went K t h bs good t' h' (Ok x) (kept, g) = yes_call K (trial t h) (step bs) (trial t' h') good kept g
    step_went K t h bs good t' h' (Err e) (st, sh, never) =
        rw (st, sh)
        (no_call K (trial t h) (step bs) (trial (denied_once t) h) tt (whole_recorded t h t.granted (denied_once t).denied good.few_granted good) never (read_denied t h))

    -- settle
    settle_went :
        (K : ℕ → Option ℕ) (t : Counts) (h : Held) → Whole t h → (r : Result (Unit {0}) Refusal) →
        SettleExact K t h r → Went K (trial t h) settle (after_settle t h r)
    settle_went K t h good (Ok x) g = yes_call K (trial t h) settle (ended t h) good good g
    settle_went K t h good (Err e) never = no_call K (trial t h) settle (trial t h) tt good never refl

    -- any call
    went : (K : ℕ → Option ℕ) (p : Place) (c : Call) → Sound p → Turn (read_place p) c → Went K p c (called K p c)
    went K (sheet f h) (add bs) good turn = add_went K f h bs good _ _ _ (add_exact K f h bs good)
    went K (sheet f h) seal good turn = seal_went K f h good (seal_of f h) (seal_exact K f h good)
    went K (trial t h) (step bs) good turn = step_went K t h bs good _ _ _ (step_exact K t h bs good)
    went K (trial t h) settle good turn = settle_went K t h good (settle_of t) (settle_exact K t h good)
    went K _ _ good turn = absurd turn

    pub call_exact_by : CallIsExact
    call_exact_by K p c good turn = went K p c good turn

    -- a call that goes anywhere has its turn
    turned : (K : ℕ → Option ℕ) (p : Place) (c : Call) (st : Stage) → Goes K (read_place p) c st → Turn (read_place p) c
    turned K (sheet f h) (add bs) st g = tt
    turned K (sheet f h) seal st g = tt
    turned K (trial t h) (step bs) st g = tt
    turned K (trial t h) settle st g = tt
    turned K _ _ st (granted g) = elim g [ ]
    turned K _ _ st (denied u never) = u

    runs : (K : ℕ → Option ℕ) (p : Place) (cs : List Call) → Sound p → Turns K p cs →
        Mix K (read_place p) cs (read_place (run K p cs))
    runs K p [] good turns = end
    runs K p (c ∷ cs) good (turn, turns) =
        let w = went K p c good turn in next w.0 (runs K (called K p c) cs w.2 turns)

    mixes : (K : ℕ → Option ℕ) (p : Place) (cs : List Call) → Sound p → (st : Stage) →
        Mix K (read_place p) cs st → st ≡ read_place (run K p cs)
    mixes K p [] good st end = refl
    mixes K p (c ∷ cs) good st (next {y = y} g m) =
        let w = went K p c good (turned K p c y g) in
        mixes K (called K p c) cs w.2 st (subst (λ (x : Stage). Mix K x cs st) (w.1 y g) m)

    pub runs_exact_by : RunsAreExact
    runs_exact_by K p cs good = (runs K p cs good, mixes K p cs good)

    sound_run : (K : ℕ → Option ℕ) (p : Place) (cs : List Call) → Sound p → Turns K p cs → Sound (run K p cs)
    sound_run K p [] good turns = good
    sound_run K p (c ∷ cs) good (turn, turns) = sound_run K (called K p c) cs (went K p c good turn).2 turns

    pub runs_sound_by : RunsAreSound
    runs_sound_by K p cs good turns = sound_run K p cs good turns
