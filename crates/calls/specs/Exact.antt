-- The calls run exactly as the subject has them: each is granted where a case grants it, and only there, the
-- draft or trial read from numbers and stores is then the case's, and what the calls rest on is kept.
use Rattle.std.specs.Prelude.{◌≡◌, ℕ, List, Ok, Err, Result}
use Rattle.std.proofs.Math.Option.{Option}
use Rattle.records.specs.declared.refusal.Refusal.{Refusal}
use Rattle.meaning.specs.Mixes.{Header, Made, fresh, Stage, filling, trying, settled, Grants}
use Rattle.meaning.specs.Mixes as subject
use Rattle.calls.specs.Stores.{Held, Enough}
use Rattle.calls.specs.Sheets.{Filling, Counts, make_of, add_of, seal_of}
use Rattle.calls.specs.RuleSteps.{denied_once}
use Rattle.calls.specs.Trials.{step_of, settle_of}
use Rattle.calls.specs.Views.{Orderly, Whole, read_draft, read_trial}

-- No case grants the call at this stage.
abbrev pub Denied : (ℕ → Option ℕ) → Stage → subject.Call → Type 0
Denied K st c = (st' : Stage) → Grants K st c st' → ⊥

-- make: granted exactly where the bytes are a header within the limits under the kind's letter; the sheet is
-- then the fresh draft of that header, over stores of any content.
abbrev pub MakeExact : ℕ → Held → List ℕ → Result Filling Refusal → Type 0
MakeExact letter h bs (Ok f) =
    Orderly f h × ((H : Header) × Made letter bs H × (read_draft f h ≡ fresh H))
MakeExact letter h bs (Err e) = (H : Header) → Made letter bs H → ⊥

abbrev pub MakeIsExact : Type 0
MakeIsExact = (letter : ℕ) (h : Held) (bs : List ℕ) → Enough h → MakeExact letter h bs (make_of letter h bs)

-- add: by what it left and how it answered.
abbrev pub AddExact :
    (ℕ → Option ℕ) → Filling → Held → List ℕ → Filling → Held → Result (Unit {0}) Refusal → Type 0
AddExact K f h bs f' h' (Ok x) =
    Orderly f' h' × Grants K (filling (read_draft f h)) (subject.add bs) (filling (read_draft f' h'))
AddExact K f h bs f' h' (Err e) = (f' ≡ f) × (h' ≡ h) × Denied K (filling (read_draft f h)) (subject.add bs)

abbrev pub AddIsExact : Type 0
AddIsExact =
    (K : ℕ → Option ℕ) (f : Filling) (h : Held) (bs : List ℕ) → Orderly f h →
    AddExact K f h bs (add_of K f h bs).sheet (add_of K f h bs).stores (add_of K f h bs).result

-- seal: it changes no store.
abbrev pub SealExact : (ℕ → Option ℕ) → Filling → Held → Result Counts Refusal → Type 0
SealExact K f h (Ok t) =
    Whole t h × Grants K (filling (read_draft f h)) subject.seal (trying (read_trial t h))
SealExact K f h (Err e) = Denied K (filling (read_draft f h)) subject.seal

abbrev pub SealIsExact : Type 0
SealIsExact = (K : ℕ → Option ℕ) (f : Filling) (h : Held) → Orderly f h → SealExact K f h (seal_of f h)

-- step, under whatever meaning the kind has at this call.
abbrev pub StepExact :
    (ℕ → Option ℕ) → Counts → Held → List ℕ → Counts → Held → Result (Unit {0}) Refusal → Type 0
StepExact K t h bs t' h' (Ok x) =
    Whole t' h' × Grants K (trying (read_trial t h)) (subject.step bs) (trying (read_trial t' h'))
StepExact K t h bs t' h' (Err e) =
    (t' ≡ denied_once t) × (h' ≡ h) × Denied K (trying (read_trial t h)) (subject.step bs)

abbrev pub StepIsExact : Type 0
StepIsExact =
    (K : ℕ → Option ℕ) (t : Counts) (h : Held) (bs : List ℕ) → Whole t h →
    StepExact K t h bs (step_of K t h bs).trial (step_of K t h bs).stores (step_of K t h bs).result

-- settle: it changes nothing.
abbrev pub SettleExact : (ℕ → Option ℕ) → Counts → Held → Result (Unit {0}) Refusal → Type 0
SettleExact K t h (Ok x) =
    Grants K (trying (read_trial t h)) subject.settle (settled (read_trial t h))
SettleExact K t h (Err e) = Denied K (trying (read_trial t h)) subject.settle

abbrev pub SettleIsExact : Type 0
SettleIsExact = (K : ℕ → Option ℕ) (t : Counts) (h : Held) → Whole t h → SettleExact K t h (settle_of t)
