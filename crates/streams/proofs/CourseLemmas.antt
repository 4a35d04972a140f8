-- A course one call further: after a row, after a step, and what each keeps.
use Rattle.std.proofs.Common.{◌≡◌, ℕ, suc, ◌+◌, ◌-◌, ◌<◌, ◌≤◌, List, [], ◌∷◌, length, Ok, Result, sym, refl, ap, ◌∙◌, subst, arith}
use mathlib.Core.Option.{Option}
use Rattle.records.specs.declared.refusal.Refusal.{Refusal}
use Rattle.stores.specs.declared.lent.Stores.{Stores}
use Rattle.stores.specs.View.{Same}
use Rattle.meaning.specs.Mixes.{Trial, Stage, trying, Grants, rule_step, model_step}
use Rattle.meaning.specs.Mixes as subject
use Rattle.calls.specs.Stores.{Held, Enough}
use Rattle.calls.specs.Sheets.{Filling, Counts, Added, make_of, add_of, seal_of, rows_due}
use Rattle.calls.specs.RuleSteps.{Stepped}
use Rattle.calls.specs.Trials.{step_of}
use Rattle.calls.specs.Views.{Orderly, Whole, read_trial}
use Rattle.calls.specs.Exact.{MakeExact, AddExact, SealExact, StepExact}
use Rattle.calls.proofs.Standing.{rows_granted_exactly, steps_granted_exactly}
use Rattle.streams.specs.Cutting.{first_record, after_first, records_of, later_of}
use Rattle.streams.specs.Judging.{Course, or_stopped, steps_from, rows_from, made_from, course}
use Rattle.streams.proofs.Cuts.{due_cut, later_cut}

-- the same stores, lent twice on
pub same_on : (x y z : Stores) → Same x y → Same y z → Same x z
same_on x y z a b = record {
  labels = b.labels ∙ a.labels;
  terms = b.terms ∙ a.terms;
  facts = b.facts ∙ a.facts;
  forks = b.forks ∙ a.forks;
  tuples = b.tuples ∙ a.tuples;
  representatives = b.representatives ∙ a.representatives;
  tuples_length = b.tuples_length ∙ a.tuples_length;
}

-- ── make and seal ──────────────────────────────────────────────────────────

-- a course after what make answers to the first record
pub course_on :
    (letter : ℕ) (K : ℕ → Option ℕ) (h : Held) (bs : List ℕ) (r : Result Filling Refusal) →
    r ≡ make_of letter h (first_record bs) →
    course letter K h bs ≡ made_from K h (records_of (after_first bs)) r
course_on letter K h bs r e =
    ap (λ (d : List ℕ). made_from K h (later_of (records_of bs)) (make_of letter h d)) (due_cut bs)
    ∙ ap (λ (rs : List (List ℕ)). made_from K h rs (make_of letter h (first_record bs))) (later_cut bs)
    ∙ ap (made_from K h (records_of (after_first bs))) (sym e)

-- a sheet that is made is in order
pub make_kept :
    (letter : ℕ) (h : Held) (bs : List ℕ) (f : Filling) → Ok f ≡ make_of letter h bs → Enough h → Orderly f h
make_kept letter h bs f e b = (subst (MakeExact letter h bs) (sym e) (rows_granted_exactly.0 letter h bs b)).0

-- a trial that is sealed is whole
pub seal_kept :
    (K : ℕ → Option ℕ) (f : Filling) (h : Held) (t : Counts) → Ok t ≡ seal_of f h → Orderly f h → Whole t h
seal_kept K f h t e o = (subst (SealExact K f h) (sym e) (rows_granted_exactly.2 K f h o)).0

-- ── rows ───────────────────────────────────────────────────────────────────

-- a course after an add at record k, with n rows to come
abbrev pub after_add : (ℕ → Option ℕ) → ℕ → ℕ → List (List ℕ) → Added → Course
after_add K n k rs a = or_stopped a.result (rows_from K n a.sheet a.stores (k + 1) rs) k a.stores

rows_next :
    (K : ℕ → Option ℕ) (n : ℕ) (f : Filling) (h : Held) (k : ℕ) (bs : List ℕ) →
    rows_from K (suc n) f h k (records_of bs)
    ≡ after_add K n k (records_of (after_first bs)) (add_of K f h (first_record bs))
rows_next K n f h k bs =
    ap (λ (d : List ℕ). after_add K n k (later_of (records_of bs)) (add_of K f h d)) (due_cut bs)
    ∙ ap (λ (rs : List (List ℕ)). after_add K n k rs (add_of K f h (first_record bs))) (later_cut bs)

-- with d rows due in all and i of them in
pub row_on :
    (K : ℕ → Option ℕ) (d i : ℕ) (f : Filling) (h : Held) (bs : List ℕ) (a : Added) → i < d →
    a ≡ add_of K f h (first_record bs) →
    rows_from K (d - i) f h (2 + i) (records_of bs)
    ≡ after_add K (d - (i + 1)) (2 + i) (records_of (after_first bs)) a
row_on K d i f h bs a below e =
    let one : d - i ≡ suc (d - (i + 1)) = omega arith in
    ap (λ (n : ℕ). rows_from K n f h (2 + i) (records_of bs)) one
    ∙ rows_next K (d - (i + 1)) f h (2 + i) bs
    ∙ ap (after_add K (d - (i + 1)) (2 + i) (records_of (after_first bs))) (sym e)

pub row_granted :
    (K : ℕ → Option ℕ) (d i : ℕ) (f : Filling) (h : Held) (bs : List ℕ) (f' : Filling) (h' : Held) → i < d →
    record { result = Ok tt; sheet = f'; stores = h' } ≡ add_of K f h (first_record bs) →
    rows_from K (d - i) f h (2 + i) (records_of bs)
    ≡ rows_from K (d - (i + 1)) f' h' (2 + (i + 1)) (records_of (after_first bs))
row_granted K d i f h bs f' h' below e =
    let two : 2 + i + 1 ≡ 2 + (i + 1) = omega arith in
    row_on K d i f h bs _ below e
    ∙ ap (λ (k : ℕ). rows_from K (d - (i + 1)) f' h' k (records_of (after_first bs))) two

-- a granted row leaves a sheet in order
pub row_kept :
    (K : ℕ → Option ℕ) (f : Filling) (h : Held) (bs : List ℕ) (f' : Filling) (h' : Held) →
    record { result = Ok tt; sheet = f'; stores = h' } ≡ add_of K f h bs → Orderly f h → Orderly f' h'
row_kept K f h bs f' h' e o =
    (subst (λ (a : Added). AddExact K f h bs a.sheet a.stores a.result) (sym e)
    (rows_granted_exactly.1 K f h bs o)).0

-- a sheet in order has few rows
pub few_rows : (f : Filling) (h : Held) → Orderly f h → rows_due f ≤ 224
few_rows f h o =
    let a = o.few_names in
    let b = o.few_terms in
    let c = o.few_constraints in
    omega arith

-- ── steps ──────────────────────────────────────────────────────────────────

-- a course after a step at record k
abbrev pub after_step : (ℕ → Option ℕ) → ℕ → List (List ℕ) → Stepped → Course
after_step K k rs s = or_stopped s.result (steps_from K s.trial s.stores (k + 1) rs) k s.stores

steps_next :
    (K : ℕ → Option ℕ) (t : Counts) (h : Held) (k : ℕ) (bs : List ℕ) → 0 < length bs →
    steps_from K t h k (records_of bs)
    ≡ after_step K k (records_of (after_first bs)) (step_of K t h (first_record bs))
steps_next K t h k [] p = absurd (omega arith)
steps_next K t h k (b ∷ bs) p =
    ap (λ (rs : List (List ℕ)). after_step K k rs (step_of K t h (first_record (b ∷ bs)))) (later_cut (b ∷ bs))

pub step_on :
    (K : ℕ → Option ℕ) (t : Counts) (h : Held) (k : ℕ) (bs : List ℕ) (s : Stepped) → 0 < length bs →
    s ≡ step_of K t h (first_record bs) →
    steps_from K t h k (records_of bs) ≡ after_step K k (records_of (after_first bs)) s
step_on K t h k bs s p e =
    steps_next K t h k bs p ∙ ap (after_step K k (records_of (after_first bs))) (sym e)

-- a granted step leaves a whole trial
pub step_kept :
    (K : ℕ → Option ℕ) (t : Counts) (h : Held) (bs : List ℕ) (t' : Counts) (h' : Held) →
    record { result = Ok tt; trial = t'; stores = h' } ≡ step_of K t h bs → Whole t h →
    Whole t' h' × Grants K (trying (read_trial t h)) (subject.step bs) (trying (read_trial t' h'))
step_kept K t h bs t' h' e w =
    subst (λ (s : Stepped). StepExact K t h bs s.trial s.stores s.result) (sym e)
    (steps_granted_exactly.0 K t h bs w)

-- the granted count of a stage
abbrev granted_at : Stage → ℕ
granted_at (subject.filling D) = 0
granted_at (trying T) = T.granted
granted_at (subject.settled T) = T.granted

-- a granted step is counted
counted_one :
    (K : ℕ → Option ℕ) (T : Trial) (bs : List ℕ) (st : Stage) → Grants K (trying T) (subject.step bs) st →
    granted_at st ≡ T.granted + 1
counted_one K T bs st (rule_step r ph pl qh ql t w a b c d e) = refl
counted_one K T bs st (model_step count rs a b c d e f g) = refl

pub step_counted :
    (K : ℕ → Option ℕ) (t : Counts) (h : Held) (bs : List ℕ) (t' : Counts) (h' : Held) →
    record { result = Ok tt; trial = t'; stores = h' } ≡ step_of K t h bs → Whole t h →
    t'.granted ≡ t.granted + 1
step_counted K t h bs t' h' e w = counted_one K (read_trial t h) bs _ (step_kept K t h bs t' h' e w).1
