-- Sheets and trials with their stores, read in the subject's words, and what every call keeps of them.
use Rattle.std.specs.Prelude.{◌≡◌, ℕ, ◌+◌, ◌-◌, ◌<◌, ◌≤◌, List, [], ◌∷◌, ◌++◌, map, length, take}
use Rattle.std.specs.List.{AllByRecursion, slice_get}
use Rattle.records.specs.declared.rows.Fact.{Fact as FactRow}
use Rattle.records.specs.declared.verdict.Verdict.{Verdict}
use Rattle.records.specs.declared.verdict.Verdict.TheVariants as verdict
use Rattle.rules.specs.declared.cited.Cited.{Cited}
use Rattle.rules.specs.declared.cited.Alt.{Alt as AltRow}
use Rattle.rules.specs.declared.outcome.Fork.{Fork as ForkRow}
use Rattle.rules.specs.Rules.{alternative_of, alternatives_of}
use Rattle.meaning.specs.Calculus.{up_from, Fork, State, running, closed}
use Rattle.meaning.specs.Mixes.{Draft, Trial}
use Rattle.meaning.specs.Mixes as subject
use Rattle.calls.specs.Reading.{Plain, read_sheet, read_alt, alt_facts, Good}
use Rattle.calls.specs.Passing.{alt_rows}
use Rattle.calls.specs.Bridge.{read_branch, Fair}
use Rattle.calls.specs.Granted.{Passed}
use Rattle.calls.specs.Stores.{Held, Enough}
use Rattle.calls.specs.Sheets.{Filling, Counts}
use Rattle.calls.specs.RuleSteps.{cited_again, or_none, branch_facts, forks_of}
use Rattle.calls.specs.Trials.{plain_of, branch_of}

-- ── a sheet while its rows come in ─────────────────────────────────────────

-- The rows that are in.
abbrev pub plain_in : Filling → Held → Plain
plain_in f h = record {
  codes = take f.labels_in h.labels;
  free = f.free;
  rows = take f.terms_in h.terms;
  constraints = take f.constraints_in h.facts;
}

-- The draft that it is.
abbrev pub read_draft : Filling → Held → Draft
read_draft f h = record {
  labels = f.labels;
  terms = f.terms;
  constraints = f.constraints;
  sheet = read_sheet (plain_in f h);
}

-- What make, add and a refused seal leave: stores that are long enough, numbers within the limits, rows in
-- their order, each of which passed as it came.
pub record Orderly (f : Filling) (h : Held) : Type 0 where
  pub enough : Enough h
  pub few_names : f.labels + f.free ≤ 32
  pub few_terms : f.terms ≤ 64
  pub few_constraints : f.constraints ≤ 128
  pub labels_due : f.labels_in ≤ f.labels
  pub terms_due : f.terms_in ≤ f.terms
  pub constraints_due : f.constraints_in ≤ f.constraints
  pub labels_first : 0 < f.terms_in → f.labels_in ≡ f.labels
  pub terms_first : 0 < f.constraints_in → (f.labels_in ≡ f.labels) × (f.terms_in ≡ f.terms)
  pub passed : Passed (plain_in f h)

-- ── a trial ────────────────────────────────────────────────────────────────

-- What a fork cites, looked up again on the branch.
abbrev pub cited_at : Plain → List FactRow → ForkRow → Cited
cited_at P facts f = cited_again P.rows (or_none (slice_get facts f.p)) f.t

-- Alternatives i, i + 1, .. of a fork, k of them, made again from what it cites.
abbrev pub alts_from : ForkRow → Cited → ℕ → ℕ → List AltRow
alts_from f c i k = map (alternative_of f.rule c f.names) (up_from i k)

-- A fork on a front of the branch: the branch as it stood, the alternative that comes next, those after it.
abbrev pub fork_with : Plain → ForkRow → List FactRow → Cited → Fork
fork_with P f front c = record {
  at = read_branch P front f.names;
  next = read_alt P.rows (alternative_of f.rule c f.names f.next);
  later = map (read_alt P.rows) (alts_from f c (f.next + 1) (alternatives_of f.rule - (f.next + 1)));
}

-- A fork, read.
abbrev pub read_fork : Plain → List FactRow → ForkRow → Fork
read_fork P facts f = fork_with P f (take f.facts facts) (cited_at P facts f)

-- Forks, read: the latest, which the store has last, stands first.
abbrev pub read_forks : Plain → List FactRow → List ForkRow → List Fork → List Fork
read_forks P facts [] read = read
read_forks P facts (f ∷ fs) read = read_forks P facts fs (read_fork P facts f ∷ read)

-- The branch and the forks of a trial that is not closed.
abbrev pub state_of : Counts → Held → State
state_of t h = running (branch_of t h) (read_forks (plain_of t h) (branch_facts t h) (forks_of t h) [])

-- The state of a trial by its verdict.
abbrev pub state_by : Verdict → Counts → Held → State
state_by verdict.Undecided t h = state_of t h
state_by verdict.Open t h = state_of t h
state_by verdict.Closed t h = closed

-- The verdict, with the representatives of a model.
abbrev pub verdict_by : Verdict → Counts → Held → subject.Verdict
verdict_by verdict.Undecided t h = subject.undecided
verdict_by verdict.Closed t h = subject.CLOSED
verdict_by verdict.Open t h = subject.OPEN (take t.names h.representatives)

-- The trial that it is.
abbrev pub read_trial : Counts → Held → Trial
read_trial t h = record {
  sheet = read_sheet (plain_of t h);
  state = state_by t.verdict t h;
  granted = t.granted;
  denied = t.denied;
  verdict = verdict_by t.verdict t h;
}

-- A fork made on a front of m facts, with c constraints below it: it cites a fact of its front, an
-- alternative is left, and each of its alternatives fits the limits and leaves a branch whose facts fit.
pub record ForkFits (P : Plain) (facts : List FactRow) (c m : ℕ) (f : ForkRow) : Type 0 where
  pub front : f.facts ≤ m
  pub constraints_below : c ≤ f.facts
  pub cites_below : f.p < f.facts
  pub few_names : f.names ≤ 64
  pub left : f.next < alternatives_of f.rule
  pub names_fit :
      AllByRecursion (λ (a : AltRow). f.names + a.fresh ≤ 64) (alt_rows f.rule (cited_at P facts f) f.names)
  pub facts_fit :
      AllByRecursion (λ (a : AltRow). f.facts + length (alt_facts a) ≤ 1024)
      (alt_rows f.rule (cited_at P facts f) f.names)
  pub fair :
      AllByRecursion (λ (a : AltRow). Fair P (take f.facts facts ++ alt_facts a) (f.names + a.fresh))
      (alt_rows f.rule (cited_at P facts f) f.names)

-- Forks one over the other: each was made on a front of what the next was made on.
pub data Stacked (P : Plain) (facts : List FactRow) (c : ℕ) : ℕ → List ForkRow → Type 0 where
  no_fork : {m : ℕ} → Stacked P facts c m []
  over : {m : ℕ} {fs : List ForkRow} (gs : List ForkRow) (f : ForkRow) → fs ≡ gs ++ (f ∷ []) →
      Stacked P facts c f.facts gs → ForkFits P facts c m f → Stacked P facts c m fs

-- What a trial that is not closed keeps: facts that fit, and forks one over the other.
pub record Live (t : Counts) (h : Held) : Type 0 where
  pub fair : Fair (plain_of t h) (branch_facts t h) t.names
  pub stacked : Stacked (plain_of t h) (branch_facts t h) t.constraints t.facts (forks_of t h)

-- That, by the verdict: a closed trial keeps nothing of it.
abbrev pub LiveBy : Verdict → Counts → Held → Type 0
LiveBy verdict.Undecided t h = Live t h
LiveBy verdict.Open t h = Live t h
LiveBy verdict.Closed t h = Unit {0}

-- What seal, step and a refused settle leave: stores that are long enough, numbers within the limits, a good
-- sheet, and what the verdict keeps.
pub record Whole (t : Counts) (h : Held) : Type 0 where
  pub enough : Enough h
  pub few_sheet_names : t.labels + t.free ≤ 32
  pub few_terms : t.terms ≤ 64
  pub few_constraints : t.constraints ≤ 128
  pub few_names : t.names ≤ 64
  pub few_facts : t.facts ≤ 1024
  pub few_forks : t.forks ≤ 64
  pub few_granted : t.granted ≤ 1000000
  pub constraints_kept : t.constraints ≤ t.facts
  pub good : Good (plain_of t h)
  pub live : LiveBy t.verdict t h
