-- The numbers of a trial, and of a settled trial, as the calls speak of them.
use Rattle.std.specs.Prelude.{Ok, Err, Result}
use Rattle.calls.specs.Sheets.{Counts}
use Rattle.records.specs.declared.refusal.Refusal.{Refusal}
use Rattle.sheets.specs.declared.sheet.Sheet.{Sheet}
use Rattle.trials.specs.declared.progress.Progress.{Progress}
use Rattle.trials.specs.declared.trial.Trial.{Trial}
use Rattle.trials.specs.declared.settled.Settled.{Settled}

-- how far a trial is, as its numbers
abbrev pub counts_of : Progress → Counts
counts_of p = record {
  labels = p.sizes.labels;
  free = p.sizes.free;
  terms = p.sizes.terms;
  constraints = p.sizes.constraints;
  verdict = p.verdict;
  names = p.names;
  facts = p.facts;
  forks = p.forks;
  granted = p.granted;
  denied = p.denied;
}

-- a trial's numbers
abbrev pub counts : Trial → Counts
counts t = counts_of t.progress

-- a settled trial's numbers
abbrev pub settled_counts : Settled → Counts
settled_counts s = counts_of s.progress

-- what seal answers, with the trial's numbers
abbrev pub trial_told : Result Trial (Sheet × Refusal) → Result Counts Refusal
trial_told (Ok t) = Ok (counts t)
trial_told (Err e) = Err e.1
