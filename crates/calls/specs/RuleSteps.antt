-- A step by a rule on the numbers of a trial and the records in its stores: what it comes to, what it leaves.
use Rattle.std.specs.Prelude.{ℕ, ◌+◌, ◌-◌, false, cond, List, [], ◌∷◌, take, Ok, Err, Option, Result, ◌==◌, nat_lt, slice_set}
use Rattle.std.proofs.Math.Option as maybe
use Rattle.std.specs.List.{slice_get}
use Rattle.std.specs.declared.option.Option.TheVariants as option
use Rattle.records.specs.declared.rows.Fact.{Fact}
use Rattle.records.specs.declared.rows.TermRow.{TermRow}
use Rattle.records.specs.declared.rows.Step.{Step}
use Rattle.records.specs.declared.rule.Rule.{Rule}
use Rattle.records.specs.declared.refusal.Refusal.{Refusal}
use Rattle.records.specs.declared.refusal.Refusal.TheVariants.{NoRoom}
use Rattle.records.specs.declared.refusal.Room.TheVariants.{Names, Facts, Forks}
use Rattle.records.specs.declared.verdict.Verdict.{Verdict}
use Rattle.records.specs.declared.verdict.Verdict.TheVariants as verdict
use Rattle.rules.specs.declared.cited.Cited.{Cited}
use Rattle.rules.specs.declared.cited.Alt.{Alt}
use Rattle.rules.specs.declared.cited.Plan.{Plan}
use Rattle.rules.specs.declared.outcome.Fork.{Fork}
use Rattle.rules.specs.declared.outcome.Outcome.{Outcome}
use Rattle.rules.specs.declared.outcome.Outcome.TheVariants as outcome
use Rattle.rules.specs.Facts.{no_fact}
use Rattle.rules.specs.Rules.{alternative_of, alternatives_of, size_of, facts_of}
use Rattle.rules.specs.Looked.{row_at, planned}
use Rattle.rules.specs.Room.{names_over, facts_over, grown}
use Rattle.calls.specs.Stores.{Held, with_facts, with_forks}
use Rattle.calls.specs.Sheets.{Counts}

-- ── what a step comes to ───────────────────────────────────────────────────

-- what is cited where a fork is resumed
abbrev pub cited_again : List TermRow → Fact → ℕ → Cited
cited_again rows f x = record {
  one = false;
  p = f;
  q = no_fact;
  t = x;
  w = 0;
  of_p = row_at rows f.term;
  of_t = row_at rows x;
  left = (row_at rows (row_at rows f.term).a).arity;
  labels = option.None;
}

-- a fork with its next alternative; 3 is past every rule's last
abbrev pub onward : Fork → Fork
onward f = record {
  facts = f.facts;
  names = f.names;
  rule = f.rule;
  p = f.p;
  t = f.t;
  next = cond (nat_lt f.next 3) (f.next + 1) 3;
}

-- x, but at most m
abbrev pub at_most : ℕ → ℕ → ℕ
at_most m x = cond (nat_lt m x) m x

-- a fact that is there, or zeros
abbrev pub or_none : Option Fact → Fact
or_none (option.Some f) = f
or_none option.None = no_fact

-- how many forks are left where the latest is resumed
abbrev pub forks_left : ℕ → Fork → ℕ
forks_left k f = cond (nat_lt (onward f).next (alternatives_of f.rule)) k (k - 1)

-- the alternative a of the fork f, taken up; the fork goes with its last one
abbrev pub resumed_with : ℕ → Fork → ℕ → ℕ → Alt → Result Outcome Refusal
resumed_with k f m n a =
    cond (nat_lt 64 (n + a.fresh)) (Err (NoRoom Names))
    (cond (nat_lt 1024 (m + size_of a)) (Err (NoRoom Facts))
    (Ok (outcome.Resumes (grown m n a) (onward f) (forks_left k f))))

-- the fork f resumed: counts fall back to those where it stands, and its next alternative is made again
abbrev pub resumed : Counts → List TermRow → List Fact → Fork → Result Outcome Refusal
resumed t rows facts f =
    resumed_with t.forks f (at_most t.facts f.facts) (at_most 64 f.names)
    (alternative_of f.rule (cited_again rows (or_none (slice_get facts f.p)) f.t) (at_most 64 f.names)
    f.next)

-- a branch closes: with no fork left the trial is closed, else the latest is resumed
abbrev pub closing : Counts → List TermRow → List Fact → Option Fork → Result Outcome Refusal
closing t rows facts option.None = Ok outcome.Closes
closing t rows facts (option.Some f) = resumed t rows facts f

-- the fork that a step leaves
abbrev pub forked : Counts → Rule → Step → Fork
forked t r x = record { facts = t.facts; names = t.names; rule = r; p = x.p; t = x.t; next = 1 }

-- a rule with alternatives: room for the names of each, for the facts of each, for one more fork
abbrev pub growing : Counts → Step → Rule → Cited → Result Outcome Refusal
growing t x r c =
    cond (names_over r c t.names) (Err (NoRoom Names))
    (cond (facts_over r c t.names t.facts) (Err (NoRoom Facts))
    (cond (alternatives_of r == 1)
    (Ok (outcome.Adds (grown t.facts t.names (alternative_of r c t.names 0))))
    (cond (nat_lt t.forks 64)
    (Ok
    (outcome.Forks (grown t.facts t.names (alternative_of r c t.names 0)) (forked t r x)
    (t.forks + 1)))
    (Err (NoRoom Forks)))))

-- the rows of the sheet, the facts of the branch and the forks, as the counts say
abbrev pub codes_of : Counts → Held → List ℕ
codes_of t h = take t.labels h.labels

abbrev pub rows_of : Counts → Held → List TermRow
rows_of t h = take t.terms h.terms

abbrev pub branch_facts : Counts → Held → List Fact
branch_facts t h = take t.facts h.facts

abbrev pub forks_of : Counts → Held → List Fork
forks_of t h = take t.forks h.forks

-- what a planned step comes to
abbrev pub outcome_of : Counts → Held → Step → Result Plan Refusal → Result Outcome Refusal
outcome_of t h x (Err e) = Err e
outcome_of t h x (Ok y) =
    cond (alternatives_of y.rule == 0)
    (closing t (rows_of t h) (branch_facts t h) (slice_get (forks_of t h) (t.forks - 1)))
    (growing t x y.rule y.cited)

-- what a step comes to, or its refusal: 13, 14, 15, 16 in this order
abbrev pub come_to : (ℕ → maybe.Option ℕ) → Counts → Held → Step → Result Outcome Refusal
come_to K t h x = outcome_of t h x (planned K (codes_of t h) (rows_of t h) (branch_facts t h) x)

-- ── what it leaves ─────────────────────────────────────────────────────────

-- a list written from place i on
abbrev pub put_all : {X : Type 0} → List X → ℕ → List X → List X
put_all xs i [] = xs
put_all xs i (y ∷ ys) = put_all (slice_set xs i y) (i + 1) ys

-- an alternative's facts written from place i on
abbrev pub put_alt : List Fact → ℕ → Alt → List Fact
put_alt fs i x = put_all fs i (facts_of x)

-- the trial after a granted record, with this verdict and these counts of facts, names and forks
abbrev pub counted : Counts → Verdict → ℕ → ℕ → ℕ → Counts
counted t v m n k = record {
  labels = t.labels;
  free = t.free;
  terms = t.terms;
  constraints = t.constraints;
  verdict = v;
  names = n;
  facts = m;
  forks = k;
  granted = t.granted + 1;
  denied = t.denied;
}

-- the trial after a denied step
abbrev pub denied_once : Counts → Counts
denied_once t = record {
  labels = t.labels;
  free = t.free;
  terms = t.terms;
  constraints = t.constraints;
  verdict = t.verdict;
  names = t.names;
  facts = t.facts;
  forks = t.forks;
  granted = t.granted;
  denied = cond (nat_lt t.denied 65535) (t.denied + 1) t.denied;
}

-- what a step leaves
pub record Stepped : Type 0 where
  pub result : Result (Unit {0}) Refusal
  pub trial : Counts
  pub stores : Held

-- an outcome taken up
abbrev pub taken : Counts → Held → Outcome → Stepped
taken t h (outcome.Adds g) = record {
  result = Ok tt;
  trial = counted t t.verdict g.facts g.names t.forks;
  stores = with_facts h (put_alt h.facts g.at g.alt);
}
taken t h (outcome.Forks g f k) = record {
  result = Ok tt;
  trial = counted t t.verdict g.facts g.names k;
  stores =
      with_facts (with_forks h (slice_set h.forks t.forks f)) (put_alt h.facts g.at g.alt);
}
taken t h outcome.Closes = record {
  result = Ok tt;
  trial = counted t verdict.Closed t.facts t.names t.forks;
  stores = h;
}
taken t h (outcome.Resumes g f k) = record {
  result = Ok tt;
  trial = counted t t.verdict g.facts g.names k;
  stores =
      with_facts (with_forks h (slice_set h.forks (t.forks - 1) f)) (put_alt h.facts g.at g.alt);
}

-- a denied step leaves all but the denied count
abbrev pub left_denied : Counts → Held → Refusal → Stepped
left_denied t h e = record { result = Err e; trial = denied_once t; stores = h }

-- a step by what it came to
abbrev pub done : Counts → Held → Result Outcome Refusal → Stepped
done t h (Ok o) = taken t h o
done t h (Err e) = left_denied t h e
