-- What the lent stores hold: six lists, of which the tuple store counts by its length alone.
use Rattle.std.specs.Prelude.{ℕ, ◌≤◌, Bool, ◌&&◌, List, length, nat_le}
use Rattle.records.specs.declared.rows.Fact.{Fact}
use Rattle.records.specs.declared.rows.TermRow.{TermRow}
use Rattle.rules.specs.declared.outcome.Fork.{Fork}

-- All places of each store, past any count too; of the tuple store only how many there are.
pub record Held : Type 0 where
  pub labels : List ℕ
  pub terms : List TermRow
  pub facts : List Fact
  pub forks : List Fork
  pub tuples : ℕ
  pub representatives : List ℕ

-- The stores with other labels, terms, facts, forks or representatives.
abbrev pub with_labels : Held → List ℕ → Held
with_labels h xs = record {
  labels = xs;
  terms = h.terms;
  facts = h.facts;
  forks = h.forks;
  tuples = h.tuples;
  representatives = h.representatives;
}

abbrev pub with_terms : Held → List TermRow → Held
with_terms h xs = record {
  labels = h.labels;
  terms = xs;
  facts = h.facts;
  forks = h.forks;
  tuples = h.tuples;
  representatives = h.representatives;
}

abbrev pub with_facts : Held → List Fact → Held
with_facts h xs = record {
  labels = h.labels;
  terms = h.terms;
  facts = xs;
  forks = h.forks;
  tuples = h.tuples;
  representatives = h.representatives;
}

abbrev pub with_forks : Held → List Fork → Held
with_forks h xs = record {
  labels = h.labels;
  terms = h.terms;
  facts = h.facts;
  forks = xs;
  tuples = h.tuples;
  representatives = h.representatives;
}

abbrev pub with_representatives : Held → List ℕ → Held
with_representatives h xs = record {
  labels = h.labels;
  terms = h.terms;
  facts = h.facts;
  forks = h.forks;
  tuples = h.tuples;
  representatives = xs;
}

-- The stores are as long as the limits ask.
pub record Enough (h : Held) : Type 0 where
  pub labels : 32 ≤ length h.labels
  pub terms : 64 ≤ length h.terms
  pub facts : 1024 ≤ length h.facts
  pub forks : 64 ≤ length h.forks
  pub tuples : 4096 ≤ h.tuples
  pub representatives : 64 ≤ length h.representatives

-- The test of it.
abbrev pub enough : Held → Bool
enough h =
    nat_le 32 (length h.labels) && (nat_le 64 (length h.terms) && (nat_le 1024 (length h.facts) &&
    (nat_le 64 (length h.forks) && (nat_le 4096 h.tuples && nat_le 64 (length h.representatives)))))
