-- The lent stores seen as what they hold, and that the same stores are lent.
use Rattle.std.specs.Prelude.{◌≡◌, List, length}
use Rattle.calls.specs.Stores.{Held}
use Rattle.stores.specs.declared.lent.Stores.{Stores}
use Rattle.records.specs.declared.tuple.Tuple.{Tuple}

-- all places of each store; of the tuple store how many there are
abbrev pub held : Stores → Held
held s = record {
  labels = s.labels.now;
  terms = s.terms.now;
  facts = s.facts.now;
  forks = s.forks.now;
  tuples = length s.tuples.now;
  representatives = s.representatives.now;
}

-- the tuples themselves, which only a model's evaluation writes
abbrev pub tuples_of : Stores → List Tuple
tuples_of s = s.tuples.now

-- the same six slices are lent, and the tuple store keeps its length
pub record Same (s t : Stores) : Type 0 where
  pub labels : t.labels.ghost_name ≡ s.labels.ghost_name
  pub terms : t.terms.ghost_name ≡ s.terms.ghost_name
  pub facts : t.facts.ghost_name ≡ s.facts.ghost_name
  pub forks : t.forks.ghost_name ≡ s.forks.ghost_name
  pub tuples : t.tuples.ghost_name ≡ s.tuples.ghost_name
  pub representatives : t.representatives.ghost_name ≡ s.representatives.ghost_name
  pub tuples_length : length t.tuples.now ≡ length s.tuples.now
