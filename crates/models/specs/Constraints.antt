-- When constraints hold over tuples of representatives, and the first that does not.
use Rattle.std.specs.Prelude.{◌≡◌, ℕ, ◌<◌, Bool, true, false, cond, List, Some, None, Option, ◌==◌, slice_index_or}
use Rattle.records.specs.declared.rows.Fact.{Fact}
use Rattle.rules.specs.Facts.{no_fact}
use Rattle.meaning.specs.Model.{rep}
use Rattle.values.specs.Sets.{In}
use Rattle.records.specs.declared.tuple.Tuple.{Tuple}
use Rattle.models.specs.Rows.{fact_tuple, value_of}
use Rattle.records.specs.declared.kinds.Form.{Form}
use Rattle.records.specs.declared.kinds.Form.TheVariants.{Member, EqualNames, EqualTerms}

-- The form with this number; equality of terms for all but 1 and 2.
abbrev pub form_of : ℕ → Form
form_of n = cond (n == 1) Member (cond (n == 2) EqualNames EqualTerms)

-- Each tuple of S is one of R.
abbrev pub Includes : (Tuple → Type 0) → (Tuple → Type 0) → Type 0
Includes S R = (t : Tuple) → S t → R t

-- What a form says: S is what its term holds, R what the term numbered by its first name byte holds.
abbrev pub FormSays : Form → List ℕ → Fact → (Tuple → Type 0) → (Tuple → Type 0) → Type 0
FormSays Member rs f S R = S (fact_tuple rs f)
FormSays EqualNames rs f S R = rep rs f.a ≡ rep rs f.b
FormSays EqualTerms rs f S R = Includes S R × Includes R S

-- It holds or does not, as the sign says.
abbrev pub BySign : Bool → Type 0 → Type 0
BySign true P = P
BySign false P = P → ⊥

-- A constraint is satisfied, where M is what the terms hold.
abbrev pub Satisfied : List ℕ → (ℕ → Tuple → Type 0) → Fact → Type 0
Satisfied rs M f = BySign f.positive (FormSays (form_of f.form) rs f (M f.term) (M f.a))

-- What each term holds, by the values.
abbrev pub IsHeld : List (List Tuple) → ℕ → Tuple → Type 0
IsHeld vs j t = In (value_of vs j) t

-- The first of the first m constraints that is not satisfied, or all of them are.
abbrev pub IsFirstFalse : List ℕ → (ℕ → Tuple → Type 0) → List Fact → ℕ → Option ℕ → Type 0
IsFirstFalse rs M facts m None = (i : ℕ) → i < m → Satisfied rs M (slice_index_or facts i no_fact)
IsFirstFalse rs M facts m (Some i) =
    (i < m) × ((j : ℕ) → j < i → Satisfied rs M (slice_index_or facts j no_fact))
    × (Satisfied rs M (slice_index_or facts i no_fact) → ⊥)
