-- Models: representatives of the names of a branch, when they are lawful, and the interpretations that
-- they give.
use Rattle.std.specs.Prelude.{◌≡◌, ℕ, ◌<◌, ◌≤◌, Bool, true, false, cond, ◌↔◌, List, [], ◌∷◌, map, length, ◌==◌, slice_index}
use Rattle.std.proofs.Math.Option.{Option, none, some}
use Rattle.std.proofs.Math.ListN.{get_elem?}
use Rattle.meaning.specs.Terms.{Op, variable, empty, single, union, inter, diff, transp, prod, join, closure}
use Rattle.meaning.specs.Terms.{Row, Form, member, equal, same, Fact, Sheet}
use Rattle.meaning.specs.Meaning.{CodeMeaning, Thing, labelled, unlabelled, Interp, Bears}

-- The representative of name e.
abbrev pub rep : List ℕ → ℕ → ℕ
rep rs e = slice_index rs e

-- Names d and e bear the same label.
abbrev pub SameLabel : CodeMeaning → Sheet → ℕ → ℕ → Type 0
SameLabel K S d e = (x : ℕ) × Bears K S d x × Bears K S e x

-- Representatives for the n names of a branch are lawful: each is no higher than its name and represents
-- itself; a labelled name has the same label as its representative; and a labelled name that represents
-- itself has no lower such name with the same label.
pub record Lawful (K : CodeMeaning) (S : Sheet) (n : ℕ) (rs : List ℕ) : Type 0 where
  pub count : length rs ≡ n
  pub low : (e : ℕ) → e < n → rep rs e ≤ e
  pub fixed : (e : ℕ) → e < n → rep rs (rep rs e) ≡ rep rs e
  pub label : (e : ℕ) → e < length S.codes → SameLabel K S e (rep rs e)
  pub lowest : (d e : ℕ) → d < e → e < length S.codes →
      rep rs d ≡ d → rep rs e ≡ e → ¬ (SameLabel K S d e)

-- What the representative p stands for, by its label's value: that value, or else an unlabelled thing.
abbrev pub valued : ℕ → Option ℕ → Thing
valued p none = unlabelled p
valued p (some x) = labelled x

-- What it stands for, by the code that it bears, if any.
abbrev pub coded : CodeMeaning → ℕ → Option ℕ → Thing
coded K p none = unlabelled p
coded K p (some c) = valued p (K c)

-- What the representative p stands for: its label's value if it is labelled, else the unlabelled thing p.
abbrev pub thing : CodeMeaning → Sheet → ℕ → Thing
thing K S p = coded K p (get_elem? S.codes p)

-- The tuple of a positive fact on term t, put before others.
abbrev pub on_term : ℕ → Bool → Form → List (List ℕ) → List (List ℕ)
on_term t true (member u s) us = cond (s == t) (u ∷ us) us
on_term t false (member u s) us = us
on_term t g (equal a b) us = us
on_term t g (same s r) us = us

-- The tuples of the positive facts on term t, in order.
abbrev pub tuples : List Fact → ℕ → List (List ℕ)
tuples [] t = []
tuples (c ∷ cs) t = on_term t c.sign c.form (tuples cs t)

-- The operation is a variable's.
abbrev pub is_variable : Op → Bool
is_variable variable = true
is_variable empty = false
is_variable (single v) = false
is_variable (union s r) = false
is_variable (inter s r) = false
is_variable (diff s r) = false
is_variable (transp s) = false
is_variable (prod s r) = false
is_variable (join s r) = false
is_variable (closure s) = false

-- There is a row, and it is a variable's.
abbrev pub row_is_variable : Option Row → Bool
row_is_variable none = false
row_is_variable (some r) = is_variable r.op

-- A variable holds the tuples of the positive facts on it.
abbrev pub held : Sheet → List Fact → ℕ → List (List ℕ)
held S cs t = cond (row_is_variable (get_elem? S.rows t)) (tuples cs t) []

-- The interpretation over numbers: each name means its representative.
abbrev pub Named : Sheet → List ℕ → List Fact → Interp ℕ
Named S rs cs = record { name = rep rs; rel = λ t. map (map (rep rs)) (held S cs t) }

-- The interpretation over things: each name means what its representative stands for.
abbrev pub Listed : CodeMeaning → Sheet → List ℕ → List Fact → Interp Thing
Listed K S rs cs = record {
  name = λ e. thing K S (rep rs e);
  rel = λ t. map (map (thing K S)) (map (map (rep rs)) (held S cs t));
}

-- Two meanings of codes that agree on which of the sheet's labels are the same.
abbrev pub Alike : CodeMeaning → CodeMeaning → Sheet → Type 0
Alike K K' S = (d e : ℕ) → SameLabel K S d e ↔ SameLabel K' S d e
