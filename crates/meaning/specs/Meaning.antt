-- What sheets mean: things, interpretations, the value of a term, and when a fact holds.
use Rattle.std.specs.Prelude.{◌≡◌, ℕ, ◌<◌, Bool, true, false, ◌⊎◌, ◌↔◌, List, [], ◌∷◌, ◌++◌, map, reverse, length}
use mathlib.Core.List.{Memᴰ as Mem}
use Rattle.std.proofs.Math.Option.{Option, some}
use Rattle.std.proofs.Math.ListN.{get_elem?}
use Rattle.std.specs.List.{AllByRecursion}
use Rattle.meaning.specs.Terms.{variable, Row, RowIs, Form, member, equal, same, Fact, Sheet}
use Rattle.meaning.specs.Terms.{Tm, Var, Empty, Single, Union, Inter, Diff, Transp, Prod, Join, Closure, term}

-- A kind's meaning of label codes: each code has nothing or a whole number, its value.
abbrev pub CodeMeaning : Type 0
CodeMeaning = ℕ → Option ℕ

-- A thing: a whole number, marked as label value or as unlabelled.
pub data Thing : Type 0 where
  labelled : ℕ → Thing
  unlabelled : ℕ → Thing
  deriving Discrete as Thing-discrete

-- Pairs linked by a chain of one or more pairs of R.
pub data Chain {A : Type 0} (R : A → A → Type 0) : A → A → Type 0 where
  one : {x y : A} → R x y → Chain R x y
  more : {x y z : A} → R x y → Chain R y z → Chain R x z

-- An interpretation, over any carrier A: what each name means, and the tuples of each variable.
pub record Interp (A : Type 0) : Type 0 where
  pub name : ℕ → A
  pub rel : ℕ → List (List A)

-- The tuple u is in the value of a term. Transpose reverses each tuple; the join of (a.., m) and (m, b..)
-- is (a.., b..); the closure holds the pairs linked by a chain.
abbrev pub In : {A : Type 0} → Interp A → Tm → List A → Type 0
In I (Var n) u = Mem u (I.rel n)
In I Empty u = ⊥
In I (Single v) u = u ≡ map I.name v
In I (Union s r) u = In I s u ⊎ In I r u
In I (Inter s r) u = In I s u × In I r u
In I (Diff s r) u = In I s u × ¬ (In I r u)
In I (Transp s) u = In I s (reverse u)
In {A} I (Prod s r) u =
    (a : List A) × (b : List A) × (u ≡ a ++ b) × In I s a × In I r b
In {A} I (Join s r) u =
    (a : List A) × (m : A) × (b : List A) × (u ≡ a ++ b) × In I s (a ++ (m ∷ [])) × In I r (m ∷ b)
In {A} I (Closure s) u =
    (x : A) × (y : A) × (u ≡ x ∷ (y ∷ [])) × Chain (λ p q. In I s (p ∷ (q ∷ []))) x y

-- The tuple u is in the value of term t of a sheet.
abbrev pub Value : {A : Type 0} → List Row → Interp A → ℕ → List A → Type 0
Value rs I t u = In I (term rs t) u

-- When a form holds: `e` says what each name of the branch means.
abbrev pub Holds : {A : Type 0} → List Row → Interp A → (ℕ → A) → Form → Type 0
Holds rs I e (member u t) = Value rs I t (map e u)
Holds rs I e (equal a b) = e a ≡ e b
Holds {A} rs I e (same s r) = (u : List A) → Value rs I s u ↔ Value rs I r u

-- The form holds or does not, as the sign says.
abbrev pub Sat : {A : Type 0} → List Row → Interp A → (ℕ → A) → Bool → Form → Type 0
Sat rs I e true f = Holds rs I e f
Sat rs I e false f = ¬ (Holds rs I e f)

-- An interpretation and a meaning of the branch's names satisfy a fact.
abbrev pub SatFact : {A : Type 0} → List Row → Interp A → (ℕ → A) → Fact → Type 0
SatFact rs I e c = Sat rs I e c.sign c.form

-- Each variable holds tuples of its arity.
abbrev pub Sized : {A : Type 0} → List Row → Interp A → Type 0
Sized {A} rs I = (t k : ℕ) → RowIs rs t variable k → (u : List A) → Mem u (I.rel t) → length u ≡ k

-- Name e bears a label of value x, under the meaning K of codes.
abbrev pub Bears : CodeMeaning → Sheet → ℕ → ℕ → Type 0
Bears K S e x = (c : ℕ) × (get_elem? S.codes e ≡ some c) × (K c ≡ some x)

-- An interpretation of the sheet under K: a labelled name means its label's value, and variables hold tuples
-- of their arity.
pub record Reads (K : CodeMeaning) (S : Sheet) (I : Interp Thing) : Type 0 where
  pub labels : (e : ℕ) → e < length S.codes → (x : ℕ) × Bears K S e x × (I.name e ≡ labelled x)
  pub sized : Sized S.rows I

-- An interpretation satisfies each constraint of the sheet.
abbrev pub Satisfies : {A : Type 0} → Sheet → Interp A → Type 0
Satisfies S I = AllByRecursion (SatFact S.rows I I.name) S.constraints

-- Some interpretation of the sheet under K satisfies its constraints.
abbrev pub Satisfiable : CodeMeaning → Sheet → Type 0
Satisfiable K S = (I : Interp Thing) × Reads K S I × Satisfies S I
