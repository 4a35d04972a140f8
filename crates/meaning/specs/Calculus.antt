-- The calculus: its rules, branches, forks, steps and runs.
use Rattle.std.specs.Prelude.{◌≡◌, ℕ, zero, suc, ◌+◌, Bool, cond, ◌≢◌, ◌⊎◌, List, [], ◌∷◌, ◌++◌, reverse, length, ◌==◌}
use Rattle.std.proofs.Math.Option.{some}
use Rattle.std.proofs.Math.ListN.{get_elem?}
use Rattle.meaning.specs.Terms.{empty, single, ◌⊔◌, ◌⊓◌, ◌∖◌, ◌∗◌, ◌⋈◌, ◌⁻¹, ◌⁺, ◌⊢◌≔◌}
use Rattle.meaning.specs.Terms.{Form, member, equal, same, Fact, signed, pos, neg, Sheet, names, Arity}
use Rattle.meaning.specs.Terms.{◌∈◌, ◌∉◌, ◌≈◌, ◌≉◌, ◌≐◌, ◌≭◌}
use Rattle.meaning.specs.Meaning.{CodeMeaning, Bears}

-- One alternative of a rule: how many fresh names it brings, and the facts that it appends.
pub record Alt : Type 0 where
  pub fresh : ℕ
  pub facts : List Fact

-- An alternative by its parts.
abbrev pub alt : ℕ → List Fact → Alt
alt k fs = record { fresh = k; facts = fs }

-- One alternative only, without fresh names.
abbrev pub just : List Fact → List Alt
just fs = alt 0 fs ∷ []

-- The k names from n on.
abbrev pub up_from : ℕ → ℕ → List ℕ
up_from n zero = []
up_from n (suc k) = n ∷ up_from (n + 1) k

-- One equality for each place of two tuples.
abbrev pub equalities : List ℕ → List ℕ → List Fact
equalities [] v = []
equalities (a ∷ u) [] = []
equalities (a ∷ u) (b ∷ v) = a ≈ b ∷ equalities u v

-- The rules. `Rule K S n r t w ps alts`: under the meaning K of codes, on a branch of the sheet S with n
-- names, rule number r with the fields t and w (zero where the rule has none), which cites the facts ps, has
-- the alternatives alts; with none the branch closes. Each case has what it asks of the sheet first, then
-- number and fields, the facts that it cites, and the alternatives.
pub data Rule (K : CodeMeaning) (S : Sheet) (n : ℕ) : ℕ → ℕ → ℕ → List Fact → List Alt → Type 0 where
  -- INTER UP
  inter_up : {u : List ℕ} {s r t : ℕ} →
      S ⊢ t ≔ s ⊓ r →
      Rule K S n 1 t 0
      (u ∈ s ∷ u ∈ r ∷ [])
      (just (u ∈ t ∷ []))
  -- INTER DOWN
  inter_down : {u : List ℕ} {s r t : ℕ} →
      S ⊢ t ≔ s ⊓ r →
      Rule K S n 2 0 0
      (u ∈ t ∷ [])
      (just (u ∈ s ∷ u ∈ r ∷ []))
  -- UNION UP, with x on either side
  union_up : {u : List ℕ} {s r t x : ℕ} →
      S ⊢ t ≔ s ⊔ r →
      (x ≡ s) ⊎ (x ≡ r) →
      Rule K S n 3 t 0
      (u ∈ x ∷ [])
      (just (u ∈ t ∷ []))
  -- UNION DOWN
  union_down : {u : List ℕ} {s r t : ℕ} →
      S ⊢ t ≔ s ⊔ r →
      Rule K S n 4 0 0
      (u ∈ t ∷ [])
      (alt 0 (u ∈ s ∷ []) ∷ alt 0 (u ∈ r ∷ []) ∷ [])
  -- DIFF UP
  diff_up : {u : List ℕ} {s r t : ℕ} →
      S ⊢ t ≔ s ∖ r →
      Rule K S n 5 t 0
      (u ∈ s ∷ [])
      (alt 0 (u ∈ r ∷ []) ∷ alt 0 (u ∈ t ∷ []) ∷ [])
  -- DIFF DOWN
  diff_down : {u : List ℕ} {s r t : ℕ} →
      S ⊢ t ≔ s ∖ r →
      Rule K S n 6 0 0
      (u ∈ t ∷ [])
      (just (u ∈ s ∷ u ∉ r ∷ []))
  -- SINGLE UP
  single_up : {v : List ℕ} {t : ℕ} →
      S ⊢ t ≔ single v →
      Rule K S n 7 t 0
      []
      (just (v ∈ t ∷ []))
  -- SINGLE DOWN: one equality for each place
  single_down : {u v : List ℕ} {t : ℕ} →
      S ⊢ t ≔ single v →
      Rule K S n 8 0 0
      (u ∈ t ∷ [])
      (just (equalities u v))
  -- EMPTY UNSAT
  empty_unsat : {u : List ℕ} {t : ℕ} →
      S ⊢ t ≔ empty →
      Rule K S n 9 0 0
      (u ∈ t ∷ [])
      []
  -- SET DISEQ: a fresh name for each place
  set_diseq : {s r k : ℕ} →
      Arity S.rows s k →
      Arity S.rows r k →
      Rule K S n 10 0 0
      (s ≭ r ∷ [])
      (alt k (up_from n k ∈ s ∷ up_from n k ∉ r ∷ []) ∷
      alt k (up_from n k ∉ s ∷ up_from n k ∈ r ∷ []) ∷ [])
  -- EQ UNSAT: a side is not equal to itself, or a fact and its exact negation
  eq_unsat_names : {a : ℕ} →
      Rule K S n 11 0 0
      (a ≉ a ∷ [])
      []
  eq_unsat_terms : {s : ℕ} →
      Rule K S n 11 0 0
      (s ≭ s ∷ [])
      []
  eq_unsat_both : {f : Form} →
      Rule K S n 11 0 0
      (pos f ∷ neg f ∷ [])
      []
  -- TRANSP UP
  transp_up : {u : List ℕ} {s t : ℕ} →
      S ⊢ t ≔ s ⁻¹ →
      Rule K S n 12 t 0
      (u ∈ s ∷ [])
      (just (reverse u ∈ t ∷ []))
  -- TRANSP DOWN
  transp_down : {u : List ℕ} {s t : ℕ} →
      S ⊢ t ≔ s ⁻¹ →
      Rule K S n 13 0 0
      (u ∈ t ∷ [])
      (just (reverse u ∈ s ∷ []))
  -- JOIN UP
  join_up : (a b : List ℕ) {m s r t : ℕ} →
      S ⊢ t ≔ s ⋈ r →
      Rule K S n 14 t 0
      ((a ++ (m ∷ [])) ∈ s ∷ (m ∷ b) ∈ r ∷ [])
      (just ((a ++ b) ∈ t ∷ []))
  -- JOIN DOWN: n is fresh
  join_down : (a b : List ℕ) {s r t : ℕ} →
      S ⊢ t ≔ s ⋈ r →
      Arity S.rows s (length a + 1) →
      Rule K S n 15 0 0
      ((a ++ b) ∈ t ∷ [])
      (alt 1 ((a ++ (n ∷ [])) ∈ s ∷ (n ∷ b) ∈ r ∷ []) ∷ [])
  -- PROD UP
  prod_up : {u v : List ℕ} {s r t : ℕ} →
      S ⊢ t ≔ s ∗ r →
      Rule K S n 16 t 0
      (u ∈ s ∷ v ∈ r ∷ [])
      (just ((u ++ v) ∈ t ∷ []))
  -- PROD DOWN
  prod_down : (u v : List ℕ) {s r t : ℕ} →
      S ⊢ t ≔ s ∗ r →
      Arity S.rows s (length u) →
      Rule K S n 17 0 0
      ((u ++ v) ∈ t ∷ [])
      (just (u ∈ s ∷ v ∈ r ∷ []))
  -- TCLOS UP I
  tclos_up_one : {u : List ℕ} {s t : ℕ} →
      S ⊢ t ≔ s ⁺ →
      Rule K S n 18 t 0
      (u ∈ s ∷ [])
      (just (u ∈ t ∷ []))
  -- TCLOS UP II
  tclos_up_two : {a b c s t : ℕ} →
      S ⊢ t ≔ s ⁺ →
      Rule K S n 19 0 0
      ((a ∷ b ∷ []) ∈ t ∷ (b ∷ c ∷ []) ∈ t ∷ [])
      (just ((a ∷ c ∷ []) ∈ t ∷ []))
  -- TCLOS DOWN: n and n + 1 are fresh
  tclos_down : {a b s t : ℕ} →
      S ⊢ t ≔ s ⁺ →
      Rule K S n 20 0 0
      ((a ∷ b ∷ []) ∈ t ∷ [])
      (alt 0 ((a ∷ b ∷ []) ∈ s ∷ []) ∷
      alt 1 ((a ∷ n ∷ []) ∈ s ∷ (n ∷ b ∷ []) ∈ s ∷ []) ∷
      alt 2 ((a ∷ n ∷ []) ∈ s ∷ (n ∷ (n + 1) ∷ []) ∈ t ∷ ((n + 1) ∷ b ∷ []) ∈ s ∷ n ≉ (n + 1) ∷ []) ∷ [])
  -- SYM: an equality of either sign
  sym_names : {g : Bool} {a b : ℕ} →
      Rule K S n 21 0 0
      (signed g (equal a b) ∷ [])
      (just (signed g (equal b a) ∷ []))
  sym_terms : {g : Bool} {s r : ℕ} →
      Rule K S n 21 0 0
      (signed g (same s r) ∷ [])
      (just (signed g (same r s) ∷ []))
  -- SWAP NAME: w is the place
  swap_name_member : (u v : List ℕ) {g : Bool} {a b t : ℕ} →
      Rule K S n 22 0 (length u)
      (signed g (member (u ++ (a ∷ v)) t) ∷ a ≈ b ∷ [])
      (just (signed g (member (u ++ (b ∷ v)) t) ∷ []))
  swap_name_left : {g : Bool} {a b c : ℕ} →
      Rule K S n 22 0 0
      (signed g (equal a c) ∷ a ≈ b ∷ [])
      (just (signed g (equal b c) ∷ []))
  swap_name_right : {g : Bool} {a b c : ℕ} →
      Rule K S n 22 0 1
      (signed g (equal c a) ∷ a ≈ b ∷ [])
      (just (signed g (equal c b) ∷ []))
  -- SWAP TERM: w is 0 for a member, or the side
  swap_term_member : {g : Bool} {u : List ℕ} {s r : ℕ} →
      Rule K S n 23 0 0
      (signed g (member u s) ∷ s ≐ r ∷ [])
      (just (signed g (member u r) ∷ []))
  swap_term_left : {g : Bool} {s r t : ℕ} →
      Rule K S n 23 0 0
      (signed g (same s t) ∷ s ≐ r ∷ [])
      (just (signed g (same r t) ∷ []))
  swap_term_right : {g : Bool} {s r t : ℕ} →
      Rule K S n 23 0 1
      (signed g (same t s) ∷ s ≐ r ∷ [])
      (just (signed g (same t r) ∷ []))
  -- LABEL UNSAT: both labelled, and the labels are not the same
  label_unsat : {a b x y : ℕ} →
      Bears K S a x →
      Bears K S b y →
      x ≢ y →
      Rule K S n 24 0 0
      (a ≈ b ∷ [])
      []
  -- LABEL SAME: the fields t and w are names with the same label
  label_same : {a b x : ℕ} →
      Bears K S a x →
      Bears K S b x →
      Rule K S n 25 a b
      []
      (just (a ≈ b ∷ []))

-- Fact number p is f.
pub record At (fs : List Fact) (p : ℕ) (f : Fact) : Type 0 where
  pub is : get_elem? fs p ≡ some f

-- A rule that cites one fact has q zero, but for rule 11, which then names it twice.
abbrev pub alone : ℕ → ℕ → ℕ
alone r p = cond (r == 11) p 0

-- The facts that a record of rule r cites by its fields p and q.
pub data Cites (fs : List Fact) (r : ℕ) : ℕ → ℕ → List Fact → Type 0 where
  cites_none : Cites fs r 0 0 []
  cites_one : {p : ℕ} {f : Fact} → At fs p f → Cites fs r p (alone r p) (f ∷ [])
  cites_two : {p q : ℕ} {f g : Fact} → At fs p f → At fs q g → Cites fs r p q (f ∷ g ∷ [])

-- A branch: its facts in order, and how many names it has.
pub record Branch : Type 0 where
  pub facts : List Fact
  pub count : ℕ

-- The branch with an alternative's facts and names appended.
abbrev pub extend : Branch → Alt → Branch
extend b a = record { facts = b.facts ++ a.facts; count = b.count + a.fresh }

-- A fork: the branch as it stood there, the alternative that comes next, and those after it.
pub record Fork : Type 0 where
  pub at : Branch
  pub next : Alt
  pub later : List Alt

-- A state: a branch and the forks that are left, the latest first; or closed.
pub data State : Type 0 where
  running : Branch → List Fork → State
  closed : State

-- Take up the alternative a at b; while others are left the fork counts.
abbrev pub enter : Branch → Alt → List Alt → List Fork → State
enter b a [] fs = running (extend b a) fs
enter b a (a' ∷ more) fs = running (extend b a) (record { at = b; next = a'; later = more } ∷ fs)

-- A branch closes: the latest fork is resumed.
abbrev pub resume : List Fork → State
resume [] = closed
resume (f ∷ fs) = enter f.at f.next f.later fs

-- What a rule's alternatives make of a branch and its forks.
abbrev pub apply : Branch → List Alt → List Fork → State
apply b [] fs = resume fs
apply b (a ∷ more) fs = enter b a more fs

-- The record r p q t w applies on the branch b, with the alternatives alts.
pub record Applies (K : CodeMeaning) (S : Sheet) (b : Branch) (r p q t w : ℕ) (alts : List Alt)
    : Type 0 where
  pub cited : List Fact
  pub rule : Rule K S b.count r t w cited alts
  pub cites : Cites b.facts r p q cited

-- One step of the calculus.
pub data Step (K : CodeMeaning) (S : Sheet) : State → State → Type 0 where
  step : {b : Branch} {fs : List Fork} {r p q t w : ℕ} {alts : List Alt} →
      Applies K S b r p q t w alts →
      Step K S (running b fs) (apply b alts fs)

-- Steps one after another.
pub data Run (K : CodeMeaning) (S : Sheet) : State → State → Type 0 where
  done : {x : State} → Run K S x x
  then : {x y z : State} → Step K S x y → Run K S y z → Run K S x z

-- Sealing starts one branch: its facts are the constraints, its names the sheet's.
abbrev pub start : Sheet → State
start S = running (record { facts = S.constraints; count = names S }) []
