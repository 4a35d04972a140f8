-- Term rows, the terms that they stand for, facts, and sheets.
use Rattle.std.specs.Prelude.{◌≡◌, ℕ, ◌+◌, ◌<◌, Bool, true, false, List, [], ◌∷◌, ◌++◌, length, get_or, slice_index_or}
use Rattle.std.proofs.Math.Option.{some}
use Rattle.std.proofs.Math.ListN.{get_elem?}
use Rattle.std.specs.List.{AllByRecursion}

infix 70 ◌∈◌ ◌∉◌ ◌≈◌ ◌≉◌ ◌≐◌ ◌≭◌
infixl 72 ◌⊔◌ ◌⊓◌ ◌∖◌ ◌∗◌ ◌⋈◌
infix 74 ◌⁻¹ ◌⁺
infix 68 ◌⊢◌≔◌
-- What a term row says: an operation and its operands, which are the numbers of earlier rows,
-- or the names of a singleton's tuple.
pub data Op : Type 0 where
  variable : Op
  empty : Op
  single : List ℕ → Op
  union : ℕ → ℕ → Op
  inter : ℕ → ℕ → Op
  diff : ℕ → ℕ → Op
  transp : ℕ → Op
  prod : ℕ → ℕ → Op
  join : ℕ → ℕ → Op
  closure : ℕ → Op

-- Operations on terms by their signs: union, intersection, difference, product, join, transpose, closure.
abbrev pub ◌⊔◌ : ℕ → ℕ → Op
s ⊔ r = union s r

abbrev pub ◌⊓◌ : ℕ → ℕ → Op
s ⊓ r = inter s r

abbrev pub ◌∖◌ : ℕ → ℕ → Op
s ∖ r = diff s r

abbrev pub ◌∗◌ : ℕ → ℕ → Op
s ∗ r = prod s r

abbrev pub ◌⋈◌ : ℕ → ℕ → Op
s ⋈ r = join s r

abbrev pub ◌⁻¹ : ℕ → Op
s ⁻¹ = transp s

abbrev pub ◌⁺ : ℕ → Op
s ⁺ = closure s

-- A term row: its operation, and how many places its tuples have.
pub record Row : Type 0 where
  pub op : Op
  pub arity : ℕ

-- A term as a tree; a variable goes by the number of its row.
pub data Tm : Type 0 where
  Var : ℕ → Tm
  Empty : Tm
  Single : List ℕ → Tm
  Union : Tm → Tm → Tm
  Inter : Tm → Tm → Tm
  Diff : Tm → Tm → Tm
  Transp : Tm → Tm
  Prod : Tm → Tm → Tm
  Join : Tm → Tm → Tm
  Closure : Tm → Tm

-- The tree of row n, where f gives the trees of its operands.
abbrev pub node : ℕ → Op → (ℕ → Tm) → Tm
node n variable f = Var n
node n empty f = Empty
node n (single v) f = Single v
node n (union s r) f = Union (f s) (f r)
node n (inter s r) f = Inter (f s) (f r)
node n (diff s r) f = Diff (f s) (f r)
node n (transp s) f = Transp (f s)
node n (prod s r) f = Prod (f s) (f r)
node n (join s r) f = Join (f s) (f r)
node n (closure s) f = Closure (f s)

-- The trees of all rows, in order: `done` holds those of the rows before.
unfoldable pub trees : List Tm → List Row → List Tm
trees done [] = done
trees done (r ∷ rs) = trees (done ++ (node (length done) r.op (λ i. get_or done i Empty) ∷ [])) rs

-- The tree of term n.
unfoldable pub term : List Row → ℕ → Tm
unfolding trees
term rs n = slice_index_or (trees [] rs) n Empty

-- What a fact or a constraint says, its sign apart: a tuple of names is in a term, two names are equal,
-- two terms are equal. Names and terms go by number.
pub data Form : Type 0 where
  member : List ℕ → ℕ → Form
  equal : ℕ → ℕ → Form
  same : ℕ → ℕ → Form

-- A fact, and so a constraint: a form with a sign, which says that it holds or that it does not.
pub record Fact : Type 0 where
  pub sign : Bool
  pub form : Form

-- A form with a sign of either value.
abbrev pub signed : Bool → Form → Fact
signed g f = record { sign = g; form = f }

-- The form holds.
abbrev pub pos : Form → Fact
pos f = record { sign = true; form = f }

-- The form does not hold.
abbrev pub neg : Form → Fact
neg f = record { sign = false; form = f }

-- Facts by their signs: the tuple u is in the term t, or not.
abbrev pub ◌∈◌ : List ℕ → ℕ → Fact
u ∈ t = pos (member u t)

abbrev pub ◌∉◌ : List ℕ → ℕ → Fact
u ∉ t = neg (member u t)

-- The names a and b are equal, or not.
abbrev pub ◌≈◌ : ℕ → ℕ → Fact
a ≈ b = pos (equal a b)

abbrev pub ◌≉◌ : ℕ → ℕ → Fact
a ≉ b = neg (equal a b)

-- The terms s and r are equal, or not.
abbrev pub ◌≐◌ : ℕ → ℕ → Fact
s ≐ r = pos (same s r)

abbrev pub ◌≭◌ : ℕ → ℕ → Fact
s ≭ r = neg (same s r)

-- A sheet: the codes of the labelled names, how many free names follow, the terms and the constraints.
pub record Sheet : Type 0 where
  pub codes : List ℕ
  pub free : ℕ
  pub rows : List Row
  pub constraints : List Fact

-- How many names a sheet has.
abbrev pub names : Sheet → ℕ
names S = length S.codes + S.free

-- Row t has the operation o and the arity k.
abbrev pub RowIs : List Row → ℕ → Op → ℕ → Type 0
RowIs rs t o k = get_elem? rs t ≡ some (record { op = o; arity = k })

-- Term t has the operation o.
pub record Is (rs : List Row) (t : ℕ) (o : Op) : Type 0 where
  pub arity : ℕ
  pub row : RowIs rs t o arity

-- Term t of the sheet has the operation o.
abbrev pub ◌⊢◌≔◌ : Sheet → ℕ → Op → Type 0
S ⊢ t ≔ o = Is S.rows t o

-- Term t has the arity k.
pub record Arity (rs : List Row) (t : ℕ) (k : ℕ) : Type 0 where
  pub op : Op
  pub row : RowIs rs t op k

-- An operand of row t: an earlier row, of arity k.
abbrev pub Before : List Row → ℕ → ℕ → ℕ → Type 0
Before rs t s k = (s < t) × Arity rs s k

-- What is asked of row t, of arity k, by its operation; n is the number of names.
abbrev pub OpFits : List Row → ℕ → ℕ → ℕ → Op → Type 0
OpFits rs n t k variable = Unit {0}
OpFits rs n t k empty = Unit {0}
OpFits rs n t k (single v) = (length v ≡ k) × AllByRecursion (λ e. e < n) v
OpFits rs n t k (union s r) = Before rs t s k × Before rs t r k
OpFits rs n t k (inter s r) = Before rs t s k × Before rs t r k
OpFits rs n t k (diff s r) = Before rs t s k × Before rs t r k
OpFits rs n t k (transp s) = Before rs t s k
OpFits rs n t k (prod s r) =
    (i : ℕ) × (j : ℕ) × Before rs t s i × Before rs t r j × (k ≡ i + j)
OpFits rs n t k (join s r) =
    (i : ℕ) × (j : ℕ) × Before rs t s (i + 1) × Before rs t r (j + 1) × (k ≡ i + j)
OpFits rs n t k (closure s) = Before rs t s 2 × (k ≡ 2)

-- What is asked of a form where there are n names: they are below n, and the arities agree.
abbrev pub FormFits : List Row → ℕ → Form → Type 0
FormFits rs n (member u t) = Arity rs t (length u) × AllByRecursion (λ e. e < n) u
FormFits rs n (equal a b) = (a < n) × (b < n)
FormFits rs n (same s r) = (k : ℕ) × Arity rs s k × Arity rs r k

-- A full sheet: every row and every constraint fits.
pub record Full (S : Sheet) : Type 0 where
  pub rows_fit :
      (t : ℕ) (o : Op) (k : ℕ) → RowIs S.rows t o k → OpFits S.rows (names S) t k o
  pub constraints_fit : AllByRecursion (λ c. FormFits S.rows (names S) c.form) S.constraints
