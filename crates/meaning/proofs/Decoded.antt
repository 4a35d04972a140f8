-- The tree of each row is made of the trees of its operands: `term_node`.
use Rattle.std.proofs.Common.{◌≡◌, ℕ, zero, suc, ◌+◌, ◌<◌, List, [], ◌∷◌, ◌++◌, length, get_or, sym, refl, ◌∙◌, arith}
use mathlib.Core.Option.{some-injective}
use lib.ListN.{get_or-append}
use Rattle.std.proofs.lemmas.List.{get_or_push, length_push}
use Rattle.meaning.specs.Terms.{Op, variable, empty, single, union, inter, diff, transp, prod, join, closure, Row, Tm, Empty, Union, Inter, Diff, Transp, Prod, Join, Closure, node, trees, term, RowIs, OpFits}

-- each operand of o is below n
abbrev pub Smaller : ℕ → Op → Type 0
Smaller n variable = Unit {0}
Smaller n empty = Unit {0}
Smaller n (single v) = Unit {0}
Smaller n (union s r) = (s < n) × (r < n)
Smaller n (inter s r) = (s < n) × (r < n)
Smaller n (diff s r) = (s < n) × (r < n)
Smaller n (transp s) = s < n
Smaller n (prod s r) = (s < n) × (r < n)
Smaller n (join s r) = (s < n) × (r < n)
Smaller n (closure s) = s < n

pub smaller : (rs : List Row) (n t k : ℕ) (o : Op) → OpFits rs n t k o → Smaller t o
smaller rs n t k (union s r) h = (h.0.0, h.1.0)
smaller rs n t k (inter s r) h = (h.0.0, h.1.0)
smaller rs n t k (diff s r) h = (h.0.0, h.1.0)
smaller rs n t k (transp s) h = h.0
smaller rs n t k (prod s r) h = (h.2.0, h.3.0)
smaller rs n t k (join s r) h = (h.2.0, h.3.0)
smaller rs n t k (closure s) h = h.0.0
smaller rs n t k _ h = tt

node_same : (n : ℕ) (o : Op) (f g : ℕ → Tm) → Smaller n o → ((i : ℕ) → i < n → f i ≡ g i) → node n o f ≡ node n o g
node_same n (union s r) f g h e = λ i. Union (e s h.0 i) (e r h.1 i)
node_same n (inter s r) f g h e = λ i. Inter (e s h.0 i) (e r h.1 i)
node_same n (diff s r) f g h e = λ i. Diff (e s h.0 i) (e r h.1 i)
node_same n (transp s) f g h e = λ i. Transp (e s h i)
node_same n (prod s r) f g h e = λ i. Prod (e s h.0 i) (e r h.1 i)
node_same n (join s r) f g h e = λ i. Join (e s h.0 i) (e r h.1 i)
node_same n (closure s) f g h e = λ i. Closure (e s h i)
node_same n _ f g h e = refl

pushed : List Tm → Row → List Tm
pushed done r = done ++ (node (length done) r.op (λ i. get_or done i Empty) ∷ [])

trees_front : (done : List Tm) (rs : List Row) (i : ℕ) → i < length done → get_or (trees done rs) i Empty ≡ get_or done i Empty
unfolding trees pushed
trees_front done [] i h = refl
trees_front done (r ∷ rs) i h =
    let l : length (pushed done r) ≡ length done + 1 = length_push done (node (length done) r.op (λ i. get_or done i Empty)) in
    trees_front (pushed done r) rs i (omega arith) ∙ get_or-append done (node (length done) r.op (λ i. get_or done i Empty) ∷ []) Empty i h

trees_at : (done : List Tm) (rs : List Row) (j n : ℕ) → n ≡ length done + j → (o : Op) (k : ℕ) → RowIs rs j o k → Smaller n o → get_or (trees done rs) n Empty ≡ node n o (λ i. get_or (trees done rs) i Empty)
unfolding trees pushed
trees_at done [] j n e o k h s = absurd cc
trees_at done (r ∷ rs) zero n e o k h s =
    let en : n ≡ length done = omega arith in
    let x : Tm = node (length done) r.op (λ i. get_or done i Empty) in
    let l : length (pushed done r) ≡ length done + 1 = length_push done x in
    let er : r ≡ record { op = o; arity = k } = some-injective _ _ h in
    cc (
      trees_front (pushed done r) rs n (omega arith),
      get_or_push done x Empty n (sym en),
      node_same n o (λ i. get_or done i Empty) (λ i. get_or (trees done (r ∷ rs)) i Empty) s (λ i hi. sym (trees_front done (r ∷ rs) i (omega arith))),
    )
trees_at done (r ∷ rs) (suc j) n e o k h s =
    let x : Tm = node (length done) r.op (λ i. get_or done i Empty) in
    let l : length (pushed done r) ≡ length done + 1 = length_push done x in
    trees_at (pushed done r) rs j n (omega arith) o k h s

pub term_node : (rs : List Row) (t : ℕ) (o : Op) (k : ℕ) → RowIs rs t o k → Smaller t o → term rs t ≡ node t o (term rs)
unfolding term
term_node rs t o k h s = trees_at [] rs t t (omega arith) o k h s
