-- The rules' lines: which tests a line asks, how many alternatives its rule has, and what each appends.
use Rattle.std.specs.Prelude.{ℕ, ◌+◌, ◌-◌, Bool, true, false, cond, not, ◌&&◌, ◌||◌, List, [], ◌∷◌, length, Some, None, Option, ◌==◌, nat_le, nat_lt}
use Rattle.records.specs.declared.rows.Fact.{Fact}
use Rattle.records.specs.declared.rule.Rule.{Rule}
use Rattle.records.specs.declared.rule.Rule.TheVariants.{
  InterUp,
  InterDown,
  UnionUp,
  UnionDown,
  DiffUp,
  DiffDown,
  SingleUp,
  SingleDown,
  EmptyUnsat,
  SetDiseq,
  EqUnsat,
  TranspUp,
  TranspDown,
  JoinUp,
  JoinDown,
  ProdUp,
  ProdDown,
  ClosUpOne,
  ClosUpTwo,
  ClosDown,
  Sym,
  SwapName,
  SwapTerm,
  LabelUnsat,
  LabelSame,
}
use Rattle.rules.specs.declared.cited.Cited.{Cited}
use Rattle.rules.specs.declared.cited.Alt.{Alt}
use Rattle.rules.specs.declared.cited.Facts.{Facts}
use Rattle.rules.specs.declared.cited.Facts.TheVariants as facts
use Rattle.records.specs.Tuples.{equal_names, reversed, joined, rest_from, name_at, name_put}
use Rattle.records.specs.Tuples.{fresh_names, before_all, pair_of}
use Rattle.rules.specs.Facts.{is_in, is_eq, is_same, fact_names, row_names, in_fact, eq_fact, same_fact}
use Rattle.rules.specs.Facts.{equal_facts, no_alt, one_of, two_of, equalities_of}

-- whether two truth values are the same
abbrev pub same_bool : Bool → Bool → Bool
same_bool true b = b
same_bool false true = false
same_bool false false = true

-- whether the labels were found, and compared so
abbrev pub labels_are : Option Bool → Bool → Bool
labels_are (Some b) s = same_bool b s
labels_are None s = false

-- whether b and all that come after it hold, with no test after the last
abbrev pub all_from : Bool → List Bool → Bool
all_from b [] = b
all_from b (c ∷ bs) = b && all_from c bs

-- whether all tests hold
abbrev pub all_of : List Bool → Bool
all_of [] = true
all_of (b ∷ bs) = all_from b bs

-- ── the lines ──────────────────────────────────────────────────────────────

-- the fact says that a name, or a term, is not equal to itself
abbrev pub self_unequal : Fact → Bool
self_unequal f =
    (not f.positive && (f.form == 2 && f.a == f.b)) ||
    (not f.positive && (f.form == 3 && f.term == f.a))

-- the fact is positive, and the second is its exact negation
abbrev pub negated_by : Fact → Fact → Bool
negated_by f g = f.positive && (not g.positive && equal_facts f g)

-- w is a place of the fact: of its tuple, with the arity k, or of its two names
abbrev pub has_place : ℕ → ℕ → Fact → Bool
has_place w k f = (f.form == 1 && nat_lt w k) || (f.form == 2 && nat_lt w 2)

-- term s stands in the fact at side w: 0 is its term, 1 the second of two terms
abbrev pub has_side : ℕ → ℕ → Fact → Bool
has_side w s f =
    (w == 0 && ((f.form == 1 || f.form == 3) && f.term == s)) ||
    (w == 1 && (f.form == 3 && f.a == s))

-- what a rule's line asks, in order; term operations go by their numbers, 1 empty to 9 closure
abbrev pub tests_of : Rule → Cited → List Bool
tests_of InterUp c =
    is_in c.p ∷ is_in c.q ∷ equal_names (fact_names c.p) (fact_names c.q) ∷
    (c.of_t.op == 4) ∷ (c.of_t.a == c.p.term) ∷ (c.of_t.b == c.q.term) ∷ []
tests_of InterDown c = is_in c.p ∷ (c.of_p.op == 4) ∷ []
tests_of UnionUp c =
    is_in c.p ∷ (c.of_t.op == 3) ∷
    (c.of_t.a == c.p.term || c.of_t.b == c.p.term) ∷ []
tests_of UnionDown c = is_in c.p ∷ (c.of_p.op == 3) ∷ []
tests_of DiffUp c = is_in c.p ∷ (c.of_t.op == 5) ∷ (c.of_t.a == c.p.term) ∷ []
tests_of DiffDown c = is_in c.p ∷ (c.of_p.op == 5) ∷ []
tests_of SingleUp c = (c.of_t.op == 2) ∷ []
tests_of SingleDown c = is_in c.p ∷ (c.of_p.op == 2) ∷ []
tests_of EmptyUnsat c = is_in c.p ∷ (c.of_p.op == 1) ∷ []
tests_of SetDiseq c = (c.p.form == 3) ∷ not c.p.positive ∷ []
tests_of EqUnsat c = ((c.one && self_unequal c.p) || negated_by c.p c.q) ∷ []
tests_of TranspUp c = is_in c.p ∷ (c.of_t.op == 6) ∷ (c.of_t.a == c.p.term) ∷ []
tests_of TranspDown c = is_in c.p ∷ (c.of_p.op == 6) ∷ []
tests_of JoinUp c =
    is_in c.p ∷ is_in c.q ∷
    (c.of_t.op == 8) ∷ (c.of_t.a == c.p.term) ∷ (c.of_t.b == c.q.term) ∷
    nat_le 1 c.of_p.arity ∷ (name_at (c.of_p.arity - 1) (fact_names c.p) == c.q.a) ∷ []
tests_of JoinDown c = is_in c.p ∷ (c.of_p.op == 8) ∷ nat_le 1 c.left ∷ []
tests_of ProdUp c =
    is_in c.p ∷ is_in c.q ∷
    (c.of_t.op == 7) ∷ (c.of_t.a == c.p.term) ∷ (c.of_t.b == c.q.term) ∷ []
tests_of ProdDown c = is_in c.p ∷ (c.of_p.op == 7) ∷ []
tests_of ClosUpOne c = is_in c.p ∷ (c.of_t.op == 9) ∷ (c.of_t.a == c.p.term) ∷ []
tests_of ClosUpTwo c =
    is_in c.p ∷ is_in c.q ∷ (c.p.term == c.q.term) ∷
    (c.of_p.op == 9) ∷ (c.p.b == c.q.a) ∷ []
tests_of ClosDown c = is_in c.p ∷ (c.of_p.op == 9) ∷ []
tests_of Sym c = (c.p.form == 2 || c.p.form == 3) ∷ []
tests_of SwapName c =
    is_eq c.q ∷ has_place c.w c.of_p.arity c.p ∷
    (name_at c.w (fact_names c.p) == c.q.a) ∷ []
tests_of SwapTerm c = is_same c.q ∷ has_side c.w c.q.term c.p ∷ []
tests_of LabelUnsat c = is_eq c.p ∷ labels_are c.labels false ∷ []
tests_of LabelSame c = labels_are c.labels true ∷ []

-- whether the rule's line is met
abbrev pub line_met : Rule → Cited → Bool
line_met r c = all_of (tests_of r c)

-- ── the alternatives ───────────────────────────────────────────────────────

-- how many alternatives a rule has; one that has none closes the branch
abbrev pub alternatives_of : Rule → ℕ
alternatives_of InterUp = 1
alternatives_of InterDown = 1
alternatives_of UnionUp = 1
alternatives_of UnionDown = 2
alternatives_of DiffUp = 2
alternatives_of DiffDown = 1
alternatives_of SingleUp = 1
alternatives_of SingleDown = 1
alternatives_of EmptyUnsat = 0
alternatives_of SetDiseq = 2
alternatives_of EqUnsat = 0
alternatives_of TranspUp = 1
alternatives_of TranspDown = 1
alternatives_of JoinUp = 1
alternatives_of JoinDown = 1
alternatives_of ProdUp = 1
alternatives_of ProdDown = 1
alternatives_of ClosUpOne = 1
alternatives_of ClosUpTwo = 1
alternatives_of ClosDown = 3
alternatives_of Sym = 1
alternatives_of SwapName = 1
alternatives_of SwapTerm = 1
alternatives_of LabelUnsat = 0
alternatives_of LabelSame = 1

-- alternative k of a rule on a branch with n names; past the last one it is the last again
abbrev pub alternative_of : Rule → Cited → ℕ → ℕ → Alt
alternative_of InterUp c n k = one_of (in_fact true (fact_names c.p) c.t)
alternative_of InterDown c n k =
    two_of 0 (in_fact true (fact_names c.p) c.of_p.a) (in_fact true (fact_names c.p) c.of_p.b)
alternative_of UnionUp c n k = one_of (in_fact true (fact_names c.p) c.t)
alternative_of UnionDown c n k =
    cond (k == 0)
    (one_of (in_fact true (fact_names c.p) c.of_p.a))
    (one_of (in_fact true (fact_names c.p) c.of_p.b))
alternative_of DiffUp c n k =
    cond (k == 0)
    (one_of (in_fact true (fact_names c.p) c.of_t.b))
    (one_of (in_fact true (fact_names c.p) c.t))
alternative_of DiffDown c n k =
    two_of 0 (in_fact true (fact_names c.p) c.of_p.a) (in_fact false (fact_names c.p) c.of_p.b)
alternative_of SingleUp c n k = one_of (in_fact true (row_names c.of_t) c.t)
alternative_of SingleDown c n k = equalities_of c.of_p.arity (fact_names c.p) (row_names c.of_p)
alternative_of EmptyUnsat c n k = no_alt
alternative_of SetDiseq c n k =
    cond (k == 0)
    (two_of c.of_p.arity
    (in_fact true (fresh_names c.of_p.arity n) c.p.term)
    (in_fact false (fresh_names c.of_p.arity n) c.p.a))
    (two_of c.of_p.arity
    (in_fact false (fresh_names c.of_p.arity n) c.p.term)
    (in_fact true (fresh_names c.of_p.arity n) c.p.a))
alternative_of EqUnsat c n k = no_alt
alternative_of TranspUp c n k = one_of (in_fact true (reversed c.of_p.arity (fact_names c.p)) c.t)
alternative_of TranspDown c n k =
    one_of (in_fact true (reversed c.of_p.arity (fact_names c.p)) c.of_p.a)
alternative_of JoinUp c n k =
    one_of
    (in_fact true (joined (c.of_p.arity - 1) (fact_names c.p) (rest_from 1 (fact_names c.q))) c.t)
alternative_of JoinDown c n k =
    two_of 1
    (in_fact true (joined (c.left - 1) (fact_names c.p) (pair_of n 0)) c.of_p.a)
    (in_fact true (before_all n (rest_from (c.left - 1) (fact_names c.p))) c.of_p.b)
alternative_of ProdUp c n k =
    one_of (in_fact true (joined c.of_p.arity (fact_names c.p) (fact_names c.q)) c.t)
alternative_of ProdDown c n k =
    two_of 0
    (in_fact true (joined c.left (fact_names c.p) (pair_of 0 0)) c.of_p.a)
    (in_fact true (rest_from c.left (fact_names c.p)) c.of_p.b)
alternative_of ClosUpOne c n k = one_of (in_fact true (fact_names c.p) c.t)
alternative_of ClosUpTwo c n k = one_of (in_fact true (pair_of c.p.a c.q.b) c.p.term)
alternative_of ClosDown c n k =
    cond (k == 0) (one_of (in_fact true (fact_names c.p) c.of_p.a))
    (cond (k == 1)
    (two_of 1
    (in_fact true (pair_of c.p.a n) c.of_p.a)
    (in_fact true (pair_of n c.p.b) c.of_p.a))
    (record {
      fresh = 2;
      facts =
          facts.Four
          (in_fact true (pair_of c.p.a n) c.of_p.a)
          (in_fact true (pair_of n (n + 1)) c.p.term)
          (in_fact true (pair_of (n + 1) c.p.b) c.of_p.a)
          (eq_fact false n (n + 1));
    }))
alternative_of Sym c n k =
    cond (c.p.form == 2)
    (one_of (eq_fact c.p.positive c.p.b c.p.a))
    (one_of (same_fact c.p.positive c.p.a c.p.term))
alternative_of SwapName c n k =
    let v = name_put c.w (fact_names c.p) c.q.b in
    cond (c.p.form == 1)
    (one_of (in_fact c.p.positive v c.p.term))
    (one_of (eq_fact c.p.positive v.a v.b))
alternative_of SwapTerm c n k =
    cond (c.p.form == 1) (one_of (in_fact c.p.positive (fact_names c.p) c.q.a))
    (cond (c.w == 0)
    (one_of (same_fact c.p.positive c.q.a c.p.a))
    (one_of (same_fact c.p.positive c.p.term c.q.a)))
alternative_of LabelUnsat c n k = no_alt
alternative_of LabelSame c n k = one_of (eq_fact true c.t c.w)

-- the facts that an alternative appends, in order
abbrev pub in_order : Facts → List Fact
in_order facts.Empty = []
in_order (facts.One f) = f ∷ []
in_order (facts.Two f g) = f ∷ g ∷ []
in_order (facts.Three f g h) = f ∷ g ∷ h ∷ []
in_order (facts.Four f g h i) = f ∷ g ∷ h ∷ i ∷ []

abbrev pub facts_of : Alt → List Fact
facts_of x = in_order x.facts

-- how many these are
abbrev pub size_of : Alt → ℕ
size_of x = length (facts_of x)
