-- The tests of a term row and of a constraint row, in the order in which the code makes them.
use Rattle.std.specs.Prelude.{ℕ, ◌+◌, Bool, false, cond, ◌&&◌, List, [], ◌∷◌, length, ◌==◌, nat_le, nat_lt}
use Rattle.records.specs.declared.rows.Fact.{Fact as FactRow}
use Rattle.records.specs.declared.rows.TermRow.{TermRow}
use Rattle.records.specs.declared.tuple.Tuple.{Tuple}
use Rattle.rules.specs.Facts.{fact_names, row_names}
use Rattle.rules.specs.Rules.{all_of}
use Rattle.rules.specs.Looked.{row_at}

-- Place i of a tuple of arity k holds a name below n, or zero past the arity.
abbrev pub place_ok : ℕ → ℕ → ℕ → ℕ → Bool
place_ok n k i e = cond (nat_lt i k) (nat_lt e n) (e == 0)

-- All four places do.
abbrev pub places : ℕ → ℕ → Tuple → List Bool
places n k u =
    place_ok n k 0 u.a ∷ place_ok n k 1 u.b ∷ place_ok n k 2 u.c ∷ place_ok n k 3 u.d ∷ []

-- ── a constraint row ───────────────────────────────────────────────────────

-- A member: of m terms, with n names, where its term has the arity k.
abbrev pub in_tests : ℕ → ℕ → ℕ → FactRow → List Bool
in_tests m n k f = nat_lt f.term m ∷ places n k (fact_names f)

-- Equal names.
abbrev pub eq_tests : ℕ → FactRow → List Bool
eq_tests n f = (f.term == 0) ∷ nat_lt f.a n ∷ nat_lt f.b n ∷ (f.c == 0) ∷ (f.d == 0) ∷ []

-- Equal terms, of the arities k and l.
abbrev pub same_tests : ℕ → ℕ → ℕ → FactRow → List Bool
same_tests m k l f =
    nat_lt f.term m ∷ nat_lt f.a m ∷ (k == l) ∷ (f.b == 0) ∷ (f.c == 0) ∷ (f.d == 0) ∷ []

-- A fact of m terms and n names passes; k and l are the arities of the terms numbered by its term byte and by
-- its first name byte.
abbrev pub fact_tested : ℕ → ℕ → ℕ → ℕ → FactRow → Bool
fact_tested m n k l f =
    cond (f.form == 1) (all_of (in_tests m n k f))
    (cond (f.form == 2) (all_of (eq_tests n f))
    (cond (f.form == 3) (all_of (same_tests m k l f)) false))

-- A fact passes over these rows.
abbrev pub fact_ok : List TermRow → ℕ → FactRow → Bool
fact_ok rows n f =
    fact_tested (length rows) n (row_at rows f.term).arity (row_at rows f.a).arity f

-- ── a term row ─────────────────────────────────────────────────────────────

-- No operand: all four bytes are zero.
abbrev pub none_tests : TermRow → List Bool
none_tests r = (r.a == 0) ∷ (r.b == 0) ∷ (r.c == 0) ∷ (r.d == 0) ∷ []

-- Two operands below t, of the row's own arity.
abbrev pub alike_tests : ℕ → ℕ → ℕ → TermRow → List Bool
alike_tests t x y r =
    nat_lt r.a t ∷ (x == r.arity) ∷ nat_lt r.b t ∷ (y == r.arity) ∷ (r.c == 0) ∷ (r.d == 0) ∷ []

-- One operand below t, of the row's own arity.
abbrev pub transp_tests : ℕ → ℕ → TermRow → List Bool
transp_tests t x r =
    nat_lt r.a t ∷ (x == r.arity) ∷ (r.b == 0) ∷ (r.c == 0) ∷ (r.d == 0) ∷ []

-- Two operands below t, whose arities sum up to the row's.
abbrev pub prod_tests : ℕ → ℕ → ℕ → TermRow → List Bool
prod_tests t x y r =
    nat_lt r.a t ∷ nat_lt r.b t ∷ (r.arity == x + y) ∷ (r.c == 0) ∷ (r.d == 0) ∷ []

-- Two operands below t, with a place each, whose arities sum up to the row's and 2.
abbrev pub join_tests : ℕ → ℕ → ℕ → TermRow → List Bool
join_tests t x y r =
    nat_lt r.a t ∷ nat_lt r.b t ∷ nat_lt 0 x ∷ nat_lt 0 y ∷ (r.arity + 2 == x + y) ∷
    (r.c == 0) ∷ (r.d == 0) ∷ []

-- One operand below t, of arity 2 as the row is.
abbrev pub closure_tests : ℕ → ℕ → TermRow → List Bool
closure_tests t x r =
    nat_lt r.a t ∷ (x == 2) ∷ (r.arity == 2) ∷ (r.b == 0) ∷ (r.c == 0) ∷ (r.d == 0) ∷ []

-- What the operation number o asks of row t where there are n names; x and y are the arities of the terms
-- that
-- the first two operands number.
abbrev pub row_tests : ℕ → ℕ → ℕ → ℕ → TermRow → ℕ → List Bool
row_tests n t x y r o =
    cond (o == 0) (none_tests r)
    (cond (o == 1) (none_tests r)
    (cond (o == 2) (places n r.arity (row_names r))
    (cond (o == 3) (alike_tests t x y r)
    (cond (o == 4) (alike_tests t x y r)
    (cond (o == 5) (alike_tests t x y r)
    (cond (o == 6) (transp_tests t x r)
    (cond (o == 7) (prod_tests t x y r)
    (cond (o == 8) (join_tests t x y r)
    (cond (o == 9) (closure_tests t x r) (false ∷ []))))))))))

-- Row t passes: its arity is 1 to 4, and its operation's tests hold.
abbrev pub row_tested : ℕ → ℕ → ℕ → ℕ → TermRow → Bool
row_tested n t x y r = nat_le 1 r.arity && (nat_le r.arity 4 && all_of (row_tests n t x y r r.op))

-- Row t passes over these rows.
abbrev pub row_ok : List TermRow → ℕ → ℕ → TermRow → Bool
row_ok rows n t r = row_tested n t (row_at rows r.a).arity (row_at rows r.b).arity r
