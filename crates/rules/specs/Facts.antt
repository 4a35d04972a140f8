-- Facts told by their form, taken apart and made, and the alternatives that one or more of them are.
use Rattle.std.specs.Prelude.{ℕ, Bool, true, false, cond, ◌&&◌, ◌==◌}
use Rattle.records.specs.declared.rows.Fact.{Fact}
use Rattle.records.specs.declared.rows.TermRow.{TermRow}
use Rattle.records.specs.declared.tuple.Tuple.{Tuple}
use Rattle.rules.specs.declared.cited.Alt.{Alt}
use Rattle.rules.specs.declared.cited.Facts.{Facts}
use Rattle.rules.specs.declared.cited.Facts.TheVariants as facts
use Rattle.records.specs.Tuples.{names, equal_names}

-- a positive fact that a tuple is in a term
abbrev pub is_in : Fact → Bool
is_in f = f.form == 1 && f.positive

-- a positive equality of names
abbrev pub is_eq : Fact → Bool
is_eq f = f.form == 2 && f.positive

-- a positive equality of terms
abbrev pub is_same : Fact → Bool
is_same f = f.form == 3 && f.positive

-- the names of a fact
abbrev pub fact_names : Fact → Tuple
fact_names f = names f.a f.b f.c f.d

-- the names of a singleton's row
abbrev pub row_names : TermRow → Tuple
row_names r = names r.a r.b r.c r.d

-- the fact that the tuple u is in term t, or is not
abbrev pub in_fact : Bool → Tuple → ℕ → Fact
in_fact g u t =
    record { form = 1; positive = g; term = t; a = u.a; b = u.b; c = u.c; d = u.d }

-- the fact that the names x and y are equal, or are not
abbrev pub eq_fact : Bool → ℕ → ℕ → Fact
eq_fact g x y = record { form = 2; positive = g; term = 0; a = x; b = y; c = 0; d = 0 }

-- the fact that the terms s and r are equal, or are not
abbrev pub same_fact : Bool → ℕ → ℕ → Fact
same_fact g s r = record { form = 3; positive = g; term = s; a = r; b = 0; c = 0; d = 0 }

-- no fact: it has no form
abbrev pub no_fact : Fact
no_fact = record { form = 0; positive = false; term = 0; a = 0; b = 0; c = 0; d = 0 }

-- no row: a variable of arity 0, which no line asks for
abbrev pub no_row : TermRow
no_row = record { op = 0; arity = 0; a = 0; b = 0; c = 0; d = 0 }

-- the same form of the same parts, whatever the signs
abbrev pub equal_facts : Fact → Fact → Bool
equal_facts f g =
    (f.form == g.form) && (f.term == g.term && equal_names (fact_names f) (fact_names g))

-- the alternative without facts
abbrev pub no_alt : Alt
no_alt = record { fresh = 0; facts = facts.Empty }

-- the alternative of one fact, without fresh names
abbrev pub one_of : Fact → Alt
one_of f = record { fresh = 0; facts = facts.One f }

-- the alternative of two facts
abbrev pub two_of : ℕ → Fact → Fact → Alt
two_of z f g = record { fresh = z; facts = facts.Two f g }

-- the names x and y are equal
abbrev pub eq_pos : ℕ → ℕ → Fact
eq_pos x y = eq_fact true x y

-- one equality for each of k places
abbrev pub equalities : ℕ → Tuple → Tuple → Facts
equalities k u v =
    cond (k == 1) (facts.One (eq_pos u.a v.a))
    (cond (k == 2) (facts.Two (eq_pos u.a v.a) (eq_pos u.b v.b))
    (cond (k == 3) (facts.Three (eq_pos u.a v.a) (eq_pos u.b v.b) (eq_pos u.c v.c))
    (facts.Four (eq_pos u.a v.a) (eq_pos u.b v.b) (eq_pos u.c v.c) (eq_pos u.d v.d))))

-- the alternative of these equalities
abbrev pub equalities_of : ℕ → Tuple → Tuple → Alt
equalities_of k u v = record { fresh = 0; facts = equalities k u v }
