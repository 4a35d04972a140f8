-- Tuples of up to four names in four fields, where places past the arity are zero.
use Rattle.std.specs.Prelude.{ℕ, ◌+◌, Bool, cond, ◌&&◌, ◌==◌}
use Rattle.records.specs.declared.tuple.Tuple.{Tuple}

-- the tuple with these four places
abbrev pub names : ℕ → ℕ → ℕ → ℕ → Tuple
names x y z v = record { a = x; b = y; c = z; d = v }

-- a pair, or a single name before a zero
abbrev pub pair_of : ℕ → ℕ → Tuple
pair_of x y = names x y 0 0

-- whether all four places agree
abbrev pub equal_names : Tuple → Tuple → Bool
equal_names u v = u.a == v.a && (u.b == v.b && (u.c == v.c && u.d == v.d))

-- a tuple of arity k the other way round
abbrev pub reversed : ℕ → Tuple → Tuple
reversed k u =
    cond (k == 1) u
    (cond (k == 2) (names u.b u.a 0 0)
    (cond (k == 3) (names u.c u.b u.a 0)
    (names u.d u.c u.b u.a)))

-- the first i names of u, and after them those of v
abbrev pub joined : ℕ → Tuple → Tuple → Tuple
joined i u v =
    cond (i == 0) v
    (cond (i == 1) (names u.a v.a v.b v.c)
    (cond (i == 2) (names u.a u.b v.a v.b)
    (cond (i == 3) (names u.a u.b u.c v.a) u)))

-- the names of u from place i on
abbrev pub rest_from : ℕ → Tuple → Tuple
rest_from i u =
    cond (i == 0) u
    (cond (i == 1) (names u.b u.c u.d 0)
    (cond (i == 2) (names u.c u.d 0 0)
    (cond (i == 3) (names u.d 0 0 0) (names 0 0 0 0))))

-- the name at place w
abbrev pub name_at : ℕ → Tuple → ℕ
name_at w u = cond (w == 0) u.a (cond (w == 1) u.b (cond (w == 2) u.c u.d))

-- u with the name e at place w
abbrev pub name_put : ℕ → Tuple → ℕ → Tuple
name_put w u e =
    cond (w == 0) (names e u.b u.c u.d)
    (cond (w == 1) (names u.a e u.c u.d)
    (cond (w == 2) (names u.a u.b e u.d)
    (names u.a u.b u.c e)))

-- k fresh names from n on
abbrev pub fresh_names : ℕ → ℕ → Tuple
fresh_names k n =
    cond (k == 1) (names n 0 0 0)
    (cond (k == 2) (names n (n + 1) 0 0)
    (cond (k == 3) (names n (n + 1) (n + 2) 0)
    (names n (n + 1) (n + 2) (n + 3))))

-- the name e before those of u
abbrev pub before_all : ℕ → Tuple → Tuple
before_all e u = names e u.a u.b u.c
