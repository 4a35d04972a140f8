-- What tuples of names make: turned, one behind the other, joined.
use Rattle.std.specs.Prelude.{ℕ, ◌-◌, cond, Some, None, Option, ◌==◌}
use Rattle.records.specs.Tuples.{names, joined, rest_from, name_at}
use Rattle.records.specs.declared.tuple.Tuple.{Tuple}

-- A tuple of arity p the other way round; one of another arity than 1 to 4 stays as it is.
abbrev pub reversed : ℕ → Tuple → Tuple
reversed p x =
    cond (p == 2) (names x.b x.a 0 0)
    (cond (p == 3) (names x.c x.b x.a 0)
    (cond (p == 4) (names x.d x.c x.b x.a) x))

-- What tuples make: one of arity p turned,
abbrev pub turning : ℕ → Tuple → Option Tuple
turning p y = Some (reversed p y)

-- one behind x, of arity p,
abbrev pub following : ℕ → Tuple → Tuple → Option Tuple
following p x y = Some (joined p x y)

-- and one joined to x: x of arity p ends with the name that y begins with, which both then lose.
abbrev pub joining : ℕ → Tuple → Tuple → Option Tuple
joining p x y =
    cond (name_at (p - 1) x == y.a) (Some (joined (p - 1) x (rest_from 1 y))) None

-- The step of a closure: the join of two pairs, where they fit.
abbrev pub linked : Tuple → Tuple → Option Tuple
linked x y = joining 2 x y
