-- What a trail keeps.
use Rattle.std.specs.Prelude.{List, take}
use Rattle.stores.specs.declared.trail.Trail.{Trail}

-- the first entries of its slots, as many as its count
abbrev pub kept : {X : Type 0} → Trail X → List X
kept t = take t.count t.slots.now
