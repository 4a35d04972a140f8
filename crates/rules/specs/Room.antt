-- Whether the alternatives of a step fit: at most 64 names and 1,024 facts after each.
use Rattle.std.specs.Prelude.{ℕ, ◌+◌, Bool, ◌||◌, nat_lt}
use Rattle.records.specs.declared.rule.Rule.{Rule}
use Rattle.rules.specs.declared.cited.Cited.{Cited}
use Rattle.rules.specs.declared.cited.Alt.{Alt}
use Rattle.rules.specs.declared.cited.Grown.{Grown}
use Rattle.rules.specs.Rules.{alternative_of, size_of}

-- on n names, alternative 0, 1 or 2 has more than 64 names
abbrev pub names_over : Rule → Cited → ℕ → Bool
names_over r c n =
    nat_lt 64 (n + (alternative_of r c n 0).fresh) ||
    (nat_lt 64 (n + (alternative_of r c n 1).fresh) ||
    nat_lt 64 (n + (alternative_of r c n 2).fresh))

-- on n names and m facts, alternative 0, 1 or 2 has more than 1,024 facts
abbrev pub facts_over : Rule → Cited → ℕ → ℕ → Bool
facts_over r c n m =
    nat_lt 1024 (m + size_of (alternative_of r c n 0)) ||
    (nat_lt 1024 (m + size_of (alternative_of r c n 1)) ||
    nat_lt 1024 (m + size_of (alternative_of r c n 2)))

-- an alternative to append to m facts and n names, with the counts after it
abbrev pub grown : ℕ → ℕ → Alt → Grown
grown m n a = record { at = m; alt = a; facts = m + size_of a; names = n + a.fresh }
