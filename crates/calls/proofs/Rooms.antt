-- A rule step has room exactly where its alternatives, as rows, fit the limits (`has_room`, `room_names`,
-- `room_facts`, `room_forks`).
use Rattle.std.proofs.Common.{◌≡◌, ℕ, ◌+◌, ◌<◌, ◌≤◌, ◌↔◌, List, [], ◌∷◌, map, length, sym, ◌∙◌, subst, ap₂, arith, length-append}
use lib.ListN.{length-map}
use Rattle.std.specs.List.{AllByRecursion}
use Rattle.std.proofs.ByRecursion.{All-weaker}
use Rattle.records.specs.declared.rows.Fact.{Fact as FactRow}
use Rattle.records.specs.declared.rule.Rule.{Rule as RuleName}
use Rattle.rules.specs.declared.cited.Cited.{Cited}
use Rattle.rules.specs.declared.cited.Alt.{Alt as AltRow}
use Rattle.rules.specs.declared.outcome.Fork.{Fork as ForkRow}
use Rattle.rules.specs.Rules.{alternative_of, alternatives_of}
use Rattle.meaning.specs.Calculus.{Alt, extend}
use Rattle.meaning.specs.Mixes.{Room, most_names, most_facts}
use Rattle.calls.specs.Reading.{Plain, read_fact, read_alt, alt_facts}
use Rattle.calls.specs.Passing.{alt_rows}
use Rattle.calls.specs.Bridge.{read_branch}
use Rattle.calls.specs.Views.{read_forks}
use Rattle.calls.proofs.Forks.{forks_count, count_from}

-- what is said of the elements of a mapped list
all_mapped :
    {X Y : Type 0} (R : Y → Type 0) (f : X → Y) (l : List X) →
    AllByRecursion R (map f l) ↔ AllByRecursion (λ (x : X). R (f x)) l
all_mapped R f [] = (λ h. h, λ h. h)
all_mapped R f (x ∷ l) = (λ h. (h.0, (all_mapped R f l).0 h.1), λ h. (h.0, (all_mapped R f l).1 h.1))

module _ (P : Plain) (F : List FactRow) (n : ℕ) (G : List ForkRow) (r : RuleName) (q : Cited) where
  -- the alternatives, read
  abbrev alts : List Alt
  alts = map (read_alt P.rows) (alt_rows r q n)

  -- the facts after an alternative
  reach :
      (a : AltRow) →
      length (extend (read_branch P F n) (read_alt P.rows a)).facts ≡ length F + length (alt_facts a)
  reach a =
      length-append (map (read_fact P.rows) F) (map (read_fact P.rows) (alt_facts a))
      ∙ ap₂ ◌+◌ (length-map F (read_fact P.rows)) (length-map (alt_facts a) (read_fact P.rows))

  -- how many alternatives there are
  many : length alts ≡ alternatives_of r
  many = length-map (alt_rows r q n) (read_alt P.rows) ∙ count_from (alternative_of r q n) 0 (alternatives_of r)

  -- how many forks there are
  length-read_forks : length (read_forks P F G []) ≡ length G
  length-read_forks = let e = forks_count P F G [] in omega arith

  -- the names and the facts of each alternative, as rows and as read
  names_mapped :
      AllByRecursion (λ (a : Alt). (extend (read_branch P F n) a).count ≤ most_names) alts
      ↔ AllByRecursion (λ (a : AltRow). n + a.fresh ≤ 64) (alt_rows r q n)
  names_mapped = all_mapped _ (read_alt P.rows) (alt_rows r q n)

  facts_mapped :
      AllByRecursion (λ (a : Alt). length (extend (read_branch P F n) a).facts ≤ most_facts) alts
      ↔ AllByRecursion (λ (a : AltRow). length F + length (alt_facts a) ≤ 1024) (alt_rows r q n)
  facts_mapped =
      let m = all_mapped _ (read_alt P.rows) (alt_rows r q n) in (
        λ h. All-weaker _ _ (λ a l. omega (arith, reach a)) (alt_rows r q n) (m.0 h),
        λ h. m.1 (All-weaker _ _ (λ a l. omega (arith, reach a)) (alt_rows r q n) h),
      )

  pub has_room :
      AllByRecursion (λ (a : AltRow). n + a.fresh ≤ 64) (alt_rows r q n) →
      AllByRecursion (λ (a : AltRow). length F + length (alt_facts a) ≤ 1024) (alt_rows r q n) →
      (2 ≤ alternatives_of r → length G < 64) → Room (read_branch P F n) (read_forks P F G []) alts
  has_room names facts forks = record {
    names_fit = names_mapped.1 names;
    facts_fit = facts_mapped.1 facts;
    forks_fit =
        λ l. subst (λ (k : ℕ). k < 64) (sym length-read_forks) (forks (subst (λ (k : ℕ). 2 ≤ k) many l));
  }

  pub room_names :
      Room (read_branch P F n) (read_forks P F G []) alts → AllByRecursion (λ (a : AltRow). n + a.fresh ≤ 64) (alt_rows r q n)
  room_names h = names_mapped.0 h.names_fit

  pub room_facts :
      Room (read_branch P F n) (read_forks P F G []) alts →
      AllByRecursion (λ (a : AltRow). length F + length (alt_facts a) ≤ 1024) (alt_rows r q n)
  room_facts h = facts_mapped.0 h.facts_fit

  pub room_forks :
      Room (read_branch P F n) (read_forks P F G []) alts → 2 ≤ alternatives_of r → length G < 64
  room_forks h l =
      subst (λ (k : ℕ). k < 64) length-read_forks (h.forks_fit (subst (λ (k : ℕ). 2 ≤ k) (sym many) l))
