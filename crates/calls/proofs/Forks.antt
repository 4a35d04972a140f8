-- Forks are read the same, and fit the same, over facts with the front that they were made on (`forks_same`,
-- `stack_moved`); the latest fork of a stack fits, over a stack of the others (`top`).
use Rattle.std.proofs.Common.{◌≡◌, ℕ, zero, suc, ◌+◌, ◌-◌, ◌<◌, ◌≤◌, List, [], ◌∷◌, ◌++◌, map, length, take, sym, refl, ap, ◌∙◌, subst, ap₂, arith}
use Rattle.std.specs.List.{AllByRecursion}
use Rattle.std.proofs.lemmas.List.{same_from_push, length-map}
use Rattle.records.specs.declared.rows.Fact.{Fact as FactRow}
use Rattle.rules.specs.declared.outcome.Fork.{Fork as ForkRow}
use Rattle.meaning.specs.Calculus.{Fork, up_from}
use Rattle.calls.specs.Reading.{Plain}
use Rattle.calls.specs.Views.{read_fork, read_forks, ForkFits, Stacked, no_fork, over}
use Rattle.meaning.proofs.RuleFits.{run_length}
use Rattle.calls.proofs.Fronts.{front_cut, nth_cut}

-- ── lists of alternatives ──────────────────────────────────────────────────

-- functions that agree map a list to one list
pub map_same : {X Y : Type 0} (f g : X → Y) → ((i : X) → f i ≡ g i) → (l : List X) → map f l ≡ map g l
map_same f g e [] = refl
map_same f g e (i ∷ l) = ap₂ ◌∷◌ (e i) (map_same f g e l)

-- what holds of all the numbered holds of each
pub all_from :
    {X : Type 0} (Q : X → Type 0) (g : ℕ → X) (i c j : ℕ) → AllByRecursion Q (map g (up_from i c)) → j < c → Q (g (i + j))
all_from Q g i zero j h l = absurd (omega arith)
all_from Q g i (suc c) zero h l = let e : i ≡ i + 0 = omega arith in subst (λ (k : ℕ). Q (g k)) e h.0
all_from Q g i (suc c) (suc j) h l =
    let e : i + 1 + j ≡ i + suc j = omega arith in
    subst (λ (k : ℕ). Q (g k)) e (all_from Q g (i + 1) c j h.1 (omega arith))

-- from 0 on
pub all_at_number :
    {X : Type 0} (Q : X → Type 0) (g : ℕ → X) (c j : ℕ) → AllByRecursion Q (map g (up_from 0 c)) → j < c → Q (g j)
all_at_number Q g c j h l =
    let e : 0 + j ≡ j = omega arith in subst (λ (k : ℕ). Q (g k)) e (all_from Q g 0 c j h l)

-- how many there are
pub count_from : {X : Type 0} (g : ℕ → X) (i c : ℕ) → length (map g (up_from i c)) ≡ c
count_from g i c = length-map (up_from i c) g ∙ run_length i c

-- the rest of the alternatives, where some are left and where none is
pub more_from : (i c : ℕ) → i < c → up_from i (c - i) ≡ i ∷ up_from (i + 1) (c - (i + 1))
more_from i c l = let e : c - i ≡ suc (c - (i + 1)) = omega arith in ap (up_from i) e

pub none_from : (i c : ℕ) → c ≤ i → up_from i (c - i) ≡ []
none_from i c l = let e : c - i ≡ 0 = omega arith in ap (up_from i) e

-- ── forks ──────────────────────────────────────────────────────────────────

module _ (P : Plain) where
  -- the latest fork is read first
  pub forks_more :
      (facts : List FactRow) (fs : List ForkRow) (f : ForkRow) (read : List Fork) →
      read_forks P facts (fs ++ (f ∷ [])) read ≡ read_fork P facts f ∷ read_forks P facts fs read
  forks_more facts [] f read = refl
  forks_more facts (g ∷ fs) f read = forks_more facts fs f (read_fork P facts g ∷ read)

  -- as many are read as there are
  pub forks_count :
      (facts : List FactRow) (fs : List ForkRow) (read : List Fork) →
      length (read_forks P facts fs read) ≡ length fs + length read
  forks_count facts [] read = omega arith
  forks_count facts (f ∷ fs) read = let e = forks_count facts fs (read_fork P facts f ∷ read) in omega arith

  module _ (c : ℕ) where
    pub fork_same :
        (cs ds : List FactRow) (m : ℕ) (f : ForkRow) → ForkFits P cs c m f → take m cs ≡ take m ds →
        read_fork P cs f ≡ read_fork P ds f
    fork_same cs ds m f h e =
        let en = front_cut cs ds f.facts m h.front e in
        let ep = nth_cut cs ds f.facts f.p h.cites_below en in
        cc

    pub forks_same :
        (cs ds : List FactRow) (m : ℕ) (fs : List ForkRow) (read : List Fork) → Stacked P cs c m fs →
        take m cs ≡ take m ds → read_forks P cs fs read ≡ read_forks P ds fs read
    forks_same cs ds m fs read no_fork e = refl
    forks_same cs ds m fs read (over gs f q rest fit) e =
        cc (
          forks_more cs gs f read,
          forks_more ds gs f read,
          fork_same cs ds m f fit e,
          forks_same cs ds f.facts gs read rest (front_cut cs ds f.facts m fit.front e),
        )

    pub fits_moved :
        (cs ds : List FactRow) (m m' : ℕ) (f : ForkRow) → f.facts ≤ m' → take m cs ≡ take m ds →
        ForkFits P cs c m f → ForkFits P ds c m' f
    fits_moved cs ds m m' f l e h =
        let en = front_cut cs ds f.facts m h.front e in
        let ep = nth_cut cs ds f.facts f.p h.cites_below en in
        search (rw ep at h.names_fit, rw ep at h.facts_fit, rw (en, ep) at h.fair)

    pub stack_moved :
        (cs ds : List FactRow) (m m' : ℕ) (fs : List ForkRow) → m ≤ m' → take m cs ≡ take m ds →
        Stacked P cs c m fs → Stacked P ds c m' fs
    stack_moved cs ds m m' fs l e no_fork = no_fork
    stack_moved cs ds m m' fs l e (over gs f q rest fit) =
        let hf : f.facts ≤ m = fit.front in
        over gs f q
        (stack_moved cs ds f.facts f.facts gs (omega arith) (front_cut cs ds f.facts m hf e) rest)
        (fits_moved cs ds m m' f (omega arith) e fit)

    -- the latest fork of a stack
    abbrev Top : List FactRow → ℕ → List ForkRow → ForkRow → Type 0
    Top facts m gs f = Stacked P facts c f.facts gs × ForkFits P facts c m f

    pub top :
        (facts : List FactRow) (m : ℕ) (fs gs : List ForkRow) (f : ForkRow) → fs ≡ gs ++ (f ∷ []) →
        Stacked P facts c m fs → Stacked P facts c f.facts gs × ForkFits P facts c m f
    top facts m fs [] f e no_fork = absurd (let q = ap length e in omega arith)
    top facts m fs (g ∷ gs) f e no_fork = absurd (let q = ap length e in omega arith)
    top facts m fs gs f e (over gs' f' q rest fit) =
        let r = same_from_push gs' gs f' f (sym q ∙ e) in
        subst (λ (z : ForkRow). Top facts m gs z) r.1
        (subst (λ (z : List ForkRow). Stacked P facts c f'.facts z) r.0 rest, fit)
